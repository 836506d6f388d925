-- Where a row may be cut: beside each occurrence of a well-formed delimiter.
use Rattle.std.proofs.Common.{◌≡◌, ℕ, zero, suc, ◌+◌, ◌<◌, List, [], ◌∷◌, ◌++◌, length, take, drop, Some, IsUtf8, sym, ap, ◌∙◌, subst, arith}
use Rattle.std.specs.Str.{IsCharBoundary}
use Rattle.std.proofs.lemmas.List.{take-append-drop, drop-drop}
use Rattle.std.proofs.lemmas.Str.{IsCharBoundary-from_take, IsCharBoundary-from_drop, IsCharBoundary-start, IsCharBoundary-end}
use Rattle.text.specs.Table.{WellFormed}
use Rattle.text.proofs.Cuts.{around_part}
use Rattle.text.proofs.Std.{utf8_from_well_formed, well_formed_from_utf8}
use Rattle.search.specs.Places.{Stands}
use Rattle.search.proofs.Nearest.{part_from_stands}
use Rattle.split.specs.Occurrences.{occurrences, occurrences_back, end_after, start_before, FromLeft, FromRight}
use Rattle.split.proofs.Scans.{past_greedy, before_greedy}

-- a row, parted at a delimiter in it
parted : (d t : List ℕ) (p : ℕ) → Stands d t p → t ≡ take p t ++ (d ++ drop (p + length d) t)
parted d t p s =
    let rest = drop (length d) (drop p t) in
    sym (take-append-drop p t)
    ∙ ap (λ l. take p t ++ l) (sym (take-append-drop (length d) (drop p t)) ∙ (ap (λ l. l ++ rest) (part_from_stands d t p s) ∙ ap (λ l. d ++ l) (drop-drop (length d) p t)))

not_empty : (d : List ℕ) → 0 < length d → d ≡ [] → ⊥
not_empty d h e = omega (arith, ap length e)

pub some_is : (x y : ℕ) → Some x ≡ Some y → x ≡ y
some_is x y e = cc

module _ (d t : List ℕ) (u : IsUtf8 t) (w : WellFormed d) where
  pub sides : (p : ℕ) → Stands d t p → IsCharBoundary t p × IsCharBoundary t (p + length d)
  sides p s =
      let e = parted d t p s in
      let f = around_part (take p t) d (drop (p + length d) t) (subst WellFormed e (well_formed_from_utf8 t u)) w (not_empty d s.some) in (
        IsCharBoundary-from_take t p u (omega (arith, s.within)) (utf8_from_well_formed _ f.0),
        IsCharBoundary-from_drop t (p + length d) s.within (utf8_from_well_formed _ f.1),
      )

  past_seam : (from n s : ℕ) (ps : List ℕ) → FromLeft d t from ps → IsCharBoundary t from → end_after d from ps n ≡ Some s → IsCharBoundary t s
  past_seam from zero s ps g b e = subst (IsCharBoundary t) (some_is from s e) b
  past_seam from (suc n) s [] g b e = cc
  past_seam from (suc n) s (p ∷ ps) g b e = past_seam (p + length d) n s ps g.1 (sides p g.0.here).1 e

  before_seam : (to n s : ℕ) (ps : List ℕ) → FromRight d t to ps → IsCharBoundary t to → start_before to ps n ≡ Some s → IsCharBoundary t s
  before_seam to zero s ps g b e = subst (IsCharBoundary t) (some_is to s e) b
  before_seam to (suc n) s [] g b e = cc
  before_seam to (suc n) s (p ∷ ps) g b e = before_seam p n s ps g.1 (sides p g.0.here).0 e

  pub walked_seam : (n s : ℕ) → end_after d 0 (occurrences d t) n ≡ Some s → IsCharBoundary t s
  walked_seam n s e = past_seam 0 n s (occurrences d t) (past_greedy d t 0) (IsCharBoundary-start t u) e

  pub walked_back_seam : (n s : ℕ) → start_before (length t) (occurrences_back d t) n ≡ Some s → IsCharBoundary t s
  walked_back_seam n s e = before_seam (length t) n s (occurrences_back d t) (before_greedy d t (length t)) (IsCharBoundary-end t) e
