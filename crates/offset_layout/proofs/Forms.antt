-- Rows that are all well-formed: one of them, one more, fewer.
use Rattle.std.proofs.Common.{◌≡◌, ℕ, zero, suc, Bool, true, ◌&&◌, List, [], ◌∷◌, ◌++◌, get_or, take, None, refl, ap, ◌∙◌}
use Rattle.std.proofs.lemmas.Bool.{and_parts}
use Rattle.source.specs.Rows.{Row}
use Rattle.offset_layout.specs.Layout.{row_formed, all_formed}

both : (a b : Bool) → a ≡ true → b ≡ true → (a && b) ≡ true
both a b p q = ap (λ c. c && b) p ∙ q

pub formed_at : (rows : List Row) (i : ℕ) → all_formed rows ≡ true → row_formed (get_or rows i None) ≡ true
formed_at [] i h = refl
formed_at (row ∷ rows) zero h = (and_parts (row_formed row) (all_formed rows) h).0
formed_at (row ∷ rows) (suc i) h = formed_at rows i (and_parts (row_formed row) (all_formed rows) h).1

pub formed_push : (rows : List Row) (row : Row) → all_formed rows ≡ true → row_formed row ≡ true → all_formed (rows ++ row ∷ []) ≡ true
formed_push [] row h f = both (row_formed row) true f refl
formed_push (r ∷ rows) row h f =
    let p = and_parts (row_formed r) (all_formed rows) h in
    both (row_formed r) (all_formed (rows ++ row ∷ [])) p.0 (formed_push rows row p.1 f)

pub formed_take : (n : ℕ) (rows : List Row) → all_formed rows ≡ true → all_formed (take n rows) ≡ true
formed_take zero rows h = refl
formed_take (suc n) [] h = refl
formed_take (suc n) (r ∷ rows) h =
    let p = and_parts (row_formed r) (all_formed rows) h in
    both (row_formed r) (all_formed (take n rows)) p.0 (formed_take n rows p.1)
