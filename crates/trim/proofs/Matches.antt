-- What `trim_start_matches` and `trim_end_matches` leave, where the pattern is a test of whether a character is in the set.
use Rattle.std.proofs.Common.{◌≡◌, ℕ, ◌+◌, ◌-◌, ◌≤◌, Bool, true, List, [], ◌∷◌, ◌++◌, length, take, drop, Some, None, Option, IsUtf8, IfSome, ◌⊎◌, inl, inr, sym, refl, ap, ◌∙◌, subst, arith, length-append}
use lib.Utf8.{encode, encodes, scalar, scalars}
use Rattle.std.specs.Char.{char_set_contains}
use Rattle.std.specs.Str.{chars}
use Rattle.std.specs.Str.Pattern.{FindsPrefixBy, FindsSuffixBy, CutsPrefixes, CutsSuffixes, IsFullyTrimmed, IsTrimStartMatches, IsTrimEndMatches}
use Rattle.std.proofs.lemmas.Bool.{and_parts}
use Rattle.std.proofs.lemmas.List.{take-append-drop, append-nil, drop_all}
use Rattle.std.proofs.lemmas.Str.{IsUtf8-past_char, len_utf8_bounds}
use Rattle.trim.specs.Ends.{head_size, tail_size}
use Rattle.trim.proofs.Heads.{head_size_in, head_size_out, head_of_nothing}
use Rattle.trim.proofs.Seams.{scalars_parts}
use Rattle.trim.proofs.Tails.{tail_size_in, tail_size_out, tail_of_nothing, utf8_before_char, encodes_push}

-- a text that is not empty has a first character, and a last one
first : (text : List ℕ) → IsUtf8 text → (text ≡ []) ⊎ ((c : ℕ) × (rest : List ℕ) × (scalar c ≡ true) × (text ≡ encode c ++ rest))
first text u = go u.0 u.1.0 u.1.1
  where
    go : (cs : List ℕ) → scalars cs ≡ true → encodes cs ≡ text → (text ≡ []) ⊎ ((c : ℕ) × (rest : List ℕ) × (scalar c ≡ true) × (text ≡ encode c ++ rest))
    go [] s e = inl (sym e)
    go (c ∷ cs) s e = inr (c, encodes cs, (and_parts (scalar c) (scalars cs) s).0, sym e)

parted : (c : ℕ) (cs : List ℕ) → (ds : List ℕ) × (d : ℕ) × (c ∷ cs ≡ ds ++ d ∷ [])
parted c [] = ([], c, refl)
parted c (b ∷ cs) = let h = parted b cs in (c ∷ h.0, h.1, ap (λ xs. c ∷ xs) h.2)

last : (text : List ℕ) → IsUtf8 text → (text ≡ []) ⊎ ((c : ℕ) × (rest : List ℕ) × (scalar c ≡ true) × (text ≡ rest ++ encode c))
last text u = go u.0 u.1.0 u.1.1
  where
    go : (cs : List ℕ) → scalars cs ≡ true → encodes cs ≡ text → (text ≡ []) ⊎ ((c : ℕ) × (rest : List ℕ) × (scalar c ≡ true) × (text ≡ rest ++ encode c))
    go [] s e = inl (sym e)
    go (c ∷ cs) s e =
        let h = parted c cs in
        let t = scalars_parts h.0 (h.1 ∷ []) (ap scalars (sym h.2) ∙ s) in
        inr (h.1, encodes h.0, (and_parts (scalar h.1) true t.1).0, sym e ∙ (ap encodes h.2 ∙ encodes_push h.0 h.1))

module _ (set : List ℕ) (R : List ℕ → Option ℕ → Type 0) (finds : (s : List ℕ) (r : Option ℕ) → R s r → FindsPrefixBy (char_set_contains (chars set)) s r) where
  cut_heads : (s : List ℕ) (ns : List ℕ) (m : List ℕ) → IsUtf8 s → CutsPrefixes R s ns m → IsUtf8 m × (length m ≤ length s) × (head_size set s ≡ (length s - length m) + head_size set m)
  cut_heads s [] m u e = (subst IsUtf8 (sym e) u, omega (arith, ap length e), omega (arith, ap length e, ap (head_size set) e))
  cut_heads s (n ∷ ns) m u c =
      let h = cut_heads s ns c.0 u c.1 in
      let f = finds c.0 (Some n) c.2 in
      let at = f.2.split in
      let long : length c.0 ≡ length (encode f.0) + length (drop n c.0) = ap length at ∙ length-append (encode f.0) (drop n c.0) in
      let grown = head_size_in set c.0 (drop n c.0) f.0 h.0 at f.1 in (
        subst IsUtf8 (sym c.3) (IsUtf8-past_char c.0 (drop n c.0) f.0 h.0 at),
        omega (arith, h.1, long, ap length c.3),
        omega (arith, h.1, h.2, long, ap length c.3, grown, ap (head_size set) c.3),
      )

  head_done : (m : List ℕ) → IsUtf8 m → IsFullyTrimmed R m → head_size set m ≡ 0
  head_done m u d = go d.0 d.1 d.2
    where
      go : (o : Option ℕ) → R m o → IfSome o (λ n. n ≡ 0) → head_size set m ≡ 0
      go None r e = elim (first m u) [
        | inl z ↦ head_of_nothing set m (ap length z)
        | inr h ↦ head_size_out set m h.1 h.0 u h.3 (finds m None r h.0 h.1 h.2 h.3)
      ]
      go (Some n) r e = let f = finds m (Some n) r in absurd (omega (arith, e, f.2.ends, (len_utf8_bounds f.0).0))

pub head_from_trim : (set s m : List ℕ) (By : (ℕ → Bool) → Type 0) → IsUtf8 s → IsTrimStartMatches (λ s r. (p : ℕ → Bool) → By p → FindsPrefixBy p s r) s m → By (char_set_contains (chars set)) → length s - length m ≡ head_size set s
head_from_trim set s m By u t by =
    let finds = λ (s : List ℕ) (r : Option ℕ) (f : (p : ℕ → Bool) → By p → FindsPrefixBy p s r). f (char_set_contains (chars set)) by in
    let h = cut_heads set _ finds s t.0.0 m u t.0.1 in
    omega (arith, h.2, head_done set _ finds m h.0 t.1)

module _ (set : List ℕ) (R : List ℕ → Option ℕ → Type 0) (finds : (s : List ℕ) (r : Option ℕ) → R s r → FindsSuffixBy (char_set_contains (chars set)) s r) where
  cut_tails : (s : List ℕ) (ns : List ℕ) (m : List ℕ) → IsUtf8 s → CutsSuffixes R s ns m → IsUtf8 m × (length m ≤ length s) × (tail_size set s ≡ (length s - length m) + tail_size set m)
  cut_tails s [] m u e = (subst IsUtf8 (sym e) u, omega (arith, ap length e), omega (arith, ap length e, ap (tail_size set) e))
  cut_tails s (n ∷ ns) m u c =
      let h = cut_tails s ns c.0 u c.1 in
      let f = finds c.0 (Some n) c.2 in
      let rest = take (length c.0 - n) c.0 in
      let end : drop (length c.0 - n) c.0 ≡ encode f.0 = f.2.split ∙ (ap (λ xs. encode f.0 ++ xs) (drop_all (length c.0) c.0 (omega arith)) ∙ append-nil (encode f.0)) in
      let at : c.0 ≡ rest ++ encode f.0 = sym (take-append-drop (length c.0 - n) c.0) ∙ ap (λ xs. rest ++ xs) end in
      let long : length c.0 ≡ length rest + length (encode f.0) = ap length at ∙ length-append rest (encode f.0) in
      let grown = tail_size_in set c.0 rest f.0 h.0 at f.1 in (
        subst IsUtf8 (sym c.3) (utf8_before_char c.0 rest f.0 h.0 at),
        omega (arith, h.1, long, ap length c.3),
        omega (arith, h.1, h.2, long, ap length c.3, grown, ap (tail_size set) c.3),
      )

  tail_done : (m : List ℕ) → IsUtf8 m → IsFullyTrimmed R m → tail_size set m ≡ 0
  tail_done m u d = go d.0 d.1 d.2
    where
      go : (o : Option ℕ) → R m o → IfSome o (λ n. n ≡ 0) → tail_size set m ≡ 0
      go None r e = elim (last m u) [
        | inl z ↦ tail_of_nothing set m (ap length z)
        | inr h ↦ tail_size_out set m h.1 h.0 u h.3 (finds m None r h.0 h.1 h.2 h.3)
      ]
      go (Some n) r e = let f = finds m (Some n) r in absurd (omega (arith, e, f.2.ends, (len_utf8_bounds f.0).0))

pub tail_from_trim : (set s m : List ℕ) (By : (ℕ → Bool) → Type 0) → IsUtf8 s → IsTrimEndMatches (λ s r. (p : ℕ → Bool) → By p → FindsSuffixBy p s r) s m → By (char_set_contains (chars set)) → length s - length m ≡ tail_size set s
tail_from_trim set s m By u t by =
    let finds = λ (s : List ℕ) (r : Option ℕ) (f : (p : ℕ → Bool) → By p → FindsSuffixBy p s r). f (char_set_contains (chars set)) by in
    let h = cut_tails set _ finds s t.0.0 m u t.0.1 in
    omega (arith, h.2, tail_done set _ finds m h.0 t.1)
