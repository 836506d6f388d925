-- Where a text is cut between two runs of its characters.
use Rattle.std.proofs.Common.{◌≡◌, ℕ, ◌+◌, ◌-◌, ◌≤◌, Bool, true, false, cond, List, [], ◌∷◌, ◌++◌, length, take, drop, IsUtf8, sym, refl, ap, ◌∙◌, subst, arith, length-append}
use lib.Utf8.{scalar, scalars, encodes}
use Rattle.std.specs.Char.{char_set_contains}
use Rattle.std.specs.Str.{IsCharBoundary, chars}
use Rattle.std.specs.List.{prefix_len, suffix_len}
use Rattle.std.proofs.lemmas.List.{append-nil, take-append-drop, take_at, drop_at}
use Rattle.std.proofs.lemmas.Bool.{and_parts, and_from}
use Rattle.std.proofs.lemmas.Str.{encodes-append, encodes-chars, scalars-chars, chars-encodes, IsCharBoundary-at_seam}
use Rattle.trim.specs.Ends.{head_size, tail_size}
use Rattle.trim.specs.Trim.{removed_head, without_head, removed_tail, without_tail, trimmed}

pub scalars_parts : (xs ys : List ℕ) → scalars (xs ++ ys) ≡ true → (scalars xs ≡ true) × (scalars ys ≡ true)
scalars_parts [] ys h = (refl, h)
scalars_parts (c ∷ xs) ys h =
    let a = and_parts (scalar c) (scalars (xs ++ ys)) h in
    let b = scalars_parts xs ys a.1 in
    (and_from (scalar c) (scalars xs) a.0 b.0, b.1)

pub record Seam (row xs ys : List ℕ) : Type 0 where
  pub whole : row ≡ encodes xs ++ encodes ys
  pub front : take (length (encodes xs)) row ≡ encodes xs
  pub back : drop (length (encodes xs)) row ≡ encodes ys
  pub long : length row ≡ length (encodes xs) + length (encodes ys)
  pub cut : IsCharBoundary row (length (encodes xs))
  pub text : IsUtf8 (encodes xs)
  pub rest : chars (encodes ys) ≡ ys
  pub after : IsUtf8 (encodes ys)

pub seam : (row xs ys : List ℕ) → IsUtf8 row → xs ++ ys ≡ chars row → Seam row xs ys
seam row xs ys u e =
    let w : row ≡ encodes xs ++ encodes ys = sym (encodes-chars row u) ∙ (ap encodes (sym e) ∙ encodes-append xs ys) in
    let s = scalars_parts xs ys (ap scalars e ∙ scalars-chars row u) in
    record {
      whole = w;
      front = ap (take (length (encodes xs))) w ∙ take_at (encodes xs) (encodes ys) (length (encodes xs)) refl;
      back = ap (drop (length (encodes xs))) w ∙ drop_at (encodes xs) (encodes ys) (length (encodes xs)) refl;
      long = ap length w ∙ length-append (encodes xs) (encodes ys);
      cut = IsCharBoundary-at_seam row (encodes xs) (encodes ys) w (ys, (s.1, refl));
      text = (xs, (s.0, refl));
      rest = chars-encodes ys s.1;
      after = (ys, (s.1, refl));
    }

-- the characters in two parts, at either end
pub head_parts : (left : Bool) (p : ℕ → Bool) (cs : List ℕ) → removed_head left p cs ++ without_head left p cs ≡ cs
head_parts true p cs = take-append-drop (prefix_len p cs) cs
head_parts false p cs = refl

pub tail_parts : (right : Bool) (p : ℕ → Bool) (cs : List ℕ) → without_tail right p cs ++ removed_tail right p cs ≡ cs
tail_parts true p cs = take-append-drop (length cs - suffix_len p cs) cs
tail_parts false p cs = append-nil cs

pub head_bytes : (left : Bool) (set row : List ℕ) → cond left (head_size set row) 0 ≡ length (encodes (removed_head left (char_set_contains (chars set)) (chars row)))
unfolding head_size
head_bytes true set row = refl
head_bytes false set row = refl

pub tail_bytes : (right : Bool) (set row : List ℕ) → cond right (tail_size set row) 0 ≡ length (encodes (removed_tail right (char_set_contains (chars set)) (chars row)))
unfolding tail_size
tail_bytes true set row = refl
tail_bytes false set row = refl

pub head_seam : (left : Bool) (set row : List ℕ) → IsUtf8 row → Seam row (removed_head left (char_set_contains (chars set)) (chars row)) (without_head left (char_set_contains (chars set)) (chars row))
head_seam left set row u = seam row _ _ u (head_parts left (char_set_contains (chars set)) (chars row))

pub tail_seam : (right : Bool) (set row : List ℕ) → IsUtf8 row → Seam row (without_tail right (char_set_contains (chars set)) (chars row)) (removed_tail right (char_set_contains (chars set)) (chars row))
tail_seam right set row u = seam row _ _ u (tail_parts right (char_set_contains (chars set)) (chars row))

-- where the code cuts, and what it then holds
pub cut_start : (left : Bool) (set row : List ℕ) (start : ℕ) → IsUtf8 row → start ≡ cond left (head_size set row) 0 → IsCharBoundary row start
cut_start left set row start u e = subst (IsCharBoundary row) (sym (e ∙ head_bytes left set row)) (head_seam left set row u).cut

pub cut_end : (right : Bool) (set row : List ℕ) (tail : ℕ) → IsUtf8 row → tail ≡ cond right (tail_size set row) 0 → (tail ≤ length row) × IsCharBoundary row (length row - tail)
cut_end right set row tail u e =
    let s = tail_seam right set row u in
    let n : length row - tail ≡ length (encodes (without_tail right (char_set_contains (chars set)) (chars row))) = omega (arith, e ∙ tail_bytes right set row, s.long) in
    (omega (arith, e ∙ tail_bytes right set row, s.long), subst (IsCharBoundary row) (sym n) s.cut)

pub trimmed_is : (left right : Bool) (set row rest text : List ℕ) (start tail : ℕ) → IsUtf8 row → start ≡ cond left (head_size set row) 0 → rest ≡ drop start row → tail ≡ cond right (tail_size set rest) 0 → text ≡ take (length rest - tail) rest → (text, start) ≡ trimmed left right set row
unfolding trimmed
trimmed_is left right set row rest text start tail u e r f t =
    let p = char_set_contains (chars set) in
    let h = head_seam left set row u in
    let at : start ≡ length (encodes (removed_head left p (chars row))) = e ∙ head_bytes left set row in
    let back : rest ≡ encodes (without_head left p (chars row)) = r ∙ (ap (λ (n : ℕ). drop n row) at ∙ h.back) in
    let s = tail_seam right set rest (subst IsUtf8 (sym back) h.after) in
    let n : length rest - tail ≡ length (encodes (without_tail right p (chars rest))) = omega (arith, f ∙ tail_bytes right set rest, s.long) in
    let kept : text ≡ encodes (without_tail right p (chars rest)) = t ∙ (ap (λ (k : ℕ). take k rest) n ∙ s.front) in
    λ i. ((kept ∙ ap (λ cs. encodes (without_tail right p cs)) (ap chars back ∙ h.rest)) i, at i)
