-- The first line of an upload, and the lines after it.
use Rattle.std.proofs.Common.{◌≡◌, ℕ, zero, suc, ◌+◌, ◌-◌, ◌<◌, Bool, false, cond, eqb, List, [], ◌∷◌, length, get_or, take, drop, sym, ap, ◌∙◌, le_of_suc-le-suc, add-one, arith, eq-eqb, ne_eqb}
use native.Mathlib.Nat.{sub-zero}
use Rattle.std.proofs.lemmas.List.{take_rest}
use Rattle.certificates.specs.Lines.{before, lines}

-- up to the first line feed
pub line_at : (bs : List ℕ) (p : ℕ) → p < length bs → get_or bs p 0 ≡ 10 → ((q : ℕ) → q < p → get_or bs q 0 ≡ 10 → ⊥) → lines bs ≡ take p bs ∷ lines (drop (suc p) bs)
line_at [] p h e none = absurd (omega arith)
line_at (b ∷ bs) zero h e none = ap (λ (t : Bool). cond t ([] ∷ lines bs) (before b (lines bs))) (eq-eqb b 10 e)
line_at (b ∷ bs) (suc p) h e none =
    let n : eqb b 10 ≡ false = ne_eqb b 10 (λ z. none 0 (omega arith) z) in
    ap (λ (t : Bool). cond t ([] ∷ lines bs) (before b (lines bs))) n
    ∙ ap (before b) (line_at bs p (le_of_suc-le-suc h) e (λ q l z. none (suc q) (omega arith) z))

-- without one
pub line_last : (bs : List ℕ) → 0 < length bs → ((q : ℕ) → q < length bs → get_or bs q 0 ≡ 10 → ⊥) → lines bs ≡ bs ∷ []
line_last [] h none = absurd (omega arith)
line_last (b ∷ []) h none = ap (λ (t : Bool). cond t ([] ∷ []) ((b ∷ []) ∷ [])) (ne_eqb b 10 (λ z. none 0 (omega arith) z))
line_last (b ∷ x ∷ bs) h none =
    ap (λ (t : Bool). cond t ([] ∷ lines (x ∷ bs)) (before b (lines (x ∷ bs)))) (ne_eqb b 10 (λ z. none 0 (omega arith) z))
    ∙ ap (before b) (line_last (x ∷ bs) (omega arith) (λ q l z. none (suc q) (omega arith) z))

-- up to it, as the code has the parts
pub line_parts : (bs : List ℕ) (p : ℕ) → (p < length bs) × (get_or bs p 0 ≡ 10) × ((q : ℕ) → q < p → get_or bs q 0 ≡ 10 → ⊥) → lines bs ≡ take (p - 0) bs ∷ lines (take (length bs - (p + 1)) (drop (p + 1) bs))
line_parts bs p f =
    line_at bs p f.0 f.1 f.2
    ∙ (ap (λ n. take n bs ∷ lines (drop (suc p) bs)) (sym (sub-zero p)) ∙ ap (λ l. take (p - 0) bs ∷ lines l) (ap (λ n. drop n bs) (sym (add-one p)) ∙ sym (take_rest bs (p + 1))))
