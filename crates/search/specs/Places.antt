-- Where a delimiter stands in a text, and the lowest and the highest such place.
use Rattle.std.specs.Prelude.{◌≡◌, ℕ, zero, suc, ◌+◌, ◌<◌, ◌≤◌, Bool, cond, ◌&&◌, List, length, take, drop, Some, None, Option, MatchOption, ◌==◌, nat_le, nat_lt, slice_index}
use Rattle.std.specs.Str.{bytes_eq}

-- d stands in t at p; an empty d stands nowhere
pub record Stands (d t : List ℕ) (p : ℕ) : Type 0 where
  pub some : 0 < length d
  pub within : p + length d ≤ length t
  pub reads : (k : ℕ) → k < length d → slice_index t (p + k) ≡ slice_index d k

-- `Stands` as a test
unfoldable pub stands : List ℕ → List ℕ → ℕ → Bool
stands d t p = nat_lt 0 (length d) && (nat_le (p + length d) (length t) && bytes_eq (take (length d) (drop p t)) d)

-- the first number that passes, of the n from p upward, or of the n from n - 1 downward
abbrev pub first_up : (ℕ → Bool) → ℕ → ℕ → Option ℕ
first_up f p zero = None
first_up f p (suc n) = cond (f p) (Some p) (first_up f (suc p) n)

abbrev pub first_down : (ℕ → Bool) → ℕ → Option ℕ
first_down f zero = None
first_down f (suc n) = cond (f n) (Some n) (first_down f n)

-- the lowest place of d in t, and the highest; none where it stands nowhere
unfoldable pub lowest : List ℕ → List ℕ → Option ℕ
lowest d t = first_up (stands d t) 0 (length t)

unfoldable pub highest : List ℕ → List ℕ → Option ℕ
highest d t = first_down (stands d t) (length t)

-- the same in words: d stands at r, and at no lower place; where r is none, it stands nowhere
abbrev pub Lowest : List ℕ → List ℕ → Option ℕ → Type 0
Lowest d t r = MatchOption r ((q : ℕ) → Stands d t q → ⊥) (λ p. Stands d t p × ((q : ℕ) → q < p → Stands d t q → ⊥))

-- d stands at r, and at no higher place
abbrev pub Highest : List ℕ → List ℕ → Option ℕ → Type 0
Highest d t r = MatchOption r ((q : ℕ) → Stands d t q → ⊥) (λ p. Stands d t p × ((q : ℕ) → p < q → Stands d t q → ⊥))

-- a delimiter, if it has one byte
abbrev pub if_one_byte : List ℕ → Option (List ℕ)
if_one_byte d = cond (length d == 1) (Some d) None
