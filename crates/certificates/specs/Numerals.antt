-- Whole numbers from 0 to 999, in decimal digits without a sign or a leading zero.
use Rattle.std.specs.Prelude.{ℕ, ◌+◌, ◌-◌, ◌*◌, Bool, cond, not, ◌&&◌, ◌||◌, List, [], ◌∷◌, length, Some, None, Option, ◌==◌, nat_le, nat_lt, slice_index}

-- n with one digit more, if it is a digit (`0` is 48, `9` is 57) and the number stays below 1000
abbrev pub with_digit : ℕ → ℕ → Option ℕ
with_digit n b = cond (nat_le 48 b && (nat_le b 57 && nat_lt n 100)) (Some (n * 10 + (b - 48))) None

abbrev pub digits_behind : Option ℕ → List ℕ → Option ℕ
digits_behind None bs = None
digits_behind (Some n) [] = Some n
digits_behind (Some n) (b ∷ bs) = digits_behind (with_digit n b) bs

-- some digit, and no zero before another
abbrev pub starts_well : List ℕ → Bool
starts_well ds = nat_lt 0 (length ds) && (length ds == 1 || not (slice_index ds 0 == 48))

abbrev pub numeral_of : List ℕ → Option ℕ
numeral_of ds = cond (starts_well ds) (digits_behind (Some 0) ds) None
