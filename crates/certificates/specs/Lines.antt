-- The lines of an upload.
use Rattle.std.specs.Prelude.{◌≡◌, ℕ, ◌-◌, ◌<◌, cond, List, [], ◌∷◌, length, take, Option, MatchOption, ◌==◌, ◌≢◌, slice_index}

-- a byte before the first line
abbrev pub before : ℕ → List (List ℕ) → List (List ℕ)
before b [] = (b ∷ []) ∷ []
before b (l ∷ ls) = (b ∷ l) ∷ ls

-- each line ends with a line feed (10), but the last need not
abbrev pub lines : List ℕ → List (List ℕ)
lines [] = []
lines (b ∷ bs) = cond (b == 10) ([] ∷ lines bs) (before b (lines bs))

-- r is the place of the first line feed; none, where there is none
abbrev pub FirstFeed : List ℕ → Option ℕ → Type 0
FirstFeed bs r =
    MatchOption r ((q : ℕ) → q < length bs → slice_index bs q ≢ 10) (λ p. (p < length bs) × (slice_index bs p ≡ 10) × ((q : ℕ) → q < p → slice_index bs q ≢ 10))

-- a line without a last carriage return (13)
abbrev pub without_return : List ℕ → List ℕ
without_return l = cond (slice_index l (length l - 1) == 13) (take (length l - 1) l) l
