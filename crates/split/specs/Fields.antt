-- The fields of a row: what lies between the occurrences of the delimiter.
-- Positions above 0 are PostgreSQL's split_part; those below 0 count the fields that the occurrences from the right leave, as DataFusion's.
use Rattle.std.specs.Prelude.{ℕ, zero, suc, ◌+◌, List, [], ◌∷◌, ◌++◌, map, length, take, drop, ℤ, pos, negsuc, Ok, Err, Result}
use Rattle.std.specs.Borrow.{Bor}
use Rattle.std.specs.Option.{unwrap_or}
use Rattle.std.specs.List.{between, slice_get}
use Rattle.fault.specs.declared.Fault.{Fault}
use Rattle.fault.specs.declared.Fault.TheVariants.{ZeroPosition}
use Rattle.split.specs.Occurrences.{occurrences, occurrences_back}

-- a part of a row: its bytes, and its place in the row
abbrev pub Part : Type 0
Part = List ℕ × ℕ

-- a field that is not there is empty, at place 0
abbrev pub missing : Part
missing = ([], 0)

-- what lies past `from`, cut at the places ps, which rise
abbrev pub cut_up : List ℕ → List ℕ → ℕ → List ℕ → List Part
cut_up d t from [] = (drop from t, from) ∷ []
cut_up d t from (p ∷ ps) = (between from p t, from) ∷ cut_up d t (p + length d) ps

-- what lies before `to`, cut at the places ps, which fall
abbrev pub cut_down : List ℕ → List ℕ → ℕ → List ℕ → List Part
cut_down d t to [] = (take to t, 0) ∷ []
cut_down d t to (p ∷ ps) = (between (p + length d) to t, p + length d) ∷ cut_down d t p ps

-- the fields of t cut at d, the leftmost first, and the rightmost first
abbrev pub left_fields : List ℕ → List ℕ → List Part
left_fields d t = cut_up d t 0 (occurrences d t)

abbrev pub right_fields : List ℕ → List ℕ → List Part
right_fields d t = cut_down d t (length t) (occurrences_back d t)

-- the field at a position: there is no position 0
abbrev pub field_at : List ℕ → List ℕ → ℤ → Result Part Fault
field_at d t (pos zero) = Err (ZeroPosition 0)
field_at d t (pos (suc k)) = Ok (unwrap_or (slice_get (left_fields d t) k) missing)
field_at d t (negsuc k) = Ok (unwrap_or (slice_get (right_fields d t) k) missing)

-- the texts with d between them
abbrev pub more : List ℕ → List (List ℕ) → List ℕ
more d [] = []
more d (x ∷ xs) = d ++ (x ++ more d xs)

abbrev pub join : List ℕ → List (List ℕ) → List ℕ
join d [] = []
join d (x ∷ xs) = x ++ more d xs

abbrev pub texts : List Part → List (List ℕ)
texts fs = map (λ f. f.0) fs

-- what a function answered, by bytes and place
abbrev pub part : Bor (List ℕ) × ℕ → Part
part v = (v.0.now, v.1)

abbrev pub answered : Result (Bor (List ℕ) × ℕ) Fault → Result Part Fault
answered (Ok v) = Ok (part v)
answered (Err e) = Err e
