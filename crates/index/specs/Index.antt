-- What precedes or follows an occurrence of the delimiter: MySQL's SUBSTRING_INDEX.
use Rattle.std.specs.Prelude.{ℕ, zero, suc, ◌+◌, cond, List, length, take, drop, ℤ, pos, negsuc, Some, None, Option, ◌==◌}
use Rattle.std.specs.List.{slice_get}
use Rattle.split.specs.Occurrences.{occurrences, occurrences_back}
use Rattle.split.specs.Fields.{Part, missing}

-- what precedes a place, with its own place; the row where there is none
abbrev pub before_place : List ℕ → Option ℕ → Part
before_place t None = (t, 0)
before_place t (Some p) = (take p t, 0)

-- what follows the delimiter d at a place
abbrev pub after_place : List ℕ → List ℕ → Option ℕ → Part
after_place d t None = (t, 0)
after_place d t (Some p) = (drop (p + length d) t, p + length d)

-- everything left of occurrence n from the left, or right of it from the right
abbrev pub beside : List ℕ → List ℕ → ℤ → Part
beside d t (pos zero) = missing
beside d t (pos (suc k)) = before_place t (slice_get (occurrences d t) k)
beside d t (negsuc k) = after_place d t (slice_get (occurrences_back d t) k)

-- the part at a count: an empty delimiter leaves nothing
abbrev pub index_at : List ℕ → List ℕ → ℤ → Part
index_at d t n = cond (length d == 0) missing (beside d t n)
