-- Index is split's fields joined.
use Rattle.std.specs.Prelude.{◌≡◌, ℕ, zero, suc, ◌<◌, ◌≤◌, List, [], ◌∷◌, ◌++◌, length, pos, negsuc, Ok, Err, Result, ◌≢◌}
use Rattle.fault.specs.declared.Fault.{Fault}
use Rattle.split.specs.Occurrences.{occurrences, occurrences_back}
use Rattle.split.specs.Fields.{Part, field_at, join}
use Rattle.index.specs.Index.{index_at}

abbrev pub text : Result Part Fault → List ℕ
text (Ok p) = p.0
text (Err e) = []

-- split's fields at the positions 1 to n
abbrev pub fields_to : List ℕ → List ℕ → ℕ → List (List ℕ)
fields_to d t zero = []
fields_to d t (suc n) = fields_to d t n ++ (text (field_at d t (pos (suc n))) ∷ [])

-- split's fields at the positions -n to -1
abbrev pub fields_from : List ℕ → List ℕ → ℕ → List (List ℕ)
fields_from d t zero = []
fields_from d t (suc n) = text (field_at d t (negsuc n)) ∷ fields_from d t n

-- index n reads as the fields 1 to n joined by the delimiter, or as the row where it has fewer than n occurrences from the left
abbrev pub FieldsJoined : List ℕ → List ℕ → Type 0
FieldsJoined d t =
    (n : ℕ)
    → (0 < n → n ≤ length (occurrences d t) → (index_at d t (pos n)).0 ≡ join d (fields_to d t n))
    × (length (occurrences d t) < n → (index_at d t (pos n)).0 ≡ t)

-- index -n as the fields -n to -1 joined, or as the row where it has fewer than n occurrences from the right
abbrev pub FieldsJoinedBack : List ℕ → List ℕ → Type 0
FieldsJoinedBack d t =
    (k : ℕ)
    → (k < length (occurrences_back d t) → (index_at d t (negsuc k)).0 ≡ join d (fields_from d t (suc k)))
    × (length (occurrences_back d t) ≤ k → (index_at d t (negsuc k)).0 ≡ t)

-- both, on every row and delimiter that is not empty
abbrev pub IndexJoinsFields : Type 0
IndexJoinsFields = (d t : List ℕ) → (d ≢ []) → FieldsJoined d t × FieldsJoinedBack d t
