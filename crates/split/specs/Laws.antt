-- What holds of occurrences and fields, in the subject's words.
use Rattle.std.specs.Prelude.{◌≡◌, ℕ, List, [], ◌∷◌, reverse, length}
use Rattle.split.specs.Occurrences.{occurrences, occurrences_back, FromLeft, FromRight}
use Rattle.split.specs.Fields.{left_fields, right_fields, join, texts}

-- the occurrences from the left are the lowest place, then the lowest after its end, and so on; no others
abbrev pub LowestFirst : Type 0
LowestFirst = (d t ps : List ℕ) → (FromLeft d t 0 ps → ps ≡ occurrences d t) × (ps ≡ occurrences d t → FromLeft d t 0 ps)

-- those from the right are the highest place, then the highest that ends before it, and so on
abbrev pub HighestFirst : Type 0
HighestFirst =
    (d t ps : List ℕ) → (FromRight d t (length t) ps → ps ≡ occurrences_back d t) × (ps ≡ occurrences_back d t → FromRight d t (length t) ps)

-- the fields, joined by the delimiter, are the row
abbrev pub Rejoined : Type 0
Rejoined = (d t : List ℕ) → (join d (texts (left_fields d t)) ≡ t) × (join d (reverse (texts (right_fields d t))) ≡ t)

-- an empty delimiter leaves the row whole
abbrev pub Uncut : Type 0
Uncut = (t : List ℕ) → (left_fields [] t ≡ (t, 0) ∷ []) × (right_fields [] t ≡ (t, 0) ∷ [])
