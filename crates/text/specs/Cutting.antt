-- Where a well-formed text may be cut and joined, and the relation to `std`'s `Utf8`, which a `&str` carries in its type.
use Rattle.std.specs.Prelude.{ℕ, List, [], ◌∷◌, ◌++◌, IsUtf8, ◌≢◌}
use Rattle.text.specs.Table.{WellFormed, joined}

-- what stands before and after a well-formed delimiter that is not empty is well-formed
abbrev pub SidesFormed : Type 0
SidesFormed =
    (before delimiter after : List ℕ) → WellFormed (before ++ (delimiter ++ after)) → WellFormed delimiter → (delimiter ≢ []) → WellFormed before × WellFormed after

abbrev pub EachFormed : List (List ℕ) → Type 0
EachFormed [] = Unit {0}
EachFormed (t ∷ ts) = WellFormed t × EachFormed ts

-- every joining of well-formed texts is well-formed
abbrev pub JoiningsFormed : Type 0
JoiningsFormed = (ts : List (List ℕ)) → EachFormed ts → WellFormed (joined ts)

-- well-formed is what `std` calls UTF-8
abbrev pub SameAsStd : Type 0
SameAsStd = (bs : List ℕ) → (WellFormed bs → IsUtf8 bs) × (IsUtf8 bs → WellFormed bs)
