-- Trimming as PostgreSQL's manual has it: the longest string containing only characters in the set goes from the start,
-- the end, or both ends.
use Rattle.std.specs.Prelude.{◌≡◌, ℕ, ◌≤◌, Bool, true, false, List, [], ◌++◌, length, IsUtf8, MatchBool}
use Rattle.std.proofs.Math.Utf8.{encodes}
use Rattle.std.specs.List.{ContainsAt as Has, AllByRecursion}
use Rattle.std.specs.Str.{chars}
use Rattle.trim.specs.Trim.{trimmed}

-- head is the longest head of cs that holds only characters in the set
pub record LongestHead (set cs head : List ℕ) : Type 0 where
  pub begins : (rest : List ℕ) × (cs ≡ head ++ rest)
  pub made : AllByRecursion (Has set) head
  pub longest : (other rest : List ℕ) → cs ≡ other ++ rest → AllByRecursion (Has set) other → length other ≤ length head

-- tail is the longest such tail
pub record LongestTail (set cs tail : List ℕ) : Type 0 where
  pub closes : (rest : List ℕ) × (cs ≡ rest ++ tail)
  pub made : AllByRecursion (Has set) tail
  pub longest : (other rest : List ℕ) → cs ≡ rest ++ other → AllByRecursion (Has set) other → length other ≤ length tail

-- text stands in the row at the byte `place`, between the characters that went from the left and from the right
pub record Trims (left right : Bool) (set row text : List ℕ) (place : ℕ) : Type 0 where
  pub head : List ℕ
  pub kept : List ℕ
  pub tail : List ℕ
  pub whole : row ≡ encodes head ++ (text ++ encodes tail)
  pub reads : text ≡ encodes kept
  pub formed : IsUtf8 text
  pub starts : place ≡ length (encodes head)
  pub left_side : MatchBool left (LongestHead (chars set) (head ++ (kept ++ tail)) head) (head ≡ [])
  pub right_side : MatchBool right (LongestTail (chars set) (kept ++ tail) tail) (tail ≡ [])

-- the rule leaves one answer
abbrev pub Determined : Type 0
Determined = (left right : Bool) (set row text : List ℕ) (place : ℕ) → IsUtf8 row → Trims left right set row text place → (text, place) ≡ trimmed left right set row

-- an empty set removes nothing
abbrev pub Untouched : Type 0
Untouched = (left right : Bool) (row : List ℕ) → IsUtf8 row → trimmed left right [] row ≡ (row, 0)

-- a row that both ends remove wholly is empty, and stands where the row ends
abbrev pub Emptied : Type 0
Emptied = (set row : List ℕ) → IsUtf8 row → AllByRecursion (Has (chars set)) (chars row) → trimmed true true set row ≡ ([], length row)

-- where the start is not trimmed, the place is 0
abbrev pub Anchored : Type 0
Anchored = (right : Bool) (set row : List ℕ) → (trimmed false right set row).1 ≡ 0
