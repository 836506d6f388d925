-- The occurrences of a delimiter in a row, from the left and from the right, without overlap.
use Rattle.std.specs.Prelude.{ℕ, zero, suc, ◌+◌, ◌-◌, ◌<◌, ◌≤◌, cond, List, [], ◌∷◌, length, Some, None, Option}
use Rattle.search.specs.Places.{Stands, stands}

-- among the n places from p on, past the first `skip`: each where d stands, passing over those inside it
unfoldable pub upward : List ℕ → List ℕ → ℕ → ℕ → ℕ → List ℕ
upward d t skip p zero = []
upward d t zero p (suc n) = cond (stands d t p) (p ∷ upward d t (length d - 1) (suc p) n) (upward d t zero (suc p) n)
upward d t (suc k) p (suc n) = upward d t k (suc p) n

-- the same among the first n places, from the highest down
unfoldable pub downward : List ℕ → List ℕ → ℕ → ℕ → List ℕ
downward d t skip zero = []
downward d t zero (suc p) = cond (stands d t p) (p ∷ downward d t (length d - 1) p) (downward d t zero p)
downward d t (suc k) (suc p) = downward d t k p

-- the places from `from` on, lowest first, and those that end by `to`, highest first
abbrev pub places_past : List ℕ → List ℕ → ℕ → List ℕ
places_past d t from = upward d t 0 from (length t - from)

abbrev pub places_before : List ℕ → List ℕ → ℕ → List ℕ
places_before d t to = downward d t 0 (suc to - length d)

-- the occurrences of d in t, from the left and from the right
abbrev pub occurrences : List ℕ → List ℕ → List ℕ
occurrences d t = places_past d t 0

abbrev pub occurrences_back : List ℕ → List ℕ → List ℕ
occurrences_back d t = places_before d t (length t)

-- the end of the nth of the places ps; `from` for none of them, nothing where there are fewer
abbrev pub end_after : List ℕ → ℕ → List ℕ → ℕ → Option ℕ
end_after d from ps zero = Some from
end_after d from [] (suc n) = None
end_after d from (p ∷ ps) (suc n) = end_after d (p + length d) ps n

-- the nth of the places ps; `to` for none of them, nothing where there are fewer
abbrev pub start_before : ℕ → List ℕ → ℕ → Option ℕ
start_before to ps zero = Some to
start_before to [] (suc n) = None
start_before to (p ∷ ps) (suc n) = start_before p ps n

-- in words: p is the lowest place at or after `from` where d stands
pub record Next (d t : List ℕ) (from p : ℕ) : Type 0 where
  pub past : from ≤ p
  pub here : Stands d t p
  pub first : (q : ℕ) → from ≤ q → q < p → Stands d t q → ⊥

-- each of ps is the lowest after the end of the one before, and after the last there is none
abbrev pub FromLeft : List ℕ → List ℕ → ℕ → List ℕ → Type 0
FromLeft d t from [] = (q : ℕ) → from ≤ q → Stands d t q → ⊥
FromLeft d t from (p ∷ ps) = Next d t from p × FromLeft d t (p + length d) ps

-- p is the highest place where d stands and ends by `to`
pub record Prior (d t : List ℕ) (to p : ℕ) : Type 0 where
  pub before : p + length d ≤ to
  pub here : Stands d t p
  pub last : (q : ℕ) → p < q → q + length d ≤ to → Stands d t q → ⊥

-- each of ps is the highest that ends before the one before it begins, and below the last there is none
abbrev pub FromRight : List ℕ → List ℕ → ℕ → List ℕ → Type 0
FromRight d t to [] = (q : ℕ) → q + length d ≤ to → Stands d t q → ⊥
FromRight d t to (p ∷ ps) = Prior d t to p × FromRight d t p ps
