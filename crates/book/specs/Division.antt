-- A call, and the calls on consecutive windows that it is cut into.
use Rattle.std.specs.Prelude.{◌≡◌, ℕ, ◌+◌, ◌<◌, ◌≤◌, Bool, true, false, cond, List, [], ◌∷◌, is_ok, None, Ok}
use Rattle.std.specs.Result.{result_unwrap_or}
use Rattle.book.specs.Book.{Answer}
use Rattle.book.specs.Requests.{Request}

abbrev pub total : List ℕ → ℕ
total [] = 0
total (n ∷ ns) = n + total ns

-- the calls on windows of these sizes, one behind the other, from row `at` of the call on
abbrev pub parts : {C : Type 0} → (C → ℕ → ℕ → C) → C → ℕ → List ℕ → List C
parts part c at [] = []
parts part c at (n ∷ ns) = part c at n ∷ parts part c (at + n) ns

-- every call was accepted, and the rows that they told together
abbrev pub all_taken : List Answer → Bool
all_taken [] = true
all_taken (a ∷ rest) = cond (is_ok a) (all_taken rest) false

abbrev pub sum_told : List Answer → ℕ
sum_told [] = 0
sum_told (a ∷ rest) = result_unwrap_or a 0 + sum_told rest

-- `part c at n` is the call c on rows at to at + n - 1 of its window
pub record Divides {C : Type 0} (request : C → Request) (part : C → ℕ → ℕ → C) (c : C) : Type 0 where
  pub sized : (at n : ℕ) → (request (part c at n)).size ≡ n
  pub same_rows : (at n i : ℕ) → at + n ≤ (request c).size → i < n → (request (part c at n)).offer i ≡ (request c).offer (at + i)
  pub same_source : (at n : ℕ) → (request (part c at n)).drawn ≡ (request c).drawn
  pub whole : (request (part c 0 (request c).size)).start ≡ (request c).start
  pub splits : (at m n : ℕ) → at + (m + n) ≤ (request c).size → (request (part c at (m + n))).start ≡ None
      → ((request (part c at m)).start ≡ None) × ((request (part c (at + m) n)).start ≡ None)
  pub joins : (at m n : ℕ) → at + (m + n) ≤ (request c).size → (request (part c at m)).start ≡ None → (request (part c (at + m) n)).start ≡ None
      → (request (part c at (m + n))).start ≡ None

-- a whole call, and its windows upon an equal output: all are accepted exactly when the whole is, and then the rows told
-- add up to the call's, and both keep the same rows
pub record Agreed {X : Type 0} (whole : Answer) (kept : List X) (all : Bool) (sum : ℕ) (kept_in_windows : List X) : Type 0 where
  pub exactly : all ≡ is_ok whole
  pub adds_up : all ≡ true → whole ≡ Ok sum
  pub same_rows : all ≡ true → kept ≡ kept_in_windows
