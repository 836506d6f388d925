-- The book in words: when a call is accepted and when it is refused, and lists of calls.
use Rattle.std.specs.Prelude.{◌≡◌, ℕ, ◌<◌, List, [], ◌∷◌, ◌++◌, length, take, Some, None, Ok, Err, slice_index_or}
use Rattle.fault.specs.Faults.{placed_at}
use Rattle.fault.specs.declared.Fault.{Fault}
use Rattle.output.specs.Rows.{Rule}
use Rattle.source.specs.Rows.{Row}
use Rattle.source.specs.Verdicts.{Verdict}
use Rattle.book.specs.Requests.{Asked, OfferOver}
use Rattle.book.specs.Book.{Answer, answer, after}

-- the rows among the offers
abbrev pub texts : List (OfferOver Row) → List Row
texts [] = []
texts (Ok row ∷ os) = row ∷ texts os
texts (Err f ∷ os) = texts os

-- a row's own fault, or else what the rule says of it after these rows
abbrev pub judged : Rule → List Row → OfferOver Row → Verdict
judged rule rows (Ok row) = rule rows row
judged rule rows (Err f) = Some f

-- the fault of a call's row k, after the book's rows and the call's earlier ones
abbrev pub fault_at : Rule → List Row → List (OfferOver Row) → ℕ → Verdict
fault_at rule rows os k = judged rule (rows ++ texts (take k os)) (slice_index_or os k (Ok None))

-- none of the first k rows has a fault
abbrev pub Clear : Rule → List Row → List (OfferOver Row) → ℕ → Type 0
Clear rule rows os k = (j : ℕ) → j < k → fault_at rule rows os j ≡ None

-- the answer to a call, and the rows after it
pub data Answered (rule : Rule) (rows : List Row) (c : Asked Row) : Answer → List Row → Type 0 where
  early : (f : Fault) → c.start ≡ Some f → Answered rule rows c (Err f) rows
  refused : (f : Fault) (k : ℕ) → c.start ≡ None → k < length c.offers → Clear rule rows c.offers k → fault_at rule rows c.offers k ≡ Some f
      → Answered rule rows c (Err (placed_at k f)) rows
  accepted : c.start ≡ None → Clear rule rows c.offers (length c.offers) → Answered rule rows c (Ok (length c.offers)) (rows ++ texts c.offers)

-- calls one after another, each upon the rows that the one before left: what they were told, and the rows at the end
pub data Runs (rule : Rule) : List Row → List (Asked Row) → List Answer → List Row → Type 0 where
  ended : (rows : List Row) → Runs rule rows [] [] rows
  went : (rows mid last : List Row) (c : Asked Row) (cs : List (Asked Row)) (a : Answer) (told : List Answer)
      → Answered rule rows c a mid → Runs rule mid cs told last → Runs rule rows (c ∷ cs) (a ∷ told) last

-- a call's answer and the rows after it are the book's
pub record Booked (rule : Rule) (rows : List Row) (c : Asked Row) (told : Answer) (last : List Row) : Type 0 where
  pub answer_is : told ≡ answer rule rows c
  pub rows_are : last ≡ after rule rows c
  pub meaning : Answered rule rows c told last
