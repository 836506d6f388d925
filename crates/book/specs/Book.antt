-- The row book of an output. It holds rows and the output's rule, and is fed calls alone. At a call it looks for the
-- fault before the first row, then takes the rows upward, and at each looks for the row's own fault and then for a
-- refusal by the rule, after the book's rows and the call's earlier ones. The first fault, with its row, is the answer,
-- and the book stays as it is. A call without one is accepted: its rows go behind the book's, and their number is the answer.
use Rattle.std.specs.Prelude.{ℕ, ◌+◌, List, [], ◌∷◌, ◌++◌, length, Some, None, Ok, Err, Result}
use Rattle.std.specs.Option as options
use Rattle.std.specs.Result.{result_unwrap_or, result_map_both}
use Rattle.fault.specs.Faults.{placed_at}
use Rattle.fault.specs.declared.Fault.{Fault}
use Rattle.output.specs.Rows.{RuleOver}
use Rattle.source.specs.Verdicts.{Verdict}
use Rattle.book.specs.Requests.{Asked, OfferOver}

-- the number of rows added, or the fault
abbrev pub Answer : Type 0
Answer = Result ℕ Fault

-- the fault, where there is one
abbrev pub guarded : {Y : Type 0} → Verdict → Result Y Fault → Result Y Fault
guarded None r = r
guarded (Some f) r = Err f

-- a verdict on row i of a call
abbrev pub at_row : ℕ → Verdict → Verdict
at_row i v = options.option_map (placed_at i) v

-- over any kind of row
module _ {X : Type 0} where
  -- the offers behind `rows`, taken upward from row i on: all rows then, or the first fault
  abbrev pub fed : RuleOver X → List X → ℕ → List (OfferOver X) → Result (List X) Fault
  fed rule rows i [] = Ok rows
  fed rule rows i (Err f ∷ os) = Err (placed_at i f)
  fed rule rows i (Ok row ∷ os) = guarded (at_row i (rule rows row)) (fed rule (rows ++ row ∷ []) (i + 1) os)

  abbrev pub met : RuleOver X → List X → Asked X → Result (List X) Fault
  met rule rows c = guarded c.start (fed rule rows 0 c.offers)

  -- the answer to a call, and the rows after it
  abbrev pub answer : RuleOver X → List X → Asked X → Answer
  answer rule rows c = result_map_both (λ _. length c.offers) (λ e. e) (met rule rows c)

  abbrev pub after : RuleOver X → List X → Asked X → List X
  after rule rows c = result_unwrap_or (met rule rows c) rows

  -- the same of a list of calls, each upon what the one before left
  abbrev pub answers : RuleOver X → List X → List (Asked X) → List Answer
  answers rule rows [] = []
  answers rule rows (c ∷ cs) = answer rule rows c ∷ answers rule (after rule rows c) cs

  abbrev pub after_all : RuleOver X → List X → List (Asked X) → List X
  after_all rule rows [] = rows
  after_all rule rows (c ∷ cs) = after_all rule (after rule rows c) cs
