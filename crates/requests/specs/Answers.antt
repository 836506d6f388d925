-- What a request for one row is answered.
use Rattle.std.specs.Prelude.{ℕ, true, false, List, ℤ, Ok, Result}
use Rattle.fault.specs.declared.Fault.{Fault}
use Rattle.split.specs.Fields.{Part, field_at}
use Rattle.index.specs.Index.{index_at}
use Rattle.trim.specs.Trim.{trimmed}
use Rattle.requests.specs.declared.Operation.{Operation}
use Rattle.requests.specs.declared.Operation.TheVariants.{Split, Index, Left, Right, Both}

-- by the row, the delimiter or the set, and the number, which a trim does not look at
abbrev pub answer_to : Operation → List ℕ → List ℕ → ℤ → Result Part Fault
answer_to Split row delimiter n = field_at delimiter row n
answer_to Index row delimiter n = Ok (index_at delimiter row n)
answer_to Left row set n = Ok (trimmed true false set row)
answer_to Right row set n = Ok (trimmed false true set row)
answer_to Both row set n = Ok (trimmed true true set row)
