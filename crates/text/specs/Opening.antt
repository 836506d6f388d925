-- The opening of bytes as text.
use Rattle.std.specs.Prelude.{ℕ, cond, List, Ok, Err, Result}
use Rattle.std.specs.Borrow.{Bor}
use Rattle.fault.specs.declared.Fault.{Fault}
use Rattle.fault.specs.declared.Fault.TheVariants.{Malformed}
use Rattle.text.specs.Steps.{formed}

-- the text, or the fault of a text that is not well-formed
abbrev pub text_of : List ℕ → Result (List ℕ) Fault
text_of bs = cond (formed bs) (Ok bs) (Err (Malformed 0))

-- what an opening answered, by its bytes
abbrev pub opened : Result (Bor (List ℕ)) Fault → Result (List ℕ) Fault
opened (Ok s) = Ok s.now
opened (Err e) = Err e
