-- Verdicts: no fault, or the first of several.
use Rattle.std.specs.Prelude.{ℕ, zero, suc, Bool, true, false, cond, Some, None, Ok, Err, Option, Result}
use Rattle.fault.specs.declared.Fault.{Fault}
use Rattle.fault.specs.declared.Fault.TheVariants.{Malformed}
use Rattle.source.specs.Rows.{Row}
use Rattle.text.specs.Steps.{formed}

abbrev pub Verdict : Type 0
Verdict = Option Fault

-- the fault where the test fails
abbrev pub unless : Bool → Fault → Verdict
unless b e = cond b None (Some e)

-- the first verdict's fault, else the second's
abbrev pub then : Verdict → Verdict → Verdict
then (Some e) v = Some e
then None v = v

-- the fault at the lowest number below n that has one
abbrev pub first_fault : (ℕ → Verdict) → ℕ → Verdict
first_fault f zero = None
first_fault f (suc n) = then (first_fault f n) (f n)

-- the fault of a row that is not null and not well-formed
abbrev pub malformed : ℕ → Row → Verdict
malformed i None = None
malformed i (Some t) = unless (formed t) (Malformed i)

-- there is no fault
abbrev pub accepts : Verdict → Bool
accepts None = true
accepts (Some e) = false

-- the fault that was answered
abbrev pub fault_of : {X : Type 0} → Result X Fault → Verdict
fault_of (Ok x) = None
fault_of (Err e) = Some e
