-- Verdicts put together from faults of outputs.
use Rattle.std.proofs.Common.{◌≡◌, Bool, true, false, cond, Some, None}
use Rattle.fault.specs.Faults.{layer_of}
use Rattle.fault.specs.declared.Fault.{Fault}
use Rattle.fault.specs.declared.Layer.TheVariants.{Output}
use Rattle.output.specs.Rows.{OwnFault}
use Rattle.source.specs.Verdicts.{Verdict, unless, then}

pub own_unless : (b : Bool) (f : Fault) → layer_of f ≡ Output → OwnFault (unless b f)
own_unless true f e = tt
own_unless false f e = e

pub own_then : (v w : Verdict) → OwnFault v → OwnFault w → OwnFault (then v w)
own_then None w p q = q
own_then (Some f) w p q = p

pub own_cond : (b : Bool) (v w : Verdict) → OwnFault v → OwnFault w → OwnFault (cond b v w)
own_cond true v w p q = p
own_cond false v w p q = q
