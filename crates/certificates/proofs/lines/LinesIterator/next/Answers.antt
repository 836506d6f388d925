use Rattle.std.proofs.Common.{arith, false-eqb}
use Rattle.certificates.proofs.Feeds.{line_parts, line_last}
use Rattle.certificates.proofs.lines.LinesIterator.next.Goals as goal

pub returns-in-Some-clause-steps : goal.returns-in-Some-clause-steps
returns-in-Some-clause-steps c = line_parts _ _ c.in-Some.ensures

pub returns-in-None-clause-steps : goal.returns-in-None-clause-steps
returns-in-None-clause-steps c = line_last _ (omega (arith, false-eqb _ _ c.if-is_empty.ensures)) c.in-None.ensures
