use Rattle.std.proofs.Common.{◌≡◌, None}
use Rattle.source.specs.Verdicts.{first_fault}
use Rattle.views.specs.Reading.{held}
use Rattle.views.specs.Verdict.{end_fault}
use Rattle.views.proofs.lent.Buffers.check.Given as goal

abbrev pub invariant-loop-buffer : goal.invariant-loop-buffer
invariant-loop-buffer l = first_fault (end_fault (held l.self)) l.buffer ≡ None
