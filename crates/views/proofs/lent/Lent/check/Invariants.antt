use Rattle.std.proofs.Common.{◌≡◌, None}
use Rattle.source.specs.Verdicts.{first_fault}
use Rattle.views.specs.Reading.{lists}
use Rattle.views.specs.Verdict.{row_fault}
use Rattle.views.proofs.lent.Lent.check.Given as goal

abbrev pub invariant-loop-row : goal.invariant-loop-row
invariant-loop-row l = first_fault (row_fault (lists l.self)) l.row ≡ None
