use Rattle.std.proofs.Common.{◌≡◌, None}
use Rattle.source.specs.Verdicts.{first_fault}
use Rattle.columns.specs.Offsets.{row_fault}
use Rattle.columns.specs.Reading.{lists}
use Rattle.columns.proofs.lent.Lent.check_rows.Given as goal

abbrev pub invariant-loop-row : goal.invariant-loop-row
invariant-loop-row g l = first_fault (row_fault (lists g.W.Width.number l.self)) l.row ≡ None
