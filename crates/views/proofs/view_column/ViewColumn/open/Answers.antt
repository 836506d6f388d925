use Rattle.std.proofs.Common.{None, ◌∙◌}
use Rattle.source.proofs.Faults.{handed_on}
use Rattle.views.specs.Reading.{lists}
use Rattle.views.proofs.Meaning.{told, says}
use Rattle.views.proofs.view_column.ViewColumn.open.Goals as goal

pub returns-in_err-check-clause-meaning : goal.returns-in_err-check-clause-meaning
returns-in_err-check-clause-meaning c =
    told c.args.rows (lists c.args.lent) c.from_residual.result (handed_on _ _ c.from_residual.ensures.1 ∙ c.in_err-check.ensures)

pub returns-clause-meaning : goal.returns-clause-meaning
returns-clause-meaning c = says c.args.rows (lists c.args.lent) None c.in_ok-check.ensures
