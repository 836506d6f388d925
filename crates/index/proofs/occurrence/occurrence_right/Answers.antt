use Rattle.std.proofs.Common.{sym, ◌∙◌}
use Rattle.index.proofs.Picking.{right_gone, right_at}
use Rattle.index.proofs.occurrence.occurrence_right.Goals as goal

pub returns-in_err-end-clause-place : goal.returns-in_err-end-clause-place
returns-in_err-end-clause-place g c = c.from_residual.ensures ∙ sym (right_gone (g.F.Searcher.delimiter c.args.finder.now) c.args.row.now _ c.in_err-end.ensures.place)

pub returns-clause-place : goal.returns-clause-place
returns-clause-place g c = right_at (g.F.Searcher.delimiter c.args.finder.now) c.args.row.now _ _ c.rfind.result c.in_ok-end.ensures.place c.rfind.ensures.meaning
