use Rattle.std.proofs.Common.{sym, ◌∙◌}
use Rattle.split.proofs.Parts.{next_rest, none_rest}
use Rattle.index.proofs.Picking.{left_gone, left_here, left_none}
use Rattle.index.proofs.occurrence.occurrence_left.Goals as goal

pub returns-in_err-start-clause-place : goal.returns-in_err-start-clause-place
returns-in_err-start-clause-place g c = c.from_residual.ensures ∙ sym (left_gone (g.F.Searcher.delimiter c.args.finder.now) c.args.row.now _ c.in_err-start.ensures.place)

pub returns-in_err-find-clause-place : goal.returns-in_err-find-clause-place
returns-in_err-find-clause-place g c =
    let d = g.F.Searcher.delimiter c.args.finder.now in
    let t = c.args.row.now in
    c.from_residual-in_err-find.ensures ∙ sym (left_none d t _ _ c.in_ok-start.ensures.place (none_rest d t _ c.in_err-find.ensures.meaning))

pub returns : goal.returns
returns g c =
    let d = g.F.Searcher.delimiter c.args.finder.now in
    let t = c.args.row.now in
    let n = next_rest d t _ _ c.in_ok-find.ensures.meaning in
    record { place = sym (left_here d t _ _ _ c.in_ok-start.ensures.place n); here = n.here }
