use Rattle.std.proofs.Common.{◌+◌, ◌-◌, sym, ◌∙◌, arith}
use Rattle.split.proofs.Parts.{prior_front, none_front}
use Rattle.split.proofs.Walks.{before_more, before_nothing}
use Rattle.split.proofs.walk.before_occurrences.Goals as goal

pub returns-in_err-end-clause-place : goal.returns-in_err-end-clause-place
returns-in_err-end-clause-place g c =
    let d = g.F.Searcher.delimiter c.args.finder.now in
    let t = c.args.row.now in
    let e = c.from_residual.ensures in
    e ∙ sym (c.loop-passed.invariant.1 ∙ before_nothing d t _ _ (c.args.n - (c.loop-passed._passed + 1)) (none_front d t _ c.in_err-end.ensures.meaning) (omega arith))

pub loop-passed-preserved : goal.loop-passed-preserved
loop-passed-preserved g c =
    let d = g.F.Searcher.delimiter c.args.finder.now in
    let t = c.args.row.now in
    let n = prior_front d t _ _ c.in_ok-end.ensures.meaning in
    let left = c.args.n - (c.loop-passed._passed + 1) in
    (omega (arith, n.before), c.loop-passed.invariant.1 ∙ before_more d t _ _ _ left n (omega arith))
