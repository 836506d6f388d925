use Rattle.std.proofs.Common.{◌≡◌, ◌+◌, ◌-◌, length, sym, ap, ◌∙◌, arith}
use Rattle.split.specs.Occurrences.{end_after, places_past}
use Rattle.split.proofs.Parts.{next_rest, none_rest}
use Rattle.split.proofs.Walks.{past_more, past_nothing}
use Rattle.split.proofs.walk.past_occurrences.Goals as goal

pub returns-in_err-start-clause-place : goal.returns-in_err-start-clause-place
returns-in_err-start-clause-place g c =
    let d = g.F.Searcher.delimiter c.args.finder.now in
    let t = c.args.row.now in
    let e = c.from_residual.ensures in
    e ∙ sym (c.loop-passed.invariant.1 ∙ past_nothing d t _ _ (c.args.n - (c.loop-passed._passed + 1)) (none_rest d t _ c.in_err-start.ensures.meaning) (omega arith))

pub loop-passed-preserved : goal.loop-passed-preserved
loop-passed-preserved g c =
    let d = g.F.Searcher.delimiter c.args.finder.now in
    let t = c.args.row.now in
    let n = next_rest d t _ _ c.in_ok-start.ensures.meaning in
    let left = c.args.n - (c.loop-passed._passed + 1) in
    let same : (c.loop-passed.start + c.in_ok-start.field-0) + length d ≡ c.loop-passed.start + (c.in_ok-start.field-0 + c.len.result) = omega arith in
    (omega (arith, n.here.within), c.loop-passed.invariant.1 ∙ past_more d t _ _ _ left n (omega arith) ∙ ap (λ s. end_after d s (places_past d t s) left) same)
