use Rattle.std.proofs.Common.{Some, sym, ap, ◌∙◌}
use Rattle.std.specs.Option.{option_map}
use Rattle.split.specs.Fields.{part}
use Rattle.split.proofs.Seams.{sides, walked_seam}
use Rattle.split.proofs.Reaching.{left_field, left_last, left_gone}
use Rattle.split.proofs.Rows.{end_row, next_row, none_row}
use Rattle.split.proofs.split_nth_finder.Goals as goal

pub returns-in_err-start : goal.returns-in_err-start
returns-in_err-start g c =
    let d = g.F.Searcher.delimiter c.args.finder.now in
    ap (option_map part) c.from_residual.ensures ∙ sym (left_gone d _ _ (end_row d _ _ c.as_bytes-bytes.ensures.value _ _ c.in_err-start.ensures.place))

pub range-requires-clause-start_boundary : goal.range-requires-clause-start_boundary
range-requires-clause-start_boundary g c =
    let d = g.F.Searcher.delimiter c.args.finder.now in
    λ _. walked_seam d _ c.utf8.string (g.met.F.Searcher.texts c.args.finder.now) _ _ (end_row d _ _ c.as_bytes-bytes.ensures.value _ _ c.in_ok-start.ensures.place)

pub range-requires-clause-end_boundary : goal.range-requires-clause-end_boundary
range-requires-clause-end_boundary g c =
    let d = g.F.Searcher.delimiter c.args.finder.now in
    (sides d _ c.utf8.string (g.met.F.Searcher.texts c.args.finder.now) _ (next_row d _ _ c.as_bytes-bytes.ensures.value _ _ c.in-Some.ensures.meaning).here).0

pub range_from-requires : goal.range_from-requires
range_from-requires g c =
    let d = g.F.Searcher.delimiter c.args.finder.now in
    λ _. walked_seam d _ c.utf8.string (g.met.F.Searcher.texts c.args.finder.now) _ _ (end_row d _ _ c.as_bytes-bytes.ensures.value _ _ c.in_ok-start.ensures.place)

pub returns-in-Some : goal.returns-in-Some
returns-in-Some g c =
    let d = g.F.Searcher.delimiter c.args.finder.now in
    let e = c.as_bytes-bytes.ensures.value in
    let s = c.in_ok-start.start in
    ap (λ x. Some (x, s)) c.range.ensures.value
    ∙ sym (left_field d _ _ s _ (end_row d _ _ e _ _ c.in_ok-start.ensures.place) (next_row d _ _ e s _ c.in-Some.ensures.meaning))

pub returns-in-None : goal.returns-in-None
returns-in-None g c =
    let d = g.F.Searcher.delimiter c.args.finder.now in
    let e = c.as_bytes-bytes.ensures.value in
    let s = c.in_ok-start.start in
    ap (λ x. Some (x, s)) c.range_from.ensures.value
    ∙ sym (left_last d _ _ s (end_row d _ _ e _ _ c.in_ok-start.ensures.place) (none_row d _ _ e s c.in-None.ensures.meaning))
