use Rattle.std.proofs.Common.{◌≡◌, ◌+◌, length, take, Some, sym, ap, ◌∙◌, subst}
use native.Mathlib.Nat.{sub-zero}
use Rattle.std.specs.Option.{option_map}
use Rattle.std.specs.Str.{IsCharBoundary}
use Rattle.std.specs.List.{between}
use Rattle.split.specs.Fields.{part}
use Rattle.split.proofs.Seams.{sides, walked_back_seam}
use Rattle.split.proofs.Reaching.{right_field, right_last, right_gone}
use Rattle.split.proofs.Rows.{start_row, prior_row, none_before_row}
use Rattle.split.proofs.rsplit_nth_finder.Goals as goal

pub returns-in_err-end : goal.returns-in_err-end
returns-in_err-end g c =
    let d = g.F.Searcher.delimiter c.args.finder.now in
    ap (option_map part) c.from_residual.ensures ∙ sym (right_gone d _ _ (start_row d _ _ c.as_bytes-bytes.ensures.value _ _ c.in_err-end.ensures.place))

pub range-requires-clause-start_boundary : goal.range-requires-clause-start_boundary
range-requires-clause-start_boundary g c =
    let d = g.F.Searcher.delimiter c.args.finder.now in
    let t = c.args.string.now in
    let e = c.as_bytes-bytes.ensures.value in
    let n = prior_row d _ t e _ c.in-Some.pos c.in-Some.ensures.meaning in
    let size : c.in-Some.pos + length d ≡ c.in-Some.pos + c.len.result = ap (λ k. c.in-Some.pos + k) (sym c.len.ensures) in
    λ _. subst (IsCharBoundary t) size (sides d t c.utf8.string (g.met.F.Searcher.texts c.args.finder.now) c.in-Some.pos n.here).1

pub range-requires-clause-end_boundary : goal.range-requires-clause-end_boundary
range-requires-clause-end_boundary g c =
    let d = g.F.Searcher.delimiter c.args.finder.now in
    walked_back_seam d _ c.utf8.string (g.met.F.Searcher.texts c.args.finder.now) _ _ (start_row d _ _ c.as_bytes-bytes.ensures.value _ _ c.in_ok-end.ensures.place)

pub range-requires-in-None-clause-end_boundary : goal.range-requires-in-None-clause-end_boundary
range-requires-in-None-clause-end_boundary g c =
    let d = g.F.Searcher.delimiter c.args.finder.now in
    walked_back_seam d _ c.utf8.string (g.met.F.Searcher.texts c.args.finder.now) _ _ (start_row d _ _ c.as_bytes-bytes.ensures.value _ _ c.in_ok-end.ensures.place)

pub returns-in-Some : goal.returns-in-Some
returns-in-Some g c =
    let d = g.F.Searcher.delimiter c.args.finder.now in
    let t = c.args.string.now in
    let e = c.as_bytes-bytes.ensures.value in
    let to = c.in_ok-end.end in
    let n = prior_row d _ t e _ c.in-Some.pos c.in-Some.ensures.meaning in
    let size : c.in-Some.pos + c.len.result ≡ c.in-Some.pos + length d = ap (λ k. c.in-Some.pos + k) c.len.ensures in
    ap (λ x. Some (x, c.in-Some.pos + c.len.result)) c.range.ensures.value
    ∙ ap (λ s. Some (between s to t, s)) size
    ∙ sym (right_field d t _ to c.in-Some.pos (start_row d _ t e _ _ c.in_ok-end.ensures.place) n)

pub returns-in-None : goal.returns-in-None
returns-in-None g c =
    let d = g.F.Searcher.delimiter c.args.finder.now in
    let t = c.args.string.now in
    let e = c.as_bytes-bytes.ensures.value in
    let to = c.in_ok-end.end in
    ap (λ x. Some (x, 0)) c.range-in-None.ensures.value
    ∙ ap (λ n. Some (take n t, 0)) (sub-zero to)
    ∙ sym (right_last d t _ to (start_row d _ t e _ _ c.in_ok-end.ensures.place) (none_before_row d _ t e to c.in-None.ensures.meaning))
