use Rattle.std.proofs.Common.{ℕ, List, subst}
use Rattle.search.specs.Places.{Stands}
use Rattle.split.proofs.Seams.{sides}
use Rattle.index.proofs.substr_index_slice_finder.Goals as goal

pub range-requires-clause-end_boundary : goal.range-requires-clause-end_boundary
range-requires-clause-end_boundary g c =
    let d = g.F.Searcher.delimiter c.args.finder.now in
    let here = subst (λ (x : List ℕ). Stands d x c.in-Some.pos) c.as_bytes.ensures.value c.in-Some.ensures.here in
    (sides d _ c.utf8.string (g.met.F.Searcher.texts c.args.finder.now) _ here).0
