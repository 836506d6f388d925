use Rattle.std.proofs.Common.{◌≡◌, ℕ, ◌+◌, List, length, sym, ap, subst}
use Rattle.std.specs.Str.{IsCharBoundary}
use Rattle.search.specs.Places.{Stands}
use Rattle.split.proofs.Seams.{sides}
use Rattle.index.proofs.substr_index_rslice_finder.Goals as goal

pub range_from-requires : goal.range_from-requires
range_from-requires g c =
    let d = g.F.Searcher.delimiter c.args.finder.now in
    let here = subst (λ (x : List ℕ). Stands d x c.in-Some.pos) c.as_bytes.ensures.value c.in-Some.ensures.here in
    let size : c.in-Some.pos + length d ≡ c.in-Some.pos + c.len.result = ap (λ k. c.in-Some.pos + k) (sym c.len.ensures) in
    λ _. subst (IsCharBoundary c.args.string.now) size (sides d _ c.utf8.string (g.met.F.Searcher.texts c.args.finder.now) _ here).1
