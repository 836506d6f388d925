use Rattle.std.proofs.Common.{◌≡◌, ◌-◌, ◌≤◌, length}
use Rattle.split.specs.Occurrences.{start_before, places_before}
use Rattle.split.proofs.walk.before_occurrences.Given as goal

-- what is left of the walk leads from `end` to where the whole walk leads
abbrev pub invariant-loop-passed : goal.invariant-loop-passed
invariant-loop-passed g l =
    let d = g.F.Searcher.delimiter l.finder in
    (l.end ≤ length l.row) × (start_before (length l.row) (places_before d l.row (length l.row)) l.n ≡ start_before l.end (places_before d l.row l.end) (l.n - l._passed))
