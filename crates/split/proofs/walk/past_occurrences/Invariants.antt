use Rattle.std.proofs.Common.{◌≡◌, ◌-◌, ◌≤◌, length}
use Rattle.split.specs.Occurrences.{end_after, places_past}
use Rattle.split.proofs.walk.past_occurrences.Given as goal

-- what is left of the walk leads from `start` to where the whole walk leads
abbrev pub invariant-loop-passed : goal.invariant-loop-passed
invariant-loop-passed g l =
    let d = g.F.Searcher.delimiter l.finder in
    (l.start ≤ length l.row) × (end_after d 0 (places_past d l.row 0) l.n ≡ end_after d l.start (places_past d l.row l.start) (l.n - l._passed))
