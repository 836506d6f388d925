use Rattle.std.proofs.Common.{◌≡◌, ◌++◌, map, drop}
use Rattle.book.specs.Book.{fed}
use Rattle.book.specs.Requests.{Over, asked_by, asked_rows}
use Rattle.output.specs.Rows.{on_rows, row_of}
use Rattle.calls.proofs.making.fill.Given as goal

-- what is left gives what the whole gives, by pieces and by rows
abbrev pub invariant-loop-row : goal.invariant-loop-row
invariant-loop-row g l =
    let O = g.O.Output in
    let t = O.terms l.initial.out in
    let q = g.C.Call.request l.call in
    (O.kept l.out ≡ O.kept l.initial.out)
    × (O.terms l.out ≡ t)
    × (fed (on_rows t.rule) (O.kept l.initial.out ++ O.pending l.out) l.row (drop l.row (asked_by t.taken q).offers)
    ≡ fed (on_rows t.rule) (O.kept l.initial.out ++ O.pending l.initial.out) 0 (asked_by t.taken q).offers)
    × (Over t.base q.drawn
    → fed t.rule (map row_of (O.kept l.initial.out ++ O.pending l.out)) l.row (drop l.row (asked_rows q).offers)
    ≡ fed t.rule (map row_of (O.kept l.initial.out ++ O.pending l.initial.out)) 0 (asked_rows q).offers)
