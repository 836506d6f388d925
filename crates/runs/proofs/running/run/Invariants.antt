use Rattle.std.proofs.Common.{◌≡◌, ◌≤◌, [], ◌++◌, map, length, drop, vec_items, vec_len, vec_capacity}
use Rattle.book.specs.Book.{after_all, answers}
use Rattle.book.specs.OnTerms.{all_kept_on, answers_on}
use Rattle.book.specs.Requests.{AllOver, asked_rows}
use Rattle.output.specs.Rows.{row_of}
use Rattle.runs.proofs.running.run.Given as goal

-- what is left gives what the whole list gives, by pieces and by rows
abbrev pub invariant-loop-number : goal.invariant-loop-number
invariant-loop-number g l =
    let O = g.O.Output in
    let o = l.initial.out in
    let t = O.terms o in
    let qs = g.L.CallList.requests l.calls in
    let left = drop l.number qs in
    (vec_len l.told ≡ l.number)
    × (length qs ≤ vec_capacity l.told)
    × (O.pending l.out ≡ [])
    × (O.terms l.out ≡ t)
    × (all_kept_on t (O.kept l.out) left ≡ all_kept_on t (O.kept o) qs)
    × (vec_items l.told ++ answers_on t (O.kept l.out) left ≡ answers_on t (O.kept o) qs)
    × (AllOver t.base qs → after_all t.rule (map row_of (O.kept l.out)) (map asked_rows left) ≡ after_all t.rule (map row_of (O.kept o)) (map asked_rows qs))
    × (AllOver t.base qs → vec_items l.told ++ answers t.rule (map row_of (O.kept l.out)) (map asked_rows left) ≡ answers t.rule (map row_of (O.kept o)) (map asked_rows qs))
