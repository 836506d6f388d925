use Rattle.std.proofs.Common.{◌≡◌, ◌+◌, ◌<◌, ◌≤◌, false, cond, [], map, drop}
use Rattle.book.specs.Book.{after_all, answers}
use Rattle.book.specs.Division.{all_taken, parts, sum_told, total}
use Rattle.book.specs.Requests.{Over, asked_by, asked_rows}
use Rattle.output.specs.Rows.{on_rows, row_of}
use Rattle.runs.proofs.windows.make_windows.Given as goal

-- what the windows left give, with what was told so far, is what all windows give, by pieces and by rows
abbrev pub invariant-loop-window : goal.invariant-loop-window
invariant-loop-window g l =
    let O = g.O.Output in
    let o = l.initial.out in
    let t = O.terms o in
    let ask = λ (y : g.row.C.Denot). asked_by t.taken (g.C.Call.request y) in
    let ask_rows = λ (y : g.row.C.Denot). asked_rows (g.C.Call.request y) in
    let all = parts g.C.Divisible.part l.call 0 l.windows in
    let left = parts g.C.Divisible.part l.call l.at (drop l.window-index l.windows) in
    (l.at + total (drop l.window-index l.windows) ≡ total l.windows)
    × (l.rows ≤ l.at)
    × (O.terms l.out ≡ t)
    × (0 < l.window-index → O.pending l.out ≡ [])
    × (after_all (on_rows t.rule) (O.kept l.out) (map ask left) ≡ after_all (on_rows t.rule) (O.kept o) (map ask all))
    × (cond l.all (all_taken (answers (on_rows t.rule) (O.kept l.out) (map ask left))) false ≡ all_taken (answers (on_rows t.rule) (O.kept o) (map ask all)))
    × (l.rows + sum_told (answers (on_rows t.rule) (O.kept l.out) (map ask left)) ≡ sum_told (answers (on_rows t.rule) (O.kept o) (map ask all)))
    × (Over t.base (g.C.Call.request l.call).drawn
    → (after_all t.rule (map row_of (O.kept l.out)) (map ask_rows left) ≡ after_all t.rule (map row_of (O.kept o)) (map ask_rows all))
    × (cond l.all (all_taken (answers t.rule (map row_of (O.kept l.out)) (map ask_rows left))) false ≡ all_taken (answers t.rule (map row_of (O.kept o)) (map ask_rows all)))
    × (l.rows + sum_told (answers t.rule (map row_of (O.kept l.out)) (map ask_rows left)) ≡ sum_told (answers t.rule (map row_of (O.kept o)) (map ask_rows all))))
