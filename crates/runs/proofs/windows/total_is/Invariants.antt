use Rattle.std.proofs.Common.{◌≡◌, ◌+◌, ◌≤◌, drop}
use Rattle.book.specs.Division.{total}
use Rattle.runs.proofs.windows.total_is.Given as goal

abbrev pub invariant-loop-window : goal.invariant-loop-window
invariant-loop-window l = (l.sum ≤ l.rows) × (l.sum + total (drop l.window-index l.windows) ≡ total l.windows)
