use Rattle.std.proofs.Common.{◌≡◌, ℕ, ◌<◌, get_or}
use Rattle.writing.proofs.bytes.wipe.Given as goal

-- those before are zero
abbrev pub invariant-loop-number : goal.invariant-loop-number
invariant-loop-number g l = (k : ℕ) (d : g.row.T.Denot) → k < l.number-index → get_or l.number-items k d ≡ l.zero
