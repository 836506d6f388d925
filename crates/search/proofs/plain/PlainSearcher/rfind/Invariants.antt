use Rattle.std.proofs.Common.{◌≡◌, ℕ, ◌+◌, ◌<◌, get_or}
use Rattle.search.specs.Places.{Stands}
use Rattle.search.proofs.plain.PlainSearcher.rfind.Given as goal

abbrev pub invariant-loop-k : goal.invariant-loop-k
invariant-loop-k l = (j : ℕ) → j < l.k → get_or l.text (l.at + j) 0 ≡ get_or l.delimiter j 0

abbrev pub invariant-places : goal.invariant-places
invariant-places l = (q : ℕ) → l.at < q → Stands l.delimiter l.text q → ⊥
