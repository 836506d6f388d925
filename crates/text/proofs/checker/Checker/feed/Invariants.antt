-- What is left leads from the state of now to where the whole part leads.
use Rattle.std.proofs.Common.{◌≡◌, drop}
use Rattle.text.specs.Steps.{run}
use Rattle.text.proofs.checker.Checker.feed.Given as goal

abbrev pub invariant-loop-byte : goal.invariant-loop-byte
invariant-loop-byte l = run l.self.state (drop l.byte-index l.part) ≡ run l.initial.self.state l.part
