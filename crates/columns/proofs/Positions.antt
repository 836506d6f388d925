-- What is known of positions that may be opened.
use Rattle.std.proofs.Common.{◌≡◌, ℕ, ◌≤◌, true, length, arith}
use Rattle.std.proofs.lemmas.Bool.Decides.{nat_tests}
use Rattle.source.specs.Verdicts.{accepts}
use Rattle.columns.specs.Positions.{Numbers, enough_numbers, positions_verdict}

pub has_values : (n : ℕ) (m : Numbers) → accepts (positions_verdict n m) ≡ true → n ≤ length m.values
unfolding enough_numbers
has_values n m h = grind (arith, nat_tests)
