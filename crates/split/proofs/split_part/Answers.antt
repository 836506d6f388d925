use Rattle.std.proofs.Common.{rules}
use Rattle.split.proofs.Joining.{rejoined, uncut, lowest_first, highest_first}
use Rattle.split.proofs.split_part.Goals as goal

pub returns-then-position-eq0 : goal.returns-then-position-eq0
returns-then-position-eq0 g c = record { answer = search rules; lowest_first = lowest_first; highest_first = highest_first; rejoined = rejoined; uncut = uncut }

pub returns : goal.returns
returns g c = record { answer = search rules; lowest_first = lowest_first; highest_first = highest_first; rejoined = rejoined; uncut = uncut }
