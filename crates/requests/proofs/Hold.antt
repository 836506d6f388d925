-- The sample rows, computed.
use Rattle.std.proofs.Common.{refl}
use lib.Utf8.{encode}
use Rattle.std.specs.Str.{chars}
use Rattle.search.specs.Places.{stands}
use Rattle.split.specs.Occurrences.{upward, downward}
use Rattle.trim.specs.Trim.{trimmed}
use Rattle.requests.specs.Samples.{SamplesHold}

pub samples_hold : SamplesHold
unfolding stands upward downward trimmed chars encode
samples_hold = refl
