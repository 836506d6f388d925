use Rattle.trim.proofs.Rules.{determined, untouched, emptied, anchored}
use Rattle.trim.proofs.trimmer.trim_laws.Goals as goal

pub returns : goal.returns
returns c = record { determined = determined; untouched = untouched; emptied = emptied; anchored = anchored }
