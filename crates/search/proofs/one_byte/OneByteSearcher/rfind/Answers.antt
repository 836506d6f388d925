use Rattle.std.proofs.Common.{rules}
use Rattle.search.proofs.Nearest.{highest_is}
use Rattle.search.proofs.Standing.{one_highest}
use Rattle.search.proofs.one_byte.OneByteSearcher.rfind.Goals as goal

pub returns : goal.returns
returns c =
    let m = highest_is _ _ _ (one_highest c.args.text.now c.args.self.now.byte c.rposition.result (search rules)) in
    record { place = m.0; meaning = m.1 }
