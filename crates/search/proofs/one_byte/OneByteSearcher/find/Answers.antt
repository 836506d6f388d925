use Rattle.std.proofs.Common.{rules}
use Rattle.search.proofs.Nearest.{lowest_is}
use Rattle.search.proofs.Standing.{one_lowest}
use Rattle.search.proofs.one_byte.OneByteSearcher.find.Goals as goal

pub returns : goal.returns
returns c =
    let m = lowest_is _ _ _ (one_lowest c.args.text.now c.args.self.now.byte c.position.result (search rules)) in
    record { place = m.0; meaning = m.1 }
