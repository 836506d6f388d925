use Rattle.std.proofs.Common.{IsUtf8, rules}
use Rattle.trim.proofs.Sets.{contains_among}
use Rattle.trim.proofs.chars.holds.Goals as goal

pub returns : goal.returns
returns c =
    let u : IsUtf8 c.args.set.now = search rules in
    let h = contains_among c.args.set.now c.args.c c.contains.result u c.contains.ensures.cases in
    cc
