use Rattle.std.proofs.Common.{◌-◌, map, length, pos, ap, ◌∙◌}
use Rattle.std.proofs.lemmas.List.{length-map}
use Rattle.writing.proofs.Wiping.{map_wiped, wiped_all}
use Rattle.offset_output.proofs.memory.Memory.clear.Goals as goal

pub returns-clause-offsets : goal.returns-clause-offsets
returns-clause-offsets g c =
    let num = g.W.Width.number in
    let os = c.args.self.now.offsets.now in
    ap (map num) c.wipe.ensures ∙ (map_wiped num c.zero.result (pos 0) c.zero.ensures os 0 (length os - 0) ∙ wiped_all (pos 0) (map num os) (length os) (length-map os num))
