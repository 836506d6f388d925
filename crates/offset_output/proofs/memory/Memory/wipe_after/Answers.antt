use Rattle.std.proofs.Common.{◌≡◌, ◌+◌, ◌-◌, pos, arith}
use Rattle.writing.proofs.Wiping.{map_wiped}
use Rattle.offset_output.proofs.memory.Memory.wipe_after.Goals as goal

pub returns-clause-offsets : goal.returns-clause-offsets
returns-clause-offsets g c =
    let num = g.W.Width.number in
    let n = c.args.kept.rows in
    let e : c.args.held.rows + 1 - (n + 1) ≡ c.args.held.rows - n = omega arith in
    let w = c.wipe.ensures in
    rw (w, e) (map_wiped num c.zero.result (pos 0) c.zero.ensures c.args.self.now.offsets.now (n + 1) (c.args.held.rows - n))
