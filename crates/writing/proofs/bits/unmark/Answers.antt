use Rattle.std.proofs.Common.{◌≡◌, ◌*◌, ◌/◌, ◌%◌, ◌^◌, get_or, arith}
use Rattle.std.proofs.lemmas.Nat.{and_mask, one_shl}
use Rattle.writing.proofs.bits.unmark.Goals as goal

pub returns : goal.returns
returns c =
    let i = c.args.row in
    let o : (1 * 2 ^ (i % 8)) % 2 ^ 8 ≡ 2 ^ (i % 8) = one_shl (i % 8) 8 (omega arith) in
    let m = and_mask (get_or c.args.bitmap.now (i / 8) 0) (i % 8) in
    cc
