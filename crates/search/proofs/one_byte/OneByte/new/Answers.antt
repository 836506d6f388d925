use Rattle.std.proofs.Common.{◌≡◌, length, arith}
use Rattle.search.proofs.Single.{one_is_ascii}
use Rattle.search.proofs.one_byte.OneByte.new.Goals as goal

pub invariant_of-result : goal.invariant_of-result
invariant_of-result c =
    let one : length c.as_bytes.result.now ≡ 1 = omega arith in
    record { ascii = one_is_ascii _ one c.as_bytes.ensures.utf8 }
