use Rattle.std.proofs.Common.{◌≡◌, [], refl, arith}
use Rattle.offset_layout.proofs.Holding.{no_rows}
use Rattle.offset_layout.specs.Layout.{used}
use Rattle.offset_output.proofs.Cleared.{cleared}
use Rattle.offset_output.proofs.Growing.{has, none_counted}
use Rattle.offset_output.specs.Memories.{counted}
use Rattle.offset_output.proofs.filling.FilledStorage.cleared.Goals as goal

pub invariant_of-result : goal.invariant_of-result
unfolding used
invariant_of-result g c =
    let e = c.clear.ensures in
    let k : c.default.result ≡ counted [] = none_counted c.default.result c.default.ensures in
    let h : c.default-2.result ≡ counted [] = none_counted c.default-2.result c.default-2.ensures in
    record {
      has = rw h (has g.W.Width.number c.clear.new.self [] (counted []) (no_rows _ _ _ _ _ _ e.offsets e.values e.validity) refl);
      keeps = rw (k, h) (record { first = omega arith; counted = refl });
    }

pub returns-clause-zeros : goal.returns-clause-zeros
returns-clause-zeros g c =
    let e = c.clear.ensures in
    cleared g.W.Width.number c.args.lent c.clear.new.self e.offsets e.values e.validity
