use Rattle.std.proofs.Common.{◌≡◌, ◌-◌, take, sym, refl, ap, ◌∙◌, arith}
use Rattle.std.proofs.lemmas.List.{take-take}
use Rattle.std.proofs.lemmas.Slice.Eq.{slice_eq-Decides}
use Rattle.std.proofs.lemmas.Bool.Decides.{Decides-eqb}
use Rattle.views.specs.Layout.{part, place, size}
use Rattle.views.specs.Reading.{held}
use Rattle.views.proofs.Views.{fits_compared}
use Rattle.views.proofs.buffers.CheckedBuffers.fits.Goals as goal

pub returns : goal.returns
returns c =
    let d = held c.args.self.now.buffers in
    let v = c.args.view.bytes.now in
    let q : take (4 - 0) c.long_text.result.now ≡ part (place d v) 4 d.bytes = ap (take 4) c.long_text.ensures.value ∙ take-take 4 (size v) _ (omega arith) in
    fits_compared d v _ _ _ (omega arith) (omega arith) (sym c.if-not-holds.ensures) refl q (slice_eq-Decides Decides-eqb _ _ _ c.eq.ensures)
