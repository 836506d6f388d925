use Rattle.std.proofs.Common.{◌≡◌, take, sym, ap, subst}
use Rattle.copying.proofs.Keeping.{keeps_cut}
use Rattle.copying.specs.Keeping.{Keeps}
use Rattle.offset_output.specs.Fillings.{held_rows}
use Rattle.offset_output.specs.Memories.{counted, rows_of}
use Rattle.offset_layout.proofs.Holding.{cut_rows, size_cut}
use Rattle.offset_layout.proofs.Reading.{rows_are}
use Rattle.offset_output.proofs.Growing.{has}
use Rattle.offset_output.proofs.filling.FilledStorage.cut.Goals as goal

pub wipe_after-requires-clause-bytes : goal.wipe_after-requires-clause-bytes
wipe_after-requires-clause-bytes g c =
    let s = c.args.self.now in
    size_cut s.has.holds s.kept.rows s.kept.value_bytes c.if-self.true (sym (ap (λ k. k.value_bytes) s.keeps.counted))

pub invariant_of-self : goal.invariant_of-self
invariant_of-self g c =
    let num = g.W.Width.number in
    let s = c.args.self.now in
    let w = c.wipe_after.ensures in
    let h = cut_rows s.has.holds s.kept.rows s.kept.value_bytes c.if-self.true (sym (ap (λ k. k.value_bytes) s.keeps.counted)) in
    let r : rows_of num c.wipe_after.new.self s.kept.rows ≡ take s.kept.rows (held_rows s) = rw (w.offsets, w.values, w.validity) (rows_are h) in
    record { has = has num _ _ _ (rw (w.offsets, w.values, w.validity) h) s.keeps.counted; keeps = subst (λ rows. Keeps counted rows s.kept) (sym r) (keeps_cut counted (held_rows s) s.kept s.keeps) }

pub returns-then-self-clause-rows : goal.returns-then-self-clause-rows
returns-then-self-clause-rows g c =
    let s = c.args.self.now in
    let w = c.wipe_after.ensures in
    rw (w.offsets, w.values, w.validity) (rows_are (cut_rows s.has.holds s.kept.rows s.kept.value_bytes c.if-self.true (sym (ap (λ k. k.value_bytes) s.keeps.counted))))
