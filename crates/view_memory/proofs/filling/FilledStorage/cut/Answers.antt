use Rattle.std.proofs.Common.{take, refl, arith, sym, ap, subst}
use Rattle.copying.proofs.Keeping.{keeps_cut}
use Rattle.copying.specs.Keeping.{Keeps}
use Rattle.view_memory.specs.Memories.{counts_of}
use Rattle.view_memory.specs.Fillings.{held_rows}
use Rattle.view_memory.proofs.Keeping.{counted, counts_again, has, rows_again}
use Rattle.view_memory.proofs.Writes.{bytes_order, cut_rows, ends_order}
use Rattle.view_memory.proofs.filling.FilledStorage.cut.Goals as goal

pub wipe_after-requires-clause-buffers : goal.wipe_after-requires-clause-buffers
wipe_after-requires-clause-buffers c =
    let s = c.args.self.now in
    let n = s.counted.0 in
    let k = s.counted.3 in
    let j = ap (λ c. c.buffers) s.keeps.counted in
    let b = c.if-self.true in
    let o = ends_order (held_rows s) s.kept.rows (omega arith) in
    omega arith

pub wipe_after-requires-clause-bytes : goal.wipe_after-requires-clause-bytes
wipe_after-requires-clause-bytes c =
    let s = c.args.self.now in
    let n = s.counted.0 in
    let w = s.counted.2 in
    let u = ap (λ c. c.value_bytes) s.keeps.counted in
    let b = c.if-self.true in
    let o = bytes_order (held_rows s) s.kept.rows (omega arith) in
    omega arith

pub invariant_of-self : goal.invariant_of-self
invariant_of-self c =
    let s = c.args.self.now in
    let w = c.wipe_after.ensures in
    let k = counts_again s.kept (take s.kept.rows (held_rows s)) s.keeps.counted in
    let h = cut_rows s.has s.kept.rows s.held.rows s.kept.buffers s.held.buffers s.kept.value_bytes s.held.value_bytes c.if-self.true s.counted.0 k.3 s.counted.3 k.2 s.counted.2 _ _ _ _ _ w.views refl w.validity w.ends w.bytes in
    record {
      has = has c.wipe_after.new.self s.kept (take s.kept.rows (held_rows s)) h k;
      counted = counted c.wipe_after.new.self s.kept (take s.kept.rows (held_rows s)) h k;
      keeps = subst (λ rows. Keeps counts_of rows s.kept) (sym (rows_again c.wipe_after.new.self s.kept (take s.kept.rows (held_rows s)) h k)) (keeps_cut counts_of (held_rows s) s.kept s.keeps);
    }

pub returns-then-self-clause-rows : goal.returns-then-self-clause-rows
returns-then-self-clause-rows c =
    let s = c.args.self.now in
    let w = c.wipe_after.ensures in
    let k = counts_again s.kept (take s.kept.rows (held_rows s)) s.keeps.counted in
    rows_again c.wipe_after.new.self s.kept (take s.kept.rows (held_rows s)) (cut_rows s.has s.kept.rows s.held.rows s.kept.buffers s.held.buffers s.kept.value_bytes s.held.value_bytes c.if-self.true s.counted.0 k.3 s.counted.3 k.2 s.counted.2 _ _ _ _ _ w.views refl w.validity w.ends w.bytes) k
