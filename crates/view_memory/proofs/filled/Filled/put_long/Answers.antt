use Rattle.std.proofs.Common.{◌≡◌, ◌+◌, [], ◌∷◌, ◌++◌, length, Some, ap, arith, sym, subst}
use Rattle.text.proofs.Forms.{formed_from_utf8}
use Rattle.copying.proofs.Keeping.{keeps_more}
use Rattle.copying.specs.Keeping.{Keeps}
use Rattle.view_memory.specs.Memories.{counts_of}
use Rattle.view_memory.specs.Fillings.{held_rows}
use Rattle.view_memory.specs.Layout.{buffers_of}
use Rattle.view_memory.proofs.Counting.{count_long, longs_most}
use Rattle.view_memory.proofs.Growing.{placed}
use Rattle.view_memory.proofs.Keeping.{counted, has, rows_again}
use Rattle.view_memory.proofs.Laying.{rows_ordered}
use Rattle.view_memory.proofs.Places.{has_end}
use Rattle.view_memory.proofs.Putting.{long_put}
use Rattle.view_memory.proofs.filled.Filled.put_long.Goals as goal

pub write_long-self-requires-clause-longs : goal.write_long-self-requires-clause-longs
write_long-self-requires-clause-longs c =
    let s = c.args.self.now in
    let l = longs_most (held_rows s) in
    let n = s.counted.0 in
    let k = s.counted.4 in
    omega arith

pub write_long-self-requires-clause-buffer : goal.write_long-self-requires-clause-buffer
write_long-self-requires-clause-buffer c =
    let b = c.place-buffer.ensures.buffer in
    let e = has_end c.args.self.now.has (length c.args.text.now) c.requires.long c.requires.may in
    (omega arith, omega arith)

pub write_long-self-requires-clause-offset : goal.write_long-self-requires-clause-offset
write_long-self-requires-clause-offset c =
    let rows = held_rows c.args.self.now in
    let o = c.place-buffer.ensures.offset in
    let p = (placed (buffers_of rows) (rows_ordered rows) (length c.args.text.now)).near in
    omega arith

pub invariant_of-self : goal.invariant_of-self
invariant_of-self c =
    let s = c.args.self.now in
    let m = s.memory in
    let n = c.write_long-self.new.self in
    let t = c.args.text.now in
    let rows = held_rows s ++ Some t ∷ [] in
    let w = c.write_long-self.ensures in
    let b = c.as_bytes.ensures in
    let p = c.place-buffer.ensures in
    let l : length c.as_bytes.result.now ≡ length t = ap length b.value in
    let h = long_put m n s.held (held_rows s) s.has s.counted c.requires.room t c.as_bytes.result.now b.value (formed_from_utf8 _ b.utf8) w.validity c.requires.long c.requires.may c.place-buffer.result.0 c.place-buffer.result.1 p.buffer p.offset w.views w.ends w.bytes in
    let k = count_long s.held (held_rows s) s.counted t c.requires.long c.place-buffer.result.0 (s.held.value_bytes + length c.as_bytes.result.now) p.buffer (omega arith) in
    rw w.counts (record { has = has n _ rows h k; counted = counted n _ rows h k; keeps = subst (λ rows. Keeps counts_of rows s.kept) (sym (rows_again n _ rows h k)) (keeps_more counts_of (held_rows s) s.kept s.keeps (Some t)) })

pub returns-clause-rows : goal.returns-clause-rows
returns-clause-rows c =
    let s = c.args.self.now in
    let n = c.write_long-self.new.self in
    let t = c.args.text.now in
    let w = c.write_long-self.ensures in
    let b = c.as_bytes.ensures in
    let p = c.place-buffer.ensures in
    let l : length c.as_bytes.result.now ≡ length t = ap length b.value in
    let h = long_put s.memory n s.held (held_rows s) s.has s.counted c.requires.room t c.as_bytes.result.now b.value (formed_from_utf8 _ b.utf8) w.validity c.requires.long c.requires.may c.place-buffer.result.0 c.place-buffer.result.1 p.buffer p.offset w.views w.ends w.bytes in
    let k = count_long s.held (held_rows s) s.counted t c.requires.long c.place-buffer.result.0 (s.held.value_bytes + length c.as_bytes.result.now) p.buffer (omega arith) in
    rw w.counts (rows_again n _ (held_rows s ++ Some t ∷ []) h k)
