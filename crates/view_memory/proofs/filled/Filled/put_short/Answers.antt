use Rattle.std.proofs.Common.{[], ◌∷◌, ◌++◌, Some, sym, subst}
use Rattle.text.proofs.Forms.{formed_from_utf8}
use Rattle.copying.proofs.Keeping.{keeps_more}
use Rattle.copying.specs.Keeping.{Keeps}
use Rattle.view_memory.specs.Memories.{counts_of}
use Rattle.view_memory.specs.Fillings.{held_rows}
use Rattle.view_memory.proofs.Counting.{count_short}
use Rattle.view_memory.proofs.Keeping.{counted, has, rows_again}
use Rattle.view_memory.proofs.Putting.{short_put}
use Rattle.view_memory.proofs.filled.Filled.put_short.Goals as goal

pub invariant_of-self : goal.invariant_of-self
invariant_of-self c =
    let s = c.args.self.now in
    let m = s.memory in
    let n = c.write_short-self.new.self in
    let t = c.args.text.now in
    let rows = held_rows s ++ Some t ∷ [] in
    let w = c.write_short-self.ensures in
    let b = c.as_bytes.ensures in
    let h = short_put m n s.held (held_rows s) s.has s.counted c.requires.room t c.as_bytes.result.now b.value (formed_from_utf8 _ b.utf8) w.validity c.requires.short w.views w.ends w.bytes in
    let k = count_short s.held (held_rows s) s.counted t c.requires.short in
    rw w.counts (record { has = has n _ rows h k; counted = counted n _ rows h k; keeps = subst (λ rows. Keeps counts_of rows s.kept) (sym (rows_again n _ rows h k)) (keeps_more counts_of (held_rows s) s.kept s.keeps (Some t)) })

pub returns-clause-rows : goal.returns-clause-rows
returns-clause-rows c =
    let s = c.args.self.now in
    let n = c.write_short-self.new.self in
    let t = c.args.text.now in
    let w = c.write_short-self.ensures in
    let b = c.as_bytes.ensures in
    rw w.counts (rows_again n _ (held_rows s ++ Some t ∷ []) (short_put s.memory n s.held (held_rows s) s.has s.counted c.requires.room t c.as_bytes.result.now b.value (formed_from_utf8 _ b.utf8) w.validity c.requires.short w.views w.ends w.bytes) (count_short s.held (held_rows s) s.counted t c.requires.short))
