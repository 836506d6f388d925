use Rattle.std.proofs.Common.{None, [], ◌∷◌, ◌++◌, arith, sym, subst}
use Rattle.copying.proofs.Nulls.{nulls_below}
use Rattle.copying.proofs.Keeping.{keeps_more}
use Rattle.copying.specs.Keeping.{Keeps}
use Rattle.view_memory.specs.Memories.{counts_of}
use Rattle.view_memory.specs.Fillings.{held_rows}
use Rattle.view_memory.proofs.Counting.{count_null}
use Rattle.view_memory.proofs.Keeping.{counted, has, rows_again}
use Rattle.view_memory.proofs.Writes.{push_null}
use Rattle.view_memory.proofs.filled.Filled.put_null.Goals as goal

pub write_null-self-requires-clause-nulls : goal.write_null-self-requires-clause-nulls
write_null-self-requires-clause-nulls c =
    let s = c.args.self.now in
    let n = nulls_below (held_rows s) in
    let a = s.counted.0 in
    let b = s.counted.1 in
    omega arith

pub invariant_of-self : goal.invariant_of-self
invariant_of-self c =
    let s = c.args.self.now in
    let m = s.memory in
    let rows = held_rows s ++ None ∷ [] in
    let h = push_null s.has s.held.rows s.counted.0 c.requires in
    let k = count_null s.held (held_rows s) s.counted in
    rw c.write_null-self.ensures (record { has = has m _ rows h k; counted = counted m _ rows h k; keeps = subst (λ rows. Keeps counts_of rows s.kept) (sym (rows_again m _ rows h k)) (keeps_more counts_of (held_rows s) s.kept s.keeps None) })

pub returns-clause-rows : goal.returns-clause-rows
returns-clause-rows c =
    let s = c.args.self.now in
    rw c.write_null-self.ensures (rows_again s.memory _ (held_rows s ++ None ∷ []) (push_null s.has s.held.rows s.counted.0 c.requires) (count_null s.held (held_rows s) s.counted))
