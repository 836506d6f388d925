use Rattle.std.proofs.Common.{◌≤◌, None, sym, ap, subst, arith, rules}
use Rattle.offset_layout.proofs.Reading.{rows_are}
use Rattle.offset_output.proofs.Growing.{has, null_counted, null_put}
use Rattle.copying.proofs.Keeping.{keeps_more}
use Rattle.copying.specs.Keeping.{Keeps}
use Rattle.offset_output.specs.Memories.{counted}
use Rattle.copying.proofs.Nulls.{nulls_below}
use Rattle.offset_output.specs.Fillings.{held_rows}
use Rattle.offset_output.proofs.filled.Filled.put_null.Goals as goal

pub overflow_add-self-2 : goal.overflow_add-self-2
overflow_add-self-2 g c =
    let s = c.args.self.now in
    let b = nulls_below (held_rows s) in
    let k = s.has.holds.count in
    let z = ap (λ k. k.nulls) s.has.counts in
    let h : s.held.nulls ≤ s.held.rows = omega arith in
    search rules

pub invariant_of-self : goal.invariant_of-self
invariant_of-self g c =
    let num = g.W.Width.number in
    let s = c.args.self.now in
    let h = null_put num s.memory s.held s.has c.requires c.index-self-rows.result in
    record { has = has num _ _ _ h (null_counted s.held (held_rows s) s.has.counts); keeps = subst (λ rows. Keeps counted rows s.kept) (sym (rows_are h)) (keeps_more counted (held_rows s) s.kept s.keeps None) }

pub returns-clause-rows : goal.returns-clause-rows
returns-clause-rows g c =
    let s = c.args.self.now in
    rows_are (null_put g.W.Width.number s.memory s.held s.has c.requires c.index-self-rows.result)
