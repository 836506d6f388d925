-- Memory that holds rows reads as them.
use Rattle.std.proofs.Common.{◌≡◌, List, [], take, sym, refl, ap, ◌∙◌, subst, arith}
use Rattle.std.proofs.lemmas.List.{take_all}
use Rattle.copying.specs.Keeping.{Keeps}
use Rattle.output.specs.declared.Counts.{Counts}
use Rattle.source.specs.Rows.{Row}
use Rattle.view_memory.specs.Layout.{buffers_of}
use Rattle.view_memory.specs.Memories.{Counted, Has, counts_of, rows_of}
use Rattle.view_memory.specs.declared.memory.Memory.{Memory}
use Rattle.view_memory.proofs.Decode.{rows_are}

module _ (m : Memory) (c : Counts) (rows : List Row) (h : Has m rows) (k : Counted c rows) where
  pub rows_again : rows_of m c ≡ rows
  unfolding rows_of
  rows_again = rows_are h c.rows c.buffers k.0 k.3

  pub has : Has m (rows_of m c)
  has = subst (Has m) (sym rows_again) h

  pub counted : Counted c (rows_of m c)
  counted = subst (Counted c) (sym rows_again) k

pub none_counted : (c : Counts) → (c.rows ≡ 0) × ((c.nulls ≡ 0) × ((c.value_bytes ≡ 0) × ((c.buffers ≡ 0) × (c.long_views ≡ 0)))) → Counted c []
unfolding buffers_of
none_counted c e = (e.0, e.1.0, e.1.1.0, e.1.1.1.0, e.1.1.1.1)

pub counts_are : (c : Counts) (rows : List Row) → Counted c rows → c ≡ counts_of rows
counts_are c rows k =
    let r = k.0 in
    let n = k.1 in
    let u = k.2 in
    let b = k.3 in
    let l = k.4 in
    let e : c ≡ record { rows = c.rows; nulls = c.nulls; value_bytes = c.value_bytes; buffers = c.buffers; long_views = c.long_views } = refl in
    cc

pub counts_again : (c : Counts) (rows : List Row) → c ≡ counts_of rows → Counted c rows
counts_again c rows e = subst (λ k. Counted k rows) (sym e) (refl, refl, refl, refl, refl)

pub none_kept : (m : Memory) (kept held : Counts) → Counted kept [] → Counted held [] → Keeps counts_of (rows_of m held) kept
none_kept m kept held k h =
    let z = k.0 in
    let t : take kept.rows (rows_of m held) ≡ [] = ap (λ n. take n (rows_of m held)) z in
    record { first = omega arith; counted = counts_are kept [] k ∙ ap counts_of (sym t) }

-- all rows are kept
pub all_kept : (m : Memory) (held : Counts) → Counted held (rows_of m held) → Keeps counts_of (rows_of m held) held
all_kept m held k =
    let n = k.0 in
    record { first = omega arith; counted = counts_are held (rows_of m held) k ∙ ap counts_of (sym (take_all held.rows (rows_of m held) (omega arith))) }
