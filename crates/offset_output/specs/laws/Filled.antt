-- What is known of memory with rows in it: all of it by the rows, and what the rule refuses a row for.
use Rattle.std.specs.Prelude.{◌≡◌, ℕ, List, map, length, ℤ}
use Rattle.std.proofs.Common.{ap, ◌∙◌}
use Rattle.std.proofs.lemmas.List.{length-map}
use Rattle.offset_layout.specs.Layout.{offsets_of, values_of}
use Rattle.offset_layout.proofs.Judging.{own_faults}
use Rattle.output.specs.Rows.{OwnFault}
use Rattle.output.specs.declared.Counts.{Counts}
use Rattle.source.specs.Rows.{Row}
use Rattle.offset_output.specs.Memories.{Has, capacity_of, image, laid, memory_of, rows_of, rule_of, sizes_of}
use Rattle.offset_output.specs.declared.memory.Memory.{Memory}

pub shown : {W : Type 0} (number : W → ℤ) (m : Memory W) (c : Counts) → Has number m c → memory_of number m ≡ image (sizes_of m) (rows_of number m c.rows)
shown number m c h =
    let rows : List Row = rows_of number m c.rows in
    let l = length-map m.offsets.now number in
    let o : map number m.offsets.now ≡ offsets_of (length m.offsets.now) rows = h.holds.offsets_are ∙ ap (λ n. offsets_of n rows) l in
    ap (λ x. laid x m.values.now m.validity.now) o
    ∙ (ap (λ x. laid (offsets_of (length m.offsets.now) rows) x m.validity.now) h.holds.values_are ∙ ap (laid (offsets_of (length m.offsets.now) rows) (values_of (length m.values.now) rows)) h.holds.bitmap_is)

pub faults : {W : Type 0} (most : ℕ) (m : Memory W) (before : List Row) (row : Row) → OwnFault (rule_of most m before row)
faults most m before row = own_faults (capacity_of m) most (length m.values.now) before row
