-- What is known of memory with rows in it: all of it by the rows, and what the rule refuses a row for.
use Rattle.std.specs.Prelude.{◌≡◌, ℕ, List, length}
use Rattle.std.proofs.Common.{ap, ◌∙◌}
use Rattle.output.specs.Rows.{OwnFault}
use Rattle.source.specs.Rows.{Row}
use Rattle.view_memory.specs.laws.Judging.{own_faults}
use Rattle.view_memory.specs.Layout.{ends_of, views_of}
use Rattle.view_memory.specs.Memories.{Has, image, laid, memory_of, rule_of, sizes_of}
use Rattle.view_memory.specs.Rule.{capacity, end_capacity}
use Rattle.view_memory.specs.declared.memory.Memory.{Memory}
use Rattle.writing.specs.Bitmaps.{bitmap_of}

pub shown : (m : Memory) (rows : List Row) → Has m rows → memory_of m ≡ image (sizes_of m) rows
shown m rows h =
    ap (λ (x : List ℕ). laid x m.validity.now m.ends.now m.bytes.now) h.views_are
    ∙ (ap (λ (x : List ℕ). laid (views_of (length m.views.now) rows) x m.ends.now m.bytes.now) h.bitmap_is
    ∙ (ap (λ (x : List ℕ). laid (views_of (length m.views.now) rows) (bitmap_of (length m.validity.now) rows) x m.bytes.now) h.ends_are
    ∙ ap (λ (x : List ℕ). laid (views_of (length m.views.now) rows) (bitmap_of (length m.validity.now) rows) (ends_of (length m.ends.now) rows) x) h.bytes_are))

pub faults : (m : Memory) (before : List Row) (row : Row) → OwnFault (rule_of m before row)
faults m before row = own_faults (capacity (length m.views.now) (length m.validity.now)) (end_capacity (length m.ends.now)) (length m.bytes.now) before row
