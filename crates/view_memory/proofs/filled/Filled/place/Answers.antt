use Rattle.std.proofs.Common.{refl}
use Rattle.view_memory.specs.Layout.{buffers_of}
use Rattle.view_memory.specs.Fillings.{held_rows}
use Rattle.view_memory.proofs.Laying.{rows_ordered}
use Rattle.view_memory.proofs.Places.{place_new, place_last}
use Rattle.view_memory.proofs.filled.Filled.place.Goals as goal

pub returns-then-opens : goal.returns-then-opens
returns-then-opens c =
    let rows = held_rows c.args.self.now in
    let p = place_new (buffers_of rows) (rows_ordered rows) c.args.self.now.held.buffers c.args.self.now.held.value_bytes c.args.self.now.counted.3 c.args.self.now.counted.2 c.args.len c.if-opens.ensures in
    record { buffer = p.0; offset = p.1 }

pub overflow_sub-result : goal.overflow_sub-result
overflow_sub-result c =
    let rows = held_rows c.args.self.now in
    (place_last (buffers_of rows) (rows_ordered rows) c.args.self.now.held.buffers c.args.self.now.held.value_bytes c.args.self.now.counted.3 c.args.self.now.counted.2 c.args.len _ c.if-opens.ensures refl).0

pub returns : goal.returns
returns c =
    let rows = held_rows c.args.self.now in
    let p = place_last (buffers_of rows) (rows_ordered rows) c.args.self.now.held.buffers c.args.self.now.held.value_bytes c.args.self.now.counted.3 c.args.self.now.counted.2 c.args.len _ c.if-opens.ensures c.filled.ensures in
    record { buffer = p.1; offset = p.2 }
