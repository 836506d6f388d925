use Rattle.std.proofs.Common.{arith}
use Rattle.view_memory.specs.Layout.{buffers_of}
use Rattle.view_memory.specs.Fillings.{held_rows}
use Rattle.view_memory.proofs.Laying.{rows_ordered}
use Rattle.view_memory.proofs.Places.{opens_none, opens_over, opens_by}
use Rattle.view_memory.proofs.filled.Filled.opens.Goals as goal

pub returns-then-self-eq0 : goal.returns-then-self-eq0
returns-then-self-eq0 c =
    let rows = held_rows c.args.self.now in
    opens_none (buffers_of rows) (rows_ordered rows) c.args.self.now.held.buffers c.args.self.now.held.value_bytes c.args.self.now.counted.3 c.args.self.now.counted.2 c.args.len (omega arith)

pub returns-then-filled-gt-BUFFER_BYTES : goal.returns-then-filled-gt-BUFFER_BYTES
returns-then-filled-gt-BUFFER_BYTES c =
    let rows = held_rows c.args.self.now in
    opens_over (buffers_of rows) (rows_ordered rows) c.args.self.now.held.buffers c.args.self.now.held.value_bytes c.args.self.now.counted.3 c.args.self.now.counted.2 c.args.len _ c.filled-filled.ensures (omega arith)

pub returns-else-filled-gt-BUFFER_BYTES : goal.returns-else-filled-gt-BUFFER_BYTES
returns-else-filled-gt-BUFFER_BYTES c =
    let rows = held_rows c.args.self.now in
    opens_by (buffers_of rows) (rows_ordered rows) c.args.self.now.held.buffers c.args.self.now.held.value_bytes c.args.self.now.counted.3 c.args.self.now.counted.2 c.args.len _ c.filled-filled.ensures (omega arith) (λ z. omega arith)
