use Rattle.std.proofs.Common.{◌-◌, get_or, arith}
use Rattle.view_memory.specs.Layout.{buffers_of}
use Rattle.view_memory.specs.Fillings.{held_rows}
use Rattle.view_memory.proofs.Laying.{rows_ordered}
use Rattle.view_memory.proofs.Places.{end_in_memory, filled_first, filled_later}
use Rattle.view_memory.proofs.filled.Filled.filled.Goals as goal

pub returns-then-self-le1 : goal.returns-then-self-le1
returns-then-self-le1 c =
    let rows = held_rows c.args.self.now in
    filled_first (buffers_of rows) (rows_ordered rows) c.args.self.now.held.buffers c.args.self.now.held.value_bytes c.args.self.now.counted.3 c.args.self.now.counted.2 (omega arith)

pub overflow_sub-result-2 : goal.overflow_sub-result-2
overflow_sub-result-2 c =
    let rows = held_rows c.args.self.now in
    let k = c.args.self.now.counted.3 in
    let e = end_in_memory c.args.self.now.has (c.args.self.now.held.buffers - 2) (omega arith) in
    (filled_later (buffers_of rows) (rows_ordered rows) c.args.self.now.held.buffers c.args.self.now.held.value_bytes k c.args.self.now.counted.2 (get_or c.args.self.now.memory.ends.now (c.args.self.now.held.buffers - 2) 0) (omega arith) e).0

pub returns : goal.returns
returns c =
    let rows = held_rows c.args.self.now in
    let k = c.args.self.now.counted.3 in
    let e = end_in_memory c.args.self.now.has (c.args.self.now.held.buffers - 2) (omega arith) in
    (filled_later (buffers_of rows) (rows_ordered rows) c.args.self.now.held.buffers c.args.self.now.held.value_bytes k c.args.self.now.counted.2 (get_or c.args.self.now.memory.ends.now (c.args.self.now.held.buffers - 2) 0) (omega arith) e).1
