use Rattle.std.proofs.Common.{refl}
use Rattle.view_memory.specs.Memories.{rows_of}
use Rattle.view_memory.proofs.Decode.{accepted}
use Rattle.view_memory.proofs.filling.FilledStorage.give_back.Goals as goal

pub returns-clause-reading : goal.returns-clause-reading
unfolding rows_of
returns-clause-reading c = refl

pub returns-clause-accepted : goal.returns-clause-accepted
returns-clause-accepted c =
    let s = c.args.self in
    accepted s.has s.held.rows s.held.buffers s.counted.0 s.counted.3
