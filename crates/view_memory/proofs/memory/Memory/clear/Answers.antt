use Rattle.std.proofs.Common.{rules}
use Rattle.view_memory.proofs.Writes.{no_rows}
use Rattle.view_memory.proofs.memory.Memory.clear.Goals as goal

pub returns-clause-holds : goal.returns-clause-holds
returns-clause-holds c =
    no_rows _ _ _ _ _ _ _ _ (c.fill.ensures.after (λ y h. search rules)) (c.fill-2.ensures.after (λ y h. search rules)) (c.fill-3.ensures.after (λ y h. search rules)) (c.fill-4.ensures.after (λ y h. search rules))
