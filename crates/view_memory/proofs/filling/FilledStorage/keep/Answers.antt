use Rattle.view_memory.proofs.Keeping.{all_kept}
use Rattle.view_memory.proofs.filling.FilledStorage.keep.Goals as goal

pub invariant_of-self : goal.invariant_of-self
invariant_of-self c =
    let s = c.args.self.now in
    record { has = s.has; counted = s.counted; keeps = all_kept s.memory s.held s.counted }
