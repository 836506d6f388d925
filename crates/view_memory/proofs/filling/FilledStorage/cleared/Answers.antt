use Rattle.std.proofs.Common.{[]}
use Rattle.view_memory.proofs.Cleared.{cleared}
use Rattle.view_memory.proofs.Keeping.{counted, has, none_counted, none_kept}
use Rattle.view_memory.proofs.filling.FilledStorage.cleared.Goals as goal

pub invariant_of-result : goal.invariant_of-result
invariant_of-result c =
    let h = c.clear.ensures.holds in
    let a = none_counted c.default.result c.default.ensures in
    let b = none_counted c.default-2.result c.default-2.ensures in
    record { has = has c.clear.new.self _ [] h b; counted = counted c.clear.new.self _ [] h b; keeps = none_kept c.clear.new.self c.default.result c.default-2.result a b }

pub returns-clause-zeros : goal.returns-clause-zeros
returns-clause-zeros c = cleared c.args.lent c.clear.new.self c.clear.ensures.sizes c.clear.ensures.holds
