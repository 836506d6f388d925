use Rattle.std.proofs.Common.{sym, ◌∙◌}
use Rattle.text.proofs.Cuts.{around_part}
use Rattle.text.proofs.Forms.{joining_formed, utf8_from_formed}
use Rattle.text.proofs.Std.{utf8_from_well_formed, well_formed_from_utf8}
use Rattle.text.proofs.open_text.Goals as goal

pub from_utf8_unchecked-requires : goal.from_utf8_unchecked-requires
from_utf8_unchecked-requires c = utf8_from_formed _ (sym c.well_formed-2.ensures.value ∙ c.if-not-well_formed.false)

pub returns-then-not-well_formed-clause-sides : goal.returns-then-not-well_formed-clause-sides
returns-then-not-well_formed-clause-sides c = around_part

pub returns-then-not-well_formed-clause-joins : goal.returns-then-not-well_formed-clause-joins
returns-then-not-well_formed-clause-joins c = joining_formed

pub returns-then-not-well_formed-clause-same : goal.returns-then-not-well_formed-clause-same
returns-then-not-well_formed-clause-same c = λ bs. (utf8_from_well_formed bs, well_formed_from_utf8 bs)

pub returns-clause-sides : goal.returns-clause-sides
returns-clause-sides c = around_part

pub returns-clause-joins : goal.returns-clause-joins
returns-clause-joins c = joining_formed

pub returns-clause-same : goal.returns-clause-same
returns-clause-same c = λ bs. (utf8_from_well_formed bs, well_formed_from_utf8 bs)
