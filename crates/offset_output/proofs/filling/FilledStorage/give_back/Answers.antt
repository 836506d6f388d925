use Rattle.offset_layout.proofs.Reading.{opens}
use Rattle.offset_output.proofs.filling.FilledStorage.give_back.Goals as goal

pub returns-clause-accepted : goal.returns-clause-accepted
returns-clause-accepted g c = opens c.args.self.has.holds
