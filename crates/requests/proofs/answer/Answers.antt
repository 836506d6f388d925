use Rattle.requests.proofs.Hold.{samples_hold}
use Rattle.requests.proofs.answer.Goals as goal

pub returns-in-Split-clause-samples : goal.returns-in-Split-clause-samples
returns-in-Split-clause-samples c = samples_hold

pub returns-in-Index-clause-samples : goal.returns-in-Index-clause-samples
returns-in-Index-clause-samples c = samples_hold

pub returns-in-Left-clause-samples : goal.returns-in-Left-clause-samples
returns-in-Left-clause-samples c = samples_hold

pub returns-in-Right-clause-samples : goal.returns-in-Right-clause-samples
returns-in-Right-clause-samples c = samples_hold

pub returns-in-Both-clause-samples : goal.returns-in-Both-clause-samples
returns-in-Both-clause-samples c = samples_hold
