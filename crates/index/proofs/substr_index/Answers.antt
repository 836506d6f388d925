use Rattle.index.proofs.Joins.{index_joins_fields}
use Rattle.index.proofs.substr_index.Goals as goal

pub returns-then-count-eq0-clause-fields : goal.returns-then-count-eq0-clause-fields
returns-then-count-eq0-clause-fields g c = index_joins_fields

pub returns-then-count-gt0-clause-fields : goal.returns-then-count-gt0-clause-fields
returns-then-count-gt0-clause-fields g c = index_joins_fields

pub returns-else-count-gt0-clause-fields : goal.returns-else-count-gt0-clause-fields
returns-else-count-gt0-clause-fields g c = index_joins_fields
