use Rattle.std.proofs.Common.{sym, ap}
use Rattle.search.specs.Sought.{sought}
use Rattle.search.proofs.Nearest.{lowest_for}
use Rattle.search.proofs.finder.FinderSearcher.find.Goals as goal

pub returns-in-Byte-clause-meaning : goal.returns-in-Byte-clause-meaning
returns-in-Byte-clause-meaning c = (lowest_for _ _ _ _ (sym (ap sought c.in-Byte.is)) c.find.ensures.meaning).1

pub returns-in-Text-clause-meaning : goal.returns-in-Text-clause-meaning
returns-in-Text-clause-meaning c = (lowest_for _ _ _ _ (sym (ap sought c.in-Text.is)) c.find-in-Text.ensures.meaning).1
