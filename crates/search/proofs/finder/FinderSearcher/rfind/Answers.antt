use Rattle.std.proofs.Common.{sym, ap}
use Rattle.search.specs.Sought.{sought}
use Rattle.search.proofs.Nearest.{highest_for}
use Rattle.search.proofs.finder.FinderSearcher.rfind.Goals as goal

pub returns-in-Byte-clause-meaning : goal.returns-in-Byte-clause-meaning
returns-in-Byte-clause-meaning c = (highest_for _ _ _ _ (sym (ap sought c.in-Byte.is)) c.rfind.ensures.meaning).1

pub returns-in-Text-clause-meaning : goal.returns-in-Text-clause-meaning
returns-in-Text-clause-meaning c = (highest_for _ _ _ _ (sym (ap sought c.in-Text.is)) c.rfind-in-Text.ensures.meaning).1
