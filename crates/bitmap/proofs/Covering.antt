-- The test `covers` and its words agree.
use Rattle.std.proofs.Common.{ℕ, List, Some, None, Decides, Option, refl}
use Rattle.std.proofs.lemmas.Bool.{le-leb, leb-true}
use Rattle.bitmap.specs.Validity.{covers, Covers}

pub covers_decides : (v : Option (List ℕ)) (n : ℕ) → Decides (covers v n) (Covers v n)
covers_decides None n = (λ _. tt, λ _. refl)
covers_decides (Some bytes) n = (leb-true _ _, le-leb _ _)
