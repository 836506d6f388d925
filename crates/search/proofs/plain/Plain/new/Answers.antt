use Rattle.text.proofs.Std.{well_formed_from_utf8}
use Rattle.search.proofs.plain.Plain.new.Goals as goal

pub invariant_of-result : goal.invariant_of-result
invariant_of-result c = record { text = ∣ well_formed_from_utf8 _ c.utf8.delimiter ∣₁ }
