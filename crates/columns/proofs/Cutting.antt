-- A cut at places in order within the bytes.
use Rattle.std.proofs.Common.{◌≡◌, ℕ, ◌≤◌, List, length, Some, Option, arith}
use Rattle.std.proofs.lemmas.Bool.Decides.{nat_tests}
use Rattle.std.specs.List.{between}
use Rattle.columns.specs.Offsets.{cut}

module _ (bytes : List ℕ) (a b : Option ℕ) where
  pub in_order : (start end : ℕ) → Some start ≡ a → Some end ≡ b → start ≤ end → end ≤ length bytes → Some (between start end bytes) ≡ cut bytes a b
  in_order start end e f h k = grind (arith, nat_tests)
