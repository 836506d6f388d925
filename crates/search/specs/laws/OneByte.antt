-- A delimiter of one byte is a text.
use Rattle.std.specs.Prelude.{ℕ, ◌<◌, [], ◌∷◌}
use Rattle.std.proofs.Common.{refl, rules}
use Rattle.text.specs.Table.{WellFormed}

pub byte_text : (byte : ℕ) → byte < 128 → WellFormed (byte ∷ [])
byte_text byte low = ((byte ∷ []) ∷ [], (search rules, refl))
