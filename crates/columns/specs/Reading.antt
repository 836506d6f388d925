-- Lent memory, as the lists that it holds.
use Rattle.std.specs.Prelude.{map, ℤ}
use Rattle.std.specs.Option.{option_map}
use Rattle.columns.specs.Offsets.{Lists}
use Rattle.columns.specs.declared.lent.Lent.{Lent}

-- by the number of an offset
abbrev pub lists : {W : Type 0} → (W → ℤ) → Lent W → Lists
lists number m = record { offsets = map number m.offsets.now; values = m.values.now; validity = option_map (λ x. x.now) m.validity }

-- the number of a signed offset is itself
abbrev pub itself : ℤ → ℤ
itself z = z
