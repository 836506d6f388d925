-- The offsets that a width can write.
use Rattle.std.specs.Prelude.{ℕ, cond, ℤ, pos, Some, None, Option, nat_le}

-- a place, up to the largest offset
abbrev pub offset_at : (most place : ℕ) → Option ℤ
offset_at most place = cond (nat_le place most) (Some (pos place)) None
