-- Arrow's validity bitmaps: bit i mod 8 of byte i ÷ 8, lowest first, is 1 where slot i is valid.
use Rattle.std.specs.Prelude.{ℕ, ◌+◌, ◌/◌, ◌%◌, ◌^◌, ◌≤◌, Bool, true, List, length, IfSome, Some, None, Option, ◌==◌, nat_le, slice_index}

-- bit i is 1; past the bytes there are only zeros
unfoldable pub bit : List ℕ → ℕ → Bool
bit bytes i = slice_index bytes (i / 8) / 2 ^ (i % 8) % 2 == 1

-- row i is not null; without a bitmap no row is null
abbrev pub valid : Option (List ℕ) → ℕ → Bool
valid None i = true
valid (Some bytes) i = bit bytes i

-- the bytes that a bitmap of n bits takes
abbrev pub bitmap_bytes : ℕ → ℕ
bitmap_bytes n = (n + 7) / 8

-- there is a bit for each of n rows
abbrev pub covers : Option (List ℕ) → ℕ → Bool
covers None n = true
covers (Some bytes) n = nat_le (bitmap_bytes n) (length bytes)

-- the same in words
abbrev pub Covers : Option (List ℕ) → ℕ → Type 0
Covers v n = IfSome v (λ bytes. bitmap_bytes n ≤ length bytes)
