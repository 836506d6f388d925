-- View columns, from the variable-size binary view layout of Arrow's columnar format.
use Rattle.std.specs.Prelude.{◌≡◌, ℕ, ◌+◌, ◌-◌, ◌*◌, ◌<◌, ◌≤◌, Bool, true, cond, ◌&&◌, List, [], ◌∷◌, length, take, drop, Some, None, Option, ◌==◌, nat_le, nat_lt, slice_index}
use Rattle.std.specs.Str.{bytes_eq}
use Rattle.bitmap.specs.Validity.{valid}
use Rattle.source.specs.Rows.{Row, rows_by}

-- the buffers lie end to end in the bytes, and the ends bound them
pub record Data : Type 0 where
  pub bytes : List ℕ
  pub ends : List ℕ

-- what a view column is read from
pub record Lists : Type 0 where
  pub views : List ℕ
  pub buffers : Data
  pub validity : Option (List ℕ)

-- n bytes from a place on
abbrev pub part : ℕ → ℕ → List ℕ → List ℕ
part at n bytes = take n (drop at bytes)

-- the 32-bit little-endian number at a place
unfoldable pub word : List ℕ → ℕ → ℕ
word bytes at = slice_index bytes at + 256 * slice_index bytes (at + 1) + 65536 * slice_index bytes (at + 2) + 16777216 * slice_index bytes (at + 3)

-- a view is 16 bytes
abbrev pub view : Lists → ℕ → List ℕ
view m i = part (16 * i) 16 m.views

-- its first word is the length; above 12 bytes the third is the buffer's number and the fourth the offset in that buffer
abbrev pub size : List ℕ → ℕ
size v = word v 0

abbrev pub buffer : List ℕ → ℕ
buffer v = word v 8

abbrev pub offset : List ℕ → ℕ
offset v = word v 12

-- a buffer begins where the one before ends
unfoldable pub buffer_start : List ℕ → ℕ → ℕ
buffer_start ends b = cond (b == 0) 0 (slice_index ends (b - 1))

abbrev pub buffer_end : List ℕ → ℕ → ℕ
buffer_end ends b = slice_index ends b

-- where the text of a long view lies among the bytes
abbrev pub place : Data → List ℕ → ℕ
place d v = buffer_start d.ends (buffer v) + offset v

-- the text of a view: up to 12 bytes it follows the length, above that it lies in its buffer
unfoldable pub text : Data → List ℕ → List ℕ
text d v = cond (nat_le (size v) 12) (part 4 (size v) v) (part (place d v) (size v) d.bytes)

-- what follows a short text is zeros
abbrev pub blank : List ℕ → Bool
blank [] = true
blank (b ∷ bytes) = b == 0 && blank bytes

abbrev pub short_rule : List ℕ → Bool
short_rule v = blank (part (4 + size v) (12 - size v) v)

-- a long text lies within its buffer and ends at a signed 32-bit number; its first four bytes stand in the view
abbrev pub in_buffer : Data → List ℕ → Bool
in_buffer d v =
    nat_lt (buffer v) (length d.ends)
    && (nat_le (offset v + size v) (buffer_end d.ends (buffer v) - buffer_start d.ends (buffer v)) && nat_le (offset v + size v) 2147483647)

abbrev pub long_rule : Data → List ℕ → Bool
long_rule d v = in_buffer d v && bytes_eq (part 4 4 v) (part (place d v) 4 d.bytes)

-- the view keeps the rules
unfoldable pub fits : Data → List ℕ → Bool
fits d v = nat_le (size v) 2147483647 && cond (nat_le (size v) 12) (short_rule v) (long_rule d v)

abbrev pub row_at : Lists → ℕ → Row
row_at m i = cond (valid m.validity i) (Some (text m.buffers (view m i))) None

-- the first n rows
abbrev pub rows_in : ℕ → Lists → List Row
rows_in n m = rows_by (row_at m) n

-- a text lies in a buffer at an offset
pub record LiesIn (d : Data) (t : List ℕ) (b o : ℕ) : Type 0 where
  pub known : b < length d.ends
  pub within : o + length t ≤ buffer_end d.ends b - buffer_start d.ends b
  pub small : o + length t ≤ 2147483647
  pub there : part (buffer_start d.ends b + o) (length t) d.bytes ≡ t

-- the buffer's number and the offset of a row that lies in a buffer
abbrev pub place_at : Lists → ℕ → Option (ℕ × ℕ)
place_at m i = cond (valid m.validity i && nat_lt 12 (size (view m i))) (Some (buffer (view m i), offset (view m i))) None

abbrev pub places_in : ℕ → Lists → List (Option (ℕ × ℕ))
places_in n m = rows_by (place_at m) n
