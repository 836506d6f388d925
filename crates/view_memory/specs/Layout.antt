-- How rows lie in the memory of a view output: a function of the sizes of the memory and of the rows.
use Rattle.std.specs.Prelude.{ℕ, ◌+◌, ◌-◌, Bool, cond, ◌||◌, List, [], ◌∷◌, ◌++◌, length, take, Some, None, ◌==◌, nat_le, nat_lt}
use Rattle.source.specs.Rows.{Row}
use Rattle.views.specs.Layout.{Data, buffer_start}
use Rattle.view_cells.specs.Views.{view_of}
use Rattle.writing.specs.Padding.{zeros, padded}

-- no buffers
abbrev pub nothing : Data
nothing = record { bytes = []; ends = [] }

-- the bytes in the last buffer
abbrev pub filled : Data → ℕ
filled d = length d.bytes - buffer_start d.ends (length d.ends - 1)

-- a text of n bytes opens a new buffer if none is open, or if the last would pass 8192 bytes with it
unfoldable pub opens : Data → ℕ → Bool
opens d n = length d.ends == 0 || nat_lt 8192 (filled d + n)

-- so it lies in this buffer, at this offset
unfoldable pub buffer_for : Data → ℕ → ℕ
buffer_for d n = cond (opens d n) (length d.ends) (length d.ends - 1)

unfoldable pub offset_for : Data → ℕ → ℕ
offset_for d n = cond (opens d n) 0 (filled d)

-- the buffers with a text behind what they hold: its buffer ends where the text does
unfoldable pub with_text : Data → List ℕ → Data
with_text d t = record { bytes = d.bytes ++ t; ends = take (buffer_for d (length t)) d.ends ++ (length d.bytes + length t) ∷ [] }

-- a text of up to 12 bytes lies in no buffer
unfoldable pub with_row : Data → Row → Data
with_row d None = d
with_row d (Some t) = cond (nat_le (length t) 12) d (with_text d t)

abbrev pub with_rows : Data → List Row → Data
with_rows d [] = d
with_rows d (row ∷ rows) = with_rows (with_row d row) rows

-- the buffers of rows
unfoldable pub buffers_of : List Row → Data
buffers_of rows = with_rows nothing rows

-- the view of a row, behind what the buffers hold; a null has a zero view
unfoldable pub view_for : Data → Row → List ℕ
view_for d None = zeros 16
view_for d (Some t) = view_of t (buffer_for d (length t)) (offset_for d (length t))

abbrev pub views_from : Data → List Row → List ℕ
views_from d [] = []
views_from d (row ∷ rows) = view_for d row ++ views_from (with_row d row) rows

-- what memory of a given size holds
unfoldable pub views_of : ℕ → List Row → List ℕ
views_of size rows = padded size (views_from nothing rows)

unfoldable pub ends_of : ℕ → List Row → List ℕ
ends_of size rows = padded size (buffers_of rows).ends

unfoldable pub data_of : ℕ → List Row → List ℕ
data_of size rows = padded size (buffers_of rows).bytes
