-- Memory that holds rows, and nothing else.
use Rattle.std.specs.Prelude.{◌≡◌, ℕ, ◌-◌, ◌≤◌, Bool, true, cond, ◌&&◌, List, length, take, Some, None, ◌==◌, nat_le, slice_index_or, slice_set}
use Rattle.std.proofs.Math.Seq.{paste}
use Rattle.source.specs.Rows.{Row}
use Rattle.text.specs.Steps.{formed}
use Rattle.views.specs.Layout.{Lists}
use Rattle.view_memory.specs.Layout.{buffers_of, views_of, ends_of, data_of}
use Rattle.view_memory.specs.Rule.{capacity, end_capacity}
use Rattle.writing.specs.Padding.{zeros}
use Rattle.writing.specs.Bitmaps.{bitmap_of}

-- null, or a well-formed text that is not too long for a view
abbrev pub sound_row : Row → Bool
sound_row None = true
sound_row (Some t) = nat_le (length t) 2147483647 && formed t

-- the lists of a column over the memory, with as many of the first ends
abbrev pub lists_of : (views bitmap ends bytes : List ℕ) → ℕ → Lists
lists_of views bitmap ends bytes buffers =
    record { views = views; buffers = record { bytes = bytes; ends = take buffers ends }; validity = Some bitmap }

pub record Holds (views bitmap ends bytes : List ℕ) (rows : List Row) : Type 0 where
  pub room : length rows ≤ capacity (length views) (length bitmap)
  pub few : length (buffers_of rows).ends ≤ end_capacity (length ends)
  pub fits : length (buffers_of rows).bytes ≤ length bytes
  pub sound : (k : ℕ) → sound_row (slice_index_or rows k None) ≡ true
  pub views_are : views ≡ views_of (length views) rows
  pub bitmap_is : bitmap ≡ bitmap_of (length bitmap) rows
  pub ends_are : ends ≡ ends_of (length ends) rows
  pub bytes_are : bytes ≡ data_of (length bytes) rows

-- the ends cut back from one number to another: the last of those that stay ends at u again
abbrev pub ends_cut : List ℕ → (to from u : ℕ) → List ℕ
ends_cut ends to from u =
    cond (to == 0) (paste ends to (zeros (from - to)) (from - to)) (slice_set (paste ends to (zeros (from - to)) (from - to)) (to - 1) u)
