-- The verdict on a coming row.
use Rattle.std.specs.Prelude.{ℕ, ◌+◌, length, Some, None, nat_le, nat_lt}
use Rattle.fault.specs.declared.Fault.TheVariants.{RowsFull, TooLong, BytesFull}
use Rattle.output.specs.Rows.{Rule}
use Rattle.source.specs.Rows.{Row}
use Rattle.source.specs.Verdicts.{Verdict, unless, then}
use Rattle.offset_layout.specs.Layout.{used}

-- after n rows with u bytes, where there is room for `cap` rows and `size` bytes, and offsets go up to `most`
abbrev pub judged : (cap most size n u : ℕ) → Row → Verdict
judged cap most size n u None = unless (nat_lt n cap) (RowsFull 0)
judged cap most size n u (Some t) =
    then (unless (nat_lt n cap) (RowsFull 0)) (then (unless (nat_le (u + length t) most) (TooLong 0)) (unless (nat_le (u + length t) size) (BytesFull 0)))

abbrev pub offset_rule : (cap most size : ℕ) → Rule
offset_rule cap most size rows row = judged cap most size (length rows) (used rows) row
