-- The rule by which a view output takes rows, from the numbers of what there is memory for.
use Rattle.std.specs.Prelude.{ℕ, ◌+◌, ◌*◌, ◌/◌, min, cond, not, ◌&&◌, List, length, Some, None, nat_le, nat_lt}
use Rattle.fault.specs.declared.Fault.TheVariants.{RowsFull, TooLong, EndsFull, BytesFull}
use Rattle.source.specs.Rows.{Row}
use Rattle.source.specs.Verdicts.{Verdict, unless, then}
use Rattle.views.specs.Layout.{Data}
use Rattle.view_memory.specs.Layout.{opens, buffers_of}

-- the rows for which there are view bytes and bits
abbrev pub capacity : ℕ → ℕ → ℕ
capacity views bitmap = min (views / 16) (8 * bitmap)

-- the ends that may be used: a buffer's number is a signed 32-bit number
abbrev pub end_capacity : ℕ → ℕ
end_capacity ends = min ends 2147483647

-- a text of n bytes behind what the buffers hold
abbrev pub long_verdict : (ends bytes : ℕ) → Data → ℕ → Verdict
long_verdict ends bytes d n =
    then (unless (not (opens d n && nat_le ends (length d.ends))) (EndsFull 0)) (unless (nat_le (length d.bytes + n) bytes) (BytesFull 0))

abbrev pub text_verdict : (ends bytes : ℕ) → Data → ℕ → Verdict
text_verdict ends bytes d n = then (unless (nat_le n 2147483647) (TooLong 0)) (cond (nat_le n 12) None (long_verdict ends bytes d n))

abbrev pub row_verdict : (ends bytes : ℕ) → Data → Row → Verdict
row_verdict ends bytes d None = None
row_verdict ends bytes d (Some t) = text_verdict ends bytes d (length t)

-- the verdict on a row behind others
abbrev pub view_rule : (rows ends bytes : ℕ) → List Row → Row → Verdict
view_rule rows ends bytes before row = then (unless (nat_lt (length before) rows) (RowsFull 0)) (row_verdict ends bytes (buffers_of before) row)
