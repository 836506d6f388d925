-- What the rule refuses a row for.
use Rattle.std.proofs.Common.{ℕ, ◌+◌, not, ◌&&◌, ltb, leb, List, length, Some, None, refl}
use Rattle.fault.specs.declared.Fault.TheVariants.{RowsFull, TooLong, EndsFull, BytesFull}
use Rattle.output.proofs.Refusals.{own_unless, own_then, own_cond}
use Rattle.output.specs.Rows.{OwnFault}
use Rattle.source.specs.Rows.{Row}
use Rattle.view_memory.specs.Layout.{opens, buffers_of}
use Rattle.view_memory.specs.Rule.{row_verdict, view_rule}
use Rattle.views.specs.Layout.{Data}

own_row : (ends bytes : ℕ) (d : Data) (row : Row) → OwnFault (row_verdict ends bytes d row)
own_row ends bytes d None = tt
own_row ends bytes d (Some t) =
    own_then _ _ (own_unless (leb (length t) 2147483647) (TooLong 0) refl)
    (own_cond (leb (length t) 12) None _ tt
    (own_then _ _ (own_unless (not (opens d (length t) && leb ends (length d.ends))) (EndsFull 0) refl)
    (own_unless (leb (length d.bytes + length t) bytes) (BytesFull 0) refl)))

pub own_faults : (rows ends bytes : ℕ) (before : List Row) (row : Row) → OwnFault (view_rule rows ends bytes before row)
own_faults rows ends bytes before row = own_then _ _ (own_unless (ltb (length before) rows) (RowsFull 0) refl) (own_row ends bytes (buffers_of before) row)
