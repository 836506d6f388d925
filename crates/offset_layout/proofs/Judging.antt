-- What the rule refuses a row for.
use Rattle.std.proofs.Common.{ℕ, ◌+◌, ltb, leb, List, length, Some, None, refl}
use Rattle.fault.specs.declared.Fault.TheVariants.{RowsFull, TooLong, BytesFull}
use Rattle.offset_layout.specs.Layout.{used}
use Rattle.offset_layout.specs.Rules.{judged, offset_rule}
use Rattle.output.proofs.Refusals.{own_unless, own_then}
use Rattle.output.specs.Rows.{OwnFault}
use Rattle.source.specs.Rows.{Row}

own_judged : (cap most size n u : ℕ) (row : Row) → OwnFault (judged cap most size n u row)
own_judged cap most size n u None = own_unless (ltb n cap) (RowsFull 0) refl
own_judged cap most size n u (Some t) =
    own_then _ _ (own_unless (ltb n cap) (RowsFull 0) refl)
    (own_then _ _ (own_unless (leb (u + length t) most) (TooLong 0) refl) (own_unless (leb (u + length t) size) (BytesFull 0) refl))

pub own_faults : (cap most size : ℕ) (rows : List Row) (row : Row) → OwnFault (offset_rule cap most size rows row)
own_faults cap most size rows row = own_judged cap most size (length rows) (used rows) row
