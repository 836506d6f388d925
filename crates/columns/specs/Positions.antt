-- Position columns, from the fixed-size primitive layout of Arrow's columnar format: signed 64-bit numbers and a validity bitmap.
use Rattle.std.specs.Prelude.{ℕ, Bool, cond, ◌&&◌, List, length, ℤ, pos, Some, None, Option, nat_le, slice_index_or}
use Rattle.std.specs.Borrow.{Bor}
use Rattle.std.specs.Option.{option_map}
use Rattle.fault.specs.declared.Fault.TheVariants.{ShortList}
use Rattle.bitmap.specs.Validity.{valid, covers}
use Rattle.source.specs.Rows.{rows_by}
use Rattle.source.specs.Verdicts.{Verdict, unless}

-- what a position column is read from
pub record Numbers : Type 0 where
  pub values : List ℤ
  pub validity : Option (List ℕ)

-- lent memory, as the lists that it holds
abbrev pub numbers : Bor (List ℤ) → Option (Bor (List ℕ)) → Numbers
numbers values validity = record { values = values.now; validity = option_map (λ x. x.now) validity }

-- the position at row i
abbrev pub position_at : Numbers → ℕ → Option ℤ
position_at m i = cond (valid m.validity i) (Some (slice_index_or m.values i (pos 0))) None

-- the first n positions
abbrev pub positions_in : ℕ → Numbers → List (Option ℤ)
positions_in n m = rows_by (position_at m) n

unfoldable pub enough_numbers : ℕ → Numbers → Bool
enough_numbers n m = nat_le n (length m.values) && covers m.validity n

-- what opening n rows answers
abbrev pub positions_verdict : ℕ → Numbers → Verdict
positions_verdict n m = unless (enough_numbers n m) ShortList
