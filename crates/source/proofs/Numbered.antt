-- Rows by their numbers.
use Rattle.std.proofs.Common.{◌≡◌, ℕ, ◌<◌, ◌≤◌, length, get_or, arith}
use Rattle.std.proofs.lemmas.List.FromFn.{length-map-range_with_len, get_or-map-range_with_len}
use Rattle.std.proofs.lemmas.List.{get_or_past}
use Rattle.source.specs.Rows.{rows_by}

module _ {X : Type 0} (f : ℕ → X) (n : ℕ) where
  pub length_rows_by : length (rows_by f n) ≡ n
  unfolding rows_by
  length_rows_by = length-map-range_with_len f 0 n

  pub at_rows_by : (i : ℕ) (d : X) → i < n → get_or (rows_by f n) i d ≡ f i
  unfolding rows_by
  at_rows_by i d l = get_or-map-range_with_len f 0 n i i d l (omega arith)

  pub past_rows_by : (i : ℕ) (d : X) → n ≤ i → get_or (rows_by f n) i d ≡ d
  past_rows_by i d l = let e = length_rows_by in get_or_past (rows_by f n) i d (omega arith)
