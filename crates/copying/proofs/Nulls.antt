-- How many rows are null: one row more.
use Rattle.std.proofs.Common.{◌≡◌, ℕ, ◌+◌, ◌≤◌, List, [], ◌∷◌, ◌++◌, length, Some, None, refl, ap, arith}
use Rattle.output.specs.Rows.{nulls_in}
use Rattle.source.specs.Rows.{Row}

pub null_more : (rows : List Row) → nulls_in (rows ++ None ∷ []) ≡ nulls_in rows + 1
null_more [] = refl
null_more (None ∷ rows) = ap (λ n. n + 1) (null_more rows)
null_more (Some t ∷ rows) = null_more rows

pub text_more : (rows : List Row) (t : List ℕ) → nulls_in (rows ++ Some t ∷ []) ≡ nulls_in rows
text_more [] t = refl
text_more (None ∷ rows) t = ap (λ n. n + 1) (text_more rows t)
text_more (Some s ∷ rows) t = text_more rows t

pub nulls_below : (rows : List Row) → nulls_in rows ≤ length rows
nulls_below [] = omega arith
nulls_below (None ∷ rows) = let h = nulls_below rows in omega arith
nulls_below (Some t ∷ rows) = let h = nulls_below rows in omega arith
