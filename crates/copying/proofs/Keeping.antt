-- The kept rows stay the first.
use Rattle.std.proofs.Common.{◌≡◌, List, [], ◌∷◌, ◌++◌, take, sym, ap, ◌∙◌, arith}
use Rattle.std.proofs.lemmas.List.{length_push, length-take-le, take-append-le, take-take}
use Rattle.copying.specs.Keeping.{Keeps}
use Rattle.output.specs.declared.Counts.{Counts}
use Rattle.source.specs.Rows.{Row}

module _ (count : List Row → Counts) (rows : List Row) (kept : Counts) (k : Keeps count rows kept) where
  pub keeps_more : (row : Row) → Keeps count (rows ++ row ∷ []) kept
  keeps_more row =
      let f = k.first in
      let l = length_push rows row in
      let t : take kept.rows (rows ++ row ∷ []) ≡ take kept.rows rows = take-append-le kept.rows rows (row ∷ []) f in
      record { first = omega arith; counted = k.counted ∙ ap count (sym t) }

  pub keeps_cut : Keeps count (take kept.rows rows) kept
  keeps_cut =
      let l = length-take-le kept.rows rows k.first in
      let t : take kept.rows (take kept.rows rows) ≡ take kept.rows rows = take-take kept.rows kept.rows rows (omega arith) in
      record { first = omega arith; counted = k.counted ∙ ap count (sym t) }
