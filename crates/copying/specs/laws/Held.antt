-- The rows held, from the pieces that are kept and pending.
use Rattle.std.proofs.Common.{◌≡◌, ℕ, List, [], ◌∷◌, ◌++◌, length, map, take, drop, sym, refl, ap, ◌∙◌, arith}
use Rattle.std.proofs.lemmas.List.{map-append, take-append-drop, take_all}
use Rattle.copying.specs.Pieces.{whole, kept_pieces, pending_pieces}
use Rattle.output.specs.Rows.{row_of}
use Rattle.source.specs.Rows.{Row}

pub rows_whole : (rows : List Row) → map row_of (map whole rows) ≡ rows
rows_whole [] = refl
rows_whole (row ∷ rows) = ap (λ rs. row ∷ rs) (rows_whole rows)

pub whole_parts : (n : ℕ) (rows : List Row) → kept_pieces n rows ++ pending_pieces n rows ≡ map whole rows
whole_parts n rows = sym (map-append whole (take n rows) (drop n rows)) ∙ ap (map whole) (take-append-drop n rows)

pub rows_parts : (n : ℕ) (rows : List Row) → map row_of (kept_pieces n rows ++ pending_pieces n rows) ≡ rows
rows_parts n rows = ap (map row_of) (whole_parts n rows) ∙ rows_whole rows

pub held_same : (n m : ℕ) (xs ys : List Row) → kept_pieces n xs ≡ kept_pieces m ys → pending_pieces n xs ≡ pending_pieces m ys → xs ≡ ys
held_same n m xs ys k p =
    sym (rows_parts n xs) ∙ (ap (λ z. map row_of (z ++ pending_pieces n xs)) k ∙ (ap (λ z. map row_of (kept_pieces m ys ++ z)) p ∙ rows_parts m ys))

pub all_kept : (n : ℕ) (rows : List Row) → kept_pieces (length rows) rows ≡ kept_pieces n rows ++ pending_pieces n rows
all_kept n rows = ap (map whole) (take_all (length rows) rows (omega arith)) ∙ sym (whole_parts n rows)
