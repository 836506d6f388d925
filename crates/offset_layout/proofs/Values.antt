-- The value bytes of rows: one row more, fewer rows, none, and the text of a row.
use Rattle.std.proofs.Common.{◌≡◌, ℕ, ◌+◌, ◌-◌, ◌<◌, ◌≤◌, List, [], ◌∷◌, ◌++◌, length, get_or, take, drop, Some, None, sym, refl, ap, ◌∙◌, arith}
use lib.Seq.{paste}
use Rattle.std.specs.List.{flat_map, between}
use Rattle.std.proofs.lemmas.Grind.{flat_map-append}
use Rattle.std.proofs.lemmas.List.{append-nil, append_assoc, length-append, take_at, drop_at, flat_map_more, take_more, drop_more, take-append-drop}
use Rattle.source.specs.Rows.{Row}
use Rattle.offset_layout.specs.Layout.{bytes, used, values_of}
use Rattle.writing.specs.Padding.{zeros, padded}
use Rattle.writing.proofs.Padding.{padded_none, padded_push, padded_cut}

-- the bytes of one row more
joined_push : (rows : List Row) (r : Row) → flat_map bytes (rows ++ r ∷ []) ≡ flat_map bytes rows ++ bytes r
joined_push rows r = sym (flat_map_more bytes [] rows r)

pub used_push : (rows : List Row) (r : Row) → used (rows ++ r ∷ []) ≡ used rows + length (bytes r)
unfolding used
used_push rows r = ap length (joined_push rows r) ∙ length-append (flat_map bytes rows) (bytes r)

pub values_push : (size : ℕ) (rows : List Row) (t : List ℕ) (u : ℕ) → used rows ≡ u → u + length t ≤ size → paste (values_of size rows) u t (length t) ≡ values_of size (rows ++ Some t ∷ [])
unfolding used values_of
values_push size rows t u e fits = padded_push size (flat_map bytes rows) t u e fits ∙ ap (padded size) (sym (joined_push rows (Some t)))

pub values_null : (size : ℕ) (rows : List Row) → values_of size rows ≡ values_of size (rows ++ None ∷ [])
unfolding values_of
values_null size rows = ap (padded size) (sym (joined_push rows None ∙ append-nil (flat_map bytes rows)))

module _ (rows : List Row) (i : ℕ) (h : i < length rows) where
  pub used_next : used (take (i + 1) rows) ≡ used (take i rows) + length (bytes (get_or rows i None))
  used_next = ap used (take_more rows i None h) ∙ used_push (take i rows) (get_or rows i None)

  pub text_at : (size : ℕ) → between (used (take i rows)) (used (take (i + 1) rows)) (values_of size rows) ≡ bytes (get_or rows i None)
  unfolding used values_of padded
  text_at size =
      let r : Row = get_or rows i None in
      let a : List ℕ = flat_map bytes (take i rows) in
      let c : List ℕ = flat_map bytes (drop (i + 1) rows) in
      let z : List ℕ = zeros (size - length (flat_map bytes rows)) in
      let parts : flat_map bytes (take i rows ++ drop i rows) ≡ a ++ flat_map bytes (drop i rows) = flat_map-append bytes (take i rows) (drop i rows) in
      let whole : take i rows ++ drop i rows ≡ rows = take-append-drop i rows in
      let next : drop i rows ≡ r ∷ drop (i + 1) rows = drop_more rows i None h in
      let first : flat_map bytes (r ∷ drop (i + 1) rows) ≡ bytes r ++ c = refl in
      let a1 : (a ++ (bytes r ++ c)) ++ z ≡ a ++ ((bytes r ++ c) ++ z) = append_assoc a (bytes r ++ c) z in
      let a2 : (bytes r ++ c) ++ z ≡ bytes r ++ (c ++ z) = append_assoc (bytes r) c z in
      let d1 : drop (length a) (a ++ (bytes r ++ (c ++ z))) ≡ bytes r ++ (c ++ z) = drop_at a (bytes r ++ (c ++ z)) (length a) refl in
      let t1 : take (length (bytes r)) (bytes r ++ (c ++ z)) ≡ bytes r = take_at (bytes r) (c ++ z) (length (bytes r)) refl in
      let n = used_next in
      let m : length (flat_map bytes (take (i + 1) rows)) - length a ≡ length (bytes r) = omega arith in
      cc

-- the rows before the n-th alone
module _ (rows : List Row) (n : ℕ) (le : n ≤ length rows) where
  parted : flat_map bytes rows ≡ flat_map bytes (take n rows) ++ flat_map bytes (drop n rows)
  parted = ap (flat_map bytes) (sym (take-append-drop n rows)) ∙ flat_map-append bytes (take n rows) (drop n rows)

  pub used_cut : used (take n rows) ≤ used rows
  unfolding used
  used_cut =
      let e = ap length parted in
      let l = length-append (flat_map bytes (take n rows)) (flat_map bytes (drop n rows)) in
      omega arith

  pub values_cut : (size k u : ℕ) → used (take n rows) ≡ k → used rows ≡ u → u ≤ size → paste (values_of size rows) k (zeros (u - k)) (u - k) ≡ values_of size (take n rows)
  unfolding used values_of
  values_cut size k u ek eu fits =
      let a : List ℕ = flat_map bytes (take n rows) in
      let b : List ℕ = flat_map bytes (drop n rows) in
      let e = ap length parted in
      let l = length-append a b in
      ap (λ xs. paste (padded size xs) k (zeros (u - k)) (u - k)) parted ∙ padded_cut size a b k (u - k) ek (omega arith) (omega arith)

pub values_none : (size : ℕ) → values_of size [] ≡ zeros size
unfolding values_of
values_none size = padded_none size
