-- Memory that holds rows, read as a column: the rows come out again, and it may be opened.
use Rattle.std.proofs.Common.{◌≡◌, ℕ, zero, suc, ◌+◌, ◌*◌, ◌<◌, ◌≤◌, true, cond, eqb, List, length, get_or, take, ℤ, pos, is_some, Some, None, sym, refl, ap, ◌∙◌, arith}
use Rattle.std.proofs.lemmas.List.{same_lists, get_or_default}
use Rattle.std.proofs.lemmas.Bool.Decides.{nat_tests}
use Rattle.std.specs.List.{flat_map}
use Rattle.fault.specs.declared.Fault.TheVariants.{ShortList, Offset}
use Rattle.source.specs.Rows.{Row}
use Rattle.source.specs.Verdicts.{Verdict, then, unless, first_fault, malformed}
use Rattle.source.proofs.Numbered.{length_rows_by, at_rows_by}
use Rattle.columns.specs.Offsets.{Lists, place_of, part, row_at, rows_in, enough, row_fault, verdict}
use Rattle.columns.proofs.Cutting.{in_order}
use Rattle.offset_layout.specs.Layout.{bytes, used, values_of, offsets_of, row_formed, column, Holds}
use Rattle.writing.specs.Bitmaps.{bit_of, bitmap_of}
use Rattle.writing.proofs.Bitmaps.{bit_bitmap}
use Rattle.writing.proofs.Padding.{length_padded}
use Rattle.offset_layout.proofs.Forms.{formed_at}
use Rattle.offset_layout.proofs.Offsets.{offsets_at, offset_low}
use Rattle.offset_layout.proofs.Values.{used_next, used_cut, text_at}

length_values : (size : ℕ) (rows : List Row) → used rows ≤ size → length (values_of size rows) ≡ size
unfolding used values_of
length_values size rows h = length_padded size (flat_map bytes rows) h

again : (r : Row) → cond (eqb (bit_of r) 1) (Some (bytes r)) None ≡ r
again None = refl
again (Some t) = refl

module _ (L V B : ℕ) (rows : List Row) (i : ℕ) (h : i < length rows) (ho : length rows < L) (hv : used rows ≤ V) (hb : length rows ≤ 8 * B) where
  -- offset k as a place
  place_is : (k : ℕ) → k ≤ length rows → Some (used (take k rows)) ≡ place_of (get_or (offsets_of L rows) k (pos 0))
  place_is k l = sym (ap place_of (offsets_at L rows k (pos 0) (omega arith)) ∙ ap Some (offset_low rows k l))

  part_of : part (column (offsets_of L rows) (values_of V rows) (bitmap_of B rows)) i ≡ Some (bytes (get_or rows i None))
  unfolding part
  part_of =
      let n = used_next rows i h in
      let c = used_cut rows (i + 1) (omega arith) in
      let l = length_values V rows hv in
      sym (in_order (values_of V rows) _ _ (used (take i rows)) (used (take (i + 1) rows)) (place_is i (omega arith)) (place_is (i + 1) (omega arith)) (omega arith) (omega arith)) ∙ ap Some (text_at rows i h V)

  row_of_column : row_at (column (offsets_of L rows) (values_of V rows) (bitmap_of B rows)) i ≡ get_or rows i None
  row_of_column =
      let m : Lists = column (offsets_of L rows) (values_of V rows) (bitmap_of B rows) in
      let r : Row = get_or rows i None in
      ap (λ b. cond b (part m i) None) (bit_bitmap B rows i (omega arith)) ∙ (ap (λ p. cond (eqb (bit_of r) 1) p None) part_of ∙ again r)

module _ {os : List ℤ} {vs bs : List ℕ} {rows : List Row} {n u : ℕ} (h : Holds os vs bs rows n u) where
  held : column os vs bs ≡ column (offsets_of (length os) rows) (values_of (length vs) rows) (bitmap_of (length bs) rows)
  held =
      ap (λ o. column o vs bs) h.offsets_are
      ∙ (ap (λ v. column (offsets_of (length os) rows) v bs) h.values_are ∙ ap (column (offsets_of (length os) rows) (values_of (length vs) rows)) h.bitmap_is)

  part_held : (i : ℕ) → i < n → part (column os vs bs) i ≡ Some (bytes (get_or rows i None))
  part_held i l =
      let c = h.count in
      let s = h.size in
      let r = h.room in
      let f = h.fits in
      ap (λ m. part m i) held ∙ part_of (length os) (length vs) (length bs) rows i (omega arith) (omega arith) (omega arith) (omega arith)

  row_held : (i : ℕ) → i < n → row_at (column os vs bs) i ≡ get_or rows i None
  row_held i l =
      let c = h.count in
      let s = h.size in
      let r = h.room in
      let f = h.fits in
      ap (λ m. row_at m i) held ∙ row_of_column (length os) (length vs) (length bs) rows i (omega arith) (omega arith) (omega arith) (omega arith)

  -- what memory holds is what is read from it
  pub rows_are : rows_in n (column os vs bs) ≡ rows
  rows_are =
      let c = h.count in
      let f : ℕ → Row = row_at (column os vs bs) in
      let ln = length_rows_by f n in
      same_lists (rows_in n (column os vs bs)) rows (ln ∙ sym c)
      (λ k d lt.
      let kn : k < n = omega arith in
      at_rows_by f n k d kn ∙ (row_held k kn ∙ get_or_default rows k None d (omega arith)))

-- no fault anywhere
first_fault_clear : (f : ℕ → Verdict) (n : ℕ) → ((k : ℕ) → k < n → f k ≡ None) → first_fault f n ≡ None
first_fault_clear f zero h = refl
first_fault_clear f (suc n) h = ap (λ v. then v (f n)) (first_fault_clear f n (λ k l. h k (omega arith))) ∙ h n (omega arith)

well_formed_row : (i : ℕ) (r : Row) → row_formed r ≡ true → malformed i r ≡ None
well_formed_row i None h = refl
well_formed_row i (Some t) h = simp h

module _ {os : List ℤ} {vs bs : List ℕ} {rows : List Row} {n u : ℕ} (h : Holds os vs bs rows n u) where
  has_enough : enough n (column os vs bs) ≡ true
  unfolding enough
  has_enough = let r = h.room in grind (arith, nat_tests)

  no_row_fault : (i : ℕ) → i < n → row_fault (column os vs bs) i ≡ None
  unfolding row_fault
  no_row_fault i l =
      let m : Lists = column os vs bs in
      ap (λ p. then (unless (is_some p) (Offset i)) (malformed i (row_at m i))) (part_held h i l)
      ∙ (ap (malformed i) (row_held h i l) ∙ well_formed_row i (get_or rows i None) (formed_at rows i h.texts))

  -- what memory holds may be opened
  pub opens : verdict n (column os vs bs) ≡ None
  opens =
      ap (λ b. then (unless b ShortList) (first_fault (row_fault (column os vs bs)) n)) has_enough ∙ first_fault_clear (row_fault (column os vs bs)) n no_row_fault
