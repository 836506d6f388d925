-- Memory that holds rows reads as these rows, and may be opened as a column.
use Rattle.std.proofs.Common.{◌≡◌, ℕ, zero, suc, ◌+◌, ◌-◌, ◌*◌, ◌/◌, ◌<◌, ◌≤◌, true, false, cond, eqb, leb, ◌⊎◌, List, [], ◌∷◌, ◌++◌, length, get_or, take, drop, Some, None, sym, refl, ap, ◌∙◌, subst, inl, inr, arith}
use Rattle.std.proofs.lemmas.List.{same_lists, take-append-drop, drop_more, get_or_default}
use Rattle.std.proofs.lemmas.Bool.{and_from, and_parts, cases_lt, le-leb, leb-true}
use Rattle.fault.specs.declared.Fault.TheVariants.{ShortList, BufferEnd, View, Malformed}
use Rattle.bitmap.specs.Validity.{bit, valid}
use Rattle.source.specs.Rows.{Row}
use Rattle.source.specs.Verdicts.{Verdict, unless, then, first_fault, malformed}
use Rattle.source.proofs.Numbered.{length_rows_by, at_rows_by}
use Rattle.text.specs.Steps.{formed}
use Rattle.views.specs.Layout.{Data, Lists, LiesIn, buffer_start, buffer_end, fits, part, row_at, rows_in, text, view}
use Rattle.views.specs.Verdict.{enough, end_holds, end_fault, ends_fault, row_fault, verdict}
use Rattle.view_cells.specs.Views.{view_of}
use Rattle.view_cells.proofs.Decode.{view_text, view_fits, view_short}
use Rattle.writing.specs.Padding.{zeros, padded}
use Rattle.writing.specs.Bitmaps.{bit_of}
use Rattle.writing.proofs.Padding.{take_padded}
use Rattle.writing.proofs.Bitmaps.{bit_bitmap}
use Rattle.view_memory.specs.Layout.{nothing, with_text, with_row, with_rows, buffers_of, buffer_for, offset_for, view_for, views_from, views_of, ends_of, data_of}
use Rattle.view_memory.specs.Holding.{sound_row, lists_of, Holds}
use Rattle.view_memory.proofs.Growing.{Ordered, Grows, grows_padded, lies_grown, text_lies}
use Rattle.view_memory.proofs.Laying.{rows_keep, with_append, rows_ordered, row_long, view_at}

-- A row among others
module _ (rows : List Row) (i : ℕ) (h : i < length rows) where
  split : take i rows ++ (get_or rows i None ∷ drop (i + 1) rows) ≡ rows
  split = ap (λ xs. take i rows ++ xs) (sym (drop_more rows i None h)) ∙ take-append-drop i rows

  -- the buffers grow from those with the row
  from_row : Grows (with_row (buffers_of (take i rows)) (get_or rows i None)) (buffers_of rows)
  unfolding buffers_of
  from_row =
      let d : Data = with_row (with_rows nothing (take i rows)) (get_or rows i None) in
      let e : with_rows d (drop (i + 1) rows) ≡ with_rows nothing rows = sym (with_append nothing (take i rows) (get_or rows i None ∷ drop (i + 1) rows)) ∙ ap (with_rows nothing) split in
      let o : Ordered d = subst Ordered (with_append nothing (take i rows) (get_or rows i None ∷ [])) (rows_ordered (take i rows ++ get_or rows i None ∷ [])) in
      subst (Grows d) e (rows_keep d o (drop (i + 1) rows)).1

  -- a long text lies in the buffers, where its view says
  lies : (t : List ℕ) → get_or rows i None ≡ Some t → 12 < length t → length t ≤ 2147483647 → LiesIn (buffers_of rows) t (buffer_for (buffers_of (take i rows)) (length t)) (offset_for (buffers_of (take i rows)) (length t))
  lies t e big small =
      let d : Data = buffers_of (take i rows) in
      let w : with_row d (get_or rows i None) ≡ with_text d t = ap (with_row d) e ∙ row_long d t big in
      let g : Grows (with_text d t) (buffers_of rows) = subst (λ x. Grows x (buffers_of rows)) w from_row in
      lies_grown (with_text d t) (buffers_of rows) t (buffer_for d (length t)) (offset_for d (length t)) big g (text_lies d (rows_ordered (take i rows)) t small)

-- a view that is long or short reads as its text
reads : (m : Data) (t v : List ℕ) (b o : ℕ) → v ≡ view_of t b o → (12 < length t → LiesIn m t b o) → (12 < length t → b < 4294967296) → (text m v ≡ t) × (fits m v ≡ true)
reads m t v b o e s few =
    elim (cases_lt 12 (length t)) [
      | inl h ↦ (ap (text m) e ∙ view_text m t b o s (few h), ap (fits m) e ∙ view_fits m t b o s (few h))
      | inr h ↦
          let f : v ≡ view_of t 0 0 = e ∙ view_short t b o 0 0 h in
          (ap (text m) f ∙ view_text m t 0 0 (λ l. absurd (omega arith)) (omega arith), ap (fits m) f ∙ view_fits m t 0 0 (λ l. absurd (omega arith)) (omega arith))
    ]

first_fault_each : (f : ℕ → Verdict) (n : ℕ) → ((k : ℕ) → k < n → f k ≡ None) → first_fault f n ≡ None
first_fault_each f zero h = refl
first_fault_each f (suc n) h = ap (λ v. then v (f n)) (first_fault_each f n (λ k l. h k (omega arith))) ∙ h n (omega arith)

-- a sound text is neither too long nor malformed
sound_text : (r : Row) (t : List ℕ) → r ≡ Some t → sound_row r ≡ true → (length t ≤ 2147483647) × (formed t ≡ true)
sound_text r t e h =
    let p = and_parts (leb (length t) 2147483647) (formed t) (ap sound_row (sym e) ∙ h) in
    (leb-true (length t) 2147483647 p.0, p.1)

some_or_none : (r : Row) → (r ≡ None) ⊎ ((t : List ℕ) × (r ≡ Some t))
some_or_none None = inl refl
some_or_none (Some t) = inr (t, refl)

module _ {vs bs es ds : List ℕ} {rows : List Row} (h : Holds vs bs es ds rows) (n b : ℕ) (en : n ≡ length rows) (eb : b ≡ length (buffers_of rows).ends) where
  ends_again : take b es ≡ (buffers_of rows).ends
  unfolding ends_of
  ends_again = ap (take b) h.ends_are ∙ take_padded (length es) (buffers_of rows).ends b (sym eb)

  data_grows : Grows (buffers_of rows) (lists_of vs bs es ds b).buffers
  unfolding data_of padded
  data_grows = grows_padded (buffers_of rows) (lists_of vs bs es ds b).buffers (zeros (length ds - length (buffers_of rows).bytes)) ends_again h.bytes_are

  data_ordered : (k : ℕ) → k < length (take b es) → end_fault (lists_of vs bs es ds b).buffers k ≡ None
  unfolding end_fault end_holds
  data_ordered k l =
      let e = ends_again in
      let q : length (take b es) ≡ length (buffers_of rows).ends = ap length e in
      let o = rows_ordered rows in
      let r = o.rise k (omega arith) in
      let w = o.within k (omega arith) in
      let f = h.fits in
      let s : buffer_start (take b es) k ≡ buffer_start (buffers_of rows).ends k = ap (λ x. buffer_start x k) e in
      let t : buffer_end (take b es) k ≡ buffer_end (buffers_of rows).ends k = ap (λ x. buffer_end x k) e in
      ap (λ x. unless x BufferEnd) (and_from _ _ (le-leb (buffer_start (take b es) k) (buffer_end (take b es) k) (omega arith)) (le-leb (buffer_end (take b es) k) (length ds) (omega arith)))

  module _ (i : ℕ) (l : i < n) where
    view_is : view (lists_of vs bs es ds b) i ≡ view_for (buffers_of (take i rows)) (get_or rows i None)
    unfolding views_of padded buffers_of
    view_is = ap (part (16 * i) 16) h.views_are ∙ view_at nothing rows (zeros (length vs - length (views_from nothing rows))) i (omega arith)

    bit_is : valid (Some bs) i ≡ eqb (bit_of (get_or rows i None)) 1
    bit_is =
        let r = h.room in
        ap (λ x. bit x i) h.bitmap_is ∙ bit_bitmap (length bs) rows i (omega arith)

    module _ (t : List ℕ) (e : get_or rows i None ≡ Some t) where
      text_is : (text (lists_of vs bs es ds b).buffers (view (lists_of vs bs es ds b) i) ≡ t) × (fits (lists_of vs bs es ds b).buffers (view (lists_of vs bs es ds b) i) ≡ true)
      unfolding view_for
      text_is =
          let d : Data = buffers_of (take i rows) in
          let small = (sound_text (get_or rows i None) t e (h.sound i)).0 in
          let v : view (lists_of vs bs es ds b) i ≡ view_of t (buffer_for d (length t)) (offset_for d (length t)) = view_is ∙ ap (view_for d) e in
          let f = h.few in
          let x : 12 < length t → LiesIn (buffers_of rows) t (buffer_for d (length t)) (offset_for d (length t)) = λ big. lies rows i (omega arith) t e big small in
          reads (lists_of vs bs es ds b).buffers t (view (lists_of vs bs es ds b) i) (buffer_for d (length t)) (offset_for d (length t)) v
          (λ big. lies_grown (buffers_of rows) (lists_of vs bs es ds b).buffers t _ _ big data_grows (x big))
          (λ big. let k = (x big).known in omega arith)

      valid_is : valid (Some bs) i ≡ true
      valid_is = bit_is ∙ ap (λ r. eqb (bit_of r) 1) e

    null_is : get_or rows i None ≡ None → valid (Some bs) i ≡ false
    null_is e = bit_is ∙ ap (λ r. eqb (bit_of r) 1) e

    row_is : row_at (lists_of vs bs es ds b) i ≡ get_or rows i None
    row_is =
        elim (some_or_none (get_or rows i None)) [
          | inl e ↦ ap (λ x. cond x (Some (text (lists_of vs bs es ds b).buffers (view (lists_of vs bs es ds b) i))) None) (null_is e) ∙ sym e
          | inr p ↦ ap (λ x. cond x (Some (text (lists_of vs bs es ds b).buffers (view (lists_of vs bs es ds b) i))) None) (valid_is p.0 p.1) ∙ (ap Some (text_is p.0 p.1).0 ∙ sym p.1)
        ]

    no_fault : row_fault (lists_of vs bs es ds b) i ≡ None
    unfolding row_fault
    no_fault =
        let M : Lists = lists_of vs bs es ds b in
        elim (some_or_none (get_or rows i None)) [
          | inl e ↦
              ap (λ x. then (cond x (unless (fits M.buffers (view M i)) (View i)) None) (malformed i (row_at M i))) (null_is e)
              ∙ ap (malformed i) (row_is ∙ e)
          | inr p ↦
              ap (λ x. then (cond x (unless (fits M.buffers (view M i)) (View i)) None) (malformed i (row_at M i))) (valid_is p.0 p.1)
              ∙ (ap (λ x. then (unless x (View i)) (malformed i (row_at M i))) (text_is p.0 p.1).1
              ∙ (ap (malformed i) (row_is ∙ p.1) ∙ ap (λ x. unless x (Malformed i)) (sound_text (get_or rows i None) p.0 p.1 (h.sound i)).1))
        ]

  -- the rows come out again
  pub rows_are : rows_in n (lists_of vs bs es ds b) ≡ rows
  rows_are =
      let l = length_rows_by (row_at (lists_of vs bs es ds b)) n in
      same_lists (rows_in n (lists_of vs bs es ds b)) rows (l ∙ en)
      (λ k d lt.
      let kn : k < n = omega arith in
      at_rows_by (row_at (lists_of vs bs es ds b)) n k d kn ∙ (row_is k kn ∙ get_or_default rows k None d (omega arith)))

  long_enough : enough n (lists_of vs bs es ds b) ≡ true
  unfolding enough
  long_enough =
      let r = h.room in
      and_from _ _ (le-leb (16 * n) (length vs) (omega arith)) (le-leb ((n + 7) / 8) (length bs) (omega arith))

  -- a column of them is accepted
  pub accepted : verdict n (lists_of vs bs es ds b) ≡ None
  accepted =
      let M : Lists = lists_of vs bs es ds b in
      ap (λ x. then (unless x ShortList) (then (ends_fault M.buffers) (first_fault (row_fault M) n))) long_enough
      ∙ (ap (λ x. then x (first_fault (row_fault M) n)) (first_fault_each (end_fault M.buffers) (length (take b es)) data_ordered)
      ∙ first_fault_each (row_fault M) n no_fault)
