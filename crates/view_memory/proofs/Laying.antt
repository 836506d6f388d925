-- Rows in buffers and views, one after the other.
use Rattle.std.proofs.Common.{◌≡◌, ℕ, zero, suc, ◌+◌, ◌*◌, ◌<◌, ◌≤◌, leb, List, [], ◌∷◌, ◌++◌, length, get_or, take, drop, Some, None, sym, refl, ap, ◌∙◌, subst, inl, inr, append_assoc, arith}
use Rattle.std.proofs.lemmas.List.{append-nil, length-append, take_at, drop_at, drop-drop, take-append-drop}
use Rattle.std.proofs.lemmas.Bool.{cases_lt, cond-true, cond-false, le-leb, lt-leb}
use Rattle.source.specs.Rows.{Row}
use Rattle.views.specs.Layout.{Data, part}
use Rattle.view_cells.proofs.Decode.{length_view}
use Rattle.view_memory.specs.Layout.{nothing, with_text, with_row, with_rows, buffers_of, buffer_for, offset_for, view_for, views_from}
use Rattle.view_memory.proofs.Growing.{Ordered, Grows, none_ordered, grows_same, grows_on, text_ordered, text_grows}

pub row_short : (d : Data) (t : List ℕ) → length t ≤ 12 → with_row d (Some t) ≡ d
unfolding with_row
row_short d t h = cond-true (leb (length t) 12) d (with_text d t) (le-leb _ 12 h)

pub row_long : (d : Data) (t : List ℕ) → 12 < length t → with_row d (Some t) ≡ with_text d t
unfolding with_row
row_long d t h = cond-false (leb (length t) 12) d (with_text d t) (lt-leb _ 12 h)

pub row_null : (d : Data) → with_row d None ≡ d
unfolding with_row
row_null d = refl

row_keeps : (d : Data) → Ordered d → (r : Row) → Ordered (with_row d r) × Grows d (with_row d r)
unfolding with_row
row_keeps d o None = (o, grows_same d)
row_keeps d o (Some t) =
    elim (cases_lt 12 (length t)) [
      | inl h ↦
          let e : with_text d t ≡ with_row d (Some t) = sym (row_long d t h) in
          (subst Ordered e (text_ordered d o t), subst (Grows d) e (text_grows d o t))
      | inr h ↦
          let e : d ≡ with_row d (Some t) = sym (row_short d t h) in
          (subst Ordered e o, subst (Grows d) e (grows_same d))
    ]

pub rows_keep : (d : Data) → Ordered d → (rows : List Row) → Ordered (with_rows d rows) × Grows d (with_rows d rows)
rows_keep d o [] = (o, grows_same d)
rows_keep d o (r ∷ rows) =
    let p = row_keeps d o r in
    let q = rows_keep (with_row d r) p.0 rows in
    (q.0, grows_on d (with_row d r) (with_rows (with_row d r) rows) p.1 q.1)

pub with_append : (d : Data) (xs ys : List Row) → with_rows d (xs ++ ys) ≡ with_rows (with_rows d xs) ys
with_append d [] ys = refl
with_append d (x ∷ xs) ys = with_append (with_row d x) xs ys

pub views_append : (d : Data) (xs ys : List Row) → views_from d (xs ++ ys) ≡ views_from d xs ++ views_from (with_rows d xs) ys
views_append d [] ys = refl
views_append d (x ∷ xs) ys = ap (λ v. view_for d x ++ v) (views_append (with_row d x) xs ys) ∙ sym (append_assoc (view_for d x) (views_from (with_row d x) xs) (views_from (with_rows (with_row d x) xs) ys))

pub length_view_for : (d : Data) (r : Row) → length (view_for d r) ≡ 16
unfolding view_for
length_view_for d None = refl
length_view_for d (Some t) = length_view t (buffer_for d (length t)) (offset_for d (length t))

pub length_views : (d : Data) (rows : List Row) → length (views_from d rows) ≡ 16 * length rows
length_views d [] = refl
length_views d (r ∷ rows) =
    let a = length_view_for d r in
    let e = length_views (with_row d r) rows in
    let l = length-append (view_for d r) (views_from (with_row d r) rows) in
    omega arith

-- the view of each row stands in its place
pub view_at : (d : Data) (rows : List Row) (rest : List ℕ) (i : ℕ) → i < length rows → part (16 * i) 16 (views_from d rows ++ rest) ≡ view_for (with_rows d (take i rows)) (get_or rows i None)
view_at d [] rest i h = absurd (omega arith)
view_at d (r ∷ rows) rest zero h =
    let w : List ℕ = view_for d r in
    ap (take 16) (append_assoc w (views_from (with_row d r) rows) rest) ∙ take_at w (views_from (with_row d r) rows ++ rest) 16 (length_view_for d r)
view_at d (r ∷ rows) rest (suc i) h =
    let w : List ℕ = view_for d r in
    let xs : List ℕ = views_from (with_row d r) rows in
    let n : 16 * suc i ≡ 16 + 16 * i = omega arith in
    let a : drop 16 ((w ++ xs) ++ rest) ≡ xs ++ rest = ap (drop 16) (append_assoc w xs rest) ∙ drop_at w (xs ++ rest) 16 (length_view_for d r) in
    let b : drop (16 * suc i) ((w ++ xs) ++ rest) ≡ drop (16 * i) (xs ++ rest) = ap (λ k. drop k ((w ++ xs) ++ rest)) n ∙ (sym (drop-drop (16 * i) 16 ((w ++ xs) ++ rest)) ∙ ap (drop (16 * i)) a) in
    ap (take 16) b ∙ view_at (with_row d r) rows rest i (omega arith)

-- Buffers of rows
pub rows_ordered : (rows : List Row) → Ordered (buffers_of rows)
unfolding buffers_of
rows_ordered rows = (rows_keep nothing none_ordered rows).0

pub rows_grow : (xs ys : List Row) → Grows (buffers_of xs) (buffers_of (xs ++ ys))
unfolding buffers_of
rows_grow xs ys = subst (Grows (with_rows nothing xs)) (sym (with_append nothing xs ys)) (rows_keep (with_rows nothing xs) (rows_keep nothing none_ordered xs).0 ys).1

pub cut_grows : (rows : List Row) (n : ℕ) → Grows (buffers_of (take n rows)) (buffers_of rows)
cut_grows rows n = subst (λ xs. Grows (buffers_of (take n rows)) (buffers_of xs)) (take-append-drop n rows) (rows_grow (take n rows) (drop n rows))

pub buffers_push : (rows : List Row) (r : Row) → buffers_of (rows ++ r ∷ []) ≡ with_row (buffers_of rows) r
unfolding buffers_of
buffers_push rows r = with_append nothing rows (r ∷ [])

pub views_push : (rows : List Row) (r : Row) → views_from nothing (rows ++ r ∷ []) ≡ views_from nothing rows ++ view_for (buffers_of rows) r
unfolding buffers_of
views_push rows r = views_append nothing rows (r ∷ []) ∙ ap (λ v. views_from nothing rows ++ v) (append-nil (view_for (with_rows nothing rows) r))
