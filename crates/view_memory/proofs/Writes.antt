-- What writes make of memory that holds rows: one row more, fewer rows, no rows.
use Rattle.std.proofs.Common.{◌≡◌, ℕ, ◌+◌, ◌-◌, ◌*◌, ◌/◌, ◌%◌, ◌^◌, ◌<◌, ◌≤◌, true, eqb, List, [], ◌∷◌, ◌++◌, length, get_or, take, drop, set, Some, None, sym, refl, ap, ◌∙◌, subst, inl, inr, arith}
use lib.Seq.{paste}
use Rattle.std.proofs.lemmas.List.Edits.{length-paste}
use Rattle.std.proofs.lemmas.List.{length-append, length-drop, length_push, length-replicate, length-set, length-take-le, take_all, take-append-drop, take_more, take-take, get_or-take, get_or_past, get_or_push, get_or_append_left, nil_from_length}
use Rattle.std.proofs.lemmas.Bool.{and_from, cases_lt, cases_eq, le-leb, eq-eqb, ne_eqb, cond-true, cond-false}
use Rattle.source.specs.Rows.{Row}
use Rattle.text.specs.Steps.{formed}
use Rattle.views.specs.Layout.{Data, buffer_start}
use Rattle.view_cells.specs.Views.{view_of}
use Rattle.view_cells.proofs.Decode.{view_short, length_view}
use Rattle.writing.specs.Padding.{zeros, padded}
use Rattle.writing.specs.Bitmaps.{bitmap_of, marked}
use Rattle.writing.proofs.Padding.{padded_none, padded_push, padded_cut, padded_set, padded_zeros}
use Rattle.writing.proofs.Bitmaps.{bitmap_push, bitmap_null, bitmap_cut, bitmap_none}
use Rattle.view_memory.specs.Layout.{nothing, with_text, with_rows, buffers_of, buffer_for, offset_for, view_for, views_from, views_of, ends_of, data_of}
use Rattle.view_memory.specs.Rule.{capacity, end_capacity}
use Rattle.view_memory.specs.Holding.{sound_row, Holds, ends_cut}
use Rattle.view_memory.proofs.Growing.{start_at, length_ends, length_bytes, placed}
use Rattle.view_memory.proofs.Laying.{rows_ordered, row_long, row_short, row_null, length_views, length_view_for, views_append, cut_grows, buffers_push, views_push}

-- a sound row more
sound_push : (rows : List Row) (r : Row) → ((k : ℕ) → sound_row (get_or rows k None) ≡ true) → sound_row r ≡ true → (k : ℕ) → sound_row (get_or (rows ++ r ∷ []) k None) ≡ true
sound_push rows r h s k =
    elim (cases_lt k (length rows)) [
      | inl l ↦ ap sound_row (get_or_append_left rows (r ∷ []) None k l) ∙ h k
      | inr l ↦
          elim (cases_eq k (length rows)) [
            | inl e ↦ ap sound_row (get_or_push rows r None k (sym e)) ∙ s
            | inr e ↦ let n = length_push rows r in ap sound_row (get_or_past (rows ++ r ∷ []) k None (omega arith))
          ]
    ]

sound_cut : (rows : List Row) (n : ℕ) → n ≤ length rows → ((k : ℕ) → sound_row (get_or rows k None) ≡ true) → (k : ℕ) → sound_row (get_or (take n rows) k None) ≡ true
sound_cut rows n le h k =
    elim (cases_lt k n) [
      | inl l ↦ ap sound_row (get_or-take n rows k None l) ∙ h k
      | inr l ↦ let e = length-take-le n rows le in ap sound_row (get_or_past (take n rows) k None (omega arith))
    ]

-- the views, written at the end of them
views_more : (size : ℕ) (rows : List Row) (r : Row) (w : List ℕ) (n : ℕ) → n ≡ length rows → w ≡ view_for (buffers_of rows) r → 16 * n + 16 ≤ size → paste (views_of size rows) (16 * n) w 16 ≡ views_of size (rows ++ r ∷ [])
unfolding views_of
views_more size rows r w n e f fits =
    let xs : List ℕ = views_from nothing rows in
    let l : length w ≡ 16 = ap length f ∙ length_view_for (buffers_of rows) r in
    let m : length xs ≡ 16 * n = let a = length_views nothing rows in omega arith in
    let p : paste (padded size xs) (16 * n) w (length w) ≡ padded size (xs ++ w) = padded_push size xs w (16 * n) m (omega arith) in
    ap (paste (padded size xs) (16 * n) w) (sym l) ∙ (p ∙ (ap (λ v. padded size (xs ++ v)) f ∙ ap (padded size) (sym (views_push rows r))))

views_null : (size : ℕ) (rows : List Row) (n : ℕ) → n ≡ length rows → 16 * n + 16 ≤ size → views_of size rows ≡ views_of size (rows ++ None ∷ [])
unfolding views_of view_for
views_null size rows n e fits =
    let xs : List ℕ = views_from nothing rows in
    let m : length xs ≡ 16 * n = let a = length_views nothing rows in omega arith in
    sym (ap (padded size) (views_push rows None) ∙ padded_zeros size xs 16 (omega arith))

-- by the buffers alone
ends_by : (size : ℕ) (xs ys : List Row) → buffers_of xs ≡ buffers_of ys → ends_of size xs ≡ ends_of size ys
unfolding ends_of
ends_by size xs ys e = ap (λ d. padded size d.ends) e

data_by : (size : ℕ) (xs ys : List Row) → buffers_of xs ≡ buffers_of ys → data_of size xs ≡ data_of size ys
unfolding data_of
data_by size xs ys e = ap (λ d. padded size d.bytes) e

ends_long : (size : ℕ) (rows : List Row) (t : List ℕ) (b e : ℕ) → 12 < length t → b ≡ buffer_for (buffers_of rows) (length t) → e ≡ length (buffers_of rows).bytes + length t → b < size → set (ends_of size rows) b e ≡ ends_of size (rows ++ Some t ∷ [])
unfolding ends_of with_text
ends_long size rows t b e big eb ee fits =
    let d : Data = buffers_of rows in
    let p = placed d (rows_ordered rows) (length t) in
    let lo = p.least in
    let hi = p.most in
    let q : buffers_of (rows ++ Some t ∷ []) ≡ with_text d t = buffers_push rows (Some t) ∙ row_long d t big in
    let s : set (padded size d.ends) b e ≡ padded size (take b d.ends ++ e ∷ []) = padded_set size d.ends b e (omega arith) (omega arith) fits in
    s ∙ (ap (λ x. padded size (take x d.ends ++ e ∷ [])) eb ∙ (ap (λ x. padded size (take (buffer_for d (length t)) d.ends ++ x ∷ [])) ee ∙ ap (λ x. padded size x.ends) (sym q)))

data_long : (size : ℕ) (rows : List Row) (t : List ℕ) (u : ℕ) → 12 < length t → u ≡ length (buffers_of rows).bytes → u + length t ≤ size → paste (data_of size rows) u t (length t) ≡ data_of size (rows ++ Some t ∷ [])
unfolding data_of with_text
data_long size rows t u big eu fits =
    let d : Data = buffers_of rows in
    let q : buffers_of (rows ++ Some t ∷ []) ≡ with_text d t = buffers_push rows (Some t) ∙ row_long d t big in
    padded_push size d.bytes t u (sym eu) fits ∙ ap (λ x. padded size x.bytes) (sym q)

-- One row more
module _ {vs bs es ds : List ℕ} {rows : List Row} (h : Holds vs bs es ds rows) (n : ℕ) (en : n ≡ length rows) (room : n < capacity (length vs) (length bs)) where
  pub push_null : Holds vs bs es ds (rows ++ None ∷ [])
  push_null =
      let l = length_push rows None in
      let d : buffers_of (rows ++ None ∷ []) ≡ buffers_of rows = buffers_push rows None ∙ row_null (buffers_of rows) in
      record {
        room = omega arith;
        few = subst (λ x. length x.ends ≤ end_capacity (length es)) (sym d) h.few;
        fits = subst (λ x. length x.bytes ≤ length ds) (sym d) h.fits;
        sound = sound_push rows None h.sound refl;
        views_are = h.views_are ∙ views_null (length vs) rows n en (omega arith);
        bitmap_is = h.bitmap_is ∙ bitmap_null (length bs) rows;
        ends_are = h.ends_are ∙ ends_by (length es) rows (rows ++ None ∷ []) (sym d);
        bytes_are = h.bytes_are ∙ data_by (length ds) rows (rows ++ None ∷ []) (sym d);
      }

  module _ (t : List ℕ) (good : formed t ≡ true) (vs' bs' : List ℕ) (eb : bs' ≡ marked bs n) where
    length_bits : length bs' ≡ length bs
    length_bits = ap length eb ∙ length-set bs _ _

    bits_more : bs' ≡ bitmap_of (length bs') (rows ++ Some t ∷ [])
    bits_more =
        let p : marked (bitmap_of (length bs) rows) n ≡ bitmap_of (length bs) (rows ++ Some t ∷ []) = bitmap_push rows n (sym en) (length bs) t (omega arith) in
        eb ∙ (ap (λ x. marked x n) h.bitmap_is ∙ (p ∙ ap (λ k. bitmap_of k (rows ++ Some t ∷ [])) (sym length_bits)))

    length_row : (w : List ℕ) → length w ≡ 16 → vs' ≡ paste vs (16 * n) w 16 → length vs' ≡ length vs
    length_row w l ev = ap length ev ∙ length-paste vs (16 * n) w 16 (omega arith) (omega arith)

    view_more : (w : List ℕ) → w ≡ view_for (buffers_of rows) (Some t) → vs' ≡ paste vs (16 * n) w 16 → vs' ≡ views_of (length vs') (rows ++ Some t ∷ [])
    view_more w ew ev =
        let l : length vs' ≡ length vs = length_row w (ap length ew ∙ length_view_for (buffers_of rows) (Some t)) ev in
        ev ∙ (ap (λ x. paste x (16 * n) w 16) h.views_are ∙ (views_more (length vs) rows (Some t) w n en ew (omega arith) ∙ ap (λ k. views_of k (rows ++ Some t ∷ [])) (sym l)))

    pub push_short : length t ≤ 12 → (b o : ℕ) → vs' ≡ paste vs (16 * n) (view_of t b o) 16 → Holds vs' bs' es ds (rows ++ Some t ∷ [])
    unfolding view_for
    push_short short b o ev =
        let l = length_push rows (Some t) in
        let lb = length_bits in
        let lv = length_row (view_of t b o) (length_view t b o) ev in
        let d : buffers_of (rows ++ Some t ∷ []) ≡ buffers_of rows = buffers_push rows (Some t) ∙ row_short (buffers_of rows) t short in
        record {
          room = omega arith;
          few = subst (λ x. length x.ends ≤ end_capacity (length es)) (sym d) h.few;
          fits = subst (λ x. length x.bytes ≤ length ds) (sym d) h.fits;
          sound = sound_push rows (Some t) h.sound (and_from _ _ (le-leb (length t) 2147483647 (omega arith)) good);
          views_are = view_more (view_of t b o) (view_short t b o _ _ short) ev;
          bitmap_is = bits_more;
          ends_are = h.ends_are ∙ ends_by (length es) rows (rows ++ Some t ∷ []) (sym d);
          bytes_are = h.bytes_are ∙ data_by (length ds) rows (rows ++ Some t ∷ []) (sym d);
        }

    pub push_long : 12 < length t → length t ≤ 2147483647 → (b o u e : ℕ) → b ≡ buffer_for (buffers_of rows) (length t) → o ≡ offset_for (buffers_of rows) (length t) → u ≡ length (buffers_of rows).bytes → e ≡ u + length t → b < end_capacity (length es) → e ≤ length ds → (es' ds' : List ℕ) → vs' ≡ paste vs (16 * n) (view_of t b o) 16 → es' ≡ set es b e → ds' ≡ paste ds u t (length t) → Holds vs' bs' es' ds' (rows ++ Some t ∷ [])
    unfolding view_for
    push_long big small b o u e qb qo qu qe few fits es' ds' ev ee ed =
        let d : Data = buffers_of rows in
        let D : Data = buffers_of (rows ++ Some t ∷ []) in
        let l = length_push rows (Some t) in
        let lb = length_bits in
        let lv = length_row (view_of t b o) (length_view t b o) ev in
        let le : length es' ≡ length es = ap length ee ∙ length-set es b e in
        let ld : length ds' ≡ length ds = ap length ed ∙ length-paste ds u t (length t) (omega arith) (omega arith) in
        let q : D ≡ with_text d t = buffers_push rows (Some t) ∙ row_long d t big in
        let ne : length D.ends ≡ b + 1 = ap (λ x. length x.ends) q ∙ (length_ends d (rows_ordered rows) t ∙ ap (λ k. k + 1) (sym qb)) in
        let nb : length D.bytes ≡ length d.bytes + length t = ap (λ x. length x.bytes) q ∙ length_bytes d (rows_ordered rows) t in
        let w : view_of t b o ≡ view_of t (buffer_for d (length t)) (offset_for d (length t)) = ap (λ k. view_of t k o) qb ∙ ap (view_of t (buffer_for d (length t))) qo in
        record {
          room = omega arith;
          few = omega arith;
          fits = omega arith;
          sound = sound_push rows (Some t) h.sound (and_from _ _ (le-leb (length t) 2147483647 small) good);
          views_are = view_more (view_of t b o) w ev;
          bitmap_is = bits_more;
          ends_are = ee ∙ (ap (λ x. set x b e) h.ends_are ∙ (ends_long (length es) rows t b e big qb (omega arith) (omega arith) ∙ ap (λ k. ends_of k (rows ++ Some t ∷ [])) (sym le)));
          bytes_are = ed ∙ (ap (λ x. paste x u t (length t)) h.bytes_are ∙ (data_long (length ds) rows t u big qu (omega arith) ∙ ap (λ k. data_of k (rows ++ Some t ∷ [])) (sym ld)));
        }

-- Fewer rows
module _ (rows : List Row) (n : ℕ) (lt : n < length rows) where
  views_cut : (size m : ℕ) → m ≡ length rows → 16 * m ≤ size → paste (views_of size rows) (16 * n) (zeros (16 * m - 16 * n)) (16 * m - 16 * n) ≡ views_of size (take n rows)
  unfolding views_of
  views_cut size m em fits =
      let xs : List ℕ = views_from nothing (take n rows) in
      let ys : List ℕ = views_from (with_rows nothing (take n rows)) (drop n rows) in
      let e : views_from nothing rows ≡ xs ++ ys = ap (views_from nothing) (sym (take-append-drop n rows)) ∙ views_append nothing (take n rows) (drop n rows) in
      let lx : length xs ≡ 16 * n = length_views nothing (take n rows) ∙ ap (λ k. 16 * k) (length-take-le n rows (omega arith)) in
      let ly : length ys ≡ 16 * m - 16 * n = length_views (with_rows nothing (take n rows)) (drop n rows) ∙ (let a = length-drop n rows in omega arith) in
      ap (λ v. paste (padded size v) (16 * n) (zeros (16 * m - 16 * n)) (16 * m - 16 * n)) e ∙ padded_cut size xs ys (16 * n) (16 * m - 16 * n) lx ly (omega arith)

  bytes_grown : (buffers_of rows).bytes ≡ (buffers_of (take n rows)).bytes ++ drop (length (buffers_of (take n rows)).bytes) (buffers_of rows).bytes
  bytes_grown = (cut_grows rows n).longer

  pub bytes_order : length (buffers_of (take n rows)).bytes ≤ length (buffers_of rows).bytes
  bytes_order =
      let a : length (buffers_of rows).bytes ≡ length (buffers_of (take n rows)).bytes + length (drop (length (buffers_of (take n rows)).bytes) (buffers_of rows).bytes) = ap length bytes_grown ∙ length-append (buffers_of (take n rows)).bytes _ in
      omega arith

  pub ends_order : length (buffers_of (take n rows)).ends ≤ length (buffers_of rows).ends
  ends_order = (cut_grows rows n).more

  data_cut : (size u w : ℕ) → u ≡ length (buffers_of (take n rows)).bytes → w ≡ length (buffers_of rows).bytes → w ≤ size → paste (data_of size rows) u (zeros (w - u)) (w - u) ≡ data_of size (take n rows)
  unfolding data_of
  data_cut size u w eu ew fits =
      let xs : List ℕ = (buffers_of (take n rows)).bytes in
      let ys : List ℕ = drop (length xs) (buffers_of rows).bytes in
      let b = bytes_order in
      let ly : length ys ≡ w - u = length-drop (length xs) (buffers_of rows).bytes ∙ omega arith in
      ap (λ v. paste (padded size v) u (zeros (w - u)) (w - u)) bytes_grown ∙ padded_cut size xs ys u (w - u) (sym eu) ly (omega arith)

  -- the last kept end is where the kept bytes end
  kept_ends : (j u : ℕ) → 0 < j → j ≡ length (buffers_of (take n rows)).ends → u ≡ length (buffers_of (take n rows)).bytes → take (j - 1) (buffers_of rows).ends ++ u ∷ [] ≡ (buffers_of (take n rows)).ends
  kept_ends j u pos ej eu =
      let K : List ℕ = (buffers_of (take n rows)).ends in
      let i : j - 1 + 1 ≡ j = omega arith in
      let s : take (j - 1) (buffers_of rows).ends ≡ take (j - 1) K = subst (λ k. take (k - 1) (buffers_of rows).ends ≡ take (k - 1) K) (sym ej) (cut_grows rows n).same in
      let w : buffer_start K j ≡ u = ap (buffer_start K) ej ∙ ((rows_ordered (take n rows)).whole ∙ sym eu) in
      let g : u ≡ get_or K (j - 1) 0 = sym w ∙ start_at K j pos in
      let m : take (j - 1 + 1) K ≡ take (j - 1) K ++ get_or K (j - 1) 0 ∷ [] = take_more K (j - 1) 0 (omega arith) in
      ap (λ x. x ++ u ∷ []) s ∙ (ap (λ x. take (j - 1) K ++ x ∷ []) g ∙ (sym m ∙ (ap (λ k. take k K) i ∙ take_all j K (omega arith))))

  ends_back : (size j k u : ℕ) → j ≡ length (buffers_of (take n rows)).ends → k ≡ length (buffers_of rows).ends → u ≡ length (buffers_of (take n rows)).bytes → k ≤ size → ends_cut (ends_of size rows) j k u ≡ ends_of size (take n rows)
  unfolding ends_of
  ends_back size j k u ej ek eu fits =
      let E : List ℕ = (buffers_of rows).ends in
      let K : List ℕ = (buffers_of (take n rows)).ends in
      let o = ends_order in
      let lt' : length (take j E) ≡ j = length-take-le j E (omega arith) in
      let ld : length (drop j E) ≡ k - j = length-drop j E ∙ omega arith in
      let c : paste (padded size E) j (zeros (k - j)) (k - j) ≡ padded size (take j E) =
      ap (λ v. paste (padded size v) j (zeros (k - j)) (k - j)) (sym (take-append-drop j E)) ∙ padded_cut size (take j E) (drop j E) j (k - j) lt' ld (omega arith) in
      elim (cases_eq j 0) [
        | inl z ↦
            let nil : take j E ≡ K = nil_from_length (take j E) (omega arith) ∙ sym (nil_from_length K (omega arith)) in
            cond-true (eqb j 0) _ _ (eq-eqb j 0 z) ∙ (c ∙ ap (padded size) nil)
        | inr z ↦
            let p : set (padded size (take j E)) (j - 1) u ≡ padded size (take (j - 1) (take j E) ++ u ∷ []) = padded_set size (take j E) (j - 1) u (omega arith) (omega arith) (omega arith) in
            let t : take (j - 1) (take j E) ≡ take (j - 1) E = take-take (j - 1) j E (omega arith) in
            cond-false (eqb j 0) _ _ (ne_eqb j 0 z)
            ∙ (ap (λ v. set v (j - 1) u) c ∙ (p ∙ (ap (λ v. padded size (v ++ u ∷ [])) t ∙ ap (padded size) (kept_ends j u (omega arith) ej eu))))
      ]

length_cut_ends : (es : List ℕ) (j k u : ℕ) → j ≤ k → k ≤ length es → length (ends_cut es j k u) ≡ length es
length_cut_ends es j k u le fits =
    let lz : length (zeros (k - j)) ≡ k - j = length-replicate (k - j) 0 in
    let p : length (paste es j (zeros (k - j)) (k - j)) ≡ length es = length-paste es j (zeros (k - j)) (k - j) (omega arith) (omega arith) in
    elim (cases_eq j 0) [
      | inl z ↦ ap length (cond-true (eqb j 0) _ _ (eq-eqb j 0 z)) ∙ p
      | inr z ↦ ap length (cond-false (eqb j 0) _ _ (ne_eqb j 0 z)) ∙ (length-set _ _ _ ∙ p)
    ]

pub cut_rows : {vs bs es ds : List ℕ} {rows : List Row} → Holds vs bs es ds rows → (n m j k u w : ℕ) → n < m → m ≡ length rows → j ≡ length (buffers_of (take n rows)).ends → k ≡ length (buffers_of rows).ends → u ≡ length (buffers_of (take n rows)).bytes → w ≡ length (buffers_of rows).bytes → (vs' bs' bs'' es' ds' : List ℕ) → vs' ≡ paste vs (16 * n) (zeros (16 * m - 16 * n)) (16 * m - 16 * n) → bs' ≡ set bs (n / 8) (get_or bs (n / 8) 0 % 2 ^ (n % 8)) → bs'' ≡ paste bs' (n / 8 + 1) (zeros ((m - 1) / 8 + 1 - (n / 8 + 1))) ((m - 1) / 8 + 1 - (n / 8 + 1)) → es' ≡ ends_cut es j k u → ds' ≡ paste ds u (zeros (w - u)) (w - u) → Holds vs' bs'' es' ds' (take n rows)
cut_rows {vs} {bs} {es} {ds} {rows} h n m j k u w lt em ej ek eu ew vs' bs' bs'' es' ds' ev eb eb' ee ed =
    let r = h.room in
    let f = h.few in
    let g = h.fits in
    let lt' : n < length rows = omega arith in
    let bo = bytes_order rows n lt' in
    let eo = ends_order rows n lt' in
    let lr : length (take n rows) ≡ n = length-take-le n rows (omega arith) in
    let z : ℕ = (m - 1) / 8 + 1 - (n / 8 + 1) in
    let lz1 : length (zeros (16 * m - 16 * n)) ≡ 16 * m - 16 * n = length-replicate (16 * m - 16 * n) 0 in
    let lz2 : length (zeros z) ≡ z = length-replicate z 0 in
    let lz3 : length (zeros (w - u)) ≡ w - u = length-replicate (w - u) 0 in
    let lv : length vs' ≡ length vs = ap length ev ∙ length-paste vs (16 * n) (zeros (16 * m - 16 * n)) (16 * m - 16 * n) (omega arith) (omega arith) in
    let lb : length bs' ≡ length bs = ap length eb ∙ length-set bs _ _ in
    let lb' : length bs'' ≡ length bs = ap length eb' ∙ (length-paste bs' (n / 8 + 1) (zeros z) z (omega arith) (omega arith) ∙ lb) in
    let le : length es' ≡ length es = ap length ee ∙ length_cut_ends es j k u (omega arith) (omega arith) in
    let ld : length ds' ≡ length ds = ap length ed ∙ length-paste ds u (zeros (w - u)) (w - u) (omega arith) (omega arith) in
    record {
      room = omega arith;
      few = omega arith;
      fits = omega arith;
      sound = sound_cut rows n (omega arith) h.sound;
      views_are = ev ∙ (ap (λ x. paste x (16 * n) (zeros (16 * m - 16 * n)) (16 * m - 16 * n)) h.views_are ∙ (views_cut rows n lt' (length vs) m em (omega arith) ∙ ap (λ i. views_of i (take n rows)) (sym lv)));
      bitmap_is =
          eb' ∙ (ap (λ x. paste x (n / 8 + 1) (zeros z) z) (eb ∙ ap (λ x. set x (n / 8) (get_or x (n / 8) 0 % 2 ^ (n % 8))) h.bitmap_is) ∙ (bitmap_cut rows n m (sym em) lt (length bs) (omega arith) ∙ ap (λ i. bitmap_of i (take n rows)) (sym lb')));
      ends_are = ee ∙ (ap (λ x. ends_cut x j k u) h.ends_are ∙ (ends_back rows n lt' (length es) j k u ej ek eu (omega arith) ∙ ap (λ i. ends_of i (take n rows)) (sym le)));
      bytes_are = ed ∙ (ap (λ x. paste x u (zeros (w - u)) (w - u)) h.bytes_are ∙ (data_cut rows n lt' (length ds) u w eu ew (omega arith) ∙ ap (λ i. data_of i (take n rows)) (sym ld)));
    }

-- memory that holds no rows is all zeros
pub no_rows : (vs bs es ds : List ℕ) (n m k u : ℕ) → vs ≡ zeros n → bs ≡ zeros m → es ≡ zeros k → ds ≡ zeros u → Holds vs bs es ds []
unfolding buffers_of views_of ends_of data_of
no_rows vs bs es ds n m k u v b e d =
    let lv : length vs ≡ n = ap length v ∙ length-replicate n 0 in
    let lb : length bs ≡ m = ap length b ∙ length-replicate m 0 in
    let le : length es ≡ k = ap length e ∙ length-replicate k 0 in
    let ld : length ds ≡ u = ap length d ∙ length-replicate u 0 in
    record {
      room = omega arith;
      few = omega arith;
      fits = omega arith;
      sound = λ k. refl;
      views_are = v ∙ (ap zeros (sym lv) ∙ sym (padded_none (length vs)));
      bitmap_is = b ∙ (ap zeros (sym lb) ∙ sym (bitmap_none (length bs)));
      ends_are = e ∙ (ap zeros (sym le) ∙ sym (padded_none (length es)));
      bytes_are = d ∙ (ap zeros (sym ld) ∙ sym (padded_none (length ds)));
    }
