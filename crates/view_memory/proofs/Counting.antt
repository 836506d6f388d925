-- The counts of rows, one row more.
use Rattle.std.proofs.Common.{◌≡◌, ℕ, ◌+◌, ◌<◌, ◌≤◌, cond, leb, List, [], ◌∷◌, ◌++◌, length, Some, None, sym, refl, ap, ◌∙◌, arith}
use Rattle.std.proofs.lemmas.List.{length_push}
use Rattle.std.proofs.lemmas.Bool.{le-leb, lt-leb, cond-true, cond-false, cond_both}
use Rattle.copying.proofs.Nulls.{null_more, text_more}
use Rattle.output.specs.declared.Counts.{Counts}
use Rattle.source.specs.Rows.{Row}
use Rattle.views.specs.Layout.{Data}
use Rattle.view_memory.specs.Layout.{buffers_of, buffer_for, with_text}
use Rattle.view_memory.specs.Memories.{Counted, longs_in}
use Rattle.view_memory.proofs.Growing.{length_ends, length_bytes}
use Rattle.view_memory.proofs.Laying.{buffers_push, row_null, row_short, row_long, rows_ordered}

longs_null : (rows : List Row) → longs_in (rows ++ None ∷ []) ≡ longs_in rows
longs_null [] = refl
longs_null (None ∷ rows) = longs_null rows
longs_null (Some t ∷ rows) = ap (λ n. n + cond (leb (length t) 12) 0 1) (longs_null rows)

longs_text : (rows : List Row) (t : List ℕ) → longs_in (rows ++ Some t ∷ []) ≡ longs_in rows + cond (leb (length t) 12) 0 1
longs_text [] t = refl
longs_text (None ∷ rows) t = longs_text rows t
longs_text (Some u ∷ rows) t = let e = longs_text rows t in omega arith

pub longs_most : (rows : List Row) → longs_in rows ≤ length rows
longs_most [] = omega arith
longs_most (None ∷ rows) = let h = longs_most rows in omega arith
longs_most (Some t ∷ rows) =
    let h = longs_most rows in
    let b : cond (leb (length t) 12) 0 1 ≤ 1 = cond_both (leb (length t) 12) 0 1 (λ x. x ≤ 1) (λ e. omega arith) (λ e. omega arith) in
    omega arith

module _ (held : Counts) (rows : List Row) (h : Counted held rows) where
  pub count_null : Counted (record { rows = held.rows + 1; nulls = held.nulls + 1; value_bytes = held.value_bytes; buffers = held.buffers; long_views = held.long_views }) (rows ++ None ∷ [])
  count_null =
      let d : buffers_of (rows ++ None ∷ []) ≡ buffers_of rows = buffers_push rows None ∙ row_null (buffers_of rows) in (
        ap (λ n. n + 1) h.0 ∙ sym (length_push rows None),
        ap (λ n. n + 1) h.1 ∙ sym (null_more rows),
        h.2 ∙ ap (λ x. length x.bytes) (sym d),
        h.3 ∙ ap (λ x. length x.ends) (sym d),
        h.4 ∙ sym (longs_null rows),
      )

  module _ (t : List ℕ) where
    pub count_short : length t ≤ 12 → Counted (record { rows = held.rows + 1; nulls = held.nulls; value_bytes = held.value_bytes; buffers = held.buffers; long_views = held.long_views }) (rows ++ Some t ∷ [])
    count_short short =
        let d : buffers_of (rows ++ Some t ∷ []) ≡ buffers_of rows = buffers_push rows (Some t) ∙ row_short (buffers_of rows) t short in
        let l = longs_text rows t in
        let c : cond (leb (length t) 12) 0 1 ≡ 0 = cond-true (leb (length t) 12) 0 1 (le-leb (length t) 12 short) in
        let z : longs_in rows ≡ longs_in rows + 0 = omega arith in (
          ap (λ n. n + 1) h.0 ∙ sym (length_push rows (Some t)),
          h.1 ∙ sym (text_more rows t),
          h.2 ∙ ap (λ x. length x.bytes) (sym d),
          h.3 ∙ ap (λ x. length x.ends) (sym d),
          h.4 ∙ (z ∙ (ap (λ n. longs_in rows + n) (sym c) ∙ sym l)),
        )

    pub count_long : 12 < length t → (b e : ℕ) → b ≡ buffer_for (buffers_of rows) (length t) → e ≡ held.value_bytes + length t → Counted (record { rows = held.rows + 1; nulls = held.nulls; value_bytes = e; buffers = b + 1; long_views = held.long_views + 1 }) (rows ++ Some t ∷ [])
    count_long big b e eb ee =
        let d : Data = buffers_of rows in
        let q : buffers_of (rows ++ Some t ∷ []) ≡ with_text d t = buffers_push rows (Some t) ∙ row_long d t big in
        let l = longs_text rows t in
        let c : cond (leb (length t) 12) 0 1 ≡ 1 = cond-false (leb (length t) 12) 0 1 (lt-leb (length t) 12 big) in (
          ap (λ n. n + 1) h.0 ∙ sym (length_push rows (Some t)),
          h.1 ∙ sym (text_more rows t),
          ee ∙ (ap (λ n. n + length t) h.2 ∙ (sym (length_bytes d (rows_ordered rows) t) ∙ ap (λ x. length x.bytes) (sym q))),
          ap (λ n. n + 1) eb ∙ (sym (length_ends d (rows_ordered rows) t) ∙ ap (λ x. length x.ends) (sym q)),
          ap (λ n. n + 1) h.4 ∙ (ap (λ n. longs_in rows + n) (sym c) ∙ sym l),
        )
