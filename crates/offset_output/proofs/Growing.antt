-- Memory that holds rows: one row more, fewer rows, and what they take.
use Rattle.std.proofs.Common.{◌≡◌, ℕ, ◌+◌, ◌<◌, ◌≤◌, true, List, [], ◌∷◌, ◌++◌, map, length, get_or, set, Some, None, ℤ, pos, sym, refl, ap, ◌∙◌, arith}
use lib.Seq.{paste}
use Rattle.std.proofs.lemmas.List.{length_push, length-map, map-set, get_or-map}
use Rattle.offset_layout.specs.Layout.{capacity, used, Holds}
use Rattle.offset_layout.proofs.Holding.{push_null_to, push_text_to, last_offset}
use Rattle.offset_layout.proofs.Reading.{rows_are}
use Rattle.offset_layout.proofs.Values.{used_push}
use Rattle.output.specs.declared.Counts.{Counts}
use Rattle.source.specs.Rows.{Row}
use Rattle.copying.proofs.Nulls.{null_more, text_more}
use Rattle.offset_output.specs.Memories.{Has, capacity_of, counted, rows_of}
use Rattle.text.specs.Steps.{formed}
use Rattle.writing.specs.Bitmaps.{marked}
use Rattle.offset_output.specs.declared.memory.Memory.{Memory}

module _ (c : Counts) (rows : List Row) (e : c ≡ counted rows) where
  pub null_counted : ◌≡◌ {A = Counts} (record { rows = c.rows + 1; nulls = c.nulls + 1; value_bytes = c.value_bytes; buffers = c.buffers; long_views = c.long_views }) (counted (rows ++ None ∷ []))
  null_counted =
      let l = length_push rows None in
      let n = null_more rows in
      let u : used (rows ++ None ∷ []) ≡ used rows = used_push rows None ∙ omega arith in
      cc

  pub text_counted : (t : List ℕ) → ◌≡◌ {A = Counts} (record { rows = c.rows + 1; nulls = c.nulls; value_bytes = c.value_bytes + length t; buffers = c.buffers; long_views = c.long_views }) (counted (rows ++ Some t ∷ []))
  text_counted t =
      let l = length_push rows (Some t) in
      let n = text_more rows t in
      let u : used (rows ++ Some t ∷ []) ≡ used rows + length t = used_push rows (Some t) in
      cc

pub none_counted : (c : Counts) → (c.rows ≡ 0) × ((c.nulls ≡ 0) × ((c.value_bytes ≡ 0) × ((c.buffers ≡ 0) × (c.long_views ≡ 0)))) → c ≡ counted []
unfolding used
none_counted c e =
    let a = e.0 in
    let b = e.1.0 in
    let d = e.1.1.0 in
    let f = e.1.1.1.0 in
    let h = e.1.1.1.1 in
    let u : used [] ≡ 0 = refl in
    let k : c ≡ record { rows = c.rows; nulls = c.nulls; value_bytes = c.value_bytes; buffers = c.buffers; long_views = c.long_views } = refl in
    cc

-- memory that holds rows, which are then read from it
module _ {W : Type 0} (number : W → ℤ) (m : Memory W) (rows : List Row) (c : Counts) (h : Holds (map number m.offsets.now) m.values.now m.validity.now rows c.rows c.value_bytes) where
  pub has : c ≡ counted rows → Has number m c
  has e = record { holds = rw (rows_are h) h; counts = rw (rows_are h) e }

module _ {W : Type 0} (number : W → ℤ) (m : Memory W) (c : Counts) (h : Has number m c) where
  -- a null more
  pub null_put : c.rows < capacity_of m → (d : W) → Holds (map number (set m.offsets.now (c.rows + 1) (get_or m.offsets.now c.rows d))) m.values.now m.validity.now (rows_of number m c.rows ++ None ∷ []) (c.rows + 1) c.value_bytes
  null_put room d =
      let os = m.offsets.now in
      let n = c.rows in
      let l = length-map os number in
      let r : n < capacity (length (map number os)) (length m.validity.now) = omega arith in
      let v : number (get_or os n d) ≡ pos c.value_bytes = sym (get_or-map number os n d (pos 0) (omega arith)) ∙ last_offset h.holds (pos 0) (omega arith) in
      push_null_to h.holds r _ (map-set number os (n + 1) (get_or os n d) ∙ ap (set (map number os) (n + 1)) v)

  -- a text more; its bytes are b
  pub text_put : c.rows < capacity_of m → (t b : List ℕ) → b ≡ t → formed b ≡ true → c.value_bytes + length t ≤ length m.values.now → (end : W) → number end ≡ pos (c.value_bytes + length t) → (k : Memory W) → k.offsets.now ≡ set m.offsets.now (c.rows + 1) end → k.values.now ≡ paste m.values.now c.value_bytes b (length b) → k.validity.now ≡ marked m.validity.now c.rows → Holds (map number k.offsets.now) k.values.now k.validity.now (rows_of number m c.rows ++ Some t ∷ []) (c.rows + 1) (c.value_bytes + length b)
  text_put room t b e well fits end en k eo ev eb =
      let os = m.offsets.now in
      let l = length-map os number in
      let r : c.rows < capacity (length (map number os)) (length m.validity.now) = omega arith in
      push_text_to h.holds r t b e well fits _ _ _ (ap (map number) eo ∙ (map-set number os (c.rows + 1) end ∙ ap (set (map number os) (c.rows + 1)) en)) ev eb
