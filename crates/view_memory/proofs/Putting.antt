-- A text behind the rows that memory holds, as its writes give it.
use Rattle.std.proofs.Common.{◌≡◌, ℕ, ◌+◌, ◌*◌, ◌<◌, ◌≤◌, true, List, [], ◌∷◌, ◌++◌, length, set, Some, None, sym, refl, ap, ◌∙◌, arith}
use lib.Seq.{paste}
use Rattle.output.specs.declared.Counts.{Counts}
use Rattle.source.specs.Rows.{Row}
use Rattle.text.specs.Steps.{formed}
use Rattle.view_cells.specs.Views.{view_of}
use Rattle.view_memory.specs.Layout.{buffers_of, buffer_for, offset_for}
use Rattle.view_memory.specs.Memories.{Counted, Has}
use Rattle.view_memory.specs.Rule.{capacity, end_capacity, text_verdict}
use Rattle.view_memory.specs.declared.memory.Memory.{Memory}
use Rattle.view_memory.proofs.Places.{has_end}
use Rattle.view_memory.proofs.Verdicts.{long_may, text_may}
use Rattle.view_memory.proofs.Writes.{push_long, push_short}
use Rattle.writing.specs.Bitmaps.{marked}

-- b are the bytes of the text t
module _ (m k : Memory) (held : Counts) (rows : List Row) (h : Has m rows) (c : Counted held rows) (room : held.rows < capacity (length m.views.now) (length m.validity.now)) (t b : List ℕ) (e : b ≡ t) (well : formed b ≡ true) (bits : k.validity.now ≡ marked m.validity.now held.rows) where
  pub short_put : length t ≤ 12 → k.views.now ≡ paste m.views.now (16 * held.rows) (view_of b 0 0) 16 → k.ends.now ≡ m.ends.now → k.bytes.now ≡ m.bytes.now → Has k (rows ++ Some t ∷ [])
  short_put short ev ee ed =
      let l : length b ≡ length t = ap length e in
      let p = push_short h held.rows c.0 room b well k.views.now k.validity.now bits (omega arith) 0 0 ev in
      rw (ee, ed, ← e) p

  module _ (long : 12 < length t) (may : text_verdict (end_capacity (length m.ends.now)) (length m.bytes.now) (buffers_of rows) (length t) ≡ None) (buffer offset : ℕ) (eb : buffer ≡ buffer_for (buffers_of rows) (length t)) (eo : offset ≡ offset_for (buffers_of rows) (length t)) where
    pub long_put : k.views.now ≡ paste m.views.now (16 * held.rows) (view_of b buffer offset) 16 → k.ends.now ≡ set m.ends.now buffer (held.value_bytes + length b) → k.bytes.now ≡ paste m.bytes.now held.value_bytes b (length b) → Has k (rows ++ Some t ∷ [])
    long_put ev ee ed =
        let l : length b ≡ length t = ap length e in
        let f = (long_may (end_capacity (length m.ends.now)) (length m.bytes.now) (buffers_of rows) (length t) long may).0 in
        let small = text_may (end_capacity (length m.ends.now)) (length m.bytes.now) (buffers_of rows) (length t) may in
        let u = c.2 in
        let x = has_end h (length t) long may in
        let p =
        push_long h held.rows c.0 room b well k.views.now k.validity.now bits (omega arith) (omega arith) buffer offset held.value_bytes (held.value_bytes + length b)
        (eb ∙ ap (buffer_for (buffers_of rows)) (sym l)) (eo ∙ ap (offset_for (buffers_of rows)) (sym l)) u refl (omega arith) (omega arith) k.ends.now k.bytes.now ev ee ed in
        rw (← e) p
