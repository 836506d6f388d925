-- Where a text goes, from numbers that stand in memory: b is the number of buffers, u that of their bytes.
use Rattle.std.proofs.Common.{◌≡◌, ℕ, ◌+◌, ◌-◌, ◌<◌, ◌≤◌, true, false, ◌||◌, eqb, ltb, List, length, get_or, None, sym, ap, ◌∙◌, inl, inr, arith}
use Rattle.std.proofs.lemmas.List.{get_or_append_left}
use Rattle.std.proofs.lemmas.Bool.{eq-eqb, ne_eqb, lt-ltb, or_left, or_right, cond-true, cond-false, cases_Bool}
use Rattle.std.proofs.lemmas.Bool.Decides.{nat_tests}
use Rattle.source.specs.Rows.{Row}
use Rattle.views.specs.Layout.{Data, buffer_start}
use Rattle.writing.specs.Padding.{padded}
use Rattle.view_memory.specs.Layout.{filled, opens, buffer_for, offset_for, buffers_of, ends_of}
use Rattle.view_memory.specs.Rule.{end_capacity, text_verdict}
use Rattle.view_memory.specs.Holding.{Holds}
use Rattle.view_memory.proofs.Growing.{Ordered, start_at, start_zero, last_open}
use Rattle.view_memory.proofs.Laying.{rows_ordered}
use Rattle.view_memory.proofs.Verdicts.{long_may}

pub end_in_memory : {vs bs es ds : List ℕ} {rows : List Row} → Holds vs bs es ds rows → (k : ℕ) → k < length (buffers_of rows).ends → get_or es k 0 ≡ get_or (buffers_of rows).ends k 0
unfolding ends_of padded
end_in_memory {rows = rows} h k l = ap (λ x. get_or x k 0) h.ends_are ∙ get_or_append_left (buffers_of rows).ends _ 0 k l

module _ (d : Data) (o : Ordered d) (b u : ℕ) (eb : b ≡ length d.ends) (eu : u ≡ length d.bytes) where
  pub filled_first : b ≤ 1 → u ≡ filled d
  filled_first h =
      let z : length d.ends - 1 ≡ 0 = omega arith in
      let s : buffer_start d.ends (length d.ends - 1) ≡ 0 = ap (buffer_start d.ends) z ∙ start_zero d.ends in
      omega arith

  pub filled_later : (x : ℕ) → 1 < b → x ≡ get_or d.ends (b - 2) 0 → (x ≤ u) × (u - x ≡ filled d)
  filled_later x h e =
      let i : length d.ends - 1 < length d.ends = omega arith in
      let z : length d.ends - 1 - 1 ≡ b - 2 = omega arith in
      let s : buffer_start d.ends (length d.ends - 1) ≡ x = start_at d.ends (length d.ends - 1) (omega arith) ∙ (ap (λ k. get_or d.ends k 0) z ∙ sym e) in
      let r = o.rise (length d.ends - 1) i in
      let w = o.within (length d.ends - 1) i in
      (omega arith, omega arith)

  pub opens_none : (n : ℕ) → b ≡ 0 → true ≡ opens d n
  unfolding opens
  opens_none n z = sym (or_left (eqb (length d.ends) 0) _ (eq-eqb (length d.ends) 0 (omega arith)))

  pub opens_over : (n f : ℕ) → f ≡ filled d → 8192 < f → ltb 8192 f ≡ opens d n
  unfolding opens
  opens_over n f e h = lt-ltb 8192 f h ∙ sym (or_right (eqb (length d.ends) 0) _ (lt-ltb 8192 (filled d + n) (omega arith)))

  pub opens_by : (n f : ℕ) → f ≡ filled d → f ≤ 8192 → (b ≡ 0 → ⊥) → ltb (8192 - f) n ≡ opens d n
  unfolding opens
  opens_by n f e h z =
      let p : eqb (length d.ends) 0 ≡ false = ne_eqb (length d.ends) 0 (λ q. z (omega arith)) in
      let q : ltb (8192 - f) n ≡ ltb 8192 (filled d + n) = grind (arith, nat_tests) in
      q ∙ ap (λ x. x || ltb 8192 (filled d + n)) (sym p)

  pub place_new : (n : ℕ) → true ≡ opens d n → (b ≡ buffer_for d n) × (0 ≡ offset_for d n)
  unfolding buffer_for offset_for
  place_new n h =
      (eb ∙ sym (cond-true (opens d n) (length d.ends) (length d.ends - 1) (sym h)), sym (cond-true (opens d n) 0 (filled d) (sym h)))

  pub place_last : (n f : ℕ) → false ≡ opens d n → f ≡ filled d → (1 ≤ b) × (b - 1 ≡ buffer_for d n) × (f ≡ offset_for d n)
  unfolding buffer_for offset_for
  place_last n f h e =
      let l = last_open d o n (sym h) in
      let p = l.0 in
      let c = cond-false (opens d n) (length d.ends) (length d.ends - 1) (sym h) in
      (omega arith, ap (λ k. k - 1) eb ∙ sym c, e ∙ sym (cond-false (opens d n) 0 (filled d) (sym h)))

-- A text that may be added has an end and bytes
module _ {vs bs es ds : List ℕ} {rows : List Row} (h : Holds vs bs es ds rows) (n : ℕ) (big : 12 < n) (may : text_verdict (end_capacity (length es)) (length ds) (buffers_of rows) n ≡ None) where
  pub has_end : buffer_for (buffers_of rows) n < end_capacity (length es)
  unfolding buffer_for
  has_end =
      let d : Data = buffers_of rows in
      let f = h.few in
      elim (cases_Bool (opens d n)) [
        | inl o ↦
            let b : buffer_for d n ≡ length d.ends = cond-true (opens d n) (length d.ends) (length d.ends - 1) o in
            let l = (long_may (end_capacity (length es)) (length ds) d n big may).1 o in
            omega arith
        | inr o ↦
            let b : buffer_for d n ≡ length d.ends - 1 = cond-false (opens d n) (length d.ends) (length d.ends - 1) o in
            let l = (last_open d (rows_ordered rows) n o).0 in
            omega arith
      ]
