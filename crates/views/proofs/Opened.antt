-- What is known of rows that may be opened.
use Rattle.std.proofs.Common.{◌≡◌, ℕ, ◌<◌, Bool, true, false, cond, List, Some, None, sym, refl, ap, ◌∙◌}
use Rattle.fault.specs.declared.Fault.TheVariants.{ShortList, View, Malformed}
use Rattle.bitmap.specs.Validity.{valid}
use Rattle.source.specs.Verdicts.{unless, then, first_fault, malformed, accepts}
use Rattle.source.proofs.Faults.{none_from_accepts, true_from_unless, then_none, first_fault_none, formed_from_none}
use Rattle.text.specs.Steps.{formed}
use Rattle.views.specs.Layout.{Lists, fits, row_at, text, view}
use Rattle.views.specs.Verdict.{enough, ends_fault, row_fault, verdict}

malformed_by : (i : ℕ) (v w : Bool) (t : List ℕ) → formed t ≡ w → malformed i (cond v (Some t) None) ≡ cond v (unless w (Malformed i)) None
malformed_by i true w t e = ap (λ b. unless b (Malformed i)) e
malformed_by i false w t e = refl

-- a row's fault, by whether it is valid, whether its view keeps the rules, and whether its text is well-formed
pub row_fault_by : (m : Lists) (i : ℕ) (v f w : Bool) → valid m.validity i ≡ v → fits m.buffers (view m i) ≡ f → formed (text m.buffers (view m i)) ≡ w → row_fault m i ≡ then (cond v (unless f (View i)) None) (cond v (unless w (Malformed i)) None)
unfolding row_fault
row_fault_by m i v f w x y z =
    ap (λ b. then (cond b (unless (fits m.buffers (view m i)) (View i)) None) (malformed i (cond b (Some (text m.buffers (view m i))) None))) x
    ∙ (ap (λ b. then (cond v (unless b (View i)) None) (malformed i (cond v (Some (text m.buffers (view m i))) None))) y ∙ ap (then (cond v (unless f (View i)) None)) (malformed_by i v w (text m.buffers (view m i)) z))

module _ (n : ℕ) (m : Lists) (sound : accepts (verdict n m) ≡ true) where
  parts : (unless (enough n m) ShortList ≡ None) × (then (ends_fault m.buffers) (first_fault (row_fault m) n) ≡ None)
  parts = then_none (unless (enough n m) ShortList) (then (ends_fault m.buffers) (first_fault (row_fault m) n)) (none_from_accepts (verdict n m) sound)

  pub has_enough : enough n m ≡ true
  has_enough = true_from_unless (enough n m) _ parts.0

  pub has_ends : ends_fault m.buffers ≡ None
  has_ends = (then_none (ends_fault m.buffers) (first_fault (row_fault m) n) parts.1).0

  row_parts : (i : ℕ) → i < n → (cond (valid m.validity i) (unless (fits m.buffers (view m i)) (View i)) None ≡ None) × (malformed i (row_at m i) ≡ None)
  unfolding row_fault
  row_parts i l =
      let f : row_fault m i ≡ None = first_fault_none (row_fault m) n i (then_none (ends_fault m.buffers) (first_fault (row_fault m) n) parts.1).1 l in
      then_none (cond (valid m.validity i) (unless (fits m.buffers (view m i)) (View i)) None) (malformed i (row_at m i)) f

  -- the view of a row that is not null keeps the rules, and its text is well-formed
  pub row_fits : (i : ℕ) → i < n → valid m.validity i ≡ true → fits m.buffers (view m i) ≡ true
  row_fits i l v =
      let e = ap (λ b. cond b (unless (fits m.buffers (view m i)) (View i)) None) (sym v) ∙ (row_parts i l).0 in
      true_from_unless (fits m.buffers (view m i)) _ e

  pub row_formed : (i : ℕ) → i < n → valid m.validity i ≡ true → formed (text m.buffers (view m i)) ≡ true
  row_formed i l v =
      formed_from_none i (row_at m i) _ (ap (λ b. cond b (Some (text m.buffers (view m i))) None) v) (row_parts i l).1
