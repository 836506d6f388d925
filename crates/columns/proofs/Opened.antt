-- What is known of rows that may be opened.
use Rattle.std.proofs.Common.{◌≡◌, ℕ, ◌+◌, ◌<◌, Bool, true, cond, List, length, ℤ, is_some, Some, None, Option, arith}
use Rattle.fault.specs.declared.Fault.TheVariants.{ShortList, Offset}
use Rattle.bitmap.specs.Validity.{valid}
use Rattle.source.specs.Verdicts.{unless, then, first_fault, malformed, accepts}
use Rattle.source.proofs.Faults.{none_from_accepts, true_from_unless, then_none, first_fault_none, formed_from_none}
use Rattle.text.specs.Steps.{formed}
use Rattle.columns.specs.declared.lent.Lent.{Lent}
use Rattle.columns.specs.Reading.{lists}
use Rattle.std.proofs.lemmas.Bool.Decides.{nat_tests}
use Rattle.std.proofs.lemmas.List.{length-map}
use Rattle.columns.specs.Offsets.{Lists, enough, part, row_at, row_fault, verdict}

-- each of the rows has its two offsets
pub room_from_enough : {W : Type 0} (number : W → ℤ) (m : Lent W) (n i : ℕ) → enough n (lists number m) ≡ true → i < n → i + 1 < length m.offsets.now
unfolding enough
room_from_enough number m n i h l =
    let e = length-map m.offsets.now number in
    grind (arith, nat_tests)

-- a row's fault, by whether it is valid and its bytes
pub row_fault_by : (m : Lists) (i : ℕ) (v : Bool) (p : Option (List ℕ)) → valid m.validity i ≡ v → part m i ≡ p → row_fault m i ≡ then (unless (is_some p) (Offset i)) (malformed i (cond v p None))
unfolding row_fault
row_fault_by m i v p e f = simp (e, f)

module _ (n : ℕ) (m : Lists) (sound : accepts (verdict n m) ≡ true) where
  parts : (unless (enough n m) ShortList ≡ None) × (first_fault (row_fault m) n ≡ None)
  parts = then_none (unless (enough n m) ShortList) (first_fault (row_fault m) n) (none_from_accepts (verdict n m) sound)

  pub has_enough : enough n m ≡ true
  has_enough = true_from_unless (enough n m) _ parts.0

  -- a row that is not null is well-formed
  pub row_formed : (i : ℕ) (t : List ℕ) → i < n → valid m.validity i ≡ true → part m i ≡ Some t → formed t ≡ true
  unfolding row_fault
  row_formed i t l v e =
      let f : row_fault m i ≡ None = first_fault_none (row_fault m) n i parts.1 l in
      let g : malformed i (row_at m i) ≡ None = (then_none (unless (is_some (part m i)) (Offset i)) (malformed i (row_at m i)) f).1 in
      formed_from_none i (row_at m i) t (simp v e) g
