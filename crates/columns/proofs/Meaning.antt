-- The verdict says when rows may be opened, and when each fault comes.
use Rattle.std.proofs.Common.{◌≡◌, ℕ, zero, suc, ◌+◌, ◌<◌, ◌≤◌, Bool, true, false, cond, ◌&&◌, leb, ◌⊎◌, List, length, ℤ, pos, negsuc, nat_abs, ◌≤ℤ◌, is_some, Some, None, Decides, Option, sym, refl, ap, ◌∙◌, subst, inl, inr, add-one, arith}
use Rattle.std.proofs.lemmas.Int.{ints}
use Rattle.std.proofs.lemmas.Bool.{cases_Bool, and_parts, leb-true, le-leb, and_from, false≢true, cases_lt}
use Rattle.std.proofs.lemmas.Bool.Decides.{Decides-and, Decides-like, Decides-or, Decides-eqb, Decides-ltb}
use Rattle.std.specs.List.{between}
use Rattle.fault.specs.declared.Fault.{Fault}
use Rattle.fault.specs.declared.Fault.TheVariants.{ShortList, Offset, Malformed}
use Rattle.bitmap.specs.Validity.{valid}
use Rattle.bitmap.proofs.Covering.{covers_decides}
use Rattle.source.specs.Verdicts.{Verdict, unless, then, first_fault, malformed}
use Rattle.source.proofs.Faults.{first_fault_none, first_fault_some, no_some}
use Rattle.source.proofs.Numbered.{at_rows_by}
use Rattle.text.specs.Steps.{formed}
use Rattle.text.proofs.Forms.{formed_decides}
use Rattle.columns.specs.Offsets.{Lists, cut, enough, offset, part, place_of, row_at, row_fault, verdict}
use Rattle.columns.proofs.Opened.{row_fault_by}
use Rattle.columns.specs.Meaning.{Enough, OffsetsHold, run, RowHolds, RowsHold, Reads, Refused, Says}

-- the lists
enough_decides : (n : ℕ) (m : Lists) → Decides (enough n m) (Enough n m)
unfolding enough
enough_decides n m =
    let l : ℕ = length m.offsets in
    let to : (n ≡ 0) ⊎ (n < l) → 0 < n → n + 1 ≤ l = λ s p. elim s [ inl e ↦ omega arith | inr e ↦ omega arith ] in
    let from : (0 < n → n + 1 ≤ l) → (n ≡ 0) ⊎ (n < l) = λ h. elim (cases_lt 0 n) [ inl p ↦ let q = h p in inr (omega arith) | inr p ↦ inl (omega arith) ] in
    Decides-and _ _ (Decides-like _ to from (Decides-or _ _ (Decides-eqb n 0) (Decides-ltb n l))) (covers_decides m.validity n)

pub too_short : (n : ℕ) (m : Lists) → false ≡ enough n m → Enough n m → ⊥
too_short n m e a = false≢true (e ∙ (enough_decides n m).1 a)

-- a cut, by its offsets
module _ (bytes : List ℕ) where
  cut_some : (z w : ℤ) (t : List ℕ) → cut bytes (place_of z) (place_of w) ≡ Some t → (pos 0 ≤ℤ z) × (z ≤ℤ w) × (w ≤ℤ pos (length bytes)) × (t ≡ between (nat_abs z) (nat_abs w) bytes)
  cut_some (negsuc a) w t e = no_some t e
  cut_some (pos a) (negsuc b) t e = no_some t e
  cut_some (pos a) (pos b) t e =
      elim (cases_Bool (leb a b && leb b (length bytes))) [
        | inl h ↦
            let p = and_parts _ _ h in
            let x : a ≤ b = leb-true _ _ p.0 in
            let y : b ≤ length bytes = leb-true _ _ p.1 in
            let s : Some (between a b bytes) ≡ Some t = ap (λ c. cond c (Some (between a b bytes)) None) (sym h) ∙ e in
            (omega (arith, ints), omega (arith, ints), omega (arith, ints), cc)
        | inr h ↦ no_some t (ap (λ c. cond c (Some (between a b bytes)) None) (sym h) ∙ e)
      ]

  cut_holds : (z w : ℤ) → pos 0 ≤ℤ z → z ≤ℤ w → w ≤ℤ pos (length bytes) → cut bytes (place_of z) (place_of w) ≡ Some (between (nat_abs z) (nat_abs w) bytes)
  cut_holds (negsuc a) w p q r = absurd (omega (arith, ints))
  cut_holds (pos a) (negsuc b) p q r = absurd (omega (arith, ints))
  cut_holds (pos a) (pos b) p q r =
      let x : a ≤ b = omega (arith, ints) in
      let y : b ≤ length bytes = omega (arith, ints) in
      ap (λ c. cond c (Some (between a b bytes)) None) (and_from _ _ (le-leb a b x) (le-leb b (length bytes) y))

-- where the rows before hold, a row starts at a place
start_holds : (m : Lists) (i : ℕ) → RowsHold m i → OffsetsHold m i → pos 0 ≤ℤ offset m i
start_holds m zero h o = (o.0 refl).0
start_holds m (suc k) h o =
    let p : OffsetsHold m k = (h k (omega arith)).0 in
    let q : pos 0 ≤ℤ offset m k = start_holds m k (λ j l. h j (omega arith)) p in
    let r : offset m k ≤ℤ offset m (suc k) = subst (λ j. offset m k ≤ℤ offset m j) (add-one k) p.1 in
    omega (arith, ints)

part_holds : (m : Lists) (i : ℕ) → RowsHold m i → OffsetsHold m i → part m i ≡ Some (run m i)
unfolding part
part_holds m i h o = cut_holds m.values (offset m i) (offset m (i + 1)) (start_holds m i h o) o.1 o.2

part_some : (m : Lists) (i : ℕ) (t : List ℕ) → part m i ≡ Some t → OffsetsHold m i × (t ≡ run m i)
unfolding part
part_some m i t e =
    let c = cut_some m.values (offset m i) (offset m (i + 1)) t e in
    let p : pos 0 ≤ℤ offset m i = c.0 in
    let q : offset m i ≤ℤ offset m (i + 1) = c.1 in
    let r : offset m (i + 1) ≤ℤ pos (length m.values) = c.2 in
    let s : offset m i ≤ℤ pos (length m.values) = omega (arith, ints) in
    ((λ z. (subst (λ k. pos 0 ≤ℤ offset m k) z p, subst (λ k. offset m k ≤ℤ pos (length m.values)) z s), q, r), c.3)

module _ (m : Lists) (i : ℕ) where
  formed_run : (t : List ℕ) (b : Bool) → part m i ≡ Some t → formed t ≡ b → formed (run m i) ≡ b
  formed_run t b e f = ap formed (sym (part_some m i t e).1) ∙ f

  holds_by : (v : Bool) (p : Option (List ℕ)) → valid m.validity i ≡ v → part m i ≡ p → then (unless (is_some p) (Offset i)) (malformed i (cond v p None)) ≡ None → RowHolds m i
  holds_by v None e f h = no_some _ (sym h)
  holds_by false (Some t) e f h = ((part_some m i t f).0, λ g. absurd (false≢true (sym e ∙ g)))
  holds_by true (Some t) e f h =
      elim (cases_Bool (formed t)) [
        | inl b ↦ ((part_some m i t f).0, λ g. (formed_decides (run m i)).0 (formed_run t true f b))
        | inr b ↦ no_some _ (sym (ap (λ x. unless x (Malformed i)) (sym b) ∙ h))
      ]

  row_holds : row_fault m i ≡ None → RowHolds m i
  row_holds h = holds_by (valid m.validity i) (part m i) refl refl (sym (row_fault_by m i _ _ refl refl) ∙ h)

  refused_by : (n : ℕ) (e : Fault) (v : Bool) (p : Option (List ℕ)) → Enough n m → i < n → RowsHold m i → valid m.validity i ≡ v → part m i ≡ p → then (unless (is_some p) (Offset i)) (malformed i (cond v p None)) ≡ Some e → Refused n m e
  refused_by n e v None a l h x f g =
      let s : Offset i ≡ e = cc in
      subst (Refused n m) s (a, l, h, λ o. no_some _ (sym f ∙ part_holds m i h o))
  refused_by n e false (Some t) a l h x f g = no_some e g
  refused_by n e true (Some t) a l h x f g =
      elim (cases_Bool (formed t)) [
        | inl b ↦ no_some e (ap (λ y. unless y (Malformed i)) (sym b) ∙ g)
        | inr b ↦
            let k : Some (Malformed i) ≡ Some e = ap (λ y. unless y (Malformed i)) (sym b) ∙ g in
            let s : Malformed i ≡ e = cc in
            subst (Refused n m) s (a, l, h, (part_some m i t f).0, x, λ w. false≢true (sym (formed_run t false f b) ∙ (formed_decides (run m i)).1 w))
      ]

module _ (n : ℕ) (m : Lists) where
  rows_hold : (k : ℕ) → first_fault (row_fault m) k ≡ None → RowsHold m k
  rows_hold k h i l = row_holds m i (first_fault_none (row_fault m) k i h l)

  reads : RowsHold m n → Reads n m
  reads h i l =
      at_rows_by (row_at m) n i None l ∙ ap (λ p. cond (valid m.validity i) p None) (part_holds m i (λ j k. h j (omega arith)) (h i l).0)

  says_by : (b : Bool) (v : Verdict) → enough n m ≡ b → first_fault (row_fault m) n ≡ v → Says n m (then (unless b ShortList) v)
  says_by false v e f = too_short n m (sym e)
  says_by true None e f = (((enough_decides n m).0 e, rows_hold n f), reads (rows_hold n f))
  says_by true (Some d) e f =
      let k = first_fault_some (row_fault m) n d f in
      refused_by m k.0 n d _ _ ((enough_decides n m).0 e) k.1.0 (rows_hold k.0 k.1.2) refl refl (sym (row_fault_by m k.0 _ _ refl refl) ∙ k.1.1)

  pub says : (v : Verdict) → v ≡ verdict n m → Says n m v
  says v e = subst (Says n m) (sym e) (says_by (enough n m) (first_fault (row_fault m) n) refl refl)
