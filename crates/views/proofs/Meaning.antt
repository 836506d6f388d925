-- The verdict says when rows may be opened, and when each fault comes.
use Rattle.std.proofs.Common.{◌≡◌, ℕ, ◌+◌, ◌-◌, ◌*◌, ◌<◌, ◌≤◌, Bool, true, false, cond, leb, List, length, get_or, drop, Some, None, Ok, Err, Result, MatchResult, Decides, sym, refl, ap, ◌∙◌, subst, inl, inr, arith}
use Rattle.std.proofs.lemmas.Slice.Eq.{bytes_eq-Decides}
use Rattle.std.proofs.lemmas.List.{get_or-take, get_or-drop, get_or_past, length-take}
use Rattle.std.proofs.lemmas.Bool.{and_from, cases_Bool, cases_lt, false≢true, le-leb, leb-true}
use Rattle.std.proofs.lemmas.Bool.Decides.{Decides-and, Decides-ltb}
use Rattle.fault.specs.declared.Fault.{Fault}
use Rattle.fault.specs.declared.Fault.TheVariants.{ShortList, BufferEnd, View, Malformed}
use Rattle.bitmap.specs.Validity.{valid}
use Rattle.bitmap.proofs.Covering.{covers_decides}
use Rattle.source.specs.Verdicts.{Verdict, unless, then, first_fault, fault_of}
use Rattle.source.proofs.Faults.{first_fault_none, first_fault_some, no_some}
use Rattle.text.specs.Steps.{formed}
use Rattle.text.proofs.Forms.{formed_decides}
use Rattle.views.specs.Layout.{Data, Lists, blank, buffer, buffer_end, buffer_start, fits, long_rule, offset, part, place, short_rule, size, text, view}
use Rattle.views.specs.Verdict.{end_fault, end_holds, ends_fault, enough, row_fault, verdict}
use Rattle.views.specs.Meaning.{Enough, EndsHold, ShortHolds, LongHolds, ViewHolds, RowHolds, RowsHold, Opens, Refused, Says}
use Rattle.views.proofs.Opened.{row_fault_by}
use Rattle.views.proofs.Views.{all_blank, zero_from_blank, ends_hold, fits_not, fits_short, fits_long}

decides_leb : (a b : ℕ) → Decides (leb a b) (a ≤ b)
decides_leb a b = (leb-true a b, le-leb a b)

-- the lists
enough_decides : (n : ℕ) (m : Lists) → Decides (enough n m) (Enough n m)
unfolding enough
enough_decides n m = Decides-and _ _ (decides_leb (16 * n) (length m.views)) (covers_decides m.validity n)

-- the ends
end_wrong : (d : Data) (b : ℕ) (e : Fault) → end_fault d b ≡ Some e → (e ≡ BufferEnd) × (end_holds d b ≡ false)
unfolding end_fault
end_wrong d b e h =
    elim (cases_Bool (end_holds d b)) [
      | inl t ↦ no_some e (ap (λ x. unless x BufferEnd) (sym t) ∙ h)
      | inr t ↦ let k : Some BufferEnd ≡ Some e = ap (λ x. unless x BufferEnd) (sym t) ∙ h in (cc, t)
    ]

ends_wrong : (d : Data) (e : Fault) → ends_fault d ≡ Some e → (e ≡ BufferEnd) × (EndsHold d → ⊥)
unfolding end_holds
ends_wrong d e h =
    let k = first_fault_some (end_fault d) (length d.ends) e h in
    let w = end_wrong d k.0 e k.1.1 in
    (w.0, λ a. let p = a k.0 k.1.0 in false≢true (sym w.1 ∙ and_from _ _ (le-leb _ _ p.0) (le-leb _ _ p.1)))

-- the rules of a view
short_decides : (v : List ℕ) → Decides (short_rule v) (ShortHolds v)
short_decides v =
    let s : ℕ = size v in
    let xs : List ℕ = part (4 + s) (12 - s) v in
    let at : (j : ℕ) → j < 12 - s → get_or xs j 0 ≡ get_or v (4 + s + j) 0 = λ j l. get_or-take (12 - s) (drop (4 + s) v) j 0 l ∙ get_or-drop (4 + s) v j 0 in
    let to : blank xs ≡ true → ShortHolds v = λ h k a b.
    let z : 4 + s + (k - s) ≡ 4 + k = omega arith in
    let y : get_or xs (k - s) 0 ≡ get_or v (4 + k) 0 = at (k - s) (omega arith) ∙ ap (λ i. get_or v i 0) z in
    elim (cases_lt (k - s) (length xs)) [
      | inl l ↦ sym y ∙ zero_from_blank xs (k - s) h l
      | inr l ↦ sym y ∙ get_or_past xs (k - s) 0 l
    ] in
    let from : ShortHolds v → blank xs ≡ true = λ h. all_blank xs (λ j l.
    let m = length-take (12 - s) (drop (4 + s) v) in
    let i : j < 12 - s = omega arith in
    let z : 4 + s + j ≡ 4 + (s + j) = omega arith in
    at j i ∙ (ap (λ i. get_or v i 0) z ∙ h (s + j) (omega arith) (omega arith))) in
    (to, from)

long_decides : (d : Data) (v : List ℕ) → Decides (long_rule d v) (LongHolds d v)
long_decides d v =
    let room : ℕ = buffer_end d.ends (buffer v) - buffer_start d.ends (buffer v) in
    let e : Decides (long_rule d v) (((buffer v < length d.ends) × ((offset v + size v ≤ room) × (offset v + size v ≤ 2147483647))) × (part 4 4 v ≡ part (place d v) 4 d.bytes)) =
    Decides-and _ _ (Decides-and _ _ (Decides-ltb (buffer v) (length d.ends)) (Decides-and _ _ (decides_leb (offset v + size v) room) (decides_leb (offset v + size v) 2147483647))) (bytes_eq-Decides _ _) in
    (λ h. let p = e.0 h in (p.0.0, p.0.1.0, p.0.1.1, p.1), λ h. e.1 ((h.0, (h.1, h.2)), h.3))

view_decides : (d : Data) (v : List ℕ) → Decides (fits d v) (ViewHolds d v)
view_decides d v =
    elim (cases_lt 2147483647 (size v)) [
      | inl l ↦ (λ h. absurd (false≢true (sym (fits_not d v l) ∙ h)), λ h. absurd (omega (arith, h.0)))
      | inr l ↦
          elim (cases_lt 12 (size v)) [
            | inl b ↦
                let e : fits d v ≡ long_rule d v = fits_long d v b l in
                (λ h. (l, λ s. absurd (omega arith), λ _. (long_decides d v).0 (sym e ∙ h)), λ h. e ∙ (long_decides d v).1 (h.2 b))
            | inr b ↦
                let e : fits d v ≡ short_rule v = fits_short d v b in
                (λ h. (l, λ _. (short_decides v).0 (sym e ∙ h), λ s. absurd (omega arith)), λ h. e ∙ (short_decides v).1 (h.1 b))
          ]
    ]

module _ (m : Lists) (i : ℕ) where
  holds_by : (v f w : Bool) → valid m.validity i ≡ v → fits m.buffers (view m i) ≡ f → formed (text m.buffers (view m i)) ≡ w → then (cond v (unless f (View i)) None) (cond v (unless w (Malformed i)) None) ≡ None → RowHolds m i
  holds_by false f w x y z h = λ g. absurd (false≢true (sym x ∙ g))
  holds_by true false w x y z h = no_some _ (sym h)
  holds_by true true false x y z h = no_some _ (sym h)
  holds_by true true true x y z h = λ g. ((view_decides m.buffers (view m i)).0 y, (formed_decides (text m.buffers (view m i))).0 z)

  row_holds : row_fault m i ≡ None → RowHolds m i
  row_holds h = holds_by (valid m.validity i) _ _ refl refl refl (sym (row_fault_by m i _ _ _ refl refl refl) ∙ h)

  refused_by : (n : ℕ) (e : Fault) (v f w : Bool) → Enough n m → EndsHold m.buffers → i < n → RowsHold m i → valid m.validity i ≡ v → fits m.buffers (view m i) ≡ f → formed (text m.buffers (view m i)) ≡ w → then (cond v (unless f (View i)) None) (cond v (unless w (Malformed i)) None) ≡ Some e → Refused n m e
  refused_by n e false f w a b l h x y z g = no_some e g
  refused_by n e true false w a b l h x y z g =
      let s : View i ≡ e = cc in
      subst (Refused n m) s ((a, b, l, h, x), λ q. false≢true (sym y ∙ (view_decides m.buffers (view m i)).1 q))
  refused_by n e true true true a b l h x y z g = no_some e g
  refused_by n e true true false a b l h x y z g =
      let s : Malformed i ≡ e = cc in
      subst (Refused n m) s ((a, b, l, h, x), (view_decides m.buffers (view m i)).0 y, λ q. false≢true (sym z ∙ (formed_decides (text m.buffers (view m i))).1 q))

module _ (n : ℕ) (m : Lists) where
  rows_hold : (k : ℕ) → first_fault (row_fault m) k ≡ None → RowsHold m k
  rows_hold k h i l = row_holds m i (first_fault_none (row_fault m) k i h l)

  says_by : (b : Bool) (u v : Verdict) → enough n m ≡ b → ends_fault m.buffers ≡ u → first_fault (row_fault m) n ≡ v → Says n m (then (unless b ShortList) (then u v))
  says_by false u v x y z = λ a. false≢true (sym x ∙ (enough_decides n m).1 a)
  says_by true (Some d) v x y z =
      let w = ends_wrong m.buffers d y in
      subst (Refused n m) (sym w.0) ((enough_decides n m).0 x, w.1)
  says_by true None None x y z = ((enough_decides n m).0 x, λ b l. ends_hold m.buffers b y l, rows_hold n z)
  says_by true None (Some d) x y z =
      let k = first_fault_some (row_fault m) n d z in
      refused_by m k.0 n d _ _ _ ((enough_decides n m).0 x) (λ b l. ends_hold m.buffers b y l) k.1.0 (rows_hold k.0 k.1.2) refl refl refl (sym (row_fault_by m k.0 _ _ _ refl refl refl) ∙ k.1.1)

  pub says : (v : Verdict) → v ≡ verdict n m → Says n m v
  says v e = subst (Says n m) (sym e) (says_by (enough n m) (ends_fault m.buffers) (first_fault (row_fault m) n) refl refl refl)

  pub told : {X : Type 0} (r : Result X Fault) → fault_of r ≡ verdict n m → MatchResult r (λ _. Opens n m) (λ e. Refused n m e)
  told (Ok x) e = says None e
  told (Err d) e = says (Some d) e
