-- The first fault of several, as a loop comes upon it.
use Rattle.std.proofs.Common.{◌≡◌, ℕ, zero, suc, ◌+◌, ◌-◌, ◌<◌, Bool, true, false, List, Some, None, Ok, Err, Result, sym, refl, ap, ◌∙◌, inl, inr, add-one, arith}
use Rattle.std.proofs.lemmas.Bool.{cases_eq, false≢true}
use Rattle.std.specs.Result.{IsErrAnd}
use Rattle.fault.specs.declared.Fault.{Fault}
use Rattle.source.specs.Rows.{Row}
use Rattle.source.specs.Verdicts.{Verdict, unless, then, first_fault, malformed, accepts, fault_of}
use Rattle.text.specs.Steps.{formed}

-- one number more
pub first_fault_more : (f : ℕ → Verdict) (n : ℕ) → first_fault f n ≡ None → first_fault f (n + 1) ≡ f n
first_fault_more f n h = ap (first_fault f) (add-one n) ∙ ap (λ v. then v (f n)) h

-- a fault that is found stays the first
stays : (f : ℕ → Verdict) (e : Fault) (n k : ℕ) → first_fault f n ≡ Some e → first_fault f (k + n) ≡ Some e
stays f e n zero h = let z : zero + n ≡ n = omega arith in ap (first_fault f) z ∙ h
stays f e n (suc k) h =
    let z : suc k + n ≡ suc (k + n) = omega arith in
    ap (first_fault f) z ∙ ap (λ v. then v (f (k + n))) (stays f e n k h)

pub first_fault_found : (f : ℕ → Verdict) (e : Fault) (i n : ℕ) → i < n → first_fault f i ≡ None → f i ≡ Some e → first_fault f n ≡ Some e
first_fault_found f e i n l h g =
    let z : (n - (i + 1)) + (i + 1) ≡ n = omega arith in
    ap (first_fault f) (sym z) ∙ stays f e (i + 1) (n - (i + 1)) (first_fault_more f i h ∙ g)

-- none is not some
pub no_some : {X P : Type 0} (x : X) → None ≡ Some x → P
no_some x e = let z : ◌≡◌ {A = ℕ} 0 1 = cc in absurd (omega arith)

-- a fault that `?` hands on
pub handed_on : {X : Type 0} (r : Result X Fault) (e : Fault) → IsErrAnd r (λ d. d ≡ e) → fault_of r ≡ Some e
handed_on (Ok x) e h = absurd h
handed_on (Err d) e h = ap Some h

-- no fault at all
pub none_from_accepts : (v : Verdict) → accepts v ≡ true → v ≡ None
none_from_accepts None h = refl
none_from_accepts (Some e) h = absurd (false≢true h)

pub true_from_unless : (b : Bool) (e : Fault) → unless b e ≡ None → b ≡ true
true_from_unless true e h = refl
true_from_unless false e h = no_some e (sym h)

pub then_none : (u v : Verdict) → then u v ≡ None → (u ≡ None) × (v ≡ None)
then_none None v h = (refl, h)
then_none (Some e) v h = no_some e (sym h)

pub first_fault_none : (f : ℕ → Verdict) (n k : ℕ) → first_fault f n ≡ None → k < n → f k ≡ None
first_fault_none f zero k h l = absurd (omega arith)
first_fault_none f (suc n) k h l =
    let e = then_none (first_fault f n) (f n) h in
    elim (cases_eq k n) [ inl q ↦ ap f q ∙ e.1 | inr q ↦ first_fault_none f n k e.0 (omega arith) ]

pub formed_from_none : (i : ℕ) (r : Row) (t : List ℕ) → r ≡ Some t → malformed i r ≡ None → formed t ≡ true
formed_from_none i r t e h = true_from_unless (formed t) _ (ap (malformed i) (sym e) ∙ h)

first_fault_step : (f : ℕ → Verdict) (n : ℕ) (e : Fault) (v : Verdict) → first_fault f n ≡ v → then v (f n) ≡ Some e → (first_fault f n ≡ Some e → (k : ℕ) × ((k < n) × (f k ≡ Some e) × (first_fault f k ≡ None))) → (k : ℕ) × ((k < suc n) × (f k ≡ Some e) × (first_fault f k ≡ None))
first_fault_step f n e None g h r = (n, (omega arith, h, g))
first_fault_step f n e (Some d) g h r = let k = r (g ∙ h) in (k.0, (omega (arith, k.1.0), k.1.1, k.1.2))

-- a fault that is found is the first
pub first_fault_some : (f : ℕ → Verdict) (n : ℕ) (e : Fault) → first_fault f n ≡ Some e → (k : ℕ) × ((k < n) × (f k ≡ Some e) × (first_fault f k ≡ None))
first_fault_some f zero e h = no_some e h
first_fault_some f (suc n) e h = first_fault_step f n e (first_fault f n) refl h (λ g. first_fault_some f n e g)
