-- Where a well-formed text may be cut: beside any well-formed part of it.
use Rattle.std.proofs.Common.{◌≡◌, ℕ, Bool, true, false, cond, T, ◌⊎◌, List, [], ◌∷◌, ◌++◌, sym, refl, ap, ◌∙◌, subst, inl, inr, ⊎_elim, arith}
use mathlib.Core.Logic.{∥∥₁_elim}
use mathlib.Core.Bool.{Bool-set}
use Rattle.text.specs.Table.{WellFormed}
use Rattle.text.specs.Classes.{class_of}
use Rattle.text.specs.Steps.{next, run}
use Rattle.text.specs.declared.classes.Class.{Class}
use Rattle.text.specs.declared.checker.State.{State}
use Rattle.text.specs.declared.checker.State.TheVariants.{Start, Broken}
use Rattle.text.proofs.Names.{same_state, state_same}
use Rattle.text.proofs.Finite.{each_class, at_state, at_class}
use Rattle.text.proofs.Language.{accepted, accepts}

pub run_append : (s : State) (a b : List ℕ) → run s (a ++ b) ≡ run (run s a) b
run_append s [] b = refl
run_append s (x ∷ a) b = run_append (next s (class_of x)) a b

run_broken : (bs : List ℕ) → run Broken bs ≡ Broken
run_broken [] = refl
run_broken (b ∷ bs) = run_broken bs

broken_start : Broken ≡ Start → ⊥
broken_start e = let z : ◌≡◌ {A = ℕ} 0 1 = cc in omega arith

-- no class both begins a sequence and goes on with one
either : State → Class → Bool
either s c = cond (same_state (next Start c) Broken) true (cond (same_state s Start) true (same_state (next s c) Broken))

syncs : (s : State) (c : Class) → (next Start c ≡ Broken) ⊎ ((s ≡ Start) ⊎ (next s c ≡ Broken))
unfolding either
syncs s c = go (same_state (next Start c) Broken) (same_state s Start) refl refl (at_class (either s) (at_state (λ s. each_class (either s)) tt s) c)
  where
    go : (x y : Bool) → same_state (next Start c) Broken ≡ x → same_state s Start ≡ y → T (cond x true (cond y true (same_state (next s c) Broken))) → (next Start c ≡ Broken) ⊎ ((s ≡ Start) ⊎ (next s c ≡ Broken))
    go true y p q t = inl (state_same (next Start c) Broken (subst T (sym p) tt))
    go false true p q t = inr (inl (state_same s Start (subst T (sym q) tt)))
    go false false p q t = inr (inr (state_same (next s c) Broken t))

-- a text that goes on from the state s, and begins as a well-formed text does, goes on from `Start`
synced : (s : State) (x : ℕ) (d b : List ℕ) → run Start (x ∷ d) ≡ Start → run s (x ∷ (d ++ b)) ≡ Start → s ≡ Start
synced s x d b e f =
    ⊎_elim (λ h. absurd (broken_start (sym (run_broken d) ∙ (ap (λ z. run z d) (sym h) ∙ e))))
    (⊎_elim (λ h. h) (λ h. absurd (broken_start (sym (run_broken (d ++ b)) ∙ (ap (λ z. run z (d ++ b)) (sym h) ∙ f)))))
    (syncs s (class_of x))

-- what follows a well-formed front
pub after_front : (a b : List ℕ) → WellFormed (a ++ b) → WellFormed a → WellFormed b
after_front a b w v = accepted b (ap (λ s. run s b) (sym (accepts a v)) ∙ (sym (run_append Start a b) ∙ accepts (a ++ b) w))

-- what stands before and after a well-formed part that is not empty
pub around_part : (a d b : List ℕ) → WellFormed (a ++ (d ++ b)) → WellFormed d → (d ≡ [] → ⊥) → WellFormed a × WellFormed b
around_part a [] b w v n = absurd (n refl)
around_part a (x ∷ d) b w v n =
    let e = sym (run_append Start a (x ∷ (d ++ b))) ∙ accepts (a ++ ((x ∷ d) ++ b)) w in
    let front = accepted a (synced (run Start a) x d b (accepts (x ∷ d) v) e) in
    (front, after_front (x ∷ d) b (after_front a (x ∷ (d ++ b)) w front) v)

-- a ghost field holds the fact truncated: it comes out again, since the checker decides it
pub well_formed_had : (bs : List ℕ) → ∥ WellFormed bs ∥₁ → WellFormed bs
well_formed_had bs t =
    let e : same_state (run Start bs) Start ≡ true = ∥∥₁_elim t (Bool-set (same_state (run Start bs) Start) true) (λ w. ap (λ s. same_state s Start) (accepts bs w)) in
    accepted bs (state_same (run Start bs) Start (subst T (sym e) tt))
