-- Classes and states as numbers, which a test compares.
use Rattle.std.proofs.Common.{◌≡◌, ℕ, Bool, cond, T, eqb, sym, refl, ap, ◌∙◌, eqb→eq}
use Rattle.text.specs.declared.classes.Class.{Class}
use Rattle.text.specs.declared.classes.Class.TheVariants.{Ascii, Low, Middle, High, LeadTwo, LeadE0, LeadThree, LeadEd, LeadF0, LeadFour, LeadF4, Never}
use Rattle.text.specs.declared.checker.State.{State}
use Rattle.text.specs.declared.checker.State.TheVariants.{Start, One, Two, Three, AfterE0, AfterEd, AfterF0, AfterF4, Broken}

abbrev pub class_number : Class → ℕ
class_number Ascii = 0
class_number Low = 1
class_number Middle = 2
class_number High = 3
class_number LeadTwo = 4
class_number LeadE0 = 5
class_number LeadThree = 6
class_number LeadEd = 7
class_number LeadF0 = 8
class_number LeadFour = 9
class_number LeadF4 = 10
class_number Never = 11

abbrev pub class_named : ℕ → Class
class_named n =
    cond (eqb n 0) Ascii (
    cond (eqb n 1) Low (
    cond (eqb n 2) Middle (
    cond (eqb n 3) High (
    cond (eqb n 4) LeadTwo (
    cond (eqb n 5) LeadE0 (
    cond (eqb n 6) LeadThree (
    cond (eqb n 7) LeadEd (
    cond (eqb n 8) LeadF0 (
    cond (eqb n 9) LeadFour (
    cond (eqb n 10) LeadF4 (
    Never)))))))))))

pub class_back : (c : Class) → class_named (class_number c) ≡ c
class_back Ascii = refl
class_back Low = refl
class_back Middle = refl
class_back High = refl
class_back LeadTwo = refl
class_back LeadE0 = refl
class_back LeadThree = refl
class_back LeadEd = refl
class_back LeadF0 = refl
class_back LeadFour = refl
class_back LeadF4 = refl
class_back Never = refl

abbrev pub same_class : Class → Class → Bool
same_class a b = eqb (class_number a) (class_number b)

pub class_same : (a b : Class) → T (same_class a b) → a ≡ b
class_same a b t = sym (class_back a) ∙ (ap class_named (eqb→eq (class_number a) (class_number b) t) ∙ class_back b)

abbrev pub state_number : State → ℕ
state_number Start = 0
state_number One = 1
state_number Two = 2
state_number Three = 3
state_number AfterE0 = 4
state_number AfterEd = 5
state_number AfterF0 = 6
state_number AfterF4 = 7
state_number Broken = 8

abbrev pub state_named : ℕ → State
state_named n =
    cond (eqb n 0) Start (
    cond (eqb n 1) One (
    cond (eqb n 2) Two (
    cond (eqb n 3) Three (
    cond (eqb n 4) AfterE0 (
    cond (eqb n 5) AfterEd (
    cond (eqb n 6) AfterF0 (
    cond (eqb n 7) AfterF4 (
    Broken))))))))

pub state_back : (c : State) → state_named (state_number c) ≡ c
state_back Start = refl
state_back One = refl
state_back Two = refl
state_back Three = refl
state_back AfterE0 = refl
state_back AfterEd = refl
state_back AfterF0 = refl
state_back AfterF4 = refl
state_back Broken = refl

abbrev pub same_state : State → State → Bool
same_state a b = eqb (state_number a) (state_number b)

pub state_same : (a b : State) → T (same_state a b) → a ≡ b
state_same a b t = sym (state_back a) ∙ (ap state_named (eqb→eq (state_number a) (state_number b) t) ∙ state_back b)
