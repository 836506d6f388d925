-- A test over every class or every state is one computed test.
use Rattle.std.proofs.Common.{◌<◌, Bool, T, subst, lit<}
use Rattle.text.proofs.Tables.{all_below, at}
use Rattle.text.proofs.Names.{class_number, class_named, class_back, state_number, state_named, state_back}
use Rattle.text.specs.declared.classes.Class.{Class}
use Rattle.text.specs.declared.classes.Class.TheVariants.{Ascii, Low, Middle, High, LeadTwo, LeadE0, LeadThree, LeadEd, LeadF0, LeadFour, LeadF4, Never}
use Rattle.text.specs.declared.checker.State.{State}
use Rattle.text.specs.declared.checker.State.TheVariants.{Start, One, Two, Three, AfterE0, AfterEd, AfterF0, AfterF4, Broken}

-- each class passes the test
abbrev pub each_class : (Class → Bool) → Bool
each_class P = all_below (λ n. P (class_named n)) 12

class_below : (x : Class) → class_number x < 12
class_below Ascii = lit< tt
class_below Low = lit< tt
class_below Middle = lit< tt
class_below High = lit< tt
class_below LeadTwo = lit< tt
class_below LeadE0 = lit< tt
class_below LeadThree = lit< tt
class_below LeadEd = lit< tt
class_below LeadF0 = lit< tt
class_below LeadFour = lit< tt
class_below LeadF4 = lit< tt
class_below Never = lit< tt

pub at_class : (P : Class → Bool) → T (each_class P) → (x : Class) → T (P x)
at_class P t x = subst (λ (y : Class). T (P y)) (class_back x) (at (λ n. P (class_named n)) 12 t (class_number x) (class_below x))

-- each state passes the test
abbrev pub each_state : (State → Bool) → Bool
each_state P = all_below (λ n. P (state_named n)) 9

state_below : (x : State) → state_number x < 9
state_below Start = lit< tt
state_below One = lit< tt
state_below Two = lit< tt
state_below Three = lit< tt
state_below AfterE0 = lit< tt
state_below AfterEd = lit< tt
state_below AfterF0 = lit< tt
state_below AfterF4 = lit< tt
state_below Broken = lit< tt

pub at_state : (P : State → Bool) → T (each_state P) → (x : State) → T (P x)
at_state P t x = subst (λ (y : State). T (P y)) (state_back x) (at (λ n. P (state_named n)) 9 t (state_number x) (state_below x))
