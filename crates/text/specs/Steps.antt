-- The checker's steps.
use Rattle.std.specs.Prelude.{ℕ, Bool, true, false, cond, ◌&&◌, List, [], ◌∷◌, nat_le}
use Rattle.text.specs.Classes.{class_of}
use Rattle.text.specs.declared.classes.Class.{Class}
use Rattle.text.specs.declared.classes.Class.TheVariants.{Ascii, Low, Middle, High, LeadTwo, LeadE0, LeadThree, LeadEd, LeadF0, LeadFour, LeadF4, Never}
use Rattle.text.specs.declared.checker.State.{State}
use Rattle.text.specs.declared.checker.State.TheVariants.{Start, One, Two, Three, AfterE0, AfterEd, AfterF0, AfterF4, Broken}

-- where a byte of the class leads from the start of a sequence
abbrev pub lead : Class → State
lead Ascii = Start
lead Low = Broken
lead Middle = Broken
lead High = Broken
lead LeadTwo = One
lead LeadE0 = AfterE0
lead LeadThree = Two
lead LeadEd = AfterEd
lead LeadF0 = AfterF0
lead LeadFour = Three
lead LeadF4 = AfterF4
lead Never = Broken

-- which part of 80..BF the class is: 1, 2 or 3, or none of it
abbrev pub part : Class → ℕ
part Ascii = 0
part Low = 1
part Middle = 2
part High = 3
part LeadTwo = 0
part LeadE0 = 0
part LeadThree = 0
part LeadEd = 0
part LeadF0 = 0
part LeadFour = 0
part LeadF4 = 0
part Never = 0

abbrev pub from : ℕ → ℕ → Class → State → State
from lo hi c s = cond (nat_le lo (part c) && nat_le (part c) hi) s Broken

-- the next state, by the class of the byte
abbrev pub next : State → Class → State
next Start c = lead c
next One c = from 1 3 c Start
next Two c = from 1 3 c One
next Three c = from 1 3 c Two
next AfterE0 c = from 3 3 c One
next AfterEd c = from 1 2 c One
next AfterF0 c = from 2 3 c Two
next AfterF4 c = from 1 1 c Two
next Broken c = Broken

abbrev pub run : State → List ℕ → State
run s [] = s
run s (b ∷ bs) = run (next s (class_of b)) bs

-- no sequence is begun and not ended
abbrev pub is_start : State → Bool
is_start Start = true
is_start One = false
is_start Two = false
is_start Three = false
is_start AfterE0 = false
is_start AfterEd = false
is_start AfterF0 = false
is_start AfterF4 = false
is_start Broken = false

-- `WellFormed` as a test: it decides that (the contract of `well_formed`)
unfoldable pub formed : List ℕ → Bool
formed bs = is_start (run Start bs)
