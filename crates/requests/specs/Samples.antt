-- Sample rows, and that the definitions give their answers.
use Rattle.std.specs.Prelude.{◌≡◌, ℕ, List, [], ◌∷◌, map, ℤ, pos, negsuc, Ok, codes, Result}
use Rattle.fault.specs.declared.Fault.{Fault}
use Rattle.split.specs.Fields.{Part}
use Rattle.requests.specs.Answers.{answer_to}
use Rattle.requests.specs.declared.Operation.{Operation}
use Rattle.requests.specs.declared.Operation.TheVariants.{Split, Index, Left, Both}

pub record Sample : Type 0 where
  pub operation : Operation
  pub row : List ℕ
  pub operand : List ℕ
  pub number : ℤ
  pub answer : Part

abbrev sample : Operation → List ℕ → List ℕ → ℤ → List ℕ → ℕ → Sample
sample o r d n text place = record { operation = o; row = r; operand = d; number = n; answer = (text, place) }

-- è and é are C3 A8 and C3 A9
abbrev pub samples : List Sample
samples =
    sample Split (codes "a,b,c") (codes ",") (pos 2) (codes "b") 2
    ∷ sample Split (codes "a,b,c") (codes ",") (negsuc 0) (codes "c") 4
    ∷ sample Split (codes "a,b,c") (codes ",") (pos 4) [] 0
    ∷ sample Split (codes "aaa") (codes "aa") (pos 2) (codes "a") 2
    ∷ sample Split (codes "aaa") (codes "aa") (negsuc 1) (codes "a") 0
    ∷ sample Split (codes "abc") [] (negsuc 0) (codes "abc") 0
    ∷ sample Index (codes "a.b.c") (codes ".") (negsuc 1) (codes "b.c") 2
    ∷ sample Index (codes "aaa") (codes "aa") (pos 2) (codes "aaa") 0
    ∷ sample Both (codes "xxx") (codes "x") (pos 0) [] 3
    ∷ sample Left (0xC3 ∷ 0xA8 ∷ []) (0xC3 ∷ 0xA9 ∷ []) (pos 0) (0xC3 ∷ 0xA8 ∷ []) 0
    ∷ []

abbrev pub given : Sample → Result Part Fault
given s = answer_to s.operation s.row s.operand s.number

abbrev pub expected : Sample → Result Part Fault
expected s = Ok s.answer

-- the definitions give each sample its answer
abbrev pub SamplesHold : Type 0
SamplesHold = map given samples ≡ map expected samples
