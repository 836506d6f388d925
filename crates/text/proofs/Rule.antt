-- The rule of the table of classes, at all of its entries, by one computed test.
use Rattle.std.proofs.Common.{◌≡◌, ℕ, ◌<◌, ◌≤◌, Bool, false, cond, T, ltb, leb, List, [], ◌∷◌, ◌++◌, sym, refl, ap, ◌∙◌, ap₂, ⊎_elim, arith, lit<, lit≤}
use Rattle.std.proofs.lemmas.Bool.{cases_lt, lt-leb, le-ltb, and_right}
use Rattle.text.specs.Table.{Range, ◌to◌, table, inside, one_of}
use Rattle.text.specs.Classes.{class_of}
use Rattle.text.specs.Alike.{Alike}
use Rattle.text.specs.Steps.{next}
use Rattle.text.specs.declared.classes.Class.{Class}
use Rattle.text.specs.declared.classes.Class.TheVariants.{Ascii, Low, Middle, High, LeadTwo, LeadE0, LeadThree, LeadEd, LeadF0, LeadFour, LeadF4, Never}
use Rattle.text.specs.declared.checker.State.{State}
use Rattle.text.specs.declared.checker.State.TheVariants.{Start, One, Two, Three, AfterE0, AfterEd, AfterF0, AfterF4, Broken}
use Rattle.text.proofs.Tables.{both, both_left, both_right, at}
use Rattle.text.proofs.Names.{same_class, class_same, same_state, state_same}
use Rattle.text.proofs.Finite.{each_state, at_state}
use Rattle.text.proofs.Pending.{pending, derive, tails, never, same_ranges, ranges_same}

-- the contexts that tell the classes apart: what stands before the byte, and after it
abbrev contexts : List (List ℕ × List ℕ)
contexts =
    ([], [])
    ∷ ([], 0x80 ∷ [])
    ∷ ([], 0xA0 ∷ 0x80 ∷ [])
    ∷ ([], 0x80 ∷ 0x80 ∷ [])
    ∷ ([], 0x90 ∷ 0x80 ∷ 0x80 ∷ [])
    ∷ ([], 0x80 ∷ 0x80 ∷ 0x80 ∷ [])
    ∷ (0xE0 ∷ [], 0x80 ∷ [])
    ∷ (0xED ∷ [], 0x80 ∷ [])
    ∷ (0xF0 ∷ [], 0x80 ∷ 0x80 ∷ [])
    ∷ []

abbrev marks : List (List ℕ × List ℕ) → ℕ → List Bool
marks [] b = []
marks (c ∷ cs) b = one_of table (c.0 ++ (b ∷ c.1)) ∷ marks cs b

marks_alike : (cs : List (List ℕ × List ℕ)) (a b : ℕ) → Alike a b → marks cs a ≡ marks cs b
marks_alike [] a b h = refl
marks_alike (c ∷ cs) a b h = ap₂ (λ x y. x ∷ y) (h c.0 c.1) (marks_alike cs a b h)

-- the class of a byte, from its marks
abbrev first : Bool → List Bool → Bool
first d [] = d
first d (b ∷ bs) = b

abbrev rest : List Bool → List Bool
rest [] = []
rest (b ∷ bs) = bs

abbrev named : List Bool → Class
named m₀ =
    let m₁ = rest m₀ in
    let m₂ = rest m₁ in
    let m₃ = rest m₂ in
    let m₄ = rest m₃ in
    let m₅ = rest m₄ in
    let m₆ = rest m₅ in
    let m₇ = rest m₆ in
    let m₈ = rest m₇ in
    cond (first false m₀) Ascii
    (cond (first false m₁) LeadTwo
    (cond (first false m₂) (cond (first false m₃) LeadThree LeadE0)
    (cond (first false m₃) LeadEd
    (cond (first false m₄) (cond (first false m₅) LeadFour LeadF0)
    (cond (first false m₅) LeadF4
    (cond (first false m₆) High
    (cond (first false m₈) Middle
    (cond (first false m₇) Low Never))))))))

-- at the byte k: its marks tell its class, and each state steps as the rows do
abbrev tells : ℕ → Bool
tells k = same_class (named (marks contexts k)) (class_of k)

abbrev steps : ℕ → State → Bool
steps k s = same_ranges (pending (next s (class_of k))) (derive (pending s) k)

abbrev right : ℕ → Bool
right k = both (tells k) (each_state (steps k))

rule : (k : ℕ) → k < 256 → T (right k)
unfolding class_of
rule = at right 256 tt

byte_named : (k : ℕ) → k < 256 → named (marks contexts k) ≡ class_of k
byte_named k h = class_same (named (marks contexts k)) (class_of k) (both_left (tells k) (each_state (steps k)) (rule k h))

-- bytes that are alike share a class
pub class_from_alike : (a b : ℕ) → a < 256 → b < 256 → Alike a b → class_of a ≡ class_of b
class_from_alike a b h k e = sym (byte_named a h) ∙ (ap named (marks_alike contexts a b e) ∙ byte_named b k)

low_step : (s : State) (k : ℕ) → k < 256 → pending (next s (class_of k)) ≡ derive (pending s) k
low_step s k h =
    ranges_same (pending (next s (class_of k))) (derive (pending s) k) (at_state (steps k) (both_right (tells k) (each_state (steps k)) (rule k h)) s)

module _ (k : ℕ) (h : 256 ≤ k) where
  not_below : (n : ℕ) → n ≤ 256 → ltb k n ≡ false
  not_below n l = le-ltb k n (omega arith)

  high_class : class_of k ≡ Never
  unfolding class_of
  high_class =
      simp (
        not_below 0x80 (lit≤ tt),
        not_below 0x90 (lit≤ tt),
        not_below 0xA0 (lit≤ tt),
        not_below 0xC0 (lit≤ tt),
        not_below 0xC2 (lit≤ tt),
        not_below 0xE0 (lit≤ tt),
        not_below 0xE1 (lit≤ tt),
        not_below 0xED (lit≤ tt),
        not_below 0xEE (lit≤ tt),
        not_below 0xF0 (lit≤ tt),
        not_below 0xF1 (lit≤ tt),
        not_below 0xF4 (lit≤ tt),
        not_below 0xF5 (lit≤ tt),
      )

  outside : (r : Range) → r.to < 256 → inside r k ≡ false
  outside r l = and_right (leb r.from k) (leb k r.to) (lt-leb k r.to (omega arith))

  -- a row whose first range lies below 256, and a range below 256
  high_tails : tails table k ≡ never
  high_tails =
      simp (
        outside (0x00 to 0x7F) (lit< tt),
        outside (0xC2 to 0xDF) (lit< tt),
        outside (0xE0 to 0xE0) (lit< tt),
        outside (0xE1 to 0xEC) (lit< tt),
        outside (0xED to 0xED) (lit< tt),
        outside (0xEE to 0xEF) (lit< tt),
        outside (0xF0 to 0xF0) (lit< tt),
        outside (0xF1 to 0xF3) (lit< tt),
        outside (0xF4 to 0xF4) (lit< tt),
      )

  high_range : (r : Range) (rs : List Range) → r.to < 256 → derive (r ∷ rs) k ≡ never
  high_range r rs l = ap (λ b. cond b rs never) (outside r l)

  high_derive : (s : State) → derive (pending s) k ≡ never
  high_derive Start = high_tails
  high_derive One = high_range _ _ (lit< tt)
  high_derive Two = high_range _ _ (lit< tt)
  high_derive Three = high_range _ _ (lit< tt)
  high_derive AfterE0 = high_range _ _ (lit< tt)
  high_derive AfterEd = high_range _ _ (lit< tt)
  high_derive AfterF0 = high_range _ _ (lit< tt)
  high_derive AfterF4 = high_range _ _ (lit< tt)
  high_derive Broken = high_range _ _ (lit< tt)

  breaks : (s : State) → next s Never ≡ Broken
  breaks s = state_same (next s Never) Broken (at_state (λ s. same_state (next s Never) Broken) tt s)

  high_step : (s : State) → pending (next s (class_of k)) ≡ derive (pending s) k
  high_step s = ap (λ c. pending (next s c)) high_class ∙ (ap pending (breaks s) ∙ sym (high_derive s))

-- a step of the checker is a step along a row
pub step_is : (s : State) (k : ℕ) → pending (next s (class_of k)) ≡ derive (pending s) k
step_is s k = ⊎_elim (low_step s k) (λ h. high_step k h s) (cases_lt k 256)
