-- What a state waits for: the ranges of the bytes that are still to come; at `Broken` one that holds no byte.
use Rattle.std.proofs.Common.{◌≡◌, ℕ, Bool, true, false, cond, T, eqb, List, [], ◌∷◌, refl, ap₂, eqb→eq}
use Rattle.text.specs.Table.{Range, ◌to◌, table, inside}
use Rattle.text.specs.declared.checker.State.{State}
use Rattle.text.specs.declared.checker.State.TheVariants.{Start, One, Two, Three, AfterE0, AfterEd, AfterF0, AfterF4, Broken}
use Rattle.text.proofs.Tables.{both, both_left, both_right}

abbrev pub never : List Range
never = 1 to 0 ∷ []

abbrev pub pending : State → List Range
pending Start = []
pending One = 0x80 to 0xBF ∷ []
pending Two = 0x80 to 0xBF ∷ 0x80 to 0xBF ∷ []
pending Three = 0x80 to 0xBF ∷ 0x80 to 0xBF ∷ 0x80 to 0xBF ∷ []
pending AfterE0 = 0xA0 to 0xBF ∷ 0x80 to 0xBF ∷ []
pending AfterEd = 0x80 to 0x9F ∷ 0x80 to 0xBF ∷ []
pending AfterF0 = 0x90 to 0xBF ∷ 0x80 to 0xBF ∷ 0x80 to 0xBF ∷ []
pending AfterF4 = 0x80 to 0x8F ∷ 0x80 to 0xBF ∷ 0x80 to 0xBF ∷ []
pending Broken = never

-- what follows b in the first row that b begins
abbrev pub tails : List (List Range) → ℕ → List Range
tails [] b = never
tails ([] ∷ rows) b = tails rows b
tails ((r ∷ rs) ∷ rows) b = cond (inside r b) rs (tails rows b)

-- what is waited for after b
abbrev pub derive : List Range → ℕ → List Range
derive [] b = tails table b
derive (r ∷ rs) b = cond (inside r b) rs never

abbrev pub same_range : Range → Range → Bool
same_range r s = both (eqb r.from s.from) (eqb r.to s.to)

range_same : (r s : Range) → T (same_range r s) → r ≡ s
range_same r s t =
    ap₂ (λ a b. a to b)
    (eqb→eq r.from s.from (both_left (eqb r.from s.from) (eqb r.to s.to) t))
    (eqb→eq r.to s.to (both_right (eqb r.from s.from) (eqb r.to s.to) t))

abbrev pub same_ranges : List Range → List Range → Bool
same_ranges [] [] = true
same_ranges [] (s ∷ ss) = false
same_ranges (r ∷ rs) [] = false
same_ranges (r ∷ rs) (s ∷ ss) = both (same_range r s) (same_ranges rs ss)

pub ranges_same : (rs ss : List Range) → T (same_ranges rs ss) → rs ≡ ss
ranges_same [] [] t = refl
ranges_same [] (s ∷ ss) t = absurd t
ranges_same (r ∷ rs) [] t = absurd t
ranges_same (r ∷ rs) (s ∷ ss) t =
    ap₂ (λ x y. x ∷ y) (range_same r s (both_left (same_range r s) (same_ranges rs ss) t)) (ranges_same rs ss (both_right (same_range r s) (same_ranges rs ss) t))
