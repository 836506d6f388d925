-- The sets of a trim, cut alongside its rows.
use Rattle.std.proofs.Common.{◌≡◌, ℕ, zero, suc, ◌+◌, ◌<◌, ◌≤◌, Bool, true, false, cond, ◌&&◌, ◌||◌, eqb, List, length, get_or, None, sym, refl, ap, ◌∙◌, add-zero, add_assoc, arith, eq-eqb, eqb-true}
use borrow.Author.Tests.{ne_false}
use Rattle.fault.specs.declared.Fault.TheVariants.{OperandRows, Window}
use Rattle.source.specs.Rows.{Row}
use Rattle.source.specs.Verdicts.{unless}
use Rattle.kernels.specs.Shifts.{shifted}
use Rattle.kernels.specs.Spans.{ends, inside, shift}
use Rattle.kernels.specs.Trims.{set_at, sets_cuttable, sets_fault, sets_part}
use Rattle.kernels.specs.declared.characters.Characters.{Characters}
use Rattle.kernels.specs.declared.characters.Characters.TheVariants.{Omitted, Single, Each}
use Rattle.kernels.specs.declared.span.Span.{Span}
use Rattle.kernels.specs.laws.Parts.{both, inside_is, is_inside, none_of, of_none, shift_is}

or_true : (b : Bool) → (b || true) ≡ true
or_true true = refl
or_true false = refl

-- a row of a window of one row is the first
one : (n i : ℕ) → i < n → cond (eqb n 1) 0 i ≡ i
one zero i h = absurd (omega arith)
one (suc zero) zero h = refl
one (suc zero) (suc i) h = absurd (omega arith)
one (suc (suc n)) i h = ap (λ b. cond b 0 i) (sym (ne_false (suc (suc n)) 1 (λ e. omega arith)))

module _ {D : Type 0} (listed : D → List Row) (w : Span D) where
  abbrev column : List Row
  column = listed w.source.now

  -- the window counts as single
  module _ (e : eqb w.rows 1 ≡ true) where
    single_set : (at n i : ℕ) → set_at listed (sets_part (Each w) at n) i ≡ set_at listed (Each w) (at + i)
    single_set at n i = rw (e, e)

    single_fault : (at n m : ℕ) → sets_fault listed (sets_part (Each w) at n) n ≡ sets_fault listed (Each w) m
    single_fault at n m = rw (e, e)

  -- or is as long as the call's
  module _ (rows : ℕ) (e : eqb w.rows 1 ≡ false) (ended : ends w.first w.rows ≡ true) (long : w.rows ≡ rows) where
    begins : (at : ℕ) → at ≤ rows → shift w.first at ≡ w.first + at
    begins at h = shift_is w.first w.rows at ended (rw long h)

    column_set : (at n i : ℕ) → at + n ≤ rows → i < n → set_at listed (sets_part (Each w) at n) i ≡ set_at listed (Each w) (at + i)
    column_set at n i h l =
        let b : shift w.first at + i ≡ w.first + (at + i) = ap (λ k. k + i) (begins at (omega arith)) ∙ add_assoc w.first at i in
        let o = one n i l in
        let part : sets_part (Each w) at n ≡ Each (shifted w at n) = rw e in
        let whole : set_at listed (Each w) (at + i) ≡ get_or column (w.first + (at + i)) None = ap (λ b. get_or column (w.first + cond b 0 (at + i)) None) e in
        ap (λ cs. set_at listed cs i) part ∙ ap (λ k. get_or column (shift w.first at + k) None) o ∙ ap (λ k. get_or column k None) b ∙ sym whole

    column_free : (at n : ℕ) → sets_fault listed (sets_part (Each w) at n) n ≡ None → shift w.first at + n ≤ length column
    column_free at n f =
        let g : sets_fault listed (Each (shifted w at n)) n ≡ None = rw e at f in
        is_inside (shift w.first at) n column (none_of (inside (shift w.first at) n column) Window _ g).0

    free_column : (at n : ℕ) → shift w.first at + n ≤ length column → sets_fault listed (sets_part (Each w) at n) n ≡ None
    free_column at n h =
        let s : unless (eqb n 1 || eqb n n) OperandRows ≡ None = ap (λ b. unless (eqb n 1 || b) OperandRows) (eq-eqb n n refl) ∙ ap (λ b. unless b OperandRows) (or_true (eqb n 1)) in
        rw e (of_none (inside (shift w.first at) n column) Window _ (inside_is (shift w.first at) n column h) s)

    column_whole : sets_fault listed (sets_part (Each w) 0 rows) rows ≡ sets_fault listed (Each w) rows
    column_whole =
        let b : shift w.first 0 ≡ w.first = begins 0 (omega arith) ∙ add-zero w.first in
        let part : sets_part (Each w) 0 rows ≡ Each (shifted w 0 rows) = rw e in
        let same : shifted w 0 rows ≡ w = ap (λ k. record { source = w.source; first = k; rows = rows }) b ∙ ap (λ k. record { source = w.source; first = w.first; rows = k }) (sym long) in
        ap (λ cs. sets_fault listed cs rows) (part ∙ ap Each same)

-- the column's sets can be cut: they count as single, or are as many as the rows
pub data CutAlong {D : Type 0} (w : Span D) (rows : ℕ) : Type 0 where
  alone : eqb w.rows 1 ≡ true → CutAlong w rows
  along : eqb w.rows 1 ≡ false → ends w.first w.rows ≡ true → w.rows ≡ rows → CutAlong w rows

cut_along : {D : Type 0} (w : Span D) (rows : ℕ) → sets_cuttable (Each w) rows ≡ true → CutAlong w rows
cut_along w rows c =
    let go : (b : Bool) → eqb w.rows 1 ≡ b → (b || (ends w.first w.rows && eqb w.rows rows)) ≡ true → CutAlong w rows
    = λ b. elim b as (λ b. eqb w.rows 1 ≡ b → (b || (ends w.first w.rows && eqb w.rows rows)) ≡ true → CutAlong w rows) [
      | true ↦ λ e _. alone e
      | false ↦ λ e h. let p = both (ends w.first w.rows) (eqb w.rows rows) h in along e p.0 (eqb-true w.rows rows p.1)
    ]
    in go (eqb w.rows 1) refl c

module _ {D : Type 0} (listed : D → List Row) where
  pub set_part : (cs : Characters D) (rows at n i : ℕ) → sets_cuttable cs rows ≡ true → at + n ≤ rows → i < n → set_at listed (sets_part cs at n) i ≡ set_at listed cs (at + i)
  set_part Omitted rows at n i c h l = refl
  set_part (Single s) rows at n i c h l = refl
  set_part (Each w) rows at n i c h l = elim (cut_along w rows c) as (λ _. set_at listed (sets_part (Each w) at n) i ≡ set_at listed (Each w) (at + i)) [
    | alone e ↦ single_set listed w e at n i
    | along e d g ↦ column_set listed w rows e d g at n i h l
  ]

  pub sets_whole : (cs : Characters D) (rows : ℕ) → sets_cuttable cs rows ≡ true → sets_fault listed (sets_part cs 0 rows) rows ≡ sets_fault listed cs rows
  sets_whole Omitted rows c = refl
  sets_whole (Single s) rows c = refl
  sets_whole (Each w) rows c = elim (cut_along w rows c) as (λ _. sets_fault listed (sets_part (Each w) 0 rows) rows ≡ sets_fault listed (Each w) rows) [
    | alone e ↦ single_fault listed w e 0 rows rows
    | along e d g ↦ column_whole listed w rows e d g
  ]

  pub sets_split : (cs : Characters D) (rows at j k : ℕ) → sets_cuttable cs rows ≡ true → at + (j + k) ≤ rows → sets_fault listed (sets_part cs at (j + k)) (j + k) ≡ None
      → (sets_fault listed (sets_part cs at j) j ≡ None) × (sets_fault listed (sets_part cs (at + j) k) k ≡ None)
  sets_split Omitted rows at j k c h f = (refl, refl)
  sets_split (Single s) rows at j k c h f = (refl, refl)
  sets_split (Each w) rows at j k c h f = elim (cut_along w rows c) as (λ _. (sets_fault listed (sets_part (Each w) at j) j ≡ None) × (sets_fault listed (sets_part (Each w) (at + j) k) k ≡ None)) [
    | alone e ↦ (
      single_fault listed w e at j (j + k) ∙ sym (single_fault listed w e at (j + k) (j + k)) ∙ f,
      single_fault listed w e (at + j) k (j + k) ∙ sym (single_fault listed w e at (j + k) (j + k)) ∙ f,
    )
    | along e d g ↦
        let a = begins listed w rows e d g at (omega arith) in
        let b = begins listed w rows e d g (at + j) (omega arith) in
        let t = column_free listed w rows e d g at (j + k) f in
        (free_column listed w rows e d g at j (omega arith), free_column listed w rows e d g (at + j) k (omega arith))
  ]

  pub sets_join : (cs : Characters D) (rows at j k : ℕ) → sets_cuttable cs rows ≡ true → at + (j + k) ≤ rows
      → sets_fault listed (sets_part cs at j) j ≡ None → sets_fault listed (sets_part cs (at + j) k) k ≡ None → sets_fault listed (sets_part cs at (j + k)) (j + k) ≡ None
  sets_join Omitted rows at j k c h f i = refl
  sets_join (Single s) rows at j k c h f i = refl
  sets_join (Each w) rows at j k c h f i = elim (cut_along w rows c) as (λ _. sets_fault listed (sets_part (Each w) at (j + k)) (j + k) ≡ None) [
    | alone e ↦ single_fault listed w e at (j + k) j ∙ sym (single_fault listed w e at j j) ∙ f
    | along e d g ↦
        let a = begins listed w rows e d g at (omega arith) in
        let b = begins listed w rows e d g (at + j) (omega arith) in
        let t = column_free listed w rows e d g at j f in
        let u = column_free listed w rows e d g (at + j) k i in
        free_column listed w rows e d g at (j + k) (omega arith)
  ]
