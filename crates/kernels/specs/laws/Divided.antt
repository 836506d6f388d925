-- The calls on windows have the rows of the call that they are cut from.
use Rattle.std.proofs.Common.{◌≡◌, ℕ, zero, suc, ◌+◌, ◌<◌, ◌≤◌, Bool, true, cond, eqb, List, get_or, ℤ, None, Option, sym, refl, ap, ◌∙◌, add-zero, add_assoc, arith, eqb-true}
use borrow.Author.Tests.{ne_false}
use Rattle.std.specs.Option.{option_map}
use Rattle.book.specs.Division.{Divides}
use Rattle.fault.specs.declared.Fault.TheVariants.{Window}
use Rattle.source.specs.Rows.{Row}
use Rattle.source.specs.Verdicts.{Verdict, then, unless}
use Rattle.kernels.specs.Calls.{each_cuttable, of_each, of_single, of_trim, part_of_each, part_of_single, part_of_trim, single_cuttable, trim_cuttable}
use Rattle.kernels.specs.Cuts.{Cut, cut_row, refusal}
use Rattle.kernels.specs.Spans.{ends, inside, row_in, shift}
use Rattle.kernels.specs.Trims.{set_at, sets_cuttable, sets_fault, sets_part, trim_row}
use Rattle.kernels.specs.declared.each.Each.{Each}
use Rattle.kernels.specs.declared.single.Single.{Single}
use Rattle.kernels.specs.declared.trimming.Trim.{Trim}
use Rattle.kernels.specs.laws.Parts.{both, free_starts, inside_is, is_inside, none_of, of_none, shift_is, starts_free}
use Rattle.kernels.specs.laws.Sets.{set_part, sets_join, sets_split, sets_whole}

-- what is looked at where there are rows
with_rows : (n : ℕ) (v : Verdict) → 0 < n → cond (eqb n 0) None v ≡ v
with_rows n v h = sym (ap (λ b. cond b None v) (ne_false n 0 (λ e. omega arith)))

some_fault : (n : ℕ) (v : Verdict) → cond (eqb n 0) None v ≡ None → 0 < n → v ≡ None
some_fault n v e h = sym (with_rows n v h) ∙ e

no_fault : (n : ℕ) (v : Verdict) → (0 < n → v ≡ None) → cond (eqb n 0) None v ≡ None
no_fault zero v f = refl
no_fault (suc n) v f = with_rows (suc n) v (omega arith) ∙ f (omega arith)

either : (j k : ℕ) (v : Verdict) → cond (eqb j 0) None v ≡ None → cond (eqb k 0) None v ≡ None → 0 < j + k → v ≡ None
either zero k v d e h = some_fault k v e (omega arith)
either (suc j) k v d e h = some_fault (suc j) v d (omega arith)

module _ {S F K : Type 0} (sources : S → List Row) (delimiter : F → List ℕ) (cut : Cut) (refused : ℤ → Verdict) where
  pub divides_single : (c : Single S F K) → single_cuttable c ≡ true → Divides (of_single sources delimiter cut refused) part_of_single c
  divides_single c cuttable =
      let listed = sources c.window.source.now in
      let f = c.window.first in
      let rows = c.window.rows in
      let d = option_map delimiter c.delimiter in
      let n = c.number in
      let v = refusal refused d n in
      let begins : (at : ℕ) → at ≤ rows → shift f at ≡ f + at = λ at h. shift_is f rows at cuttable h in
      record {
        sized = λ at m. refl;
        same_rows = λ at m i h l.
            let a : shift f at + i ≡ f + (at + i) = ap (λ k. k + i) (begins at (omega arith)) ∙ add_assoc f at i in
            ap (λ k. cut_row cut d n k (get_or listed k None)) a;
        same_source = λ at m. refl;
        whole =
            let a : shift f 0 ≡ f = begins 0 (omega arith) ∙ add-zero f in
            ap (λ k. then (unless (inside k rows listed) Window) (cond (eqb rows 0) None v)) a;
        splits = λ at j k h free.
            let a = begins at (omega arith) in
            let b = begins (at + j) (omega arith) in
            let t = none_of (inside (shift f at) (j + k) listed) Window _ free in
            let u = is_inside (shift f at) (j + k) listed t.0 in (
              of_none (inside (shift f at) j listed) Window _ (inside_is (shift f at) j listed (omega arith)) (no_fault j v (λ some. some_fault (j + k) v t.1 (omega arith))),
              of_none (inside (shift f (at + j)) k listed) Window _ (inside_is (shift f (at + j)) k listed (omega arith)) (no_fault k v (λ some. some_fault (j + k) v t.1 (omega arith))),
            );
        joins = λ at j k h free free'.
            let a = begins at (omega arith) in
            let b = begins (at + j) (omega arith) in
            let s = none_of (inside (shift f at) j listed) Window _ free in
            let t = none_of (inside (shift f (at + j)) k listed) Window _ free' in
            let u = is_inside (shift f at) j listed s.0 in
            let w = is_inside (shift f (at + j)) k listed t.0 in
            of_none (inside (shift f at) (j + k) listed) Window _ (inside_is (shift f at) (j + k) listed (omega arith)) (no_fault (j + k) v (λ some. either j k v s.1 t.1 some));
      }

module _ {S D P K : Type 0} (sources : S → List Row) (texts : D → List Row) (numbered : P → List (Option ℤ)) (cut : Cut) where
  pub divides_each : (c : Each S D P K) → each_cuttable c ≡ true → Divides (of_each sources texts numbered cut) part_of_each c
  divides_each c cuttable =
      let listed = sources c.window.source.now in
      let ds = texts c.delimiters.source.now in
      let ns = numbered c.numbers.source.now in
      let f = c.window.first in
      let d = c.delimiters.first in
      let n = c.numbers.first in
      let rows = c.window.rows in
      let p = both (ends f rows) _ cuttable in
      let q = both (ends d c.delimiters.rows) _ p.1 in
      let r = both (ends n c.numbers.rows) _ q.1 in
      let s = both (eqb c.delimiters.rows rows) (eqb c.numbers.rows rows) r.1 in
      let drows : c.delimiters.rows ≡ rows = eqb-true c.delimiters.rows rows s.0 in
      let nrows : c.numbers.rows ≡ rows = eqb-true c.numbers.rows rows s.1 in
      let shift_f : (at : ℕ) → at ≤ rows → shift f at ≡ f + at = λ at h. shift_is f rows at p.0 h in
      let shift_d : (at : ℕ) → at ≤ rows → shift d at ≡ d + at = λ at h. shift_is d c.delimiters.rows at q.0 (rw drows h) in
      let shift_n : (at : ℕ) → at ≤ rows → shift n at ≡ n + at = λ at h. shift_is n c.numbers.rows at r.0 (rw nrows h) in
      record {
        sized = λ at m. refl;
        same_rows = λ at m i h l.
            let a : shift f at + i ≡ f + (at + i) = ap (λ k. k + i) (shift_f at (omega arith)) ∙ add_assoc f at i in
            let b : shift d at + i ≡ d + (at + i) = ap (λ k. k + i) (shift_d at (omega arith)) ∙ add_assoc d at i in
            let e : shift n at + i ≡ n + (at + i) = ap (λ k. k + i) (shift_n at (omega arith)) ∙ add_assoc n at i in
            rw (a, b, e);
        same_source = λ at m. refl;
        whole =
            let a : shift f 0 ≡ f = shift_f 0 (omega arith) ∙ add-zero f in
            let b : shift d 0 ≡ d = shift_d 0 (omega arith) ∙ add-zero d in
            let e : shift n 0 ≡ n = shift_n 0 (omega arith) ∙ add-zero n in
            rw (a, b, e, drows, nrows);
        splits = λ at j k h free.
            let a = shift_f at (omega arith) in
            let b = shift_d at (omega arith) in
            let e = shift_n at (omega arith) in
            let a' = shift_f (at + j) (omega arith) in
            let b' = shift_d (at + j) (omega arith) in
            let e' = shift_n (at + j) (omega arith) in
            let t = starts_free listed ds ns (shift f at) (shift d at) (shift n at) (j + k) free in (
              free_starts listed ds ns (shift f at) (shift d at) (shift n at) j (omega arith) (omega arith) (omega arith),
              free_starts listed ds ns (shift f (at + j)) (shift d (at + j)) (shift n (at + j)) k (omega arith) (omega arith) (omega arith),
            );
        joins = λ at j k h free free'.
            let a = shift_f at (omega arith) in
            let b = shift_d at (omega arith) in
            let e = shift_n at (omega arith) in
            let a' = shift_f (at + j) (omega arith) in
            let b' = shift_d (at + j) (omega arith) in
            let e' = shift_n (at + j) (omega arith) in
            let t = starts_free listed ds ns (shift f at) (shift d at) (shift n at) j free in
            let u = starts_free listed ds ns (shift f (at + j)) (shift d (at + j)) (shift n (at + j)) k free' in
            free_starts listed ds ns (shift f at) (shift d at) (shift n at) (j + k) (omega arith) (omega arith) (omega arith);
      }

module _ {S D T : Type 0} (sources : S → List Row) (sets : D → List Row) (left right : Bool) where
  pub divides_trim : (c : Trim S D T) → trim_cuttable c ≡ true → Divides (of_trim sources sets left right) part_of_trim c
  divides_trim c cuttable =
      let listed = sources c.window.source.now in
      let cs = c.characters in
      let f = c.window.first in
      let rows = c.window.rows in
      let p = both (ends f rows) (sets_cuttable cs rows) cuttable in
      let begins : (at : ℕ) → at ≤ rows → shift f at ≡ f + at = λ at h. shift_is f rows at p.0 h in
      record {
        sized = λ at m. refl;
        same_rows = λ at m i h l.
            let a : shift f at + i ≡ f + (at + i) = ap (λ k. k + i) (begins at (omega arith)) ∙ add_assoc f at i in
            ap (λ s. trim_row left right s (shift f at + i) (row_in (shift f at) listed i)) (set_part sets cs rows at m i p.1 h l)
            ∙ ap (λ k. trim_row left right (set_at sets cs (at + i)) k (get_or listed k None)) a;
        same_source = λ at m. refl;
        whole =
            let a : shift f 0 ≡ f = begins 0 (omega arith) ∙ add-zero f in
            ap (λ k. then (unless (inside k rows listed) Window) (sets_fault sets (sets_part cs 0 rows) rows)) a
            ∙ ap (λ v. then (unless (inside f rows listed) Window) v) (sets_whole sets cs rows p.1);
        splits = λ at j k h free.
            let a = begins at (omega arith) in
            let b = begins (at + j) (omega arith) in
            let t = none_of (inside (shift f at) (j + k) listed) Window _ free in
            let u = is_inside (shift f at) (j + k) listed t.0 in
            let v = sets_split sets cs rows at j k p.1 h t.1 in (
              of_none (inside (shift f at) j listed) Window _ (inside_is (shift f at) j listed (omega arith)) v.0,
              of_none (inside (shift f (at + j)) k listed) Window _ (inside_is (shift f (at + j)) k listed (omega arith)) v.1,
            );
        joins = λ at j k h free free'.
            let a = begins at (omega arith) in
            let b = begins (at + j) (omega arith) in
            let s = none_of (inside (shift f at) j listed) Window _ free in
            let t = none_of (inside (shift f (at + j)) k listed) Window _ free' in
            let u = is_inside (shift f at) j listed s.0 in
            let v = is_inside (shift f (at + j)) k listed t.0 in
            of_none (inside (shift f at) (j + k) listed) Window _ (inside_is (shift f at) (j + k) listed (omega arith)) (sets_join sets cs rows at j k p.1 h s.1 t.1);
      }
