use Rattle.std.proofs.Common.{◌≡◌, ℕ, ◌+◌, ◌<◌, ◌≤◌, Bool, true, false, cond, List, [], ◌∷◌, map, length, get_or, drop, sym, refl, ap, ◌∙◌, add-zero, arith, rules}
use Rattle.std.proofs.lemmas.List.{at_drop_more}
use Rattle.std.specs.Result.{result_unwrap_or}
use Rattle.book.proofs.Parting.{part_all, part_book, part_sum, parts_end, told_part}
use Rattle.book.specs.Book.{after, after_all, answer, answers}
use Rattle.book.specs.Division.{Divides, all_taken, parts, sum_told, total}
use Rattle.book.specs.OnTerms.{answer_on, kept_on}
use Rattle.book.specs.Requests.{asked_by, asked_rows}
use Rattle.output.specs.Rows.{on_rows, row_of}
use Rattle.runs.proofs.windows.make_windows.Goals as goal
use Rattle.runs.proofs.windows.make_windows.Given as given

-- what a window told is at most its rows
most : (g : given.Over) (c : goal.After-unwrap_or-rows g) → c.unwrap_or-rows.result ≤ get_or c.args.windows.now c.loop-window.window-index 0
most g c =
    let O = g.O.Output in
    let out = c.loop-window.out in
    let t = O.terms out in
    let n = get_or c.args.windows.now c.loop-window.window-index 0 in
    let req = g.C.Call.request in
    let law : Divides req g.C.Divisible.part c.args.call.now = search rules in
    let l = told_part req g.C.Divisible.part c.args.call.now law t.taken (on_rows t.rule) (O.kept out) c.loop-window.at n in
    let e : c.unwrap_or-rows.result ≡ result_unwrap_or (answer_on t (O.kept out) (req (g.C.Divisible.part c.args.call.now c.loop-window.at n))) 0
    = c.unwrap_or-rows.ensures ∙ ap (λ a. result_unwrap_or a 0) (c.make-told.ensures.answer ∙ ap (λ w. answer_on t (O.kept out) (req w)) c.window.ensures) in
    omega (arith, l, e)

left : (g : given.Over) (c : goal.After-unwrap_or-rows g)
    → total (drop c.loop-window.window-index c.args.windows.now) ≡ get_or c.args.windows.now c.loop-window.window-index 0 + total (drop (c.loop-window.window-index + 1) c.args.windows.now)
left g c = at_drop_more total c.args.windows.now c.loop-window.window-index 0 c.loop-window-test.true

pub overflow_add-rows : goal.overflow_add-rows
overflow_add-rows g c = let m = most g c in let l = left g c in let i = c.loop-window.invariant.0 in let j = c.loop-window.invariant.1 in let f = c.requires.fits in omega arith

pub overflow_add-at : goal.overflow_add-at
overflow_add-at g c = let l = left g c in let i = c.loop-window.invariant.0 in let f = c.requires.fits in omega arith

pub loop-window-preserved : goal.loop-window-preserved
loop-window-preserved g c =
    let O = g.O.Output in
    let t = O.terms c.args.out.now in
    let out = c.loop-window.out in
    let last = c.make-told.new.out in
    let k = c.loop-window.window-index in
    let at = c.loop-window.at in
    let ws = c.args.windows.now in
    let x = c.window.result in
    let req = g.C.Call.request in
    let part = g.C.Divisible.part in
    let call = c.args.call.now in
    let i = c.loop-window.invariant in
    let e = c.make-told.ensures in
    let h = c.loop-window-test.true in
    let m = most g c in
    let l = left g c in
    let i0 = i.0 in
    let i1 = i.1 in
    let law : Divides req part call = search rules in
    let ask = λ (y : g.row.C.Denot). asked_by t.taken (req y) in
    let ask_rows = λ (y : g.row.C.Denot). asked_rows (req y) in
    let kept : O.kept last ≡ kept_on t (O.kept out) (req x) = e.kept ∙ ap (λ u. kept_on u (O.kept out) (req x)) i.2 in
    let told : c.make-told.result ≡ answer_on t (O.kept out) (req x) = e.answer ∙ ap (λ u. answer_on u (O.kept out) (req x)) i.2 in (
      (omega arith),
      (omega arith),
      e.terms ∙ i.2,
      (λ _. e.pending),
      part_book part ask call at ws k (on_rows t.rule) (O.kept out) h x c.window.ensures (O.kept last) kept _ i.4,
      part_all part ask call at ws k (on_rows t.rule) (O.kept out) h x c.window.ensures (O.kept last) kept c.make-told.result told c.loop-window.all c.is_ok-all.result _ c.is_ok-all.ensures.value i.5,
      part_sum part ask call at ws k (on_rows t.rule) (O.kept out) h x c.window.ensures (O.kept last) kept c.make-told.result told c.loop-window.rows c.unwrap_or-rows.result _ c.unwrap_or-rows.ensures i.6,
      (λ over.
          let source : (req x).drawn ≡ (req call).drawn = ap (λ y. (req y).drawn) c.window.ensures ∙ law.same_source at (get_or ws k 0) in
          let b = e.book (rw (i.2, source) over) in
          let kept_rows = b.rows_are ∙ ap (λ u. after u.rule (map row_of (O.kept out)) (asked_rows (req x))) i.2 in
          let told_rows = b.answer_is ∙ ap (λ u. answer u.rule (map row_of (O.kept out)) (asked_rows (req x))) i.2 in
          let v = i.7 over in (
            part_book part ask_rows call at ws k t.rule (map row_of (O.kept out)) h x c.window.ensures (map row_of (O.kept last)) kept_rows _ v.0,
            part_all part ask_rows call at ws k t.rule (map row_of (O.kept out)) h x c.window.ensures (map row_of (O.kept last)) kept_rows c.make-told.result told_rows
                c.loop-window.all c.is_ok-all.result _ c.is_ok-all.ensures.value v.1,
            part_sum part ask_rows call at ws k t.rule (map row_of (O.kept out)) h x c.window.ensures (map row_of (O.kept last)) kept_rows c.make-told.result told_rows
                c.loop-window.rows c.unwrap_or-rows.result _ c.unwrap_or-rows.ensures v.2,
          )),
    )

some_left : (xs : List ℕ) (i : ℕ) → (xs ≡ [] → ⊥) → length xs ≤ i → 0 < i
some_left [] i none h = absurd (none refl)
some_left (x ∷ xs) i none h = omega arith

both : (b : Bool) → cond b true false ≡ b
both true = refl
both false = refl

pub returns : goal.returns
returns g c =
    let O = g.O.Output in
    let t = O.terms c.args.out.now in
    let out = c.loop-window.out in
    let req = g.C.Call.request in
    let i = c.loop-window.invariant in
    let ask = λ (y : g.row.C.Denot). asked_by t.taken (req y) in
    let ask_rows = λ (y : g.row.C.Denot). asked_rows (req y) in
    let rule = on_rows t.rule in
    let all = c.loop-window.all in
    let n : parts g.C.Divisible.part c.args.call.now c.loop-window.at (drop c.loop-window.window-index c.args.windows.now) ≡ []
    = parts_end g.C.Divisible.part ask c.args.call.now c.loop-window.at c.args.windows.now c.loop-window.window-index rule (O.kept out) c.loop-window-test.false in
    record {
      all = sym (both all) ∙ sym (ap (λ cs. cond all (all_taken (answers rule (O.kept out) (map ask cs))) false) n) ∙ i.5;
      sum = sym (add-zero c.loop-window.rows) ∙ sym (ap (λ cs. c.loop-window.rows + sum_told (answers rule (O.kept out) (map ask cs))) n) ∙ i.6;
      kept = sym (ap (λ cs. after_all rule (O.kept out) (map ask cs)) n) ∙ i.4;
      rows = λ over.
          let v = i.7 over in (
            sym (both all) ∙ sym (ap (λ cs. cond all (all_taken (answers t.rule (map row_of (O.kept out)) (map ask_rows cs))) false) n) ∙ v.1,
            sym (add-zero c.loop-window.rows) ∙ sym (ap (λ cs. c.loop-window.rows + sum_told (answers t.rule (map row_of (O.kept out)) (map ask_rows cs))) n) ∙ v.2,
            sym (ap (λ cs. after_all t.rule (map row_of (O.kept out)) (map ask_rows cs)) n) ∙ v.0,
          );
      pending = λ some. i.3 (some_left c.args.windows.now c.loop-window.window-index some c.loop-window-test.false);
      terms = i.2;
    }
