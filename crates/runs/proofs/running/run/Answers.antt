use Rattle.std.proofs.Common.{◌≡◌, ◌+◌, ◌<◌, ◌≤◌, true, cond, [], ◌∷◌, ◌++◌, map, length, get_or, is_ok, vec_items, vec_len, vec_capacity, sym, ap, ◌∙◌, append-nil, arith}
use Rattle.book.proofs.Listing.{answers_end, answers_step, book_end, book_step}
use Rattle.book.proofs.Meaning.{runs_as}
use Rattle.book.specs.Book.{after, after_all, answer, answers}
use Rattle.book.specs.OnTerms.{all_kept_on, answer_on, answers_on, kept_on}
use Rattle.book.specs.Requests.{AllOver, asked_by, asked_rows, nothing}
use Rattle.output.specs.Rows.{on_rows, row_of}
use Rattle.runs.proofs.Calls.{left_calls, over_at}
use Rattle.runs.proofs.running.run.Goals as goal

pub loop-number-preserved : goal.loop-number-preserved
loop-number-preserved g c =
    let O = g.O.Output in
    let t = O.terms c.discard.new.self in
    let out = c.loop-number.out in
    let qs = g.L.CallList.requests c.args.calls.now in
    let n = c.loop-number.number in
    let q = get_or qs n nothing in
    let i = c.loop-number.invariant in
    let m = c.make_number.ensures in
    let h : n < length qs = omega arith in
    let room : vec_len c.loop-number.told < vec_capacity c.loop-number.told = omega arith in
    let fits : is_ok c.push.result ≡ true = c.push.ensures.succeeds room in
    let pushed : vec_items c.push.new.self ≡ vec_items c.loop-number.told ++ c.make_number.result ∷ []
    = c.push.ensures.items ∙ ap (λ b. cond b (vec_items c.loop-number.told ++ c.make_number.result ∷ []) (vec_items c.loop-number.told)) fits in
    let longer : vec_len c.push.new.self ≡ vec_len c.loop-number.told + 1
    = c.push.ensures.len ∙ ap (λ b. cond b (vec_len c.loop-number.told + 1) (vec_len c.loop-number.told)) fits in
    let left = left_calls qs n h in
    let last = O.kept c.make_number.new.out in
    let kept : last ≡ kept_on t (O.kept out) q = m.kept ∙ ap (λ u. kept_on u (O.kept out) q) i.3 in
    let told : c.make_number.result ≡ answer_on t (O.kept out) q = m.answer ∙ ap (λ u. answer_on u (O.kept out) q) i.3 in
    let rows = λ (over : AllOver t.base qs). m.book (rw i.3 (over_at t.base qs n h over)) in
    let kept_rows = λ (over : AllOver t.base qs). (rows over).rows_are ∙ ap (λ u. after u.rule (map row_of (O.kept out)) (asked_rows q)) i.3 in (
      longer ∙ ap (λ k. k + 1) i.0,
      (let more = c.push.ensures.capacity in let old = i.1 in omega arith),
      m.pending,
      m.terms ∙ i.3,
      book_step (asked_by t.taken) qs n (on_rows t.rule) (O.kept out) q left last kept _ i.4,
      answers_step (asked_by t.taken) qs n (on_rows t.rule) (O.kept out) q left last kept (vec_items c.loop-number.told) (vec_items c.push.new.self) _ c.make_number.result told pushed i.5,
      λ over. book_step asked_rows qs n t.rule (map row_of (O.kept out)) q left (map row_of last) (kept_rows over) _ (i.6 over),
      λ over.
          answers_step asked_rows qs n t.rule (map row_of (O.kept out)) q left (map row_of last) (kept_rows over)
          (vec_items c.loop-number.told) (vec_items c.push.new.self) _ c.make_number.result
          ((rows over).answer_is ∙ ap (λ u. answer u.rule (map row_of (O.kept out)) (asked_rows q)) i.3) pushed (i.7 over),
    )

pub returns : goal.returns
returns g c =
    let O = g.O.Output in
    let a = c.args.out.now in
    let o = c.discard.new.self in
    let t = O.terms o in
    let out = c.loop-number.out in
    let qs = g.L.CallList.requests c.args.calls.now in
    let n = c.loop-number.number in
    let i = c.loop-number.invariant in
    let told = vec_items c.loop-number.told in
    let h : length qs ≤ n = omega arith in
    let terms : t ≡ O.terms a = c.discard.ensures.terms ∙ c.open-slip.ensures.terms in
    let kept : O.kept o ≡ O.kept a = c.discard.ensures.kept ∙ c.open-slip.ensures.kept in
    record {
      told = sym (append-nil told) ∙ ap (λ r. told ++ r) (sym (answers_end (asked_by t.taken) qs n (on_rows t.rule) (O.kept out) h)) ∙ i.5
          ∙ ap (λ k. answers_on t k qs) kept ∙ ap (λ u. answers_on u (O.kept a) qs) terms;
      kept = sym (book_end (asked_by t.taken) qs n (on_rows t.rule) (O.kept out) h) ∙ i.4 ∙ ap (λ k. all_kept_on t k qs) kept ∙ ap (λ u. all_kept_on u (O.kept a) qs) terms;
      runs = λ over.
          let at : AllOver t.base qs = rw terms over in
          runs_as (O.terms a).rule (map row_of (O.kept a)) (map row_of (O.kept out)) (map asked_rows qs) told
          (sym (append-nil told) ∙ ap (λ r. told ++ r) (sym (answers_end asked_rows qs n t.rule (map row_of (O.kept out)) h)) ∙ i.7 at
          ∙ ap (λ u. answers u.rule (map row_of (O.kept o)) (map asked_rows qs)) terms ∙ ap (λ k. answers (O.terms a).rule (map row_of k) (map asked_rows qs)) kept)
          (sym (book_end asked_rows qs n t.rule (map row_of (O.kept out)) h) ∙ i.6 at
          ∙ ap (λ u. after_all u.rule (map row_of (O.kept o)) (map asked_rows qs)) terms ∙ ap (λ k. after_all (O.terms a).rule (map row_of k) (map asked_rows qs)) kept);
      pending = i.2;
      terms = i.3 ∙ terms;
    }
