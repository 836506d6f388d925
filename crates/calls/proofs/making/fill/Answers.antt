use Rattle.std.proofs.Common.{◌≡◌, ◌<◌, [], ◌∷◌, ◌++◌, map, Some, None, Ok, Err, sym, ap, ◌∙◌, append_assoc, arith}
use Rattle.std.proofs.lemmas.Result.{err_from_is_err_and}
use Rattle.book.proofs.Feeding.{fed_end}
use Rattle.book.specs.Requests.{each_offer}
use Rattle.output.specs.Pieces.{piece_of}
use Rattle.output.specs.Rows.{grown, on_rows, row_of}
use Rattle.source.specs.Verdicts.{fault_of}
use Rattle.calls.specs.Offers.{ended}
use Rattle.calls.proofs.Filling.{comes_over, pieces_bad, pieces_refused, pieces_taken, placed_err, placed_ok, rows_bad, rows_refused, rows_taken}
use Rattle.calls.proofs.making.fill.Goals as goal

pub returns-in-Err : goal.returns-in-Err
returns-in-Err g c =
    let O = g.O.Output in
    let o = c.args.out.now in
    let t = O.terms o in
    let q = g.C.Call.request c.args.call.now in
    let i = c.loop-row.invariant in
    let k = c.loop-row.row in
    let h : k < q.size = omega arith in
    let ps = O.kept o ++ O.pending c.loop-row.out in
    let fault = c.in-Err.own in
    let bad : q.offer k ≡ Err fault = sym c.in-Err.ensures.offer in
    record {
      kept = i.0;
      terms = i.1;
      pieces = ap Err c.at.ensures ∙ sym (pieces_bad q k h t.rule ps t.taken fault bad) ∙ i.2;
      rows = λ over. ap Err c.at.ensures ∙ sym (rows_bad q k h t.rule ps t.taken fault bad) ∙ i.3 over;
    }

pub returns-in_err-at_row : goal.returns-in_err-at_row
returns-in_err-at_row g c =
    let O = g.O.Output in
    let o = c.args.out.now in
    let t = O.terms o in
    let q = g.C.Call.request c.args.call.now in
    let i = c.loop-row.invariant in
    let k = c.loop-row.row in
    let h : k < q.size = omega arith in
    let ps = O.kept o ++ O.pending c.loop-row.out in
    let p = err_from_is_err_and c.from_residual.result c.from_residual.ensures.1 in
    let e = placed_err c.add.result k c.in_err-at_row.field-0.0 (sym c.at_row.ensures ∙ c.in_err-at_row.was) in
    let is : c.from_residual.result ≡ Err c.in_err-at_row.field-0.0 = p.1 ∙ ap Err p.2 in
    let piece = piece_of c.in-Ok.piece in
    let row = c.in-Ok.ensures in
    let offer : q.offer k ≡ Ok piece = sym row.offer in
    let a = c.add.ensures in
    let v : t.rule (map row_of ps) (row_of (t.taken piece)) ≡ Some e.0
    = sym (a.verdict ∙ ap (λ k. (O.terms c.loop-row.out).rule (map row_of (k ++ O.pending c.loop-row.out)) (row_of ((O.terms c.loop-row.out).taken piece))) i.0
    ∙ ap (λ u. u.rule (map row_of ps) (row_of (u.taken piece))) i.1) ∙ ap fault_of e.1 in
    let left : O.kept o ++ O.pending c.add.new.self ≡ ps = ap (λ r. O.kept o ++ r) (a.pending ∙ ap (λ r. grown r (O.pending c.loop-row.out) ((O.terms c.loop-row.out).taken piece)) e.1) in
    record {
      kept = a.kept ∙ i.0;
      terms = a.terms ∙ i.1;
      pieces = ap (λ r. ended r (O.kept o ++ O.pending c.add.new.self)) is ∙ ap Err (sym e.2) ∙ sym (pieces_refused q k h t.rule ps t.taken piece offer e.0 v) ∙ i.2;
      rows = λ over. ap (λ r. ended r (map row_of (O.kept o ++ O.pending c.add.new.self))) is ∙ ap Err (sym e.2)
          ∙ sym (rows_refused q k h t.rule ps t.taken piece offer (g.met.O.Output.faithful o piece (comes_over t.base q.drawn piece over row.drawn)) e.0 v)
          ∙ i.3 over;
    }

pub loop-row-preserved : goal.loop-row-preserved
loop-row-preserved g c =
    let O = g.O.Output in
    let o = c.args.out.now in
    let t = O.terms o in
    let q = g.C.Call.request c.args.call.now in
    let i = c.loop-row.invariant in
    let k = c.loop-row.row in
    let h : k < q.size = omega arith in
    let ps = O.kept o ++ O.pending c.loop-row.out in
    let piece = piece_of c.in-Ok.piece in
    let row = c.in-Ok.ensures in
    let offer : q.offer k ≡ Ok piece = sym row.offer in
    let added = placed_ok c.add.result k c.in_ok-at_row.field-0 (sym c.at_row.ensures ∙ c.in_ok-at_row.was) in
    let a = c.add.ensures in
    let v : t.rule (map row_of ps) (row_of (t.taken piece)) ≡ None
    = sym (a.verdict ∙ ap (λ k. (O.terms c.loop-row.out).rule (map row_of (k ++ O.pending c.loop-row.out)) (row_of ((O.terms c.loop-row.out).taken piece))) i.0
    ∙ ap (λ u. u.rule (map row_of ps) (row_of (u.taken piece))) i.1) ∙ ap fault_of added in
    let more : O.kept o ++ O.pending c.add.new.self ≡ ps ++ t.taken piece ∷ []
    = ap (λ r. O.kept o ++ r) (a.pending ∙ ap (λ r. grown r (O.pending c.loop-row.out) ((O.terms c.loop-row.out).taken piece)) added ∙ ap (λ u. O.pending c.loop-row.out ++ u.taken piece ∷ []) i.1)
    ∙ sym (append_assoc (O.kept o) (O.pending c.loop-row.out) (t.taken piece ∷ [])) in (
      a.kept ∙ i.0,
      a.terms ∙ i.1,
      rw more (sym (pieces_taken q k h t.rule ps t.taken piece offer v) ∙ i.2),
      λ over. rw more (sym (rows_taken q k h t.rule ps t.taken piece offer (g.met.O.Output.faithful o piece (comes_over t.base q.drawn piece over row.drawn)) v) ∙ i.3 over),
    )

pub returns : goal.returns
returns g c =
    let O = g.O.Output in
    let t = O.terms c.args.out.now in
    let q = g.C.Call.request c.args.call.now in
    let i = c.loop-row.invariant in
    let k = c.loop-row.row in
    let ps = O.kept c.args.out.now ++ O.pending c.loop-row.out in
    record {
      kept = i.0;
      terms = i.1;
      pieces = sym (fed_end (λ j. each_offer t.taken (q.offer j)) q.size k (on_rows t.rule) ps (omega arith)) ∙ i.2;
      rows = λ over. sym (fed_end (λ j. each_offer row_of (q.offer j)) q.size k t.rule (map row_of ps) (omega arith)) ∙ i.3 over;
    }
