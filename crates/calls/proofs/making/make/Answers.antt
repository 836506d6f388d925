use Rattle.std.proofs.Common.{◌≡◌, ◌++◌, map, Ok, Err, sym, refl, ap, ◌∙◌}
use Rattle.std.proofs.lemmas.Result.{err_from_is_err_and}
use Rattle.output.specs.Rows.{row_of}
use Rattle.source.specs.Verdicts.{fault_of}
use Rattle.calls.proofs.Made.{accepted_answer, accepted_booked, early_booked, pieces_found, refused_booked, rows_found}
use Rattle.calls.proofs.making.make.Goals as goal

pub returns-in_err-start-clause-book : goal.returns-in_err-start-clause-book
returns-in_err-start-clause-book g c over =
    let O = g.O.Output in
    let o = c.args.out.now in
    let q = g.C.Call.request c.args.call.now in
    let fault = c.in_err-start.field-0.0 in
    let p = err_from_is_err_and c.from_residual.result c.from_residual.ensures.1 in
    early_booked q (O.terms o) (O.kept o) c.from_residual.result (O.kept c.discard.new.self) fault
    (sym c.start.ensures ∙ ap fault_of c.in_err-start.was) (p.1 ∙ ap Err p.2) (c.discard.ensures.kept ∙ c.open-slip.ensures.kept)

pub returns-in-Err-clause-book : goal.returns-in-Err-clause-book
returns-in-Err-clause-book g c over =
    let O = g.O.Output in
    let o = c.args.out.now in
    let p = c.open-slip-2.new.self in
    let q = g.C.Call.request c.args.call.now in
    let d = c.discard.ensures in
    let b = c.open-slip-2.ensures in
    let e = c.in-Err.ensures in
    let before = b.kept ∙ d.kept ∙ c.open-slip.ensures.kept in
    let terms = b.terms ∙ d.terms ∙ c.open-slip.ensures.terms in
    let rows = rows_found q (O.terms o) (O.terms p) (O.kept o) (O.kept p) (O.pending p) terms before (b.pending ∙ d.pending) (Err c.in-Err.fault) (e.rows (rw terms over)) in
    refused_booked q (O.terms o) (O.kept o) (Err c.in-Err.fault) (O.kept c.discard-in-Err.new.self) (sym c.start.ensures ∙ ap fault_of c.in_ok-start.was) c.in-Err.fault refl (c.discard-in-Err.ensures.kept ∙ e.kept ∙ before) rows

pub returns-in-Ok-clause-answer : goal.returns-in-Ok-clause-answer
returns-in-Ok-clause-answer g c =
    let O = g.O.Output in
    let o = c.args.out.now in
    let p = c.open-slip-2.new.self in
    let q = g.C.Call.request c.args.call.now in
    let d = c.discard.ensures in
    let b = c.open-slip-2.ensures in
    let e = c.in-Ok.ensures in
    let last = O.kept c.keep.new.self in
    let all : last ≡ O.kept p ++ O.pending c.fill.new.out = c.keep.ensures.kept ∙ ap (λ k. k ++ O.pending c.fill.new.out) e.kept in
    let pieces = pieces_found q (O.terms o) (O.terms p) (O.kept o) (O.kept p) (O.pending p) (b.terms ∙ d.terms ∙ c.open-slip.ensures.terms) (b.kept ∙ d.kept ∙ c.open-slip.ensures.kept)
    (b.pending ∙ d.pending) (Ok last) (ap Ok all ∙ e.pieces) in
    accepted_answer q (O.terms o) (O.kept o) (Ok c.rows-rows.result) last (sym c.start.ensures ∙ ap fault_of c.in_ok-start.was) (ap Ok c.rows-rows.ensures) pieces

pub returns-in-Ok-clause-book : goal.returns-in-Ok-clause-book
returns-in-Ok-clause-book g c over =
    let O = g.O.Output in
    let o = c.args.out.now in
    let p = c.open-slip-2.new.self in
    let q = g.C.Call.request c.args.call.now in
    let d = c.discard.ensures in
    let b = c.open-slip-2.ensures in
    let e = c.in-Ok.ensures in
    let last = O.kept c.keep.new.self in
    let all : last ≡ O.kept p ++ O.pending c.fill.new.out = c.keep.ensures.kept ∙ ap (λ k. k ++ O.pending c.fill.new.out) e.kept in
    let terms = b.terms ∙ d.terms ∙ c.open-slip.ensures.terms in
    let rows = rows_found q (O.terms o) (O.terms p) (O.kept o) (O.kept p) (O.pending p) terms (b.kept ∙ d.kept ∙ c.open-slip.ensures.kept)
    (b.pending ∙ d.pending) (Ok (map row_of last)) (ap (λ k. Ok (map row_of k)) all ∙ e.rows (rw terms over)) in
    accepted_booked q (O.terms o) (O.kept o) (Ok c.rows-rows.result) last (sym c.start.ensures ∙ ap fault_of c.in_ok-start.was) (ap Ok c.rows-rows.ensures) rows
