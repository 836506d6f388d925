use Rattle.std.proofs.Common.{sym, ap, ◌∙◌}
use Rattle.book.specs.OnTerms.{answer_on, kept_on}
use Rattle.runs.proofs.Calls.{call_is, call_there}
use Rattle.runs.proofs.running.make_number.Goals as goal

pub unreachable-requires : goal.unreachable-requires
unreachable-requires g c = call_there (g.L.CallList.requests c.args.calls.now) c.args.number c.requires c.in-None.ensures

pub returns : goal.returns
returns g c =
    let O = g.O.Output in
    let o = c.args.out.now in
    let m = c.make.ensures in
    let is = call_is (g.L.CallList.requests c.args.calls.now) c.args.number c.requires (g.L.Item.Call.request c.in-Some.call) c.in-Some.ensures in
    record {
      answer = m.answer ∙ ap (answer_on (O.terms o) (O.kept o)) is;
      kept = m.kept ∙ ap (kept_on (O.terms o) (O.kept o)) is;
      book = rw (sym is) m.book;
      pending = m.pending;
      terms = m.terms;
    }
