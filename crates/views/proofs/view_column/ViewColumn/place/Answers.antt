use Rattle.std.proofs.Common.{◌≡◌, sym, ap, ◌∙◌, subst, arith}
use Rattle.views.specs.Layout.{LiesIn, buffer, offset, size, text, view}
use Rattle.views.specs.Reading.{lists}
use Rattle.views.proofs.Opened.{has_ends, row_fits}
use Rattle.views.proofs.Views.{lies_in}
use Rattle.views.proofs.view_column.ViewColumn.place.Goals as goal

pub returns-clause-lies : goal.returns-clause-lies
returns-clause-lies c =
    let s = c.args.self.now in
    let m = lists s.lent in
    let v = view m c.args.row in
    let h = c.in_ok-view.ensures.some in
    let z : c.size.result ≡ size v = c.size.ensures ∙ ap size h.2 in
    let b : c.buffer.result ≡ buffer v = c.buffer.ensures ∙ ap buffer h.2 in
    let o : c.offset.result ≡ offset v = c.offset.ensures ∙ ap offset h.2 in
    let l : LiesIn m.buffers (text m.buffers v) (buffer v) (offset v) = lies_in m.buffers v (has_ends s.rows m s.sound) (row_fits s.rows m s.sound c.args.row h.0 h.1) (omega arith) in
    subst (λ x. LiesIn m.buffers (text m.buffers v) x c.offset.result) (sym b) (subst (λ x. LiesIn m.buffers (text m.buffers v) (buffer v) x) (sym o) l)
