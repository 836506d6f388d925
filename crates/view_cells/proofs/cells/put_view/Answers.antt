use Rattle.std.proofs.Common.{leb, length, sym, ap, ◌∙◌, arith}
use lib.Seq.{paste}
use Rattle.std.proofs.lemmas.Bool.{le-leb, lt-leb, cond-true, cond-false}
use Rattle.view_cells.specs.Views.{view_of}
use Rattle.view_cells.proofs.cells.put_view.Goals as goal

pub returns-then-text-le-SHORT : goal.returns-then-text-le-SHORT
unfolding view_of
returns-then-text-le-SHORT c =
    c.put_short.ensures ∙ ap (λ v. paste c.args.views.now c.args.at v 16) (sym (cond-true (leb (length c.args.text.now) 12) _ _ (le-leb _ 12 (omega arith))))

pub returns-else-text-le-SHORT : goal.returns-else-text-le-SHORT
unfolding view_of
returns-else-text-le-SHORT c =
    c.put_long.ensures ∙ ap (λ v. paste c.args.views.now c.args.at v 16) (sym (cond-false (leb (length c.args.text.now) 12) _ _ (lt-leb _ 12 (omega arith))))
