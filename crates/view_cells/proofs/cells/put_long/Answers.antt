use Rattle.std.proofs.Common.{◌+◌, take, refl, ap, ◌∙◌, arith, length-take}
use lib.Seq.{paste}
use Rattle.std.proofs.lemmas.List.{length-take-le}
use Rattle.view_cells.proofs.Pastes.{long_written}
use Rattle.view_cells.proofs.cells.put_long.Goals as goal

pub returns : goal.returns
returns c =
    long_written c.args.views.now _ _ _ _ c.args.text.now (take 4 c.args.text.now) c.args.at c.args.buffer c.args.offset c.put_word.ensures (c.put_text.ensures ∙ ap (paste c.put_word.new.bytes (c.args.at + 4) (take 4 c.args.text.now)) (length-take-le 4 c.args.text.now (omega arith))) c.put_word-2.ensures c.put_word-3.ensures refl (simp length-take (omega arith)) (omega arith)
