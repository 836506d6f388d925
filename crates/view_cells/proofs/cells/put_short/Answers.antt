use Rattle.std.proofs.Common.{arith}
use Rattle.view_cells.proofs.Pastes.{short_written}
use Rattle.view_cells.proofs.cells.put_short.Goals as goal

pub returns : goal.returns
returns c =
    short_written c.args.views.now _ _ _ c.args.text.now c.args.at _ c.put_word.ensures c.put_text.ensures c.wipe.ensures (omega arith) (omega arith) (omega arith)
