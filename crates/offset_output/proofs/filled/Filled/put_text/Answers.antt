use Rattle.std.proofs.Common.{[], ◌∷◌, ◌++◌, Some, sym, ap, subst, ◌∙◌}
use Rattle.copying.proofs.Keeping.{keeps_more}
use Rattle.copying.specs.Keeping.{Keeps}
use Rattle.offset_layout.proofs.Reading.{rows_are}
use Rattle.offset_output.proofs.Growing.{has, text_counted, text_put}
use Rattle.offset_output.specs.Fillings.{held_rows}
use Rattle.offset_output.specs.Memories.{counted}
use Rattle.text.proofs.Forms.{formed_from_utf8}
use Rattle.offset_output.proofs.filled.Filled.put_text.Goals as goal

pub invariant_of-self : goal.invariant_of-self
invariant_of-self g c =
    let num = g.W.Width.number in
    let s = c.args.self.now in
    let w = c.write.ensures in
    let e = c.as_bytes.ensures.value in
    let h = text_put num s.memory s.held s.has c.requires.room c.args.text.now c.as_bytes.result.now e (formed_from_utf8 _ c.as_bytes.ensures.utf8) c.requires.fits c.args.end c.requires.end c.write.new.self w.offsets w.values w.validity in
    record {
      has = rw w.counts (has num _ _ _ h (text_counted s.held (held_rows s) s.has.counts _ ∙ ap (λ t. counted (held_rows s ++ Some t ∷ [])) e));
      keeps = rw w.counts (subst (λ rows. Keeps counted rows s.kept) (sym (rows_are h)) (keeps_more counted (held_rows s) s.kept s.keeps (Some c.args.text.now)));
    }

pub returns-clause-rows : goal.returns-clause-rows
returns-clause-rows g c =
    let s = c.args.self.now in
    let w = c.write.ensures in
    let h = text_put g.W.Width.number s.memory s.held s.has c.requires.room c.args.text.now c.as_bytes.result.now c.as_bytes.ensures.value (formed_from_utf8 _ c.as_bytes.ensures.utf8) c.requires.fits c.args.end c.requires.end c.write.new.self w.offsets w.values w.validity in
    rw w.counts (rows_are h)
