use Rattle.std.proofs.Common.{◌≡◌, Bool, Decides, sym, ap, ◌∙◌, subst}
use Rattle.text.specs.Table.{WellFormed}
use Rattle.text.specs.Steps.{run, is_start, formed}
use Rattle.text.proofs.Forms.{formed_decides}
use Rattle.text.proofs.well_formed.Goals as goal

pub returns : goal.returns
unfolding formed
returns c =
    let xs = c.args.bytes.now in
    let e : c.is_whole.result ≡ formed xs = c.is_whole.ensures ∙ ap is_start (c.feed.ensures ∙ ap (λ s. run s xs) c.new-checker.ensures) in
    record { value = e; decides = subst (λ (b : Bool). Decides b (WellFormed xs)) (sym e) (formed_decides xs) }
