-- The table is `class_of` at each byte in turn, which antt computes.
use Rattle.std.proofs.Common.{◌≡◌, ℕ, ◌<◌, map, get_or, sym, ◌∙◌, arith, rules}
use Rattle.std.specs.List.{range_with_len}
use Rattle.std.proofs.lemmas.List.FromFn.{get_or-map-range_with_len}
use Rattle.text.specs.Classes.{class_of}
use Rattle.text.specs.declared.classes.Class.TheVariants.{Ascii}
use Rattle.text.proofs.Rule.{class_from_alike}
use Rattle.text.proofs.Language.{alike_from_class}
use Rattle.text.proofs.classes.class_of.Goals as goal

pub returns : goal.returns
unfolding class_of
returns c =
    let b : ℕ = c.args.byte in
    let h : b < 256 = search rules in
    let e : get_or (map class_of (range_with_len 0 256)) b Ascii ≡ class_of b = get_or-map-range_with_len class_of 0 256 b b Ascii h (omega arith) in
    record { value = e; shared = λ o l. (λ a. sym (class_from_alike b o h l a) ∙ sym e, λ f. alike_from_class b o (sym e ∙ sym f)) }
