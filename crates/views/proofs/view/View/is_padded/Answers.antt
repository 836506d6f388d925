use Rattle.std.proofs.Common.{◌≡◌, ℕ, ◌+◌, ◌-◌, eqb, ◌&&◌, List, [], ◌∷◌, length, refl, ap, ◌∙◌, arith, rules, tests}
use Rattle.std.specs.List.{list_all}
use Rattle.std.proofs.lemmas.Grind.{common_steps}
use Rattle.std.proofs.lemmas.Iterator.{YieldsList-from_slice}
use Rattle.std.proofs.lemmas.Iterator.Search.{all_from_yields_List}
use Rattle.views.specs.Layout.{blank, part, size}
use Rattle.views.proofs.view.View.is_padded.Goals as goal

blank_all : (xs : List ℕ) → list_all (λ b. eqb b 0) xs ≡ blank xs
blank_all [] = refl
blank_all (x ∷ xs) = ap (λ t. eqb x 0 && t) (blank_all xs)

pub returns : goal.returns
returns c =
    let v = c.args.self.now.bytes.now in
    let xs : List ℕ = c.iter.result.rest.now in
    let l : length v ≡ 16 = c.args.self.now.len in
    let d = c.iter.ensures.rest in
    let e : xs ≡ part (4 + size v) (12 - size v) v = grind (arith, common_steps) in
    all_from_yields_List (λ b. eqb b 0) _ _ _ c.all.ensures.ran (YieldsList-from_slice xs refl) (λ x b q k. search (rules, tests)) ∙ (blank_all xs ∙ ap blank e)
