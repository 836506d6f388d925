use Rattle.std.proofs.Common.{arith, rules}
use Rattle.std.proofs.lemmas.Fn.{always_returns_same}
use Rattle.trim.proofs.Matches.{head_from_trim}
use Rattle.trim.proofs.chars.leading_chars.Goals as goal

pub returns : goal.returns
returns c =
    let e = head_from_trim c.args.set.now c.args.text.now c.trim_start_matches.result.now _ c.utf8.text c.trim_start_matches.ensures.matches (always_returns_same _ _ _ (λ a r f k. search rules)) in
    omega (arith, e)
