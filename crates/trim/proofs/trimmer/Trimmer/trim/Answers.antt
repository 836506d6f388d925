use Rattle.std.proofs.Common.{◌≡◌, ℕ, ◌-◌, cond, length, take, IsUtf8, rules}
use Rattle.std.proofs.lemmas.Bool.{cond-true, cond-false}
use Rattle.trim.specs.Ends.{head_size, tail_size}
use Rattle.trim.proofs.Rules.{trims_from}
use Rattle.trim.proofs.Seams.{cut_start, cut_end, trimmed_is}
use Rattle.trim.proofs.trimmer.Trimmer.trim.Given as given
use Rattle.trim.proofs.trimmer.Trimmer.trim.Goals as goal
use Rattle.trim.proofs.trimmer.Trimmer.trim.Goals.{then-left, else-left, then-right, else-right, Joined-left, Joined-right}

start_is : (g : given.Over) (c : Joined-left g) → c.if-left.start ≡ cond g.Self.Trimmer.LEFT (head_size c.args.pattern.now c.args.input.now) 0
start_is g c =
    let head = head_size c.args.pattern.now c.args.input.now in
    elim c.if-left.branch [
      | then-left w ↦ let e = cond-true g.Self.Trimmer.LEFT head 0 (cc) in cc
      | else-left w ↦ let e = cond-false g.Self.Trimmer.LEFT head 0 (cc) in cc
    ]

tail_is : (g : given.Over) (c : Joined-right g) → c.if-right.tail ≡ cond g.Self.Trimmer.RIGHT (tail_size c.args.pattern.now c.range_from-rest.result.now) 0
tail_is g c =
    let tail = tail_size c.args.pattern.now c.range_from-rest.result.now in
    elim c.if-right.branch [
      | then-right w ↦ let e = cond-true g.Self.Trimmer.RIGHT tail 0 (cc) in cc
      | else-right w ↦ let e = cond-false g.Self.Trimmer.RIGHT tail 0 (cc) in cc
    ]

pub range_from-rest-requires : goal.range_from-rest-requires
range_from-rest-requires g c = λ _. cut_start g.Self.Trimmer.LEFT c.args.pattern.now c.args.input.now c.if-left.start (search rules) (start_is g c)

pub overflow_sub-rest : goal.overflow_sub-rest
overflow_sub-rest g c =
    (cut_end g.Self.Trimmer.RIGHT c.args.pattern.now c.range_from-rest.result.now c.if-right.tail c.range_from-rest.utf8 (tail_is g (goal.at.overflow_sub-rest g c).Joined-right)).0

pub range-requires-clause-end_boundary : goal.range-requires-clause-end_boundary
range-requires-clause-end_boundary g c =
    (cut_end g.Self.Trimmer.RIGHT c.args.pattern.now c.range_from-rest.result.now c.if-right.tail c.range_from-rest.utf8 (tail_is g (goal.at.range-requires-clause-end_boundary g c).Joined-right)).1

pub returns : goal.returns
returns g c =
    let rest = c.range_from-rest.result.now in
    let tail : ℕ = c.if-right.tail in
    let text : c.range.result.now ≡ take (length rest - tail) rest = search rules in
    let u : IsUtf8 c.args.input.now = search rules in
    let is = trimmed_is g.Self.Trimmer.LEFT g.Self.Trimmer.RIGHT c.args.pattern.now c.args.input.now rest c.range.result.now c.if-left.start tail u
    (start_is g (goal.at.returns g c).Joined-left) c.range_from-rest.ensures.value (tail_is g (goal.at.returns g c).Joined-right) text in
    record { answer = cc is; rule = trims_from g.Self.Trimmer.LEFT g.Self.Trimmer.RIGHT c.args.pattern.now c.args.input.now c.range.result.now c.if-left.start u is }
