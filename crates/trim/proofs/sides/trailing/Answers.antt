use Rattle.std.proofs.Common.{◌≡◌, eqb, length, get_or, IsUtf8, ◌∙◌, rules}
use Rattle.std.specs.List.{suffix_len}
use Rattle.trim.proofs.OneByte.{tail_size_one}
use Rattle.trim.proofs.sides.trailing.Goals as goal

pub returns-in-len1 : goal.returns-in-len1
returns-in-len1 c =
    let set = c.args.set.now in
    let row = c.args.text.now in
    let one : length set ≡ 1 = search rules in
    let s : IsUtf8 set = search rules in
    let u : IsUtf8 row = search rules in
    let e : c.trailing_bytes.result ≡ suffix_len (λ x. eqb x (get_or set 0 0)) row = search rules in
    e ∙ tail_size_one set row s u one
