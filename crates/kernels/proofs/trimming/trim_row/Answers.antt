use Rattle.std.proofs.Common.{◌≡◌, ℕ, Bool, List, ◌++◌, length, take, drop, sym, ap, ◌∙◌, arith}
use lib.Utf8.{encodes}
use Rattle.std.proofs.lemmas.List.{drop-append-le, drop_all, take-append-le, take_all}
use Rattle.trim.specs.Rule.{Trims}
use Rattle.kernels.proofs.trimming.trim_row.Goals as goal

lies : (left right : Bool) (set row text : List ℕ) (place : ℕ) → Trims left right set row text place → text ≡ take (length text) (drop place row)
lies left right set row text place t =
    let head = encodes t.head in
    let tail = encodes t.tail in
    let d : drop place row ≡ text ++ tail
    = ap (λ n. drop n row) t.starts ∙ ap (drop (length head)) t.whole ∙ drop-append-le (length head) head (text ++ tail) (omega arith)
    ∙ ap (λ xs. xs ++ (text ++ tail)) (drop_all (length head) head (omega arith)) in
    sym (ap (take (length text)) d ∙ take-append-le (length text) text tail (omega arith) ∙ take_all (length text) text (omega arith))

pub returns : goal.returns
returns g c =
    let e = c.trim.ensures in
    record { answer = e.answer; within = lies g.T.Trimmer.LEFT g.T.Trimmer.RIGHT c.args.set.now c.args.row.now _ _ e.rule }
