use Rattle.std.proofs.Common.{◌≡◌, ◌+◌, eqb, get_or, drop, ap, arith}
use borrow.Author.Tests.{ne_false}
use Rattle.std.proofs.lemmas.List.{at_drop_more, at_drop_all}
use Rattle.book.specs.Division.{total}
use Rattle.runs.proofs.windows.total_is.Goals as goal

pub returns-then-window-rows : goal.returns-then-window-rows
returns-then-window-rows c =
    let xs = c.args.windows.now in
    let i = c.loop-window.window-index in
    let e : total (drop i xs) ≡ get_or xs i 0 + total (drop (i + 1) xs) = at_drop_more total xs i 0 c.loop-window-test.true in
    ne_false (total xs) c.args.rows (λ h. omega arith)

pub loop-window-preserved : goal.loop-window-preserved
loop-window-preserved c =
    let xs = c.args.windows.now in
    let i = c.loop-window.window-index in
    let e : total (drop i xs) ≡ get_or xs i 0 + total (drop (i + 1) xs) = at_drop_more total xs i 0 c.loop-window-test.true in
    (omega arith, omega arith)

pub returns : goal.returns
returns c =
    let xs = c.args.windows.now in
    let i = c.loop-window.window-index in
    let e : total (drop i xs) ≡ 0 = at_drop_all total xs i c.loop-window-test.false in
    let s : c.loop-window.sum ≡ total xs = omega arith in
    ap (λ n. eqb n c.args.rows) s
