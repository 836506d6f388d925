use Rattle.std.proofs.Common.{◌≡◌, ℕ, List, length, take, drop, ℤ, IfOk, Ok, Err, Result, Bor, rules}
use Rattle.fault.specs.declared.Fault.{Fault}
use Rattle.split.specs.Fields.{answered, field_at, part}
use Rattle.kernels.proofs.Lying.{field_lies}
use Rattle.kernels.proofs.cutting.SplitPartCutting.cut_row.Goals as goal

lies : (d t : List ℕ) (n : ℤ) (r : Result (Bor (List ℕ) × ℕ) Fault) → answered r ≡ field_at d t n
    → IfOk r (λ p. p.0.now ≡ take (length p.0.now) (drop p.1 t))
lies d t n (Ok v) e = field_lies d t n (part v) e
lies d t n (Err f) e = tt

pub returns : goal.returns
returns g c =
    let d = g.F.Searcher.delimiter c.args.finder.now in
    let e : answered c.split_part.result ≡ field_at d c.args.row.now c.args.number = search rules in
    record { answer = e; within = lies d c.args.row.now c.args.number c.split_part.result e }
