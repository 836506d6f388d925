use Rattle.std.proofs.Common.{◌≡◌, Ok, ap, rules}
use Rattle.index.specs.Index.{index_at}
use Rattle.split.specs.Fields.{part}
use Rattle.kernels.proofs.Lying.{index_lies}
use Rattle.kernels.proofs.cutting.SubstrIndexCutting.cut_row.Goals as goal

pub returns : goal.returns
returns g c =
    let d = g.F.Searcher.delimiter c.args.finder.now in
    let e : part c.substr_index.result ≡ index_at d c.args.row.now c.args.number = search rules in
    record { answer = ap Ok e; within = index_lies d c.args.row.now c.args.number (part c.substr_index.result) e }
