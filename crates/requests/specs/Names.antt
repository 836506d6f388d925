-- The names of the operations.
use Rattle.std.specs.Prelude.{ℕ, cond, List, Some, None, codes, Option}
use Rattle.std.specs.Str.{bytes_eq}
use Rattle.requests.specs.declared.Operation.{Operation}
use Rattle.requests.specs.declared.Operation.TheVariants.{Split, Index, Left, Right, Both}

-- the operation that a name asks for; none for any other text
abbrev pub named : List ℕ → Option Operation
named name =
    cond (bytes_eq name (codes "split")) (Some Split)
    (cond (bytes_eq name (codes "index")) (Some Index)
    (cond (bytes_eq name (codes "left")) (Some Left)
    (cond (bytes_eq name (codes "right")) (Some Right)
    (cond (bytes_eq name (codes "both")) (Some Both) None))))
