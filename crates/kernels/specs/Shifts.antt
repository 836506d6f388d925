-- A part of a window.
use Rattle.std.specs.Prelude.{ℕ}
use Rattle.kernels.specs.Spans.{shift}
use Rattle.kernels.specs.declared.span.Span.{Span}

abbrev pub shifted : {S : Type 0} → Span S → (at rows : ℕ) → Span S
shifted w at rows = record { source = w.source; first = shift w.first at; rows = rows }
