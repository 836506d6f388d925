-- Lent memory, as the lists that it holds.
use Rattle.std.specs.Option.{option_map}
use Rattle.views.specs.Layout.{Data, Lists}
use Rattle.views.specs.declared.lent.Buffers.{Buffers}
use Rattle.views.specs.declared.lent.Lent.{Lent}

abbrev pub held : Buffers → Data
held d = record { bytes = d.bytes.now; ends = d.ends.now }

abbrev pub lists : Lent → Lists
lists m = record { views = m.views.now; buffers = held m.buffers; validity = option_map (λ x. x.now) m.validity }
