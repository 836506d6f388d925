-- What opening a view column answers.
use Rattle.std.specs.Prelude.{ℕ, ◌*◌, Bool, cond, ◌&&◌, List, length, None, nat_le}
use Rattle.fault.specs.declared.Fault.TheVariants.{ShortList, BufferEnd, View, Malformed}
use Rattle.bitmap.specs.Validity.{valid, covers}
use Rattle.source.specs.Verdicts.{Verdict, unless, then, first_fault, malformed}
use Rattle.text.specs.Steps.{formed}
use Rattle.views.specs.Layout.{Data, Lists, buffer_start, buffer_end, fits, row_at, text, view}

unfoldable pub enough : ℕ → Lists → Bool
enough n m = nat_le (16 * n) (length m.views) && covers m.validity n

-- a buffer's end is not below the one before, nor past the bytes
unfoldable pub end_holds : Data → ℕ → Bool
end_holds d b = nat_le (buffer_start d.ends b) (buffer_end d.ends b) && nat_le (buffer_end d.ends b) (length d.bytes)

unfoldable pub end_fault : Data → ℕ → Verdict
end_fault d b = unless (end_holds d b) BufferEnd

abbrev pub ends_fault : Data → Verdict
ends_fault d = first_fault (end_fault d) (length d.ends)

-- the fault of row i, where its view is v
abbrev pub view_fault : Data → ℕ → List ℕ → Verdict
view_fault d i v = then (unless (fits d v) (View i)) (unless (formed (text d v)) (Malformed i))

-- a null row's view and text are not looked at
unfoldable pub row_fault : Lists → ℕ → Verdict
row_fault m i = then (cond (valid m.validity i) (unless (fits m.buffers (view m i)) (View i)) None) (malformed i (row_at m i))

-- what opening n rows answers
abbrev pub verdict : ℕ → Lists → Verdict
verdict n m = then (unless (enough n m) ShortList) (then (ends_fault m.buffers) (first_fault (row_fault m) n))
