-- Each fault's number, layer and row, by listing. A new fault adds a line to each list.
use Rattle.std.specs.Prelude.{ℕ}
use Rattle.fault.specs.declared.Fault.{Fault}
use Rattle.fault.specs.declared.Fault.TheVariants.{ShortList, BufferEnd, Offset, View, Malformed, Window, OperandRows, ZeroPosition, RowsFull, TooLong, EndsFull, BytesFull}
use Rattle.fault.specs.declared.Layer.{Layer}
use Rattle.fault.specs.declared.Layer.TheVariants.{Column, Call, Output}

-- the number under which it is reported
abbrev pub number_of : Fault → ℕ
number_of ShortList = 1
number_of BufferEnd = 2
number_of (Offset row) = 3
number_of (View row) = 4
number_of (Malformed row) = 5
number_of Window = 6
number_of OperandRows = 7
number_of (ZeroPosition row) = 8
number_of (RowsFull row) = 9
number_of (TooLong row) = 10
number_of (EndsFull row) = 11
number_of (BytesFull row) = 12

-- the layer that found it
abbrev pub layer_of : Fault → Layer
layer_of ShortList = Column
layer_of BufferEnd = Column
layer_of (Offset row) = Column
layer_of (View row) = Column
layer_of (Malformed row) = Column
layer_of Window = Call
layer_of OperandRows = Call
layer_of (ZeroPosition row) = Call
layer_of (RowsFull row) = Output
layer_of (TooLong row) = Output
layer_of (EndsFull row) = Output
layer_of (BytesFull row) = Output

-- the row within the column opened or the window, or 0 where no row is concerned
abbrev pub row_of : Fault → ℕ
row_of ShortList = 0
row_of BufferEnd = 0
row_of (Offset row) = row
row_of (View row) = row
row_of (Malformed row) = row
row_of Window = 0
row_of OperandRows = 0
row_of (ZeroPosition row) = row
row_of (RowsFull row) = row
row_of (TooLong row) = row
row_of (EndsFull row) = row
row_of (BytesFull row) = row

-- the same fault at a row of the call under way, which alone sets the row of what is found at its rows
abbrev pub placed_at : ℕ → Fault → Fault
placed_at r ShortList = ShortList
placed_at r BufferEnd = BufferEnd
placed_at r (Offset row) = Offset row
placed_at r (View row) = View row
placed_at r (Malformed row) = Malformed row
placed_at r Window = Window
placed_at r OperandRows = OperandRows
placed_at r (ZeroPosition row) = ZeroPosition r
placed_at r (RowsFull row) = RowsFull r
placed_at r (TooLong row) = TooLong r
placed_at r (EndsFull row) = EndsFull r
placed_at r (BytesFull row) = BytesFull r
