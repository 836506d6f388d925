-- How a fault is printed.
use Rattle.std.specs.Prelude.{ℕ, List, ◌++◌, codes, decimal}
use Rattle.fault.specs.Faults.{number_of, layer_of, row_of}
use Rattle.fault.specs.declared.Fault.{Fault}
use Rattle.fault.specs.declared.Fault.TheVariants.{ShortList, BufferEnd, Offset, View, Malformed, Window, OperandRows, ZeroPosition, RowsFull, TooLong, EndsFull, BytesFull}
use Rattle.fault.specs.declared.Layer.{Layer}
use Rattle.fault.specs.declared.Layer.TheVariants.{Column, Call, Output}

abbrev pub layer_name : Layer → List ℕ
layer_name Column = codes "column"
layer_name Call = codes "call"
layer_name Output = codes "output"

-- what is wrong, in a few words
abbrev pub reason_of : Fault → List ℕ
reason_of ShortList = codes "a list is too short for the rows"
reason_of BufferEnd = codes "a buffer end is out of order or past the data"
reason_of (Offset row) = codes "an offset is out of order or past the values"
reason_of (View row) = codes "the view breaks a rule of the layout"
reason_of (Malformed row) = codes "not well-formed UTF-8"
reason_of Window = codes "the window reaches past the rows"
reason_of OperandRows = codes "an operand has another number of rows"
reason_of (ZeroPosition row) = codes "the field position is zero"
reason_of (RowsFull row) = codes "the row capacity is used up"
reason_of (TooLong row) = codes "the text is too long"
reason_of (EndsFull row) = codes "the list of buffer ends is full"
reason_of (BytesFull row) = codes "the value bytes do not suffice"

-- as `fault 5, layer column, row 0: not well-formed UTF-8`
abbrev pub report : Fault → List ℕ
report x = codes "fault " ++ (decimal (number_of x) ++ (codes ", layer " ++ (layer_name (layer_of x) ++ (codes ", row " ++ (decimal (row_of x) ++ (codes ": " ++ reason_of x))))))
