-- The longer texts, which the search does not compare to their end.
use Rattle.fault.proofs.Fault.reason.Goals as goal

pub returns-in-BufferEnd : goal.returns-in-BufferEnd
returns-in-BufferEnd c = rw c.in-BufferEnd.is

pub returns-in-View : goal.returns-in-View
returns-in-View c = rw c.in-View.is

pub returns-in-ZeroPosition : goal.returns-in-ZeroPosition
returns-in-ZeroPosition c = rw c.in-ZeroPosition.is

pub returns-in-RowsFull : goal.returns-in-RowsFull
returns-in-RowsFull c = rw c.in-RowsFull.is

pub returns-in-EndsFull : goal.returns-in-EndsFull
returns-in-EndsFull c = rw c.in-EndsFull.is

pub returns-in-BytesFull : goal.returns-in-BytesFull
returns-in-BytesFull c = rw c.in-BytesFull.is
