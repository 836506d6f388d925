-- What a call asks of an output.
use Rattle.std.specs.Prelude.{◌≡◌, ℕ, List, [], ◌∷◌, Some, None, Ok, Option, Result}
use Rattle.std.specs.Result.{result_map_both}
use Rattle.fault.specs.declared.Fault.{Fault}
use Rattle.output.specs.Rows.{Piece, row_of}
use Rattle.source.specs.Rows.{Row, rows_by}
use Rattle.source.specs.Verdicts.{Verdict}

-- what a call has for one row: the row, or a fault of its own
abbrev pub OfferOver : Type 0 → Type 0
OfferOver X = Result X Fault

abbrev pub Offer : Type 0
Offer = OfferOver Piece

-- a call as the book is fed it: the fault before its first row, and its rows; over any kind of row
pub record Asked (X : Type 0) : Type 0 where
  pub start : Verdict
  pub offers : List (OfferOver X)

-- a call as the code makes it: its rows are parts of the rows that it draws from
pub record Request : Type 0 where
  pub start : Verdict
  pub size : ℕ
  pub offer : ℕ → Offer
  pub drawn : List Row

abbrev pub each_offer : {X Y : Type 0} → (X → Y) → OfferOver X → OfferOver Y
each_offer f o = result_map_both f (λ e. e) o

-- its rows, seen through f
abbrev pub asked_by : {X : Type 0} → (Piece → X) → Request → Asked X
asked_by f q = record { start = q.start; offers = rows_by (λ i. each_offer f (q.offer i)) q.size }

-- by their texts alone: this is what the book of rows is fed
abbrev pub asked_rows : Request → Asked Row
asked_rows q = asked_by row_of q

-- the output copies, or its base is these rows
abbrev pub Over : Option (List Row) → List Row → Type 0
Over None rows = Unit {0}
Over (Some base) rows = base ≡ rows

-- the same of every call of a list
abbrev pub AllOver : Option (List Row) → List Request → Type 0
AllOver base [] = Unit {0}
AllOver base (q ∷ qs) = Over base q.drawn × AllOver base qs

-- a call of no rows
abbrev pub nothing : Request
nothing = record { start = None; size = 0; offer = λ i. Ok (record { row = None; from = 0; place = 0 }); drawn = [] }
