-- What a trim offers for each row, and the faults before the first row.
use Rattle.std.specs.Prelude.{ℕ, ◌+◌, Bool, true, cond, ◌&&◌, ◌||◌, List, [], ◌∷◌, Some, None, Ok, ◌==◌}
use Rattle.std.specs.Option.{option_map}
use Rattle.book.specs.Requests.{Offer, Request}
use Rattle.fault.specs.declared.Fault.TheVariants.{OperandRows, Window}
use Rattle.source.specs.Rows.{Row}
use Rattle.source.specs.Verdicts.{Verdict, then, unless}
use Rattle.trim.specs.Trim.{trimmed}
use Rattle.kernels.specs.Cuts.{null, piece}
use Rattle.kernels.specs.Shifts.{shifted}
use Rattle.kernels.specs.Spans.{ends, inside, row_in}
use Rattle.kernels.specs.declared.characters.Characters.{Characters}
use Rattle.kernels.specs.declared.characters.Characters.TheVariants.{Omitted, Single, Each}

-- a row is null where it or its set of characters is null, and else what remains of it
abbrev pub trim_row : Bool → Bool → Row → ℕ → Row → Offer
trim_row left right None from row = Ok null
trim_row left right (Some set) from None = Ok null
trim_row left right (Some set) from (Some t) = Ok (piece from (trimmed left right set t))

abbrev pub trim_request : Bool → Bool → Verdict → (first rows : ℕ) → List Row → (ℕ → Row) → Request
trim_request left right fault first rows listed sets = record {
  start = then (unless (inside first rows listed) Window) fault;
  size = rows;
  offer = λ i. trim_row left right (sets i) (first + i) (row_in first listed i);
  drawn = listed;
}

module _ {D : Type 0} (listed : D → List Row) where
  -- the set of a row: a space where it is omitted; a column of one row counts as single
  abbrev pub set_at : Characters D → ℕ → Row
  set_at Omitted i = Some (32 ∷ [])
  set_at (Single s) i = option_map (λ x. x.now) s
  set_at (Each w) i = row_in w.first (listed w.source.now) (cond (w.rows == 1) 0 i)

  -- what is wrong with the sets of so many rows
  abbrev pub sets_fault : Characters D → ℕ → Verdict
  sets_fault Omitted rows = None
  sets_fault (Single s) rows = None
  sets_fault (Each w) rows = then (unless (inside w.first w.rows (listed w.source.now)) Window) (unless (w.rows == 1 || w.rows == rows) OperandRows)

-- the sets of a part of the rows
abbrev pub sets_part : {D : Type 0} → Characters D → (at rows : ℕ) → Characters D
sets_part Omitted at rows = Omitted
sets_part (Single s) at rows = Single s
sets_part (Each w) at rows = cond (w.rows == 1) (Each w) (Each (shifted w at rows))

-- the sets can be cut alongside so many rows
abbrev pub sets_cuttable : {D : Type 0} → Characters D → ℕ → Bool
sets_cuttable Omitted rows = true
sets_cuttable (Single s) rows = true
sets_cuttable (Each w) rows = w.rows == 1 || (ends w.first w.rows && w.rows == rows)
