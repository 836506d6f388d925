-- What each kind of call asks, and the calls on windows that it is cut into.
use Rattle.std.specs.Prelude.{ℕ, Bool, ◌&&◌, List, ℤ, Option, ◌==◌}
use Rattle.std.specs.Option.{option_map}
use Rattle.book.specs.Requests.{Request}
use Rattle.source.specs.Rows.{Row}
use Rattle.source.specs.Verdicts.{Verdict}
use Rattle.kernels.specs.Cuts.{Cut, each_request, single_request}
use Rattle.kernels.specs.Shifts.{shifted}
use Rattle.kernels.specs.Spans.{ends}
use Rattle.kernels.specs.Trims.{set_at, sets_cuttable, sets_fault, sets_part, trim_request}
use Rattle.kernels.specs.declared.each.Each.{Each}
use Rattle.kernels.specs.declared.single.Single.{Single}
use Rattle.kernels.specs.declared.trimming.Trim.{Trim}

-- single operands
module _ {S F K : Type 0} where
  abbrev pub of_single : (S → List Row) → (F → List ℕ) → Cut → (ℤ → Verdict) → Single S F K → Request
  of_single listed delimiter cut refused c =
      single_request cut refused c.window.first c.window.rows (listed c.window.source.now) (option_map delimiter c.delimiter) c.number

  abbrev pub part_of_single : Single S F K → (at rows : ℕ) → Single S F K
  part_of_single c at rows = record { window = shifted c.window at rows; delimiter = c.delimiter; number = c.number; cutting = c.cutting }

  abbrev pub single_cuttable : Single S F K → Bool
  single_cuttable c = ends c.window.first c.window.rows

-- column operands
module _ {S D P K : Type 0} where
  abbrev pub of_each : (S → List Row) → (D → List Row) → (P → List (Option ℤ)) → Cut → Each S D P K → Request
  of_each listed texts numbered cut c =
      each_request cut c.window.first c.window.rows (listed c.window.source.now) c.delimiters.first c.delimiters.rows (texts c.delimiters.source.now)
      c.numbers.first c.numbers.rows (numbered c.numbers.source.now)

  abbrev pub part_of_each : Each S D P K → (at rows : ℕ) → Each S D P K
  part_of_each c at rows =
      record { window = shifted c.window at rows; delimiters = shifted c.delimiters at rows; numbers = shifted c.numbers at rows; cutting = c.cutting }

  abbrev pub each_cuttable : Each S D P K → Bool
  each_cuttable c =
      ends c.window.first c.window.rows
      && (ends c.delimiters.first c.delimiters.rows
      && (ends c.numbers.first c.numbers.rows && (c.delimiters.rows == c.window.rows && c.numbers.rows == c.window.rows)))

-- trims
module _ {S D T : Type 0} where
  abbrev pub of_trim : (S → List Row) → (D → List Row) → (left right : Bool) → Trim S D T → Request
  of_trim listed texts left right c =
      trim_request left right (sets_fault texts c.characters c.window.rows) c.window.first c.window.rows (listed c.window.source.now) (set_at texts c.characters)

  abbrev pub part_of_trim : Trim S D T → (at rows : ℕ) → Trim S D T
  part_of_trim c at rows = record { window = shifted c.window at rows; characters = sets_part c.characters at rows; trimmer = c.trimmer }

  abbrev pub trim_cuttable : Trim S D T → Bool
  trim_cuttable c = ends c.window.first c.window.rows && sets_cuttable c.characters c.window.rows
