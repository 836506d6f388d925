-- What split and index offer for each row, and the faults before the first row.
use Rattle.std.specs.Prelude.{ℕ, zero, suc, ◌+◌, cond, ◌&&◌, List, ℤ, pos, negsuc, Some, None, Ok, Option, Result, ◌==◌}
use Rattle.std.specs.Result.{result_map_both}
use Rattle.book.specs.Requests.{Offer, Request}
use Rattle.fault.specs.declared.Fault.{Fault}
use Rattle.fault.specs.declared.Fault.TheVariants.{OperandRows, Window, ZeroPosition}
use Rattle.index.specs.Index.{index_at}
use Rattle.output.specs.Rows.{Piece}
use Rattle.source.specs.Rows.{Row}
use Rattle.source.specs.Verdicts.{Verdict, then, unless}
use Rattle.split.specs.Fields.{Part}
use Rattle.kernels.specs.Spans.{inside, row_in}

-- a null row
abbrev pub null : Piece
null = record { row = None; from = 0; place = 0 }

-- a part of the source's row numbered `from`
abbrev pub piece : ℕ → Part → Piece
piece from p = record { row = Some p.0; from = from; place = p.1 }

-- what a delimiter and a number cut from a row
abbrev pub Cut : Type 0
Cut = List ℕ → List ℕ → ℤ → Result Part Fault

abbrev pub index_cut : Cut
index_cut d t n = Ok (index_at d t n)

-- the numbers that split and index refuse before they look at a row
abbrev pub zero_refused : ℤ → Verdict
zero_refused (pos zero) = Some (ZeroPosition 0)
zero_refused (pos (suc k)) = None
zero_refused (negsuc k) = None

abbrev pub none_refused : ℤ → Verdict
none_refused n = None

-- a row is null where it or an operand is null, and else what is cut from it
abbrev pub cut_row : Cut → Row → Option ℤ → ℕ → Row → Offer
cut_row cut None n from row = Ok null
cut_row cut (Some d) None from row = Ok null
cut_row cut (Some d) (Some n) from None = Ok null
cut_row cut (Some d) (Some n) from (Some t) = result_map_both (piece from) (λ e. e) (cut d t n)

-- a number is looked at where no operand is null
abbrev pub refusal : (ℤ → Verdict) → Row → Option ℤ → Verdict
refusal refused None n = None
refusal refused (Some d) None = None
refusal refused (Some d) (Some n) = refused n

-- single operands: a window of no rows has no other fault than its own
abbrev pub single_start : (ℤ → Verdict) → (first rows : ℕ) → List Row → Row → Option ℤ → Verdict
single_start refused first rows listed d n = then (unless (inside first rows listed) Window) (cond (rows == 0) None (refusal refused d n))

abbrev pub single_request : Cut → (ℤ → Verdict) → (first rows : ℕ) → List Row → Row → Option ℤ → Request
single_request cut refused first rows listed d n = record {
  start = single_start refused first rows listed d n;
  size = rows;
  offer = λ i. cut_row cut d n (first + i) (row_in first listed i);
  drawn = listed;
}

-- column operands: their windows are there, and as long as the call's
abbrev pub each_start : (first rows : ℕ) → List Row → (dfirst drows : ℕ) → List Row → (nfirst nrows : ℕ) → List (Option ℤ) → Verdict
each_start first rows listed dfirst drows ds nfirst nrows ns =
    then (unless (inside first rows listed && (inside dfirst drows ds && inside nfirst nrows ns)) Window) (unless (drows == rows && nrows == rows) OperandRows)

abbrev pub each_request : Cut → (first rows : ℕ) → List Row → (dfirst drows : ℕ) → List Row → (nfirst nrows : ℕ) → List (Option ℤ) → Request
each_request cut first rows listed dfirst drows ds nfirst nrows ns = record {
  start = each_start first rows listed dfirst drows ds nfirst nrows ns;
  size = rows;
  offer = λ i. cut_row cut (row_in dfirst ds i) (row_in nfirst ns i) (first + i) (row_in first listed i);
  drawn = listed;
}
