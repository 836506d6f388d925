-- One row more of a call, and its end.
use Rattle.std.proofs.Common.{◌≡◌, ℕ, ◌+◌, ◌<◌, ◌≤◌, List, [], ◌∷◌, ◌++◌, length, drop, Some, None, Ok, Err, ap, ◌∙◌, zero-add}
use Rattle.std.proofs.lemmas.List.{drop_more, drop_all}
use Rattle.std.proofs.lemmas.List.FromFn.{length-map-range_with_len, get_or-map-range_with_len}
use Rattle.fault.specs.Faults.{placed_at}
use Rattle.fault.specs.declared.Fault.{Fault}
use Rattle.output.specs.Rows.{RuleOver}
use Rattle.source.specs.Rows.{rows_by}
use Rattle.source.specs.Verdicts.{Verdict}
use Rattle.book.specs.Requests.{OfferOver}
use Rattle.book.specs.Book.{guarded, at_row, fed, met, answer, after}

pub length_rows_by : {X : Type 0} (f : ℕ → X) (n : ℕ) → length (rows_by f n) ≡ n
unfolding rows_by
length_rows_by f n = length-map-range_with_len f 0 n

module _ {X : Type 0} (f : ℕ → OfferOver X) (n i : ℕ) where
  pub offers_from : i < n → drop i (rows_by f n) ≡ f i ∷ drop (i + 1) (rows_by f n)
  unfolding rows_by
  offers_from h =
      let long : i < length (rows_by f n) = rw (length-map-range_with_len f 0 n) h in
      drop_more (rows_by f n) i (f 0) long ∙ ap (λ o. o ∷ drop (i + 1) (rows_by f n)) (get_or-map-range_with_len f 0 n i i (f 0) h (zero-add i))

  pub offers_end : n ≤ i → drop i (rows_by f n) ≡ []
  unfolding rows_by
  offers_end h = drop_all i (rows_by f n) (rw (length-map-range_with_len f 0 n) h)

  module _ (rule : RuleOver X) (rows : List X) where
    pub fed_bad : (fault : Fault) → i < n → f i ≡ Err fault → fed rule rows i (drop i (rows_by f n)) ≡ Err (placed_at i fault)
    fed_bad fault h e = ap (fed rule rows i) (offers_from h ∙ ap (λ o. o ∷ drop (i + 1) (rows_by f n)) e)

    pub fed_next : (row : X) → i < n → f i ≡ Ok row
        → fed rule rows i (drop i (rows_by f n)) ≡ guarded (at_row i (rule rows row)) (fed rule (rows ++ row ∷ []) (i + 1) (drop (i + 1) (rows_by f n)))
    fed_next row h e = ap (fed rule rows i) (offers_from h ∙ ap (λ o. o ∷ drop (i + 1) (rows_by f n)) e)

    pub fed_refused : (row : X) (fault : Fault) → i < n → f i ≡ Ok row → rule rows row ≡ Some fault
        → fed rule rows i (drop i (rows_by f n)) ≡ Err (placed_at i fault)
    fed_refused row fault h e v = fed_next row h e ∙ ap (λ o. guarded (at_row i o) (fed rule (rows ++ row ∷ []) (i + 1) (drop (i + 1) (rows_by f n)))) v

    pub fed_taken : (row : X) → i < n → f i ≡ Ok row → rule rows row ≡ None
        → fed rule rows i (drop i (rows_by f n)) ≡ fed rule (rows ++ row ∷ []) (i + 1) (drop (i + 1) (rows_by f n))
    fed_taken row h e v = fed_next row h e ∙ ap (λ o. guarded (at_row i o) (fed rule (rows ++ row ∷ []) (i + 1) (drop (i + 1) (rows_by f n)))) v

    pub fed_end : n ≤ i → fed rule rows i (drop i (rows_by f n)) ≡ Ok rows
    fed_end h = ap (fed rule rows i) (offers_end h)

-- a call with a fault before its first row, and one without
module _ {X : Type 0} (rule : RuleOver X) (rows : List X) (start : Verdict) (os : List (OfferOver X)) where
  pub met_early : (f : Fault) → start ≡ Some f
      → (answer rule rows (record { start = start; offers = os }) ≡ Err f) × (after rule rows (record { start = start; offers = os }) ≡ rows)
  met_early f e = (rw e, rw e)

  module _ (none : start ≡ None) where
    met_is : met rule rows (record { start = start; offers = os }) ≡ fed rule rows 0 os
    met_is = ap (λ s. guarded s (fed rule rows 0 os)) none

    pub met_err : (f : Fault) → fed rule rows 0 os ≡ Err f
        → (answer rule rows (record { start = start; offers = os }) ≡ Err f) × (after rule rows (record { start = start; offers = os }) ≡ rows)
    met_err f h = let m = met_is ∙ h in (rw m, rw m)

    pub met_ok : (all : List X) → fed rule rows 0 os ≡ Ok all
        → (answer rule rows (record { start = start; offers = os }) ≡ Ok (length os)) × (after rule rows (record { start = start; offers = os }) ≡ all)
    met_ok all h = let m = met_is ∙ h in (rw m, rw m)
