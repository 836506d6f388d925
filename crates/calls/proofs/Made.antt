-- A call that was made: refused before its first row, refused at a row, or accepted.
use Rattle.std.proofs.Common.{◌≡◌, List, [], ◌++◌, map, Some, None, Ok, Err, Result, sym, ap, ◌∙◌, append-nil}
use Rattle.book.proofs.Feeding.{length_rows_by, met_early, met_err, met_ok}
use Rattle.book.proofs.Meaning.{booked_as}
use Rattle.book.specs.Book.{Answer, fed}
use Rattle.book.specs.OnTerms.{answer_on}
use Rattle.book.specs.Requests.{Request, asked_by, asked_rows, each_offer}
use Rattle.book.specs.Runs.{Booked}
use Rattle.fault.specs.declared.Fault.{Fault}
use Rattle.output.specs.Rows.{Piece, Terms, on_rows, row_of}
use Rattle.source.specs.Rows.{Row}

-- rows were added to an output that was found with no pending rows
module _ (q : Request) (t t' : Terms) (ps ps' none : List Piece) (is_terms : t' ≡ t) (is_kept : ps' ≡ ps) (is_none : none ≡ []) where
  all_kept : ps' ++ none ≡ ps
  all_kept = ap (λ n. ps' ++ n) is_none ∙ append-nil ps' ∙ is_kept

  pub pieces_found : (m : Result (List Piece) Fault) → m ≡ fed (on_rows t'.rule) (ps' ++ none) 0 (asked_by t'.taken q).offers → fed (on_rows t.rule) ps 0 (asked_by t.taken q).offers ≡ m
  pieces_found m e =
      sym (e ∙ ap (λ x. fed (on_rows x.rule) (ps' ++ none) 0 (asked_by x.taken q).offers) is_terms ∙ ap (λ x. fed (on_rows t.rule) x 0 (asked_by t.taken q).offers) all_kept)

  pub rows_found : (m : Result (List Row) Fault) → m ≡ fed t'.rule (map row_of (ps' ++ none)) 0 (asked_rows q).offers → fed t.rule (map row_of ps) 0 (asked_rows q).offers ≡ m
  rows_found m e =
      sym (e ∙ ap (λ x. fed x.rule (map row_of (ps' ++ none)) 0 (asked_rows q).offers) is_terms ∙ ap (λ x. fed t.rule (map row_of x) 0 (asked_rows q).offers) all_kept)

module _ (q : Request) (t : Terms) (ps : List Piece) (told : Answer) (last : List Piece) where
  -- before the first row
  pub early_booked : (f : Fault) → q.start ≡ Some f → told ≡ Err f → last ≡ ps → Booked t.rule (map row_of ps) (asked_rows q) told (map row_of last)
  early_booked f start is_told is_last =
      let m = met_early t.rule (map row_of ps) q.start (asked_rows q).offers f start in
      booked_as t.rule (map row_of ps) (map row_of last) (asked_rows q) told (is_told ∙ sym m.0) (ap (map row_of) is_last ∙ sym m.1)

  module _ (start : q.start ≡ None) where
    -- at a row
    pub refused_booked : (f : Fault) → told ≡ Err f → last ≡ ps → fed t.rule (map row_of ps) 0 (asked_rows q).offers ≡ Err f → Booked t.rule (map row_of ps) (asked_rows q) told (map row_of last)
    refused_booked f is_told is_last e =
        let m = met_err t.rule (map row_of ps) q.start (asked_rows q).offers start f e in
        booked_as t.rule (map row_of ps) (map row_of last) (asked_rows q) told (is_told ∙ sym m.0) (ap (map row_of) is_last ∙ sym m.1)

    -- with all rows
    module _ (is_told : told ≡ Ok q.size) where
      pub accepted_answer : fed (on_rows t.rule) ps 0 (asked_by t.taken q).offers ≡ Ok last → told ≡ answer_on t ps q
      accepted_answer e =
          is_told ∙ ap Ok (sym (length_rows_by (λ i. each_offer t.taken (q.offer i)) q.size)) ∙ sym (met_ok (on_rows t.rule) ps q.start (asked_by t.taken q).offers start last e).0

      pub accepted_booked : fed t.rule (map row_of ps) 0 (asked_rows q).offers ≡ Ok (map row_of last) → Booked t.rule (map row_of ps) (asked_rows q) told (map row_of last)
      accepted_booked e =
          let m = met_ok t.rule (map row_of ps) q.start (asked_rows q).offers start (map row_of last) e in
          booked_as t.rule (map row_of ps) (map row_of last) (asked_rows q) told (is_told ∙ ap Ok (sym (length_rows_by (λ i. each_offer row_of (q.offer i)) q.size)) ∙ sym m.0) (sym m.1)
