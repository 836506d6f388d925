-- One row of a call, by its pieces and by its rows alone.
use Rattle.std.proofs.Common.{◌≡◌, ℕ, ◌+◌, ◌<◌, List, [], ◌∷◌, ◌++◌, map, drop, Some, None, Ok, Err, Option, Result, sym, refl, ap, ◌∙◌, subst, arith}
use Rattle.std.specs.Result.{result_map_both}
use Rattle.std.proofs.lemmas.List.{map_push}
use Rattle.book.proofs.Feeding.{fed_bad, fed_refused, fed_taken}
use Rattle.book.specs.Book.{fed}
use Rattle.book.specs.Requests.{Over, Request, asked_by, asked_rows, each_offer}
use Rattle.fault.specs.Faults.{placed_at}
use Rattle.fault.specs.declared.Fault.{Fault}
use Rattle.output.specs.Rows.{Comes, Piece, Rule, on_rows, row_of}
use Rattle.source.specs.Rows.{Row}

-- what is drawn from the base comes from it
pub comes_over : (base : Option (List Row)) (drawn : List Row) (p : Piece) → Over base drawn → Comes (Some drawn) p → Comes base p
comes_over None drawn p o h = tt
comes_over (Some b) drawn p o h = rw o h

-- a fault that was set at a row, or none
pub placed_err : {X : Type 0} (r : Result X Fault) (i : ℕ) (f : Fault) → result_map_both (λ x. x) (placed_at i) r ≡ Err f → (e : Fault) × (r ≡ Err e) × (placed_at i e ≡ f)
placed_err (Ok x) i f h = let z : ◌≡◌ {A = ℕ} 0 1 = cc in absurd (omega arith)
placed_err (Err e) i f h = (e, refl, cc)

pub placed_ok : {X : Type 0} (r : Result X Fault) (i : ℕ) (x : X) → result_map_both (λ x. x) (placed_at i) r ≡ Ok x → r ≡ Ok x
placed_ok (Ok y) i x h = h
placed_ok (Err e) i x h = let z : ◌≡◌ {A = ℕ} 0 1 = cc in absurd (omega arith)

module _ (q : Request) (i : ℕ) (h : i < q.size) (rule : Rule) (ps : List Piece) (taken : Piece → Piece) where
  -- a fault of the row's own
  module _ (f : Fault) (is : q.offer i ≡ Err f) where
    pub pieces_bad : fed (on_rows rule) ps i (drop i (asked_by taken q).offers) ≡ Err (placed_at i f)
    pieces_bad = fed_bad (λ k. each_offer taken (q.offer k)) q.size i (on_rows rule) ps f h (ap (each_offer taken) is)

    pub rows_bad : fed rule (map row_of ps) i (drop i (asked_rows q).offers) ≡ Err (placed_at i f)
    rows_bad = fed_bad (λ k. each_offer row_of (q.offer k)) q.size i rule (map row_of ps) f h (ap (each_offer row_of) is)

  -- a row that is refused or accepted
  module _ (p : Piece) (is : q.offer i ≡ Ok p) where
    pub pieces_refused : (f : Fault) → rule (map row_of ps) (row_of (taken p)) ≡ Some f → fed (on_rows rule) ps i (drop i (asked_by taken q).offers) ≡ Err (placed_at i f)
    pieces_refused f v = fed_refused (λ k. each_offer taken (q.offer k)) q.size i (on_rows rule) ps (taken p) f h (ap (each_offer taken) is) v

    pub pieces_taken : rule (map row_of ps) (row_of (taken p)) ≡ None
        → fed (on_rows rule) ps i (drop i (asked_by taken q).offers) ≡ fed (on_rows rule) (ps ++ taken p ∷ []) (i + 1) (drop (i + 1) (asked_by taken q).offers)
    pieces_taken v = fed_taken (λ k. each_offer taken (q.offer k)) q.size i (on_rows rule) ps (taken p) h (ap (each_offer taken) is) v

    module _ (same : row_of (taken p) ≡ row_of p) where
      pub rows_refused : (f : Fault) → rule (map row_of ps) (row_of (taken p)) ≡ Some f → fed rule (map row_of ps) i (drop i (asked_rows q).offers) ≡ Err (placed_at i f)
      rows_refused f v =
          fed_refused (λ k. each_offer row_of (q.offer k)) q.size i rule (map row_of ps) (row_of p) f h (ap (each_offer row_of) is) (ap (rule (map row_of ps)) (sym same) ∙ v)

      pub rows_taken : rule (map row_of ps) (row_of (taken p)) ≡ None
          → fed rule (map row_of ps) i (drop i (asked_rows q).offers) ≡ fed rule (map row_of (ps ++ taken p ∷ [])) (i + 1) (drop (i + 1) (asked_rows q).offers)
      rows_taken v =
          fed_taken (λ k. each_offer row_of (q.offer k)) q.size i rule (map row_of ps) (row_of p) h (ap (each_offer row_of) is) (ap (rule (map row_of ps)) (sym same) ∙ v)
          ∙ ap (λ r. fed rule r (i + 1) (drop (i + 1) (asked_rows q).offers)) (ap (λ r. map row_of ps ++ r ∷ []) (sym same) ∙ sym (map_push row_of ps (taken p)))
