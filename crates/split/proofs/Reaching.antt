-- The field that a walk over n occurrences leads to.
use Rattle.std.proofs.Common.{◌≡◌, ℕ, zero, suc, ◌+◌, ◌≤◌, List, [], ◌∷◌, length, take, drop, Some, None, refl, ap, ◌∙◌, subst}
use Rattle.std.specs.List.{between, slice_get}
use Rattle.search.specs.Places.{Stands}
use Rattle.split.specs.Occurrences.{occurrences, occurrences_back, places_past, places_before, end_after, start_before, Next, Prior, FromLeft, FromRight}
use Rattle.split.specs.Fields.{cut_up, cut_down, left_fields, right_fields}
use Rattle.split.proofs.Scans.{past_greedy, before_greedy, greedy_unique, right_unique, past_none, past_some, before_none, before_some}
use Rattle.split.proofs.Seams.{some_is}

module _ (d t : List ℕ) where
  -- after n of the places, the rest are the places from there on
  rest_past : (from n s : ℕ) (ps : List ℕ) → FromLeft d t from ps → end_after d from ps n ≡ Some s → FromLeft d t s (drop n ps)
  rest_past from zero s ps g e = subst (λ (x : ℕ). FromLeft d t x ps) (some_is from s e) g
  rest_past from (suc n) s [] g e = cc
  rest_past from (suc n) s (p ∷ ps) g e = rest_past (p + length d) n s ps g.1 e

  rest_before : (to n s : ℕ) (ps : List ℕ) → FromRight d t to ps → start_before to ps n ≡ Some s → FromRight d t s (drop n ps)
  rest_before to zero s ps g e = subst (λ (x : ℕ). FromRight d t x ps) (some_is to s e) g
  rest_before to (suc n) s [] g e = cc
  rest_before to (suc n) s (p ∷ ps) g e = rest_before p n s ps g.1 e

  field_past : (from n s : ℕ) (ps : List ℕ) → end_after d from ps n ≡ Some s → slice_get (cut_up d t from ps) n ≡ slice_get (cut_up d t s (drop n ps)) 0
  field_past from zero s ps e = ap (λ x. slice_get (cut_up d t x ps) 0) (some_is from s e)
  field_past from (suc n) s [] e = cc
  field_past from (suc n) s (p ∷ ps) e = field_past (p + length d) n s ps e

  field_before : (to n s : ℕ) (ps : List ℕ) → start_before to ps n ≡ Some s → slice_get (cut_down d t to ps) n ≡ slice_get (cut_down d t s (drop n ps)) 0
  field_before to zero s ps e = ap (λ x. slice_get (cut_down d t x ps) 0) (some_is to s e)
  field_before to (suc n) s [] e = cc
  field_before to (suc n) s (p ∷ ps) e = field_before p n s ps e

  gone_past : (from n : ℕ) (ps : List ℕ) → end_after d from ps n ≡ None → slice_get (cut_up d t from ps) n ≡ None
  gone_past from zero ps e = cc
  gone_past from (suc n) [] e = refl
  gone_past from (suc n) (p ∷ ps) e = gone_past (p + length d) n ps e

  gone_before : (to n : ℕ) (ps : List ℕ) → start_before to ps n ≡ None → slice_get (cut_down d t to ps) n ≡ None
  gone_before to zero ps e = cc
  gone_before to (suc n) [] e = refl
  gone_before to (suc n) (p ∷ ps) e = gone_before p n ps e

  -- the places that are left where the walk has come to s
  pub left_places : (n s : ℕ) → end_after d 0 (occurrences d t) n ≡ Some s → drop n (occurrences d t) ≡ places_past d t s
  left_places n s e = greedy_unique d t s _ _ (rest_past 0 n s _ (past_greedy d t 0) e) (past_greedy d t s)

  pub right_places : (n s : ℕ) → start_before (length t) (occurrences_back d t) n ≡ Some s → drop n (occurrences_back d t) ≡ places_before d t s
  right_places n s e = right_unique d t s _ _ (rest_before (length t) n s _ (before_greedy d t (length t)) e) (before_greedy d t s)

  -- the field that begins at s, where the walk has come to
  at_left : (n s : ℕ) → end_after d 0 (occurrences d t) n ≡ Some s → slice_get (left_fields d t) n ≡ slice_get (cut_up d t s (places_past d t s)) 0
  at_left n s e = field_past 0 n s (occurrences d t) e ∙ ap (λ ps. slice_get (cut_up d t s ps) 0) (left_places n s e)

  at_right : (n s : ℕ) → start_before (length t) (occurrences_back d t) n ≡ Some s → slice_get (right_fields d t) n ≡ slice_get (cut_down d t s (places_before d t s)) 0
  at_right n s e = field_before (length t) n s (occurrences_back d t) e ∙ ap (λ ps. slice_get (cut_down d t s ps) 0) (right_places n s e)

  pub left_field : (n s p : ℕ) → end_after d 0 (occurrences d t) n ≡ Some s → Next d t s p → slice_get (left_fields d t) n ≡ Some (between s p t, s)
  left_field n s p e x = at_left n s e ∙ ap (λ ps. slice_get (cut_up d t s ps) 0) (past_some d t s p x)

  pub left_last : (n s : ℕ) → end_after d 0 (occurrences d t) n ≡ Some s → ((q : ℕ) → s ≤ q → Stands d t q → ⊥) → slice_get (left_fields d t) n ≡ Some (drop s t, s)
  left_last n s e never = at_left n s e ∙ ap (λ ps. slice_get (cut_up d t s ps) 0) (past_none d t s never)

  pub left_gone : (n : ℕ) → end_after d 0 (occurrences d t) n ≡ None → slice_get (left_fields d t) n ≡ None
  left_gone n e = gone_past 0 n (occurrences d t) e

  pub right_field : (n s p : ℕ) → start_before (length t) (occurrences_back d t) n ≡ Some s → Prior d t s p → slice_get (right_fields d t) n ≡ Some (between (p + length d) s t, p + length d)
  right_field n s p e x = at_right n s e ∙ ap (λ ps. slice_get (cut_down d t s ps) 0) (before_some d t s p x)

  pub right_last : (n s : ℕ) → start_before (length t) (occurrences_back d t) n ≡ Some s → ((q : ℕ) → q + length d ≤ s → Stands d t q → ⊥) → slice_get (right_fields d t) n ≡ Some (take s t, 0)
  right_last n s e never = at_right n s e ∙ ap (λ ps. slice_get (cut_down d t s ps) 0) (before_none d t s never)

  pub right_gone : (n : ℕ) → start_before (length t) (occurrences_back d t) n ≡ None → slice_get (right_fields d t) n ≡ None
  right_gone n e = gone_before (length t) n (occurrences_back d t) e
