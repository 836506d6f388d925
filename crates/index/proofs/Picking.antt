-- The occurrence that a walk over n of them comes to.
use Rattle.std.proofs.Common.{◌≡◌, ℕ, zero, suc, ◌+◌, ◌-◌, ◌≤◌, List, [], ◌∷◌, length, drop, take, Some, None, Option, sym, refl, ap, ◌∙◌}
use Rattle.std.specs.List.{slice_get}
use Rattle.search.specs.Places.{Stands, Highest}
use Rattle.split.specs.Occurrences.{occurrences, occurrences_back, end_after, start_before, Next, Prior}
use Rattle.split.proofs.Scans.{past_none, past_some, before_none, before_some}
use Rattle.split.proofs.Reaching.{left_places, right_places}
use Rattle.split.proofs.Parts.{prior_front, none_front}

from_there : (ps : List ℕ) (n : ℕ) → slice_get ps n ≡ slice_get (drop n ps) 0
from_there [] zero = refl
from_there [] (suc n) = refl
from_there (p ∷ ps) zero = refl
from_there (p ∷ ps) (suc n) = from_there ps n

module _ (d t : List ℕ) where
  gone_past : (from n : ℕ) (ps : List ℕ) → end_after d from ps n ≡ None → slice_get ps n ≡ None
  gone_past from zero ps e = cc
  gone_past from (suc n) [] e = refl
  gone_past from (suc n) (p ∷ ps) e = gone_past (p + length d) n ps e

  gone_before : (to n : ℕ) (ps : List ℕ) → start_before to ps n ≡ None → slice_get ps n ≡ None
  gone_before to zero ps e = cc
  gone_before to (suc n) [] e = refl
  gone_before to (suc n) (p ∷ ps) e = gone_before p n ps e

  pub left_gone : (n : ℕ) → None ≡ end_after d 0 (occurrences d t) n → slice_get (occurrences d t) n ≡ None
  left_gone n e = gone_past 0 n (occurrences d t) (sym e)

  pub right_gone : (n : ℕ) → None ≡ start_before (length t) (occurrences_back d t) n → slice_get (occurrences_back d t) n ≡ None
  right_gone n e = gone_before (length t) n (occurrences_back d t) (sym e)

  pub left_here : (n s p : ℕ) → Some s ≡ end_after d 0 (occurrences d t) n → Next d t s p → slice_get (occurrences d t) n ≡ Some p
  left_here n s p e x = from_there (occurrences d t) n ∙ ap (λ ps. slice_get ps 0) (left_places d t n s (sym e) ∙ past_some d t s p x)

  pub left_none : (n s : ℕ) → Some s ≡ end_after d 0 (occurrences d t) n → ((q : ℕ) → s ≤ q → Stands d t q → ⊥) → slice_get (occurrences d t) n ≡ None
  left_none n s e never = from_there (occurrences d t) n ∙ ap (λ ps. slice_get ps 0) (left_places d t n s (sym e) ∙ past_none d t s never)

  pub right_here : (n s p : ℕ) → Some s ≡ start_before (length t) (occurrences_back d t) n → Prior d t s p → slice_get (occurrences_back d t) n ≡ Some p
  right_here n s p e x = from_there (occurrences_back d t) n ∙ ap (λ ps. slice_get ps 0) (right_places d t n s (sym e) ∙ before_some d t s p x)

  pub right_none : (n s : ℕ) → Some s ≡ start_before (length t) (occurrences_back d t) n → ((q : ℕ) → q + length d ≤ s → Stands d t q → ⊥) → slice_get (occurrences_back d t) n ≡ None
  right_none n s e never = from_there (occurrences_back d t) n ∙ ap (λ ps. slice_get ps 0) (right_places d t n s (sym e) ∙ before_none d t s never)

  -- what a search before the place s answers
  pub right_at : (n s : ℕ) (r : Option ℕ) → Some s ≡ start_before (length t) (occurrences_back d t) n → Highest d (take (s - 0) t) r → r ≡ slice_get (occurrences_back d t) n
  right_at n s None e h = sym (right_none n s e (none_front d t s h))
  right_at n s (Some p) e h = sym (right_here n s p e (prior_front d t s p h))
