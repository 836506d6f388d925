-- One step of a walk over the occurrences.
use Rattle.std.proofs.Common.{◌≡◌, ℕ, suc, ◌+◌, ◌≤◌, List, length, None, ap, ◌∙◌}
use Rattle.search.specs.Places.{Stands}
use Rattle.split.specs.Occurrences.{places_past, places_before, end_after, start_before, Next, Prior}
use Rattle.split.proofs.Scans.{past_none, past_some, before_none, before_some}

module _ (d t : List ℕ) where
  pub past_more : (from p k j : ℕ) → Next d t from p → k ≡ suc j → end_after d from (places_past d t from) k ≡ end_after d (p + length d) (places_past d t (p + length d)) j
  past_more from p k j x e = ap (end_after d from (places_past d t from)) e ∙ ap (λ ps. end_after d from ps (suc j)) (past_some d t from p x)

  pub past_nothing : (from k j : ℕ) → ((q : ℕ) → from ≤ q → Stands d t q → ⊥) → k ≡ suc j → end_after d from (places_past d t from) k ≡ None
  past_nothing from k j never e = ap (end_after d from (places_past d t from)) e ∙ ap (λ ps. end_after d from ps (suc j)) (past_none d t from never)

  pub before_more : (to p k j : ℕ) → Prior d t to p → k ≡ suc j → start_before to (places_before d t to) k ≡ start_before p (places_before d t p) j
  before_more to p k j x e = ap (start_before to (places_before d t to)) e ∙ ap (λ ps. start_before to ps (suc j)) (before_some d t to p x)

  pub before_nothing : (to k j : ℕ) → ((q : ℕ) → q + length d ≤ to → Stands d t q → ⊥) → k ≡ suc j → start_before to (places_before d t to) k ≡ None
  before_nothing to k j never e = ap (start_before to (places_before d t to)) e ∙ ap (λ ps. start_before to ps (suc j)) (before_none d t to never)
