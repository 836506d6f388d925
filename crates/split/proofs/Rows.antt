-- The row's bytes b, which the searches read, are its text t, which is cut.
use Rattle.std.proofs.Common.{◌≡◌, ℕ, ◌+◌, ◌-◌, ◌≤◌, List, length, take, Some, None, Option, sym, subst}
use Rattle.std.specs.List.{between}
use Rattle.search.specs.Places.{Stands, Lowest, Highest}
use Rattle.split.specs.Occurrences.{occurrences, occurrences_back, end_after, start_before, Next, Prior}
use Rattle.split.proofs.Parts.{next_rest, none_rest, prior_front, none_front}

module _ (d b t : List ℕ) (e : b ≡ t) where
  pub end_row : (n : ℕ) (r : Option ℕ) → r ≡ end_after d 0 (occurrences d b) n → end_after d 0 (occurrences d t) n ≡ r
  end_row n r h = sym (subst (λ (x : List ℕ). r ≡ end_after d 0 (occurrences d x) n) e h)

  pub start_row : (n : ℕ) (r : Option ℕ) → r ≡ start_before (length b) (occurrences_back d b) n → start_before (length t) (occurrences_back d t) n ≡ r
  start_row n r h = sym (subst (λ (x : List ℕ). r ≡ start_before (length x) (occurrences_back d x) n) e h)

  pub next_row : (s p : ℕ) → Lowest d (between s (length b) b) (Some p) → Next d t s (s + p)
  next_row s p h = subst (λ (x : List ℕ). Next d x s (s + p)) e (next_rest d b s p h)

  pub none_row : (s : ℕ) → Lowest d (between s (length b) b) None → (q : ℕ) → s ≤ q → Stands d t q → ⊥
  none_row s h = subst (λ (x : List ℕ). (q : ℕ) → s ≤ q → Stands d x q → ⊥) e (none_rest d b s h)

  pub prior_row : (s p : ℕ) → Highest d (take (s - 0) b) (Some p) → Prior d t s p
  prior_row s p h = subst (λ (x : List ℕ). Prior d x s p) e (prior_front d b s p h)

  pub none_before_row : (s : ℕ) → Highest d (take (s - 0) b) None → (q : ℕ) → q + length d ≤ s → Stands d t q → ⊥
  none_before_row s h = subst (λ (x : List ℕ). (q : ℕ) → q + length d ≤ s → Stands d x q → ⊥) e (none_front d b s h)
