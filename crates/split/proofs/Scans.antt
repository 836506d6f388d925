-- What the scans give: the lowest place first, or the highest.
use Rattle.std.proofs.Common.{◌≡◌, ℕ, zero, suc, ◌+◌, ◌-◌, ◌<◌, ◌≤◌, List, [], ◌∷◌, length, refl, ap, ◌∙◌, subst, inl, inr, arith}
use Rattle.std.proofs.lemmas.Bool.{cases_lt, cases_order, cond_both, both_ways}
use Rattle.search.specs.Places.{Stands, stands}
use Rattle.search.proofs.Nearest.{moved, stands_decides}
use Rattle.split.specs.Occurrences.{upward, downward, places_past, places_before, Next, FromLeft, Prior, FromRight}

module _ (d t : List ℕ) where
  -- where d does not stand at p, one may start there too
  pub earlier : (p : ℕ) (ps : List ℕ) → (Stands d t p → ⊥) → FromLeft d t (suc p) ps → FromLeft d t p ps
  earlier p [] never h = λ q a s. elim (cases_lt p q) [ inl lt ↦ h q (omega arith) s | inr ge ↦ moved d t p q (omega arith) never s ]
  earlier p (q ∷ ps) never h = (
    record {
      past = omega (arith, h.0.past);
      here = h.0.here;
      first = λ r a b s. elim (cases_lt p r) [ inl lt ↦ h.0.first r (omega arith) b s | inr ge ↦ moved d t p r (omega arith) never s ];
    },
    h.1,
  )

  up_greedy : (k p n from : ℕ) → from ≡ p + k → length t ≤ p + n → FromLeft d t from (upward d t k p n)
  unfolding upward
  up_greedy k p zero from e h = λ q a s. omega (arith, s.some, s.within)
  up_greedy zero p (suc n) from e h =
      let same : p ≡ from = omega arith in
      subst (λ x. FromLeft d t x (upward d t 0 p (suc n))) same (cond_both (stands d t p) _ _ (FromLeft d t p)
      (λ is. let s = (stands_decides d t p).0 is in
      (record { past = omega arith; here = s; first = λ q a b z. omega arith }, up_greedy (length d - 1) (suc p) n (p + length d) (omega (arith, s.some)) (omega arith)))
      (λ not. earlier p _ (λ s. both_ways _ not ((stands_decides d t p).1 s)) (up_greedy 0 (suc p) n (suc p) (omega arith) (omega arith))))
  up_greedy (suc k) p (suc n) from e h = up_greedy k (suc p) n from (omega arith) (omega arith)

  pub past_greedy : (from : ℕ) → FromLeft d t from (places_past d t from)
  past_greedy from = up_greedy 0 from (length t - from) from (omega arith) (omega arith)

  pub greedy_unique : (from : ℕ) (ps qs : List ℕ) → FromLeft d t from ps → FromLeft d t from qs → ps ≡ qs
  greedy_unique from [] [] a b = refl
  greedy_unique from [] (q ∷ qs) a b = absurd (a q b.0.past b.0.here)
  greedy_unique from (p ∷ ps) [] a b = absurd (b p a.0.past a.0.here)
  greedy_unique from (p ∷ ps) (q ∷ qs) a b = elim (cases_order p q) [
    | inl e ↦
        let rest = greedy_unique (q + length d) ps qs (subst (λ x. FromLeft d t (x + length d) ps) e a.1) b.1 in
        ap (λ x. x ∷ ps) e ∙ ap (λ x. q ∷ x) rest
    | inr o ↦ elim o [ inl lt ↦ absurd (b.0.first p a.0.past lt a.0.here) | inr gt ↦ absurd (a.0.first q b.0.past gt b.0.here) ]
  ]

  -- how a walk from the left goes on
  pub past_none : (from : ℕ) → ((q : ℕ) → from ≤ q → Stands d t q → ⊥) → places_past d t from ≡ []
  past_none from never = greedy_unique from _ [] (past_greedy from) never

  pub past_some : (from p : ℕ) → Next d t from p → places_past d t from ≡ p ∷ places_past d t (p + length d)
  past_some from p x = greedy_unique from _ (p ∷ places_past d t (p + length d)) (past_greedy from) (x, past_greedy (p + length d))

  -- the same from the right: where d does not stand at p, one may end past it too
  later : (p to : ℕ) (ps : List ℕ) → (0 < length d → p + length d ≡ to) → (Stands d t p → ⊥) → FromRight d t (p + length d - 1) ps → FromRight d t to ps
  later p to [] e never h =
      λ q a s. let f = e s.some in elim (cases_lt q p) [ inl lt ↦ h q (omega (arith, s.some)) s | inr ge ↦ moved d t p q (omega arith) never s ]
  later p to (q ∷ ps) e never h = let f = e h.0.here.some in (
    record {
      before = omega (arith, h.0.before, h.0.here.some);
      here = h.0.here;
      last = λ r a b s. elim (cases_lt r p) [ inl lt ↦ h.0.last r a (omega (arith, s.some)) s | inr ge ↦ moved d t p r (omega arith) never s ];
    },
    h.1,
  )

  down_greedy : (k n to : ℕ) → (0 < length d → n - k ≡ suc to - length d) → FromRight d t to (downward d t k n)
  unfolding downward
  down_greedy k zero to e = λ q a s. omega (arith, e s.some)
  down_greedy zero (suc p) to e = cond_both (stands d t p) _ _ (FromRight d t to)
      (λ is. let s = (stands_decides d t p).0 is in let f = e s.some in
      (record { before = omega arith; here = s; last = λ r a b z. omega arith }, down_greedy (length d - 1) p p (λ some. omega arith)))
      (λ not. later p to _ (λ some. omega (arith, e some)) (λ s. both_ways _ not ((stands_decides d t p).1 s)) (down_greedy 0 p (p + length d - 1) (λ some. omega arith)))
  down_greedy (suc k) (suc n) to e = down_greedy k n to (λ some. omega (arith, e some))

  pub before_greedy : (to : ℕ) → FromRight d t to (places_before d t to)
  before_greedy to = down_greedy 0 (suc to - length d) to (λ some. omega arith)

  pub right_unique : (to : ℕ) (ps qs : List ℕ) → FromRight d t to ps → FromRight d t to qs → ps ≡ qs
  right_unique to [] [] a b = refl
  right_unique to [] (q ∷ qs) a b = absurd (a q b.0.before b.0.here)
  right_unique to (p ∷ ps) [] a b = absurd (b p a.0.before a.0.here)
  right_unique to (p ∷ ps) (q ∷ qs) a b = elim (cases_order p q) [
    | inl e ↦ ap (λ x. x ∷ ps) e ∙ ap (λ x. q ∷ x) (right_unique q ps qs (subst (λ x. FromRight d t x ps) e a.1) b.1)
    | inr o ↦ elim o [ inl lt ↦ absurd (a.0.last q lt b.0.before b.0.here) | inr gt ↦ absurd (b.0.last p gt a.0.before a.0.here) ]
  ]

  pub before_none : (to : ℕ) → ((q : ℕ) → q + length d ≤ to → Stands d t q → ⊥) → places_before d t to ≡ []
  before_none to never = right_unique to _ [] (before_greedy to) never

  pub before_some : (to p : ℕ) → Prior d t to p → places_before d t to ≡ p ∷ places_before d t p
  before_some to p x = right_unique to _ (p ∷ places_before d t p) (before_greedy to) (x, before_greedy p)
