-- The test `stands`, and what `lowest` and `highest` give: the only answers with the meaning.
use Rattle.std.proofs.Common.{◌≡◌, ℕ, zero, suc, ◌+◌, ◌<◌, ◌≤◌, false, List, ◌++◌, length, take, drop, Some, None, Decides, Option, sym, refl, ap, ◌∙◌, subst, inl, inr, arith}
use Rattle.std.proofs.lemmas.List.{take_at, take-append-drop}
use Rattle.std.proofs.lemmas.List.Prefix.{at_from_reads, at_reads}
use Rattle.std.proofs.lemmas.Slice.Eq.{bytes_eq-Decides}
use Rattle.std.proofs.lemmas.Bool.{cases_lt, cases_order, cond_both, both_ways, leb-true, le-leb}
use Rattle.std.proofs.lemmas.Bool.Decides.{Decides-and, Decides-like, Decides-ltb}
use Rattle.search.specs.Places.{Stands, stands, first_up, first_down, lowest, highest, Lowest, Highest}

-- d stands at p as a part of t
pub part_from_stands : (d t : List ℕ) (p : ℕ) → Stands d t p → take (length d) (drop p t) ≡ d
part_from_stands d t p s = rw (at_from_reads 0 t d p s.within s.reads) (take_at _ _ _ refl)

pub stands_from_part : (d t : List ℕ) (p : ℕ) → 0 < length d → p + length d ≤ length t → take (length d) (drop p t) ≡ d → Stands d t p
stands_from_part d t p some within e = record {
  some = some;
  within = within;
  reads = at_reads 0 t d p (drop (length d) (drop p t)) (sym (take-append-drop (length d) (drop p t)) ∙ ap (λ x. x ++ drop (length d) (drop p t)) e);
}

pub stands_decides : (d t : List ℕ) (p : ℕ) → Decides (stands d t p) (Stands d t p)
unfolding stands
stands_decides d t p =
    Decides-like _ (λ h. stands_from_part d t p h.0 h.1.0 h.1.1) (λ s. (s.some, (s.within, part_from_stands d t p s)))
    (Decides-and _ _ (Decides-ltb 0 (length d)) (Decides-and _ _ (leb-true _ _, le-leb _ _) (bytes_eq-Decides _ _)))

module _ (d t : List ℕ) where
  pub moved : (p q : ℕ) → q ≡ p → (Stands d t p → ⊥) → Stands d t q → ⊥
  moved p q e never s = never (subst (Stands d t) e s)

  absent : (p : ℕ) → stands d t p ≡ false → Stands d t p → ⊥
  absent p not s = both_ways _ not ((stands_decides d t p).1 s)

  up_lowest : (p n : ℕ) → length t ≤ p + n → ((q : ℕ) → q < p → Stands d t q → ⊥) → Lowest d t (first_up (stands d t) p n)
  up_lowest p zero h below = λ q s. elim (cases_lt q p) [ inl lt ↦ below q lt s | inr ge ↦ omega (arith, s.some, s.within) ]
  up_lowest p (suc n) h below =
      cond_both (stands d t p) _ _ (Lowest d t) (λ is. ((stands_decides d t p).0 is, below))
      (λ not. up_lowest (suc p) n (omega arith) (λ q lt s. elim (cases_lt q p) [ inl l ↦ below q l s | inr ge ↦ moved p q (omega arith) (absent p not) s ]))

  down_highest : (n : ℕ) → ((q : ℕ) → n ≤ q → Stands d t q → ⊥) → Highest d t (first_down (stands d t) n)
  down_highest zero above = λ q s. above q (omega arith) s
  down_highest (suc n) above =
      cond_both (stands d t n) _ _ (Highest d t) (λ is. ((stands_decides d t n).0 is, λ q lt s. above q (omega arith) s))
      (λ not. down_highest n (λ q le s. elim (cases_lt n q) [ inl lt ↦ above q (omega arith) s | inr ge ↦ moved n q (omega arith) (absent n not) s ]))

  pub lowest_means : Lowest d t (lowest d t)
  unfolding lowest
  lowest_means = up_lowest 0 (length t) (omega arith) (λ q lt s. omega arith)

  pub highest_means : Highest d t (highest d t)
  unfolding highest
  highest_means = down_highest (length t) (λ q le s. omega (arith, s.some, s.within))

  lowest_unique : (r s : Option ℕ) → Lowest d t r → Lowest d t s → r ≡ s
  lowest_unique None None a b = refl
  lowest_unique None (Some q) a b = absurd (a q b.0)
  lowest_unique (Some p) None a b = absurd (b p a.0)
  lowest_unique (Some p) (Some q) a b = elim (cases_order p q) [
    | inl e ↦ ap Some e
    | inr o ↦ elim o [ inl lt ↦ absurd (b.1 p lt a.0) | inr gt ↦ absurd (a.1 q gt b.0) ]
  ]

  highest_unique : (r s : Option ℕ) → Highest d t r → Highest d t s → r ≡ s
  highest_unique None None a b = refl
  highest_unique None (Some q) a b = absurd (a q b.0)
  highest_unique (Some p) None a b = absurd (b p a.0)
  highest_unique (Some p) (Some q) a b = elim (cases_order p q) [
    | inl e ↦ ap Some e
    | inr o ↦ elim o [ inl lt ↦ absurd (a.1 q lt b.0) | inr gt ↦ absurd (b.1 p gt a.0) ]
  ]

  -- an answer with the meaning is the defined one
  pub lowest_is : (r : Option ℕ) → Lowest d t r → (r ≡ lowest d t) × Lowest d t r
  lowest_is r m = (lowest_unique r (lowest d t) m lowest_means, m)

  pub highest_is : (r : Option ℕ) → Highest d t r → (r ≡ highest d t) × Highest d t r
  highest_is r m = (highest_unique r (highest d t) m highest_means, m)

-- the same, of a delimiter that the code reads under another name
pub lowest_for : (x d t : List ℕ) (r : Option ℕ) → x ≡ d → Lowest x t r → (r ≡ lowest d t) × Lowest d t r
lowest_for x d t r e m = lowest_is d t r (subst (λ (y : List ℕ). Lowest y t r) e m)

pub highest_for : (x d t : List ℕ) (r : Option ℕ) → x ≡ d → Highest x t r → (r ≡ highest d t) × Highest d t r
highest_for x d t r e m = highest_is d t r (subst (λ (y : List ℕ). Highest y t r) e m)
