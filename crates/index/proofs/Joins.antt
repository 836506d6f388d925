-- Index is split's fields joined.
use Rattle.std.proofs.Common.{◌≡◌, ℕ, zero, suc, ◌+◌, ◌-◌, ◌<◌, ◌≤◌, Bool, false, cond, eqb, List, [], ◌∷◌, ◌++◌, reverse, length, get_or, take, pos, negsuc, Some, None, Option, unwrap_or, sym, refl, ap, ◌∙◌, arith, ne_eqb}
use native.Mathlib.Nat.{sub-zero}
use Rattle.std.specs.List.{between, slice_get}
use Rattle.std.proofs.lemmas.List.{take-map, take_all, take_rest, reverse-append}
use Rattle.std.proofs.lemmas.Option.{slice_get_past}
use Rattle.split.specs.Occurrences.{occurrences, occurrences_back}
use Rattle.split.specs.Fields.{Part, missing, cut_up, cut_down, left_fields, right_fields, join, texts}
use Rattle.split.proofs.Scans.{past_greedy, before_greedy}
use Rattle.split.proofs.Joining.{fields_join, last_join, start_of}
use Rattle.index.specs.Index.{before_place, after_place, beside, index_at}
use Rattle.index.specs.Joining.{fields_to, fields_from, FieldsJoined, FieldsJoinedBack, IndexJoinsFields}

-- ---- the fields at the positions 1 to n are the first n fields, and those at -n to -1 the last n

take_next : (fs : List Part) (n : ℕ) → n < length fs → texts (take n fs) ++ ((unwrap_or (slice_get fs n) missing).0 ∷ []) ≡ texts (take (suc n) fs)
take_next [] n h = absurd (omega arith)
take_next (f ∷ fs) zero h = refl
take_next (f ∷ fs) (suc n) h = ap (λ xs. f.0 ∷ xs) (take_next fs n (omega arith))

texts_take : (fs : List Part) (n : ℕ) → texts (take n fs) ≡ take n (texts fs)
texts_take fs n = sym (take-map (λ (f : Part). f.0) n fs)

first_fields : (d t : List ℕ) (n : ℕ) → n ≤ length (left_fields d t) → fields_to d t n ≡ texts (take n (left_fields d t))
first_fields d t zero h = refl
first_fields d t (suc n) h =
    ap (λ xs. xs ++ ((unwrap_or (slice_get (left_fields d t) n) missing).0 ∷ [])) (first_fields d t n (omega arith)) ∙ take_next (left_fields d t) n (omega arith)

last_fields : (d t : List ℕ) (n : ℕ) → n ≤ length (right_fields d t) → fields_from d t n ≡ reverse (texts (take n (right_fields d t)))
last_fields d t zero h = refl
last_fields d t (suc n) h =
    let fs = right_fields d t in
    let x = (unwrap_or (slice_get fs n) missing).0 in
    ap (λ xs. x ∷ xs) (last_fields d t n (omega arith))
    ∙ (sym (reverse-append (texts (take n fs)) (x ∷ [])) ∙ ap reverse (take_next fs n (omega arith)))

-- ---- as many fields as occurrences, and one more

count_up : (d t : List ℕ) (from : ℕ) (ps : List ℕ) → length (cut_up d t from ps) ≡ suc (length ps)
count_up d t from [] = refl
count_up d t from (p ∷ ps) = ap suc (count_up d t (p + length d) ps)

count_down : (d t : List ℕ) (to : ℕ) (ps : List ℕ) → length (cut_down d t to ps) ≡ suc (length ps)
count_down d t to [] = refl
count_down d t to (p ∷ ps) = ap suc (count_down d t p ps)

-- ---- what lies before and after an occurrence

before_is : (t ps : List ℕ) (k : ℕ) → (before_place t (slice_get ps k)).0 ≡ between 0 (get_or ps k (length t)) t
before_is t [] k = sym (take_all (length t - 0) t (omega arith))
before_is t (p ∷ ps) zero = ap (λ n. take n t) (sym (sub-zero p))
before_is t (p ∷ ps) (suc k) = before_is t ps k

after_is : (d t : List ℕ) (r : Option ℕ) → (after_place d t r).0 ≡ between (start_of d r) (length t) t
after_is d t None = sym (take_all (length t - 0) t (omega arith))
after_is d t (Some p) = sym (take_rest t (p + length d))

module _ (d t : List ℕ) (some : eqb (length d) 0 ≡ false) where
  joined_to : (k : ℕ) → suc k ≤ length (occurrences d t) → (beside d t (pos (suc k))).0 ≡ join d (fields_to d t (suc k))
  joined_to k h =
      let c = count_up d t 0 (occurrences d t) in
      before_is t (occurrences d t) k
      ∙ (sym (fields_join d t 0 (occurrences d t) k (omega arith) (past_greedy d t 0))
      ∙ ap (join d) (sym (first_fields d t (suc k) (omega arith) ∙ texts_take (left_fields d t) (suc k))))

  joined_from : (k : ℕ) → k < length (occurrences_back d t) → (beside d t (negsuc k)).0 ≡ join d (fields_from d t (suc k))
  joined_from k h =
      let c = count_down d t (length t) (occurrences_back d t) in
      after_is d t (slice_get (occurrences_back d t) k)
      ∙ (sym (last_join d t (length t) (occurrences_back d t) k (before_greedy d t (length t)))
      ∙ ap (join d) (sym (last_fields d t (suc k) (omega arith) ∙ ap reverse (texts_take (right_fields d t) (suc k)))))

  open_index : (n : _) → index_at d t n ≡ beside d t n
  open_index n = ap (λ (b : Bool). cond b missing (beside d t n)) some

  to_left : FieldsJoined d t
  to_left zero = (λ h. absurd (omega arith), λ h. absurd (omega arith))
  to_left (suc k) = (
    λ _ h. ap (λ p. p.0) (open_index (pos (suc k))) ∙ joined_to k h,
    λ h. ap (λ p. p.0) (open_index (pos (suc k)) ∙ ap (before_place t) (slice_get_past (occurrences d t) k (omega arith))),
  )

  to_right : FieldsJoinedBack d t
  to_right k = (
    λ h. ap (λ p. p.0) (open_index (negsuc k)) ∙ joined_from k h,
    λ h. ap (λ p. p.0) (open_index (negsuc k) ∙ ap (after_place d t) (slice_get_past (occurrences_back d t) k h)),
  )

no_length : (d : List ℕ) → (d ≡ [] → ⊥) → length d ≡ 0 → ⊥
no_length [] n e = n refl
no_length (x ∷ d) n e = omega arith

pub index_joins_fields : IndexJoinsFields
index_joins_fields d t n =
    let some = ne_eqb (length d) 0 (no_length d n) in
    (to_left d t some, to_right d t some)
