-- What is cut from a row is a part of it, at its place.
use Rattle.std.proofs.Common.{◌≡◌, ℕ, zero, suc, ◌+◌, ◌-◌, Bool, true, false, cond, eqb, List, [], ◌∷◌, length, take, drop, ℤ, pos, negsuc, Some, None, Ok, Option, unwrap_or, sym, refl, ap, arith}
use Rattle.std.proofs.lemmas.List.{take_all}
use Rattle.std.specs.List.{slice_get}
use Rattle.index.specs.Index.{after_place, before_place, beside, index_at}
use Rattle.split.specs.Fields.{Part, cut_down, cut_up, field_at, left_fields, missing, right_fields}
use Rattle.split.specs.Occurrences.{occurrences, occurrences_back}

abbrev pub Lies : List ℕ → Part → Type 0
Lies t p = p.0 ≡ take (length p.0) (drop p.1 t)

-- the first n of a list
head_lies : (n : ℕ) (xs : List ℕ) → take n xs ≡ take (length (take n xs)) xs
head_lies zero xs = refl
head_lies (suc n) [] = refl
head_lies (suc n) (x ∷ xs) = ap (λ ys. x ∷ ys) (head_lies n xs)

whole_lies : (xs : List ℕ) → xs ≡ take (length xs) xs
whole_lies xs = sym (take_all (length xs) xs (omega arith))

up_lies : (d t : List ℕ) (from : ℕ) (ps : List ℕ) (k : ℕ) → Lies t (unwrap_or (slice_get (cut_up d t from ps) k) missing)
up_lies d t from [] zero = whole_lies (drop from t)
up_lies d t from [] (suc k) = refl
up_lies d t from (p ∷ ps) zero = head_lies (p - from) (drop from t)
up_lies d t from (p ∷ ps) (suc k) = up_lies d t (p + length d) ps k

down_lies : (d t : List ℕ) (to : ℕ) (ps : List ℕ) (k : ℕ) → Lies t (unwrap_or (slice_get (cut_down d t to ps) k) missing)
down_lies d t to [] zero = head_lies to t
down_lies d t to [] (suc k) = refl
down_lies d t to (p ∷ ps) zero = head_lies (to - (p + length d)) (drop (p + length d) t)
down_lies d t to (p ∷ ps) (suc k) = down_lies d t p ps k

lies_as : (t : List ℕ) (p q : Part) → p ≡ q → Lies t q → Lies t p
lies_as t p q e h = rw e h

-- split's field
pub field_lies : (d t : List ℕ) (n : ℤ) (q : Part) → Ok q ≡ field_at d t n → Lies t q
field_lies d t (pos zero) q e = let z : ◌≡◌ {A = ℕ} 0 1 = cc in absurd (omega arith)
field_lies d t (pos (suc k)) q e = let s : q ≡ unwrap_or (slice_get (left_fields d t) k) missing = cc in lies_as t q _ s (up_lies d t 0 (occurrences d t) k)
field_lies d t (negsuc k) q e = let s : q ≡ unwrap_or (slice_get (right_fields d t) k) missing = cc in lies_as t q _ s (down_lies d t (length t) (occurrences_back d t) k)

before_lies : (t : List ℕ) (o : Option ℕ) → Lies t (before_place t o)
before_lies t None = whole_lies t
before_lies t (Some p) = head_lies p t

after_lies : (d t : List ℕ) (o : Option ℕ) → Lies t (after_place d t o)
after_lies d t None = whole_lies t
after_lies d t (Some p) = whole_lies (drop (p + length d) t)

beside_lies : (d t : List ℕ) (n : ℤ) → Lies t (beside d t n)
beside_lies d t (pos zero) = refl
beside_lies d t (pos (suc k)) = before_lies t (slice_get (occurrences d t) k)
beside_lies d t (negsuc k) = after_lies d t (slice_get (occurrences_back d t) k)

-- index's part
pub index_lies : (d t : List ℕ) (n : ℤ) (q : Part) → q ≡ index_at d t n → Lies t q
index_lies d t n q e =
    let go : (b : Bool) → Lies t (cond b missing (beside d t n)) = λ b. elim b as (λ b. Lies t (cond b missing (beside d t n))) [ true ↦ refl | false ↦ beside_lies d t n ] in
    lies_as t q _ e (go (eqb (length d) 0))
