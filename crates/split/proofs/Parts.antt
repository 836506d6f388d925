-- What a search of a part of the row tells of the whole row.
use Rattle.std.proofs.Common.{◌≡◌, ℕ, ◌+◌, ◌-◌, ◌<◌, ◌≤◌, List, length, take, drop, subst, add_assoc, arith}
use native.Mathlib.Nat.{sub-zero}
use Rattle.std.specs.List.{between}
use Rattle.std.proofs.lemmas.List.{length-take, length-drop, get_or-drop, get_or-take, take_rest}
use Rattle.search.specs.Places.{Stands}
use Rattle.split.specs.Occurrences.{Next, Prior}

module _ (d t : List ℕ) where
  -- in what lies past n
  stands_past : (n q : ℕ) → Stands d (drop n t) q → Stands d t (n + q)
  stands_past n q s = record {
    some = s.some;
    within = omega (arith, s.some, simp length-drop at s.within);
    reads = λ k h. rw add_assoc (rw get_or-drop at (s.reads k h));
  }

  past_stands : (n q : ℕ) → Stands d t (n + q) → Stands d (drop n t) q
  past_stands n q s = record {
    some = s.some;
    within = simp length-drop (omega (arith, s.within));
    reads = λ k h. rw get_or-drop (rw add_assoc at (s.reads k h));
  }

  -- in what lies before n
  stands_before : (n q : ℕ) → Stands d (take n t) q → Stands d t q × (q + length d ≤ n)
  stands_before n q s =
      let w : (q + length d ≤ n) × (q + length d ≤ length t) = (omega (arith, simp length-take at s.within), omega (arith, simp length-take at s.within)) in (
        record {
          some = s.some;
          within = w.1;
          reads = λ k h. let l : q + k < n = omega arith in rw get_or-take at (s.reads k h);
        },
        w.0,
      )

  before_stands : (n q : ℕ) → q + length d ≤ n → Stands d t q → Stands d (take n t) q
  before_stands n q b s = record {
    some = s.some;
    within = simp length-take (omega (arith, s.within));
    reads = λ k h. let l : q + k < n = omega arith in rw get_or-take (s.reads k h);
  }

  -- what a search of the rest tells of the whole
  pub next_from : (from q : ℕ) → Stands d (drop from t) q → ((r : ℕ) → r < q → Stands d (drop from t) r → ⊥) → Next d t from (from + q)
  next_from from q s first = record {
    past = omega arith;
    here = stands_past from q s;
    first = λ r a b z. first (r - from) (omega arith) (past_stands from (r - from) (let e : r ≡ from + (r - from) = omega arith in subst (Stands d t) e z));
  }

  pub none_past : (from : ℕ) → ((q : ℕ) → Stands d (drop from t) q → ⊥) → (q : ℕ) → from ≤ q → Stands d t q → ⊥
  none_past from never q a z =
      never (q - from) (past_stands from (q - from) (let e : q ≡ from + (q - from) = omega arith in subst (Stands d t) e z))

  pub prior_to : (to q : ℕ) → Stands d (take to t) q → ((r : ℕ) → q < r → Stands d (take to t) r → ⊥) → Prior d t to q
  prior_to to q s last = record {
    before = (stands_before to q s).1;
    here = (stands_before to q s).0;
    last = λ r a b z. last r a (before_stands to r b z);
  }

  pub none_before : (to : ℕ) → ((q : ℕ) → Stands d (take to t) q → ⊥) → (q : ℕ) → q + length d ≤ to → Stands d t q → ⊥
  none_before to never q b z = never q (before_stands to q b z)

  -- the same, of a part as the checker writes it
  pub next_rest : (from q : ℕ) → Stands d (between from (length t) t) q × ((r : ℕ) → r < q → Stands d (between from (length t) t) r → ⊥) → Next d t from (from + q)
  next_rest from q h = let f = rw (take_rest t from) at h in next_from from q f.0 f.1

  pub none_rest : (from : ℕ) → ((q : ℕ) → Stands d (between from (length t) t) q → ⊥) → (q : ℕ) → from ≤ q → Stands d t q → ⊥
  none_rest from h = none_past from (rw (take_rest t from) at h)

  pub prior_front : (to q : ℕ) → Stands d (take (to - 0) t) q × ((r : ℕ) → q < r → Stands d (take (to - 0) t) r → ⊥) → Prior d t to q
  prior_front to q h = let f = rw (sub-zero to) at h in prior_to to q f.0 f.1

  pub none_front : (to : ℕ) → ((q : ℕ) → Stands d (take (to - 0) t) q → ⊥) → (q : ℕ) → q + length d ≤ to → Stands d t q → ⊥
  none_front to h = none_before to (rw (sub-zero to) at h)
