-- The first and the last fields, joined by the delimiter, are a front and an end of the row.
use Rattle.std.proofs.Common.{◌≡◌, ℕ, zero, suc, ◌+◌, ◌-◌, ◌<◌, ◌≤◌, List, [], ◌∷◌, ◌++◌, reverse, length, get_or, take, drop, Some, None, Option, sym, refl, ap, ◌∙◌, subst, arith, take-add}
use native.Mathlib.Nat.{sub-zero}
use Rattle.std.specs.List.{between, slice_get}
use Rattle.std.proofs.lemmas.List.{append-nil, append_assoc, drop-drop, take_all, take_rest, reverse-append, length-reverse, get_or_past}
use Rattle.std.proofs.lemmas.Option.{slice_get_past}
use Rattle.search.proofs.Nearest.{part_from_stands}
use Rattle.split.specs.Occurrences.{occurrences, occurrences_back, FromLeft, FromRight}
use Rattle.split.specs.Fields.{cut_up, cut_down, more, join, texts}
use Rattle.split.specs.Laws.{Rejoined, Uncut, LowestFirst, HighestFirst}
use Rattle.split.proofs.Scans.{past_greedy, before_greedy, greedy_unique, right_unique, past_none, before_none}

pub between_join : (t : List ℕ) (a b c : ℕ) → a ≤ b → b ≤ c → between a b t ++ between b c t ≡ between a c t
between_join t a b c ab bc =
    let all : a + (b - a) ≡ b = omega arith in
    let sum : (b - a) + (c - b) ≡ c - a = omega arith in
    let rest = drop-drop (b - a) a t ∙ ap (λ n. drop n t) all in
    ap (λ x. take (b - a) (drop a t) ++ take (c - b) x) (sym rest) ∙ sym (take-add (b - a) (c - b) (drop a t)) ∙ ap (λ n. take n (drop a t)) sum

module _ (d t : List ℕ) where
  pub end_past : (from : ℕ) (ps : List ℕ) (k : ℕ) → from ≤ length t → FromLeft d t from ps → from ≤ get_or ps k (length t)
  end_past from [] k h g = h
  end_past from (p ∷ ps) zero h g = g.0.past
  end_past from (p ∷ ps) (suc k) h g = omega (arith, g.0.past, end_past (p + length d) ps k g.0.here.within g.1)

  cut_more : (from : ℕ) (ps : List ℕ) (k : ℕ) → more d (take (suc k) (texts (cut_up d t from ps))) ≡ d ++ join d (take (suc k) (texts (cut_up d t from ps)))
  cut_more from [] k = refl
  cut_more from (p ∷ ps) k = refl

  pub fields_join : (from : ℕ) (ps : List ℕ) (k : ℕ) → from ≤ length t → FromLeft d t from ps → join d (take (suc k) (texts (cut_up d t from ps))) ≡ between from (get_or ps k (length t)) t
  fields_join from [] zero h g = append-nil (drop from t) ∙ sym (take_rest t from)
  fields_join from [] (suc k) h g = append-nil (drop from t) ∙ sym (take_rest t from)
  fields_join from (p ∷ ps) zero h g = append-nil (between from p t)
  fields_join from (p ∷ ps) (suc k) h g =
      let next = p + length d in
      let end = get_or ps k (length t) in
      let far : next ≤ end = end_past next ps k g.0.here.within g.1 in
      let size : length d ≡ next - p = omega arith in
      let it : d ≡ between p next t = sym (part_from_stands d t p g.0.here) ∙ ap (λ n. take n (drop p t)) size in
      let rest : more d (take (suc k) (texts (cut_up d t next ps))) ≡ between p end t =
      cut_more next ps k ∙ ap (λ x. d ++ x) (fields_join next ps k g.0.here.within g.1) ∙ ap (λ x. x ++ between next end t) it ∙ between_join t p next end (omega arith) far in
      ap (λ x. between from p t ++ x) rest ∙ between_join t from p end g.0.past (omega arith)

-- The same from the right.
more_push : (d : List ℕ) (xs : List (List ℕ)) (x : List ℕ) → more d (xs ++ (x ∷ [])) ≡ more d xs ++ (d ++ x)
more_push d [] x = ap (λ y. d ++ y) (append-nil x)
more_push d (y ∷ ys) x = ap (λ z. d ++ (y ++ z)) (more_push d ys x) ∙ sym (simp append_assoc)

join_push : (d : List ℕ) (xs : List (List ℕ)) (x : List ℕ) → 0 < length xs → join d (xs ++ (x ∷ [])) ≡ join d xs ++ (d ++ x)
join_push d [] x h = absurd (omega arith)
join_push d (y ∷ ys) x h = ap (λ z. y ++ z) (more_push d ys x) ∙ sym (append_assoc y (more d ys) (d ++ x))

-- where what is wanted begins
abbrev pub start_of : List ℕ → Option ℕ → ℕ
start_of d None = 0
start_of d (Some p) = p + length d

module _ (d t : List ℕ) where
  some_taken : (to : ℕ) (ps : List ℕ) (k : ℕ) → 0 < length (reverse (take (suc k) (texts (cut_down d t to ps))))
  some_taken to [] k = rw length-reverse (omega arith)
  some_taken to (p ∷ ps) k = rw length-reverse (omega arith)

  pub start_within : (to : ℕ) (ps : List ℕ) (k : ℕ) → FromRight d t to ps → start_of d (slice_get ps k) ≤ to
  start_within to [] k g = omega arith
  start_within to (p ∷ ps) zero g = g.0.before
  start_within to (p ∷ ps) (suc k) g = omega (arith, g.0.before, start_within p ps k g.1)

  pub last_join : (to : ℕ) (ps : List ℕ) (k : ℕ) → FromRight d t to ps → join d (reverse (take (suc k) (texts (cut_down d t to ps)))) ≡ between (start_of d (slice_get ps k)) to t
  last_join to [] zero g = append-nil (take to t) ∙ ap (λ n. take n t) (sym (sub-zero to))
  last_join to [] (suc k) g = append-nil (take to t) ∙ ap (λ n. take n t) (sym (sub-zero to))
  last_join to (p ∷ ps) zero g = append-nil (between (p + length d) to t)
  last_join to (p ∷ ps) (suc k) g =
      let next = p + length d in
      let x = between next to t in
      let xs = take (suc k) (texts (cut_down d t p ps)) in
      let start = start_of d (slice_get ps k) in
      let far = start_within p ps k g.1 in
      let size : length d ≡ next - p = omega arith in
      let it : d ≡ between p next t = sym (part_from_stands d t p g.0.here) ∙ ap (λ n. take n (drop p t)) size in
      ap (join d) (reverse-append (x ∷ []) xs) ∙ join_push d (reverse xs) x (some_taken p ps k) ∙ ap (λ y. y ++ (d ++ x)) (last_join p ps k g.1) ∙ ap (λ y. between start p t ++ (y ++ x)) it ∙ ap (λ y. between start p t ++ y) (between_join t p next to (omega arith) g.0.before) ∙ between_join t start p to far (omega (arith, g.0.before))

-- ---- the laws

module _ (d t : List ℕ) where
  count_up : (from : ℕ) (ps : List ℕ) → length (texts (cut_up d t from ps)) ≤ suc (length ps)
  count_up from [] = omega arith
  count_up from (p ∷ ps) = let h = count_up (p + length d) ps in omega arith

  count_down : (to : ℕ) (ps : List ℕ) → length (texts (cut_down d t to ps)) ≤ suc (length ps)
  count_down to [] = omega arith
  count_down to (p ∷ ps) = let h = count_down p ps in omega arith

  whole : between 0 (length t) t ≡ t
  whole = take_all (length t - 0) t (omega arith)

  rejoined_left : join d (texts (cut_up d t 0 (occurrences d t))) ≡ t
  rejoined_left =
      let ps = occurrences d t in
      let k = length ps in
      ap (join d) (sym (take_all (suc k) (texts (cut_up d t 0 ps)) (count_up 0 ps)))
      ∙ fields_join d t 0 ps k (omega arith) (past_greedy d t 0)
      ∙ ap (λ n. between 0 n t) (get_or_past ps k (length t) (omega arith))
      ∙ whole

  rejoined_right : join d (reverse (texts (cut_down d t (length t) (occurrences_back d t)))) ≡ t
  rejoined_right =
      let ps = occurrences_back d t in
      let k = length ps in
      ap (λ xs. join d (reverse xs)) (sym (take_all (suc k) (texts (cut_down d t (length t) ps)) (count_down (length t) ps)))
      ∙ last_join d t (length t) ps k (before_greedy d t (length t))
      ∙ ap (λ r. between (start_of d r) (length t) t) (slice_get_past ps k (omega arith))
      ∙ whole

pub rejoined : Rejoined
rejoined d t = (rejoined_left d t, rejoined_right d t)

pub uncut : Uncut
uncut t = (
  ap (cut_up [] t 0) (past_none [] t 0 (λ q h s. omega (arith, s.some))),
  ap (cut_down [] t (length t)) (before_none [] t (length t) (λ q h s. omega (arith, s.some))) ∙ ap (λ x. (x, 0) ∷ []) (take_all (length t) t (omega arith)),
)

pub lowest_first : LowestFirst
lowest_first d t ps =
    (λ g. greedy_unique d t 0 _ _ g (past_greedy d t 0), λ e. subst (FromLeft d t 0) (sym e) (past_greedy d t 0))

pub highest_first : HighestFirst
highest_first d t ps =
    (λ g. right_unique d t (length t) _ _ g (before_greedy d t (length t)), λ e. subst (FromRight d t (length t)) (sym e) (before_greedy d t (length t)))
