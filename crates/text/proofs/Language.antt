-- The checker accepts the well-formed texts, and no others.
use Rattle.std.proofs.Common.{◌≡◌, ℕ, ◌+◌, ◌<◌, ◌≤◌, Bool, true, false, cond, ◌&&◌, ◌||◌, T, leb, List, [], ◌∷◌, ◌++◌, sym, refl, ap, ◌∙◌, subst, ap₂, ⊎_elim, arith}
use Rattle.std.proofs.lemmas.Bool.{false≢true, and_parts, and_from, and_left, and_right, lt-leb, leb-true, cases_lt}
use Rattle.text.specs.Table.{Range, ◌to◌, table, inside, fits, one_of, sequences, joined, WellFormed}
use Rattle.text.specs.Alike.{Alike}
use Rattle.text.specs.Classes.{class_of}
use Rattle.text.specs.Steps.{next, run}
use Rattle.text.specs.declared.checker.State.{State}
use Rattle.text.specs.declared.checker.State.TheVariants.{Start}
use Rattle.text.proofs.Names.{same_state, state_same}
use Rattle.text.proofs.Finite.{at_state}
use Rattle.text.proofs.Pending.{pending, derive, tails, never}
use Rattle.text.proofs.Rule.{step_is}

nil_cons : (b : ℕ) (bs : List ℕ) → [] ≡ b ∷ bs → ⊥
nil_cons b bs e = let z : ◌≡◌ {A = ℕ} 0 1 = cc in omega arith

or_false : (t : Bool) → (t || false) ≡ t
or_false true = refl
or_false false = refl

-- ---- the range at `Broken` holds no byte

never_inside : (b : ℕ) → inside (1 to 0) b ≡ false
never_inside b =
    ⊎_elim (λ h. and_left (leb 1 b) (leb b 0) (lt-leb 1 b h)) (λ h. and_right (leb 1 b) (leb b 0) (lt-leb b 0 h)) (cases_lt b 1)

pub never_fits : (s : List ℕ) → fits never s ≡ false
never_fits [] = refl
never_fits (b ∷ s) = and_left (inside (1 to 0) b) (fits [] s) (never_inside b)

-- ---- the first byte of a sequence chooses its row, since the rows' first ranges rise

abbrev rising : ℕ → List (List Range) → Bool
rising n [] = true
rising n ([] ∷ rows) = false
rising n ((r ∷ rs) ∷ rows) = leb n r.from && (leb r.from r.to && rising (r.to + 1) rows)

below_rows : (rows : List (List Range)) (n b : ℕ) (s : List ℕ) → rising n rows ≡ true → b < n → one_of rows (b ∷ s) ≡ false
below_rows [] n b s e h = refl
below_rows ([] ∷ rows) n b s e h = absurd (false≢true e)
below_rows ((r ∷ rs) ∷ rows) n b s e h =
    let p = and_parts (leb n r.from) (leb r.from r.to && rising (r.to + 1) rows) e in
    let q = and_parts (leb r.from r.to) (rising (r.to + 1) rows) p.1 in
    let l : n ≤ r.from = leb-true n r.from p.0 in
    let m : r.from ≤ r.to = leb-true r.from r.to q.0 in
    let o : inside r b ≡ false = and_left (leb r.from b) (leb b r.to) (lt-leb r.from b (omega arith)) in
    let i : one_of rows (b ∷ s) ≡ false = below_rows rows (r.to + 1) b s q.1 (omega arith) in
    ap₂ (λ x y. (x && fits rs s) || y) o i

pub row_of : (rows : List (List Range)) (n b : ℕ) (s : List ℕ) → rising n rows ≡ true → one_of rows (b ∷ s) ≡ fits (tails rows b) s
row_of [] n b s e = sym (never_fits s)
row_of ([] ∷ rows) n b s e = absurd (false≢true e)
row_of ((r ∷ rs) ∷ rows) n b s e =
    let p = and_parts (leb n r.from) (leb r.from r.to && rising (r.to + 1) rows) e in
    let q = and_parts (leb r.from r.to) (rising (r.to + 1) rows) p.1 in
    go (row_of rows (r.to + 1) b s q.1) (λ l. below_rows rows (r.to + 1) b s q.1 l) (inside r b) refl
  where
    go : one_of rows (b ∷ s) ≡ fits (tails rows b) s → (b < r.to + 1 → one_of rows (b ∷ s) ≡ false) → (t : Bool) → inside r b ≡ t → ((t && fits rs s) || one_of rows (b ∷ s)) ≡ fits (cond t rs (tails rows b)) s
    go i o true e =
        let l : b ≤ r.to = leb-true b r.to (and_parts (leb r.from b) (leb b r.to) e).1 in
        ap (λ x. fits rs s || x) (o (omega arith)) ∙ or_false (fits rs s)
    go i o false e = i

pub table_row : (b : ℕ) (s : List ℕ) → one_of table (b ∷ s) ≡ fits (tails table b) s
table_row b s = row_of table 0 b s refl

pub range_step : (r : Range) (rs : List Range) (b : ℕ) (s : List ℕ) → fits (r ∷ rs) (b ∷ s) ≡ fits (derive (r ∷ rs) b) s
range_step r rs b s = go (inside r b)
  where
    go : (t : Bool) → (t && fits rs s) ≡ fits (cond t rs never) s
    go true = refl
    go false = sym (never_fits s)

-- ---- what is left of a text: the rest of a sequence, and then sequences

abbrev Ends : List Range → List ℕ → Type 0
Ends rs bs = (xs : List ℕ) × (ys : List ℕ) × (fits rs xs ≡ true) × WellFormed ys × (xs ++ ys ≡ bs)

back : (rs : List Range) (b : ℕ) (bs : List ℕ) → Ends (derive rs b) bs → Ends rs (b ∷ bs)
back [] b bs t =
    let w = t.3 in (
      [],
      b ∷ bs,
      refl,
      ((b ∷ t.0) ∷ w.0, (and_from (one_of table (b ∷ t.0)) (sequences w.0) (table_row b t.0 ∙ t.2) w.1.0, ap (λ z. b ∷ (t.0 ++ z)) w.1.1 ∙ ap (λ z. b ∷ z) t.4)),
      refl,
    )
back (r ∷ rs) b bs t = (b ∷ t.0, t.1, range_step r rs b t.0 ∙ t.2, t.3, ap (λ z. b ∷ z) t.4)

ahead_range : (r : Range) (rs : List Range) (b : ℕ) (bs xs ys : List ℕ) → fits (r ∷ rs) xs ≡ true → WellFormed ys → xs ++ ys ≡ b ∷ bs → Ends (derive (r ∷ rs) b) bs
ahead_range r rs b bs [] ys f w e = absurd (false≢true f)
ahead_range r rs b bs (x ∷ xs) ys f w e =
    let p : x ≡ b = cc in
    let q : xs ++ ys ≡ bs = cc in
    (xs, ys, sym (range_step r rs b xs) ∙ (rw p at f), w, q)

ahead_start : (b : ℕ) (bs : List ℕ) (ss : List (List ℕ)) → sequences ss ≡ true → joined ss ≡ b ∷ bs → Ends (tails table b) bs
ahead_start b bs [] f e = absurd (nil_cons b bs e)
ahead_start b bs ([] ∷ ss) f e = absurd (false≢true f)
ahead_start b bs ((x ∷ s) ∷ ss) f e =
    let p : x ≡ b = cc in
    let q : s ++ joined ss ≡ bs = cc in
    let a = and_parts (one_of table (x ∷ s)) (sequences ss) f in
    let g : one_of table (b ∷ s) ≡ true = subst (λ (z : ℕ). one_of table (z ∷ s) ≡ true) p a.0 in
    (s, joined ss, sym (table_row b s) ∙ g, (ss, (a.1, refl)), q)

-- a text after no bytes of a sequence
whole : (xs ys : List ℕ) → fits [] xs ≡ true → xs ++ ys ≡ ys
whole [] ys f = refl
whole (x ∷ xs) ys f = absurd (false≢true f)

ahead : (rs : List Range) (b : ℕ) (bs : List ℕ) → Ends rs (b ∷ bs) → Ends (derive rs b) bs
ahead [] b bs t = let w = t.3 in ahead_start b bs w.0 w.1.0 (w.1.1 ∙ (sym (whole t.0 t.1 t.2) ∙ t.4))
ahead (r ∷ rs) b bs t = ahead_range r rs b bs t.0 t.1 t.2 t.3 t.4

-- ---- the checker

sound : (bs : List ℕ) (s : State) → run s bs ≡ Start → Ends (pending s) bs
sound [] s e = subst (λ (z : State). Ends (pending z) []) (sym e) ([], [], refl, ([], (refl, refl)), refl)
sound (b ∷ bs) s e = back (pending s) b bs (subst (λ (rs : List Range). Ends rs bs) (step_is s b) (sound bs (next s (class_of b)) e))

nothing_left : (s : State) → fits (pending s) [] ≡ true → s ≡ Start
nothing_left s f =
    let P : State → Bool = λ s. cond (fits (pending s) []) (same_state s Start) true in
    state_same s Start (subst (λ (t : Bool). T (cond t (same_state s Start) true)) f (at_state P tt s))

front_nil : (xs ys : List ℕ) → xs ++ ys ≡ [] → xs ≡ []
front_nil [] ys e = refl
front_nil (x ∷ xs) ys e = absurd (nil_cons x (xs ++ ys) (sym e))

complete : (bs : List ℕ) (s : State) → Ends (pending s) bs → run s bs ≡ Start
complete [] s t = nothing_left s (subst (λ (z : List ℕ). fits (pending s) z ≡ true) (front_nil t.0 t.1 t.4) t.2)
complete (b ∷ bs) s t = complete bs (next s (class_of b)) (subst (λ (rs : List Range). Ends rs bs) (sym (step_is s b)) (ahead (pending s) b bs t))

pub accepted : (bs : List ℕ) → run Start bs ≡ Start → WellFormed bs
accepted bs e =
    let t = sound bs Start e in
    subst WellFormed (sym (whole t.0 t.1 t.2) ∙ t.4) t.3

pub accepts : (bs : List ℕ) → WellFormed bs → run Start bs ≡ Start
accepts bs w = complete bs Start ([], bs, refl, w, refl)

-- ---- bytes of one class are alike

fits_class : (a b : ℕ) → class_of a ≡ class_of b → (p q : List ℕ) (s : State) → fits (pending s) (p ++ (a ∷ q)) ≡ fits (pending s) (p ++ (b ∷ q))
fits_class a b e [] q s = go (pending s) (step_is s a) (step_is s b)
  where
    go : (rs : List Range) → pending (next s (class_of a)) ≡ derive rs a → pending (next s (class_of b)) ≡ derive rs b → fits rs (a ∷ q) ≡ fits rs (b ∷ q)
    go [] f g = refl
    go (r ∷ rs) f g =
        range_step r rs a q
        ∙ (ap (λ z. fits z q) (sym f ∙ (ap (λ c. pending (next s c)) e ∙ g)) ∙ sym (range_step r rs b q))
fits_class a b e (x ∷ p) q s = go (pending s) (step_is s x) (fits_class a b e p q (next s (class_of x)))
  where
    go : (rs : List Range) → pending (next s (class_of x)) ≡ derive rs x → fits (pending (next s (class_of x))) (p ++ (a ∷ q)) ≡ fits (pending (next s (class_of x))) (p ++ (b ∷ q)) → fits rs (x ∷ (p ++ (a ∷ q))) ≡ fits rs (x ∷ (p ++ (b ∷ q)))
    go [] f i = refl
    go (r ∷ rs) f i =
        range_step r rs x (p ++ (a ∷ q))
        ∙ (subst (λ (z : List Range). fits z (p ++ (a ∷ q)) ≡ fits z (p ++ (b ∷ q))) f i ∙ sym (range_step r rs x (p ++ (b ∷ q))))

pub alike_from_class : (a b : ℕ) → class_of a ≡ class_of b → Alike a b
alike_from_class a b e [] q =
    table_row a q ∙ (ap (λ z. fits z q) (sym (step_is Start a) ∙ (ap (λ c. pending (next Start c)) e ∙ step_is Start b)) ∙ sym (table_row b q))
alike_from_class a b e (x ∷ p) q =
    table_row x (p ++ (a ∷ q))
    ∙ (subst (λ (z : List Range). fits z (p ++ (a ∷ q)) ≡ fits z (p ++ (b ∷ q))) (step_is Start x) (fits_class a b e p q (next Start (class_of x)))
    ∙ sym (table_row x (p ++ (b ∷ q))))
