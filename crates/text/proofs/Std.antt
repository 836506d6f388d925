-- The cuts again, for `std`'s `Utf8`, and that the two definitions say the same.
use Rattle.std.proofs.Common.{◌≡◌, ℕ, zero, suc, ◌+◌, ◌-◌, ◌*◌, ◌/◌, ◌<◌, ◌≤◌, Bool, true, ◌||◌, leb, ◌⊎◌, List, [], ◌∷◌, ◌++◌, map, length, get_or, IsUtf8, sym, refl, ap, ◌∙◌, subst, inl, inr, ⊎_elim, le_of_suc-le-suc, not-suc-le-zero, arith, lit<, lit≤}
use lib.Utf8.{scalar, scalars, encode, encodes, next, low_scalar, scalar_cases}
use Rattle.std.specs.Str.{IsCharBoundary}
use Rattle.std.proofs.lemmas.List.{length-append, get_or_at, take_at, drop_at}
use Rattle.std.proofs.lemmas.Bool.{false≢true, and_parts, and_from, or_cases, or_left, or_right, leb-true, le-leb, lt-ltb, le-ltb, cases_lt}
use Rattle.std.proofs.lemmas.Str.{IsUtf8-nil, IsUtf8-append, IsUtf8-take, IsUtf8-drop, IsUtf8-encode, encode_ascii, IsCharBoundary-start, IsCharBoundary-from_take}
use Rattle.text.specs.Table.{Range, ◌to◌, table, inside, fits, one_of, sequences, joined, WellFormed}

-- ---- cuts

pub utf8_after_front : (a b : List ℕ) → IsUtf8 (a ++ b) → IsUtf8 a → IsUtf8 b
utf8_after_front a b u v =
    subst IsUtf8 (drop_at a b (length a) refl)
    (IsUtf8-drop (a ++ b) (length a) u (IsCharBoundary-from_take (a ++ b) (length a) u (simp length-append (omega arith)) (subst IsUtf8 (sym (take_at a b (length a) refl)) v)))

pub utf8_around_part : (a d b : List ℕ) → IsUtf8 (a ++ (d ++ b)) → IsUtf8 d → (d ≡ [] → ⊥) → IsUtf8 a × IsUtf8 b
utf8_around_part a [] b u v n = absurd (n refl)
utf8_around_part a (x ∷ d) b u v n =
    let t = a ++ (x ∷ (d ++ b)) in
    let e : get_or t (length a) 0 ≡ x = get_or_at a x (d ++ b) 0 (length a) refl in
    let l : length t ≡ length a + (length (d ++ b) + 1) = length-append a (x ∷ (d ++ b)) ∙ omega arith in
    let cut : IsCharBoundary t (length a) = (omega (arith, l), λ _ k. rw e ((IsCharBoundary-start (x ∷ d) v).1 (omega arith) (rw e at k))) in
    let front = subst IsUtf8 (take_at a (x ∷ (d ++ b)) (length a) refl) (IsUtf8-take t (length a) u cut) in
    (front, utf8_after_front (x ∷ d) b (utf8_after_front a (x ∷ (d ++ b)) u front) v)

-- ---- what `encode` gives, by the number of bytes

two : (c : ℕ) → 128 ≤ c → c < 2048 → encode c ≡ (192 + c / 64) ∷ next c ∷ []
unfolding encode
two c l h = simp (le-ltb c 128 l, lt-ltb c 2048 h)

three : (c : ℕ) → 2048 ≤ c → c < 65536 → encode c ≡ (224 + c / 4096) ∷ next (c / 64) ∷ next c ∷ []
unfolding encode
three c l h = let k : 128 ≤ c = omega arith in simp (le-ltb c 128 k, le-ltb c 2048 l, lt-ltb c 65536 h)

four : (c : ℕ) → 65536 ≤ c → encode c ≡ (240 + c / 262144) ∷ next (c / 4096) ∷ next (c / 64) ∷ next c ∷ []
unfolding encode
four c l =
    let k : 128 ≤ c = omega arith in
    let m : 2048 ≤ c = omega arith in
    simp (le-ltb c 128 k, le-ltb c 2048 m, le-ltb c 65536 l)

high_scalar : (c : ℕ) → 57344 ≤ c → c < 1114112 → scalar c ≡ true
high_scalar c l h = let k : 55296 ≤ c = omega arith in simp (le-ltb c 55296 k, le-leb 57344 c l, lt-ltb c 1114112 h)

is_char : (s : List ℕ) (c : ℕ) → scalar c ≡ true → s ≡ encode c → IsUtf8 s
is_char s c h e = subst IsUtf8 (sym e) (IsUtf8-encode c h)

-- ---- a sequence is a character

next_byte : (r : Range) (rs : List Range) (s : List ℕ) → fits (r ∷ rs) s ≡ true → (a : ℕ) × (t : List ℕ) × (s ≡ a ∷ t) × (r.from ≤ a) × (a ≤ r.to) × (fits rs t ≡ true)
next_byte r rs [] f = absurd (false≢true f)
next_byte r rs (a ∷ t) f =
    let p = and_parts (inside r a) (fits rs t) f in
    let q = and_parts (leb r.from a) (leb a r.to) p.0 in
    (a, t, refl, leb-true r.from a q.0, leb-true a r.to q.1, p.1)

no_byte : (s : List ℕ) → fits [] s ≡ true → s ≡ []
no_byte [] f = refl
no_byte (a ∷ s) f = absurd (false≢true f)

-- one to four bytes inside the ranges are UTF-8
of_one : (s : List ℕ) (r : Range) → r.to ≤ 0x7F → fits (r ∷ []) s ≡ true → IsUtf8 s
of_one s r h f =
    let p = next_byte r [] s f in
    let e : s ≡ p.0 ∷ [] = p.2 ∙ ap (λ z. p.0 ∷ z) (no_byte p.1 p.5) in
    let x = p.0 in
    let k : x < 128 = omega (arith, p.4) in
    is_char s x (low_scalar x (omega arith)) (e ∙ sym (encode_ascii x k))

of_two : (s : List ℕ) (r t : Range) → 0xC2 ≤ r.from → r.to ≤ 0xDF → 0x80 ≤ t.from → t.to ≤ 0xBF → fits (r ∷ t ∷ []) s ≡ true → IsUtf8 s
of_two s r t h₁ h₂ h₃ h₄ f =
    let p = next_byte r (t ∷ []) s f in
    let q = next_byte t [] p.1 p.5 in
    let x = p.0 in
    let y = q.0 in
    let x₁ = p.3 in
    let x₂ = p.4 in
    let y₁ = q.3 in
    let y₂ = q.4 in
    let e : s ≡ x ∷ y ∷ [] = p.2 ∙ ap (λ z. x ∷ z) (q.2 ∙ ap (λ z. y ∷ z) (no_byte q.1 q.5)) in
    let c = (x - 192) * 64 + (y - 128) in
    let a : x ≡ 192 + c / 64 = omega arith in
    let b : y ≡ next c = omega arith in
    is_char s c (low_scalar c (omega arith)) (e ∙ ((λ i. a i ∷ b i ∷ []) ∙ sym (two c (omega arith) (omega arith))))

abbrev Follows : ℕ → Type 0
Follows x = (0x80 ≤ x) × (x ≤ 0xBF)

three_bytes : (x y z : ℕ) → 0xE0 ≤ x → x ≤ 0xEF → Follows y → Follows z → let c = (x - 224) * 4096 + (y - 128) * 64 + (z - 128) in 2048 ≤ c → (c < 55296) ⊎ (57344 ≤ c) → IsUtf8 (x ∷ y ∷ z ∷ [])
three_bytes x y z l h f g low apart =
    let c = (x - 224) * 4096 + (y - 128) * 64 + (z - 128) in
    let a : x ≡ 224 + c / 4096 = omega arith in
    let b : y ≡ next (c / 64) = omega arith in
    let d : z ≡ next c = omega arith in
    is_char (x ∷ y ∷ z ∷ []) c (⊎_elim (low_scalar c) (λ k. high_scalar c k (omega arith)) apart)
    ((λ i. a i ∷ b i ∷ d i ∷ []) ∙ sym (three c low (omega arith)))

four_bytes : (x y z w : ℕ) → 0xF0 ≤ x → Follows y → Follows z → Follows w → let high = (x - 240) * 64 + (y - 128) in 16 ≤ high → high < 272 → IsUtf8 (x ∷ y ∷ z ∷ w ∷ [])
four_bytes x y z w l f g h low top =
    let c = (x - 240) * 262144 + (y - 128) * 4096 + (z - 128) * 64 + (w - 128) in
    let a : x ≡ 240 + c / 262144 = omega arith in
    let b : y ≡ next (c / 4096) = omega arith in
    let m : c / 64 ≡ (x - 240) * 4096 + (y - 128) * 64 + (z - 128) = omega arith in
    let d : z ≡ next (c / 64) = subst (λ (k : ℕ). z ≡ next k) (sym m) (omega arith) in
    let e : w ≡ next c = omega arith in
    is_char (x ∷ y ∷ z ∷ w ∷ []) c (high_scalar c (omega arith) (omega arith))
    ((λ i. a i ∷ b i ∷ d i ∷ e i ∷ []) ∙ sym (four c (omega arith)))

-- the bytes of a row with three or four ranges, which hold what P asks of them
three_in : (s : List ℕ) (r t u : Range) → fits (r ∷ t ∷ u ∷ []) s ≡ true
    → ((x y z : ℕ) → (r.from ≤ x) × (x ≤ r.to) → (t.from ≤ y) × (y ≤ t.to) → (u.from ≤ z) × (z ≤ u.to) → IsUtf8 (x ∷ y ∷ z ∷ [])) → IsUtf8 s
three_in s r t u f k =
    let p = next_byte r (t ∷ u ∷ []) s f in
    let q = next_byte t (u ∷ []) p.1 p.5 in
    let o = next_byte u [] q.1 q.5 in
    let e : s ≡ p.0 ∷ q.0 ∷ o.0 ∷ [] = p.2 ∙ ap (λ l. p.0 ∷ l) (q.2 ∙ ap (λ l. q.0 ∷ l) (o.2 ∙ ap (λ l. o.0 ∷ l) (no_byte o.1 o.5))) in
    subst IsUtf8 (sym e) (k p.0 q.0 o.0 (p.3, p.4) (q.3, q.4) (o.3, o.4))

four_in : (s : List ℕ) (r t u v : Range) → fits (r ∷ t ∷ u ∷ v ∷ []) s ≡ true
    → ((x y z w : ℕ) → (r.from ≤ x) × (x ≤ r.to) → (t.from ≤ y) × (y ≤ t.to) → (u.from ≤ z) × (z ≤ u.to) → (v.from ≤ w) × (w ≤ v.to) → IsUtf8 (x ∷ y ∷ z ∷ w ∷ [])) → IsUtf8 s
four_in s r t u v f k =
    let p = next_byte r (t ∷ u ∷ v ∷ []) s f in
    let q = next_byte t (u ∷ v ∷ []) p.1 p.5 in
    let o = next_byte u (v ∷ []) q.1 q.5 in
    let n = next_byte v [] o.1 o.5 in
    let e : s ≡ p.0 ∷ q.0 ∷ o.0 ∷ n.0 ∷ [] = p.2 ∙ ap (λ l. p.0 ∷ l) (q.2 ∙ ap (λ l. q.0 ∷ l) (o.2 ∙ ap (λ l. o.0 ∷ l) (n.2 ∙ ap (λ l. n.0 ∷ l) (no_byte n.1 n.5)))) in
    subst IsUtf8 (sym e) (k p.0 q.0 o.0 n.0 (p.3, p.4) (q.3, q.4) (o.3, o.4) (n.3, n.4))

low_three : (s : List ℕ) (r t : Range) → 0xE0 ≤ r.from → r.to ≤ 0xED → 0x80 ≤ t.from → t.to ≤ 0xBF → 32 ≤ (r.from - 0xE0) * 64 + (t.from - 0x80) → (r.to - 0xE0) * 64 + (t.to - 0x80) < 864 → fits (r ∷ t ∷ 0x80 to 0xBF ∷ []) s ≡ true → IsUtf8 s
low_three s r t h₁ h₂ h₃ h₄ low top f =
    three_in s r t (0x80 to 0xBF) f (λ x y z a b d. three_bytes x y z (omega arith) (omega arith) (omega arith, omega arith) d (omega arith) (inl (omega arith)))

any_four : (s : List ℕ) (r t : Range) → 0xF0 ≤ r.from → r.to ≤ 0xF4 → 0x80 ≤ t.from → t.to ≤ 0xBF → 16 ≤ (r.from - 0xF0) * 64 + (t.from - 0x80) → (r.to - 0xF0) * 64 + (t.to - 0x80) < 272 → fits (r ∷ t ∷ 0x80 to 0xBF ∷ 0x80 to 0xBF ∷ []) s ≡ true → IsUtf8 s
any_four s r t h₁ h₂ h₃ h₄ low top f =
    four_in s r t (0x80 to 0xBF) (0x80 to 0xBF) f (λ x y z w a b d e. four_bytes x y z w (omega arith) (omega arith, omega arith) d e (omega arith) (omega arith))

sequence_utf8 : (s : List ℕ) → one_of table s ≡ true → IsUtf8 s
sequence_utf8 s f =
    by (of_one s (0x00 to 0x7F) (lit≤ tt))
    (by (of_two s (0xC2 to 0xDF) (0x80 to 0xBF) (lit≤ tt) (lit≤ tt) (lit≤ tt) (lit≤ tt))
    (by (low_three s (0xE0 to 0xE0) (0xA0 to 0xBF) (lit≤ tt) (lit≤ tt) (lit≤ tt) (lit≤ tt) (lit≤ tt) (lit< tt))
    (by (low_three s (0xE1 to 0xEC) (0x80 to 0xBF) (lit≤ tt) (lit≤ tt) (lit≤ tt) (lit≤ tt) (lit≤ tt) (lit< tt))
    (by (low_three s (0xED to 0xED) (0x80 to 0x9F) (lit≤ tt) (lit≤ tt) (lit≤ tt) (lit≤ tt) (lit≤ tt) (lit< tt))
    (by (λ g. three_in s (0xEE to 0xEF) (0x80 to 0xBF) (0x80 to 0xBF) g (λ x y z a b d. three_bytes x y z (omega arith) (omega arith) b d (omega arith) (inr (omega arith))))
    (by (any_four s (0xF0 to 0xF0) (0x90 to 0xBF) (lit≤ tt) (lit≤ tt) (lit≤ tt) (lit≤ tt) (lit≤ tt) (lit< tt))
    (by (any_four s (0xF1 to 0xF3) (0x80 to 0xBF) (lit≤ tt) (lit≤ tt) (lit≤ tt) (lit≤ tt) (lit≤ tt) (lit< tt))
    (by (any_four s (0xF4 to 0xF4) (0x80 to 0x8F) (lit≤ tt) (lit≤ tt) (lit≤ tt) (lit≤ tt) (lit≤ tt) (lit< tt)) (λ g. absurd (false≢true g)))))))))) f
  where
    by : {x y : Bool} → (x ≡ true → IsUtf8 s) → (y ≡ true → IsUtf8 s) → (x || y) ≡ true → IsUtf8 s
    by {x} {y} p q h = ⊎_elim p q (or_cases x y h)

pub utf8_from_well_formed : (bs : List ℕ) → WellFormed bs → IsUtf8 bs
utf8_from_well_formed bs w = subst IsUtf8 w.1.1 (go w.0 w.1.0)
  where
    go : (ss : List (List ℕ)) → sequences ss ≡ true → IsUtf8 (joined ss)
    go [] f = IsUtf8-nil
    go (s ∷ ss) f = let p = and_parts (one_of table s) (sequences ss) f in IsUtf8-append s (joined ss) (sequence_utf8 s p.0) (go ss p.1)

-- ---- a character is a sequence

fits_more : (r : Range) (rs : List Range) (a : ℕ) (s : List ℕ) → r.from ≤ a → a ≤ r.to → fits rs s ≡ true → fits (r ∷ rs) (a ∷ s) ≡ true
fits_more r rs a s l h f =
    and_from (inside r a) (fits rs s) (and_from (leb r.from a) (leb a r.to) (le-leb r.from a l) (le-leb a r.to h)) f

at_row : (rows : List (List Range)) (k : ℕ) (s : List ℕ) → k < length rows → fits (get_or rows k []) s ≡ true → one_of rows s ≡ true
at_row [] k s h f = absurd (not-suc-le-zero h)
at_row (row ∷ rows) zero s h f = or_left (fits row s) (one_of rows s) f
at_row (row ∷ rows) (suc k) s h f = or_right (fits row s) (one_of rows s) (at_row rows k s (le_of_suc-le-suc h) f)

follow : (c : ℕ) (rs : List Range) (s : List ℕ) → fits rs s ≡ true → fits (0x80 to 0xBF ∷ rs) (next c ∷ s) ≡ true
follow c rs s f = fits_more (0x80 to 0xBF) rs (next c) s (omega arith) (omega arith) f

two_row : (c : ℕ) → 128 ≤ c → c < 2048 → one_of table ((192 + c / 64) ∷ next c ∷ []) ≡ true
two_row c l h =
    at_row table 1 ((192 + c / 64) ∷ next c ∷ []) (lit< tt) (fits_more (0xC2 to 0xDF) (0x80 to 0xBF ∷ []) (192 + c / 64) (next c ∷ []) (omega arith) (omega arith) (follow c [] [] refl))

-- in a row of three or four ranges, whose first two hold the first two bytes
three_row : (c k : ℕ) (r t : Range) → k < 9 → get_or table k [] ≡ r ∷ t ∷ 0x80 to 0xBF ∷ [] → (r.from ≤ 224 + c / 4096) × (224 + c / 4096 ≤ r.to) → (t.from ≤ next (c / 64)) × (next (c / 64) ≤ t.to) → one_of table ((224 + c / 4096) ∷ next (c / 64) ∷ next c ∷ []) ≡ true
three_row c k r t h e p q =
    at_row table k _ h
    (subst (λ (row : List Range). fits row ((224 + c / 4096) ∷ next (c / 64) ∷ next c ∷ []) ≡ true) (sym e)
    (fits_more r (t ∷ 0x80 to 0xBF ∷ []) (224 + c / 4096) (next (c / 64) ∷ next c ∷ []) p.0 p.1
    (fits_more t (0x80 to 0xBF ∷ []) (next (c / 64)) (next c ∷ []) q.0 q.1 (follow c [] [] refl))))

four_row : (c k : ℕ) (r t : Range) → k < 9 → get_or table k [] ≡ r ∷ t ∷ 0x80 to 0xBF ∷ 0x80 to 0xBF ∷ [] → (r.from ≤ 240 + c / 262144) × (240 + c / 262144 ≤ r.to) → (t.from ≤ next (c / 4096)) × (next (c / 4096) ≤ t.to) → one_of table ((240 + c / 262144) ∷ next (c / 4096) ∷ next (c / 64) ∷ next c ∷ []) ≡ true
four_row c k r t h e p q =
    at_row table k _ h
    (subst (λ (row : List Range). fits row ((240 + c / 262144) ∷ next (c / 4096) ∷ next (c / 64) ∷ next c ∷ []) ≡ true) (sym e)
    (fits_more r (t ∷ 0x80 to 0xBF ∷ 0x80 to 0xBF ∷ []) (240 + c / 262144) (next (c / 4096) ∷ next (c / 64) ∷ next c ∷ []) p.0 p.1
    (fits_more t (0x80 to 0xBF ∷ 0x80 to 0xBF ∷ []) (next (c / 4096)) (next (c / 64) ∷ next c ∷ []) q.0 q.1 (follow (c / 64) (0x80 to 0xBF ∷ []) (next c ∷ []) (follow c [] [] refl)))))

three_low : (c : ℕ) → 2048 ≤ c → c < 55296 → one_of table ((224 + c / 4096) ∷ next (c / 64) ∷ next c ∷ []) ≡ true
three_low c l h =
    ⊎_elim (λ k. three_row c 2 (0xE0 to 0xE0) (0xA0 to 0xBF) (lit< tt) refl (omega arith, omega arith) (omega arith, omega arith))
    (λ k. ⊎_elim (λ m. three_row c 3 (0xE1 to 0xEC) (0x80 to 0xBF) (lit< tt) refl (omega arith, omega arith) (omega arith, omega arith)) (λ m. three_row c 4 (0xED to 0xED) (0x80 to 0x9F) (lit< tt) refl (omega arith, omega arith) (omega arith, omega arith)) (cases_lt c 0xD000))
    (cases_lt c 4096)

four_all : (c : ℕ) → 65536 ≤ c → c < 1114112 → one_of table ((240 + c / 262144) ∷ next (c / 4096) ∷ next (c / 64) ∷ next c ∷ []) ≡ true
four_all c l h =
    ⊎_elim (λ k. four_row c 6 (0xF0 to 0xF0) (0x90 to 0xBF) (lit< tt) refl (omega arith, omega arith) (omega arith, omega arith))
    (λ k. ⊎_elim (λ m. four_row c 7 (0xF1 to 0xF3) (0x80 to 0xBF) (lit< tt) refl (omega arith, omega arith) (omega arith, omega arith)) (λ m. four_row c 8 (0xF4 to 0xF4) (0x80 to 0x8F) (lit< tt) refl (omega arith, omega arith) (omega arith, omega arith)) (cases_lt c 0x100000))
    (cases_lt c 0x40000)

char_sequence : (c : ℕ) → scalar c ≡ true → one_of table (encode c) ≡ true
char_sequence c h = go (cases_lt c 128) (cases_lt c 2048) (cases_lt c 65536) (scalar_cases c h)
  where
    is : (s : List ℕ) → encode c ≡ s → one_of table s ≡ true → one_of table (encode c) ≡ true
    is s e f = ap (one_of table) e ∙ f

    go : (c < 128) ⊎ (128 ≤ c) → (c < 2048) ⊎ (2048 ≤ c) → (c < 65536) ⊎ (65536 ≤ c) → (c < 55296) ⊎ ((57344 ≤ c) × (c < 1114112)) → one_of table (encode c) ≡ true
    go (inl k) _ _ _ = is (c ∷ []) (encode_ascii c k) (at_row table 0 (c ∷ []) (lit< tt) (fits_more (0x00 to 0x7F) [] c [] (omega arith) (omega arith) refl))
    go (inr l) (inl k) _ _ = is _ (two c l k) (two_row c l k)
    go (inr _) (inr l) (inl k) (inl m) = is _ (three c l k) (three_low c l m)
    go (inr _) (inr l) (inl k) (inr m) = is _ (three c l k) (three_row c 5 (0xEE to 0xEF) (0x80 to 0xBF) (lit< tt) refl (omega arith, omega arith) (omega arith, omega arith))
    go (inr _) (inr _) (inr l) (inl m) = absurd (omega arith)
    go (inr _) (inr _) (inr l) (inr m) = is _ (four c l) (four_all c l m.1)

pub well_formed_from_utf8 : (bs : List ℕ) → IsUtf8 bs → WellFormed bs
well_formed_from_utf8 bs u = (map encode u.0, (go u.0 u.1.0, same u.0 ∙ u.1.1))
  where
    go : (cs : List ℕ) → scalars cs ≡ true → sequences (map encode cs) ≡ true
    go [] f = refl
    go (c ∷ cs) f = let p = and_parts (scalar c) (scalars cs) f in and_from (one_of table (encode c)) (sequences (map encode cs)) (char_sequence c p.0) (go cs p.1)

    same : (cs : List ℕ) → joined (map encode cs) ≡ encodes cs
    same [] = refl
    same (c ∷ cs) = ap (λ l. encode c ++ l) (same cs)
