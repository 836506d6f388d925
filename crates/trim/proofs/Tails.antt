-- The longest tail of a text, one character back.
use Rattle.std.proofs.Common.{◌≡◌, ℕ, ◌+◌, ◌-◌, ◌/◌, ◌<◌, ◌≤◌, Bool, true, false, cond, ltb, List, [], ◌∷◌, ◌++◌, length, get_or, take, drop, IsUtf8, sym, refl, ap, ◌∙◌, subst, add-zero, arith, length-append}
use lib.Utf8.{encode, encodes, next}
use Rattle.std.specs.Char.{char_set_contains}
use Rattle.std.specs.Str.{IsCharBoundary, chars}
use Rattle.std.specs.List.{prefix_len, suffix_len}
use Rattle.std.proofs.lemmas.List.{nil_from_length, reverse-append, drop-append-le, append-nil, length_push, drop_all, take_at, get_or-append-add}
use Rattle.std.proofs.lemmas.Bool.{ltb-true}
use Rattle.std.proofs.lemmas.Str.{chars-nil, chars_from_encodes, encodes-chars, encodes-append, IsUtf8-take}
use Rattle.trim.specs.Ends.{longest_tail, tail_size}

-- a text may be cut before its last character
Leads : List ℕ → Type 0
Leads bs = (0 < length bs) × (128 ≤ get_or bs 0 0 → 192 ≤ get_or bs 0 0)

encode_leads : (c : ℕ) → Leads (encode c)
unfolding encode Leads
encode_leads c = go (ltb c 128) (ltb c 2048) (ltb c 65536) refl
  where
    go : (x y z : Bool) → ltb c 128 ≡ x → Leads (cond x (c ∷ []) (cond y ((192 + c / 64) ∷ next c ∷ []) (cond z ((224 + c / 4096) ∷ next (c / 64) ∷ next c ∷ []) ((240 + c / 262144) ∷ next (c / 4096) ∷ next (c / 64) ∷ next c ∷ []))))
    go true y z e = (omega arith, λ h. omega (arith, ltb-true c 128 e))
    go false true z e = (omega arith, λ h. omega arith)
    go false false true e = (omega arith, λ h. omega arith)
    go false false false e = (omega arith, λ h. omega arith)

pub utf8_before_char : (text rest : List ℕ) (c : ℕ) → IsUtf8 text → text ≡ rest ++ encode c → IsUtf8 rest
unfolding Leads
utf8_before_char text rest c u e =
    let l = encode_leads c in
    let at : get_or text (length rest) 0 ≡ get_or (encode c) 0 0 = ap (λ bs. get_or bs (length rest) 0) e ∙ (ap (λ (k : ℕ). get_or (rest ++ encode c) k 0) (sym (add-zero (length rest))) ∙ get_or-append-add rest (encode c) 0 0) in
    let n : length text ≡ length rest + length (encode c) = ap length e ∙ length-append rest (encode c) in
    let b : IsCharBoundary text (length rest) = (omega arith, λ _ h. omega (arith, at, l.1 (omega (arith, at)))) in
    subst IsUtf8 (ap (take (length rest)) e ∙ take_at rest (encode c) (length rest) refl) (IsUtf8-take text (length rest) u b)

-- one character more at the end
pub encodes_push : (cs : List ℕ) (c : ℕ) → encodes (cs ++ c ∷ []) ≡ encodes cs ++ encode c
encodes_push cs c = encodes-append cs (c ∷ []) ∙ ap (λ bs. encodes cs ++ bs) (append-nil (encode c))

decodes_before_char : (text rest : List ℕ) (c : ℕ) → IsUtf8 text → text ≡ rest ++ encode c → chars text ≡ chars rest ++ c ∷ []
decodes_before_char text rest c u e =
    let v = utf8_before_char text rest c u e in
    sym (chars_from_encodes (chars rest ++ c ∷ []) text u (encodes_push (chars rest) c ∙ (ap (λ bs. bs ++ encode c) (encodes-chars rest v) ∙ sym e)))

pub ending_push : (p : ℕ → Bool) (cs : List ℕ) (c : ℕ) → suffix_len p (cs ++ c ∷ []) ≡ cond (p c) (1 + suffix_len p cs) 0
ending_push p cs c = ap (prefix_len p) (reverse-append cs (c ∷ []))

pub longest_tail_in : (p : ℕ → Bool) (cs : List ℕ) (c : ℕ) → p c ≡ true → longest_tail p (cs ++ c ∷ []) ≡ longest_tail p cs ++ c ∷ []
longest_tail_in p cs c h =
    let e : suffix_len p (cs ++ c ∷ []) ≡ 1 + suffix_len p cs = ending_push p cs c ∙ ap (λ b. cond b (1 + suffix_len p cs) 0) h in
    let n : length (cs ++ c ∷ []) - suffix_len p (cs ++ c ∷ []) ≡ length cs - suffix_len p cs = omega (arith, e, length_push cs c) in
    ap (λ (k : ℕ). drop k (cs ++ c ∷ [])) n ∙ drop-append-le (length cs - suffix_len p cs) cs (c ∷ []) (omega arith)

pub longest_tail_out : (p : ℕ → Bool) (cs : List ℕ) (c : ℕ) → p c ≡ false → longest_tail p (cs ++ c ∷ []) ≡ []
longest_tail_out p cs c h =
    let e : suffix_len p (cs ++ c ∷ []) ≡ 0 = ending_push p cs c ∙ ap (λ b. cond b (1 + suffix_len p cs) 0) h in
    drop_all _ (cs ++ c ∷ []) (omega (arith, e))

pub tail_size_in : (set text rest : List ℕ) (c : ℕ) → IsUtf8 text → text ≡ rest ++ encode c → char_set_contains (chars set) c ≡ true → tail_size set text ≡ tail_size set rest + length (encode c)
unfolding tail_size
tail_size_in set text rest c u e h =
    let p = char_set_contains (chars set) in
    let tail = longest_tail p (chars rest) in
    ap (λ cs. length (encodes (longest_tail p cs))) (decodes_before_char text rest c u e)
    ∙ (ap (λ cs. length (encodes cs)) (longest_tail_in p (chars rest) c h)
    ∙ (ap length (encodes_push tail c) ∙ length-append (encodes tail) (encode c)))

pub tail_size_out : (set text rest : List ℕ) (c : ℕ) → IsUtf8 text → text ≡ rest ++ encode c → char_set_contains (chars set) c ≡ false → tail_size set text ≡ 0
unfolding tail_size
tail_size_out set text rest c u e h =
    let p = char_set_contains (chars set) in
    ap (λ cs. length (encodes (longest_tail p cs))) (decodes_before_char text rest c u e)
    ∙ ap (λ cs. length (encodes cs)) (longest_tail_out p (chars rest) c h)

pub tail_of_nothing : (set text : List ℕ) → length text ≡ 0 → tail_size set text ≡ 0
unfolding tail_size
tail_of_nothing set text h = rw (nil_from_length text h, chars-nil)
