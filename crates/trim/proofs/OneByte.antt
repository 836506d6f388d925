-- A set of one ASCII character: its byte is part of no other character, so the bytes tell the longest head and tail.
use Rattle.std.proofs.Common.{◌≡◌, ℕ, ◌+◌, ◌-◌, ◌<◌, ◌≤◌, Bool, true, false, cond, eqb, ltb, List, [], ◌∷◌, ◌++◌, reverse, length, get_or, IsUtf8, sym, refl, ap, ◌∙◌, subst, ⊎_elim, arith, length-append}
use lib.Utf8.{encode, encodes}
use Rattle.std.specs.Char.{char_set_contains, len_utf8}
use Rattle.std.specs.List.{prefix_len, suffix_len}
use Rattle.std.specs.Str.{chars}
use Rattle.std.proofs.lemmas.List.{append-nil, reverse-append, reverse-reverse, get_or-reverse, get_or-append-add}
use Rattle.std.proofs.lemmas.Bool.{cases_eq, cases_lt, eq-eqb, ne_eqb, or_left, or_from, le-ltb}
use Rattle.std.proofs.lemmas.Str.{encode_ascii, encodes-chars, chars_from_encodes, length-encode, len_utf8_bounds, byte_from_char, char_from_byte, inside_one}
use Rattle.trim.specs.Ends.{longest_head, longest_tail, head_size, tail_size}
use Rattle.trim.proofs.Heads.{longest_head_in, longest_head_out}
use Rattle.trim.proofs.Tails.{longest_tail_in, longest_tail_out, ending_push, encodes_push}

-- a text of one byte is one ASCII character
wide : (x y : Bool) → 2 ≤ cond x 2 (cond y 3 4)
wide true y = omega arith
wide false true = omega arith
wide false false = omega arith

ascii_from_encodes : (cs : List ℕ) (b : ℕ) → encodes cs ≡ b ∷ [] → b < 128
ascii_from_encodes [] b e = absurd (omega (arith, ap length e))
ascii_from_encodes (c ∷ cs) b e =
    ⊎_elim (λ h. omega (arith, byte_from_char (b ∷ []) (encodes cs) c (sym e) h))
    (λ h.
    let w : 2 ≤ len_utf8 c = rw (le-ltb c 128 h) (wide (ltb c 2048) (ltb c 65536)) in
    let n : length (encode c) + length (encodes cs) ≡ 1 = sym (length-append (encode c) (encodes cs)) ∙ ap length e in
    absurd (omega (arith, length-encode c)))
    (cases_lt c 128)

pub ascii_of_one : (b : ℕ) → IsUtf8 (b ∷ []) → b < 128
ascii_of_one b u = ascii_from_encodes u.0 b u.1.1

among_yes : (b c : ℕ) → c ≡ b → char_set_contains (b ∷ []) c ≡ true
among_yes b c e = or_left (eqb b c) false (eq-eqb b c (sym e))

among_no : (b c : ℕ) → (c ≡ b → ⊥) → char_set_contains (b ∷ []) c ≡ false
among_no b c n = or_from (eqb b c) false (ne_eqb b c (λ e. n (sym e))) refl

leading_none : (q : ℕ → Bool) (bs : List ℕ) → (0 < length bs → q (get_or bs 0 0) ≡ false) → prefix_len q bs ≡ 0
leading_none q [] h = refl
leading_none q (x ∷ bs) h = rw (h (omega arith))

-- heads
head_of_one : (b : ℕ) (cs : List ℕ) → b < 128 → prefix_len (λ x. eqb x b) (encodes cs) ≡ length (encodes (longest_head (char_set_contains (b ∷ [])) cs))
head_of_one b [] h = refl
head_of_one b (c ∷ cs) h =
    ⊎_elim
    (λ e.
    let one : encode c ≡ c ∷ [] = encode_ascii c (omega arith) in
    ap (λ bs. prefix_len (λ x. eqb x b) (bs ++ encodes cs)) one
    ∙ (ap (λ t. cond t (1 + prefix_len (λ x. eqb x b) (encodes cs)) 0) (eq-eqb c b e)
    ∙ (ap (λ n. 1 + n) (head_of_one b cs h)
    ∙ (sym (length-append (c ∷ []) (encodes (longest_head (char_set_contains (b ∷ [])) cs)))
    ∙ (ap (λ bs. length (bs ++ encodes (longest_head (char_set_contains (b ∷ [])) cs))) (sym one)
    ∙ ap (λ ds. length (encodes ds)) (sym (longest_head_in (char_set_contains (b ∷ [])) c cs (among_yes b c e))))))))
    (λ n.
    let bs = encode c ++ encodes cs in
    leading_none (λ x. eqb x b) bs (λ l. ne_eqb (get_or bs 0 0) b (λ e. n (char_from_byte bs (encodes cs) c refl (omega arith) l ∙ e)))
    ∙ ap (λ ds. length (encodes ds)) (sym (longest_head_out (char_set_contains (b ∷ [])) c cs (among_no b c n))))
    (cases_eq c b)

-- tails: the characters from the last to the first
last_byte : (b c : ℕ) (xs : List ℕ) → b < 128 → (c ≡ b → ⊥) → suffix_len (λ x. eqb x b) (xs ++ encode c) ≡ 0
last_byte b c xs h n =
    let bs = xs ++ encode c in
    let k = length (encode c) - 1 in
    let w = (len_utf8_bounds c).0 in
    let long : length bs ≡ length xs + length (encode c) = length-append xs (encode c) in
    let i : length bs - 1 - 0 ≡ length xs + k = omega (arith, length-encode c) in
    let at : get_or (reverse bs) 0 0 ≡ get_or (encode c) k 0 = get_or-reverse bs 0 0 (omega (arith, length-encode c)) ∙ (ap (λ (j : ℕ). get_or bs j 0) i ∙ get_or-append-add xs (encode c) k 0) in
    leading_none (λ x. eqb x b) (reverse bs)
    (λ l. ne_eqb (get_or (reverse bs) 0 0) b (λ e. n (inside_one c [] (encode c) k (sym (append-nil (encode c))) (omega (arith, length-encode c)) (omega (arith, at)) ∙ (sym at ∙ e))))

tail_of_last : (b c : ℕ) (cs : List ℕ) → b < 128 → suffix_len (λ x. eqb x b) (encodes cs) ≡ length (encodes (longest_tail (char_set_contains (b ∷ [])) cs)) → suffix_len (λ x. eqb x b) (encodes (cs ++ c ∷ [])) ≡ length (encodes (longest_tail (char_set_contains (b ∷ [])) (cs ++ c ∷ [])))
tail_of_last b c cs h more =
    ⊎_elim
    (λ e.
    let one : encode c ≡ c ∷ [] = encode_ascii c (omega arith) in
    let kept = longest_tail (char_set_contains (b ∷ [])) cs in
    let x : suffix_len (λ x. eqb x b) (encodes (cs ++ c ∷ [])) ≡ 1 + suffix_len (λ x. eqb x b) (encodes cs) =
    ap (suffix_len (λ x. eqb x b)) (encodes_push cs c ∙ ap (λ bs. encodes cs ++ bs) one)
    ∙ (ending_push (λ x. eqb x b) (encodes cs) c ∙ ap (λ t. cond t (1 + suffix_len (λ x. eqb x b) (encodes cs)) 0) (eq-eqb c b e)) in
    let y : length (encodes (longest_tail (char_set_contains (b ∷ [])) (cs ++ c ∷ []))) ≡ length (encodes kept) + 1 =
    ap (λ ds. length (encodes ds)) (longest_tail_in (char_set_contains (b ∷ [])) cs c (among_yes b c e))
    ∙ (ap length (encodes_push kept c ∙ ap (λ bs. encodes kept ++ bs) one) ∙ length-append (encodes kept) (c ∷ [])) in
    omega (arith, x, y, more))
    (λ n.
    ap (suffix_len (λ x. eqb x b)) (encodes_push cs c)
    ∙ (last_byte b c (encodes cs) h n ∙ ap (λ ds. length (encodes ds)) (sym (longest_tail_out (char_set_contains (b ∷ [])) cs c (among_no b c n)))))
    (cases_eq c b)

tail_of_reverse : (b : ℕ) (ds : List ℕ) → b < 128 → suffix_len (λ x. eqb x b) (encodes (reverse ds)) ≡ length (encodes (longest_tail (char_set_contains (b ∷ [])) (reverse ds)))
tail_of_reverse b [] h = refl
tail_of_reverse b (c ∷ ds) h =
    subst (λ cs. suffix_len (λ x. eqb x b) (encodes cs) ≡ length (encodes (longest_tail (char_set_contains (b ∷ [])) cs))) (sym (reverse-append (c ∷ []) ds))
    (tail_of_last b c (reverse ds) h (tail_of_reverse b ds h))

-- at the bytes of a row
set_of_one : (b : ℕ) → IsUtf8 (b ∷ []) → chars (b ∷ []) ≡ b ∷ []
set_of_one b u =
    let h = ascii_of_one b u in
    sym (chars_from_encodes (b ∷ []) (b ∷ []) u (append-nil (encode b) ∙ encode_ascii b h))

head_of_byte : (b : ℕ) (row : List ℕ) → IsUtf8 (b ∷ []) → IsUtf8 row → prefix_len (λ x. eqb x b) row ≡ head_size (b ∷ []) row
unfolding head_size
head_of_byte b row s u =
    ap (prefix_len (λ x. eqb x b)) (sym (encodes-chars row u))
    ∙ (head_of_one b (chars row) (ascii_of_one b s)
    ∙ ap (λ ds. length (encodes (longest_head (char_set_contains ds) (chars row)))) (sym (set_of_one b s)))

tail_of_byte : (b : ℕ) (row : List ℕ) → IsUtf8 (b ∷ []) → IsUtf8 row → suffix_len (λ x. eqb x b) row ≡ tail_size (b ∷ []) row
unfolding tail_size
tail_of_byte b row s u =
    let cs = chars row in
    ap (suffix_len (λ x. eqb x b)) (sym (encodes-chars row u))
    ∙ (subst (λ cs. suffix_len (λ x. eqb x b) (encodes cs) ≡ length (encodes (longest_tail (char_set_contains (b ∷ [])) cs))) (reverse-reverse cs) (tail_of_reverse b (reverse cs) (ascii_of_one b s))
    ∙ ap (λ ds. length (encodes (longest_tail (char_set_contains ds) cs))) (sym (set_of_one b s)))

pub head_size_one : (set row : List ℕ) → IsUtf8 set → IsUtf8 row → length set ≡ 1 → prefix_len (λ x. eqb x (get_or set 0 0)) row ≡ head_size set row
head_size_one [] row s u n = absurd (omega arith)
head_size_one (b ∷ []) row s u n = head_of_byte b row s u
head_size_one (b ∷ x ∷ set) row s u n = absurd (omega arith)

pub tail_size_one : (set row : List ℕ) → IsUtf8 set → IsUtf8 row → length set ≡ 1 → suffix_len (λ x. eqb x (get_or set 0 0)) row ≡ tail_size set row
tail_size_one [] row s u n = absurd (omega arith)
tail_size_one (b ∷ []) row s u n = tail_of_byte b row s u
tail_size_one (b ∷ x ∷ set) row s u n = absurd (omega arith)
