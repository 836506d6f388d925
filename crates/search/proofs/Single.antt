-- A text of one byte is an ASCII character.
use Rattle.std.proofs.Common.{◌≡◌, ℕ, ◌+◌, ◌<◌, ◌≤◌, List, [], ◌∷◌, length, get_or, IsUtf8, sym, ap, ◌∙◌, inl, inr, arith, length-append}
use lib.Utf8.{encode, encodes}
use Rattle.std.specs.Char.{len_utf8}
use Rattle.std.proofs.lemmas.Bool.{cases_lt}
use Rattle.std.proofs.lemmas.Bool.Decides.{nat_tests}
use Rattle.std.proofs.lemmas.Str.{length-encode, byte_from_char}

wide : (c : ℕ) → 128 ≤ c → 2 ≤ len_utf8 c
wide c h = grind (arith, nat_tests)

pub one_is_ascii : (bs : List ℕ) → length bs ≡ 1 → IsUtf8 bs → get_or bs 0 0 < 128
one_is_ascii bs l u = go u.0 u.1.1
  where
    go : (cs : List ℕ) → encodes cs ≡ bs → get_or bs 0 0 < 128
    go [] e = absurd (omega (arith, ap length e))
    go (c ∷ cs) e = elim (cases_lt c 128) [
      | inl h ↦ let f = byte_from_char bs (encodes cs) c (sym e) h in omega arith
      | inr h ↦
          let w : 2 ≤ len_utf8 c = wide c h in
          let f : len_utf8 c + length (encodes cs) ≡ 1 = sym (ap (λ n. n + length (encodes cs)) (length-encode c)) ∙ (sym (length-append (encode c) (encodes cs)) ∙ (ap length e ∙ l)) in
          absurd (omega arith)
    ]
