-- The longest head of a text, one character on.
use Rattle.std.proofs.Common.{◌≡◌, ℕ, ◌+◌, Bool, true, false, List, [], ◌∷◌, ◌++◌, length, IsUtf8, ap, ◌∙◌, one-add, length-append}
use lib.Utf8.{encode, encodes}
use Rattle.std.specs.Char.{char_set_contains}
use Rattle.std.specs.Str.{chars}
use Rattle.std.proofs.lemmas.List.{nil_from_length}
use Rattle.std.proofs.lemmas.Str.{chars_past_char, chars-nil}
use Rattle.trim.specs.Ends.{longest_head, head_size}

pub longest_head_in : (p : ℕ → Bool) (c : ℕ) (cs : List ℕ) → p c ≡ true → longest_head p (c ∷ cs) ≡ c ∷ longest_head p cs
longest_head_in p c cs h = simp (h, one-add)

pub longest_head_out : (p : ℕ → Bool) (c : ℕ) (cs : List ℕ) → p c ≡ false → longest_head p (c ∷ cs) ≡ []
longest_head_out p c cs h = simp h

pub head_size_in : (set text rest : List ℕ) (c : ℕ) → IsUtf8 text → text ≡ encode c ++ rest → char_set_contains (chars set) c ≡ true → head_size set text ≡ length (encode c) + head_size set rest
unfolding head_size
head_size_in set text rest c u e h =
    let p = char_set_contains (chars set) in
    ap (λ cs. length (encodes (longest_head p cs))) (chars_past_char text rest c u e)
    ∙ (ap (λ cs. length (encodes cs)) (longest_head_in p c (chars rest) h) ∙ length-append (encode c) (encodes (longest_head p (chars rest))))

pub head_size_out : (set text rest : List ℕ) (c : ℕ) → IsUtf8 text → text ≡ encode c ++ rest → char_set_contains (chars set) c ≡ false → head_size set text ≡ 0
unfolding head_size
head_size_out set text rest c u e h =
    let p = char_set_contains (chars set) in
    ap (λ cs. length (encodes (longest_head p cs))) (chars_past_char text rest c u e)
    ∙ ap (λ cs. length (encodes cs)) (longest_head_out p c (chars rest) h)

pub head_of_nothing : (set text : List ℕ) → length text ≡ 0 → head_size set text ≡ 0
unfolding head_size
head_of_nothing set text h = rw (nil_from_length text h, chars-nil)
