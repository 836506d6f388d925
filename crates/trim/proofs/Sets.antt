-- What `str::contains` answers of a character is whether it is one of the text's characters.
use Rattle.std.proofs.Common.{◌≡◌, ℕ, ◌≤◌, Bool, true, false, eqb, List, [], ◌∷◌, ◌++◌, length, drop, Some, None, IsUtf8, MatchBool, sym, refl, ◌∙◌, subst, append_assoc}
use lib.Utf8.{encode, encodes}
use Rattle.std.specs.Char.{char_set_contains}
use Rattle.std.specs.Str.Pattern.{FindsChar}
use Rattle.std.specs.Str.{NonePass, chars}
use Rattle.std.proofs.lemmas.List.{take-append-drop}
use Rattle.std.proofs.lemmas.Bool.{or_left, or_right, or_from, eq-eqb}
use Rattle.std.proofs.lemmas.Str.{chars_from_encodes, encodes-chars, cons_from_encodes}

-- a character past some others
among_past : (front cs rest : List ℕ) (c : ℕ) → encodes cs ≡ encodes front ++ (encode c ++ rest) → char_set_contains cs c ≡ true
among_past [] cs rest c e =
    let h = cons_from_encodes cs rest c e in
    rw h.1 (or_left (eqb c c) (char_set_contains h.0 c) (eq-eqb c c refl))
among_past (d ∷ front) cs rest c e =
    let h = cons_from_encodes cs (encodes front ++ (encode c ++ rest)) d (e ∙ append_assoc (encode d) (encodes front) (encode c ++ rest)) in
    rw h.1 (or_right (eqb d c) (char_set_contains h.0 c) (among_past front h.0 rest c h.2))

among_none : (cs : List ℕ) (c : ℕ) → NonePass (λ d. eqb d c) cs → char_set_contains cs c ≡ false
among_none [] c h = refl
among_none (d ∷ cs) c h = or_from (eqb d c) (char_set_contains cs c) h.0 (among_none cs c h.1)

pub contains_among : (set : List ℕ) (c : ℕ) (r : Bool) → IsUtf8 set → MatchBool r ((i : ℕ) × (j : ℕ) × FindsChar c set (Some (i, j)) × (i ≤ j) × (j ≤ length set)) (FindsChar c set None) → r ≡ char_set_contains (chars set) c
contains_among set c true u (i, j, (w, at), h, k) =
    sym (among_past w.0 (chars set) (drop j set) c (encodes-chars set u ∙ (sym (take-append-drop i set) ∙ (λ t. sym w.1 t ++ at.split t))))
contains_among set c false u w = sym (subst (λ cs. char_set_contains cs c ≡ false) (chars_from_encodes w.0 set u w.1) (among_none w.0 c w.2))
