-- The longest head and the longest tail are those that the rule names, and no others.
use Rattle.std.proofs.Common.{◌≡◌, ℕ, zero, suc, ◌+◌, ◌-◌, ◌≤◌, true, false, eqb, List, [], ◌∷◌, ◌++◌, reverse, length, take, drop, sym, refl, ap, ◌∙◌, subst, ⊎_elim, append_assoc, arith, length-append}
use Rattle.std.specs.Char.{char_set_contains}
use Rattle.std.specs.List.{ContainsAt as Has, prefix_len, suffix_len, AllByRecursion}
use Rattle.std.proofs.ByRecursion.{All-push}
use Rattle.std.proofs.lemmas.List.{reverse-append, reverse-reverse, take-append-drop, take_at, drop_at, length_push}
use Rattle.std.proofs.lemmas.Bool.{both_ways, cases_Bool, or_cases, or_left, or_right, eq-eqb, eqb-true}
use Rattle.trim.specs.Ends.{longest_head, past_head, longest_tail, before_tail}
use Rattle.trim.specs.Rule.{LongestHead, LongestTail}
use Rattle.trim.proofs.Heads.{longest_head_in, longest_head_out}
use Rattle.trim.proofs.Tails.{longest_tail_in, longest_tail_out}

-- the test and the fact
pub among_has : (set : List ℕ) (c : ℕ) → char_set_contains set c ≡ true → Has set c
among_has [] c h = absurd (both_ways false refl h)
among_has (d ∷ set) c h =
    ⊎_elim (λ e. (0, omega arith, λ _. eqb-true d c e))
    (λ e. let m = among_has set c e in (suc m.0, omega (arith, m.1), m.2))
    (or_cases (eqb d c) (char_set_contains set c) h)

pub has_among : (set : List ℕ) (c : ℕ) → Has set c → char_set_contains set c ≡ true
has_among [] c (k, l, h) = absurd (omega arith)
has_among (d ∷ set) c (zero, l, h) = or_left (eqb d c) (char_set_contains set c) (eq-eqb d c (h 0))
has_among (d ∷ set) c (suc k, l, h) = or_right (eqb d c) (char_set_contains set c) (has_among set c (k, omega arith, h))

all_parts : (P : ℕ → Type 0) (xs ys : List ℕ) → AllByRecursion P (xs ++ ys) → AllByRecursion P xs × AllByRecursion P ys
all_parts P [] ys a = (tt, a)
all_parts P (x ∷ xs) ys a = let b = all_parts P xs ys a.1 in ((a.0, b.0), b.1)

-- heads
head_made : (set cs : List ℕ) → AllByRecursion (Has set) (longest_head (char_set_contains set) cs)
head_made set [] = tt
head_made set (c ∷ cs) =
    ⊎_elim (λ h. rw (longest_head_in (char_set_contains set) c cs h) (among_has set c h, head_made set cs))
    (λ h. rw (longest_head_out (char_set_contains set) c cs h) tt)
    (cases_Bool (char_set_contains set c))

head_most : (set other rest : List ℕ) → AllByRecursion (Has set) other → length other ≤ length (longest_head (char_set_contains set) (other ++ rest))
head_most set [] rest a = omega arith
head_most set (c ∷ other) rest a =
    rw (longest_head_in (char_set_contains set) c (other ++ rest) (has_among set c a.0)) (omega (arith, head_most set other rest a.1))

pub head_is_longest : (set cs : List ℕ) → LongestHead set cs (longest_head (char_set_contains set) cs)
head_is_longest set cs = record {
  begins = (past_head (char_set_contains set) cs, sym (take-append-drop (prefix_len (char_set_contains set) cs) cs));
  made = head_made set cs;
  longest = λ other rest e a. subst (λ ds. length other ≤ length (longest_head (char_set_contains set) ds)) (sym e) (head_most set other rest a);
}

pub head_unique : (set cs a b : List ℕ) → LongestHead set cs a → LongestHead set cs b → a ≡ b
head_unique set cs a b x y =
    let long = y.longest a x.begins.0 x.begins.1 x.made in
    let short = x.longest b y.begins.0 y.begins.1 y.made in
    let n : length a ≡ length b = omega arith in
    sym (take_at a x.begins.0 (length b) n) ∙ (ap (take (length b)) (sym x.begins.1 ∙ y.begins.1) ∙ take_at b y.begins.0 (length b) refl)

-- tails, by the characters from the last to the first
back : (c : ℕ) (ds : List ℕ) → reverse ds ++ c ∷ [] ≡ reverse (c ∷ ds)
back c ds = sym (reverse-append (c ∷ []) ds)

tail_made : (set ds : List ℕ) → AllByRecursion (Has set) (longest_tail (char_set_contains set) (reverse ds))
tail_made set [] = tt
tail_made set (c ∷ ds) =
    subst (λ cs. AllByRecursion (Has set) (longest_tail (char_set_contains set) cs)) (back c ds)
    (⊎_elim (λ h. rw (longest_tail_in (char_set_contains set) (reverse ds) c h) (All-push (Has set) (longest_tail (char_set_contains set) (reverse ds)) c (tail_made set ds) (among_has set c h)))
    (λ h. rw (longest_tail_out (char_set_contains set) (reverse ds) c h) tt)
    (cases_Bool (char_set_contains set c)))

tail_most : (set ds rest : List ℕ) → AllByRecursion (Has set) (reverse ds) → length (reverse ds) ≤ length (longest_tail (char_set_contains set) (rest ++ reverse ds))
tail_most set [] rest a = omega arith
tail_most set (c ∷ ds) rest a =
    let b = all_parts (Has set) (reverse ds) (c ∷ []) (subst (AllByRecursion (Has set)) (sym (back c ds)) a) in
    let front = rest ++ reverse ds in
    let more : longest_tail (char_set_contains set) (front ++ c ∷ []) ≡ longest_tail (char_set_contains set) front ++ c ∷ [] = longest_tail_in (char_set_contains set) front c (has_among set c b.1.0) in
    let here : length (longest_tail (char_set_contains set) (rest ++ (reverse ds ++ c ∷ []))) ≡ length (longest_tail (char_set_contains set) front) + 1 =
    ap (λ cs. length (longest_tail (char_set_contains set) cs)) (sym (append_assoc rest (reverse ds) (c ∷ [])))
    ∙ (ap length more ∙ length_push (longest_tail (char_set_contains set) front) c) in
    let below : length (reverse ds) ≤ length (longest_tail (char_set_contains set) front) = tail_most set ds rest b.0 in
    subst (λ xs. length xs ≤ length (longest_tail (char_set_contains set) (rest ++ xs))) (back c ds) (omega (arith, length_push (reverse ds) c, here, below))

pub tail_is_longest : (set cs : List ℕ) → LongestTail set cs (longest_tail (char_set_contains set) cs)
tail_is_longest set cs = record {
  closes = (before_tail (char_set_contains set) cs, sym (take-append-drop (length cs - suffix_len (char_set_contains set) cs) cs));
  made = subst (λ ds. AllByRecursion (Has set) (longest_tail (char_set_contains set) ds)) (reverse-reverse cs) (tail_made set (reverse cs));
  longest = λ other rest e a.
      let r = reverse-reverse other in
      subst (λ ds. length other ≤ length (longest_tail (char_set_contains set) ds)) (sym e)
      (subst (λ ds. length ds ≤ length (longest_tail (char_set_contains set) (rest ++ ds))) r (tail_most set (reverse other) rest (subst (AllByRecursion (Has set)) (sym r) a)));
}

pub tail_unique : (set cs a b : List ℕ) → LongestTail set cs a → LongestTail set cs b → a ≡ b
tail_unique set cs a b x y =
    let long = y.longest a x.closes.0 x.closes.1 x.made in
    let short = x.longest b y.closes.0 y.closes.1 y.made in
    let r = x.closes.0 in
    let s = y.closes.0 in
    let e : r ++ a ≡ s ++ b = sym x.closes.1 ∙ y.closes.1 in
    let n : length r ≡ length s = omega (arith, ap length e, length-append r a, length-append s b) in
    sym (drop_at r a (length s) n) ∙ (ap (drop (length s)) e ∙ drop_at s b (length s) refl)
