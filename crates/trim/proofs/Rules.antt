-- The definition meets the rule, and the rule leaves no other answer.
use Rattle.std.proofs.Common.{◌≡◌, ℕ, ◌≤◌, Bool, true, false, List, [], ◌∷◌, ◌++◌, length, IsUtf8, MatchBool, sym, refl, ap, ◌∙◌, subst, arith, length-append}
use lib.Utf8.{encodes}
use Rattle.std.specs.Char.{char_set_contains}
use Rattle.std.specs.List.{ContainsAt as Has, AllByRecursion}
use Rattle.std.specs.Str.{chars}
use Rattle.std.proofs.lemmas.List.{append-nil, append_cancel_left, append_cancel_right}
use Rattle.std.proofs.lemmas.Str.{encodes-append, encodes-chars, chars_from_encodes, chars-nil, IsUtf8-nil}
use Rattle.trim.specs.Trim.{removed_head, without_head, removed_tail, without_tail, trimmed}
use Rattle.trim.specs.Rule.{LongestHead, LongestTail, Trims, Determined, Untouched, Emptied, Anchored}
use Rattle.trim.proofs.Longest.{head_is_longest, head_unique, tail_is_longest, tail_unique}
use Rattle.trim.proofs.Seams.{seam, head_parts, tail_parts, head_seam}

left_longest : (left : Bool) (set cs : List ℕ) → MatchBool left (LongestHead set cs (removed_head left (char_set_contains set) cs)) (removed_head left (char_set_contains set) cs ≡ [])
left_longest true set cs = head_is_longest set cs
left_longest false set cs = refl

right_longest : (right : Bool) (set cs : List ℕ) → MatchBool right (LongestTail set cs (removed_tail right (char_set_contains set) cs)) (removed_tail right (char_set_contains set) cs ≡ [])
right_longest true set cs = tail_is_longest set cs
right_longest false set cs = refl

pub trimmed_trims : (left right : Bool) (set row : List ℕ) → IsUtf8 row → Trims left right set row (trimmed left right set row).0 (trimmed left right set row).1
unfolding trimmed
trimmed_trims left right set row u =
    let p = char_set_contains (chars set) in
    let cs = chars row in
    let rest = without_head left p cs in
    let h = head_seam left set row u in
    let parts = tail_parts right p rest in
    let s = seam (encodes rest) (without_tail right p rest) (removed_tail right p rest) h.after (parts ∙ sym h.rest) in
    record {
      head = removed_head left p cs;
      kept = without_tail right p rest;
      tail = removed_tail right p rest;
      whole = h.whole ∙ ap (λ bs. encodes (removed_head left p cs) ++ bs) s.whole;
      reads = refl;
      formed = s.text;
      starts = refl;
      left_side = subst (λ ds. MatchBool left (LongestHead (chars set) ds (removed_head left p cs)) (removed_head left p cs ≡ []))
          (sym (ap (λ ds. removed_head left p cs ++ ds) parts ∙ head_parts left p cs)) (left_longest left (chars set) cs);
      right_side = subst (λ ds. MatchBool right (LongestTail (chars set) ds (removed_tail right p rest)) (removed_tail right p rest ≡ []))
          (sym parts) (right_longest right (chars set) rest);
    }

pub trims_from : (left right : Bool) (set row text : List ℕ) (place : ℕ) → IsUtf8 row → (text, place) ≡ trimmed left right set row → Trims left right set row text place
trims_from left right set row text place u e = subst (λ (r : List ℕ × ℕ). Trims left right set row r.0 r.1) (sym e) (trimmed_trims left right set row u)

head_same : (left : Bool) (set cs head : List ℕ) → MatchBool left (LongestHead set cs head) (head ≡ []) → head ≡ removed_head left (char_set_contains set) cs
head_same true set cs head h = head_unique set cs head _ h (head_is_longest set cs)
head_same false set cs head h = h

tail_same : (right : Bool) (set cs tail : List ℕ) → MatchBool right (LongestTail set cs tail) (tail ≡ []) → tail ≡ removed_tail right (char_set_contains set) cs
tail_same true set cs tail h = tail_unique set cs tail _ h (tail_is_longest set cs)
tail_same false set cs tail h = h

pub determined : Determined
unfolding trimmed
determined left right set row text place u t =
    let p = char_set_contains (chars set) in
    let head = t.head in
    let kept = t.kept in
    let tail = t.tail in
    let bytes : encodes (head ++ (kept ++ tail)) ≡ row =
    encodes-append head (kept ++ tail)
    ∙ (ap (λ bs. encodes head ++ bs) (encodes-append kept tail ∙ ap (λ bs. bs ++ encodes tail) (sym t.reads)) ∙ sym t.whole) in
    let cs : head ++ (kept ++ tail) ≡ chars row = chars_from_encodes (head ++ (kept ++ tail)) row u bytes in
    let h : head ≡ removed_head left p (chars row) = head_same left (chars set) (head ++ (kept ++ tail)) head t.left_side ∙ ap (removed_head left p) cs in
    let rest : kept ++ tail ≡ without_head left p (chars row) =
    append_cancel_left head _ _ (cs ∙ (sym (head_parts left p (chars row)) ∙ ap (λ ds. ds ++ without_head left p (chars row)) (sym h))) in
    let l : tail ≡ removed_tail right p (without_head left p (chars row)) = tail_same right (chars set) (kept ++ tail) tail t.right_side ∙ ap (removed_tail right p) rest in
    let k : kept ≡ without_tail right p (without_head left p (chars row)) =
    append_cancel_right kept _ tail (rest ∙ (sym (tail_parts right p (without_head left p (chars row))) ∙ ap (λ ds. without_tail right p (without_head left p (chars row)) ++ ds) (sym l))) in
    λ i. ((t.reads ∙ ap encodes k) i, (t.starts ∙ ap (λ ds. length (encodes ds)) h) i)

-- the two ends of the rule
none_made : (cs : List ℕ) → AllByRecursion (Has []) cs → length cs ≤ 0
none_made [] a = omega arith
none_made (c ∷ cs) a = absurd (omega (arith, a.0.1))

untouched_left : (left : Bool) (cs : List ℕ) → MatchBool left (LongestHead [] cs []) (◌≡◌ {A = List ℕ} [] [])
untouched_left true cs = record { begins = (cs, refl); made = tt; longest = λ other rest e a. none_made other a }
untouched_left false cs = refl

untouched_right : (right : Bool) (cs : List ℕ) → MatchBool right (LongestTail [] cs []) (◌≡◌ {A = List ℕ} [] [])
untouched_right true cs = record { closes = (cs, sym (append-nil cs)); made = tt; longest = λ other rest e a. none_made other a }
untouched_right false cs = refl

pub untouched : Untouched
untouched left right row u =
    let cs = chars row in
    sym (determined left right [] row row 0 u
    (record {
      head = [];
      kept = cs;
      tail = [];
      whole = sym (append-nil row);
      reads = sym (encodes-chars row u);
      formed = u;
      starts = refl;
      left_side = rw chars-nil (untouched_left left (cs ++ []));
      right_side = rw chars-nil (untouched_right right (cs ++ []));
    }))

pub emptied : Emptied
emptied set row u a =
    let cs = chars row in
    sym (determined true true set row [] (length row) u
    (record {
      head = cs;
      kept = [];
      tail = [];
      whole = sym (append-nil (encodes cs) ∙ encodes-chars row u);
      reads = refl;
      formed = IsUtf8-nil;
      starts = ap length (sym (encodes-chars row u));
      left_side = record {
        begins = ([], refl);
        made = a;
        longest = λ other rest e b. omega (arith, ap length e, length-append other rest, length-append cs []);
      };
      right_side = record {
        closes = ([], refl);
        made = tt;
        longest = λ other rest e b. omega (arith, ap length e, length-append rest other);
      };
    }))

pub anchored : Anchored
unfolding trimmed
anchored right set row = refl
