-- A call that is cut into windows.
use Rattle.std.proofs.Common.{◌≡◌, ℕ, zero, suc, ◌+◌, ◌<◌, ◌≤◌, Bool, true, false, cond, ◌&&◌, List, [], ◌∷◌, ◌++◌, map, length, get_or, drop, is_ok, None, Ok, Err, Result, sym, refl, ap, ◌∙◌, add-zero, zero-add, arith}
use mathlib.Core.List.{map-append}
use Rattle.std.specs.List.{range_with_len}
use Rattle.std.specs.Result.{result_unwrap_or, result_map_both}
use Rattle.std.proofs.lemmas.List.{drop_more, drop_all}
use Rattle.fault.specs.declared.Fault.{Fault}
use Rattle.output.specs.Rows.{Piece, RuleOver}
use Rattle.source.specs.Rows.{rows_by}
use Rattle.book.specs.Requests.{Asked, OfferOver, Request, each_offer, asked_by}
use Rattle.book.specs.Book.{Answer, met, answer, after, answers, after_all}
use Rattle.book.specs.Division.{total, parts, all_taken, sum_told, Divides, Agreed}
use Rattle.book.proofs.Dividing.{joined, AllNone, agreed}
use Rattle.book.proofs.Feeding.{length_rows_by}

counting_append : (a m n : ℕ) → range_with_len a (m + n) ≡ range_with_len a m ++ range_with_len (a + m) n
counting_append a zero n = rw (zero-add n, add-zero a)
counting_append a (suc m) n =
    let e : suc m + n ≡ suc (m + n) = omega arith in
    let f : a + suc m ≡ (a + 1) + m = omega arith in
    rw (e, f) (ap (λ xs. a ∷ xs) (counting_append (a + 1) m n))

-- the values of h from b on are those of f from a + b on
map_shift : {X : Type 0} (f h : ℕ → X) (a b n : ℕ) → ((i : ℕ) → i < b + n → h i ≡ f (a + i)) → map h (range_with_len b n) ≡ map f (range_with_len (a + b) n)
map_shift f h a b zero p = refl
map_shift f h a b (suc n) p =
    let e : a + (b + 1) ≡ (a + b) + 1 = omega arith in
    ap (λ x. x ∷ map h (range_with_len (b + 1) n)) (p b (omega arith))
    ∙ ap (λ xs. f (a + b) ∷ xs) (map_shift f h a (b + 1) n (λ i l. p i (omega arith)) ∙ ap (λ k. map f (range_with_len k n)) e)

module _ {C X : Type 0} (request : C → Request) (part : C → ℕ → ℕ → C) (c : C) (law : Divides request part c) (f : Piece → X) where
  abbrev ask : C → Asked X
  ask x = asked_by f (request x)

  abbrev row : ℕ → OfferOver X
  row i = each_offer f ((request c).offer i)

  offers_part : (at n : ℕ) → at + n ≤ (request c).size → (ask (part c at n)).offers ≡ map row (range_with_len at n)
  unfolding rows_by
  offers_part at n h =
      ap (λ k. map (λ i. each_offer f ((request (part c at n)).offer i)) (range_with_len 0 k)) (law.sized at n)
      ∙ map_shift row (λ i. each_offer f ((request (part c at n)).offer i)) at 0 n (λ i l. ap (each_offer f) (law.same_rows at n i h (omega arith)))
      ∙ ap (λ k. map row (range_with_len k n)) (add-zero at)

  joined_parts : (at : ℕ) (ns : List ℕ) → at + total ns ≤ (request c).size → joined (map ask (parts part c at ns)) ≡ map row (range_with_len at (total ns))
  joined_parts at [] h = refl
  joined_parts at (n ∷ ns) h =
      ap (λ os. os ++ joined (map ask (parts part c (at + n) ns))) (offers_part at n (omega arith))
      ∙ ap (λ os. map row (range_with_len at n) ++ os) (joined_parts (at + n) ns (omega arith))
      ∙ sym (map-append row (range_with_len at n) (range_with_len (at + n) (total ns)))
      ∙ ap (map row) (sym (counting_append at n (total ns)))

  -- windows have no fault at their start exactly where the one that they make up has none
  all_free : (at n : ℕ) (ns : List ℕ) → at + total (n ∷ ns) ≤ (request c).size → (request (part c at (total (n ∷ ns)))).start ≡ None
      → AllNone (map ask (parts part c at (n ∷ ns)))
  all_free at n [] h e = (rw (add-zero n) at e, tt)
  all_free at n (m ∷ ms) h e =
      let p = law.splits at n (total (m ∷ ms)) h e in
      (p.0, all_free (at + n) m ms (omega arith) p.1)

  free_all : (at n : ℕ) (ns : List ℕ) → at + total (n ∷ ns) ≤ (request c).size → AllNone (map ask (parts part c at (n ∷ ns)))
      → (request (part c at (total (n ∷ ns)))).start ≡ None
  free_all at n [] h a = rw (add-zero n) a.0
  free_all at n (m ∷ ms) h a = law.joins at n (total (m ∷ ms)) h a.0 (free_all (at + n) m ms (omega arith) a.1)

  -- a call, and the calls on consecutive windows that cover it
  division : (rule : RuleOver X) (rows : List X) (n : ℕ) (ns : List ℕ) → total (n ∷ ns) ≡ (request c).size
      → Agreed (answer rule rows (ask c)) (after rule rows (ask c)) (all_taken (answers rule rows (map ask (parts part c 0 (n ∷ ns)))))
      (sum_told (answers rule rows (map ask (parts part c 0 (n ∷ ns))))) (after_all rule rows (map ask (parts part c 0 (n ∷ ns))))
  unfolding rows_by
  division rule rows n ns e =
      let h : 0 + total (n ∷ ns) ≤ (request c).size = omega arith in
      let s : (request (part c 0 (total (n ∷ ns)))).start ≡ (request c).start = ap (λ k. (request (part c 0 k)).start) e ∙ law.whole in
      agreed rule rows (ask c) (map ask (parts part c 0 (n ∷ ns)))
      (ap (λ k. map row (range_with_len 0 k)) (sym e) ∙ sym (joined_parts 0 (n ∷ ns) h))
      (λ free. all_free 0 n ns h (s ∙ free))
      (λ free. sym s ∙ free_all 0 n ns h free)

  pub division_of : (rule : RuleOver X) (rows : List X) (ns : List ℕ) → (length ns ≡ 0 → ⊥) → total ns ≡ (request c).size
      → (all : Bool) (sum : ℕ) (last : List X) → all ≡ all_taken (answers rule rows (map ask (parts part c 0 ns)))
      → sum ≡ sum_told (answers rule rows (map ask (parts part c 0 ns))) → last ≡ after_all rule rows (map ask (parts part c 0 ns))
      → Agreed (answer rule rows (ask c)) (after rule rows (ask c)) all sum last
  division_of rule rows [] some e all sum last p q r = absurd (some refl)
  division_of rule rows (n ∷ ns) some e all sum last p q r = rw (p, q, r) (division rule rows n ns e)

  told_most : (m : Result (List X) Fault) (n : ℕ) → result_unwrap_or (result_map_both {U = ℕ} {D = Fault} (λ _. n) (λ e. e) m) 0 ≤ n
  told_most (Ok r) n = omega arith
  told_most (Err e) n = omega arith

  -- a window tells at most its rows
  pub told_part : (rule : RuleOver X) (rows : List X) (at n : ℕ) → result_unwrap_or (answer rule rows (ask (part c at n))) 0 ≤ n
  told_part rule rows at n =
      let w = ask (part c at n) in
      let e : length w.offers ≡ n = length_rows_by (λ i. each_offer f ((request (part c at n)).offer i)) (request (part c at n)).size ∙ law.sized at n in
      let h = told_most (met rule rows w) (length w.offers) in
      omega (arith, h, e)

-- a turn of a loop over windows
module _ {C X : Type 0} (part : C → ℕ → ℕ → C) (ask : C → Asked X) (c : C) (at : ℕ) (cuts : List ℕ) (i : ℕ) (rule : RuleOver X) (rows : List X) where
  module _ (h : i < length cuts) (x : C) (is : x ≡ part c at (get_or cuts i 0)) (rows' : List X) (kept : rows' ≡ after rule rows (ask x)) where
    left_parts : parts part c at (drop i cuts) ≡ x ∷ parts part c (at + get_or cuts i 0) (drop (i + 1) cuts)
    left_parts = ap (parts part c at) (drop_more cuts i 0 h) ∙ ap (λ y. y ∷ parts part c (at + get_or cuts i 0) (drop (i + 1) cuts)) (sym is)

    abbrev rest : List (Asked X)
    rest = map ask (parts part c (at + get_or cuts i 0) (drop (i + 1) cuts))

    pub part_book : (all : List X) → after_all rule rows (map ask (parts part c at (drop i cuts))) ≡ all → after_all rule rows' rest ≡ all
    part_book all inv = ap (λ r. after_all rule r rest) kept ∙ sym (ap (λ cs. after_all rule rows (map ask cs)) left_parts) ∙ inv

    module _ (a : Answer) (told : a ≡ answer rule rows (ask x)) where
      left_answers : answers rule rows (map ask (parts part c at (drop i cuts))) ≡ a ∷ answers rule rows' rest
      left_answers =
          ap (λ cs. answers rule rows (map ask cs)) left_parts
          ∙ ap (λ r. answer rule rows (ask x) ∷ answers rule r rest) (sym kept)
          ∙ ap (λ b. b ∷ answers rule rows' rest) (sym told)

      pub part_all : (b k all : Bool) → k ≡ is_ok a → cond b (all_taken (answers rule rows (map ask (parts part c at (drop i cuts))))) false ≡ all
          → cond (b && k) (all_taken (answers rule rows' rest)) false ≡ all
      part_all true k all e inv = ap (λ t. cond t (all_taken (answers rule rows' rest)) false) e ∙ sym (ap all_taken left_answers) ∙ inv
      part_all false k all e inv = inv

      pub part_sum : (s k all : ℕ) → k ≡ result_unwrap_or a 0 → s + sum_told (answers rule rows (map ask (parts part c at (drop i cuts)))) ≡ all
          → (s + k) + sum_told (answers rule rows' rest) ≡ all
      part_sum s k all e inv =
          let l = ap sum_told left_answers in
          let go : (x y z : ℕ) → x ≡ y + z → s + x ≡ all → k ≡ y → (s + k) + z ≡ all = λ x y z p q r. omega arith in
          go _ _ _ l inv e

  pub parts_end : length cuts ≤ i → parts part c at (drop i cuts) ≡ []
  parts_end h = ap (parts part c at) (drop_all i cuts h)
