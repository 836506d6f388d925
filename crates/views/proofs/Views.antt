-- Ends, and the rules of a view by its length.
use Rattle.std.proofs.Common.{◌≡◌, ℕ, zero, suc, ◌+◌, ◌-◌, ◌*◌, ◌<◌, ◌≤◌, Bool, true, false, ◌&&◌, eqb, ltb, leb, List, [], ◌∷◌, length, get_or, None, Decides, sym, refl, ap, ◌∙◌, arith}
use Rattle.std.proofs.lemmas.Slice.Eq.{bytes_eq-Decides}
use Rattle.std.proofs.lemmas.List.{length-take, length-drop}
use Rattle.std.proofs.lemmas.Bool.{and_parts, and_from, eqb-true, eq-eqb, leb-true, ltb-true}
use Rattle.std.proofs.lemmas.Bool.Decides.{nat_tests, same_from_decides}
use Rattle.std.specs.Str.{bytes_eq}
use Rattle.source.proofs.Faults.{true_from_unless, first_fault_none}
use Rattle.views.specs.declared.lent.Lent.{Lent}
use Rattle.views.specs.Reading.{lists}
use Rattle.views.specs.Layout.{Data, LiesIn, fits, text, part, blank, short_rule, long_rule, buffer_start, buffer_end, in_buffer, buffer, place, size, offset}
use Rattle.views.specs.Verdict.{enough, end_holds, end_fault, ends_fault}

-- all bytes are 0
pub all_blank : (xs : List ℕ) → ((k : ℕ) → k < length xs → get_or xs k 0 ≡ 0) → blank xs ≡ true
all_blank [] h = refl
all_blank (x ∷ xs) h = and_from (eqb x 0) (blank xs) (eq-eqb x 0 (h zero (omega arith))) (all_blank xs (λ k l. h (suc k) (omega arith)))

pub zero_from_blank : (xs : List ℕ) (k : ℕ) → blank xs ≡ true → k < length xs → get_or xs k 0 ≡ 0
zero_from_blank [] k h l = absurd (omega arith)
zero_from_blank (x ∷ xs) zero h l = eqb-true x 0 (and_parts _ _ h).0
zero_from_blank (x ∷ xs) (suc k) h l = zero_from_blank xs k (and_parts _ _ h).1 (omega arith)

-- where no end has a fault
pub ends_hold : (d : Data) (b : ℕ) → ends_fault d ≡ None → b < length d.ends → (buffer_start d.ends b ≤ buffer_end d.ends b) × (buffer_end d.ends b ≤ length d.bytes)
unfolding end_fault end_holds
ends_hold d b h l =
    let p = and_parts _ _ (true_from_unless (end_holds d b) _ (first_fault_none (end_fault d) (length d.ends) b h l)) in
    (leb-true _ _ p.0, leb-true _ _ p.1)

-- what lies in its buffer, and ends at a signed 32-bit number
pub in_room : (d : Data) (v : List ℕ) → in_buffer d v ≡ true → (buffer v < length d.ends) × (offset v + size v ≤ buffer_end d.ends (buffer v) - buffer_start d.ends (buffer v)) × (offset v + size v ≤ 2147483647)
in_room d v t =
    let room : ℕ = buffer_end d.ends (buffer v) - buffer_start d.ends (buffer v) in
    let p : (ltb (buffer v) (length d.ends) ≡ true) × ((leb (offset v + size v) room && leb (offset v + size v) 2147483647) ≡ true) = and_parts _ _ t in
    let q : (leb (offset v + size v) room ≡ true) × (leb (offset v + size v) 2147483647 ≡ true) = and_parts _ _ p.1 in
    (ltb-true _ _ p.0, leb-true _ _ q.0, leb-true _ _ q.1)

pub in_place : (d : Data) (v : List ℕ) → ends_fault d ≡ None → in_buffer d v ≡ true → place d v + size v ≤ length d.bytes
in_place d v h t =
    let r = in_room d v t in
    let e = ends_hold d (buffer v) h r.0 in
    omega arith

module _ (d : Data) (v : List ℕ) where
  pub fits_not : 2147483647 < size v → fits d v ≡ false
  unfolding fits
  fits_not h = grind (arith, nat_tests)

  pub fits_short : size v ≤ 12 → fits d v ≡ short_rule v
  unfolding fits
  fits_short h = grind (arith, nat_tests)

  pub fits_long : 12 < size v → size v ≤ 2147483647 → fits d v ≡ long_rule d v
  unfolding fits
  fits_long h k = grind (arith, nat_tests)

  pub text_short : size v ≤ 12 → text d v ≡ part 4 (size v) v
  unfolding text
  text_short h = grind (arith, nat_tests)

  pub text_long : 12 < size v → text d v ≡ part (place d v) (size v) d.bytes
  unfolding text
  text_long h = grind (arith, nat_tests)

  -- a long view that keeps the rules lies in its buffer
  pub within_from_fits : fits d v ≡ true → 12 < size v → in_buffer d v ≡ true
  unfolding fits
  within_from_fits h k =
      let small : size v ≤ 2147483647 = leb-true _ _ (and_parts _ _ h).0 in
      let r : long_rule d v ≡ true = sym (fits_long k small) ∙ h in
      (and_parts _ _ r).0

  -- so its text lies where the view says
  pub lies_in : ends_fault d ≡ None → fits d v ≡ true → 12 < size v → LiesIn d (text d v) (buffer v) (offset v)
  lies_in e h k =
      let w : in_buffer d v ≡ true = within_from_fits h k in
      let r = in_room d v w in
      let p : place d v + size v ≤ length d.bytes = in_place d v e w in
      let t : text d v ≡ part (place d v) (size v) d.bytes = text_long k in
      let l : length (text d v) ≡ size v = ap length t ∙ simp (length-take, length-drop) (omega arith) in
      record {
        known = r.0;
        within = omega arith;
        small = omega arith;
        there = ap (λ (n : ℕ). part (place d v) n d.bytes) l ∙ sym t;
      }

  -- the first four bytes are compared
  pub fits_compared : (xs ys : List ℕ) (r : Bool) → 12 < size v → size v ≤ 2147483647 → in_buffer d v ≡ true → xs ≡ part 4 4 v → ys ≡ part (place d v) 4 d.bytes → Decides r (xs ≡ ys) → r ≡ fits d v
  fits_compared xs ys r h k b p q w =
      let s : r ≡ bytes_eq xs ys = same_from_decides r (bytes_eq xs ys) w (bytes_eq-Decides xs ys) in
      let f : fits d v ≡ (in_buffer d v && bytes_eq (part 4 4 v) (part (place d v) 4 d.bytes)) = fits_long h k in
      s ∙ sym (f ∙ simp (b, sym p, sym q))

-- each of the rows has its view
pub room_from_enough : (m : Lent) (n i : ℕ) → enough n (lists m) ≡ true → i < n → 16 * i + 16 ≤ length m.views.now
unfolding enough
room_from_enough m n i h l = grind (arith, nat_tests)
