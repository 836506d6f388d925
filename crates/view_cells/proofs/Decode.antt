-- The view of a text reads as the text, and keeps the rules.
use Rattle.std.proofs.Common.{◌≡◌, ℕ, zero, suc, ◌+◌, ◌-◌, ◌*◌, ◌/◌, ◌%◌, ◌<◌, ◌≤◌, true, leb, List, [], ◌∷◌, ◌++◌, length, take, drop, sym, refl, ap, ◌∙◌, inl, inr, mod-eq_of_lt, arith}
use Rattle.std.proofs.lemmas.List.{take_at, take_all, take-take, drop_at, drop-drop, length-append, length-replicate, length-take}
use Rattle.std.proofs.lemmas.Bool.{le-leb, lt-leb, lt-ltb, cond-true, cond-false, cases_lt, and_from}
use Rattle.std.proofs.lemmas.Nat.{shr-shr, div-add-mod', div_below}
use Rattle.std.proofs.lemmas.Slice.Eq.{bytes_eq-Decides}
use Rattle.views.specs.Layout.{Data, LiesIn, part, word, size, buffer, offset, buffer_start, buffer_end, text, fits, blank, in_buffer, place}
use Rattle.writing.specs.Padding.{zeros}
use Rattle.view_cells.specs.Views.{short_view, long_view, view_of}
use Rattle.views.proofs.Views.{fits_short, fits_long, text_short, text_long}

digits : (n q1 q2 q3 r1 r2 r3 r4 : ℕ) → q1 * 256 + r1 ≡ n → q2 * 256 + r2 ≡ q1 → q3 * 256 + r3 ≡ q2 → r4 ≡ q3 → r1 + 256 * r2 + 65536 * r3 + 16777216 * r4 ≡ n
digits n q1 q2 q3 r1 r2 r3 r4 p q r t = omega arith

-- the bytes of a number give the number
number : (n : ℕ) → n < 4294967296 → n % 256 + 256 * (n / 256 % 256) + 65536 * (n / 65536 % 256) + 16777216 * (n / 16777216 % 256) ≡ n
number n h =
    let a : n / 256 / 256 ≡ n / 65536 = shr-shr n 8 8 in
    let b : n / 65536 / 256 ≡ n / 16777216 = shr-shr n 16 8 in
    let p : n / 256 * 256 + n % 256 ≡ n = div-add-mod' n 256 in
    let q : n / 65536 * 256 + n / 256 % 256 ≡ n / 256 = ap (λ k. k * 256 + n / 256 % 256) (sym a) ∙ div-add-mod' (n / 256) 256 in
    let r : n / 16777216 * 256 + n / 65536 % 256 ≡ n / 65536 = ap (λ k. k * 256 + n / 65536 % 256) (sym b) ∙ div-add-mod' (n / 65536) 256 in
    let t : n / 16777216 % 256 ≡ n / 16777216 = mod-eq_of_lt (div_below n 16777216 256 (omega arith) h) in
    digits n (n / 256) (n / 65536) (n / 16777216) (n % 256) (n / 256 % 256) (n / 65536 % 256) (n / 16777216 % 256) p q r t

-- The words of a long view
record Words (v t : List ℕ) (b o : ℕ) : Type 0 where
  size_is : size v ≡ length t
  buffer_is : buffer v ≡ b
  offset_is : offset v ≡ o
  head_is : part 4 4 v ≡ take 4 t
  long : length v ≡ 16

words : (t : List ℕ) (b o : ℕ) → 12 < length t → length t < 4294967296 → b < 4294967296 → o < 4294967296 → Words (long_view t b o) t b o
unfolding word
words [] b o h i j k = absurd (omega arith)
words (t0 ∷ []) b o h i j k = absurd (omega arith)
words (t0 ∷ t1 ∷ []) b o h i j k = absurd (omega arith)
words (t0 ∷ t1 ∷ t2 ∷ []) b o h i j k = absurd (omega arith)
words (t0 ∷ t1 ∷ t2 ∷ t3 ∷ t) b o h i j k =
    record { size_is = number (length (t0 ∷ t1 ∷ t2 ∷ t3 ∷ t)) i; buffer_is = number b j; offset_is = number o k; head_is = refl; long = refl }

short_size : (t : List ℕ) → length t ≤ 12 → size (short_view t) ≡ length t
unfolding word
short_size t h = number (length t) (omega arith)

blank_zeros : (n : ℕ) → blank (zeros n) ≡ true
blank_zeros zero = refl
blank_zeros (suc n) = blank_zeros n

in_buffer_at : (d : Data) (v : List ℕ) (b o n : ℕ) → buffer v ≡ b → offset v ≡ o → size v ≡ n → b < length d.ends → o + n ≤ buffer_end d.ends b - buffer_start d.ends b → o + n ≤ 2147483647 → in_buffer d v ≡ true
in_buffer_at d v b o n e f g h i j =
    let p : buffer_start d.ends (buffer v) ≡ buffer_start d.ends b = ap (buffer_start d.ends) e in
    let q : buffer_end d.ends (buffer v) ≡ buffer_end d.ends b = ap (buffer_end d.ends) e in
    let x : buffer v < length d.ends = omega arith in
    let y : offset v + size v ≤ buffer_end d.ends (buffer v) - buffer_start d.ends (buffer v) = omega arith in
    let z : offset v + size v ≤ 2147483647 = omega arith in
    and_from _ _ (lt-ltb _ _ x) (and_from _ _ (le-leb _ _ y) (le-leb _ _ z))

module _ (d : Data) (t : List ℕ) where
  short_text : length t ≤ 12 → text d (short_view t) ≡ t
  short_text h =
      let e : size (short_view t) ≡ length t = short_size t h in
      text_short d (short_view t) (omega arith) ∙ (ap (λ n. take n (t ++ zeros (12 - length t))) e ∙ take_at t (zeros (12 - length t)) (length t) refl)

  short_fits : length t ≤ 12 → fits d (short_view t) ≡ true
  short_fits h =
      let e : size (short_view t) ≡ length t = short_size t h in
      let z : List ℕ = zeros (12 - length t) in
      let f : drop (4 + length t) (short_view t) ≡ z = sym (drop-drop (length t) 4 (short_view t)) ∙ drop_at t z (length t) refl in
      let n : length z ≡ 12 - length t = length-replicate (12 - length t) 0 in
      fits_short d (short_view t) (omega arith)
      ∙ (ap (λ k. blank (part (4 + k) (12 - k) (short_view t))) e ∙ (ap (λ x. blank (take (12 - length t) x)) f ∙ (ap blank (take_all (12 - length t) z (omega arith)) ∙ blank_zeros (12 - length t))))

  module _ (b o : ℕ) (big : 12 < length t) (s : LiesIn d t b o) (few : b < 4294967296) where
    is : Words (long_view t b o) t b o
    is = let m = s.small in words t b o big (omega arith) few (omega arith)

    long_place : place d (long_view t b o) ≡ buffer_start d.ends b + o
    long_place = ap (λ k. buffer_start d.ends k + offset (long_view t b o)) is.buffer_is ∙ ap (λ k. buffer_start d.ends b + k) is.offset_is

    long_text : text d (long_view t b o) ≡ t
    long_text =
        let e = is.size_is in
        text_long d (long_view t b o) (omega arith)
        ∙ (ap (λ k. part (place d (long_view t b o)) k d.bytes) e ∙ (ap (λ k. part k (length t) d.bytes) long_place ∙ s.there))

    long_fits : fits d (long_view t b o) ≡ true
    long_fits =
        let v : List ℕ = long_view t b o in
        let w = is in
        let z = s.small in
        let n : size v ≡ length t = w.size_is in
        let i : in_buffer d v ≡ true = in_buffer_at d v b o (length t) w.buffer_is w.offset_is n s.known s.within z in
        let f : take 4 (part (buffer_start d.ends b + o) (length t) d.bytes) ≡ part (buffer_start d.ends b + o) 4 d.bytes = take-take 4 (length t) _ (omega arith) in
        let g : part 4 4 v ≡ part (place d v) 4 d.bytes = w.head_is ∙ (ap (take 4) (sym s.there) ∙ (f ∙ ap (λ k. part k 4 d.bytes) (sym long_place))) in
        fits_long d v (omega arith) (omega arith) ∙ and_from _ _ i ((bytes_eq-Decides _ _).1 g)

-- whether it holds the text or its place
module _ (d : Data) (t : List ℕ) (b o : ℕ) (s : 12 < length t → LiesIn d t b o) (few : b < 4294967296) where
  pub view_text : text d (view_of t b o) ≡ t
  unfolding view_of
  view_text =
      elim (cases_lt 12 (length t)) [
        | inl h ↦ ap (text d) (cond-false (leb (length t) 12) _ _ (lt-leb _ 12 h)) ∙ long_text d t b o h (s h) few
        | inr h ↦ ap (text d) (cond-true (leb (length t) 12) _ _ (le-leb _ 12 h)) ∙ short_text d t h
      ]

  pub view_fits : fits d (view_of t b o) ≡ true
  unfolding view_of
  view_fits =
      elim (cases_lt 12 (length t)) [
        | inl h ↦ ap (fits d) (cond-false (leb (length t) 12) _ _ (lt-leb _ 12 h)) ∙ long_fits d t b o h (s h) few
        | inr h ↦ ap (fits d) (cond-true (leb (length t) 12) _ _ (le-leb _ 12 h)) ∙ short_fits d t h
      ]

pub length_view : (t : List ℕ) (b o : ℕ) → length (view_of t b o) ≡ 16
unfolding view_of
length_view t b o =
    elim (cases_lt 12 (length t)) [
      | inl h ↦ ap length (cond-false (leb (length t) 12) (short_view t) (long_view t b o) (lt-leb _ 12 h)) ∙ simp (length-append, length-take) (omega arith)
      | inr h ↦ ap length (cond-true (leb (length t) 12) (short_view t) (long_view t b o) (le-leb _ 12 h)) ∙ simp (length-append, length-replicate) (omega arith)
    ]

-- a text of up to 12 bytes has one view
pub view_short : (t : List ℕ) (b o c p : ℕ) → length t ≤ 12 → view_of t b o ≡ view_of t c p
unfolding view_of
view_short t b o c p h =
    cond-true (leb (length t) 12) (short_view t) (long_view t b o) (le-leb _ 12 h) ∙ sym (cond-true (leb (length t) 12) (short_view t) (long_view t c p) (le-leb _ 12 h))
