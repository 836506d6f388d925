-- The bitmap of rows: one row more, fewer rows, no rows, and the bits again.
use Rattle.std.proofs.Common.{◌≡◌, ℕ, zero, suc, ◌+◌, ◌-◌, ◌*◌, ◌/◌, ◌%◌, ◌^◌, ◌<◌, ◌≤◌, eqb, ◌≢◌, List, [], ◌∷◌, ◌++◌, length, get_or, take, set, Some, None, sym, ap, ◌∙◌, ⊎_elim, add-mul, arith}
use lib.Bits.{bit_or, or_block, or_shifted, or_zero_r}
use lib.Seq.{paste}
use Rattle.std.proofs.lemmas.Nat.{shr_split, mod_below, pow_pos}
use Rattle.std.proofs.lemmas.List.FromFn.{length-map-range_with_len, get_or-map-range_with_len}
use Rattle.std.proofs.lemmas.List.Edits.{length-paste}
use Rattle.std.proofs.lemmas.List.{length-replicate, length_push, same_lists, length-take-le, get_or-take, get_or-replicate, length-set, get_or-set_same, get_or-set_other, get_or_append_left, get_or_past, get_or_push}
use Rattle.std.proofs.lemmas.Bool.{cases_lt, cases_eq}
use Rattle.bitmap.specs.Validity.{bit}
use Rattle.source.specs.Rows.{Row}
use Rattle.writing.specs.Padding.{zeros}
use Rattle.writing.specs.Bitmaps.{bit_of, packed, byte, bitmap_of, marked}
use Rattle.writing.proofs.Wiping.{wiped_low, wiped_mid, wiped_high}

-- bits
module _ (f g : ℕ → ℕ) where
  pub packed_same : ((j : ℕ) → j < 8 → f j ≡ g j) → packed f ≡ packed g
  packed_same h = omega (arith, h 0 (omega arith), h 1 (omega arith), h 2 (omega arith), h 3 (omega arith), h 4 (omega arith), h 5 (omega arith), h 6 (omega arith), h 7 (omega arith))

-- what holds at each number below 8
below_8 : (P : ℕ → Type 0) → P 0 → P 1 → P 2 → P 3 → P 4 → P 5 → P 6 → P 7 → (j : ℕ) → j < 8 → P j
below_8 P a0 a1 a2 a3 a4 a5 a6 a7 zero h = a0
below_8 P a0 a1 a2 a3 a4 a5 a6 a7 (suc zero) h = a1
below_8 P a0 a1 a2 a3 a4 a5 a6 a7 (suc (suc zero)) h = a2
below_8 P a0 a1 a2 a3 a4 a5 a6 a7 (suc (suc (suc zero))) h = a3
below_8 P a0 a1 a2 a3 a4 a5 a6 a7 (suc (suc (suc (suc zero)))) h = a4
below_8 P a0 a1 a2 a3 a4 a5 a6 a7 (suc (suc (suc (suc (suc zero))))) h = a5
below_8 P a0 a1 a2 a3 a4 a5 a6 a7 (suc (suc (suc (suc (suc (suc zero)))))) h = a6
below_8 P a0 a1 a2 a3 a4 a5 a6 a7 (suc (suc (suc (suc (suc (suc (suc zero))))))) h = a7
below_8 P a0 a1 a2 a3 a4 a5 a6 a7 (suc (suc (suc (suc (suc (suc (suc (suc k)))))))) h = absurd (omega arith)

module _ (f : ℕ → ℕ) where
  pub packed_bit : ((k : ℕ) → k < 8 → f k ≤ 1) → (j : ℕ) → j < 8 → packed f / 2 ^ j % 2 ≡ f j
  packed_bit h =
      let b0 = h 0 (omega arith) in
      let b1 = h 1 (omega arith) in
      let b2 = h 2 (omega arith) in
      let b3 = h 3 (omega arith) in
      let b4 = h 4 (omega arith) in
      let b5 = h 5 (omega arith) in
      let b6 = h 6 (omega arith) in
      let b7 = h 7 (omega arith) in
      below_8 (λ j. packed f / 2 ^ j % 2 ≡ f j) (omega arith) (omega arith) (omega arith) (omega arith) (omega arith) (omega arith) (omega arith) (omega arith)

  module _ (g : ℕ → ℕ) where
    pub packed_raise : (j : ℕ) → j < 8 → f j ≡ 0 → g j ≡ 1 → ((k : ℕ) → k < 8 → k ≢ j → f k ≡ g k) → packed g ≡ packed f + 2 ^ j
    packed_raise =
        below_8 (λ j. f j ≡ 0 → g j ≡ 1 → ((k : ℕ) → k < 8 → k ≢ j → f k ≡ g k) → packed g ≡ packed f + 2 ^ j)
        (λ p q h. omega (arith, h 1 (omega arith) (omega arith), h 2 (omega arith) (omega arith), h 3 (omega arith) (omega arith), h 4 (omega arith) (omega arith), h 5 (omega arith) (omega arith), h 6 (omega arith) (omega arith), h 7 (omega arith) (omega arith)))
        (λ p q h. omega (arith, h 0 (omega arith) (omega arith), h 2 (omega arith) (omega arith), h 3 (omega arith) (omega arith), h 4 (omega arith) (omega arith), h 5 (omega arith) (omega arith), h 6 (omega arith) (omega arith), h 7 (omega arith) (omega arith)))
        (λ p q h. omega (arith, h 0 (omega arith) (omega arith), h 1 (omega arith) (omega arith), h 3 (omega arith) (omega arith), h 4 (omega arith) (omega arith), h 5 (omega arith) (omega arith), h 6 (omega arith) (omega arith), h 7 (omega arith) (omega arith)))
        (λ p q h. omega (arith, h 0 (omega arith) (omega arith), h 1 (omega arith) (omega arith), h 2 (omega arith) (omega arith), h 4 (omega arith) (omega arith), h 5 (omega arith) (omega arith), h 6 (omega arith) (omega arith), h 7 (omega arith) (omega arith)))
        (λ p q h. omega (arith, h 0 (omega arith) (omega arith), h 1 (omega arith) (omega arith), h 2 (omega arith) (omega arith), h 3 (omega arith) (omega arith), h 5 (omega arith) (omega arith), h 6 (omega arith) (omega arith), h 7 (omega arith) (omega arith)))
        (λ p q h. omega (arith, h 0 (omega arith) (omega arith), h 1 (omega arith) (omega arith), h 2 (omega arith) (omega arith), h 3 (omega arith) (omega arith), h 4 (omega arith) (omega arith), h 6 (omega arith) (omega arith), h 7 (omega arith) (omega arith)))
        (λ p q h. omega (arith, h 0 (omega arith) (omega arith), h 1 (omega arith) (omega arith), h 2 (omega arith) (omega arith), h 3 (omega arith) (omega arith), h 4 (omega arith) (omega arith), h 5 (omega arith) (omega arith), h 7 (omega arith) (omega arith)))
        (λ p q h. omega (arith, h 0 (omega arith) (omega arith), h 1 (omega arith) (omega arith), h 2 (omega arith) (omega arith), h 3 (omega arith) (omega arith), h 4 (omega arith) (omega arith), h 5 (omega arith) (omega arith), h 6 (omega arith) (omega arith)))

-- a bit that is 0 becomes 1
pub or_adds : (n j : ℕ) → n / 2 ^ j % 2 ≡ 0 → bit_or n (2 ^ j) ≡ n + 2 ^ j
or_adds n j h =
    let q : ℕ = n / 2 ^ j in
    let split : q * 2 ^ j + n % 2 ^ j ≡ n = shr_split n j in
    let blk : bit_or (q * 2 ^ j + n % 2 ^ j) (1 * 2 ^ j + 0) ≡ bit_or q 1 * 2 ^ j + bit_or (n % 2 ^ j) 0 = or_block j q 1 (n % 2 ^ j) 0 (mod_below n (2 ^ j) (pow_pos j)) (pow_pos j) in
    let one : 1 * 2 ^ j + 0 ≡ 2 ^ j = omega arith in
    let even : q / 2 * 2 ^ 1 ≡ q = omega arith in
    let odd : bit_or (q / 2 * 2 ^ 1) 1 ≡ q / 2 * 2 ^ 1 + 1 = or_shifted (q / 2) 1 1 (omega arith) in
    let none : bit_or (n % 2 ^ j) 0 ≡ n % 2 ^ j = or_zero_r (n % 2 ^ j) in
    let odd' : bit_or q 1 ≡ q + 1 = rw even at odd in
    let more : (q + 1) * 2 ^ j ≡ q * 2 ^ j + 1 * 2 ^ j = add-mul q 1 (2 ^ j) in
    let whole : bit_or n (2 ^ j) ≡ (q + 1) * 2 ^ j + n % 2 ^ j = cc in
    whole ∙ omega arith

bit_le : (r : Row) → bit_of r ≤ 1
bit_le None = omega arith
bit_le (Some t) = omega arith

bitmap_at : (size : ℕ) (rows : List Row) (k d : ℕ) → k < size → get_or (bitmap_of size rows) k d ≡ byte rows k
unfolding bitmap_of
bitmap_at size rows k d h = get_or-map-range_with_len (byte rows) 0 size k k d h (omega arith)

pub length_bitmap : (size : ℕ) (rows : List Row) → length (bitmap_of size rows) ≡ size
unfolding bitmap_of
length_bitmap size rows = length-map-range_with_len (byte rows) 0 size

-- a row more leaves the others
getD_push_other : (rows : List Row) (r : Row) (k : ℕ) → k ≢ length rows → get_or (rows ++ r ∷ []) k None ≡ get_or rows k None
getD_push_other rows r k ne =
    ⊎_elim (λ lt. get_or_append_left rows (r ∷ []) None k lt)
    (λ ge.
    let l = length_push rows r in
    get_or_past (rows ++ r ∷ []) k None (omega arith) ∙ sym (get_or_past rows k None ge))
    (cases_lt k (length rows))

getD_push_null : (rows : List Row) (k : ℕ) → get_or (rows ++ None ∷ []) k None ≡ get_or rows k None
getD_push_null rows k =
    ⊎_elim (λ e. get_or_push rows None None k (sym e) ∙ sym (get_or_past rows k None (omega arith)))
    (λ ne. getD_push_other rows None k ne)
    (cases_eq k (length rows))

byte_null : (rows : List Row) (b : ℕ) → byte (rows ++ None ∷ []) b ≡ byte rows b
unfolding byte
byte_null rows b =
    packed_same (λ j. bit_of (get_or (rows ++ None ∷ []) (8 * b + j) None)) (λ j. bit_of (get_or rows (8 * b + j) None)) (λ j h. ap bit_of (getD_push_null rows (8 * b + j)))

module _ (rows : List Row) (n : ℕ) (e : length rows ≡ n) where
  byte_other : (r : Row) (b : ℕ) → b ≢ n / 8 → byte (rows ++ r ∷ []) b ≡ byte rows b
  unfolding byte
  byte_other r b ne =
      packed_same (λ j. bit_of (get_or (rows ++ r ∷ []) (8 * b + j) None)) (λ j. bit_of (get_or rows (8 * b + j) None))
      (λ j h. ap bit_of (getD_push_other rows r (8 * b + j) (omega arith)))

  byte_free : byte rows (n / 8) / 2 ^ (n % 8) % 2 ≡ 0
  unfolding byte
  byte_free =
      let at : 8 * (n / 8) + n % 8 ≡ n = omega arith in
      packed_bit (λ j. bit_of (get_or rows (8 * (n / 8) + j) None)) (λ k h. bit_le (get_or rows (8 * (n / 8) + k) None)) (n % 8) (omega arith)
      ∙ ap bit_of (get_or_past rows (8 * (n / 8) + n % 8) None (omega arith))

  byte_here : (t : List ℕ) → byte (rows ++ Some t ∷ []) (n / 8) ≡ byte rows (n / 8) + 2 ^ (n % 8)
  unfolding byte
  byte_here t =
      packed_raise (λ j. bit_of (get_or rows (8 * (n / 8) + j) None)) (λ j. bit_of (get_or (rows ++ Some t ∷ []) (8 * (n / 8) + j) None)) (n % 8) (omega arith)
      (ap bit_of (get_or_past rows (8 * (n / 8) + n % 8) None (omega arith)))
      (ap bit_of (get_or_push rows (Some t) None (8 * (n / 8) + n % 8) (omega arith)))
      (λ k h ne. sym (ap bit_of (getD_push_other rows (Some t) (8 * (n / 8) + k) (omega arith))))

  pub bitmap_push : (size : ℕ) (t : List ℕ) → n < 8 * size → marked (bitmap_of size rows) n ≡ bitmap_of size (rows ++ Some t ∷ [])
  bitmap_push size t h =
      let v : ℕ = bit_or (get_or (bitmap_of size rows) (n / 8) 0) (2 ^ (n % 8)) in
      let ls = length_bitmap size rows in
      let lm = length_bitmap size (rows ++ Some t ∷ []) in
      let ll = length-set (bitmap_of size rows) (n / 8) v in
      same_lists (set (bitmap_of size rows) (n / 8) v) (bitmap_of size (rows ++ Some t ∷ []))
      (ll ∙ ls ∙ sym lm)
      (λ k d lt.
      let ks : k < size = omega arith in
      let new = bitmap_at size (rows ++ Some t ∷ []) k d ks in
      let old = bitmap_at size rows k d ks in
      ⊎_elim
      (λ same.
      let here : get_or (set (bitmap_of size rows) (n / 8) v) (n / 8) d ≡ v = get_or-set_same (bitmap_of size rows) (n / 8) v d (omega arith) in
      let was = bitmap_at size rows (n / 8) 0 (omega arith) in
      let sum = or_adds (byte rows (n / 8)) (n % 8) byte_free in
      let is = byte_here t in
      cc)
      (λ other.
      let there : get_or (set (bitmap_of size rows) (n / 8) v) k d ≡ get_or (bitmap_of size rows) k d = get_or-set_other (bitmap_of size rows) (n / 8) k v d other in
      let is = byte_other (Some t) k other in
      cc)
      (cases_eq k (n / 8)))

pub bitmap_null : (size : ℕ) (rows : List Row) → bitmap_of size rows ≡ bitmap_of size (rows ++ None ∷ [])
bitmap_null size rows =
    let ls = length_bitmap size rows in
    same_lists (bitmap_of size rows) (bitmap_of size (rows ++ None ∷ [])) (ls ∙ sym (length_bitmap size (rows ++ None ∷ [])))
    (λ k d lt. bitmap_at size rows k d (omega arith) ∙ sym (byte_null rows k) ∙ sym (bitmap_at size (rows ++ None ∷ []) k d (omega arith)))

-- the rows come out again
pub bit_at : (size : ℕ) (rows : List Row) (i : ℕ) → i < 8 * size → get_or (bitmap_of size rows) (i / 8) 0 / 2 ^ (i % 8) % 2 ≡ bit_of (get_or rows i None)
unfolding byte
bit_at size rows i h =
    let e = bitmap_at size rows (i / 8) 0 (omega arith) in
    let at : 8 * (i / 8) + i % 8 ≡ i = omega arith in
    let p : byte rows (i / 8) / 2 ^ (i % 8) % 2 ≡ bit_of (get_or rows (8 * (i / 8) + i % 8) None) = packed_bit (λ j. bit_of (get_or rows (8 * (i / 8) + j) None)) (λ k h. bit_le (get_or rows (8 * (i / 8) + k) None)) (i % 8) (omega arith) in
    cc

pub bit_bitmap : (size : ℕ) (rows : List Row) (i : ℕ) → i < 8 * size → bit (bitmap_of size rows) i ≡ eqb (bit_of (get_or rows i None)) 1
unfolding bit
bit_bitmap size rows i h = ap (λ n. eqb n 1) (bit_at size rows i h)

-- the rows before the n-th alone
module _ (rows : List Row) (n : ℕ) (le : n ≤ length rows) where
  length_cut : length (take n rows) ≡ n
  length_cut = length-take-le n rows le

  getD_cut : (k : ℕ) → k < n → get_or (take n rows) k None ≡ get_or rows k None
  getD_cut k h = get_or-take n rows k None h

  getD_gone : (k : ℕ) → n ≤ k → get_or (take n rows) k None ≡ None
  getD_gone k h = let l = length_cut in get_or_past (take n rows) k None (omega arith)

  byte_below : (b : ℕ) → b < n / 8 → byte (take n rows) b ≡ byte rows b
  unfolding byte
  byte_below b h =
      packed_same (λ j. bit_of (get_or (take n rows) (8 * b + j) None)) (λ j. bit_of (get_or rows (8 * b + j) None)) (λ j h8. ap bit_of (getD_cut (8 * b + j) (omega arith)))

  byte_above : (b : ℕ) → n / 8 < b → byte (take n rows) b ≡ 0
  unfolding byte
  byte_above b h = packed_same (λ j. bit_of (get_or (take n rows) (8 * b + j) None)) (λ j. 0) (λ j h8. ap bit_of (getD_gone (8 * b + j) (omega arith)))

byte_past : (rows : List Row) (b : ℕ) → length rows ≤ 8 * b → byte rows b ≡ 0
unfolding byte
byte_past rows b h = packed_same (λ j. bit_of (get_or rows (8 * b + j) None)) (λ j. 0) (λ j h8. ap bit_of (get_or_past rows (8 * b + j) None (omega arith)))

module _ (f g : ℕ → ℕ) (small : (k : ℕ) → k < 8 → f k ≤ 1) where
  pub packed_low : (c : ℕ) → c < 8 → ((k : ℕ) → k < 8 → k < c → g k ≡ f k) → ((k : ℕ) → k < 8 → c ≤ k → g k ≡ 0) → packed g ≡ packed f % 2 ^ c
  packed_low =
      let b0 = small 0 (omega arith) in
      let b1 = small 1 (omega arith) in
      let b2 = small 2 (omega arith) in
      let b3 = small 3 (omega arith) in
      let b4 = small 4 (omega arith) in
      let b5 = small 5 (omega arith) in
      let b6 = small 6 (omega arith) in
      let b7 = small 7 (omega arith) in
      below_8 (λ c. ((k : ℕ) → k < 8 → k < c → g k ≡ f k) → ((k : ℕ) → k < 8 → c ≤ k → g k ≡ 0) → packed g ≡ packed f % 2 ^ c)
      (λ p q. omega (arith, q 0 (omega arith) (omega arith), q 1 (omega arith) (omega arith), q 2 (omega arith) (omega arith), q 3 (omega arith) (omega arith), q 4 (omega arith) (omega arith), q 5 (omega arith) (omega arith), q 6 (omega arith) (omega arith), q 7 (omega arith) (omega arith)))
      (λ p q. omega (arith, p 0 (omega arith) (omega arith), q 1 (omega arith) (omega arith), q 2 (omega arith) (omega arith), q 3 (omega arith) (omega arith), q 4 (omega arith) (omega arith), q 5 (omega arith) (omega arith), q 6 (omega arith) (omega arith), q 7 (omega arith) (omega arith)))
      (λ p q. omega (arith, p 0 (omega arith) (omega arith), p 1 (omega arith) (omega arith), q 2 (omega arith) (omega arith), q 3 (omega arith) (omega arith), q 4 (omega arith) (omega arith), q 5 (omega arith) (omega arith), q 6 (omega arith) (omega arith), q 7 (omega arith) (omega arith)))
      (λ p q. omega (arith, p 0 (omega arith) (omega arith), p 1 (omega arith) (omega arith), p 2 (omega arith) (omega arith), q 3 (omega arith) (omega arith), q 4 (omega arith) (omega arith), q 5 (omega arith) (omega arith), q 6 (omega arith) (omega arith), q 7 (omega arith) (omega arith)))
      (λ p q. omega (arith, p 0 (omega arith) (omega arith), p 1 (omega arith) (omega arith), p 2 (omega arith) (omega arith), p 3 (omega arith) (omega arith), q 4 (omega arith) (omega arith), q 5 (omega arith) (omega arith), q 6 (omega arith) (omega arith), q 7 (omega arith) (omega arith)))
      (λ p q. omega (arith, p 0 (omega arith) (omega arith), p 1 (omega arith) (omega arith), p 2 (omega arith) (omega arith), p 3 (omega arith) (omega arith), p 4 (omega arith) (omega arith), q 5 (omega arith) (omega arith), q 6 (omega arith) (omega arith), q 7 (omega arith) (omega arith)))
      (λ p q. omega (arith, p 0 (omega arith) (omega arith), p 1 (omega arith) (omega arith), p 2 (omega arith) (omega arith), p 3 (omega arith) (omega arith), p 4 (omega arith) (omega arith), p 5 (omega arith) (omega arith), q 6 (omega arith) (omega arith), q 7 (omega arith) (omega arith)))
      (λ p q. omega (arith, p 0 (omega arith) (omega arith), p 1 (omega arith) (omega arith), p 2 (omega arith) (omega arith), p 3 (omega arith) (omega arith), p 4 (omega arith) (omega arith), p 5 (omega arith) (omega arith), p 6 (omega arith) (omega arith), q 7 (omega arith) (omega arith)))

module _ (rows : List Row) (n : ℕ) (le : n ≤ length rows) where
  byte_cut : byte (take n rows) (n / 8) ≡ byte rows (n / 8) % 2 ^ (n % 8)
  unfolding byte
  byte_cut =
      packed_low (λ j. bit_of (get_or rows (8 * (n / 8) + j) None)) (λ j. bit_of (get_or (take n rows) (8 * (n / 8) + j) None)) (λ k h8. bit_le (get_or rows (8 * (n / 8) + k) None)) (n % 8) (omega arith)
      (λ k h8 kc. ap bit_of (getD_cut rows n le (8 * (n / 8) + k) (omega arith)))
      (λ k h8 ck. ap bit_of (getD_gone rows n le (8 * (n / 8) + k) (omega arith)))

module _ (rows : List Row) (n m : ℕ) (em : length rows ≡ m) (lt : n < m) where
  pub bitmap_cut : (size : ℕ) → m ≤ 8 * size → paste (set (bitmap_of size rows) (n / 8) (get_or (bitmap_of size rows) (n / 8) 0 % 2 ^ (n % 8))) (n / 8 + 1) (zeros ((m - 1) / 8 + 1 - (n / 8 + 1))) ((m - 1) / 8 + 1 - (n / 8 + 1)) ≡ bitmap_of size (take n rows)
  bitmap_cut size h =
      let v : ℕ = get_or (bitmap_of size rows) (n / 8) 0 % 2 ^ (n % 8) in
      let xs : List ℕ = set (bitmap_of size rows) (n / 8) v in
      let z : ℕ = (m - 1) / 8 + 1 - (n / 8 + 1) in
      let ls : length xs ≡ length (bitmap_of size rows) = length-set (bitmap_of size rows) (n / 8) v in
      let lx = length_bitmap size rows in
      let ln = length_bitmap size (take n rows) in
      let lz : length (zeros z) ≡ z = length-replicate z 0 in
      let fits : n / 8 + 1 + z ≤ length xs = omega arith in
      let lp : length (paste xs (n / 8 + 1) (zeros z) z) ≡ length xs = length-paste xs (n / 8 + 1) (zeros z) z fits (omega arith) in
      same_lists (paste xs (n / 8 + 1) (zeros z) z) (bitmap_of size (take n rows)) (lp ∙ ls ∙ lx ∙ sym ln)
      (λ k d kl.
      let ks : k < size = omega arith in
      let old = bitmap_at size rows k d ks in
      let new = bitmap_at size (take n rows) k d ks in
      ⊎_elim
      (λ low.
      let w = wiped_low 0 xs (n / 8 + 1) z k d fits low in
      ⊎_elim
      (λ same.
      let here : get_or xs (n / 8) d ≡ v = get_or-set_same (bitmap_of size rows) (n / 8) v d (omega arith) in
      let was = bitmap_at size rows (n / 8) 0 (omega arith) in
      let is = byte_cut rows n (omega arith) in
      cc)
      (λ other.
      let there : get_or xs k d ≡ get_or (bitmap_of size rows) k d = get_or-set_other (bitmap_of size rows) (n / 8) k v d other in
      let is = byte_below rows n (omega arith) k (omega arith) in
      cc)
      (cases_eq k (n / 8)))
      (λ above.
      let is = byte_above rows n (omega arith) k (omega arith) in
      ⊎_elim
      (λ mid. let w = wiped_mid 0 xs (n / 8 + 1) z k d fits above (omega arith) in cc)
      (λ high.
      let w = wiped_high 0 xs (n / 8 + 1) z k d fits (omega arith) in
      let there : get_or xs k d ≡ get_or (bitmap_of size rows) k d = get_or-set_other (bitmap_of size rows) (n / 8) k v d (omega arith) in
      let past = byte_past rows k (omega arith) in
      cc)
      (cases_lt k ((m - 1) / 8 + 1)))
      (cases_lt k (n / 8 + 1)))

pub bitmap_none : (size : ℕ) → bitmap_of size [] ≡ zeros size
bitmap_none size =
    let l = length_bitmap size [] in
    let lz : length (zeros size) ≡ size = length-replicate size 0 in
    same_lists (bitmap_of size []) (zeros size) (omega arith)
    (λ k d h. bitmap_at size [] k d (omega arith) ∙ byte_past [] k (omega arith) ∙ sym (get_or-replicate size k 0 d (omega arith)))
