-- The offsets of rows: one row more, fewer rows, none.
use Rattle.std.proofs.Common.{◌≡◌, ℕ, ◌+◌, ◌-◌, ◌<◌, ◌≤◌, true, false, leb, List, [], ◌∷◌, ◌++◌, length, get_or, take, set, replicate, ℤ, pos, sym, refl, ◌∙◌, ⊎_elim, arith}
use lib.Seq.{paste}
use Rattle.std.proofs.lemmas.List.{length_push, length-replicate, same_lists, take-append-le, take-take, length-take-le, get_or-replicate, take_all, length-set, get_or-set_same, get_or-set_other}
use Rattle.std.proofs.lemmas.List.Edits.{length-paste}
use Rattle.std.proofs.lemmas.List.FromFn.{length-map-range_with_len, get_or-map-range_with_len}
use Rattle.std.proofs.lemmas.Bool.{cases_lt, cases_eq, le-leb, lt-leb}
use Rattle.source.specs.Rows.{Row}
use Rattle.offset_layout.specs.Layout.{used, offset, offsets_of}
use Rattle.writing.proofs.Wiping.{wiped_low, wiped_mid, wiped_high}

pub offsets_at : (size : ℕ) (rows : List Row) (k : ℕ) (d : ℤ) → k < size → get_or (offsets_of size rows) k d ≡ pos (offset rows k)
unfolding offsets_of
offsets_at size rows k d h = get_or-map-range_with_len (λ j. pos (offset rows j)) 0 size k k d h (omega arith)

pub length_offsets : (size : ℕ) (rows : List Row) → length (offsets_of size rows) ≡ size
unfolding offsets_of
length_offsets size rows = length-map-range_with_len (λ j. pos (offset rows j)) 0 size

pub offset_low : (rows : List Row) (k : ℕ) → k ≤ length rows → offset rows k ≡ used (take k rows)
unfolding offset
offset_low rows k h = let e : leb k (length rows) ≡ true = le-leb k (length rows) h in simp e

offset_high : (rows : List Row) (k : ℕ) → length rows < k → offset rows k ≡ 0
unfolding offset
offset_high rows k h = let e : leb k (length rows) ≡ false = lt-leb k (length rows) h in simp e

pub offsets_push : (size : ℕ) (rows : List Row) (r : Row) (n v : ℕ) → length rows ≡ n → n + 1 < size → used (rows ++ r ∷ []) ≡ v → set (offsets_of size rows) (n + 1) (pos v) ≡ offsets_of size (rows ++ r ∷ [])
offsets_push size rows r n v e h w =
    let ls = length_offsets size rows in
    let lm = length_offsets size (rows ++ r ∷ []) in
    let lr = length_push rows r in
    same_lists (set (offsets_of size rows) (n + 1) (pos v)) (offsets_of size (rows ++ r ∷ []))
    (length-set (offsets_of size rows) (n + 1) (pos v) ∙ ls ∙ sym lm)
    (λ k d lt.
    let ll = length-set (offsets_of size rows) (n + 1) (pos v) in
    let ks : k < size = omega arith in
    let new = offsets_at size (rows ++ r ∷ []) k d ks in
    let old = offsets_at size rows k d ks in
    ⊎_elim
    (λ same.
    let here : get_or (set (offsets_of size rows) (n + 1) (pos v)) (n + 1) d ≡ pos v = get_or-set_same (offsets_of size rows) (n + 1) (pos v) d (omega arith) in
    let low = offset_low (rows ++ r ∷ []) k (omega arith) in
    let all : take k (rows ++ r ∷ []) ≡ rows ++ r ∷ [] = take_all k (rows ++ r ∷ []) (omega arith) in
    cc)
    (λ other.
    let there : get_or (set (offsets_of size rows) (n + 1) (pos v)) k d ≡ get_or (offsets_of size rows) k d = get_or-set_other (offsets_of size rows) (n + 1) k (pos v) d other in
    ⊎_elim
    (λ below.
    let low = offset_low (rows ++ r ∷ []) k (omega arith) in
    let low' = offset_low rows k (omega arith) in
    let t : take k (rows ++ r ∷ []) ≡ take k rows = take-append-le k rows (r ∷ []) (omega arith) in
    cc)
    (λ above.
    let high = offset_high (rows ++ r ∷ []) k (omega arith) in
    let high' = offset_high rows k (omega arith) in
    cc)
    (cases_lt k (n + 1)))
    (cases_eq k (n + 1)))

module _ (rows : List Row) (n m : ℕ) (em : length rows ≡ m) (lt : n < m) where
  pub offsets_cut : (size : ℕ) → m < size → paste (offsets_of size rows) (n + 1) (replicate (m - n) (pos 0)) (m - n) ≡ offsets_of size (take n rows)
  offsets_cut size h =
      let xs : List ℤ = offsets_of size rows in
      let lx = length_offsets size rows in
      let ln = length_offsets size (take n rows) in
      let lc = length-take-le n rows (omega arith) in
      let lz : length (replicate (m - n) (pos 0)) ≡ m - n = length-replicate (m - n) (pos 0) in
      let lp : length (paste xs (n + 1) (replicate (m - n) (pos 0)) (m - n)) ≡ length xs = length-paste xs (n + 1) (replicate (m - n) (pos 0)) (m - n) (omega arith) (omega arith) in
      same_lists (paste xs (n + 1) (replicate (m - n) (pos 0)) (m - n)) (offsets_of size (take n rows)) (lp ∙ lx ∙ sym ln)
      (λ k d kl.
      let ks : k < size = omega arith in
      let old = offsets_at size rows k d ks in
      let new = offsets_at size (take n rows) k d ks in
      ⊎_elim
      (λ low.
      let w = wiped_low (pos 0) xs (n + 1) (m - n) k d (omega arith) low in
      let o1 = offset_low rows k (omega arith) in
      let o2 = offset_low (take n rows) k (omega arith) in
      let t : take k (take n rows) ≡ take k rows = take-take k n rows (omega arith) in
      cc)
      (λ above.
      let o2 = offset_high (take n rows) k (omega arith) in
      ⊎_elim
      (λ mid. let w = wiped_mid (pos 0) xs (n + 1) (m - n) k d (omega arith) above (omega arith) in cc)
      (λ high.
      let w = wiped_high (pos 0) xs (n + 1) (m - n) k d (omega arith) (omega arith) in
      let o1 = offset_high rows k (omega arith) in
      cc)
      (cases_lt k (m + 1)))
      (cases_lt k (n + 1)))

pub offsets_none : (size : ℕ) → offsets_of size [] ≡ replicate size (pos 0)
unfolding used
offsets_none size =
    let l = length_offsets size [] in
    let lz : length (replicate size (pos 0)) ≡ size = length-replicate size (pos 0) in
    same_lists (offsets_of size []) (replicate size (pos 0)) (omega arith)
    (λ k d h.
    let z : get_or (replicate size (pos 0)) k d ≡ pos 0 = get_or-replicate size k (pos 0) d (omega arith) in
    let o = offsets_at size [] k d (omega arith) in
    ⊎_elim (λ e. let a = offset_low [] k (omega arith) in let t : ◌≡◌ {A = List Row} (take k []) [] = take_all k [] (omega arith) in let u : used [] ≡ 0 = refl in cc)
    (λ ne. let a = offset_high [] k (omega arith) in cc)
    (cases_eq k 0))
