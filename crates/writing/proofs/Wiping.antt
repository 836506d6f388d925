-- Zeros written over a part of a list.
use Rattle.std.proofs.Common.{◌≡◌, ℕ, zero, suc, ◌+◌, ◌-◌, ◌<◌, ◌≤◌, List, [], ◌∷◌, ◌++◌, map, length, take, drop, get_or, replicate, sym, refl, ap, ◌∙◌, arith}
use lib.Seq.{paste}
use Rattle.std.proofs.lemmas.List.{length-replicate, map-append, same_lists, get_or-replicate, places}
use Rattle.std.proofs.lemmas.List.Edits.{length-paste}

module _ {X : Type 0} (z : X) (xs : List X) (from len k : ℕ) (d : X) (fits : from + len ≤ length xs) where
  pub wiped_low : k < from → get_or (paste xs from (replicate len z) len) k d ≡ get_or xs k d
  wiped_low h = grind (arith, places)

  pub wiped_mid : from ≤ k → k < from + len → get_or (paste xs from (replicate len z) len) k d ≡ z
  wiped_mid h g = grind (arith, places)

  pub wiped_high : from + len ≤ k → get_or (paste xs from (replicate len z) len) k d ≡ get_or xs k d
  wiped_high h = grind (arith, places)

-- all of it
pub wiped_all : {X : Type 0} (z : X) (xs : List X) (n : ℕ) → length xs ≡ n → paste xs 0 (replicate (n - 0) z) (n - 0) ≡ replicate n z
wiped_all z xs n e =
    let m : n - 0 ≡ n = omega arith in
    let lz : length (replicate n z) ≡ n = length-replicate n z in
    let lp : length (paste xs 0 (replicate n z) n) ≡ length xs = length-paste xs 0 (replicate n z) n (omega arith) (omega arith) in
    let w : paste xs 0 (replicate n z) n ≡ replicate n z = same_lists (paste xs 0 (replicate n z) n) (replicate n z) (omega arith) (λ k d h. wiped_mid z xs 0 n k d (omega arith) (omega arith) (omega arith) ∙ sym (get_or-replicate n k z d (omega arith))) in
    cc

-- the same of what each number stands for
module _ {X Y : Type 0} (f : X → Y) where
  map_take : (n : ℕ) (xs : List X) → map f (take n xs) ≡ take n (map f xs)
  map_take zero xs = refl
  map_take (suc n) [] = refl
  map_take (suc n) (x ∷ xs) = ap (λ ys. f x ∷ ys) (map_take n xs)

  map_drop : (n : ℕ) (xs : List X) → map f (drop n xs) ≡ drop n (map f xs)
  map_drop zero xs = refl
  map_drop (suc n) [] = refl
  map_drop (suc n) (x ∷ xs) = map_drop n xs

  map_replicate : (n : ℕ) (x : X) → map f (replicate n x) ≡ replicate n (f x)
  map_replicate zero x = refl
  map_replicate (suc n) x = ap (λ ys. f x ∷ ys) (map_replicate n x)

  pub map_wiped : (z : X) (y : Y) → f z ≡ y → (xs : List X) (from len : ℕ) → map f (paste xs from (replicate len z) len) ≡ paste (map f xs) from (replicate len y) len
  map_wiped z y e xs from len =
      let a = map-append f (take from xs ++ take len (replicate len z)) (drop (from + len) xs) in
      let b = map-append f (take from xs) (take len (replicate len z)) in
      let c = map_take from xs in
      let d = map_take len (replicate len z) in
      let r = map_replicate len z in
      let t = map_drop (from + len) xs in
      cc
