-- Padded memory: a write at its end, a write over its last number, and a wipe.
use Rattle.std.proofs.Common.{◌≡◌, ℕ, suc, ◌+◌, ◌-◌, ◌<◌, ◌≤◌, List, [], ◌∷◌, ◌++◌, length, take, drop, set, sym, refl, ap, ◌∙◌, arith}
use lib.Seq.{paste}
use Rattle.std.proofs.lemmas.List.Edits.{paste_all}
use Rattle.std.proofs.lemmas.List.{append_assoc, length-append, length-replicate, take_at, drop_at, drop-drop, drop-replicate, replicate-append-replicate, length-take-le, set_split, take-append-le}
use Rattle.writing.specs.Padding.{zeros, padded}

pub length_padded : (size : ℕ) (xs : List ℕ) → length xs ≤ size → length (padded size xs) ≡ size
unfolding padded
length_padded size xs h =
    let z : length (zeros (size - length xs)) ≡ size - length xs = length-replicate (size - length xs) 0 in
    length-append xs (zeros (size - length xs)) ∙ omega arith

pub padded_none : (size : ℕ) → padded size [] ≡ zeros size
unfolding padded
padded_none size = let e : size - 0 ≡ size = omega arith in ap zeros e

-- the front is what was written
pub take_padded : (size : ℕ) (xs : List ℕ) (n : ℕ) → length xs ≡ n → take n (padded size xs) ≡ xs
unfolding padded
take_padded size xs n e = take_at xs (zeros (size - length xs)) n e

-- a write behind what was written
pub padded_push : (size : ℕ) (xs ys : List ℕ) (n : ℕ) → length xs ≡ n → n + length ys ≤ size → paste (padded size xs) n ys (length ys) ≡ padded size (xs ++ ys)
unfolding padded
padded_push size xs ys n e fits =
    let z : List ℕ = zeros (size - length xs) in
    let p : paste (xs ++ z) n ys (length ys) ≡ take n (xs ++ z) ++ (ys ++ drop (n + length ys) (xs ++ z)) = paste_all (xs ++ z) n ys (length ys) refl in
    let t : take n (xs ++ z) ≡ xs = take_at xs z n e in
    let d : drop (n + length ys) (xs ++ z) ≡ zeros (size - length xs - length ys) = sym (drop-drop (length ys) n (xs ++ z)) ∙ (ap (drop (length ys)) (drop_at xs z n e) ∙ drop-replicate (length ys) (size - length xs) 0) in
    let l : length (xs ++ ys) ≡ length xs + length ys = length-append xs ys in
    let m : size - length xs - length ys ≡ size - length (xs ++ ys) = omega arith in
    p ∙ (ap (λ x. x ++ (ys ++ drop (n + length ys) (xs ++ z))) t ∙ (ap (λ x. xs ++ (ys ++ x)) (d ∙ ap zeros m) ∙ sym (append_assoc xs ys (zeros (size - length (xs ++ ys))))))

-- zeros over the end of what was written
pub padded_cut : (size : ℕ) (xs ys : List ℕ) (n k : ℕ) → length xs ≡ n → length ys ≡ k → n + k ≤ size → paste (padded size (xs ++ ys)) n (zeros k) k ≡ padded size xs
unfolding padded
padded_cut size xs ys n k e f fits =
    let l : length (xs ++ ys) ≡ length xs + length ys = length-append xs ys in
    let s : ℕ = size - length (xs ++ ys) in
    let all : List ℕ = (xs ++ ys) ++ zeros s in
    let p : paste all n (zeros k) k ≡ take n all ++ (zeros k ++ drop (n + k) all) = paste_all all n (zeros k) k (sym (length-replicate k 0)) in
    let t : take n all ≡ xs = ap (take n) (append_assoc xs ys (zeros s)) ∙ take_at xs (ys ++ zeros s) n e in
    let d : drop (n + k) all ≡ zeros s = drop_at (xs ++ ys) (zeros s) (n + k) (omega arith) in
    let m : k + s ≡ size - length xs = omega arith in
    p ∙ (ap (λ x. x ++ (zeros k ++ drop (n + k) all)) t ∙ ap (λ x. xs ++ x) (ap (λ x. zeros k ++ x) d ∙ (replicate-append-replicate k s 0 ∙ ap zeros m)))

-- a number over the last one that was written, or behind it
pub padded_set : (size : ℕ) (xs : List ℕ) (i v : ℕ) → i ≤ length xs → length xs ≤ i + 1 → i < size → set (padded size xs) i v ≡ padded size (take i xs ++ v ∷ [])
unfolding padded
padded_set size xs i v lo hi fits =
    let z : List ℕ = zeros (size - length xs) in
    let lz : length z ≡ size - length xs = length-replicate (size - length xs) 0 in
    let la : length (xs ++ z) ≡ length xs + length z = length-append xs z in
    let s : set (xs ++ z) i v ≡ take i (xs ++ z) ++ v ∷ drop (suc i) (xs ++ z) = set_split (xs ++ z) i v (omega arith) in
    let t : take i (xs ++ z) ≡ take i xs = take-append-le i xs z lo in
    let n : length xs + (suc i - length xs) ≡ suc i = omega arith in
    let d : drop (suc i) (xs ++ z) ≡ zeros (size - length xs - (suc i - length xs)) = ap (λ k. drop k (xs ++ z)) (sym n) ∙ (sym (drop-drop (suc i - length xs) (length xs) (xs ++ z)) ∙ (ap (drop (suc i - length xs)) (drop_at xs z (length xs) refl) ∙ drop-replicate (suc i - length xs) (size - length xs) 0)) in
    let lt : length (take i xs) ≡ i = length-take-le i xs lo in
    let lv : length (take i xs ++ v ∷ []) ≡ length (take i xs) + 1 = length-append (take i xs) (v ∷ []) in
    let m : size - length xs - (suc i - length xs) ≡ size - length (take i xs ++ v ∷ []) = omega arith in
    s ∙ (ap (λ x. x ++ v ∷ drop (suc i) (xs ++ z)) t ∙ (ap (λ x. take i xs ++ v ∷ x) (d ∙ ap zeros m) ∙ sym (append_assoc (take i xs) (v ∷ []) (zeros (size - length (take i xs ++ v ∷ []))))))

-- zeros that are written
pub padded_zeros : (size : ℕ) (xs : List ℕ) (k : ℕ) → length xs + k ≤ size → padded size (xs ++ zeros k) ≡ padded size xs
unfolding padded
padded_zeros size xs k fits =
    let z : length (zeros k) ≡ k = length-replicate k 0 in
    let l : length (xs ++ zeros k) ≡ length xs + length (zeros k) = length-append xs (zeros k) in
    let s : ℕ = size - length (xs ++ zeros k) in
    let m : k + s ≡ size - length xs = omega arith in
    append_assoc xs (zeros k) (zeros s) ∙ ap (λ x. xs ++ x) (replicate-append-replicate k s 0 ∙ ap zeros m)
