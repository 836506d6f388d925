-- A view, written part after part.
use Rattle.std.proofs.Common.{◌≡◌, ℕ, ◌+◌, ◌-◌, ◌≤◌, List, ◌++◌, length, take, sym, refl, ap, ◌∙◌, append_assoc, arith}
use lib.Seq.{paste}
use Rattle.std.proofs.lemmas.List.Edits.{paste-paste}
use Rattle.std.proofs.lemmas.List.{length-append, length-replicate}
use Rattle.writing.specs.Padding.{zeros}
use Rattle.view_cells.specs.Views.{word_bytes, short_view, long_view}

-- a write that goes on where one ended
pub paste_on : (d x y s t : List ℕ) (at to n m k : ℕ) → x ≡ paste d at s n → y ≡ paste x to t m → n ≡ length s → m ≡ length t → to ≡ at + n → k ≡ n + m → at ≤ length d → y ≡ paste d at (s ++ t) k
paste_on d x y s t at to n m k p q a b c e l =
    let h : paste (paste d at s n) (at + n) t m ≡ paste d at (s ++ t) (n + m) = paste-paste d at s t n m a b l in
    let i : paste x to t m ≡ paste (paste d at s n) (at + n) t m = ap (λ z. paste z to t m) p ∙ ap (λ z. paste (paste d at s n) z t m) c in
    q ∙ (i ∙ (h ∙ ap (paste d at (s ++ t)) (sym e)))

pub short_written : (d x y z t : List ℕ) (at n : ℕ) → x ≡ paste d at (word_bytes (length t)) 4 → y ≡ paste x (at + 4) t (length t) → z ≡ paste y (at + 4 + length t) (zeros n) n → n ≡ 12 - length t → length t ≤ 12 → at ≤ length d → z ≡ paste d at (short_view t) 16
short_written d x y z t at n p q r e h l =
    let w : List ℕ = word_bytes (length t) in
    let a : length (w ++ t) ≡ 4 + length t = length-append w t in
    let f : y ≡ paste d at (w ++ t) (4 + length t) = paste_on d x y w t at (at + 4) 4 (length t) (4 + length t) p q refl refl refl refl l in
    let g : z ≡ paste d at ((w ++ t) ++ zeros n) 16 = paste_on d y z (w ++ t) (zeros n) at (at + 4 + length t) (4 + length t) n 16 f r (sym a) (sym (length-replicate n 0)) (omega arith) (omega arith) l in
    g ∙ (ap (λ s. paste d at s 16) (append_assoc w t (zeros n)) ∙ ap (λ k. paste d at (w ++ (t ++ zeros k)) 16) e)

pub long_written : (d w x y z t u : List ℕ) (at b o : ℕ) → w ≡ paste d at (word_bytes (length t)) 4 → x ≡ paste w (at + 4) u 4 → y ≡ paste x (at + 8) (word_bytes b) 4 → z ≡ paste y (at + 12) (word_bytes o) 4 → u ≡ take 4 t → length u ≡ 4 → at ≤ length d → z ≡ paste d at (long_view t b o) 16
long_written d w x y z t u at b o p q r s e h l =
    let n : List ℕ = word_bytes (length t) in
    let a : length (n ++ u) ≡ 8 = length-append n u ∙ ap (λ k. 4 + k) h in
    let f : x ≡ paste d at (n ++ u) 8 = paste_on d w x n u at (at + 4) 4 4 8 p q refl (sym h) refl refl l in
    let c : length ((n ++ u) ++ word_bytes b) ≡ 12 = length-append (n ++ u) (word_bytes b) ∙ ap (λ k. k + 4) a in
    let g : y ≡ paste d at ((n ++ u) ++ word_bytes b) 12 = paste_on d x y (n ++ u) (word_bytes b) at (at + 8) 8 4 12 f r (sym a) refl refl refl l in
    let k : z ≡ paste d at (((n ++ u) ++ word_bytes b) ++ word_bytes o) 16 = paste_on d y z ((n ++ u) ++ word_bytes b) (word_bytes o) at (at + 12) 12 4 16 g s (sym c) refl refl refl l in
    let m : ((n ++ u) ++ word_bytes b) ++ word_bytes o ≡ n ++ (u ++ (word_bytes b ++ word_bytes o)) = append_assoc (n ++ u) (word_bytes b) (word_bytes o) ∙ append_assoc n u (word_bytes b ++ word_bytes o) in
    k ∙ (ap (λ v. paste d at v 16) m ∙ ap (λ v. paste d at (n ++ (v ++ (word_bytes b ++ word_bytes o))) 16) e)
