-- Memory that was cleared is all zeros.
use Rattle.std.proofs.Common.{◌≡◌, ℕ, zero, suc, ◌+◌, ◌∷◌, ◌++◌, map, length, replicate, ℤ, pos, refl, ap, ◌∙◌, arith}
use Rattle.std.proofs.lemmas.List.{length-append, length-map, replicate-append-replicate}
use Rattle.offset_output.specs.Memories.{code, laid, memory_of}
use Rattle.offset_output.specs.declared.memory.Memory.{Memory}
use Rattle.writing.specs.Padding.{zeros}

code_zeros : (n : ℕ) → map code (replicate n (pos 0)) ≡ zeros n
code_zeros zero = refl
code_zeros (suc n) = ap (λ xs. 0 ∷ xs) (code_zeros n)

laid_zeros : (l v b : ℕ) → laid (replicate l (pos 0)) (zeros v) (zeros b) ≡ zeros (l + (v + b))
laid_zeros l v b =
    ap (λ os. os ++ (zeros v ++ zeros b)) (code_zeros l) ∙ (ap (λ xs. zeros l ++ xs) (replicate-append-replicate v b 0) ∙ replicate-append-replicate l (v + b) 0)

-- k is m cleared
pub cleared : {W : Type 0} (number : W → ℤ) (m k : Memory W) → map number k.offsets.now ≡ replicate (length m.offsets.now) (pos 0) → k.values.now ≡ zeros (length m.values.now) → k.validity.now ≡ zeros (length m.validity.now) → memory_of number k ≡ zeros (length (memory_of number m))
cleared number m k eo ev eb =
    let os = map number m.offsets.now in
    let a = length-append (map code os) (m.values.now ++ m.validity.now) in
    let b = length-append m.values.now m.validity.now in
    let c = length-map os code in
    let d = length-map m.offsets.now number in
    let n : length m.offsets.now + (length m.values.now + length m.validity.now) ≡ length (memory_of number m) = omega arith in
    rw (eo, ev, eb) (laid_zeros (length m.offsets.now) (length m.values.now) (length m.validity.now) ∙ ap zeros n)
