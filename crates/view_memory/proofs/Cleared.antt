-- Memory that holds no rows is all zeros.
use Rattle.std.proofs.Common.{◌≡◌, ℕ, ◌+◌, [], ◌++◌, length, ap, ◌∙◌, arith}
use Rattle.std.proofs.lemmas.List.{length-append, replicate-append-replicate}
use Rattle.view_memory.specs.Layout.{buffers_of, data_of, ends_of, views_of}
use Rattle.view_memory.specs.Memories.{Has, SameSizes, laid, memory_of}
use Rattle.view_memory.specs.declared.memory.Memory.{Memory}
use Rattle.writing.specs.Padding.{zeros}
use Rattle.writing.proofs.Bitmaps.{bitmap_none}
use Rattle.writing.proofs.Padding.{padded_none}

laid_zeros : (v b e d : ℕ) → laid (zeros v) (zeros b) (zeros e) (zeros d) ≡ zeros (v + (b + (e + d)))
laid_zeros v b e d =
    ap (λ x. zeros v ++ (zeros b ++ x)) (replicate-append-replicate e d 0)
    ∙ (ap (λ x. zeros v ++ x) (replicate-append-replicate b (e + d) 0) ∙ replicate-append-replicate v (b + (e + d)) 0)

-- k is m cleared
pub cleared : (m k : Memory) → SameSizes m k → Has k [] → memory_of k ≡ zeros (length (memory_of m))
unfolding buffers_of views_of ends_of data_of
cleared m k z h =
    let v : k.views.now ≡ zeros (length k.views.now) = h.views_are ∙ padded_none (length k.views.now) in
    let b : k.validity.now ≡ zeros (length k.validity.now) = h.bitmap_is ∙ bitmap_none (length k.validity.now) in
    let e : k.ends.now ≡ zeros (length k.ends.now) = h.ends_are ∙ padded_none (length k.ends.now) in
    let d : k.bytes.now ≡ zeros (length k.bytes.now) = h.bytes_are ∙ padded_none (length k.bytes.now) in
    let l = length-append m.views.now (m.validity.now ++ (m.ends.now ++ m.bytes.now)) in
    let p = length-append m.validity.now (m.ends.now ++ m.bytes.now) in
    let q = length-append m.ends.now m.bytes.now in
    let z0 = z.0 in
    let z1 = z.1 in
    let z2 = z.2 in
    let z3 = z.3 in
    let n : length k.views.now + (length k.validity.now + (length k.ends.now + length k.bytes.now)) ≡ length (memory_of m) = omega arith in
    ap (λ x. laid x k.validity.now k.ends.now k.bytes.now) v
    ∙ (ap (λ x. laid (zeros (length k.views.now)) x k.ends.now k.bytes.now) b
    ∙ (ap (λ x. laid (zeros (length k.views.now)) (zeros (length k.validity.now)) x k.bytes.now) e
    ∙ (ap (λ x. laid (zeros (length k.views.now)) (zeros (length k.validity.now)) (zeros (length k.ends.now)) x) d
    ∙ (laid_zeros (length k.views.now) (length k.validity.now) (length k.ends.now) (length k.bytes.now) ∙ ap zeros n))))
