use Rattle.std.proofs.Common.{◌≡◌, ℕ, ◌-◌, length, take, drop, replicate, sym, refl, ◌∙◌, arith}
use Rattle.std.proofs.lemmas.List.{get_or-replicate, length-replicate, length-take, length-drop, same_lists}
use Rattle.std.proofs.lemmas.Slice.{put_mid-paste}
use Rattle.writing.proofs.bytes.wipe.Goals as goal

pub returns : goal.returns
returns g c =
    let n : ℕ = c.args.to - c.args.from in
    let z = c.args.zero in
    let xs = c.loop-number.number-items in
    let t : length (take n (drop c.args.from c.args.numbers.now)) ≡ n = simp (length-take, length-drop) (omega arith) in
    let l : length xs ≡ n = omega arith in
    let m : length (replicate n z) ≡ n = length-replicate n z in
    let e : xs ≡ replicate n z = same_lists xs (replicate n z) (omega arith) (λ k d h. c.loop-number.invariant k d (omega arith) ∙ sym (get_or-replicate n k z d (omega arith))) in
    put_mid-paste _ _ c.args.numbers.now xs (replicate n z) n e refl (sym m)
