use Rattle.std.proofs.Common.{⊎_elim, arith}
use Rattle.search.proofs.Nearest.{highest_for}
use Rattle.search.proofs.Standing.{none_from}
use Rattle.search.proofs.plain.PlainSearcher.rfind.Goals as goal

-- an empty delimiter, and one longer than the text
pub returns-then-m-eq0 : goal.returns-then-m-eq0
returns-then-m-eq0 c =
    let m = highest_for _ _ _ _ c.as_bytes-delimiter.ensures.value (λ q s. ⊎_elim (λ z. omega (arith, z, s.some)) (λ z. omega (arith, z.1, s.within)) c.then-m-eq0.either) in
    record { place = m.0; meaning = m.1 }

pub places-preserved : goal.places-preserved
places-preserved c = λ q h s. none_from _ _ _ _ c.places.invariant c.loop-k-test.true c.if-text-at.true q (omega arith) s

pub returns-in-places : goal.returns-in-places
returns-in-places c =
    let m = highest_for _ _ _ _ c.as_bytes-delimiter.ensures.value (record { some = omega arith; within = omega arith; reads = λ k h. c.loop-k.invariant k (omega arith) }, c.places.invariant) in
    record { place = m.0; meaning = m.1 }

pub returns-then-text-at : goal.returns-then-text-at
returns-then-text-at c =
    let m = highest_for _ _ _ _ c.as_bytes-delimiter.ensures.value (λ q s. none_from _ _ _ _ c.places.invariant c.loop-k-test.true c.if-text-at.true q (omega arith) s) in
    record { place = m.0; meaning = m.1 }
