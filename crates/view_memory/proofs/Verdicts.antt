-- What an accepted row has.
use Rattle.std.proofs.Common.{◌≡◌, ℕ, ◌+◌, ◌<◌, ◌≤◌, true, false, cond, not, ◌&&◌, leb, length, None, sym, ap, ◌∙◌, inl, inr, arith}
use Rattle.std.proofs.lemmas.Bool.{le-leb, lt-leb, leb-true, cases_lt, and_from}
use Rattle.fault.specs.declared.Fault.TheVariants.{TooLong, EndsFull, BytesFull}
use Rattle.source.specs.Verdicts.{unless}
use Rattle.source.proofs.Faults.{true_from_unless, then_none}
use Rattle.views.specs.Layout.{Data}
use Rattle.view_memory.specs.Layout.{opens}
use Rattle.view_memory.specs.Rule.{text_verdict, long_verdict}

module _ (E B : ℕ) (d : Data) (n : ℕ) where
  pub text_may : text_verdict E B d n ≡ None → n ≤ 2147483647
  text_may h = leb-true n 2147483647 (true_from_unless (leb n 2147483647) _ (then_none (unless (leb n 2147483647) (TooLong 0)) (cond (leb n 12) None (long_verdict E B d n)) h).0)

  pub long_may : 12 < n → text_verdict E B d n ≡ None → (length d.bytes + n ≤ B) × (opens d n ≡ true → length d.ends < E)
  long_may big h =
      let a = (then_none (unless (leb n 2147483647) (TooLong 0)) (cond (leb n 12) None (long_verdict E B d n)) h).1 in
      let b : long_verdict E B d n ≡ None = ap (λ x. cond x None (long_verdict E B d n)) (sym (lt-leb n 12 big)) ∙ a in
      let p = then_none (unless (not (opens d n && leb E (length d.ends))) (EndsFull 0)) (unless (leb (length d.bytes + n) B) (BytesFull 0)) b in
      let q : not (opens d n && leb E (length d.ends)) ≡ true = true_from_unless _ _ p.0 in (
        leb-true _ _ (true_from_unless _ _ p.1),
        λ o.
            elim (cases_lt (length d.ends) E) [
              | inl l ↦ l
              | inr l ↦
                  let t : (opens d n && leb E (length d.ends)) ≡ true = and_from _ _ o (le-leb E (length d.ends) l) in
                  let z : false ≡ true = ap not (sym t) ∙ q in
                  let y : ◌≡◌ {A = ℕ} 0 1 = cc in
                  absurd (omega arith)
            ],
      )
