-- The calls of a list by their numbers.
use Rattle.std.proofs.Common.{◌≡◌, ℕ, zero, suc, ◌+◌, ◌<◌, List, [], ◌∷◌, length, get_or, drop, Some, None, Option, arith}
use Rattle.std.proofs.lemmas.List.{drop_more}
use Rattle.std.proofs.lemmas.Option.{slice_get-get_or}
use Rattle.std.specs.List.{slice_get}
use Rattle.book.specs.Requests.{AllOver, Over, Request, nothing}
use Rattle.source.specs.Rows.{Row}

module _ (qs : List Request) (i : ℕ) (h : i < length qs) where
  pub call_is : (q : Request) → Some q ≡ slice_get qs i → q ≡ get_or qs i nothing
  call_is q e = let n = slice_get-get_or qs i nothing h in cc

  pub call_there : None ≡ slice_get qs i → ⊥
  call_there e = let n = slice_get-get_or qs i nothing h in let z : ◌≡◌ {A = ℕ} 0 1 = cc in omega arith

  pub left_calls : drop i qs ≡ get_or qs i nothing ∷ drop (i + 1) qs
  left_calls = drop_more qs i nothing h

pub over_at : (base : Option (List Row)) (qs : List Request) (i : ℕ) → i < length qs → AllOver base qs → Over base (get_or qs i nothing).drawn
over_at base [] i h o = absurd (omega arith)
over_at base (q ∷ qs) zero h o = o.0
over_at base (q ∷ qs) (suc i) h o = over_at base qs i (omega arith) o.1
