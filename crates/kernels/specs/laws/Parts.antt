-- Parts of a call's windows.
use Rattle.std.proofs.Common.{◌≡◌, ℕ, ◌+◌, ◌^◌, ◌<◌, ◌≤◌, Bool, true, false, ◌&&◌, List, length, ℤ, None, Option, refl, arith, ltb-true, eq-eqb, le-leb, leb-true}
use Rattle.fault.specs.declared.Fault.{Fault}
use Rattle.fault.specs.declared.Fault.TheVariants.{Window}
use Rattle.source.specs.Rows.{Row}
use Rattle.source.specs.Verdicts.{Verdict, then, unless}
use Rattle.kernels.specs.Cuts.{each_start}
use Rattle.kernels.specs.Spans.{ends, inside, shift}

-- where a part begins
pub shift_is : (first rows at : ℕ) → ends first rows ≡ true → at ≤ rows → shift first at ≡ first + at
shift_is first rows at e h = let l : first + rows < 2 ^ 64 = ltb-true (first + rows) (2 ^ 64) e in omega arith

pub both : (a b : Bool) → (a && b) ≡ true → (a ≡ true) × (b ≡ true)
both true b e = (refl, e)
both false b e = let z : ◌≡◌ {A = ℕ} 0 1 = cc in absurd (omega arith)

-- a verdict of a test and another
pub none_of : (b : Bool) (f : Fault) (v : Verdict) → then (unless b f) v ≡ None → (b ≡ true) × (v ≡ None)
none_of true f v e = (refl, e)
none_of false f v e = let z : ◌≡◌ {A = ℕ} 0 1 = cc in absurd (omega arith)

pub of_none : (b : Bool) (f : Fault) (v : Verdict) → b ≡ true → v ≡ None → then (unless b f) v ≡ None
of_none b f v p q = rw (p, q)

pub is_inside : {X : Type 0} (first rows : ℕ) (listed : List X) → inside first rows listed ≡ true → first + rows ≤ length listed
is_inside first rows listed e = leb-true (first + rows) (length listed) e

pub inside_is : {X : Type 0} (first rows : ℕ) (listed : List X) → first + rows ≤ length listed → inside first rows listed ≡ true
inside_is first rows listed h = le-leb (first + rows) (length listed) h

-- column operands
module _ (listed ds : List Row) (ns : List (Option ℤ)) where
  abbrev pub starts : (f d n rows : ℕ) → Verdict
  starts f d n rows = each_start f rows listed d rows ds n rows ns

  pub starts_free : (f d n rows : ℕ) → starts f d n rows ≡ None → (f + rows ≤ length listed) × (d + rows ≤ length ds) × (n + rows ≤ length ns)
  starts_free f d n rows e =
      let p = none_of (inside f rows listed && (inside d rows ds && inside n rows ns)) Window _ e in
      let q = both (inside f rows listed) _ p.0 in
      let r = both (inside d rows ds) (inside n rows ns) q.1 in
      (is_inside f rows listed q.0, is_inside d rows ds r.0, is_inside n rows ns r.1)

  pub free_starts : (f d n rows : ℕ) → f + rows ≤ length listed → d + rows ≤ length ds → n + rows ≤ length ns → starts f d n rows ≡ None
  free_starts f d n rows a b c =
      let x = inside_is f rows listed a in
      let y = inside_is d rows ds b in
      let z = inside_is n rows ns c in
      let s = eq-eqb rows rows refl in
      rw (x, y, z, s)
