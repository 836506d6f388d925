use Rattle.std.proofs.Common.{◌≡◌, ℕ, Bool, true, List, [], ◌∷◌, map, length, sym, refl, ap, ◌∙◌, eq-eqb, eqb-true, rules}
use Rattle.book.proofs.Parting.{division_of}
use Rattle.book.specs.Division.{Divides, total}
use Rattle.output.specs.Rows.{on_rows, row_of}
use Rattle.runs.specs.Covers.{covers, some}
use Rattle.runs.proofs.windows.in_windows.Goals as goal
use Rattle.runs.proofs.windows.in_windows.Given as given

some_are : (ws : List ℕ) → (length ws ≡ 0 → ⊥) → some ws ≡ true
some_are [] h = absurd (h refl)
some_are (w ∷ ws) h = refl

none_empty : (ws : List ℕ) → (length ws ≡ 0 → ⊥) → ws ≡ [] → ⊥
none_empty ws h e = h (ap length e)

cover : (ws : List ℕ) (cuttable : Bool) (size : ℕ) → (length ws ≡ 0 → ⊥) → cuttable ≡ true → total ws ≡ size → covers cuttable size ws ≡ true
cover ws cuttable size h c e = rw (some_are ws h, c) (eq-eqb (total ws) size e)

-- the windows have the call's rows together
sum_is : (g : given.Over) (c : goal.After-make_windows-told g) → total c.args.windows.now ≡ (g.C.Call.request c.args.call.now).size
sum_is g c = eqb-true (total c.args.windows.now) c.rows.result (sym c.total_is.ensures ∙ c.if-not-total_is.false) ∙ c.rows.ensures

pub returns : goal.returns
returns g c =
    let O = g.O.Output in
    let o = c.args.out.now in
    let t = O.terms o in
    let last = c.make_windows-told.new.out in
    let req = g.C.Call.request in
    let call = c.args.call.now in
    let ws = c.args.windows.now in
    let e = c.make_windows-told.ensures in
    let told = c.make_windows-told.result in
    let can : g.C.Divisible.cuttable call ≡ true = sym c.is_cuttable.ensures ∙ c.if-not-is_cuttable.false in
    let law : Divides req g.C.Divisible.part call = search rules in
    let agreed = division_of req g.C.Divisible.part call law t.taken (on_rows t.rule) (O.kept o) ws c.if-windows-eq0.false (sum_is g c) told.all told.rows (O.kept last) e.all e.sum e.kept in
    let none = e.pending (none_empty ws c.if-windows-eq0.false) in
    record {
      covers = sym (cover ws (g.C.Divisible.cuttable call) (req call).size c.if-windows-eq0.false can (sum_is g c));
      told = agreed;
      kept = e.kept;
      book = λ over. let v = e.rows over in
          division_of req g.C.Divisible.part call law row_of t.rule (map row_of (O.kept o)) ws c.if-windows-eq0.false (sum_is g c) told.all told.rows (map row_of (O.kept last)) v.0 v.1 v.2;
      pending = none;
      terms = e.terms;
      memory = λ all whole s k p. g.met.O.Output.fixed last whole (ap (λ u. u.sizes) e.terms ∙ sym s) (sym (agreed.same_rows all) ∙ sym k) (none ∙ sym p);
    }
