use Rattle.std.proofs.Common.{◌≡◌, List, map, length, IfOk, IfErr, Ok, Err, vec_items, Result, sym, ap, ◌∙◌, subst, MatchResult}
use lib.ListN.{length-map}
use Rattle.book.specs.Requests.{asked_rows}
use Rattle.book.specs.Runs.{Runs}
use Rattle.output.specs.Rows.{nulls_in, row_of}
use Rattle.source.specs.Rows.{Row}
use Rattle.runs.proofs.running.run_and_finish.Goals as goal

made_more : {X Y : Type 0} (r : Result X Y) (P Q : X → Type 0) → ((x : X) → P x → Q x) → IfOk r P → IfOk r Q
made_more (Ok x) P Q f p = f x p
made_more (Err e) P Q f p = tt

-- what was refused left the output as it was
as_found : {X Y Z : Type 0} (r : Result X Y) (P : X → Type 0) (out last : Z) (f : Z → List Row) (rows : List Row)
    → MatchResult r P (λ _. last ≡ out) → rows ≡ f last → IfErr r (λ _. rows ≡ f out)
as_found (Ok x) P out last f rows c e = tt
as_found (Err y) P out last f rows c e = e ∙ ap f c

pub returns : goal.returns
returns g c =
    let O = g.O.Output in
    let o = c.args.out in
    let last = c.run-told.new.out in
    let qs = g.L.CallList.requests c.args.calls.now in
    let e = c.finish-memory.ensures in
    record {
      runs = made_more c.run-told.result _ _
          (λ v p over. let P : List Row → Type 0 = λ rows. Runs (O.terms o).rule (map row_of (O.kept o)) (map asked_rows qs) (vec_items v) rows in subst P (sym e.reading) (p over))
          c.run-told.ensures.runs;
      untouched = as_found c.run-told.result _ o last (λ x. map row_of (O.kept x)) _ c.run-told.ensures.kept e.reading;
      accepted = e.accepted;
      rows = e.rows ∙ sym (length-map (O.kept last) row_of) ∙ ap length (sym e.reading);
      nulls = e.nulls ∙ ap nulls_in (sym e.reading);
    }
