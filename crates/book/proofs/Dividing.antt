-- Feeding a call's rows in one go, and in consecutive windows.
use Rattle.std.proofs.Common.{◌≡◌, ℕ, ◌+◌, Bool, true, false, cond, List, [], ◌∷◌, ◌++◌, length, is_some, is_ok, Some, None, Ok, Err, Option, Result, sym, refl, ap, ◌∙◌, arith, length-append}
use Rattle.std.specs.Result.{result_ok, result_unwrap_or, result_map_both}
use Rattle.fault.specs.declared.Fault.{Fault}
use Rattle.output.specs.Rows.{RuleOver}
use Rattle.source.specs.Verdicts.{Verdict}
use Rattle.book.specs.Requests.{Asked, OfferOver}
use Rattle.book.specs.Book.{guarded, at_row, fed, met, answer, after, answers, after_all}
use Rattle.book.specs.Division.{all_taken, sum_told, Agreed}

abbrev next : {X Y : Type 0} → Option X → (X → Option Y) → Option Y
next None f = None
next (Some x) f = f x

never : {X : Type 0} (x : X) → ◌≡◌ {A = Option X} None (Some x) → ⊥
never x e = let z : ◌≡◌ {A = ℕ} 0 1 = cc in omega arith

apart : ◌≡◌ {A = Bool} false true → ⊥
apart e = let z : ◌≡◌ {A = ℕ} 0 1 = cc in omega arith

module _ {X : Type 0} where
  -- from which number rows are counted does not matter to what is taken
  fed_shift : (rule : RuleOver X) (rows : List X) (i j : ℕ) (os : List (OfferOver X)) → result_ok (fed rule rows i os) ≡ result_ok (fed rule rows j os)
  fed_shift rule rows i j [] = refl
  fed_shift rule rows i j (Err f ∷ os) = refl
  fed_shift rule rows i j (Ok row ∷ os) =
      elim (rule rows row) as (λ v. result_ok (guarded (at_row i v) (fed rule (rows ++ row ∷ []) (i + 1) os)) ≡ result_ok (guarded (at_row j v) (fed rule (rows ++ row ∷ []) (j + 1) os)))
      [ None ↦ fed_shift rule (rows ++ row ∷ []) (i + 1) (j + 1) os | Some f ↦ refl ]

  -- the core: feeding xs and then ys is feeding xs ++ ys
  pub fed_append : (rule : RuleOver X) (rows : List X) (i j : ℕ) (xs ys : List (OfferOver X))
      → result_ok (fed rule rows i (xs ++ ys)) ≡ next (result_ok (fed rule rows i xs)) (λ r. result_ok (fed rule r j ys))
  fed_append rule rows i j [] ys = fed_shift rule rows i j ys
  fed_append rule rows i j (Err f ∷ xs) ys = refl
  fed_append rule rows i j (Ok row ∷ xs) ys =
      elim (rule rows row) as (λ v. result_ok (guarded (at_row i v) (fed rule (rows ++ row ∷ []) (i + 1) (xs ++ ys)))
      ≡ next (result_ok (guarded (at_row i v) (fed rule (rows ++ row ∷ []) (i + 1) xs))) (λ r. result_ok (fed rule r j ys)))
      [ None ↦ fed_append rule (rows ++ row ∷ []) (i + 1) j xs ys | Some f ↦ refl ]

  abbrev pub joined : List (Asked X) → List (OfferOver X)
  joined [] = []
  joined (w ∷ ws) = w.offers ++ joined ws

  abbrev pub AllNone : List (Asked X) → Type 0
  AllNone [] = Unit {0}
  AllNone (w ∷ ws) = (w.start ≡ None) × AllNone ws

  abbrev through : RuleOver X → List X → List (Asked X) → Option (List X)
  through rule rows [] = Some rows
  through rule rows (w ∷ ws) = next (result_ok (met rule rows w)) (λ r. through rule r ws)

  all_through : (rule : RuleOver X) (rows : List X) (ws : List (Asked X)) → all_taken (answers rule rows ws) ≡ is_some (through rule rows ws)
  all_through rule rows [] = refl
  all_through rule rows (w ∷ ws) =
      elim (met rule rows w) as (λ m. cond (is_ok (result_map_both (λ _. length w.offers) (λ e. e) m)) (all_taken (answers rule (result_unwrap_or m rows) ws)) false
      ≡ is_some (next (result_ok m) (λ r. through rule r ws)))
      [ Ok r ↦ all_through rule r ws | Err e ↦ refl ]

  through_gives : (rule : RuleOver X) (rows : List X) (ws : List (Asked X)) (r : List X) → through rule rows ws ≡ Some r
      → (after_all rule rows ws ≡ r) × (sum_told (answers rule rows ws) ≡ length (joined ws))
  through_gives rule rows [] r e = ((cc), refl)
  through_gives rule rows (w ∷ ws) r e =
      let go : (m : Result (List X) Fault) → next (result_ok m) (λ s. through rule s ws) ≡ Some r
      → (after_all rule (result_unwrap_or m rows) ws ≡ r)
      × (result_unwrap_or (result_map_both (λ _. length w.offers) (λ e. e) m) 0 + sum_told (answers rule (result_unwrap_or m rows) ws) ≡ length (w.offers ++ joined ws))
      = λ m. elim m as (λ m. next (result_ok m) (λ s. through rule s ws) ≡ Some r
      → (after_all rule (result_unwrap_or m rows) ws ≡ r)
      × (result_unwrap_or (result_map_both (λ _. length w.offers) (λ e. e) m) 0 + sum_told (answers rule (result_unwrap_or m rows) ws) ≡ length (w.offers ++ joined ws))) [
        | Ok s ↦ λ h. let p = through_gives rule s ws r h in (p.0, ap (λ n. length w.offers + n) p.1 ∙ sym (length-append w.offers (joined ws)))
        | Err e ↦ λ h. absurd (never r h)
      ]
      in go (met rule rows w) e

  start_none : (s : Verdict) (m : Result (List X) Fault) (k : List X → Option (List X)) (r : List X) → next (result_ok (guarded s m)) k ≡ Some r → s ≡ None
  start_none None m k r e = refl
  start_none (Some f) m k r e = absurd (never r e)

  through_starts : (rule : RuleOver X) (rows : List X) (ws : List (Asked X)) (r : List X) → through rule rows ws ≡ Some r → AllNone ws
  through_starts rule rows [] r e = tt
  through_starts rule rows (w ∷ ws) r e =
      let go : (m : Result (List X) Fault) → next (result_ok m) (λ s. through rule s ws) ≡ Some r → AllNone ws
      = λ m. elim m as (λ m. next (result_ok m) (λ s. through rule s ws) ≡ Some r → AllNone ws)
      [ Ok s ↦ λ h. through_starts rule s ws r h | Err e ↦ λ h. absurd (never r h) ]
      in (start_none w.start (fed rule rows 0 w.offers) (λ s. through rule s ws) r e, go (met rule rows w) e)

  through_joined : (rule : RuleOver X) (rows : List X) (ws : List (Asked X)) → AllNone ws → through rule rows ws ≡ result_ok (fed rule rows 0 (joined ws))
  through_joined rule rows [] a = refl
  through_joined rule rows (w ∷ ws) a =
      let go : (m : Result (List X) Fault) → next (result_ok m) (λ r. through rule r ws) ≡ next (result_ok m) (λ r. result_ok (fed rule r 0 (joined ws)))
      = λ m. elim m as (λ m. next (result_ok m) (λ r. through rule r ws) ≡ next (result_ok m) (λ r. result_ok (fed rule r 0 (joined ws))))
      [ Ok r ↦ through_joined rule r ws a.1 | Err e ↦ refl ]
      in ap (λ s. next (result_ok (guarded s (fed rule rows 0 w.offers))) (λ r. through rule r ws)) a.0
      ∙ go (fed rule rows 0 w.offers) ∙ sym (fed_append rule rows 0 0 w.offers (joined ws))

  -- a call and the calls that it is cut into
  module _ (rule : RuleOver X) (rows : List X) (w : Asked X) (ws : List (Asked X)) (same : w.offers ≡ joined ws)
      (down : w.start ≡ None → AllNone ws) (up : AllNone ws → w.start ≡ None) where
    divides : through rule rows ws ≡ result_ok (met rule rows w)
    divides =
        let go : (s : Verdict) → w.start ≡ s → through rule rows ws ≡ result_ok (guarded s (fed rule rows 0 w.offers))
        = λ s. elim s as (λ s. w.start ≡ s → through rule rows ws ≡ result_ok (guarded s (fed rule rows 0 w.offers))) [
          | None ↦ λ e. through_joined rule rows ws (down e) ∙ ap (λ os. result_ok (fed rule rows 0 os)) (sym same)
          | Some f ↦ λ e.
              let at : (o : Option (List X)) → through rule rows ws ≡ o → through rule rows ws ≡ None
              = λ o. elim o as (λ o. through rule rows ws ≡ o → through rule rows ws ≡ None)
              [ None ↦ λ h. h | Some r ↦ λ h. absurd (never f (sym (up (through_starts rule rows ws r h)) ∙ e)) ]
              in at (through rule rows ws) refl
        ]
        in go w.start refl

    pub agreed : Agreed (answer rule rows w) (after rule rows w) (all_taken (answers rule rows ws)) (sum_told (answers rule rows ws)) (after_all rule rows ws)
    agreed =
        let go : (m : Result (List X) Fault) → through rule rows ws ≡ result_ok m
        → Agreed (result_map_both (λ _. length w.offers) (λ e. e) m) (result_unwrap_or m rows) (all_taken (answers rule rows ws)) (sum_told (answers rule rows ws)) (after_all rule rows ws)
        = λ m. elim m as (λ m. through rule rows ws ≡ result_ok m
        → Agreed (result_map_both (λ _. length w.offers) (λ e. e) m) (result_unwrap_or m rows) (all_taken (answers rule rows ws)) (sum_told (answers rule rows ws)) (after_all rule rows ws)) [
          | Ok r ↦ λ h. let p = through_gives rule rows ws r h in
              record {
                exactly = all_through rule rows ws ∙ ap is_some h;
                adds_up = λ _. ap Ok (ap length same ∙ sym p.1);
                same_rows = λ _. sym p.0;
              }
          | Err e ↦ λ h.
              let none : all_taken (answers rule rows ws) ≡ false = all_through rule rows ws ∙ ap is_some h in
              record {
                exactly = none;
                adds_up = λ t. absurd (apart (sym none ∙ t));
                same_rows = λ t. absurd (apart (sym none ∙ t));
              }
        ]
        in go (met rule rows w) divides
