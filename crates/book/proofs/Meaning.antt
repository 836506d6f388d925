-- The book does what the words say.
use Rattle.std.proofs.Common.{◌≡◌, ℕ, zero, suc, ◌+◌, ◌<◌, List, [], ◌∷◌, ◌++◌, length, get_or, take, Some, None, Ok, Err, Result, sym, refl, ap, ◌∙◌, append_assoc, append-nil, add-zero, zero-add, arith}
use Rattle.std.specs.Result.{result_unwrap_or, result_map_both}
use Rattle.fault.specs.Faults.{placed_at}
use Rattle.fault.specs.declared.Fault.{Fault}
use Rattle.output.specs.Rows.{Rule}
use Rattle.source.specs.Rows.{Row}
use Rattle.source.specs.Verdicts.{Verdict}
use Rattle.book.specs.Requests.{Asked, OfferOver}
use Rattle.book.specs.Book.{Answer, guarded, at_row, fed, answer, after, answers, after_all}
use Rattle.book.specs.Runs.{texts, judged, fault_at, Clear, Answered, Booked, Runs}
use Rattle.book.specs.Runs.Answered.{early, refused, accepted}
use Rattle.book.specs.Runs.Runs.{ended, went}

-- what feeding the offers from row i on comes to
data Found (rule : Rule) (rows : List Row) (i : ℕ) (os : List (OfferOver Row)) : Result (List Row) Fault → Type 0 where
  whole : (all : List Row) → all ≡ rows ++ texts os → Clear rule rows os (length os) → Found rule rows i os (Ok all)
  stop : (f : Fault) (k n : ℕ) → n ≡ i + k → k < length os → Clear rule rows os k → fault_at rule rows os k ≡ Some f → Found rule rows i os (Err (placed_at n f))

module _ (rule : Rule) (rows : List Row) (row : Row) (os : List (OfferOver Row)) where
  first : fault_at rule rows (Ok row ∷ os) 0 ≡ rule rows row
  first = ap (λ r. rule r row) (append-nil rows)

  later : (j : ℕ) → fault_at rule rows (Ok row ∷ os) (suc j) ≡ fault_at rule (rows ++ row ∷ []) os j
  later j = ap (λ r. judged rule r (get_or os j (Ok None))) (sym (append_assoc rows (row ∷ []) (texts (take j os))))

  clear_more : rule rows row ≡ None → (k : ℕ) → Clear rule (rows ++ row ∷ []) os k → Clear rule rows (Ok row ∷ os) (suc k)
  clear_more v k h zero l = first ∙ v
  clear_more v k h (suc j) l = later j ∙ h j (omega arith)

found : (rule : Rule) (rows : List Row) (i : ℕ) (os : List (OfferOver Row)) → Found rule rows i os (fed rule rows i os)
found rule rows i [] = whole rows (sym (append-nil rows)) (λ j h. absurd (omega arith))
found rule rows i (Err f ∷ os) = stop f 0 i (sym (add-zero i)) (omega arith) (λ j h. absurd (omega arith)) refl
found rule rows i (Ok row ∷ os) =
    let next = found rule (rows ++ row ∷ []) (i + 1) os in
    let more : rule rows row ≡ None → (m : Result (List Row) Fault) → Found rule (rows ++ row ∷ []) (i + 1) os m → Found rule rows i (Ok row ∷ os) m
    = λ v m h. elim h as (λ m _. Found rule rows i (Ok row ∷ os) m) [
      | whole all e q ↦ whole all (e ∙ append_assoc rows (row ∷ []) (texts os)) (clear_more rule rows row os v (length os) q)
      | stop f k n e l q w ↦ stop f (suc k) n (omega arith) (omega arith) (clear_more rule rows row os v k q) (later rule rows row os k ∙ w)
    ] in
    let go : (v : Verdict) → rule rows row ≡ v → Found rule rows i (Ok row ∷ os) (guarded (at_row i v) (fed rule (rows ++ row ∷ []) (i + 1) os))
    = λ v. elim v as (λ v. rule rows row ≡ v → Found rule rows i (Ok row ∷ os) (guarded (at_row i v) (fed rule (rows ++ row ∷ []) (i + 1) os))) [
      | None ↦ λ e. more e _ next
      | Some f ↦ λ e. stop f 0 i (sym (add-zero i)) (omega arith) (λ j h. absurd (omega arith)) (first rule rows row os ∙ e)
    ]
    in go (rule rows row) refl

pub is_answered : (rule : Rule) (rows : List Row) (c : Asked Row) → Answered rule rows c (answer rule rows c) (after rule rows c)
is_answered rule rows c =
    let late : c.start ≡ None → (m : Result (List Row) Fault) → Found rule rows 0 c.offers m
    → Answered rule rows c (result_map_both (λ _. length c.offers) (λ e. e) m) (result_unwrap_or m rows)
    = λ v m h. elim h as (λ m _. Answered rule rows c (result_map_both (λ _. length c.offers) (λ e. e) m) (result_unwrap_or m rows)) [
      | whole all e q ↦ rw e (accepted v q)
      | stop f k n e l q w ↦ let z : n ≡ k = e ∙ zero-add k in rw z (refused f k v l q w)
    ] in
    let go : (s : Verdict) → c.start ≡ s
    → Answered rule rows c (result_map_both (λ _. length c.offers) (λ e. e) (guarded s (fed rule rows 0 c.offers))) (result_unwrap_or (guarded s (fed rule rows 0 c.offers)) rows)
    = λ s. elim s as (λ s. c.start ≡ s
    → Answered rule rows c (result_map_both (λ _. length c.offers) (λ e. e) (guarded s (fed rule rows 0 c.offers))) (result_unwrap_or (guarded s (fed rule rows 0 c.offers)) rows))
    [ None ↦ λ e. late e _ (found rule rows 0 c.offers) | Some f ↦ λ e. early f e ]
    in go c.start refl

pub booked_as : (rule : Rule) (rows last : List Row) (c : Asked Row) (told : Answer) → told ≡ answer rule rows c → last ≡ after rule rows c → Booked rule rows c told last
booked_as rule rows last c told p q = record { answer_is = p; rows_are = q; meaning = rw (p, q) (is_answered rule rows c) }

it_runs : (rule : Rule) (rows : List Row) (cs : List (Asked Row)) → Runs rule rows cs (answers rule rows cs) (after_all rule rows cs)
it_runs rule rows [] = ended rows
it_runs rule rows (c ∷ cs) =
    went rows (after rule rows c) (after_all rule (after rule rows c) cs) c cs (answer rule rows c) (answers rule (after rule rows c) cs)
    (is_answered rule rows c) (it_runs rule (after rule rows c) cs)

pub runs_as : (rule : Rule) (rows last : List Row) (cs : List (Asked Row)) (told : List Answer) → told ≡ answers rule rows cs → last ≡ after_all rule rows cs → Runs rule rows cs told last
runs_as rule rows last cs told p q = rw (p, q) (it_runs rule rows cs)
