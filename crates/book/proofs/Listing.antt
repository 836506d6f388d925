-- One call more of a list, and the end of the list.
use Rattle.std.proofs.Common.{◌≡◌, ℕ, ◌+◌, ◌≤◌, List, [], ◌∷◌, ◌++◌, map, length, drop, sym, ap, ◌∙◌, append_assoc}
use Rattle.std.proofs.lemmas.List.{drop_all}
use Rattle.output.specs.Rows.{RuleOver}
use Rattle.book.specs.Requests.{Asked}
use Rattle.book.specs.Book.{Answer, answer, after, answers, after_all}

module _ {X Y : Type 0} (f : Y → Asked X) (ys : List Y) (i : ℕ) (rule : RuleOver X) (rows : List X) where
  pub book_end : length ys ≤ i → after_all rule rows (map f (drop i ys)) ≡ rows
  book_end h = ap (λ zs. after_all rule rows (map f zs)) (drop_all i ys h)

  pub answers_end : length ys ≤ i → answers rule rows (map f (drop i ys)) ≡ []
  answers_end h = ap (λ zs. answers rule rows (map f zs)) (drop_all i ys h)

  -- a turn of a loop over calls, each fact as the loop has it
  module _ (y : Y) (left : drop i ys ≡ y ∷ drop (i + 1) ys) (rows' : List X) (kept : rows' ≡ after rule rows (f y)) where
    left_is : map f (drop i ys) ≡ f y ∷ map f (drop (i + 1) ys)
    left_is = ap (map f) left

    pub book_step : (all : List X) → after_all rule rows (map f (drop i ys)) ≡ all → after_all rule rows' (map f (drop (i + 1) ys)) ≡ all
    book_step all inv = ap (λ r. after_all rule r (map f (drop (i + 1) ys))) kept ∙ sym (ap (after_all rule rows) left_is) ∙ inv

    pub answers_step : (told told' all : List Answer) (a : Answer) → a ≡ answer rule rows (f y) → told' ≡ told ++ a ∷ []
        → told ++ answers rule rows (map f (drop i ys)) ≡ all → told' ++ answers rule rows' (map f (drop (i + 1) ys)) ≡ all
    answers_step told told' all a is-a pushed inv =
        ap (λ r. told' ++ answers rule r (map f (drop (i + 1) ys))) kept
        ∙ ap (λ t. t ++ answers rule (after rule rows (f y)) (map f (drop (i + 1) ys))) (pushed ∙ ap (λ b. told ++ b ∷ []) is-a)
        ∙ append_assoc told (answer rule rows (f y) ∷ []) (answers rule (after rule rows (f y)) (map f (drop (i + 1) ys)))
        ∙ sym (ap (λ cs. told ++ answers rule rows cs) left_is) ∙ inv
