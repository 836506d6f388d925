-- The book of the pieces that an output holds, on the terms on which it takes them.
use Rattle.std.specs.Prelude.{List, map}
use Rattle.output.specs.Rows.{Piece, Terms, on_rows}
use Rattle.book.specs.Book.{Answer, after, after_all, answer, answers}
use Rattle.book.specs.Requests.{Request, asked_by}

module _ (t : Terms) (ps : List Piece) where
  -- the answer to a call, and the pieces after it
  abbrev pub answer_on : Request → Answer
  answer_on q = answer (on_rows t.rule) ps (asked_by t.taken q)

  abbrev pub kept_on : Request → List Piece
  kept_on q = after (on_rows t.rule) ps (asked_by t.taken q)

  -- the same of a list of calls, each upon what the one before left
  abbrev pub answers_on : List Request → List Answer
  answers_on qs = answers (on_rows t.rule) ps (map (asked_by t.taken) qs)

  abbrev pub all_kept_on : List Request → List Piece
  all_kept_on qs = after_all (on_rows t.rule) ps (map (asked_by t.taken) qs)
