-- When the table treats two bytes alike: one may stand for the other in every place of every sequence.
use Rattle.std.specs.Prelude.{◌≡◌, ℕ, ◌<◌, List, ◌∷◌, ◌++◌}
use Rattle.text.specs.Table.{table, one_of}
use Rattle.text.specs.Classes.{class_of}

abbrev pub Alike : ℕ → ℕ → Type 0
Alike a b = (before after : List ℕ) → one_of table (before ++ (a ∷ after)) ≡ one_of table (before ++ (b ∷ after))

-- two bytes share a class exactly when the table treats them alike
abbrev pub ClassesTell : Type 0
ClassesTell = (a b : ℕ) → a < 256 → b < 256 → (class_of a ≡ class_of b → Alike a b) × (Alike a b → class_of a ≡ class_of b)
