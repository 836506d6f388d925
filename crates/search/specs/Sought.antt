-- What a finder seeks.
use Rattle.std.specs.Prelude.{ℕ, List, [], ◌∷◌}
use Rattle.search.specs.declared.finder.Finder.{Finder}
use Rattle.search.specs.declared.finder.Finder.TheVariants.{Byte, Text}

abbrev pub sought : Finder → List ℕ
sought (Byte one) = one.byte ∷ []
sought (Text plain) = plain.delimiter.now
