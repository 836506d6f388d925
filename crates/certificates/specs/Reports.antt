-- How refusals are printed.
use Rattle.std.specs.Prelude.{ℕ, List, codes}
use Rattle.certificates.specs.declared.conditions.Refusal.{Refusal}
use Rattle.certificates.specs.declared.conditions.Refusal.TheVariants.{FieldCount, Temperature, Surface, WarmUp}

abbrev pub refusal_text : Refusal → List ℕ
refusal_text FieldCount = codes "not a letter and three fields"
refusal_text Temperature = codes "temperature is not a number from 150 to 300 tenths of a degree"
refusal_text Surface = codes "surface is not dry"
refusal_text WarmUp = codes "warm-up is not a number of at least 20 minutes"

abbrev pub too_many : List ℕ
too_many = codes "more lines than can be counted"
