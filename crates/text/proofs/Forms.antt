-- The test `formed`, the table's definition, and `std`'s `Utf8` agree; joinings are well-formed.
use Rattle.std.proofs.Common.{◌≡◌, ℕ, true, List, [], ◌∷◌, ◌++◌, IsUtf8, Decides, refl, ap}
use Rattle.std.proofs.lemmas.Bool.{false≢true}
use Rattle.std.proofs.lemmas.Str.{IsUtf8-append}
use Rattle.text.specs.Table.{WellFormed, joined}
use Rattle.text.specs.Steps.{run, is_start, formed}
use Rattle.text.specs.Cutting.{EachFormed}
use Rattle.text.specs.declared.checker.State.{State}
use Rattle.text.specs.declared.checker.State.TheVariants.{Start, One, Two, Three, AfterE0, AfterEd, AfterF0, AfterF4, Broken}
use Rattle.text.proofs.Language.{accepted, accepts}
use Rattle.text.proofs.Std.{utf8_from_well_formed, well_formed_from_utf8}

start_from_test : (s : State) → is_start s ≡ true → s ≡ Start
start_from_test Start e = refl
start_from_test One e = absurd (false≢true e)
start_from_test Two e = absurd (false≢true e)
start_from_test Three e = absurd (false≢true e)
start_from_test AfterE0 e = absurd (false≢true e)
start_from_test AfterEd e = absurd (false≢true e)
start_from_test AfterF0 e = absurd (false≢true e)
start_from_test AfterF4 e = absurd (false≢true e)
start_from_test Broken e = absurd (false≢true e)

pub formed_decides : (bs : List ℕ) → Decides (formed bs) (WellFormed bs)
unfolding formed
formed_decides bs = (λ e. accepted bs (start_from_test (run Start bs) e), λ w. ap is_start (accepts bs w))

-- the same of `std`'s word, for the crates above
pub utf8_from_formed : (bs : List ℕ) → formed bs ≡ true → IsUtf8 bs
utf8_from_formed bs e = utf8_from_well_formed bs ((formed_decides bs).0 e)

pub formed_from_utf8 : (bs : List ℕ) → IsUtf8 bs → formed bs ≡ true
formed_from_utf8 bs u = (formed_decides bs).1 (well_formed_from_utf8 bs u)

pub joining_formed : (ts : List (List ℕ)) → EachFormed ts → WellFormed (joined ts)
joining_formed [] e = ([], (refl, refl))
joining_formed (t ∷ ts) e =
    well_formed_from_utf8 (t ++ joined ts) (IsUtf8-append t (joined ts) (utf8_from_well_formed t e.0) (utf8_from_well_formed (joined ts) (joining_formed ts e.1)))
