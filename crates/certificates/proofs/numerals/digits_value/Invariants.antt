use Rattle.std.proofs.Common.{◌≡◌, drop, Some}
use Rattle.certificates.specs.Numerals.{digits_behind}
use Rattle.certificates.proofs.numerals.digits_value.Given as goal

-- what is left of the digits leads from `value` to where all of them lead
abbrev pub invariant-loop-digit : goal.invariant-loop-digit
invariant-loop-digit l = digits_behind (Some l.value) (drop l.digit-index l.digits) ≡ digits_behind (Some 0) l.digits
