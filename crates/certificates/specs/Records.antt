-- The kinds of bench line, and which condition lines stand for a certificate.
use Rattle.std.specs.Prelude.{ℕ, Bool, true, false, cond, ◌&&◌, List, ℤ, is_some, Some, None, Ok, Err, codes, Option, Result, nat_le}
use Rattle.std.specs.Borrow.{Bor}
use Rattle.std.specs.List.{slice_get}
use Rattle.std.specs.Str.{bytes_eq}
use Rattle.fault.specs.declared.Fault.{Fault}
use Rattle.split.specs.Fields.{Part, field_at, left_fields, missing}
use Rattle.trim.specs.Trim.{trimmed}
use Rattle.std.specs.Option.{unwrap_or}
use Rattle.certificates.specs.Numerals.{numeral_of}
use Rattle.certificates.specs.declared.conditions.Condition.{Condition}
use Rattle.certificates.specs.declared.conditions.Refusal.{Refusal}
use Rattle.certificates.specs.declared.conditions.Refusal.TheVariants.{FieldCount, Temperature, Surface, WarmUp}
use Rattle.certificates.specs.declared.kinds.Kind.{Kind}
use Rattle.certificates.specs.declared.kinds.Kind.TheVariants.{ConditionLine, AxleLine, EndLine, UnknownLine}

-- the field at a position of a line cut at `;`, without the spaces around it
abbrev pub unpadded : Result Part Fault → Result (List ℕ) Fault
unpadded (Ok p) = Ok (trimmed true true (codes " ") p.0).0
unpadded (Err e) = Err e

abbrev pub cell : List ℕ → ℤ → Result (List ℕ) Fault
cell line n = unpadded (field_at (codes ";") line n)

-- the nth such field, counted from 0
abbrev pub nth_field : List ℕ → ℕ → List ℕ
nth_field line n = (trimmed true true (codes " ") (unwrap_or (slice_get (left_fields (codes ";") line) n) missing).0).0

-- the kind of a line, by its first field
abbrev pub kind_by : List ℕ → Kind
kind_by letter = cond (bytes_eq letter (codes "C")) ConditionLine (cond (bytes_eq letter (codes "A")) AxleLine (cond (bytes_eq letter (codes "E")) EndLine UnknownLine))

-- the fields of a condition line, and whether it has just these behind its letter
pub record Fields : Type 0 where
  pub temperature : List ℕ
  pub surface : List ℕ
  pub warm : List ℕ
  pub whole : Bool

abbrev pub fields_of : List ℕ → Fields
fields_of line = record {
  temperature = nth_field line 1;
  surface = nth_field line 2;
  warm = nth_field line 3;
  whole = is_some (slice_get (left_fields (codes ";") line) 3) && cond (is_some (slice_get (left_fields (codes ";") line) 4)) false true;
}

abbrev pub from_to : ℕ → ℕ → Option ℕ → Bool
from_to low high None = false
from_to low high (Some n) = nat_le low n && nat_le n high

-- a certificate holds at 150 to 300 tenths of a degree, a dry surface and at least 20 minutes of warm-up
abbrev pub judgement : Fields → Result (Unit {0}) Refusal
judgement f =
    cond f.whole
    (cond (from_to 150 300 (numeral_of f.temperature))
    (cond (bytes_eq f.surface (codes "dry"))
    (cond (from_to 20 999 (numeral_of f.warm)) (Ok tt) (Err WarmUp))
    (Err Surface))
    (Err Temperature))
    (Err FieldCount)

abbrev pub read : Condition → Fields
read c = record { temperature = c.temperature.now; surface = c.surface.now; warm = c.warm_up.now; whole = c.whole }

abbrev pub read_told : Result Condition Fault → Result Fields Fault
read_told (Ok c) = Ok (read c)
read_told (Err e) = Err e

abbrev pub told : Result (Bor (List ℕ)) Fault → Result (List ℕ) Fault
told (Ok s) = Ok s.now
told (Err e) = Err e
