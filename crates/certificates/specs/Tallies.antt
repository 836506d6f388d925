-- The counts of lines, and one line more.
use Rattle.std.specs.Prelude.{ℕ, ◌+◌}
use Rattle.certificates.specs.declared.tally.Tally.{Tally}
use Rattle.certificates.specs.declared.tally.Outcome.{Outcome}
use Rattle.certificates.specs.declared.tally.Outcome.TheVariants.{Certified, Refused, Axle, End, Unknown, Damaged}

pub record Counts : Type 0 where
  pub lines : ℕ
  pub certified : ℕ
  pub refused : ℕ
  pub axle : ℕ
  pub end : ℕ
  pub unknown : ℕ
  pub damaged : ℕ

abbrev pub none : Counts
none = record { lines = 0; certified = 0; refused = 0; axle = 0; end = 0; unknown = 0; damaged = 0 }

abbrev pub counts : Tally → Counts
counts t = record { lines = t.lines; certified = t.certified; refused = t.refused; axle = t.axle; end = t.end; unknown = t.unknown; damaged = t.damaged }

-- with one line more, of the given outcome
abbrev pub counted : Outcome → Counts → Counts
counted Certified n = record { lines = n.lines + 1; certified = n.certified + 1; refused = n.refused; axle = n.axle; end = n.end; unknown = n.unknown; damaged = n.damaged }
counted Refused n = record { lines = n.lines + 1; certified = n.certified; refused = n.refused + 1; axle = n.axle; end = n.end; unknown = n.unknown; damaged = n.damaged }
counted Axle n = record { lines = n.lines + 1; certified = n.certified; refused = n.refused; axle = n.axle + 1; end = n.end; unknown = n.unknown; damaged = n.damaged }
counted End n = record { lines = n.lines + 1; certified = n.certified; refused = n.refused; axle = n.axle; end = n.end + 1; unknown = n.unknown; damaged = n.damaged }
counted Unknown n = record { lines = n.lines + 1; certified = n.certified; refused = n.refused; axle = n.axle; end = n.end; unknown = n.unknown + 1; damaged = n.damaged }
counted Damaged n = record { lines = n.lines + 1; certified = n.certified; refused = n.refused; axle = n.axle; end = n.end; unknown = n.unknown; damaged = n.damaged + 1 }
