-- Well-formed UTF-8, from the Unicode Standard's table of well-formed byte sequences (Table 3-7).
use Rattle.std.specs.Prelude.{◌≡◌, ℕ, Bool, true, false, ◌&&◌, ◌||◌, List, [], ◌∷◌, ◌++◌, nat_le}

-- the bytes from one to another, both included
pub record Range : Type 0 where
  pub from : ℕ
  pub to : ℕ

abbrev pub ◌to◌ : ℕ → ℕ → Range
◌to◌ a b = record { from = a; to = b }

infixl 70 ◌to◌
-- the table, a row to a line
abbrev pub table : List (List Range)
table =
    (0x00 to 0x7F ∷ [])
    ∷ (0xC2 to 0xDF ∷ 0x80 to 0xBF ∷ [])
    ∷ (0xE0 to 0xE0 ∷ 0xA0 to 0xBF ∷ 0x80 to 0xBF ∷ [])
    ∷ (0xE1 to 0xEC ∷ 0x80 to 0xBF ∷ 0x80 to 0xBF ∷ [])
    ∷ (0xED to 0xED ∷ 0x80 to 0x9F ∷ 0x80 to 0xBF ∷ [])
    ∷ (0xEE to 0xEF ∷ 0x80 to 0xBF ∷ 0x80 to 0xBF ∷ [])
    ∷ (0xF0 to 0xF0 ∷ 0x90 to 0xBF ∷ 0x80 to 0xBF ∷ 0x80 to 0xBF ∷ [])
    ∷ (0xF1 to 0xF3 ∷ 0x80 to 0xBF ∷ 0x80 to 0xBF ∷ 0x80 to 0xBF ∷ [])
    ∷ (0xF4 to 0xF4 ∷ 0x80 to 0x8F ∷ 0x80 to 0xBF ∷ 0x80 to 0xBF ∷ [])
    ∷ []

abbrev pub inside : Range → ℕ → Bool
inside r b = nat_le r.from b && nat_le b r.to

-- the bytes fit the row: as many, and each inside its range
abbrev pub fits : List Range → List ℕ → Bool
fits [] [] = true
fits [] (b ∷ bs) = false
fits (r ∷ rs) [] = false
fits (r ∷ rs) (b ∷ bs) = inside r b && fits rs bs

-- the bytes fit one of the rows
abbrev pub one_of : List (List Range) → List ℕ → Bool
one_of [] s = false
one_of (row ∷ rows) s = fits row s || one_of rows s

abbrev pub sequences : List (List ℕ) → Bool
sequences [] = true
sequences (s ∷ ss) = one_of table s && sequences ss

abbrev pub joined : List (List ℕ) → List ℕ
joined [] = []
joined (s ∷ ss) = s ++ joined ss

-- a text is well-formed iff it is a concatenation of such sequences
abbrev pub WellFormed : List ℕ → Type 0
WellFormed bs = (ss : List (List ℕ)) × ((sequences ss ≡ true) × (joined ss ≡ bs))
