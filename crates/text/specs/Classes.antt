-- The class of a byte.
use Rattle.std.specs.Prelude.{ℕ, cond, nat_lt}
use Rattle.text.specs.declared.classes.Class.{Class}
use Rattle.text.specs.declared.classes.Class.TheVariants.{Ascii, Low, Middle, High, LeadTwo, LeadE0, LeadThree, LeadEd, LeadF0, LeadFour, LeadF4, Never}

abbrev pub below : ℕ → ℕ → Class → Class → Class
below b n c d = cond (nat_lt b n) c d

unfoldable pub class_of : ℕ → Class
class_of b =
    below b 0x80 Ascii
    (below b 0x90 Low
    (below b 0xA0 Middle
    (below b 0xC0 High
    (below b 0xC2 Never
    (below b 0xE0 LeadTwo
    (below b 0xE1 LeadE0
    (below b 0xED LeadThree
    (below b 0xEE LeadEd
    (below b 0xF0 LeadThree
    (below b 0xF1 LeadF0
    (below b 0xF4 LeadFour
    (below b 0xF5 LeadF4 Never))))))))))))
