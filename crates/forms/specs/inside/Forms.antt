-- The form of a word, by its rule.
use Rattle.std.specs.Prelude.{ℕ, ◌/◌, ◌%◌, Bool, cond, ◌&&◌, eqb, leb, Option, Some, None}
use Rattle.forms.specs.declared.Form.{Form}
use Rattle.forms.specs.declared.Form.TheVariants.{Atom, Plain, Counted}

abbrev pub within : ℕ → ℕ → ℕ → Bool
within low high x = leb low x && leb x high

-- Form: rules 1 and 2 have an atom and a position, 3 to 10 have neither,
-- 11 to 16 have a count alone; there are no others.
unfoldable pub form_from : ℕ → ℕ → ℕ → Option Form
form_from r a n =
    cond (within 1 2 r) (Some (Atom r a n))
    (cond (within 3 10 r) (cond (eqb a 0 && eqb n 0) (Some (Plain r)) None)
    (cond (within 11 16 r) (cond (eqb a 0) (Some (Counted r n)) None) None))

unfoldable pub form_of : ℕ → Option Form
form_of w = form_from (w / 16777216) (w / 65536 % 256) (w % 65536)
