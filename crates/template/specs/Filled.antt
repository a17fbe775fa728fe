-- A template: words with marks in them, each for the next of some numbers. The other letters stand for themselves; no text of this repository needs a mark's letter.
use Rattle.std.specs.Prelude.{ℕ, List, [], ◌∷◌, ◌++◌, Option, Some, None, eqb, get_or, drop}
use Rattle.picks.specs.Pick.{pick}
use Rattle.show.specs.Text.{digits, decimal_text}
use Rattle.template.specs.declared.Mark.{Mark}
use Rattle.template.specs.declared.Mark.TheVariants.{Decimal, LastSix, Hex2, Hex4, Hex8}

-- the mark that a letter is, if it is one
unfoldable pub mark_of : ℕ → Option Mark
mark_of c = pick (eqb c 35) (Some Decimal) (pick (eqb c 94) (Some LastSix) (pick (eqb c 64) (Some Hex2) (pick (eqb c 38) (Some Hex4) (pick (eqb c 42) (Some Hex8) None))))

-- what a letter stands for, at a number
unfoldable pub letter_text : ℕ → ℕ → List ℕ
letter_text c n =
    -- # is the number in decimal, and ^ its last six digits
    pick (eqb c 35) (decimal_text n)
    (pick (eqb c 94) (digits 10 6 n)
    -- @, & and * are its last two, four and eight digits in hex
    (pick (eqb c 64) (digits 16 2 n)
    (pick (eqb c 38) (digits 16 4 n)
    (pick (eqb c 42) (digits 16 8 n) (c ∷ [])))))

-- how many numbers a letter takes: a mark one
unfoldable pub taken : ℕ → ℕ
taken c = pick (eqb c 35) 1 (pick (eqb c 94) 1 (pick (eqb c 64) 1 (pick (eqb c 38) 1 (pick (eqb c 42) 1 0))))

-- the words with the numbers in them; a mark for which no number is left has 0
unfoldable pub filled : List ℕ → List ℕ → List ℕ
filled [] numbers = []
filled (c ∷ words) numbers = letter_text c (get_or numbers 0 0) ++ filled words (drop (taken c) numbers)
