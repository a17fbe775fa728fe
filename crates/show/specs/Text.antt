-- Texts: their letters, their parts, numbers and bytes in words, and a text laid on a page.
use Rattle.std.specs.Prelude.{ℕ, zero, suc, ◌+◌, ◌-◌, ◌/◌, ◌%◌, min, List, [], ◌∷◌, ◌++◌, ltb, eqb, length, take, drop}
use Prim.Native.Char.{code}
use Prim.Native.String.{String, [] as empty, ◌∷◌ as ◌then◌}
use Rattle.picks.specs.Pick.{pick, first}
use Rattle.octets.specs.Octets.{splice}

-- the codes of a text's letters
unfoldable pub letters : String → List ℕ
letters empty = []
letters (c then s) = code c ∷ letters s

-- what stands before the first such mark, and what stands behind it
unfoldable pub until_mark : ℕ → List ℕ → List ℕ
until_mark mark text = take (first (λ c. eqb c mark) text) text

unfoldable pub behind_mark : ℕ → List ℕ → List ℕ
behind_mark mark text = drop (suc (first (λ c. eqb c mark) text)) text

-- the line with this number, from 0; there are no letters on a line that a text does not have
unfoldable pub line_of : ℕ → List ℕ → List ℕ
line_of zero text = until_mark 10 text
line_of (suc n) text = line_of n (behind_mark 10 text)

-- texts in a table, with an end of line behind each; the one with this number, and nothing behind the last
unfoldable pub tabled : List String → List ℕ
tabled [] = []
tabled (s ∷ rest) = letters s ++ (10 ∷ tabled rest)

unfoldable pub entry : ℕ → List String → List ℕ
entry n [] = []
entry zero (s ∷ rest) = letters s
entry (suc n) (s ∷ rest) = entry n rest

-- a digit, 0 to 9 and then A to F
abbrev pub digit_of : ℕ → ℕ
digit_of d = pick (ltb d 10) (48 + d) (55 + d)

-- the last k digits of a number in a base, the highest first
unfoldable pub digits : ℕ → ℕ → ℕ → List ℕ
digits base zero n = []
digits base (suc k) n = digits base k (n / base) ++ (digit_of (n % base) ∷ [])

-- the lowest byte of a number: its two digits in hex
abbrev pub hex_text : ℕ → List ℕ
hex_text n = digits 16 2 n

-- a number of at most k digits in decimal, without zeros in front; a u64 has at most 20
unfoldable pub decimal : ℕ → ℕ → List ℕ
decimal zero n = []
decimal (suc k) n = pick (ltb n 10) [] (decimal k (n / 10)) ++ ((48 + n % 10) ∷ [])

abbrev pub decimal_text : ℕ → List ℕ
decimal_text n = decimal 20 n

-- bytes in hex, with a blank before each
unfoldable pub bytes_text : List ℕ → List ℕ
bytes_text [] = []
bytes_text (b ∷ bs) = letters " " ++ hex_text b ++ bytes_text bs

-- how many bytes follow those that are shown; the first bytes, and how many follow
unfoldable pub more_text : ℕ → List ℕ
more_text n = letters " and " ++ decimal_text n ++ letters " more"

unfoldable pub start_text : List ℕ → ℕ → List ℕ
start_text bytes shown = bytes_text (take shown bytes) ++ pick (ltb shown (length bytes)) (more_text (length bytes - shown)) []

-- a page, and the place on it where the next text goes
pub record Page : Type 0 where
  pub at : ℕ
  pub bytes : List ℕ

abbrev pub page_at : ℕ → List ℕ → Page
page_at at bytes = record { at = at; bytes = bytes }

-- a page with a text laid at its place, which moves behind it; what does not fit is dropped
unfoldable pub laid : Page → List ℕ → Page
laid p text =
    page_at (p.at + min (length text) (length p.bytes - p.at)) (splice p.at text p.bytes)
