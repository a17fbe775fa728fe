-- Laws of digits, bytes and lines: what their loops have at the head, after a turn and at the end.
use Prim.Native.Nat.{ℕ, zero, suc, ◌+◌, ◌/◌, ◌^◌, ◌≤◌, ◌<◌}
use native.Mathlib.Omega.{arith}
use native.Mathlib.Nat.{pow-suc}
use mathlib.Core.Path.{◌≡◌, refl, sym, ap, ◌∙◌}
use mathlib.Core.Bool.{Bool, true, false, not, cond}
use Prim.Native.String.{String}
use mathlib.Core.List.{List, [], ◌∷◌, ◌++◌, append_assoc, append-nil}
use lib.Dec.{ltb, eqb}
use lib.ListN.{length, take, drop, get_or, set, length-set, length-append}
use Rattle.std.specs.List.{position, position_or_len, slice_split, onto_first}
use Rattle.std.specs.Prelude.{Option}
use Rattle.std.specs.Option.{unwrap_or}
use Rattle.std.proofs.lemmas.List.{take_more}
use lib.Seq.{drop-cons, get_or-set_same, drop-set-lt, append_snoc, take-append_seam, drop_at}
use borrow.Author.Tests.{ltb-false, lt-ltb, not-true}
use Rattle.picks.specs.Pick.{pick, first, every}
use Rattle.picks.proofs.Keep.{left, right, first_le}
use Rattle.show.specs.Text.{letters, hex_text, decimal, bytes_text, until_mark, line_of, behind_mark, tabled, entry}

-- a place of a list after a store there
pub stored_at : (xs : List ℕ) (i v : ℕ) → i < length xs → drop i (set xs i v) ≡ v ∷ drop (suc i) xs
stored_at xs i v h =
    let l : i < length (set xs i v) = rw length-set h in
    rw (drop-cons (set xs i v) i 0 l, get_or-set_same xs i v 0 h, drop-set-lt (suc i) xs i v (omega arith))

-- the bytes so far, and one more
bytes_append : (a b : List ℕ) → bytes_text (a ++ b) ≡ bytes_text a ++ bytes_text b
unfolding bytes_text
bytes_append [] b = refl
bytes_append (x ∷ a) b = rw (bytes_append a b) (sym (append_assoc (letters " " ++ hex_text x) (bytes_text a) (bytes_text b)))

pub bytes_more : (bytes : List ℕ) (i : ℕ) → i < length bytes → bytes_text (take i bytes) ++ (32 ∷ hex_text (get_or bytes i 0)) ≡ bytes_text (take (i + 1) bytes)
unfolding bytes_text letters
bytes_more bytes i h =
    let b = get_or bytes i 0 in
    rw (take_more bytes i 0 h, bytes_append (take i bytes) (b ∷ []), append-nil (hex_text b)) refl

-- where a search finds an element, or the length
place_cons : {A : Type 0} (f : A → Bool) (x : A) (xs : List A) (t : Bool) → f x ≡ t → position_or_len f xs ≡ first f xs → position_or_len f (x ∷ xs) ≡ first f (x ∷ xs)
unfolding first pick
place_cons f x xs true e more = rw e refl
place_cons f x xs false e more = rw e (omega (arith, more))

place_is : {A : Type 0} (f : A → Bool) (xs : List A) → position_or_len f xs ≡ first f xs
unfolding first
place_is f [] = refl
place_is f (x ∷ xs) = place_cons f x xs (f x) refl (place_is f xs)

pub found : {A : Type 0} (f : A → Bool) (xs : List A) (r : Option ℕ) → r ≡ position f xs → unwrap_or r (length xs) ≡ first f xs
found f xs r e = rw e (go (ltb (position_or_len f xs) (length xs)) refl)
  where
    go : (t : Bool) → ltb (position_or_len f xs) (length xs) ≡ t → unwrap_or (position f xs) (length xs) ≡ first f xs
    go true e = rw e (place_is f xs)
    go false e = rw e (omega (arith, first_le f xs, place_is f xs, ltb-false _ _ e))

-- the parts of a text between its ends of line: the first ends at the first of them, and the next ones are those of what stands behind it
onto_head : (x : ℕ) (parts : List (List ℕ)) → get_or (onto_first x parts) 0 [] ≡ x ∷ get_or parts 0 []
onto_head x [] = refl
onto_head x (part ∷ parts) = refl

onto_next : (x n : ℕ) (parts : List (List ℕ)) → get_or (onto_first x parts) (suc n) [] ≡ get_or parts (suc n) []
onto_next x n [] = refl
onto_next x n (part ∷ parts) = refl

head_part : (text : List ℕ) → get_or (slice_split (λ c. eqb c 10) text) 0 [] ≡ until_mark 10 text
unfolding until_mark first pick
head_part [] = refl
head_part (x ∷ xs) = go (eqb x 10) (head_part xs)
  where
    go : (b : Bool) → get_or (slice_split (λ c. eqb c 10) xs) 0 [] ≡ until_mark 10 xs → get_or (cond b ([] ∷ slice_split (λ c. eqb c 10) xs) (onto_first x (slice_split (λ c. eqb c 10) xs))) 0 [] ≡ take (pick b 0 (suc (first (λ c. eqb c 10) xs))) (x ∷ xs)
    go true e = refl
    go false e = rw (onto_head x (slice_split (λ c. eqb c 10) xs), e) refl

next_part : (n : ℕ) (text : List ℕ) → get_or (slice_split (λ c. eqb c 10) text) (suc n) [] ≡ get_or (slice_split (λ c. eqb c 10) (behind_mark 10 text)) n []
unfolding behind_mark first pick
next_part zero [] = refl
next_part (suc n) [] = refl
next_part n (x ∷ xs) = go (eqb x 10) (next_part n xs)
  where
    go : (b : Bool) → get_or (slice_split (λ c. eqb c 10) xs) (suc n) [] ≡ get_or (slice_split (λ c. eqb c 10) (behind_mark 10 xs)) n [] → get_or (cond b ([] ∷ slice_split (λ c. eqb c 10) xs) (onto_first x (slice_split (λ c. eqb c 10) xs))) (suc n) [] ≡ get_or (slice_split (λ c. eqb c 10) (drop (pick b 0 (suc (first (λ c. eqb c 10) xs))) xs)) n []
    go true e = refl
    go false e = onto_next x n (slice_split (λ c. eqb c 10) xs) ∙ e

-- a line is the part with its number
pub line_part : (n : ℕ) (text : List ℕ) → get_or (slice_split (λ c. eqb c 10) text) n [] ≡ line_of n text
unfolding line_of
line_part zero text = head_part text
line_part (suc n) text = next_part n text ∙ line_part n (behind_mark 10 text)

-- a text has no end of line in it
abbrev pub inline : List ℕ → Bool
inline text = every (λ c. not (eqb c 10)) text

-- the first line of a text, and what stands behind it
line_length : (a rest : List ℕ) → inline a ≡ true → first (λ c. eqb c 10) (a ++ (10 ∷ rest)) ≡ length a
unfolding first pick every
line_length [] rest h = refl
line_length (x ∷ a) rest h =
    let e : eqb x 10 ≡ false = not-true (eqb x 10) (left (not (eqb x 10)) (inline a) h) in
    rw e (ap suc (line_length a rest (right (not (eqb x 10)) (inline a) h)))

until_end : (a rest : List ℕ) → inline a ≡ true → until_mark 10 (a ++ (10 ∷ rest)) ≡ a
unfolding until_mark
until_end a rest h = rw (line_length a rest h) (take-append_seam a (10 ∷ rest))

behind_end : (a rest : List ℕ) → inline a ≡ true → behind_mark 10 (a ++ (10 ∷ rest)) ≡ rest
unfolding behind_mark
behind_end a rest h = rw (line_length a rest h, ← append_snoc a 10 rest) (drop_at (a ++ (10 ∷ [])) rest (suc (length a)) (simp length-append (omega arith)))

-- no line of an empty text has a letter
line_none : (n : ℕ) → line_of n [] ≡ []
unfolding line_of until_mark behind_mark first
line_none zero = refl
line_none (suc n) = line_none n

-- a line of a table is its text
pub table_line : (n : ℕ) (table : List String) → every (λ s. inline (letters s)) table ≡ true → line_of n (tabled table) ≡ entry n table
unfolding line_of tabled entry every
table_line n [] h = line_none n
table_line zero (s ∷ rest) h = until_end (letters s) (tabled rest) (left (inline (letters s)) _ h)
table_line (suc n) (s ∷ rest) h = rw (behind_end (letters s) (tabled rest) (left (inline (letters s)) _ h)) (table_line n rest (right (inline (letters s)) _ h))

-- no text stands behind the last
pub entry_past : (n : ℕ) (list : List String) → length list ≤ n → entry n list ≡ []
unfolding entry
entry_past n [] h = refl
entry_past zero (s ∷ rest) h = absurd (omega arith)
entry_past (suc n) (s ∷ rest) h = entry_past n rest (omega arith)

-- a number below 10 ^ k has no digit more than k: a u64 is below 10 ^ 20
pub decimal_whole : (k n : ℕ) → n < 10 ^ suc k → decimal (suc (suc k)) n ≡ decimal (suc k) n
unfolding decimal pick
decimal_whole zero n h = rw (lt-ltb n 10 (omega (arith, h, pow-suc 10 zero)))
decimal_whole (suc k) n h = rw (decimal_whole k (n / 10) (omega (arith, h, pow-suc 10 (suc k))))
