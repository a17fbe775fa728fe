-- What the definitions of a reading come to.
use Prim.Native.Nat.{ℕ, ◌-◌}
use mathlib.Core.Path.{◌≡◌, refl, sym, ap, ◌∙◌}
use mathlib.Core.Bool.{true}
use mathlib.Core.List.{List, [], ◌∷◌, ◌++◌}
use Rattle.std.specs.Prelude.{fold}
use Rattle.std.proofs.lemmas.List.Sums.{fold-append}
use Rattle.picks.specs.Pick.{pick, every}
use Rattle.picks.proofs.Keep.{not_both, left, right}
use Rattle.reading.specs.declared.Reading.{Reading}
use Rattle.reading.specs.declared.Piece.{Piece}
use Rattle.reading.specs.declared.Piece.TheVariants.{Other, Whole, First, Next, Last, Again, Abort}
use Rattle.reading.specs.Reading.{REGISTER, crc_of, crc_bits, crc_bit, crc_byte, reading_after, Part, reading_over, is_between, bytes_of, joined}

-- the check value of CRC-32: that of the nine digits 1 to 9
pub crc_check : crc_of (49 ∷ 50 ∷ 51 ∷ 52 ∷ 53 ∷ 54 ∷ 55 ∷ 56 ∷ 57 ∷ []) ≡ 0xCBF43926
unfolding crc_bits crc_bit pick
crc_check = refl

register_after : (r : Reading) (p : Piece) (bytes : List ℕ) → is_between p ≡ true → (reading_after r p bytes).register ≡ fold crc_byte r.register (bytes_of p bytes)
register_after r Other bytes b = refl
register_after r Next bytes b = refl
register_after r Again bytes b = refl
register_after r Whole bytes b = not_both refl (sym b)
register_after r (First total) bytes b = not_both refl (sym b)
register_after r Last bytes b = not_both refl (sym b)
register_after r (Abort code) bytes b = not_both refl (sym b)

register_over : (r : Reading) (parts : List Part) → every (λ p. is_between p.piece) parts ≡ true → (reading_over r parts).register ≡ fold crc_byte r.register (joined parts)
unfolding every joined
register_over r [] b = refl
register_over r (p ∷ parts) b =
    let here = left (is_between p.piece) (every (λ q. is_between q.piece) parts) b in
    let there = right (is_between p.piece) (every (λ q. is_between q.piece) parts) b in
    register_over (reading_after r p.piece p.payload) parts there
    ∙ ap (λ (s : ℕ). fold crc_byte s (joined parts)) (register_after r p.piece p.payload here)
    ∙ sym (fold-append crc_byte r.register (bytes_of p.piece p.payload) (joined parts))

-- the CRC-32 of a finished reading is that of the payloads from its first piece to its last, those of pieces sent again left out
pub reading_crc : (r : Reading) (total : ℕ) (first last : List ℕ) (parts : List Part) → every (λ p. is_between p.piece) parts ≡ true → REGISTER - (reading_after (reading_over (reading_after r (First total) first) parts) Last last).register ≡ crc_of ((first ++ joined parts) ++ last)
reading_crc r total first last parts b =
    let r₁ = reading_after r (First total) first in
    ap (λ (s : ℕ). REGISTER - s)
    (ap (λ (s : ℕ). fold crc_byte s last) (register_over r₁ parts b ∙ sym (fold-append crc_byte REGISTER first (joined parts))) ∙ sym (fold-append crc_byte REGISTER (first ++ joined parts) last))
