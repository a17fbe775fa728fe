-- The body is stored first, then the length, of which two bytes count.
use Prim.Native.Nat.{ℕ, ◌%◌}
use mathlib.Core.Path.{◌≡◌, sym, ap, ◌∙◌}
use lib.ListN.{length}
use Rattle.octets.proofs.Little.{le_le_bytes, le_bytes_le, length_le_bytes}
use Rattle.octets.proofs.Bytes.{bytes_le_bytes}
use Rattle.octets.specs.Octets.{le_bytes}
use Rattle.protocol.specs.DictionaryImage.{write_image}
use Rattle.entries.proofs.write.Goals as goal

-- the two lowest bytes of a number are those of its remainder
short : (n : ℕ) → le_bytes 2 (n % 65536) ≡ le_bytes 2 n
short n = ap (le_bytes 2) (sym (le_le_bytes 2 n)) ∙ le_bytes_le 2 (le_bytes 2 n) (length_le_bytes 2 n) (bytes_le_bytes 2 n)

pub returns : goal.returns
unfolding write_image
returns c =
    let b = c in
    let a = b.args in
    rw (← short (length a.bytes.now), ← b.copy_at.ensures) c.set_length.ensures
