-- A byte in two digits, six times.
use Rattle.std.proofs.Common.{arith, refl, ◌/◌, ◌%◌, ◌^◌, append_assoc}
use Rattle.show.proofs.Written.{as_text}
use Rattle.show.specs.Text.{letters}
use Rattle.show.proofs.Numbers.{hex_padded, last_byte}
use Rattle.wording.specs.Words.{mac_text, dashed}
use Rattle.wording.proofs.MacDisplay.fmt.Goals as goal

pub returns-clause-writes : goal.returns-clause-writes
unfolding letters mac_text dashed
returns-clause-writes g c p ok =
    let n = c.args.self.now.0 in
    as_text (simp append_assoc refl) ((rw (c.laid_out.ensures, c.in_radix.ensures, c.laid_out-2.ensures, c.in_radix-2.ensures, c.laid_out-3.ensures, c.in_radix-3.ensures, c.laid_out-4.ensures, c.in_radix-4.ensures, c.laid_out-5.ensures, c.in_radix-5.ensures, c.laid_out-6.ensures, c.in_radix-6.ensures, c.to_be_bytes.ensures, hex_padded 1 (n / 256 ^ 5 % 256) (omega arith) (omega arith), last_byte (n / 256 ^ 5), hex_padded 1 (n / 256 ^ 4 % 256) (omega arith) (omega arith), last_byte (n / 256 ^ 4), hex_padded 1 (n / 256 ^ 3 % 256) (omega arith) (omega arith), last_byte (n / 256 ^ 3), hex_padded 1 (n / 256 ^ 2 % 256) (omega arith) (omega arith), last_byte (n / 256 ^ 2), hex_padded 1 (n / 256 % 256) (omega arith) (omega arith), last_byte (n / 256), hex_padded 1 (n % 256) (omega arith) (omega arith), last_byte (n)) at c.write.ensures.writes) p ok)
