-- By the kind of the client.
use Rattle.std.proofs.Common.{arith, refl, sym, ◌≡◌, ◌/◌, ◌%◌, ◌^◌, append_assoc, append-nil}
use Rattle.std.specs.Net.Addr.{IsIpv4OfBits}
use Rattle.show.proofs.Written.{as_text}
use Rattle.show.specs.Text.{letters}
use Rattle.show.proofs.Numbers.{decimal_same}
use Rattle.wording.specs.Words.{node_text, port_text, address_text, dotted}
use Rattle.wording.proofs.ClientDisplay.fmt.Goals as goal

pub returns-in-Asnd-clause-writes : goal.returns-in-Asnd-clause-writes
unfolding letters node_text
returns-in-Asnd-clause-writes g c p ok =
    as_text (rw (c.in-Asnd.is, sym (decimal_same (c.in-Asnd.node) (omega arith))) (simp append_assoc)) (c.write.ensures.writes p ok)

pub returns-in-Udp-clause-writes : goal.returns-in-Udp-clause-writes
unfolding letters port_text address_text dotted IsIpv4OfBits
returns-in-Udp-clause-writes g c p ok =
    let ip = c.in-Udp.ip in
    let high : ip / 256 ^ 3 % 256 ≡ ip / 256 ^ 3 = omega arith in
    as_text (rw (c.in-Udp.is, c.from.ensures, high, sym (decimal_same (c.in-Udp.port) (omega arith)), sym (decimal_same (ip / 256 ^ 3) (omega arith)), sym (decimal_same (ip / 256 ^ 2 % 256) (omega arith)), sym (decimal_same (ip / 256 % 256) (omega arith)), sym (decimal_same (ip % 256) (omega arith))) (simp (append_assoc, append-nil) refl)) (c.write-in-Udp.ensures.writes p ok)
