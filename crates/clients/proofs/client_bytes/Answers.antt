-- Each kind's bytes are the definition's: to divide by 256 again and again is to divide by its power.
use native.Mathlib.Nat.{div-div-eq-div-mul}
use mathlib.Core.Path.{refl}
use Rattle.format.specs.Format.{big_bytes, client_bytes}
use Rattle.octets.specs.Octets.{le_bytes}
use Rattle.picks.proofs.Picks.{at_case}
use Rattle.clients.proofs.client_bytes.Goals as goal

pub returns-in-Asnd : goal.returns-in-Asnd
unfolding client_bytes big_bytes
returns-in-Asnd c = at_case client_bytes c.in-Asnd.is (simp (c.to_be_bytes.ensures, div-div-eq-div-mul) refl)

pub returns-in-Udp : goal.returns-in-Udp
unfolding client_bytes big_bytes le_bytes
returns-in-Udp c = at_case client_bytes c.in-Udp.is (simp (c.to_be_bytes-in-Udp.ensures, c.to_le_bytes.ensures, div-div-eq-div-mul) refl)
