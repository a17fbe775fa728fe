-- By its kind, number by number.
use Rattle.format.specs.Format.{byte_at, client_of}
use Rattle.clients.proofs.Wire.{mac_be, ip_be, port_le}
use Rattle.protocol.specs.declared.SdoClientInfo.TheVariants.{Asnd}
use mathlib.Core.Path.{◌≡◌, refl, ap}
use borrow.Author.Rules.{rules}
use borrow.Author.Tests.{eq-eqb, ne_eqb}
use Rattle.picks.proofs.Picks.{pick_t, pick_f}
use Rattle.clients.proofs.client_in.Goals as goal

pub returns-in-0 : goal.returns-in-0
unfolding client_of
returns-in-0 c =
    let s = c.args.s.now in
    let kind : byte_at 0 s ≡ 0 = search rules in
    pick_t _ _ _ _ (eq-eqb _ _ kind) (rw c.from_be_bytes.ensures (ap (Asnd (byte_at 1 s)) (mac_be s)))

pub returns-in_default : goal.returns-in_default
unfolding client_of
returns-in_default c =
    let s = c.args.s.now in
    pick_f _ _ _ _ (ne_eqb _ _ (λ e. search rules)) (rw (c.from_be_bytes-in_default.ensures, c.from_le_bytes.ensures, ip_be s, port_le s) refl)
