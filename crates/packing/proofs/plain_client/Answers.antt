-- By the client's kind.
use Rattle.std.proofs.Common.{rules, get_or, Fits, w8}
use Rattle.octets.specs.Octets.{AllBytes}
use borrow.Author.Tests.{eqb-true}
use Rattle.packing.proofs.Plain.{same_asnd, same_udp}
use Rattle.packing.proofs.plain_client.Goals as goal

pub returns-then-r-eq0 : goal.returns-then-r-eq0
returns-then-r-eq0 c t =
    let r = c.args.r.now in
    let bytes : AllBytes r = λ i. let byte : Fits w8 (get_or r i 0) = search rules in byte.fits in
    same_asnd r bytes c.told-r c.if-r-eq0.true

pub returns-then-r-eq1 : goal.returns-then-r-eq1
returns-then-r-eq1 c t =
    let r = c.args.r.now in
    let bytes : AllBytes r = λ i. let byte : Fits w8 (get_or r i 0) = search rules in byte.fits in
    same_udp r bytes c.told-r c.if-r-eq1.true (eqb-true _ _ t)
