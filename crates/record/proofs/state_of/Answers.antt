-- By the state's number.
use borrow.Author.Tests.{ne_eqb}
use Rattle.protocol.specs.declared.SdoServerState.TheVariants.{SegmentedUpload}
use mathlib.Core.Path.{refl, sym, ap, ◌∙◌}
use Rattle.format.proofs.Reading.{state_is}
use Rattle.picks.specs.Pick.{pick}
use Rattle.record.proofs.state_of.Goals as goal

pub returns-in-0 : goal.returns-in-0
unfolding pick
returns-in-0 c = sym (state_is _ 0 (sym c.in-0.is))

pub returns-in-1 : goal.returns-in-1
unfolding pick
returns-in-1 c = sym (state_is _ 1 (sym c.in-1.is))

pub returns-in-2 : goal.returns-in-2
unfolding pick
returns-in-2 c = sym (state_is _ 2 (sym c.in-2.is))

pub returns-in-3 : goal.returns-in-3
unfolding pick
returns-in-3 c = ap SegmentedUpload c.transfer_of.ensures ∙ sym (state_is _ 3 (sym c.in-3.is))

pub returns-in_default : goal.returns-in_default
unfolding pick
returns-in_default c =
    let m = c.in_default.in_default-own.rest in rw (c.transfer_of-in_default.ensures, state_is c.args.s.now _ refl, ne_eqb _ _ m.0.0.0.1, ne_eqb _ _ m.0.0.1, ne_eqb _ _ m.0.1, ne_eqb _ _ m.1)
