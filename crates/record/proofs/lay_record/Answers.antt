-- Five stores, one behind the other.
use Rattle.format.specs.Format.{record_bytes}
use Rattle.format.proofs.Writing.{length_client, length_state, record_laid}
use mathlib.Core.Path.{refl}
use Rattle.record.proofs.lay_record.Goals as goal

pub returns : goal.returns
unfolding record_bytes
returns c =
    let a = c.args in rw (c.store_at.ensures, c.copy_at-3.ensures, c.state_bytes.ensures, c.copy_at-2.ensures, c.state_number.ensures, c.copy_at.ensures, c.client_bytes.ensures) (record_laid _ _ _ _ a.out.now (length_client a.c.client) refl (length_state a.c.state) c.requires)
