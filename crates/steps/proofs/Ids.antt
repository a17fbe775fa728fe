-- Ids that differ have bytes that differ.
use Rattle.std.proofs.Common.{◌≡◌, ◌∙◌, ap, sym, false}
use lib.Dec.{eqb}
use borrow.Author.Tests.{ne_eqb}
use Rattle.protocol.specs.declared.CommandId.{CommandId}
use Rattle.protocol.specs.Command.{id_byte, id_of}
use Rattle.protocol.proofs.Flags.{id_back}

pub other_id : (i k : CommandId) → (i ≡ k → ⊥) → eqb (id_byte i) (id_byte k) ≡ false
other_id i k differ =
    ne_eqb (id_byte i) (id_byte k) (λ e. let same : i ≡ k = cc (sym (id_back i) ∙ ap id_of e ∙ id_back k) in differ same)
