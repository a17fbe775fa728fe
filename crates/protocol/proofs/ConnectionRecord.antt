-- Laws of one record's answers: what undecodable bytes are answered, and when an answer closes.
use Prim.Native.Nat.{ℕ, ◌+◌, ◌*◌, ◌%◌, ◌<◌}
use native.Mathlib.Omega.{arith}
use mathlib.Core.Path.{◌≡◌, refl, sym, ap, ◌∙◌}
use mathlib.Core.Logic.{◌≢◌}
use mathlib.Core.Bool.{Bool, true, false, ◌&&◌, ◌||◌, not}
use mathlib.Core.List.{List, ◌∷◌}
use lib.ListN.{length}
use lib.Dec.{eqb}
use borrow.Author.Tests.{ne_eqb}
use Rattle.picks.proofs.Picks.{pick_f, pick_elim}
use Rattle.picks.proofs.Keep.{both, not_both}
use Rattle.protocol.specs.declared.SequenceLayerHeader.{SequenceLayerHeader}
use Rattle.protocol.specs.declared.Segmentation.TheVariants.{Expedited, Complete}
use Rattle.protocol.specs.declared.SdoServerState.TheVariants.{Closed}
use Rattle.protocol.specs.declared.Connection.{Connection}
use Rattle.protocol.specs.Constants.{INVALID_COMMAND}
use Rattle.protocol.specs.Coding.{Answer, refused, value}
use Rattle.protocol.specs.SequenceHeader.{receive_mark}
use Rattle.protocol.specs.Command.{Command, Decoding, decoded, undecodable, flag_places, decode_command}
use Rattle.protocol.specs.TransferRecord.{Acted, aborts}
use Rattle.protocol.specs.ConnectionRecord.{Reply, Served, on_decoding, is_opening, ends, settle, answered, after_step}
use Rattle.protocol.proofs.Coding.{value_one}

-- "The answer then aborts 05040001 hex with the low four bits of byte 0 as transaction id.", whatever keeps the bytes from being a command
module _ (c : Connection) (share image : List ℕ) (clock high low : ℕ) (rest : List ℕ) where
  abbrev bytes : List ℕ
  bytes = (16 * high + low) ∷ rest

  pub undecodable_aborts : low < 16 → ((m : Command) → decode_command flag_places bytes ≢ value (decoded m)) → on_decoding c share image clock bytes (decode_command flag_places bytes) ≡ aborts c share image low 0x05040001
  undecodable_aborts l not-one = by_answer (decode_command flag_places bytes) not-one
    where
      low_bits : (16 * high + low) % 16 ≡ low
      low_bits = omega arith

      by_answer : (x : Answer Decoding) → ((m : Command) → x ≢ value (decoded m)) → on_decoding c share image clock bytes x ≡ aborts c share image low 0x05040001
      by_answer (refused n) not-one = ap (λ (t : ℕ). aborts c share image t INVALID_COMMAND) low_bits
      by_answer (value undecodable) not-one = ap (λ (t : ℕ). aborts c share image t INVALID_COMMAND) low_bits
      by_answer (value (decoded m)) not-one = absurd (not-one m refl)

-- closing is by the answer that is sent, and looks at the state that is left
settle_closes : (a : Acted) → ends (settle a).command.header.segmentation ≡ true → is_opening (settle a).connection.state ≡ false → (settle a).connection.state ≡ Closed
unfolding settle
settle_closes a =
    pick_elim (λ (x : Acted). ends x.command.header.segmentation ≡ true → is_opening x.connection.state ≡ false → x.connection.state ≡ Closed)
    (not (is_opening a.connection.state) && (ends a.command.header.segmentation || a.command.header.aborted)) _ _
    (λ t e o. refl)
    (λ t e o. not_both (both (ap not o) (ap (λ (b : Bool). b || a.command.header.aborted) e)) t)

-- "A Complete answer, or an Expedited one to a command without receive mark 3, closes unless the state is then Opening."
module _ (c : Connection) (share image : List ℕ) (clock : ℕ) (h r : SequenceLayerHeader) (body : List ℕ) (mark : receive_mark h.rcon ≢ 3) (there : 0 < length body) where
  abbrev after : Served
  after = after_step c share image clock h r body

  abbrev acted : Acted
  acted = on_decoding c share image clock body (decode_command flag_places body)

  to_command : after ≡ answered r (settle acted)
  unfolding after_step
  to_command =
      let full : length body ≢ 0 = λ e. absurd (omega arith) in
      sym (pick_f (eqb (receive_mark h.rcon) 3) _ _ _ (ne_eqb _ _ mark) (pick_f (eqb (length body) 0) _ _ _ (ne_eqb _ _ full) refl))

  module _ (y : Reply) (answer : after.said ≡ value y) (opened : is_opening after.connection.state ≡ false) where
    closes : ends y.command.header.segmentation ≡ true → after.connection.state ≡ Closed
    unfolding answered
    closes e =
        let sent : (settle acted).command ≡ y.command = ap (λ (x : Reply). x.command) (value_one (ap (λ (s : Served). s.said) (sym to_command) ∙ answer)) in
        let left : after.connection ≡ (settle acted).connection = ap (λ (s : Served). s.connection) to_command in
        rw left (settle_closes acted (rw sent e) (rw (← left) opened))

    pub expedited_closes : y.command.header.segmentation ≡ Expedited → after.connection.state ≡ Closed
    expedited_closes e = closes (ap ends e)

    pub complete_closes : y.command.header.segmentation ≡ Complete → after.connection.state ≡ Closed
    complete_closes e = closes (ap ends e)
