-- The number of what a number is of is that number, where it is one; an id that is none has no name but Nil's.
use Rattle.std.proofs.Common.{ℕ, zero, suc, ◌<◌, ◌≡◌, ◌∙◌, refl, ap, arith}
use mathlib.Core.Bool.{Bool, true, false}
use mathlib.Core.List.{List, [], ◌∷◌, map}
use Prim.Native.String.{String}
use lib.Dec.{eqb}
use Rattle.std.specs.Prelude.{Result, Ok, Err}
use Rattle.std.specs.List.{zip}
use Rattle.picks.specs.Pick.{pick}
use Rattle.show.specs.Text.{letters}
use Rattle.protocol.specs.declared.CommandId.{CommandId}
use Rattle.protocol.specs.declared.CommandId.TheVariants.{Nil, WriteByIndex, ReadByIndex, WriteAllByIndex, ReadAllByIndex, WriteByName, ReadByName, FileWrite, FileRead, WriteMultipleParamByIndex, ReadMultipleParamByIndex, Abort, MaxSegmentSize}
use Rattle.protocol.specs.declared.InvalidEnumValue.{InvalidEnumValue}
use Rattle.protocol.specs.SequenceHeader.{receive_mark, receive_mark_of, send_mark, send_mark_of}
use Rattle.protocol.specs.Command.{id_byte, id_of, id_among, known_ids}
use Rattle.protocol.proofs.Flags.{id_number}
use Rattle.wording.specs.Words.{text_of, names, id_text}

pub receive_number : (k : ℕ) → k < 4 → receive_mark (receive_mark_of k) ≡ k
unfolding receive_mark_of pick
receive_number zero h = refl
receive_number (suc zero) h = refl
receive_number (suc (suc zero)) h = refl
receive_number (suc (suc (suc zero))) h = refl
receive_number (suc (suc (suc (suc k)))) h = absurd (omega arith)

pub send_number : (k : ℕ) → k < 4 → send_mark (send_mark_of k) ≡ k
unfolding send_mark_of pick
send_number zero h = refl
send_number (suc zero) h = refl
send_number (suc (suc zero)) h = refl
send_number (suc (suc (suc zero))) h = refl
send_number (suc (suc (suc (suc k)))) h = absurd (omega arith)

-- the id that a number is of has the number's name
pub known_name : (b : ℕ) (i : CommandId) → id_of b ≡ Ok i → id_text (id_byte i) ≡ id_text b
unfolding id_of
known_name b i e = ap id_text (id_number known_ids b i e)

-- of ids with their names none is the number's, and so none of the names
other_name : (t : Bool) (u : InvalidEnumValue) (i : CommandId) (r : Result CommandId InvalidEnumValue) (x y z : List ℕ) → pick t (Ok i) r ≡ Err u → (r ≡ Err u → y ≡ z) → pick t x y ≡ z
unfolding pick
other_name true u i r x y z e f = absurd (let z : ◌≡◌ {A = ℕ} 0 1 = cc in omega arith)
other_name false u i r x y z e f = f e

no_name : (b : ℕ) (u : InvalidEnumValue) (is : List CommandId) (texts : List String) (other : String) → id_among is b ≡ Err u → text_of b (zip (map id_byte is) texts) other ≡ letters other
unfolding id_among text_of
no_name b u [] texts other e = refl
no_name b u (i ∷ is) [] other e = refl
no_name b u (i ∷ is) (text ∷ texts) other e =
    other_name (eqb b (id_byte i)) u i (id_among is b) (letters text) _ (letters other) e (λ f. no_name b u is texts other f)

first_id : (i : CommandId) (is : List CommandId) (b : ℕ) → pick (eqb b (id_byte i)) (Ok i) (id_among is b) ≡ id_among (i ∷ is) b
unfolding id_among
first_id i is b = refl

past_nil : (t : Bool) (u : InvalidEnumValue) (r : Result CommandId InvalidEnumValue) → pick t (Ok Nil) r ≡ Err u → r ≡ Err u
unfolding pick
past_nil true u r e = absurd (let z : ◌≡◌ {A = ℕ} 0 1 = cc in omega arith)
past_nil false u r e = e

pub unknown_name : (b : ℕ) (u : InvalidEnumValue) → id_of b ≡ Err u → id_text b ≡ letters "Nil"
unfolding id_of known_ids id_text
unknown_name b u e =
    let named = WriteByIndex ∷ ReadByIndex ∷ WriteAllByIndex ∷ ReadAllByIndex ∷ WriteByName ∷ ReadByName ∷ FileWrite ∷ FileRead ∷ WriteMultipleParamByIndex ∷ ReadMultipleParamByIndex ∷ Abort ∷ MaxSegmentSize ∷ [] in
    no_name b u named (map (λ n. n.1) names) "Nil" (past_nil (eqb b 0) u (id_among named b) (first_id Nil named b ∙ e))
