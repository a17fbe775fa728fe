-- The frames of one client: what is spelled so far, and what each kind of frame adds.
use Prim.Native.Nat.{ℕ, ◌+◌, ◌-◌, ◌≤◌, ◌<◌}
use native.Mathlib.Omega.{arith}
use mathlib.Core.Path.{◌≡◌, refl, sym, ap, ◌∙◌}
use mathlib.Core.Bool.{Bool, true, false, ◌&&◌}
use mathlib.Core.List.{List, [], ◌∷◌, ◌++◌, append_assoc, append-nil}
use mathlib.Core.Option.{Option, none, some}
use lib.ListN.{length, take}
use lib.Seq.{take_all, take-length}
use lib.Dec.{eqb}
use borrow.Author.Tests.{lt-leb}
use Rattle.picks.specs.Pick.{pick}
use Rattle.picks.proofs.Keep.{not_both, left, right}
use Rattle.protocol.specs.declared.Segmentation.TheVariants.{Initiate, Segment}
use Rattle.std.specs.Prelude.{Some}
use Rattle.protocol.specs.declared.SdoTransferState.{SdoTransferState}
use Rattle.protocol.specs.declared.Connection.{Connection}
use Rattle.protocol.specs.Constants.{PIECE}
use Rattle.protocol.specs.Command.{Command, is_initiate}
use Rattle.protocol.specs.TransferRecord.{piece, piece_length}
use Rattle.protocol.specs.Series.{is_read}
use Rattle.protocol.specs.EveryUpload.{Frame, is_piece, is_repeat, is_kept, is_complete, Spelled, spell, last_kept, Spells}
use Rattle.protocol.proofs.Pieces.{piece_initiate, piece_segment, piece_joins, piece_agrees}
use Rattle.protocol.proofs.RecordSound.{piece_positive}
use Rattle.protocol.proofs.Uploads.{Up, Stays, Begins, Advances, Ends, Kind, quiet, begins, advances, finishes, closed_none}
use Rattle.protocol.proofs.ServeUploads.{Resent, same_transfer}

-- an upload of n bytes that has sent o of them
pub record Running (x n o : ℕ) (share : List ℕ) (fs : List Frame) : Type 0 where
  pub initiate : Frame
  pub bytes : List ℕ
  pub spelled : spell fs [] ≡ some (record { initiate = initiate; bytes = take o bytes })
  pub held : initiate.held ≡ some bytes
  pub size : initiate.command.total ≡ Some (length bytes)
  pub total : length bytes ≡ n
  pub copy : take n share ≡ bytes
  pub last : last_kept fs ≡ some (piece PIECE x n (o - PIECE) share)
  pub begun : PIECE ≤ o
  pub left : o < n

-- what was joined after is appended to what is spelled
append_spelled : List ℕ → Option Spelled → Option Spelled
append_spelled joined none = none
append_spelled joined (some s) = some (record { initiate = s.initiate; bytes = s.bytes ++ joined })

spell_joined : (fs : List Frame) (a b : List ℕ) → spell fs (a ++ b) ≡ append_spelled b (spell fs a)
unfolding spell append_spelled pick
spell_joined [] a b = refl
spell_joined (f ∷ fs) a b = go (is_kept f) (is_initiate f.command.header.segmentation) (spell_joined fs a b) (spell_joined fs (f.command.payload ++ a) b)
  where
    go : (k i : Bool) → spell fs (a ++ b) ≡ append_spelled b (spell fs a) → spell fs (f.command.payload ++ a ++ b) ≡ append_spelled b (spell fs (f.command.payload ++ a)) → pick k (pick i (some (record { initiate = f; bytes = f.command.payload ++ (a ++ b) })) (spell fs (f.command.payload ++ (a ++ b)))) (spell fs (a ++ b)) ≡ append_spelled b (pick k (pick i (some (record { initiate = f; bytes = f.command.payload ++ a })) (spell fs (f.command.payload ++ a))) (spell fs a))
    go true true e g = rw (append_assoc f.command.payload a b)
    go true false e g = rw (append_assoc f.command.payload a b) at g
    go false true e g = e
    go false false e g = e

-- a frame that is not kept adds nothing; a kept one is the last kept, and an Initiate starts what is spelled
module _ (f : Frame) (fs : List Frame) where
  skipped : (joined : List ℕ) → is_kept f ≡ false → spell (f ∷ fs) joined ≡ spell fs joined
  unfolding spell pick
  skipped joined e = rw e

  skipped_last : is_kept f ≡ false → last_kept (f ∷ fs) ≡ last_kept fs
  unfolding last_kept pick
  skipped_last e = rw e

  kept_last : is_kept f ≡ true → last_kept (f ∷ fs) ≡ some f.command
  unfolding last_kept pick
  kept_last e = rw e

  started : (joined : List ℕ) → is_kept f ≡ true → is_initiate f.command.header.segmentation ≡ true → spell (f ∷ fs) joined ≡ some (record { initiate = f; bytes = f.command.payload ++ joined })
  unfolding spell pick
  started joined e i = rw (e, i)

  continued : (joined : List ℕ) → is_kept f ≡ true → is_initiate f.command.header.segmentation ≡ false → spell (f ∷ fs) joined ≡ spell fs (f.command.payload ++ joined)
  unfolding spell pick
  continued joined e i = rw (e, i)

  -- a frame that is no piece spells nothing
  no_piece : is_piece f ≡ false → Spells f fs
  no_piece e = record { finishes = λ p c. not_both p e; repeats = λ d. not_both (left (is_piece f) (is_repeat f) d) e }

  -- a kept piece that is no Complete
  open_piece : is_repeat f ≡ false → is_complete f.command.header.segmentation ≡ false → Spells f fs
  open_piece r e = record { finishes = λ p c. not_both c e; repeats = λ d. not_both (right (is_piece f) (is_repeat f) d) r }

-- two accounts of one upload agree
up_one : {c : Connection} {x n o x' n' o' : ℕ} → Up c x n o → Up c x' n' o' → (x ≡ x') × (n ≡ n') × (o ≡ o')
up_one u v =
    let e = same_transfer (sym u.state ∙ v.state) in
    (sym u.transaction' ∙ ap (λ (t : SdoTransferState). t.transaction) e ∙ v.transaction', sym u.total' ∙ ap (λ (t : SdoTransferState). t.total) e ∙ v.total', sym u.offset' ∙ ap (λ (t : SdoTransferState). t.offset) e ∙ v.offset')

running_as : {c : Connection} {x n o x' n' o' : ℕ} (share : List ℕ) (fs : List Frame) → Up c x n o → Up c x' n' o' → Running x' n' o' share fs → Running x n o share fs
running_as share fs u v r = let e = up_one u v in rw (e.0, e.1, e.2) r

-- what an upload rests on is kept by a frame that is not kept
running_skip : (x n o : ℕ) (share : List ℕ) (f : Frame) (fs : List Frame) → is_kept f ≡ false → Running x n o share fs → Running x n o share (f ∷ fs)
running_skip x n o share f fs e r = record { initiate = r.initiate; bytes = r.bytes; spelled = skipped f fs [] e ∙ r.spelled; held = r.held; size = r.size; total = r.total; copy = r.copy; last = skipped_last f fs e ∙ r.last; begun = r.begun; left = r.left }

-- a piece is one, by its id, and it is kept under any mark but 3
piece_reads : (transaction total offset : ℕ) (bytes : List ℕ) → is_read (piece PIECE transaction total offset bytes) ≡ true
unfolding piece
piece_reads transaction total offset bytes = refl

module _ (f : Frame) (transaction total offset : ℕ) (bytes : List ℕ) (e : f.command ≡ piece PIECE transaction total offset bytes) where
  is_piece_lem : is_piece f ≡ true
  is_piece_lem = rw e (piece_reads transaction total offset bytes)

  is_kept_lem : is_repeat f ≡ false → is_kept f ≡ true
  is_kept_lem m = rw (is_piece_lem, m)

-- the first piece of a value that is longer than a piece
module _ (transaction total : ℕ) (bytes : List ℕ) where
  first_kind : PIECE < total → (piece PIECE transaction total 0 bytes).header.segmentation ≡ Initiate
  unfolding piece
  first_kind h = piece_initiate PIECE total 0 (omega arith) refl h

  first_total : (piece PIECE transaction total 0 bytes).total ≡ Some total
  unfolding piece pick
  first_total = refl

  first_payload : PIECE < total → (piece PIECE transaction total 0 bytes).payload ≡ take PIECE bytes
  unfolding piece
  first_payload h = let n : piece_length PIECE total 0 ≡ PIECE = omega arith in rw n

-- a piece in the middle, and one that was sent before
middle_kind : (transaction total offset : ℕ) (bytes : List ℕ) → 0 < offset → offset + PIECE < total → (piece PIECE transaction total offset bytes).header.segmentation ≡ Segment
unfolding piece
middle_kind transaction total offset bytes p h = piece_segment PIECE total offset (omega arith) p h

stored_open : (transaction total offset : ℕ) (bytes : List ℕ) → PIECE ≤ offset → offset < total → is_complete (piece PIECE transaction total (offset - PIECE) bytes).header.segmentation ≡ false
unfolding piece pick
stored_open transaction total offset bytes h l = rw (lt-leb total (offset - PIECE + piece_length PIECE total (offset - PIECE)) (omega arith)) (go (eqb (offset - PIECE) 0))
  where
    go : (b : Bool) → is_complete (pick b Initiate Segment) ≡ false
    go true = refl
    go false = refl

and_not_kept : (b : Bool) → b && false ≡ false
and_not_kept true = refl
and_not_kept false = refl

-- what is spelled with a piece behind it
spelled_more : (fs : List Frame) (initiate : Frame) (bytes payload : List ℕ) → spell fs [] ≡ some (record { initiate = initiate; bytes = bytes }) → spell fs payload ≡ some (record { initiate = initiate; bytes = bytes ++ payload })
unfolding append_spelled
spelled_more fs initiate bytes payload e = spell_joined fs [] payload ∙ ap (append_spelled payload) e

-- a piece of the copy continues the value
copy_continues : (x n o : ℕ) (share bytes : List ℕ) → o ≤ n → length bytes ≡ n → take n share ≡ bytes → take o bytes ++ (piece PIECE x n o share).payload ≡ take (o + piece_length PIECE n o) bytes
copy_continues x n o share bytes h l e =
    ap (λ (m : Command). take o bytes ++ m.payload) (piece_agrees PIECE x n o share bytes h (e ∙ sym (take_all n bytes (omega arith)))) ∙ piece_joins PIECE x n o bytes

-- the next frame of a client, and what its upload rests on afterwards
pub record Next (f : Frame) (fs : List Frame) (c' : Connection) (share' : List ℕ) : Type 0 where
  pub spells : Spells f fs
  pub running : (x n o : ℕ) → Up c' x n o → Running x n o share' (f ∷ fs)

module _ (c : Connection) (share : List ℕ) (c' : Connection) (share' : List ℕ) (f : Frame) (fs : List Frame) (run : (x n o : ℕ) → Up c x n o → Running x n o share fs) where
  pub after_quiet : is_piece f ≡ false → Stays c share c' share' → Next f fs c' share'
  after_quiet e s = record {
    spells = no_piece f fs e;
    running = λ x n o u. let w = s.before x n o u in rw w.1 (running_skip x n o share f fs (rw e) (run x n o w.0));
  }

  after_begins : is_repeat f ≡ false → Begins f.held f.command c' share' → Next f fs c' share'
  after_begins m b = record {
    spells = open_piece f fs m (rw kind);
    running = λ x n o u. running_as share' (f ∷ fs) u b.up (record {
      initiate = f;
      bytes = v;
      spelled = started f fs [] kept (rw kind) ∙ ap (λ z. some (record { initiate = f; bytes = z })) (append-nil f.command.payload ∙ payload);
      held = b.is_held;
      size = ap (λ (k : Command). k.total) b.command ∙ first_total b.transaction (length v) v;
      total = refl;
      copy = b.copy;
      last = kept_last f fs kept ∙ ap some (b.command ∙ agrees);
      begun = omega arith;
      left = b.above;
    });
  }
    where
      v : List ℕ
      v = b.bytes

      kept : is_kept f ≡ true
      kept = is_kept_lem f b.transaction (length b.bytes) 0 b.bytes b.command m

      kind : f.command.header.segmentation ≡ Initiate
      kind = ap (λ (k : Command). k.header.segmentation) b.command ∙ first_kind b.transaction (length b.bytes) b.bytes b.above

      payload : f.command.payload ≡ take PIECE b.bytes
      payload = ap (λ (k : Command). k.payload) b.command ∙ first_payload b.transaction (length b.bytes) b.bytes b.above

      agrees : piece PIECE b.transaction (length b.bytes) 0 b.bytes ≡ piece PIECE b.transaction (length b.bytes) (PIECE - PIECE) share'
      agrees =
          let z : PIECE - PIECE ≡ 0 = omega arith in
          rw z (sym (piece_agrees PIECE b.transaction (length b.bytes) 0 share' b.bytes (omega arith) (b.copy ∙ sym (take-length b.bytes))))

  after_advances : is_repeat f ≡ false → Advances c share f.command c' share' → Next f fs c' share'
  after_advances m a = record {
    spells = open_piece f fs m (rw kind);
    running = λ x n o u. running_as share' (f ∷ fs) u a.up (record {
      initiate = r.initiate;
      bytes = r.bytes;
      spelled = continued f fs [] kept (rw kind) ∙ ap (spell fs) (append-nil f.command.payload) ∙ spelled_more fs r.initiate (take a.offset r.bytes) f.command.payload r.spelled ∙ ap (λ z. some (record { initiate = r.initiate; bytes = z })) joined;
      held = r.held;
      size = r.size;
      total = r.total;
      copy = ap (take a.total) a.same ∙ r.copy;
      last = kept_last f fs kept ∙ ap some (a.command ∙ agrees);
      begun = omega arith;
      left = a.more;
    });
  }
    where
      r : Running a.transaction a.total a.offset share fs
      r = run a.transaction a.total a.offset a.was

      kept : is_kept f ≡ true
      kept = is_kept_lem f a.transaction a.total a.offset share a.command m

      kind : f.command.header.segmentation ≡ Segment
      kind = ap (λ (k : Command). k.header.segmentation) a.command ∙ middle_kind a.transaction a.total a.offset share (omega (arith, piece_positive, (run a.transaction a.total a.offset a.was).begun)) a.more

      whole : a.offset + piece_length PIECE a.total a.offset ≡ a.offset + PIECE
      whole = let h = a.more in omega arith

      joined : take a.offset (run a.transaction a.total a.offset a.was).bytes ++ f.command.payload ≡ take (a.offset + PIECE) (run a.transaction a.total a.offset a.was).bytes
      joined =
          let q = run a.transaction a.total a.offset a.was in
          let h = a.more in
          ap (λ (k : Command). take a.offset q.bytes ++ k.payload) a.command ∙ copy_continues a.transaction a.total a.offset share q.bytes (omega arith) q.total q.copy ∙ ap (λ z. take z q.bytes) whole

      agrees : piece PIECE a.transaction a.total a.offset share ≡ piece PIECE a.transaction a.total (a.offset + PIECE - PIECE) share'
      agrees = let z : a.offset + PIECE - PIECE ≡ a.offset = omega arith in rw (z, a.same)

  after_finishes : is_repeat f ≡ false → Ends c share f.command c' → Next f fs c' share'
  after_finishes m b = record {
    spells = record { finishes = λ p k. record { kept = m; initiate = r.initiate; bytes = r.bytes; spelled = spelled; held = r.held; size = r.size }; repeats = λ d. not_both (right (is_piece f) (is_repeat f) d) m };
    running = λ x n o u. absurd (closed_none u.transfer (sym b.closed ∙ u.state));
  }
    where
      r : Running b.transaction b.total b.offset share fs
      r = run b.transaction b.total b.offset b.was

      spelled : spell fs f.command.payload ≡ some (record { initiate = (run b.transaction b.total b.offset b.was).initiate; bytes = (run b.transaction b.total b.offset b.was).bytes })
      spelled =
          let q = run b.transaction b.total b.offset b.was in
          let h = b.left in
          let l = b.last in
          let w : b.offset + piece_length PIECE b.total b.offset ≡ b.total = omega arith in
          let j = ap (λ (k : Command). take b.offset q.bytes ++ k.payload) b.command ∙ copy_continues b.transaction b.total b.offset share q.bytes (omega arith) q.total q.copy ∙ ap (λ z. take z q.bytes) w ∙ take_all b.total q.bytes (omega (arith, q.total)) in
          spelled_more fs q.initiate (take b.offset q.bytes) f.command.payload q.spelled ∙ ap (λ z. some (record { initiate = q.initiate; bytes = z })) j

  pub after_resent : is_repeat f ≡ true → Resent c share f.command → Stays c share c' share' → Next f fs c' share'
  after_resent m b s = record {
    spells = record { finishes = λ p k. not_both k unended; repeats = λ d. r.last ∙ ap some (sym b.command) };
    running = λ x n o u. let w = s.before x n o u in rw w.1 (running_skip x n o share f fs (simp m (and_not_kept (is_piece f))) (run x n o w.0));
  }
    where
      r : Running b.transaction b.total b.offset share fs
      r = run b.transaction b.total b.offset b.was

      unended : is_complete f.command.header.segmentation ≡ false
      unended =
          let q = run b.transaction b.total b.offset b.was in
          ap (λ (k : Command). is_complete k.header.segmentation) b.command ∙ stored_open b.transaction b.total b.offset share q.begun q.left

-- one frame of any kind
pub after_kind : (c : Connection) (share : List ℕ) (c' : Connection) (share' : List ℕ) (f : Frame) (fs : List Frame) → ((x n o : ℕ) → Up c x n o → Running x n o share fs) → is_repeat f ≡ false → Kind c share f.held f.command c' share' → Next f fs c' share'
after_kind c share c' share' f fs run m (quiet e s) = after_quiet c share c' share' f fs run e s
after_kind c share c' share' f fs run m (begins b) = after_begins c share c' share' f fs run m b
after_kind c share c' share' f fs run m (advances b) = after_advances c share c' share' f fs run m b
after_kind c share c' share' f fs run m (finishes b) = after_finishes c share c' share' f fs run m b
