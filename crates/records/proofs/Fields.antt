-- What a record's bytes say of it.
use Prim.Native.Nat.{ℕ, zero, suc, ◌+◌, ◌*◌}
use native.Mathlib.Omega.{arith}
use native.Mathlib.Nat.{add-zero}
use mathlib.Core.Path.{◌≡◌, refl, sym, ap, ◌∙◌}
use mathlib.Core.Bool.{Bool, true, false, not, ◌&&◌, ◌||◌}
use mathlib.Core.List.{List}
use lib.ListN.{take, drop}
use lib.Dec.{ltb, eqb}
use lib.Seq.{drop-drop, get_or-drop}
use borrow.Author.Tests.{eq-eqb, ne_eqb, le-ltb, eqb-true}
use Rattle.picks.specs.Pick.{pick}
use Rattle.picks.proofs.Picks.{pick_ap}
use Rattle.picks.proofs.Keep.{by_test, not_both}
use Rattle.octets.specs.Octets.{le}
use Rattle.protocol.specs.declared.SdoClientInfo.TheVariants.{Asnd, Udp}
use Rattle.std.specs.Prelude.{Option, None}
use Rattle.protocol.specs.declared.SdoServerState.{SdoServerState}
use Rattle.protocol.specs.declared.SdoServerState.TheVariants.{Closed, Opening, Established, SegmentedDownload, SegmentedUpload}
use Rattle.protocol.specs.ConnectionTable as Table
use Rattle.protocol.specs.ConnectionTable.{same_client, is_closed, sound_upload, sound_download, sound_state, transfer_deadline, is_past}
use Rattle.format.specs.Format.{byte_at, number_at, big, client_of, deadline_of, transfer_of, state_of, record_of}
use Rattle.format.proofs.Reading.{number_more}

-- what is true of a state, by its number
pub state_ap : {A : Type 0} (f : SdoServerState → A) (s : List ℕ) → f (state_of s) ≡ pick (eqb (byte_at 12 s) 0) (f Closed) (pick (eqb (byte_at 12 s) 1) (f Opening) (pick (eqb (byte_at 12 s) 2) (f Established) (pick (eqb (byte_at 12 s) 3) (f (SegmentedUpload (transfer_of s))) (f (SegmentedDownload (transfer_of s))))))
unfolding state_of
state_ap f s =
    let n = byte_at 12 s in
    let d = pick (eqb n 3) (SegmentedUpload (transfer_of s)) (SegmentedDownload (transfer_of s)) in
    rw (pick_ap f (eqb n 0) Closed (pick (eqb n 1) Opening (pick (eqb n 2) Established d)), pick_ap f (eqb n 1) Opening (pick (eqb n 2) Established d), pick_ap f (eqb n 2) Established d, pick_ap f (eqb n 3) (SegmentedUpload (transfer_of s)) (SegmentedDownload (transfer_of s)))

closed_first : (a b c d : Bool) → pick a true (pick b false (pick c false (pick d false false))) ≡ a
unfolding pick
closed_first true b c d = refl
closed_first false true c d = refl
closed_first false false true d = refl
closed_first false false false true = refl
closed_first false false false false = refl

pub closed_is : (s : List ℕ) → is_closed (state_of s) ≡ eqb (byte_at 12 s) 0
closed_is s = let n = byte_at 12 s in state_ap is_closed s ∙ closed_first (eqb n 0) (eqb n 1) (eqb n 2) (eqb n 3)

-- below three it has no transfer
below_three : {A : Type 0} (n : ℕ) (x u d : A) → pick (eqb n 0) x (pick (eqb n 1) x (pick (eqb n 2) x (pick (eqb n 3) u d))) ≡ pick (ltb n 3) x (pick (eqb n 3) u d)
unfolding pick
below_three zero x u d = refl
below_three (suc zero) x u d = refl
below_three (suc (suc zero)) x u d = refl
below_three (suc (suc (suc n))) x u d =
    let m = suc (suc (suc n)) in rw (ne_eqb m 0 (λ e. absurd (omega arith)), ne_eqb m 1 (λ e. absurd (omega arith)), ne_eqb m 2 (λ e. absurd (omega arith)), le-ltb m 3 (omega arith))

alike : {A : Type 0} (b : Bool) (x : A) → pick b x x ≡ x
unfolding pick
alike true x = refl
alike false x = refl

pub time_is : (s : List ℕ) → transfer_deadline (state_of s) ≡ pick (ltb (byte_at 12 s) 3) None (deadline_of s)
unfolding transfer_of
time_is s =
    let n = byte_at 12 s in
    state_ap transfer_deadline s ∙ below_three n None (deadline_of s) (deadline_of s) ∙ ap (pick (ltb n 3) None) (alike (eqb n 3) (deadline_of s))

pub sound_is : (s : List ℕ) → sound_state (state_of s) ≡ pick (ltb (byte_at 12 s) 3) true (pick (eqb (byte_at 12 s) 3) (sound_upload (transfer_of s)) (sound_download (transfer_of s)))
sound_is s = state_ap sound_state s ∙ below_three (byte_at 12 s) true (sound_upload (transfer_of s)) (sound_download (transfer_of s))

-- a record without a transfer or not used is never due
never : (u n : Bool) (d : Option ℕ) → pick u (pick n None d) None ≡ pick (not u || n) None d
unfolding pick
never true true d = refl
never true false d = refl
never false n d = refl

pub due_is : (s : List ℕ) → Table.deadline_of (record_of s) ≡ pick (not (record_of s).used || ltb (byte_at 12 s) 3) None (deadline_of s)
unfolding record_of
due_is s = ap (λ (d : Option ℕ). pick (record_of s).used d None) (time_is s) ∙ never (record_of s).used (ltb (byte_at 12 s) 3) (deadline_of s)

-- only a used record's deadline passes
pub past_used : (clock : ℕ) (u : Bool) (d : Option ℕ) → is_past clock (pick u d None) ≡ (u && is_past clock d)
unfolding pick
past_used clock true d = refl
past_used clock false d = refl

-- whether a tick finds nothing to do, by whether the record is used
pub quiet_used : (u p g : Bool) → u ≡ true → (not (u && p) && not g) ≡ (not (u && p) && not (u && g))
quiet_used true p g e = refl
quiet_used false p g e = not_both e refl

pub quiet_unused : (u p g : Bool) → u ≡ false → true ≡ (not (u && p) && not (u && g))
quiet_unused true p g e = not_both refl e
quiet_unused false p g e = refl

-- eight bytes are 0 exactly if their number is
next_byte : (n k : ℕ) (x : List ℕ) → le (take (suc n) (drop k x)) ≡ byte_at k x + 256 * le (take n (drop (k + 1) x))
next_byte n k x = number_more n (drop k x) ∙ rw (get_or-drop k x 0 0, add-zero k, drop-drop 1 k x)

eight_bytes : (x : List ℕ) → le (take 8 (drop 0 x)) ≡ byte_at 0 x + 256 * (byte_at 1 x + 256 * (byte_at 2 x + 256 * (byte_at 3 x + 256 * (byte_at 4 x + 256 * (byte_at 5 x + 256 * (byte_at 6 x + 256 * (byte_at 7 x + 256 * 0)))))))
unfolding le
eight_bytes x = rw (next_byte 7 0 x, next_byte 6 1 x, next_byte 5 2 x, next_byte 4 3 x, next_byte 3 4 x, next_byte 2 5 x, next_byte 1 6 x, next_byte 0 7 x)

zeros_by : (k n m l : ℕ) → (l ≡ 0 → (k ≡ 0) × (n ≡ 0) × (m ≡ 0)) → (k ≡ 0 → n ≡ 0 → m ≡ 0 → l ≡ 0) → eqb l 0 ≡ pick (eqb k 0) (eqb n 0 && eqb m 0) false
unfolding pick
zeros_by k n m l f g =
    by_test (eqb l 0)
    (λ e. let z = f (eqb-true l 0 e) in rw (e, eq-eqb k 0 z.0, eq-eqb n 0 z.1, eq-eqb m 0 z.2))
    (λ e. by_test (eqb k 0)
    (λ ek. by_test (eqb n 0)
    (λ en. by_test (eqb m 0)
    (λ em. not_both (eq-eqb l 0 (g (eqb-true k 0 ek) (eqb-true n 0 en) (eqb-true m 0 em))) e)
    (λ em. rw (e, ek, en, em)))
    (λ en. rw (e, ek, en)))
    (λ ek. rw (e, ek)))

big_six : (s : List ℕ) → big 6 s ≡ 256 * (256 * (256 * (256 * (256 * (256 * 0 + byte_at 0 s) + byte_at 1 s) + byte_at 2 s) + byte_at 3 s) + byte_at 4 s) + byte_at 5 s
unfolding big
big_six s = refl

-- a sum of 0 has only zeros in it
low_zero : (a b : ℕ) → a + 256 * b ≡ 0 → (a ≡ 0) × (b ≡ 0)
low_zero a b e = (omega arith, omega arith)

high_zero : (a b : ℕ) → 256 * a + b ≡ 0 → (a ≡ 0) × (b ≡ 0)
high_zero a b e = (omega arith, omega arith)

pub nobody_is : (x : List ℕ) → eqb (le (take 8 x)) 0 ≡ same_client (client_of x) (Asnd 0 0)
unfolding client_of
nobody_is x =
    zeros_by (byte_at 0 x) (byte_at 1 x) (big 6 (drop 2 x)) (le (take 8 x)) all_zero zero_all ∙ sym (pick_ap (λ k. same_client k (Asnd 0 0)) (eqb (byte_at 0 x) 0) (Asnd (byte_at 1 x) (big 6 (drop 2 x))) (Udp (big 4 (drop 1 x)) (number_at 2 5 x)))
  where
    six_bytes : big 6 (drop 2 x) ≡ 256 * (256 * (256 * (256 * (256 * (256 * 0 + byte_at 2 x) + byte_at 3 x) + byte_at 4 x) + byte_at 5 x) + byte_at 6 x) + byte_at 7 x
    six_bytes = rw (big_six (drop 2 x), get_or-drop 2 x 0 0, get_or-drop 2 x 1 0, get_or-drop 2 x 2 0, get_or-drop 2 x 3 0, get_or-drop 2 x 4 0, get_or-drop 2 x 5 0)

    all_zero : le (take 8 x) ≡ 0 → (byte_at 0 x ≡ 0) × (byte_at 1 x ≡ 0) × (big 6 (drop 2 x) ≡ 0)
    all_zero z =
        let q0 = low_zero _ _ (sym (eight_bytes x) ∙ z) in
        let q1 = low_zero _ _ q0.1 in
        let q2 = low_zero _ _ q1.1 in
        let q3 = low_zero _ _ q2.1 in
        let q4 = low_zero _ _ q3.1 in
        let q5 = low_zero _ _ q4.1 in
        let q6 = low_zero _ _ q5.1 in
        let q7 = low_zero (byte_at 7 x) 0 q6.1 in
        (q0.0, q1.0, six_bytes ∙ rw (q2.0, q3.0, q4.0, q5.0, q6.0, q7.0))

    zero_all : byte_at 0 x ≡ 0 → byte_at 1 x ≡ 0 → big 6 (drop 2 x) ≡ 0 → le (take 8 x) ≡ 0
    zero_all a b z =
        let q7 = high_zero _ _ (sym six_bytes ∙ z) in
        let q6 = high_zero _ _ q7.0 in
        let q5 = high_zero _ _ q6.0 in
        let q4 = high_zero _ _ q5.0 in
        let q3 = high_zero _ _ q4.0 in
        let q2 = high_zero 0 (byte_at 2 x) q3.0 in
        eight_bytes x ∙ rw (a, b, q2.1, q3.1, q4.1, q5.1, q6.1, q7.1)
