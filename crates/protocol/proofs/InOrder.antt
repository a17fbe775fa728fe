-- Demand 3 as a reader would say it: a client's frames in the order in which they were sent.
use Prim.Native.Nat.{ℕ}
use native.Mathlib.Omega.{arith}
use mathlib.Core.Path.{◌≡◌, refl, sym, ap, ◌∙◌}
use mathlib.Core.Bool.{Bool, true, false, ◌&&◌, not}
use mathlib.Core.List.{List, [], ◌∷◌, ◌++◌, append_assoc, append-nil, reverse, reverse-cons, reverse-append, reverse-reverse}
use mathlib.Core.Option.{some}
use lib.ListN.{length}
use Rattle.picks.specs.Pick.{pick, every}
use Rattle.picks.proofs.Keep.{left, both, of_every, every_append}
use Rattle.std.specs.Prelude.{Some}
use Rattle.protocol.specs.declared.SdoClientInfo.{SdoClientInfo}
use Rattle.protocol.specs.Command.{is_initiate}
use Rattle.protocol.specs.Series.{Call, start, run}
use Rattle.protocol.specs.EveryUpload.{frames_of, Frame, is_piece, is_repeat, is_kept, is_complete, Spelled, spell, Finishes, Spells, AllSpell}
use Rattle.protocol.proofs.Series.{every_upload_spells}

-- the payloads of the kept frames, joined in order
unfoldable pub joined : List Frame → List ℕ
joined [] = []
joined (f ∷ fs) = pick (is_kept f) (f.command.payload ++ joined fs) (joined fs)

-- an Initiate not under send mark 3
abbrev pub starts : Frame → Bool
starts f = is_kept f && is_initiate f.command.header.segmentation

-- the frames before a Complete have a last such Initiate; from it up to the Complete they spell the value held when the upload began, whose length is the size in Initiate
pub record SpelledInOrder (before : List Frame) (k : Frame) : Type 0 where
  pub earlier : List Frame
  pub initiate : Frame
  pub middle : List Frame
  pub split : before ≡ earlier ++ (initiate ∷ middle)
  pub first : starts initiate ≡ true
  pub last : every (λ f. not (starts f)) middle ≡ true
  pub held : initiate.held ≡ some (joined (initiate ∷ middle) ++ k.command.payload)
  pub size : initiate.command.total ≡ Some (length (joined (initiate ∷ middle) ++ k.command.payload))

-- walking back joins what walking forward joins
back : List Frame → List ℕ → List ℕ
back [] after = after
back (f ∷ fs) after = back fs (pick (is_kept f) (f.command.payload ++ after) after)

joined_append : (a b : List Frame) → joined (a ++ b) ≡ joined a ++ joined b
unfolding joined pick
joined_append [] b = refl
joined_append (f ∷ a) b = go (is_kept f) (joined_append a b)
  where
    go : (t : Bool) → joined (a ++ b) ≡ joined a ++ joined b → pick t (f.command.payload ++ joined (a ++ b)) (joined (a ++ b)) ≡ pick t (f.command.payload ++ joined a) (joined a) ++ joined b
    go true e = rw (e, append_assoc f.command.payload (joined a) (joined b))
    go false e = e

back_joined : (fs : List Frame) (after : List ℕ) → back fs after ≡ joined (reverse fs) ++ after
unfolding back joined pick
back_joined [] after = refl
back_joined (f ∷ fs) after = rw (reverse-cons f fs, joined_append (reverse fs) (f ∷ [])) (go (is_kept f) (back_joined fs (f.command.payload ++ after)) (back_joined fs after))
  where
    go : (t : Bool) → back fs (f.command.payload ++ after) ≡ joined (reverse fs) ++ (f.command.payload ++ after) → back fs after ≡ joined (reverse fs) ++ after → back fs (pick t (f.command.payload ++ after) after) ≡ joined (reverse fs) ++ pick t (f.command.payload ++ []) [] ++ after
    go true e g = rw (append-nil f.command.payload, append_assoc (joined (reverse fs)) f.command.payload after) e
    go false e g = rw (append-nil (joined (reverse fs))) g

-- what is spelled names its Initiate among the frames
record Split (fs : List Frame) (after : List ℕ) (i : Frame) (bytes : List ℕ) : Type 0 where
  newer : List Frame
  older : List Frame
  split : fs ≡ newer ++ (i ∷ older)
  first : starts i ≡ true
  last : every (λ f. not (starts f)) newer ≡ true
  whole : bytes ≡ i.command.payload ++ back newer after

spelled_one : {s t : Spelled} → some s ≡ some t → s ≡ t
spelled_one e = cc

module _ (f : Frame) (fs : List Frame) (after : List ℕ) (i : Frame) (bytes : List ℕ) where
  at_start : is_kept f ≡ true → is_initiate f.command.header.segmentation ≡ true → ◌≡◌ {A = Spelled} (record { initiate = f; bytes = f.command.payload ++ after }) (record { initiate = i; bytes = bytes }) → Split (f ∷ fs) after i bytes
  unfolding every back
  at_start a b w =
      let p = ap (λ (x : Spelled). x.initiate) w in
      record { newer = []; older = fs; split = ap (λ x. x ∷ fs) p; first = ap starts (sym p) ∙ both a b; last = refl; whole = sym (ap (λ (x : Spelled). x.bytes) w) ∙ ap (λ (x : Frame). x.command.payload ++ after) p }

  past_kept : is_kept f ≡ true → is_initiate f.command.header.segmentation ≡ false → Split fs (f.command.payload ++ after) i bytes → Split (f ∷ fs) after i bytes
  unfolding every back pick
  past_kept a b w = record { newer = f ∷ w.newer; older = w.older; split = ap (λ l. f ∷ l) w.split; first = w.first; last = both {a = not (starts f)} (rw (a, b)) w.last; whole = rw a w.whole }

  past_other : is_kept f ≡ false → Split fs after i bytes → Split (f ∷ fs) after i bytes
  unfolding every back pick
  past_other a w = record { newer = f ∷ w.newer; older = w.older; split = ap (λ l. f ∷ l) w.split; first = w.first; last = both {a = not (starts f)} (rw a) w.last; whole = rw a w.whole }

spell_splits : (fs : List Frame) (after : List ℕ) (i : Frame) (bytes : List ℕ) → spell fs after ≡ some (record { initiate = i; bytes = bytes }) → Split fs after i bytes
unfolding spell pick
spell_splits [] after i bytes e = absurd (let z : ◌≡◌ {A = ℕ} 0 1 = cc in omega arith)
spell_splits (f ∷ fs) after i bytes e = go (is_kept f) refl (is_initiate f.command.header.segmentation) refl (spell_splits fs after i bytes) (spell_splits fs (f.command.payload ++ after) i bytes)
  where
    go : (k : Bool) → is_kept f ≡ k → (n : Bool) → is_initiate f.command.header.segmentation ≡ n → (spell fs after ≡ some (record { initiate = i; bytes = bytes }) → Split fs after i bytes) → (spell fs (f.command.payload ++ after) ≡ some (record { initiate = i; bytes = bytes }) → Split fs (f.command.payload ++ after) i bytes) → Split (f ∷ fs) after i bytes
    go true a true b r q = at_start f fs after i bytes a b (spelled_one (rw (a, b) at e))
    go true a false b r q = past_kept f fs after i bytes a b (q (rw (a, b) at e))
    go false a n b r q = past_other f fs after i bytes a (r (rw a at e))

-- a test of every frame does not depend on their order
every_reverse : (t : Frame → Bool) (fs : List Frame) → every t fs ≡ true → every t (reverse fs) ≡ true
unfolding every
every_reverse t [] e = refl
every_reverse t (f ∷ fs) e =
    let w = of_every t f fs e in
    rw (reverse-cons f fs, every_append t (reverse fs) (f ∷ [])) (both (every_reverse t fs w.1) (both w.0 refl))

-- the claim at a place of the list
spells_at : (newer : List Frame) (k : Frame) (older : List Frame) → AllSpell (newer ++ (k ∷ older)) → Spells k older
unfolding AllSpell
spells_at [] k older all = all.0
spells_at (f ∷ newer) k older all = spells_at newer k older all.1

turned : (newer : List Frame) (i : Frame) (older : List Frame) → reverse (newer ++ (i ∷ older)) ≡ reverse older ++ (i ∷ reverse newer)
turned newer i older = reverse-append newer (i ∷ older) ∙ ap (λ l. l ++ reverse newer) (reverse-cons i older) ∙ append_assoc (reverse older) (i ∷ []) (reverse newer)

head_joined : (i : Frame) (m : List Frame) → is_kept i ≡ true → joined (i ∷ m) ≡ i.command.payload ++ joined m
unfolding joined pick
head_joined i m e = rw e

finishes_in_order : (older : List Frame) (k : Frame) → Finishes k older → SpelledInOrder (reverse older) k
finishes_in_order older k f =
    let w = spell_splits older k.command.payload f.initiate f.bytes f.spelled in
    let i = f.initiate in
    let m = reverse w.newer in
    let e : f.bytes ≡ joined (i ∷ m) ++ k.command.payload = w.whole ∙ ap (λ l. i.command.payload ++ l) (back_joined w.newer k.command.payload) ∙ sym (append_assoc i.command.payload (joined m) k.command.payload) ∙ ap (λ l. l ++ k.command.payload) (sym (head_joined i m (left (is_kept i) (is_initiate i.command.header.segmentation) w.first))) in
    record {
      earlier = reverse w.older;
      initiate = i;
      middle = m;
      split = ap reverse w.split ∙ turned w.newer i w.older;
      first = w.first;
      last = every_reverse (λ x. not (starts x)) w.newer w.last;
      held = f.held ∙ ap some e;
      size = f.size ∙ ap (λ l. Some (length l)) e;
    }

-- whenever a Complete stands at some place among a client's frames in order, it is not under send mark 3, and the frames before it spell the value held
pub every_upload_spells_in_order : (calls : List Call) (area : List ℕ) (c : SdoClientInfo) (before : List Frame) (k : Frame) (after : List Frame) → reverse (frames_of c (run (start area) calls [])) ≡ before ++ (k ∷ after) → is_piece k ≡ true → is_complete k.command.header.segmentation ≡ true → (is_repeat k ≡ false) × SpelledInOrder before k
every_upload_spells_in_order calls area c before k after e p q =
    let fs = frames_of c (run (start area) calls []) in
    let s : fs ≡ reverse after ++ (k ∷ reverse before) = sym (reverse-reverse fs) ∙ ap reverse e ∙ turned before k after in
    let f = (spells_at (reverse after) k (reverse before) (rw s at ((every_upload_spells calls area).spells c))).finishes p q in
    (f.kept, rw (reverse-reverse before) at (finishes_in_order (reverse before) k f))
