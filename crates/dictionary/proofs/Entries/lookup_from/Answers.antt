-- What is looked up is what the entries from the turn's on give, and whether the index was seen before them. What a turn skips changes nothing.
use Prim.Native.Nat.{◌+◌, ◌*◌, ◌-◌}
use native.Mathlib.Omega.{arith}
use mathlib.Core.Path.{◌≡◌, refl, sym, ap, ◌∙◌}
use mathlib.Core.Bool.{Bool, false, ◌||◌}
use lib.Dec.{eqb}
use borrow.Author.Tests.{eq-eqb}
use Rattle.std.specs.Prelude.{Result, Ok, Err}
use Rattle.picks.specs.Pick.{pick}
use Rattle.protocol.specs.declared.Entry.{Entry}
use Rattle.protocol.specs.declared.LookupError.{LookupError}
use Rattle.protocol.specs.declared.LookupError.TheVariants.{NoObject, NoSubIndex}
use Rattle.protocol.specs.DictionaryImage.{entry_at, is_at}
use Rattle.dictionary.specs.Skipping.{lookup_from}
use Rattle.dictionary.proofs.Walk.{lookup_here, lookup_more, lookup_past, lookup_end}
use Rattle.dictionary.proofs.Missing.{is_seen, as_told, other_sub, other_index}
use Rattle.dictionary.proofs.Entries.lookup_from.Goals as goal
use Rattle.dictionary.proofs.Entries.lookup_from.Goals.{then-here+else-e-sub, else-here}

pub returns-then-e-sub : goal.returns-then-e-sub
returns-then-e-sub c =
    let l = c.loop-i in
    let a = c.args in
    let e = entry_at a.self.image.now (2 + 12 * l.i) in
    let index : e.index ≡ c.key_at-e.result.index = sym c.key_at-e.ensures.index in
    let sub : e.sub ≡ c.key_at-e.result.sub = sym c.key_at-e.ensures.sub in
    ap Ok c.entry_at.ensures ∙ lookup_here a.self.image.now a.self.n l.i e c.loop-i-test.true refl _ _ _ l.invariant (rw (eq-eqb e.index a.index (index ∙ c.if-here.true), eq-eqb e.sub a.sub (sub ∙ c.if-e-sub.true)))

pub returns-then-image-at : goal.returns-then-image-at
returns-then-image-at c =
    let l = c.loop-i in
    let a = c.args in
    let e = entry_at a.self.image.now (2 + 12 * l.i) in
    let index : e.index ≡ c.key_at-e.result.index = sym c.key_at-e.ensures.index in
    let sub : e.sub ≡ c.key_at-e.result.sub = sym c.key_at-e.ensures.sub in
    let m = c.if-here.missing in
    let p : (is_at a.index a.sub e ≡ false) × (is_seen m ≡ (is_seen l.missing || eqb e.index a.index)) = elim c.if-here.branch [ then-here+else-e-sub w ↦ other_sub e a.index a.sub l.missing m (index ∙ w.if-here.true) (λ h. w.if-e-sub.false (sym sub ∙ h)) w.missing-is | else-here w ↦ other_index e a.index a.sub l.missing m (λ h. w.if-here.false (sym index ∙ h)) w.missing-is ] in
    sym (as_told m) ∙ ap (λ (b : Bool). pick {A = Result Entry LookupError} b (Err NoSubIndex) (Err NoObject)) p.1 ∙ lookup_past a.self.image.now a.self.n l.i e c.loop-i-test.true refl _ _ _ l.invariant c.if-image-at.true p.0

pub loop-i-preserved-then-not-here : goal.loop-i-preserved-then-not-here
loop-i-preserved-then-not-here c =
    let l = c.loop-i in
    let a = c.args in
    let e = entry_at a.self.image.now (2 + 12 * l.i) in
    let index : e.index ≡ c.key_at-e.result.index = sym c.key_at-e.ensures.index in
    let sub : e.sub ≡ c.key_at-e.result.sub = sym c.key_at-e.ensures.sub in
    let m = c.if-here.missing in
    let p : (is_at a.index a.sub e ≡ false) × (is_seen m ≡ (is_seen l.missing || eqb e.index a.index)) = elim c.if-here.branch [ then-here+else-e-sub w ↦ other_sub e a.index a.sub l.missing m (index ∙ w.if-here.true) (λ h. w.if-e-sub.false (sym sub ∙ h)) w.missing-is | else-here w ↦ other_index e a.index a.sub l.missing m (λ h. w.if-here.false (sym index ∙ h)) w.missing-is ] in
    lookup_more a.self.image.now a.self.n l.i e c.loop-i-test.true refl _ _ _ l.invariant p.0 ∙ ap (λ (b : Bool). lookup_from a.self.image.now a.self.n (l.i + 1) a.index a.sub b) (sym p.1) ∙ c.skip-i.ensures.2 a.index a.sub (is_seen m) (omega arith) (omega arith)

pub loop-i-preserved : goal.loop-i-preserved
loop-i-preserved c =
    let l = c.loop-i in
    let a = c.args in
    let e = entry_at a.self.image.now (2 + 12 * l.i) in
    let index : e.index ≡ c.key_at-e.result.index = sym c.key_at-e.ensures.index in
    let sub : e.sub ≡ c.key_at-e.result.sub = sym c.key_at-e.ensures.sub in
    let m = c.if-here.missing in
    let p : (is_at a.index a.sub e ≡ false) × (is_seen m ≡ (is_seen l.missing || eqb e.index a.index)) = elim c.if-here.branch [ then-here+else-e-sub w ↦ other_sub e a.index a.sub l.missing m (index ∙ w.if-here.true) (λ h. w.if-e-sub.false (sym sub ∙ h)) w.missing-is | else-here w ↦ other_index e a.index a.sub l.missing m (λ h. w.if-here.false (sym index ∙ h)) w.missing-is ] in
    lookup_more a.self.image.now a.self.n l.i e c.loop-i-test.true refl _ _ _ l.invariant p.0 ∙ ap (λ (b : Bool). lookup_from a.self.image.now a.self.n (l.i + 1) a.index a.sub b) (sym p.1)

pub returns : goal.returns
returns c =
    let l = c.loop-i in
    let a = c.args in
    sym (as_told l.missing) ∙ lookup_end a.self.image.now _ (a.self.n - l.i) (omega arith) _ _ _ l.invariant
