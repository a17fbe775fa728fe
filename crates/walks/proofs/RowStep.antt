-- `fn step(c: &mut R, x: X) -> Y { let s = g(*c, x); *c = s.one; s.two }` at any plain R, X and Y, where g is a covered function whose contract says its result by f: a walk of its MIR.
-- The borrow is opened once, the record is read, g is called, its first part is stored over the record, and the borrow is closed there.
--     Φ      what the contract says of the record at entry, of x, of the record at exit and of the result. It is asked of what f says
-- R may be an array: so `fn run(t: &mut [R; n], x: X) -> Y` is an instance.
-- It says nothing of the crate, and can be copied as it stands. Assumes nothing.
use mathlib.Core.Path.{refl}
use Prim.Native.Nat.{ℕ}
use mathlib.Core.List.{List, [], ◌∷◌}
use seplogic.Ra.Ura.{Ura}
use base.Fraction.{full_share}
use mir.Syntax.{Callee, Fn, named, mut, ty_ref, deref, field, place, copy, local, value_local, seq, assign, call, return, rv_opd}
use mir.Val.{vptr, Val}
use base.Logic.{SProp, ent, emp, via, fst∗}
use base.Fml.{Lft, GName, Share, ftrue, fat, flft, fobs, fbor}
use prog.Wp.{Calls, Loops, WpFn, Tables}
use types.Logic.{Logic}
use sound.WpLaws.{FmC, fm_of, WpFn-mono}
use types.Kit.{‵, ◌⊛◌, ⋆, ◌$◌, ◌∵◌, !, qed, by, move, keep, drop, split, join, rewrite, fsplit, fsplit3, fjoin, fjoin3, feq_i, suffices, frame, done}
use types.Part.{whole, sub, look_in}
use types.Run.{look, look_raw, init, store_raw, forget, stop, hop, fld, from, load, of_opd, and_then, no_more, land, assigns, returns, enter, alloc1, alloc0, params1, pass1, pass0, free1, free0}
use types.SemTy.{Body}
use contract.Monad.{fact}
use denote.Exit.{yes}
use denote.RattleType.{RattleType, owns}
use denote.Laws.{Is, shows}
use denote.Memory.{mem, pointee}
use denote.Ref.{MutBor, MutRef, mut_vals, mut_Tells}
use denote.Signature.{Signature, plain, mut_ref_to}
use denote.Struct.Steps.{spelt}
use denote.Triple.Entry.{Vals, on_entry}
use denote.Steps.{opens, closes, nothing, owned, peeks}
use denote.Triple.Statement.{Triple}
use denote.Triple.Spec.{Meets}
use denote.Triple.Clauses.{Clauses, Ended, closing}
use denote.Triple.Walked.{says, Stays, stay_ref, stay_none, walk_of, Walks, ends_at, walked, Goes-ref, Goes-none, walk_Meets}
use Rattle.walks.proofs.Plain.{Plain, ty, val, vals, tells, fits, bares, wraps, rest, silent}
use Rattle.walks.proofs.ByValue.{Value2, calls2}
use Rattle.walks.proofs.Two.{Two, struct_ty, struct_is, struct_fits}

module _ (R X Y S : RattleType) (P : Plain R) (PX : Plain X) (PY : Plain Y) (B : Two P PY S) (f : R.Denot → X.Denot → S.Denot) (Φ : R.Denot → X.Denot → R.Denot → Y.Denot → Type 0) (meant : (c : R.Denot) (x : X.Denot) → Φ c x (B.one (f c x)) (B.two (f c x))) where
  abbrev pub signature : Signature
  signature = record { lifetimes = 1; outlives = []; params = mut_ref_to (0 ∷ []) tt (plain (λ _. R)) ∷ plain (λ _. X) ∷ []; result = plain (λ _. Y) }

  -- the locals: the result, c, x, what g returns, and what it is passed. k is g's key
  abbrev pub function : Callee → Fn
  function k = record {
    lifetimes = 1;
    outlives = [];
    ty_params = [];
    givens = 0;
    params = 2;
    locals = local (ty PY) value_local ∷ local (ty_ref (named 0) mut (pointee R.written)) value_local ∷ local (ty PX) value_local ∷ local (struct_ty B) value_local ∷ local (ty P) value_local ∷ [];
    body = seq (assign (place 4 []) (rv_opd (copy (place 1 (deref (ty P) ∷ [])))))
        (seq (call k (copy (place 4 []) ∷ copy (place 2 []) ∷ []) (place 3 []))
        (seq (assign (place 1 (deref (ty P) ∷ [])) (rv_opd (copy (place 3 (field 0 ∷ [])))))
        (seq (assign (place 0 []) (rv_opd (copy (place 3 (field 1 ∷ []))))) return)));
  }

  abbrev pub ended : Ended
  ended = record { signature = signature; kept = (yes, (yes, tt)) }

  abbrev pub stayed : Stays ended.signature.params ended.kept
  stayed = (stay_ref (0 ∷ []) tt (plain (λ _. R)), (stay_none (λ _. X) yes, tt))

  abbrev pub spec : {M : Type 1} (𝓤 : Ura M) → Clauses 𝓤 ended
  spec 𝓤 κs a = record { ghost = Unit {0}; requires = λ _. emp 𝓤; ensures = λ _ r e. fact 𝓤 (Φ a.0.now a.1.0 e.0.now r) }

  module _ {M : Type 1} {𝓤 : Ura M} (𝓛 : Logic 𝓤) (κ : Lft) (q : Share) (b o : ℕ) (γ : GName) (h : R.Denot) (x : X.Denot) (gx : Is X x (vals PX x)) where
    open 𝓛 use {H}

    abbrev a : MutBor R.Denot × (X.Denot × Unit {0})
    a = (record { ref_ptr = (b, o); ghost_name = γ; now = h }, (x, tt))

    abbrev h' : R.Denot
    h' = B.one (f h x)

    abbrev r : Y.Denot
    r = B.two (f h x)

    abbrev at : Vals signature (κ, tt)
    at = (vptr b o ∷ [], (vals PX x, tt))

    abbrev bound : (walk_of 𝓛 ended stayed (spec 𝓤)).Ghost
    bound = (((κ, tt), (q, tt), tt, a, at), tt)

    abbrev Post : Val → SProp 𝓤
    Post = (walk_of 𝓛 ended stayed (spec 𝓤)).post bound

    exits : Is Y r (vals PY r) → ent 𝓤 (⋆ 𝓛 (‵ (fobs γ (R.coded.code h')) ∷ ‵ (fbor κ (Body (mem R) b o γ)) ∷ ‵ (flft κ q) ∷ [])) (Post (val PY r))
    exits gr =
        qed 𝓛 (‵ (fobs γ (R.coded.code h')) ∷ ‵ (fbor κ (Body (mem R) b o γ)) ∷ ‵ (flft κ q) ∷ []) ∵
        suffices ! _ (ends_at 𝓛 ended stayed (spec 𝓤) bound (val PY r) r (h', (rest PX yes x, tt)) (tt, (tt, tt))) $ says ! (meant h x) $ nothing ! $ move ! (3 ∷ 0 ∷ []) $ join ! $
        frame ! $ feq_i ! (List Val) (vptr b o ∷ []) (vptr b o ∷ []) refl $ fjoin3 ! $ nothing ! $ owned ! X (Is X) (PX.makes M 𝓤 𝓛) x _ gx $ fjoin ! $ move ! (1 ∷ 0 ∷ []) $ fjoin ! $
        frame ! $ owned ! Y (Is Y) (PY.makes M 𝓤 𝓛) r _ gr $ done !

    module _ (C : Calls 𝓤 H) (Λ : Loops 𝓤 H) (fm : FmC 𝓤 H 𝓛.laws C) (k : Callee) (known : Triple 𝓤 (C k) (Value2 R X S f 𝓛)) where
      walk : ent 𝓤 (on_entry 𝓛 signature (κ, tt) (q, tt) a at) (WpFn 𝓤 H C Λ (function k) (vptr b o ∷ val PX x ∷ []) Post)
      walk =
          qed 𝓛 ((‵ (flft κ q) ⊛ ‵ ftrue) ∷ ‵ (owns (MutRef (named 0) κ R ∷ X ∷ []) a at) ∷ []) ∵ split ! $ move ! (2 ∷ []) $ fsplit ! $ fsplit3 ! $ drop ! $ move ! (0 ∷ 1 ∷ 3 ∷ []) $
          -- [obs; the borrow; the token; what x owns; true]
          enter ! C Λ (function k) (vptr b o ∷ val PX x ∷ []) _ $
          alloc1 ! (λ l₀. alloc1 ! (λ l₁. alloc1 ! (λ l₂. alloc1 ! (λ l₃. alloc1 ! (λ l₄. alloc0 ! $ params1 ! $ pass1 ! (init ! 6 refl (tt, tt)) $ pass1 ! (init ! 4 refl (fits PX 𝓛 x gx)) $ pass0 ! $
          move ! (10 ∷ 11 ∷ 12 ∷ []) $ opens ! tt R {h = h} b o (λ vs. spelt ! R (Is R) (shows 𝓛 R) (vals P) (tells P) full_share h vs b o $
          move ! (1 ∷ []) $ peeks ! R (Is R) (shows 𝓛 R) h (vals P h) (λ gh. drop ! $ bares ! P full_share h b o $
          -- [the record's cell; the open borrow; obs; auth; room for _4; …; room for _3; …; _2; …; _1; …; room for _0; …]
          assigns ! (of_opd ! (load ! (from ! (hop ! (look ! 10 refl) (stop !))) (look_raw ! 0 refl))) (from ! (stop !)) (init ! 4 refl (fits P 𝓛 h gh)) $
          calls2 ! fm P PX S f known h (val P h) gh x (val PX x) gx (and_then ! (load ! (from ! (stop !)) (look ! 4 refl)) (and_then ! (load ! (from ! (stop !)) (look ! 8 refl)) (no_more !))) (λ v gs.
          land ! (from ! (stop !)) (init ! 6 refl (struct_fits B 𝓛 (f h x) v gs)) $
          rewrite ! 6 (λ (u : Val). ‵ (fat full_share (struct_ty B) l₃ 0 u)) (struct_is B (f h x) v gs) refl $
          assigns ! (of_opd ! (load ! (from ! (fld ! refl (stop !))) (look_in ! 6 (sub ! 0 refl (whole !))))) (from ! (hop ! (look ! 10 refl) (stop !))) (store_raw ! 0 refl (fits P 𝓛 h' (B.one_is (f h x) v gs))) $
          assigns ! (of_opd ! (load ! (from ! (fld ! refl (stop !))) (look_in ! 6 (sub ! 1 refl (whole !))))) (from ! (stop !)) (init ! 12 refl (fits PY 𝓛 r (B.two_is (f h x) v gs))) $
          wraps ! P full_share (val P h') b o $ owned ! R (Is R) (P.makes M 𝓤 𝓛) h' (vals P h') (B.one_is (f h x) v gs) $ move ! (1 ∷ 0 ∷ []) $ closes ! tt R h' (vals P h') b o $
          -- [obs; the borrow; the token; _4; …; _3; …; _2; …; _1; …; _0; …]
          returns ! (look ! 11 refl) $ forget ! 3 refl $ forget ! 5 refl $ forget ! 7 refl $ forget ! 9 refl $ forget ! 11 refl $
          move ! (11 ∷ 12 ∷ []) $ free1 ! $ move ! (9 ∷ 10 ∷ []) $ free1 ! $ move ! (7 ∷ 8 ∷ []) $ free1 ! $ move ! (5 ∷ 6 ∷ []) $ free1 ! $ move ! (3 ∷ 4 ∷ []) $ free1 ! $ free0 ! $
          keep ! (0 ∷ 1 ∷ 2 ∷ []) $ by ! (exits (B.two_is (f h x) v gs))))))))))

  module _ {M : Type 1} {𝓤 : Ura M} (𝓛 : Logic 𝓤) (k : Callee) where
    open 𝓛 use {H}

    step_walks : (C : Calls 𝓤 H) (Λ : Loops 𝓤 H) → FmC 𝓤 H 𝓛.laws C → Triple 𝓤 (C k) (Value2 R X S f 𝓛) → Walks 𝓛 ended stayed (WpFn 𝓤 H C Λ (function k)) (spec 𝓤)
    step_walks C Λ fm known = walked 𝓛 ended stayed (spec 𝓤) (WpFn 𝓤 H C Λ (function k)) (λ κs. (mut_vals, (vals PX, tt))) (λ κs. (mut_Tells (named 0) κs.0 R, (tells PX, tt)))
        (λ κs qs bounds a g are. via 𝓤 _ (fst∗ 𝓤 _ (emp 𝓤)) (walk 𝓛 κs.0 qs.0 a.0.ref_ptr.0 a.0.ref_ptr.1 a.0.ghost_name a.0.now a.1.0 are.1.0 C Λ fm k known))

    pub step_meets : (𝓣 : Tables 𝓤 H) → Triple 𝓤 (𝓣.C k) (Value2 R X S f 𝓛) → Meets 𝓛 signature (WpFn 𝓤 H 𝓣.C 𝓣.Λ (function k)) (closing 𝓛 ended (spec 𝓤))
    step_meets 𝓣 known = walk_Meets 𝓛 ended stayed (Goes-ref 𝓛 1 0 tt (plain (λ _. R)), (Goes-none 𝓛 1 (λ _. X) yes (λ κs x f. silent PX yes x f), tt)) (spec 𝓤)
        (WpFn 𝓤 H 𝓣.C 𝓣.Λ (function k)) (WpFn-mono 𝓤 H 𝓛.laws 𝓣 (function k)) (step_walks 𝓣.C 𝓣.Λ (fm_of 𝓤 H 𝓛.laws 𝓣) known)
