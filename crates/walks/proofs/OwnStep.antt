-- `fn step(c: R, x: X) -> S { let mut r = c; let y = g(&mut r, x); pair(r, y) }` at any plain R, X, Y and S, where g is `RowStep`'s, with its contract Φ, and pair is a covered function whose contract says its result by f: a walk of its MIR.
-- The record is copied to a local, the local is lent to g, and pair takes it as g left it.
--     Ψ        what the contract says of the record and x, and of the result. It is asked of what Φ says
-- It says nothing of the crate, and can be copied as it stands. Assumes nothing.
use mathlib.Core.Path.{refl, ap}
use mathlib.Core.List.{[], ◌∷◌}
use seplogic.Ra.Ura.{Ura}
use base.Fraction.{full_share}
use mir.Syntax.{Callee, Fn, erased, mut, ty_ref, place, copy, local, value_local, memory_slot, seq, assign, call, return, rv_opd, addr_of}
use mir.Val.{Val}
use base.Logic.{SProp, ent, emp, via, fst∗}
use base.Fml.{ftrue, fat}
use prog.Wp.{Calls, Loops, WpFn, Tables}
use types.Logic.{Logic}
use sound.WpLaws.{FmC, fm_of, WpFn-mono}
use types.Kit.{‵, ◌$◌, ◌∵◌, !, qed, by, move, keep, rewrite, fjoin, suffices, done}
use types.Run.{look, init, forget, stop, from, load, of_opd, addr, and_then, no_more, land, assigns, returns, enter, alloc1, alloc0, params1, pass1, pass0}
use contract.Monad.{fact}
use denote.Exit.{yes}
use denote.RattleType.{RattleType, owns}
use denote.Laws.{Is}
use denote.Memory.{pointee}
use denote.Signature.{Signature, plain}
use denote.Triple.Entry.{Vals, on_entry}
use denote.Steps.{only, nothing, owned}
use denote.Triple.Statement.{Triple}
use denote.Triple.Spec.{Meets}
use denote.Triple.Clauses.{Clauses, Ended, closing}
use denote.Triple.Walked.{says, Stays, stay_none, walk_of, Walks, ends_at, walked, Goes-none, walk_Meets}
use Rattle.walks.proofs.Plain.{Plain, ty, val, vals, tells, told, fits, fits_at, rest, silent}
use Rattle.walks.proofs.ByValue.{Value2, calls2}
use Rattle.walks.proofs.LocalLend.{MutOne, calls_local}
use Rattle.walks.proofs.Frees.{free_all}

module _ (R X Y S : RattleType) (P : Plain R) (PX : Plain X) (PY : Plain Y) (PS : Plain S) (Φ : R.Denot → X.Denot → R.Denot → Y.Denot → Type 0) (f : R.Denot → Y.Denot → S.Denot) (Ψ : R.Denot → X.Denot → S.Denot → Type 0) where
  abbrev pub signature : Signature
  signature = record { lifetimes = 0; outlives = []; params = plain (λ _. R) ∷ plain (λ _. X) ∷ []; result = plain (λ _. S) }

  -- the locals: the result, c, x, r, y, `&mut r`, and r as it is passed. k and kₚ are the keys of g and pair
  abbrev pub function : Callee → Callee → Fn
  function k kₚ = record {
    lifetimes = 0;
    outlives = [];
    ty_params = [];
    givens = 0;
    params = 2;
    locals = local (ty PS) value_local ∷ local (ty P) value_local ∷ local (ty PX) value_local ∷ local (ty P) memory_slot ∷ local (ty PY) value_local ∷ local (ty_ref erased mut (pointee R.written)) value_local ∷ local (ty P) value_local ∷ [];
    body = seq (assign (place 3 []) (rv_opd (copy (place 1 []))))
        (seq (assign (place 5 []) (addr_of (place 3 [])))
        (seq (call k (copy (place 5 []) ∷ copy (place 2 []) ∷ []) (place 4 []))
        (seq (assign (place 6 []) (rv_opd (copy (place 3 []))))
        (seq (call kₚ (copy (place 6 []) ∷ copy (place 4 []) ∷ []) (place 0 [])) return))));
  }

  abbrev pub ended : Ended
  ended = record { signature = signature; kept = (yes, (yes, tt)) }

  abbrev pub stayed : Stays ended.signature.params ended.kept
  stayed = (stay_none (λ _. R) yes, (stay_none (λ _. X) yes, tt))

  abbrev pub spec : {M : Type 1} (𝓤 : Ura M) → Clauses 𝓤 ended
  spec 𝓤 κs a = record { ghost = Unit {0}; requires = λ _. emp 𝓤; ensures = λ _ r _. fact 𝓤 (Ψ a.0 a.1.0 r) }

  module _ (meant : (c : R.Denot) (x : X.Denot) (c' : R.Denot) (y : Y.Denot) → Φ c x c' y → Ψ c x (f c' y)) {M : Type 1} {𝓤 : Ura M} (𝓛 : Logic 𝓤) where
    open 𝓛 use {H}

    module _ (c : R.Denot) (x : X.Denot) (gc : Is R c (vals P c)) (gx : Is X x (vals PX x)) where
      abbrev at : Vals signature tt
      at = (vals P c, (vals PX x, tt))

      abbrev bound : (walk_of 𝓛 ended stayed (spec 𝓤)).Ghost
      bound = ((tt, tt, tt, (c, (x, tt)), at), tt)

      abbrev Post : Val → SProp 𝓤
      Post = (walk_of 𝓛 ended stayed (spec 𝓤)).post bound

      exits : (s : S.Denot) → Is S s (vals PS s) → Ψ c x s → ent 𝓤 (emp 𝓤) (Post (val PS s))
      exits s gs e =
          qed 𝓛 [] ∵ suffices ! _ (ends_at 𝓛 ended stayed (spec 𝓤) bound (val PS s) s (rest P yes c, (rest PX yes x, tt)) (tt, (tt, tt))) $ says ! e $
          owned ! S (Is S) (PS.makes M 𝓤 𝓛) s _ gs $ nothing ! $ owned ! X (Is X) (PX.makes M 𝓤 𝓛) x _ gx $ fjoin ! $ owned ! R (Is R) (P.makes M 𝓤 𝓛) c _ gc $ fjoin ! $ nothing ! $ done !

      module _ (C : Calls 𝓤 H) (Λ : Loops 𝓤 H) (fm : FmC 𝓤 H 𝓛.laws C) (k kₚ : Callee) (known : Triple 𝓤 (C k) (MutOne R X Y Φ 𝓛)) (known-pair : Triple 𝓤 (C kₚ) (Value2 R Y S f 𝓛)) where
        walk : ent 𝓤 (on_entry 𝓛 signature tt tt (c, (x, tt)) at) (WpFn 𝓤 H C Λ (function k kₚ) (val P c ∷ val PX x ∷ []) Post)
        walk =
            qed 𝓛 (‵ ftrue ∷ ‵ (owns (R ∷ X ∷ []) (c, (x, tt)) at) ∷ []) ∵ keep ! [] $ enter ! C Λ (function k kₚ) (val P c ∷ val PX x ∷ []) _ $
            alloc1 ! (λ l₀. alloc1 ! (λ l₁. alloc1 ! (λ l₂. alloc1 ! (λ l₃. alloc1 ! (λ l₄. alloc1 ! (λ l₅. alloc1 ! (λ l₆. alloc0 ! $ params1 ! $ pass1 ! (init ! 10 refl (fits P 𝓛 c gc)) $ pass1 ! (init ! 8 refl (fits PX 𝓛 x gx)) $ pass0 ! $
            -- [room for _6; …; room for _5; …; room for _4; …; room for _3; …; _2; …; _1; …; room for _0; …]
            assigns ! (of_opd ! (load ! (from ! (stop !)) (look ! 10 refl))) (from ! (stop !)) (init ! 6 refl (fits P 𝓛 c gc)) $
            assigns ! (addr ! (from ! (stop !))) (from ! (stop !)) (init ! 2 refl (tt, tt)) $
            move ! (6 ∷ []) $
            -- [_3; room for _6; …; _5; …; room for _4; …; _2; …]
            calls_local ! fm P PX Y Φ known c l₃ gc x gx (λ i j. and_then ! (load ! (from ! (stop !)) (look ! 4 refl)) (and_then ! (load ! (from ! (stop !)) (look ! 9 refl)) (no_more !))) (λ v c' y gc' gy e.
            land ! (from ! (stop !)) (init ! 5 refl (fits_at PY 𝓛 y v gy)) $ rewrite ! 5 (λ (z : Val). ‵ (fat full_share (ty PY) l₄ 0 z)) (ap only (tells PY y (v ∷ []) gy)) refl $
            assigns ! (of_opd ! (load ! (from ! (stop !)) (look ! 0 refl))) (from ! (stop !)) (init ! 1 refl (fits P 𝓛 c' gc')) $
            calls2 ! fm P PY S f known-pair c' (val P c') gc' y (val PY y) (told PY y (v ∷ []) gy) (and_then ! (load ! (from ! (stop !)) (look ! 1 refl)) (and_then ! (load ! (from ! (stop !)) (look ! 5 refl)) (no_more !))) (λ u gu.
            land ! (from ! (stop !)) (init ! 12 refl (fits_at PS 𝓛 (f c' y) u gu)) $ rewrite ! 12 (λ (z : Val). ‵ (fat full_share (ty PS) l₀ 0 z)) (ap only (tells PS (f c' y) (u ∷ []) gu)) refl $
            returns ! (look ! 12 refl) $ forget ! 0 refl $ forget ! 1 refl $ forget ! 3 refl $ forget ! 5 refl $ forget ! 8 refl $ forget ! 10 refl $ forget ! 12 refl $
            keep ! (1 ∷ 2 ∷ 3 ∷ 4 ∷ 5 ∷ 6 ∷ 0 ∷ 7 ∷ 8 ∷ 9 ∷ 10 ∷ 11 ∷ 12 ∷ 13 ∷ []) $ free_all ! ((ty PS, l₀) ∷ (ty P, l₁) ∷ (ty PX, l₂) ∷ (ty P, l₃) ∷ (ty PY, l₄) ∷ (ty_ref erased mut (pointee R.written), l₅) ∷ (ty P, l₆) ∷ []) $
            by ! (exits (f c' y) (told PS (f c' y) (u ∷ []) gu) (meant c x c' y e)))))))))))

    module _ (k kₚ : Callee) where
      own_step_walks : (C : Calls 𝓤 H) (Λ : Loops 𝓤 H) → FmC 𝓤 H 𝓛.laws C → Triple 𝓤 (C k) (MutOne R X Y Φ 𝓛) → Triple 𝓤 (C kₚ) (Value2 R Y S f 𝓛) → Walks 𝓛 ended stayed (WpFn 𝓤 H C Λ (function k kₚ)) (spec 𝓤)
      own_step_walks C Λ fm known known-pair = walked 𝓛 ended stayed (spec 𝓤) (WpFn 𝓤 H C Λ (function k kₚ)) (λ κs. (vals P, (vals PX, tt))) (λ κs. (tells P, (tells PX, tt)))
          (λ κs qs bounds a g are. via 𝓤 _ (fst∗ 𝓤 _ (emp 𝓤)) (walk a.0 a.1.0 are.0 are.1.0 C Λ fm k kₚ known known-pair))

      pub own_step_meets : (𝓣 : Tables 𝓤 H) → Triple 𝓤 (𝓣.C k) (MutOne R X Y Φ 𝓛) → Triple 𝓤 (𝓣.C kₚ) (Value2 R Y S f 𝓛) → Meets 𝓛 signature (WpFn 𝓤 H 𝓣.C 𝓣.Λ (function k kₚ)) (closing 𝓛 ended (spec 𝓤))
      own_step_meets 𝓣 known known-pair = walk_Meets 𝓛 ended stayed (Goes-none 𝓛 0 (λ _. R) yes (λ κs y f. silent P yes y f), (Goes-none 𝓛 0 (λ _. X) yes (λ κs y f. silent PX yes y f), tt)) (spec 𝓤)
          (WpFn 𝓤 H 𝓣.C 𝓣.Λ (function k kₚ)) (WpFn-mono 𝓤 H 𝓛.laws 𝓣 (function k kₚ)) (own_step_walks 𝓣.C 𝓣.Λ (fm_of 𝓤 H 𝓛.laws 𝓣) known known-pair)
