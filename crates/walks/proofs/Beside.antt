-- A call, within a walk, of a covered function of a plain value and of parameters that the caller was itself lent, and passes on for good: `fn g(x: T, ps..) -> S  ensures { φ }`, with no `requires`, at any list of parameters ps (`&mut [u8]`, `&[u8]`, plain values ..) and any φ of them at entry and at exit.
-- The callee is called at the caller's own lifetimes, shares and ghost names: no lifetime is made, nothing is opened, and nothing has to come back. What the callee says of the last values is what the caller says of them.
--     On               its contract.        calls_on     the call, as a step: what the parameters own is given for what says their last values, ws, and φ is known of them
--     says_last        a parameter that is passed on so has at exit what the contract says of it, and no more.        goes_last    the law
-- It says nothing of the crate, and can be copied as it stands. Assumes nothing.
use Prim.Native.Nat.{ℕ}
use mathlib.Core.List.{List, [], ◌∷◌}
use seplogic.Ra.Ura.{Ura}
use mir.Syntax.{Callee, Place, Opd as Operand, Body, seq, call}
use mir.Val.{Val}
use base.Logic.{ent, sep, emp, id⊢}
use prog.Wp.{Env, Calls, Loops}
use types.Logic.{Logic, sem}
use sound.WpLaws.{FmC}
use types.Kit.{Item, ‵, raw, ◌⊛◌, some, later, Post, runs, lands, Seq, use1, use2, ◌$◌, ◌∵◌, !, qed, move, drop, split, join, pick, fsplit, fjoin, frame, await, done}
use types.Run.{Opds}
use contract.Monad.{fact}
use contract.Lifetimes.{Lfts, Shares, toks}
use denote.RattleType.{RattleType, Denots, Valss, flat, owns}
use denote.Laws.{Is, shows}
use denote.Exit.{Kept, yes, left}
use denote.Signature.{Slot, plain, types_at}
use denote.Steps.{owned, peeks, heard, nothing}
use denote.Triple.Statement.{Contract, Triple}
use denote.Triple.Call.{calls_at}
use denote.Triple.Spec.{triple_of}
use denote.Triple.End.{Kepts, Fins, Outs, outs, lasts_of}
use denote.Triple.Clauses.{Clauses, Ended, Lasts, closing, lasts}
use denote.Triple.Walked.{Stay, Goes}
use Rattle.walks.proofs.Plain.{Plain}

-- ---- a parameter that is passed on for good
module _ {n : ℕ} where
  abbrev pub says_last : (s : Slot n) (k : Kept) → Stay s k
  says_last s k = record { fit = λ κs x f. Unit {0}; has = λ κs x f vs. left ((s.row κs).exit k) x f }

pub goes_last : {M : Type 1} {𝓤 : Ura M} (𝓛 : Logic 𝓤) (n : ℕ) (s : Slot n) (k : Kept) → Goes 𝓛 n s k (says_last s k)
goes_last 𝓛 n s k κs x f vs ok = 𝓛.laws.⇛_intro (sem 𝓛 (left ((s.row κs).exit k) x f))

-- ---- the callee
module _ (n : ℕ) (ps : List (Slot n)) (ks : Kepts ps) (T S : RattleType) where
  abbrev pub ended_on : Ended
  ended_on = record { signature = record { lifetimes = n; outlives = []; params = plain (λ _. T) ∷ ps; result = plain (λ _. S) }; kept = (yes, ks) }

  module _ (φ : (κs : Lfts n) → T.Denot → Denots (types_at ps κs) → S.Denot → Outs κs ps ks → Type 0) {M : Type 1} {𝓤 : Ura M} (𝓛 : Logic 𝓤) where
    abbrev pub clauses_on : Clauses 𝓤 ended_on
    clauses_on κs a = record { ghost = Unit {0}; requires = λ _. emp 𝓤; ensures = λ _ r e. fact 𝓤 (φ κs a.0 a.1 r e.1) }

    abbrev pub On : Contract 𝓤
    On = triple_of 𝓛 ended_on.signature (closing 𝓛 ended_on clauses_on)

    module _ (κs : Lfts n) (qs : Shares n) (x : T.Denot) (vx : Val) (a : Denots (types_at ps κs)) (vss : Valss (types_at ps κs)) where
      abbrev at_on : On.Ghost
      at_on = ((κs, qs, tt, (x, a), (vx ∷ [], vss)), tt)

      asks_on : (P : Plain T) → Is T x (vx ∷ []) → ent 𝓤 (sep 𝓤 (toks 𝓛 n κs qs) (sem 𝓛 (owns (types_at ps κs) a vss))) (On.pre at_on)
      asks_on P g =
          qed 𝓛 (raw (toks 𝓛 n κs qs) ∷ ‵ (owns (types_at ps κs) a vss) ∷ []) ∵ nothing ! $ move ! (1 ∷ 2 ∷ 0 ∷ []) $ owned ! T (Is T) (P.makes M 𝓤 𝓛) x (vx ∷ []) g $ move ! (0 ∷ 2 ∷ []) $ fjoin ! $ move ! (1 ∷ 0 ∷ []) $ join ! $ frame ! $ done !

module _ {M : Type 1} {𝓤 : Ura M} {𝓛 : Logic 𝓤} {K : Type 0} {Γ : List (Item 𝓤)} {E : Env 𝓤 𝓛.H} {C : Calls 𝓤 𝓛.H} {k : Callee} {xs : List Operand} {Λ : Loops 𝓤 𝓛.H} {q : Post 𝓤 𝓛.H} {d : Place} where
  open 𝓛 use {H}

  pub calls_on : K → FmC 𝓤 H 𝓛.laws C → {rest : Body} (n : ℕ) (ps : List (Slot n)) (ks : Kepts ps) {T : RattleType} (P : Plain T) (S : RattleType) (φ : (κs : Lfts n) → T.Denot → Denots (types_at ps κs) → S.Denot → Outs κs ps ks → Type 0) → Triple 𝓤 (C k) (On n ps ks T S φ 𝓛)
      → (κs : Lfts n) (qs : Shares n) (x : T.Denot) (vx : Val) → Is T x (vx ∷ []) → (a : Denots (types_at ps κs)) (vss : Valss (types_at ps κs)) → ((i : Item 𝓤) → Opds K 𝓛 (i ∷ Γ) E xs (vx ∷ flat (types_at ps κs) vss))
      → ((v : Val) (r : S.Denot) (ws : Fins κs ps ks a) → Is S r (v ∷ []) → φ κs x a r (outs κs ps ks a ws) → Seq K 𝓛 (raw (toks 𝓛 n κs qs) ∷ ‵ (lasts_of κs ps ks a ws) ∷ Γ) (lands C Λ E d v rest q))
      → Seq K 𝓛 (raw (toks 𝓛 n κs qs) ∷ ‵ (owns (types_at ps κs) a vss) ∷ Γ) (runs C Λ E (seq (call k xs d) rest) q)
  calls_on t fm n ps ks {T} P S φ known κs qs x vx gx a vss os go =
      use2 𝓛 (raw ((On n ps ks T S φ 𝓛).pre (at_on n ps ks T S φ 𝓛 κs qs x vx a vss))) (asks_on n ps ks T S φ 𝓛 κs qs x vx a vss P gx) $
      calls_at t fm (On n ps ks T S φ 𝓛) known (at_on n ps ks T S φ 𝓛 κs qs x vx a vss) (os _) (λ v.
      use1 𝓛 (later (some (λ (r : S.Denot). (raw (toks 𝓛 n κs qs) ⊛ ‵ (S.own_val r (v ∷ [])))
      ⊛ some (λ (ws : Lasts (ended_on n ps ks T S) κs (x, a)). ‵ (lasts (ended_on n ps ks T S) κs (x, a) ws) ⊛ raw (fact 𝓤 (φ κs x a r (outs κs ps ks a ws.1))))))) (id⊢ 𝓤 _) $ await t tt $ pick t (λ r.
      split t $ move t (1 ∷ []) $ pick t (λ ws. split t $ move t (1 ∷ []) $ heard t (φ κs x a r (outs κs ps ks a ws.1)) (λ e. fsplit t $ drop t $
      -- [what says the last values; the tokens and the result; …]
      move t (1 ∷ []) $ split t $ move t (1 ∷ []) $ peeks t S (Is S) (shows 𝓛 S) r (v ∷ []) (λ g. drop t $ go v r ws.1 g e)))))
