-- A call, within a walk, of a covered function of plain parameters whose contract says its result by a function f: `fn g(a: R, b: X) -> S  ensures { result ≡ f a b }`, with no `requires`.
--     Value ps f       its contract, at parameters ps.        Value0, Value2, Value4      at none, two and four
--     calls0, calls2, calls4       the call, as a step of a walk: the context stays as it is, and the result v is known to be a machine value of f a b
-- It says nothing of the crate, and can be copied as it stands. Assumes nothing.
use mathlib.Core.Path.{◌≡◌, subst}
use mathlib.Core.List.{List, [], ◌∷◌}
use seplogic.Ra.Ura.{Ura}
use mir.Syntax.{Callee, Place, Opd as Operand, Body, seq, call}
use mir.Val.{Val}
use base.Logic.{ent, sep, emp, via, mono_l, emp∗, id⊢, ex_e, snd∗}
use base.Fml.{ftrue}
use prog.Wp.{Env, Calls, Loops, eval_opds}
use types.Logic.{Logic, sem}
use sound.WpLaws.{FmC}
use types.Kit.{Item, ‵, raw, ◌⊛◌, some, later, ⋆, push, Post, runs, lands, aim, Seq, use0, use1, ◌$◌, ◌∵◌, !, qed, move, drop, split, join, pick, frame, await, done}
use types.Run.{Opds}
use contract.Monad.{fact}
use denote.RattleType.{RattleType, Denots, Valss, flat, owns}
use denote.Laws.{Is, Ises, shows, owns_make}
use denote.Exit.{yes}
use denote.Signature.{Slot, plain, types_at}
use denote.Steps.{peeks, heard, nothing}
use denote.Triple.Statement.{Contract, Triple}
use denote.Triple.Spec.{triple_of}
use denote.Triple.End.{Kepts}
use denote.Triple.Clauses.{Clauses, Ended, closing, ensured, lasts}
use Rattle.walks.proofs.Plain.{Plain}

module _ (ps : List (Slot 0)) (ks : Kepts ps) (S : RattleType) where
  abbrev pub ended_v : Ended
  ended_v = record { signature = record { lifetimes = 0; outlives = []; params = ps; result = plain (λ _. S) }; kept = ks }

  module _ (f : Denots (types_at ps tt) → S.Denot) {M : Type 1} {𝓤 : Ura M} (𝓛 : Logic 𝓤) where
    abbrev pub clauses_v : Clauses 𝓤 ended_v
    clauses_v κs a = record { ghost = Unit {0}; requires = λ _. emp 𝓤; ensures = λ _ r _. fact 𝓤 (r ≡ f a) }

    abbrev pub Value : Contract 𝓤
    Value = triple_of 𝓛 ended_v.signature (closing 𝓛 ended_v clauses_v)

    -- of what the callee ensures, the clause alone
    said_v : (a : Denots (types_at ps tt)) (r : S.Denot) → ent 𝓤 (ensured 𝓛 ended_v clauses_v tt a tt r) (fact 𝓤 (r ≡ f a))
    said_v a r = ex_e 𝓤 _ (λ ws. snd∗ 𝓤 (sem 𝓛 (lasts ended_v tt a ws)) (fact 𝓤 (r ≡ f a)))

module _ {M : Type 1} {𝓤 : Ura M} {𝓛 : Logic 𝓤} {K : Type 0} {Γ : List (Item 𝓤)} {E : Env 𝓤 𝓛.H} {C : Calls 𝓤 𝓛.H} {k : Callee} {xs : List Operand} {Λ : Loops 𝓤 𝓛.H} {q : Post 𝓤 𝓛.H} {d : Place} where
  open 𝓛 use {H}

  pub calls_value : K → FmC 𝓤 H 𝓛.laws C → {rest : Body} (ps : List (Slot 0)) (ks : Kepts ps) (S : RattleType) (f : Denots (types_at ps tt) → S.Denot) → Triple 𝓤 (C k) (Value ps ks S f 𝓛)
      → (a : Denots (types_at ps tt)) (vss : Valss (types_at ps tt)) → ent 𝓤 (emp 𝓤) (sem 𝓛 (owns (types_at ps tt) a vss)) → Opds K 𝓛 Γ E xs (flat (types_at ps tt) vss)
      → ((v : Val) → Is S (f a) (v ∷ []) → Seq K 𝓛 Γ (lands C Λ E d v rest q)) → Seq K 𝓛 Γ (runs C Λ E (seq (call k xs d) rest) q)
  calls_value t fm {rest} ps ks S f known a vss made os go = record {
    prf = via 𝓤 (eval_opds 𝓤 H E xs (λ us. C k us (λ r. aim 𝓤 H (lands C Λ E d r rest q))))
        (os.go (λ us. C k us (λ r. aim 𝓤 H (lands C Λ E d r rest q)))
        (via 𝓤 (sep 𝓤 (emp 𝓤) (⋆ 𝓛 Γ)) (emp∗ 𝓤 (⋆ 𝓛 Γ))
        (via 𝓤 (sep 𝓤 (C k (flat (types_at ps tt) vss) (c.post y)) (⋆ 𝓛 Γ)) (mono_l 𝓤 (⋆ 𝓛 Γ) (via 𝓤 (c.pre y) asks (known y)))
        (fm k (flat (types_at ps tt) vss) (c.post y) (λ r. aim 𝓤 H (lands C Λ E d r rest q)) (⋆ 𝓛 Γ) (λ r. via 𝓤 (⋆ 𝓛 (raw (c.post y r) ∷ Γ)) (push 𝓛 (raw (c.post y r)) Γ) (got r).prf)))))
        (𝓛.laws.⇛_intro _);
  }
    where
      c : Contract 𝓤
      c = Value ps ks S f 𝓛

      y : (Value ps ks S f 𝓛).Ghost
      y = ((tt, tt, tt, a, vss), tt)

      asks : ent 𝓤 (emp 𝓤) (c.pre y)
      asks = qed 𝓛 [] ∵ nothing ! $ use0 𝓛 (‵ (owns (types_at ps tt) a vss)) made $ nothing ! $ join ! $ frame ! $ done !

      got : (v : Val) → Seq K 𝓛 (raw (c.post y v) ∷ Γ) (lands C Λ E d v rest q)
      got v =
          use1 𝓛 (later (some (λ (r : S.Denot). (‵ ftrue ⊛ ‵ (S.own_val r (v ∷ []))) ⊛ raw (ensured 𝓛 (ended_v ps ks S) (clauses_v ps ks S f 𝓛) tt a tt r)))) (id⊢ 𝓤 _) $ await t tt $ pick t (λ r.
          split t $ move t (1 ∷ []) $ use1 𝓛 (raw (fact 𝓤 (r ≡ f a))) (said_v ps ks S f 𝓛 a r) $ heard t (r ≡ f a) (λ e. split t $ drop t $
          peeks t S (Is S) (shows 𝓛 S) r (v ∷ []) (λ g. drop t $ go v (subst (λ (s : S.Denot). Is S s (v ∷ [])) e g))))

-- at no parameters, at two, and at four
abbrev pub Value0 : (S : RattleType) → S.Denot → {M : Type 1} {𝓤 : Ura M} (𝓛 : Logic 𝓤) → Contract 𝓤
Value0 S s = Value [] tt S (λ a. s)

abbrev pub Value2 : (R X S : RattleType) → (R.Denot → X.Denot → S.Denot) → {M : Type 1} {𝓤 : Ura M} (𝓛 : Logic 𝓤) → Contract 𝓤
Value2 R X S f = Value (plain (λ _. R) ∷ plain (λ _. X) ∷ []) (yes, (yes, tt)) S (λ a. f a.0 a.1.0)

abbrev pub Value4 : (R X Z U S : RattleType) → (R.Denot → X.Denot → Z.Denot → U.Denot → S.Denot) → {M : Type 1} {𝓤 : Ura M} (𝓛 : Logic 𝓤) → Contract 𝓤
Value4 R X Z U S f = Value (plain (λ _. R) ∷ plain (λ _. X) ∷ plain (λ _. Z) ∷ plain (λ _. U) ∷ []) (yes, (yes, (yes, (yes, tt)))) S (λ a. f a.0 a.1.0 a.1.1.0 a.1.1.1.0)

module _ {M : Type 1} {𝓤 : Ura M} {𝓛 : Logic 𝓤} {K : Type 0} {Γ : List (Item 𝓤)} {E : Env 𝓤 𝓛.H} {C : Calls 𝓤 𝓛.H} {k : Callee} {xs : List Operand} {Λ : Loops 𝓤 𝓛.H} {q : Post 𝓤 𝓛.H} {d : Place} where
  open 𝓛 use {H}

  pub calls0 : K → FmC 𝓤 H 𝓛.laws C → {rest : Body} (S : RattleType) (s : S.Denot) → Triple 𝓤 (C k) (Value0 S s 𝓛) → Opds K 𝓛 Γ E xs []
      → ((v : Val) → Is S s (v ∷ []) → Seq K 𝓛 Γ (lands C Λ E d v rest q)) → Seq K 𝓛 Γ (runs C Λ E (seq (call k xs d) rest) q)
  calls0 t fm S s known os go = calls_value t fm [] tt S (λ a. s) known tt tt (id⊢ 𝓤 (emp 𝓤)) os go

  pub calls2 : K → FmC 𝓤 H 𝓛.laws C → {rest : Body} {R X : RattleType} (P : Plain R) (Q : Plain X) (S : RattleType) (f : R.Denot → X.Denot → S.Denot) → Triple 𝓤 (C k) (Value2 R X S f 𝓛)
      → (a : R.Denot) (va : Val) → Is R a (va ∷ []) → (b : X.Denot) (vb : Val) → Is X b (vb ∷ []) → Opds K 𝓛 Γ E xs (va ∷ vb ∷ [])
      → ((v : Val) → Is S (f a b) (v ∷ []) → Seq K 𝓛 Γ (lands C Λ E d v rest q)) → Seq K 𝓛 Γ (runs C Λ E (seq (call k xs d) rest) q)
  calls2 t fm {rest} {R} {X} P Q S f known a va ga b vb gb os go =
      calls_value t fm (plain (λ _. R) ∷ plain (λ _. X) ∷ []) (yes, (yes, tt)) S (λ z. f z.0 z.1.0) known (a, (b, tt)) (va ∷ [], (vb ∷ [], tt))
      (owns_make 𝓛 (R ∷ X ∷ []) (Ises (R ∷ X ∷ [])) (P.makes M 𝓤 𝓛, (Q.makes M 𝓤 𝓛, tt)) (a, (b, tt)) (va ∷ [], (vb ∷ [], tt)) (ga, (gb, tt))) os go

  pub calls4 : K → FmC 𝓤 H 𝓛.laws C → {rest : Body} {R X Z U : RattleType} (P : Plain R) (Q : Plain X) (O : Plain Z) (N : Plain U) (S : RattleType) (f : R.Denot → X.Denot → Z.Denot → U.Denot → S.Denot) → Triple 𝓤 (C k) (Value4 R X Z U S f 𝓛)
      → (a : R.Denot) (va : Val) → Is R a (va ∷ []) → (b : X.Denot) (vb : Val) → Is X b (vb ∷ []) → (c : Z.Denot) (vc : Val) → Is Z c (vc ∷ []) → (e : U.Denot) (ve : Val) → Is U e (ve ∷ []) → Opds K 𝓛 Γ E xs (va ∷ vb ∷ vc ∷ ve ∷ [])
      → ((v : Val) → Is S (f a b c e) (v ∷ []) → Seq K 𝓛 Γ (lands C Λ E d v rest q)) → Seq K 𝓛 Γ (runs C Λ E (seq (call k xs d) rest) q)
  calls4 t fm {rest} {R} {X} {Z} {U} P Q O N S f known a va ga b vb gb c vc gc e ve ge os go =
      calls_value t fm (plain (λ _. R) ∷ plain (λ _. X) ∷ plain (λ _. Z) ∷ plain (λ _. U) ∷ []) (yes, (yes, (yes, (yes, tt)))) S (λ z. f z.0 z.1.0 z.1.1.0 z.1.1.1.0) known (a, (b, (c, (e, tt)))) (va ∷ [], (vb ∷ [], (vc ∷ [], (ve ∷ [], tt))))
      (owns_make 𝓛 (R ∷ X ∷ Z ∷ U ∷ []) (Ises (R ∷ X ∷ Z ∷ U ∷ [])) (P.makes M 𝓤 𝓛, (Q.makes M 𝓤 𝓛, (O.makes M 𝓤 𝓛, (N.makes M 𝓤 𝓛, tt)))) (a, (b, (c, (e, tt)))) (va ∷ [], (vb ∷ [], (vc ∷ [], (ve ∷ [], tt)))) (ga, (gb, (gc, (ge, tt))))) os go
