-- A call, within a walk that has a slice's elements in hand, of a walked function over that slice: the elements are lent for a lifetime of the call, and come back.
--     ShrRow, calls_shr    `fn g(t: &[R]) -> S  requires { req t.now }  ensures { result ≡ h t.now }`: the elements, had at any share p, are as they were, and the result v is a machine value of h ys
--     AnyRow, calls_any    `fn g(t: &[R], ps..) -> S  ensures { Φ }`, at any list of parameters ps that own only facts and any Φ of them and of the result: the elements are as they were, and Φ is known of the result
--     MutRow, calls_mut    `fn g(t: &mut [R], c: B)  requires { req t.old }  ensures { t.new ≡ h t.old c }`: the elements are then h ys c
-- The operands are read with two entries, i and j, in the place of the elements: so a position that was p is p + 1.
-- It says nothing of the crate, and can be copied as it stands. Assumes nothing.
use mathlib.Core.Path.{◌≡◌, refl, subst}
use Prim.Native.Nat.{ℕ}
use mathlib.Core.List.{List, [], ◌∷◌}
use lib.ListN.{length}
use seplogic.Ra.Ura.{Ura}
use base.Fraction.{full_share}
use mir.Syntax.{Callee, Place, Opd as Operand, Body, named, seq, call}
use mir.Val.{Val}
use base.Logic.{emp, ent, sep, id⊢, ex_e, snd∗}
use base.Fml.{GName, Share, ftrue, flft, flent, fhide}
use prog.Wp.{Env, Calls, Loops}
use types.Logic.{Logic, sem}
use sound.WpLaws.{FmC}
use types.Kit.{Item, ‵, raw, ◌⊛◌, some, later, Post, runs, lands, Seq, use0, use1, use2, use3, ◌$◌, ◌∵◌, !, qed, move, drop, split, join, pick, rewrite, fsplit, fjoin, frame, await, done}
use types.Run.{Opds}
use types.SemTy.{cells, Arr}
use types.Tokens.{lft_new, lft_end, lent_back}
use contract.Monad.{fact}
use denote.Builtin.{unit}
use contract.Lifetimes.{Lfts}
use denote.RattleType.{RattleType, Denots, Valss, flat, owns}
use denote.Laws.{Is, shows}
use denote.Exit.{yes}
use denote.Memory.{mem}
use denote.Ref.{Bor, MutBor}
use denote.Slice.{slice_val, MutSlice, ShrSlice, Room, shr_slice_at, elements_shared}
use denote.Shadow.{pure_i}
use denote.Copied.{each_lends}
use denote.Lend.{Held, lends_slice, slice_back}
use denote.Index.{row, whole_out, whole_in}
use denote.Signature.{Slot, plain, shr_slice_of, mut_slice_of, types_at}
use denote.Steps.{owned, peeks, heard, nothing}
use denote.Triple.Statement.{Contract, Triple}
use denote.Triple.Call.{calls_at}
use denote.Triple.Spec.{triple_of}
use denote.Triple.End.{Kepts}
use denote.Triple.Clauses.{Clauses, Ended, Lasts, closing, ensured, lasts}
use denote.Triple.Walked.{says}
use Rattle.walks.proofs.Plain.{Plain}

-- ---- a `&[R]`
module _ (R S : RattleType) where
  abbrev pub ended_shr : Ended
  ended_shr = record { signature = record { lifetimes = 1; outlives = []; params = shr_slice_of (0 ∷ []) tt (plain (λ _. R)) ∷ []; result = plain (λ _. S) }; kept = (yes, tt) }

  module _ (req : List R.Denot → Type 0) (h : List R.Denot → S.Denot) {M : Type 1} {𝓤 : Ura M} (𝓛 : Logic 𝓤) where
    open 𝓛 use {A}

    abbrev pub clauses_shr : Clauses 𝓤 ended_shr
    clauses_shr κs a = record { ghost = Unit {0}; requires = λ _. fact 𝓤 (req a.0.now); ensures = λ _ r _. fact 𝓤 (r ≡ h a.0.now) }

    abbrev pub ShrRow : Contract 𝓤
    ShrRow = triple_of 𝓛 ended_shr.signature (closing 𝓛 ended_shr clauses_shr)

    abbrev at_shr : (ν b o : ℕ) (ys : List R.Denot) → ShrRow.Ghost
    at_shr ν b o ys = (((ν ∷ [], tt), (full_share, tt), tt, (record { ref_ptr = (b, o); now = ys }, tt), (slice_val (b, o) (length ys) ∷ [], tt)), tt)

    said_shr : (ν b o : ℕ) (ys : List R.Denot) (r : S.Denot) → ent 𝓤 (ensured 𝓛 ended_shr clauses_shr (ν ∷ [], tt) (record { ref_ptr = (b, o); now = ys }, tt) tt r) (fact 𝓤 (r ≡ h ys))
    said_shr ν b o ys r = ex_e 𝓤 _ (λ ws. snd∗ 𝓤 (sem 𝓛 (lasts ended_shr (ν ∷ [], tt) (record { ref_ptr = (b, o); now = ys }, tt) ws)) (fact 𝓤 (r ≡ h ys)))

    module _ where
      asks_shr : (ν b o : ℕ) (ys : List R.Denot) → req ys → ent 𝓤 (sep 𝓤 (A.lft (ν ∷ []) full_share) (sem 𝓛 ((ShrSlice (named 0) (ν ∷ []) R).own_val (record { ref_ptr = (b, o); now = ys }) (slice_val (b, o) (length ys) ∷ [])))) (ShrRow.pre (at_shr ν b o ys))
      asks_shr ν b o ys ok =
          qed 𝓛 (‵ (flft (ν ∷ []) full_share) ∷ ‵ ((ShrSlice (named 0) (ν ∷ []) R).own_val (record { ref_ptr = (b, o); now = ys }) (slice_val (b, o) (length ys) ∷ [])) ∷ []) ∵ says ! ok $ nothing ! $ move ! (1 ∷ 0 ∷ []) $ join ! $ frame ! $
          nothing ! $ move ! (1 ∷ 0 ∷ []) $ done !

module _ {M : Type 1} {𝓤 : Ura M} {𝓛 : Logic 𝓤} {K : Type 0} {Γ : List (Item 𝓤)} {E : Env 𝓤 𝓛.H} {C : Calls 𝓤 𝓛.H} {k : Callee} {xs : List Operand} {Λ : Loops 𝓤 𝓛.H} {q : Post 𝓤 𝓛.H} {d : Place} where
  open 𝓛 use {H}

  pub calls_shr : K → FmC 𝓤 H 𝓛.laws C → {rest : Body} (R S : RattleType) (P : Plain R) (req : List R.Denot → Type 0) (h : List R.Denot → S.Denot) → Triple 𝓤 (C k) (ShrRow R S req h 𝓛)
      → (p : Share) (ys : List R.Denot) (b o : ℕ) → Room R (length ys) → req ys → ((i j : Item 𝓤) → Opds K 𝓛 (i ∷ j ∷ Γ) E xs (slice_val (b, o) (length ys) ∷ []))
      → ((v : Val) → Is S (h ys) (v ∷ []) → Seq K 𝓛 (‵ (row R p ys b o) ∷ Γ) (lands C Λ E d v rest q)) → Seq K 𝓛 (‵ (row R p ys b o) ∷ Γ) (runs C Λ E (seq (call k xs d) rest) q)
  calls_shr t fm R S P req h known p ys b o room ok os go =
      lft_new t tt (λ ν. move t (1 ∷ []) $
      use1 𝓛 (later (‵ (fhide (elements_shared R ys b o (ν ∷ []))) ⊛ ‵ (flent (ν ∷ []) (row R p ys b o)))) (each_lends 𝓛 R (P.copied M 𝓤 𝓛) p ys b o (ν ∷ [])) $ await t tt $ split t $
      pure_i t (shr_slice_at R (record { ref_ptr = (b, o); now = ys }) (slice_val (b, o) (length ys) ∷ [])) (tt, (tt, tt)) (refl, room) $ fjoin t $
      -- [the slice; the lender's part; the lifetime's token; …]
      move t (2 ∷ 0 ∷ []) $ use2 𝓛 (raw ((ShrRow R S req h 𝓛).pre (at_shr R S req h 𝓛 ν b o ys))) (asks_shr R S req h 𝓛 ν b o ys ok) $
      calls_at t fm (ShrRow R S req h 𝓛) known (at_shr R S req h 𝓛 ν b o ys) (os _ _) (λ v.
      use1 𝓛 (later (some (λ (r : S.Denot). ((‵ (flft (ν ∷ []) full_share) ⊛ ‵ ftrue) ⊛ ‵ (S.own_val r (v ∷ []))) ⊛ raw (ensured 𝓛 (ended_shr R S) (clauses_shr R S req h 𝓛) (ν ∷ [], tt) (record { ref_ptr = (b, o); now = ys }, tt) tt r)))) (id⊢ 𝓤 _) $ await t tt $ pick t (λ r.
      split t $ move t (1 ∷ []) $ use1 𝓛 (raw (fact 𝓤 (r ≡ h ys))) (said_shr R S req h 𝓛 ν b o ys r) $ heard t (r ≡ h ys) (λ e. split t $ move t (1 ∷ []) $
      peeks t S (Is S) (shows 𝓛 S) r (v ∷ []) (λ g. drop t $ split t $ lft_end t tt $ move t (0 ∷ 2 ∷ []) $ lent_back t tt $
      -- [the elements; true; …]
      move t (1 ∷ []) $ drop t $ go v (subst (λ (s : S.Denot). Is S s (v ∷ [])) e g))))))

-- ---- a `&[R]` and parameters ps that own only facts, of a function that asks nothing, at any relation Φ of them and the result
module _ (ps : List (Slot 1)) (ks : Kepts ps) (R S : RattleType) where
  abbrev pub ended_any : Ended
  ended_any = record { signature = record { lifetimes = 1; outlives = []; params = shr_slice_of (0 ∷ []) tt (plain (λ _. R)) ∷ ps; result = plain (λ _. S) }; kept = (yes, ks) }

  module _ (Φ : (κs : Lfts 1) → List R.Denot → Denots (types_at ps κs) → S.Denot → Type 0) {M : Type 1} {𝓤 : Ura M} (𝓛 : Logic 𝓤) where
    open 𝓛 use {A}

    abbrev pub clauses_any : Clauses 𝓤 ended_any
    clauses_any κs a = record { ghost = Unit {0}; requires = λ _. emp 𝓤; ensures = λ _ r _. fact 𝓤 (Φ κs a.0.now a.1 r) }

    abbrev pub AnyRow : Contract 𝓤
    AnyRow = triple_of 𝓛 ended_any.signature (closing 𝓛 ended_any clauses_any)

    module _ (ν b o : ℕ) (ys : List R.Denot) (a : Denots (types_at ps (ν ∷ [], tt))) (vss : Valss (types_at ps (ν ∷ [], tt))) where
      abbrev ref_any : Bor (List R.Denot)
      ref_any = record { ref_ptr = (b, o); now = ys }

      abbrev at_any : AnyRow.Ghost
      at_any = (((ν ∷ [], tt), (full_share, tt), tt, (ref_any, a), (slice_val (b, o) (length ys) ∷ [], vss)), tt)

      said_any : (r : S.Denot) → ent 𝓤 (ensured 𝓛 ended_any clauses_any (ν ∷ [], tt) (ref_any, a) tt r) (fact 𝓤 (Φ (ν ∷ [], tt) ys a r))
      said_any r = ex_e 𝓤 _ (λ ws. snd∗ 𝓤 (sem 𝓛 (lasts ended_any (ν ∷ [], tt) (ref_any, a) ws)) (fact 𝓤 (Φ (ν ∷ [], tt) ys a r)))

      asks_any : ent 𝓤 (emp 𝓤) (sem 𝓛 (owns (types_at ps (ν ∷ [], tt)) a vss)) → ent 𝓤 (sep 𝓤 (A.lft (ν ∷ []) full_share) (sem 𝓛 ((ShrSlice (named 0) (ν ∷ []) R).own_val ref_any (slice_val (b, o) (length ys) ∷ [])))) (AnyRow.pre at_any)
      asks_any made =
          qed 𝓛 (‵ (flft (ν ∷ []) full_share) ∷ ‵ ((ShrSlice (named 0) (ν ∷ []) R).own_val ref_any (slice_val (b, o) (length ys) ∷ [])) ∷ []) ∵ nothing ! $ move ! (1 ∷ 0 ∷ []) $ join ! $
          use0 𝓛 (‵ (owns (types_at ps (ν ∷ [], tt)) a vss)) made $ move ! (2 ∷ 0 ∷ []) $ fjoin ! $ move ! (1 ∷ 0 ∷ []) $ join ! $ nothing ! $ move ! (1 ∷ 0 ∷ []) $ frame ! $ done !

module _ {M : Type 1} {𝓤 : Ura M} {𝓛 : Logic 𝓤} {K : Type 0} {Γ : List (Item 𝓤)} {E : Env 𝓤 𝓛.H} {C : Calls 𝓤 𝓛.H} {k : Callee} {xs : List Operand} {Λ : Loops 𝓤 𝓛.H} {q : Post 𝓤 𝓛.H} {d : Place} where
  open 𝓛 use {H}

  pub calls_any : K → FmC 𝓤 H 𝓛.laws C → {rest : Body} (ps : List (Slot 1)) (ks : Kepts ps) (R S : RattleType) (P : Plain R) (Φ : (κs : Lfts 1) → List R.Denot → Denots (types_at ps κs) → S.Denot → Type 0) → Triple 𝓤 (C k) (AnyRow ps ks R S Φ 𝓛)
      → (p : Share) (ys : List R.Denot) (b o : ℕ) → Room R (length ys) → (a : (ν : ℕ) → Denots (types_at ps (ν ∷ [], tt))) (vss : (ν : ℕ) → Valss (types_at ps (ν ∷ [], tt))) → ((ν : ℕ) → ent 𝓤 (emp 𝓤) (sem 𝓛 (owns (types_at ps (ν ∷ [], tt)) (a ν) (vss ν))))
      → ((ν : ℕ) (i j : Item 𝓤) → Opds K 𝓛 (i ∷ j ∷ Γ) E xs (slice_val (b, o) (length ys) ∷ flat (types_at ps (ν ∷ [], tt)) (vss ν)))
      → ((ν : ℕ) (v : Val) (r : S.Denot) → Is S r (v ∷ []) → Φ (ν ∷ [], tt) ys (a ν) r → Seq K 𝓛 (‵ (row R p ys b o) ∷ Γ) (lands C Λ E d v rest q)) → Seq K 𝓛 (‵ (row R p ys b o) ∷ Γ) (runs C Λ E (seq (call k xs d) rest) q)
  calls_any t fm ps ks R S P Φ known p ys b o room a vss made os go =
      lft_new t tt (λ ν. move t (1 ∷ []) $
      use1 𝓛 (later (‵ (fhide (elements_shared R ys b o (ν ∷ []))) ⊛ ‵ (flent (ν ∷ []) (row R p ys b o)))) (each_lends 𝓛 R (P.copied M 𝓤 𝓛) p ys b o (ν ∷ [])) $ await t tt $ split t $
      pure_i t (shr_slice_at R (record { ref_ptr = (b, o); now = ys }) (slice_val (b, o) (length ys) ∷ [])) (tt, (tt, tt)) (refl, room) $ fjoin t $
      -- [the slice; the lender's part; the lifetime's token; …]
      move t (2 ∷ 0 ∷ []) $ use2 𝓛 (raw ((AnyRow ps ks R S Φ 𝓛).pre (at_any ps ks R S Φ 𝓛 ν b o ys (a ν) (vss ν)))) (asks_any ps ks R S Φ 𝓛 ν b o ys (a ν) (vss ν) (made ν)) $
      calls_at t fm (AnyRow ps ks R S Φ 𝓛) known (at_any ps ks R S Φ 𝓛 ν b o ys (a ν) (vss ν)) (os ν _ _) (λ v.
      use1 𝓛 (later (some (λ (r : S.Denot). ((‵ (flft (ν ∷ []) full_share) ⊛ ‵ ftrue) ⊛ ‵ (S.own_val r (v ∷ []))) ⊛ raw (ensured 𝓛 (ended_any ps ks R S) (clauses_any ps ks R S Φ 𝓛) (ν ∷ [], tt) (ref_any ps ks R S Φ 𝓛 ν b o ys (a ν) (vss ν), a ν) tt r)))) (id⊢ 𝓤 _) $ await t tt $ pick t (λ r.
      split t $ move t (1 ∷ []) $ use1 𝓛 (raw (fact 𝓤 (Φ (ν ∷ [], tt) ys (a ν) r))) (said_any ps ks R S Φ 𝓛 ν b o ys (a ν) (vss ν) r) $ heard t (Φ (ν ∷ [], tt) ys (a ν) r) (λ e. split t $ move t (1 ∷ []) $
      peeks t S (Is S) (shows 𝓛 S) r (v ∷ []) (λ g. drop t $ split t $ lft_end t tt $ move t (0 ∷ 2 ∷ []) $ lent_back t tt $
      -- [the elements; true; …]
      move t (1 ∷ []) $ drop t $ go ν v r g e)))))

-- ---- a `&mut [R]`, and a plain value
module _ (R B : RattleType) where
  abbrev pub ended_mut : Ended
  ended_mut = record { signature = record { lifetimes = 1; outlives = []; params = mut_slice_of (0 ∷ []) tt (plain (λ _. R)) ∷ plain (λ _. B) ∷ []; result = plain (λ _. unit) }; kept = (yes, (yes, tt)) }

  module _ (req : List R.Denot → Type 0) (h : List R.Denot → B.Denot → List R.Denot) {M : Type 1} {𝓤 : Ura M} (𝓛 : Logic 𝓤) where
    open 𝓛 use {A}

    abbrev pub clauses_mut : Clauses 𝓤 ended_mut
    clauses_mut κs a = record { ghost = Unit {0}; requires = λ _. fact 𝓤 (req a.0.now); ensures = λ _ r e. fact 𝓤 (e.0.now ≡ h a.0.now a.1.0) }

    abbrev pub MutRow : Contract 𝓤
    MutRow = triple_of 𝓛 ended_mut.signature (closing 𝓛 ended_mut clauses_mut)

    module _ (ν b o : ℕ) (δ : GName) (ys : List R.Denot) (c : B.Denot) (vc : Val) where
      abbrev arg_mut : MutBor (List R.Denot) × (B.Denot × Unit {0})
      arg_mut = (record { ref_ptr = (b, o); ghost_name = δ; now = ys }, (c, tt))

      abbrev at_mut : MutRow.Ghost
      at_mut = (((ν ∷ [], tt), (full_share, tt), tt, arg_mut, (slice_val (b, o) (length ys) ∷ [], (vc ∷ [], tt))), tt)

      asks_mut : (P : Plain B) → Is B c (vc ∷ []) → req ys → ent 𝓤 (sep 𝓤 (A.lft (ν ∷ []) full_share) (sem 𝓛 ((MutSlice (named 0) (ν ∷ []) R).own_val arg_mut.0 (slice_val (b, o) (length ys) ∷ [])))) (MutRow.pre at_mut)
      asks_mut P gc ok =
          qed 𝓛 (‵ (flft (ν ∷ []) full_share) ∷ ‵ ((MutSlice (named 0) (ν ∷ []) R).own_val arg_mut.0 (slice_val (b, o) (length ys) ∷ [])) ∷ []) ∵ says ! ok $ nothing ! $ move ! (1 ∷ 0 ∷ []) $ join ! $ frame ! $
          nothing ! $ owned ! B (Is B) (P.makes M 𝓤 𝓛) c (vc ∷ []) gc $ fjoin ! $ move ! (1 ∷ 0 ∷ []) $ done !

module _ {M : Type 1} {𝓤 : Ura M} {𝓛 : Logic 𝓤} {K : Type 0} {Γ : List (Item 𝓤)} {E : Env 𝓤 𝓛.H} {C : Calls 𝓤 𝓛.H} {k : Callee} {xs : List Operand} {Λ : Loops 𝓤 𝓛.H} {q : Post 𝓤 𝓛.H} {d : Place} where
  open 𝓛 use {H}

  pub calls_mut : K → FmC 𝓤 H 𝓛.laws C → {rest : Body} (R : RattleType) {B : RattleType} (P : Plain B) (req : List R.Denot → Type 0) (h : List R.Denot → B.Denot → List R.Denot) → Triple 𝓤 (C k) (MutRow R B req h 𝓛)
      → (ys : List R.Denot) (b o : ℕ) → Room R (length ys) → req ys → (c : B.Denot) (vc : Val) → Is B c (vc ∷ []) → ((i j : Item 𝓤) → Opds K 𝓛 (i ∷ j ∷ Γ) E xs (slice_val (b, o) (length ys) ∷ vc ∷ []))
      → ((v : Val) → Is unit tt (v ∷ []) → Seq K 𝓛 (‵ (row R full_share (h ys c) b o) ∷ Γ) (lands C Λ E d v rest q)) → Seq K 𝓛 (‵ (row R full_share ys b o) ∷ Γ) (runs C Λ E (seq (call k xs d) rest) q)
  calls_mut t fm R {B} P req h known ys b o room ok c vc gc os go =
      lft_new t tt (λ ν. move t (1 ∷ []) $ use1 𝓛 (‵ (cells (mem R) ys b o)) (whole_in 𝓛 R ys b o) $
      use1 𝓛 (later (some (λ (δ : GName). ‵ ((MutSlice (named 0) (ν ∷ []) R).own_val (record { ref_ptr = (b, o); ghost_name = δ; now = ys }) (slice_val (b, o) (length ys) ∷ [])) ⊛ ‵ (flent (ν ∷ []) (Held R (length ys) b o δ)))))
      (lends_slice 𝓛 R (named 0) (ν ∷ []) ys b o room) $ await t tt $ pick t (λ δ. split t $
      -- [the slice; the lender's part; the lifetime's token; …]
      move t (2 ∷ 0 ∷ []) $ use2 𝓛 (raw ((MutRow R B req h 𝓛).pre (at_mut R B req h 𝓛 ν b o δ ys c vc))) (asks_mut R B req h 𝓛 ν b o δ ys c vc P gc ok) $
      calls_at t fm (MutRow R B req h 𝓛) known (at_mut R B req h 𝓛 ν b o δ ys c vc) (os _ _) (λ v.
      use1 𝓛 (later (some (λ (r : Unit {0}). ((‵ (flft (ν ∷ []) full_share) ⊛ ‵ ftrue) ⊛ ‵ (unit.own_val r (v ∷ [])))
      ⊛ some (λ (ws : Lasts (ended_mut R B) (ν ∷ [], tt) (arg_mut R B req h 𝓛 ν b o δ ys c vc)). ‵ (lasts (ended_mut R B) (ν ∷ [], tt) (arg_mut R B req h 𝓛 ν b o δ ys c vc) ws) ⊛ raw (fact 𝓤 (ws.0 ≡ h ys c)))))) (id⊢ 𝓤 _) $ await t tt $ pick t (λ r.
      split t $ move t (1 ∷ []) $ pick t (λ ws. split t $ move t (1 ∷ []) $ heard t (ws.0 ≡ h ys c) (λ e. fsplit t $ fsplit t $ fsplit t $ move t (1 ∷ []) $ drop t $ move t (1 ∷ []) $ drop t $ move t (1 ∷ []) $ drop t $
      -- [the last list; the token and the result; the lender's part; …]
      move t (1 ∷ []) $ split t $ move t (1 ∷ []) $ peeks t unit (Is unit) (shows 𝓛 unit) r (v ∷ []) (λ g. drop t $ split t $ lft_end t tt $ move t (0 ∷ 3 ∷ 2 ∷ []) $
      use3 𝓛 (later (‵ ((Arr (mem R) (length ys)).own_at ws.0 b o))) (slice_back 𝓛 R (ν ∷ []) δ ws.0 (length ys) b o) $ await t tt $ fsplit t $ drop t $ use1 𝓛 (‵ (row R full_share ws.0 b o)) (whole_out 𝓛 R ws.0 b o) $
      rewrite t 0 (λ (l : List R.Denot). ‵ (row R full_share l b o)) e refl $ move t (1 ∷ []) $ drop t $ go v g)))))))
