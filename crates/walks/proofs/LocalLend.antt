-- A local of a plain type is lent, within a walk, for the time of a call, and comes back as the callee left it.
--     local_in, local_back     the local's cell is a value in memory, and again the local's cell
--     row_in, row_back         the same of a local array: its elements, side by side
--     MutOne, calls_local      the call of a walked function over the local, lent as a `&mut R`: `fn g(c: &mut R, x: X) -> Y` with `RowStep`'s contract, Φ. The local then holds what Φ says of it
-- The operands are read with two entries, i and j, in the place of the local's cell: so a position that was p is p + 1.
-- It says nothing of the crate, and can be copied as it stands. Assumes nothing.
use mathlib.Core.Path.{◌≡◌, refl, sym, ◌∙◌, ap, subst}
use Prim.Native.Nat.{ℕ}
use mathlib.Core.List.{List, [], ◌∷◌}
use lib.ListN.{length}
use seplogic.Ra.Ura.{Ura}
use base.Fraction.{full_share}
use mir.Syntax.{Callee, Ty, Place, Opd as Operand, Body, named, seq, call}
use mir.Raw.{raw as raw_ty}
use mir.Val.{Val, vptr}
use base.Logic.{ent, sep, emp, id⊢}
use base.Fml.{GName, ftrue, fat, flft, flent}
use prog.Wp.{Env, Calls, Loops}
use types.Logic.{Logic, sem}
use sound.WpLaws.{FmC}
use types.Kit.{Item, Goal, ‵, raw, ◌⊛◌, some, later, Post, runs, lands, Seq, use1, use2, use3, ◌$◌, ◌∵◌, !, qed, by, move, drop, split, join, pick, rewrite, fsplit, fjoin, feq_l, feq_i, frame, await, done}
use types.Run.{Opds}
use types.Tokens.{lft_new, lft_end}
use types.SemTy as SemTy
use types.Share.{arr_parts}
use contract.Monad.{fact}
use denote.Array.{Array}
use denote.ArrayMemory.{Single, Array-apart, Array-whole}
use denote.Index.{row}
use denote.RattleType.{RattleType}
use denote.Laws.{Is, shows}
use denote.Memory.{mem, shares, lone, part_at}
use denote.Ref.{MutBor, MutRef}
use denote.Lend.{lends_ref, ref_back}
use denote.Exit.{yes}
use denote.Signature.{plain, mut_ref_to}
use denote.Steps.{only, nothing, owned, peeks, heard}
use denote.Triple.Statement.{Contract, Triple}
use denote.Triple.Call.{calls_at}
use denote.Triple.Spec.{triple_of}
use denote.Triple.Clauses.{Clauses, Ended, Lasts, closing, lasts}
use borrow.Table.OneValue.{One, part_in_at, part_out_at}
use Rattle.walks.proofs.Plain.{Plain, array, ty, val, vals, tells, told}

module _ {R : RattleType} (P : Plain R) where
  one : One R
  one = P.low.layout_is ∙ ap (λ (τs : List Ty). lone τs ∷ []) (sym P.low.layout_is)

  same_raw : raw_ty (ty P) ≡ raw_ty (lone R.mir)
  same_raw = ap (λ (τs : List Ty). raw_ty (lone τs)) (sym P.low.layout_is)

  pub local_in : {M : Type 1} {𝓤 : Ura M} (𝓛 : Logic 𝓤) (x : R.Denot) (l : ℕ) → Is R x (vals P x) → ent 𝓤 (sem 𝓛 (fat full_share (ty P) l 0 (val P x))) (sem 𝓛 (part_at R full_share x l 0))
  local_in {M} {𝓤 = 𝓤} 𝓛 x l g =
      qed 𝓛 (‵ (fat full_share (ty P) l 0 (val P x)) ∷ []) ∵ owned ! R (Is R) (P.makes M 𝓤 𝓛) x (vals P x) g $ move ! (1 ∷ 0 ∷ []) $ by ! (part_in_at 𝓛 R one full_share x l 0 (ty P) same_raw (val P x))

module _ {M : Type 1} {𝓤 : Ura M} {𝓛 : Logic 𝓤} {K : Type 0} {Γ : List (Item 𝓤)} {G : Goal 𝓤 𝓛.H} where
  pub local_back : K → {R : RattleType} (P : Plain R) (x : R.Denot) (l : ℕ) → (Is R x (vals P x) → Seq K 𝓛 (‵ (fat full_share (ty P) l 0 (val P x)) ∷ Γ) G) → Seq K 𝓛 (‵ (part_at R full_share x l 0) ∷ Γ) G
  local_back t {R} P x l k =
      use1 𝓛 (some (λ (v : Val). ‵ (fat full_share (ty P) l 0 v) ⊛ ‵ (R.own_val x (v ∷ [])))) (part_out_at 𝓛 R (one P) full_share x l 0 (ty P) (same_raw P)) $ pick t (λ v. split t $ move t (1 ∷ []) $
      peeks t R (Is R) (shows 𝓛 R) x (v ∷ []) (λ g. drop t $ rewrite t 0 (λ (z : Val). ‵ (fat full_share (ty P) l 0 z)) (ap only (tells P x (v ∷ []) g)) refl $ k (told P x (v ∷ []) g)))

module _ {M : Type 1} {𝓤 : Ura M} {𝓛 : Logic 𝓤} {K : Type 0} {Γ : List (Item 𝓤)} {G : Goal 𝓤 𝓛.H} where
  pub row_in : K → {R : RattleType} (P : Plain R) (m : ℕ) (ys : List R.Denot) (l : ℕ) → Is (Array R m) ys (vals (array P m) ys) → (length ys ≡ m → Seq K 𝓛 (‵ (row R full_share ys l 0) ∷ Γ) G) → Seq K 𝓛 (‵ (fat full_share (ty (array P m)) l 0 (val (array P m) ys)) ∷ Γ) G
  row_in t {R} P m ys l g k =
      use1 𝓛 (‵ (part_at (Array R m) full_share ys l 0)) (local_in (array P m) 𝓛 ys l g) $
      use1 𝓛 (‵ ((arr_parts (shares R) m).part full_share ys l 0)) (Array-apart 𝓛 R full_share (subst Single (sym P.low.layout_is) tt) m ys l 0) $ fsplit t $ feq_l t k

  pub row_back : K → {R : RattleType} (P : Plain R) (m : ℕ) (ys : List R.Denot) (l : ℕ) → length ys ≡ m → (Is (Array R m) ys (vals (array P m) ys) → Seq K 𝓛 (‵ (fat full_share (ty (array P m)) l 0 (val (array P m) ys)) ∷ Γ) G) → Seq K 𝓛 (‵ (row R full_share ys l 0) ∷ Γ) G
  row_back t {R} P m ys l e k =
      feq_i t ℕ (length ys) m e $ fjoin t $ use1 𝓛 (‵ (part_at (Array R m) full_share ys l 0)) (Array-whole 𝓛 R full_share m ys l 0) $ local_back t (array P m) ys l k

-- ---- a `&mut R`, and a plain value
module _ (R X Y : RattleType) where
  abbrev ended_ref : Ended
  ended_ref = record { signature = record { lifetimes = 1; outlives = []; params = mut_ref_to (0 ∷ []) tt (plain (λ _. R)) ∷ plain (λ _. X) ∷ []; result = plain (λ _. Y) }; kept = (yes, (yes, tt)) }

  module _ (Φ : R.Denot → X.Denot → R.Denot → Y.Denot → Type 0) {M : Type 1} {𝓤 : Ura M} (𝓛 : Logic 𝓤) where
    open 𝓛 use {A}

    abbrev clauses_ref : Clauses 𝓤 ended_ref
    clauses_ref κs a = record { ghost = Unit {0}; requires = λ _. emp 𝓤; ensures = λ _ r e. fact 𝓤 (Φ a.0.now a.1.0 e.0.now r) }

    abbrev pub MutOne : Contract 𝓤
    MutOne = triple_of 𝓛 ended_ref.signature (closing 𝓛 ended_ref clauses_ref)

    module _ (ν b o : ℕ) (δ : GName) (c : R.Denot) (x : X.Denot) (vx : Val) where
      abbrev arg_ref : MutBor R.Denot × (X.Denot × Unit {0})
      arg_ref = (record { ref_ptr = (b, o); ghost_name = δ; now = c }, (x, tt))

      abbrev at_ref : MutOne.Ghost
      at_ref = (((ν ∷ [], tt), (full_share, tt), tt, arg_ref, (vptr b o ∷ [], (vx ∷ [], tt))), tt)

      asks_ref : (P : Plain X) → Is X x (vx ∷ []) → ent 𝓤 (sep 𝓤 (A.lft (ν ∷ []) full_share) (sem 𝓛 ((MutRef (named 0) (ν ∷ []) R).own_val arg_ref.0 (vptr b o ∷ [])))) (MutOne.pre at_ref)
      asks_ref P gx =
          qed 𝓛 (‵ (flft (ν ∷ []) full_share) ∷ ‵ ((MutRef (named 0) (ν ∷ []) R).own_val arg_ref.0 (vptr b o ∷ [])) ∷ []) ∵
          nothing ! $ owned ! X (Is X) (P.makes M 𝓤 𝓛) x (vx ∷ []) gx $ fjoin ! $ move ! (2 ∷ 0 ∷ []) $ fjoin ! $ nothing ! $ move ! (2 ∷ 0 ∷ []) $ join ! $ join ! $ nothing ! $ move ! (1 ∷ 0 ∷ []) $ frame ! $ done !

module _ {M : Type 1} {𝓤 : Ura M} {𝓛 : Logic 𝓤} {K : Type 0} {Γ : List (Item 𝓤)} {E : Env 𝓤 𝓛.H} {C : Calls 𝓤 𝓛.H} {k : Callee} {xs : List Operand} {Λ : Loops 𝓤 𝓛.H} {q : Post 𝓤 𝓛.H} {d : Place} where
  open 𝓛 use {H}

  pub calls_local : K → FmC 𝓤 H 𝓛.laws C → {rest : Body} {R X : RattleType} (P : Plain R) (PX : Plain X) (Y : RattleType) (Φ : R.Denot → X.Denot → R.Denot → Y.Denot → Type 0) → Triple 𝓤 (C k) (MutOne R X Y Φ 𝓛)
      → (c : R.Denot) (l : ℕ) → Is R c (vals P c) → (x : X.Denot) → Is X x (vals PX x) → ((i j : Item 𝓤) → Opds K 𝓛 (i ∷ j ∷ Γ) E xs (vptr l 0 ∷ val PX x ∷ []))
      → ((v : Val) (c' : R.Denot) (r : Y.Denot) → Is R c' (vals P c') → Is Y r (v ∷ []) → Φ c x c' r → Seq K 𝓛 (‵ (fat full_share (ty P) l 0 (val P c')) ∷ Γ) (lands C Λ E d v rest q)) → Seq K 𝓛 (‵ (fat full_share (ty P) l 0 (val P c)) ∷ Γ) (runs C Λ E (seq (call k xs d) rest) q)
  calls_local t fm {rest} {R} {X} P PX Y Φ known c l gc x gx os go =
      use1 𝓛 (‵ (part_at R full_share c l 0)) (local_in P 𝓛 c l gc) $ lft_new t tt (λ ν. move t (1 ∷ []) $
      use1 𝓛 (later (some (λ (δ : GName). ‵ ((MutRef (named 0) (ν ∷ []) R).own_val (record { ref_ptr = (l, 0); ghost_name = δ; now = c }) (vptr l 0 ∷ [])) ⊛ ‵ (flent (ν ∷ []) (SemTy.Body (mem R) l 0 δ))))) (lends_ref 𝓛 R (named 0) (ν ∷ []) c l 0) $ await t tt $ pick t (λ δ. split t $
      -- [the reference; the lender's part; the lifetime's token; …]
      move t (2 ∷ 0 ∷ []) $ use2 𝓛 (raw ((MutOne R X Y Φ 𝓛).pre (at_ref R X Y Φ 𝓛 ν l 0 δ c x (val PX x)))) (asks_ref R X Y Φ 𝓛 ν l 0 δ c x (val PX x) PX gx) $
      calls_at t fm (MutOne R X Y Φ 𝓛) known (at_ref R X Y Φ 𝓛 ν l 0 δ c x (val PX x)) (os _ _) (λ v.
      use1 𝓛 (later (some (λ (r : Y.Denot). ((‵ (flft (ν ∷ []) full_share) ⊛ ‵ ftrue) ⊛ ‵ (Y.own_val r (v ∷ [])))
      ⊛ some (λ (ws : Lasts (ended_ref R X Y) (ν ∷ [], tt) (arg_ref R X Y Φ 𝓛 ν l 0 δ c x (val PX x))). ‵ (lasts (ended_ref R X Y) (ν ∷ [], tt) (arg_ref R X Y Φ 𝓛 ν l 0 δ c x (val PX x)) ws) ⊛ raw (fact 𝓤 (Φ c x ws.0 r)))))) (id⊢ 𝓤 _) $ await t tt $ pick t (λ r.
      split t $ move t (1 ∷ []) $ pick t (λ ws. split t $ move t (1 ∷ []) $ heard t (Φ c x ws.0 r) (λ e. fsplit t $ move t (1 ∷ []) $ drop t $ fsplit t $ move t (1 ∷ []) $ drop t $
      -- [the last value; the token and the result; the lender's part; …]
      move t (1 ∷ []) $ split t $ move t (1 ∷ []) $ peeks t Y (Is Y) (shows 𝓛 Y) r (v ∷ []) (λ g. drop t $ split t $ lft_end t tt $ move t (0 ∷ 3 ∷ 2 ∷ []) $
      use3 𝓛 (later (‵ (part_at R full_share ws.0 l 0))) (ref_back 𝓛 R (ν ∷ []) δ ws.0 l 0) $ await t tt $ move t (1 ∷ []) $ drop t $
      local_back t P ws.0 l (λ gc'. go v ws.0 r gc' g e))))))))
