-- A call, within a walk, of a walked function over a local row, lent as a `&mut [R]`, and of parameters that the caller was itself lent, and passes on for good: `fn g(table: &mut [R], ps..) -> Y`, with no `requires`, at any list of parameters ps and any Φ of all that was passed at entry and at exit.
-- The row is lent for a lifetime of the call, and comes back as g left it; the other parameters go at the caller's own lifetimes (`Beside`).
--     RowOn, calls_row_on      its contract, and the call, as a step
-- The operands are read with two entries, i and j, in the place of the row's cell, of the tokens and of what is passed on: so a position that was p is p - 1.
-- It says nothing of the crate, and can be copied as it stands. Assumes nothing.
use mathlib.Core.Path.{◌≡◌, sym, ◌∙◌, subst}
use Prim.Native.Nat.{ℕ, suc}
use mathlib.Core.List.{List, [], ◌∷◌}
use lib.ListN.{length}
use seplogic.Ra.Ura.{Ura}
use base.Fraction.{full_share}
use mir.Syntax.{Callee, Place, Opd as Operand, Body, named, seq, call}
use mir.Val.{Val}
use base.Logic.{ent, sep, emp, id⊢}
use base.Fml.{GName, fat, flft, flent}
use prog.Wp.{Env, Calls, Loops}
use types.Logic.{Logic, sem}
use sound.WpLaws.{FmC}
use types.Kit.{Item, mean, ‵, raw, ◌⊛◌, some, later, Post, runs, lands, Seq, use1, use3, ◌$◌, ◌∵◌, !, qed, move, drop, split, join, pick, fsplit, fjoin, feq_l, frame, await, done}
use types.Run.{Opds}
use types.SemTy.{cells, Arr}
use types.Tokens.{lft_new, lft_end}
use contract.Monad.{fact}
use contract.Lifetimes.{Lfts, Shares, toks}
use denote.Array.{Array}
use denote.RattleType.{RattleType, Denots, Valss, flat, owns}
use denote.Laws.{Is, shows}
use denote.Exit.{yes}
use denote.Memory.{mem}
use denote.Ref.{MutBor}
use denote.Slice.{slice_val, MutSlice, Room}
use denote.Lend.{Held, lends_slice, slice_back}
use denote.Index.{row, whole_out, whole_in}
use denote.Signature.{Slot, plain, mut_slice_of, types_at}
use denote.Steps.{peeks, heard, nothing}
use denote.Triple.Statement.{Contract, Triple}
use denote.Triple.Call.{calls_at}
use denote.Triple.Spec.{triple_of}
use denote.Triple.End.{Kepts, Fins, Outs, outs, lasts_of}
use denote.Triple.Clauses.{Clauses, Ended, Lasts, closing, lasts}
use Rattle.walks.proofs.Plain.{Plain, array, ty, val, vals}
use Rattle.walks.proofs.LocalLend.{row_in, row_back}

module _ (n : ℕ) (ps : List (Slot (suc n))) (ks : Kepts ps) (R Y : RattleType) where
  abbrev pub ended_row : Ended
  ended_row = record { signature = record { lifetimes = suc n; outlives = []; params = mut_slice_of (0 ∷ []) tt (plain (λ _. R)) ∷ ps; result = plain (λ _. Y) }; kept = (yes, ks) }

  module _ (Φ : (κs : Lfts (suc n)) → List R.Denot → Denots (types_at ps κs) → List R.Denot → Outs κs ps ks → Y.Denot → Type 0) {M : Type 1} {𝓤 : Ura M} (𝓛 : Logic 𝓤) where
    open 𝓛 use {A}

    abbrev pub clauses_row : Clauses 𝓤 ended_row
    clauses_row κs a = record { ghost = Unit {0}; requires = λ _. emp 𝓤; ensures = λ _ r e. fact 𝓤 (Φ κs a.0.now a.1 e.0.now e.1 r) }

    abbrev pub RowOn : Contract 𝓤
    RowOn = triple_of 𝓛 ended_row.signature (closing 𝓛 ended_row clauses_row)

    module _ (κs : Lfts n) (qs : Shares n) (ν l : ℕ) (δ : GName) (ys : List R.Denot) (a : Denots (types_at ps (ν ∷ [], κs))) (vss : Valss (types_at ps (ν ∷ [], κs))) where
      abbrev ref_row : MutBor (List R.Denot)
      ref_row = record { ref_ptr = (l, 0); ghost_name = δ; now = ys }

      abbrev at_row : RowOn.Ghost
      at_row = (((ν ∷ [], κs), (full_share, qs), tt, (ref_row, a), (slice_val (l, 0) (length ys) ∷ [], vss)), tt)

      abbrev slice_row : Item 𝓤
      slice_row = ‵ ((MutSlice (named 0) (ν ∷ []) R).own_val ref_row (slice_val (l, 0) (length ys) ∷ []))

      asks_row : ent 𝓤 (sep 𝓤 (sep 𝓤 (A.lft (ν ∷ []) full_share) (toks 𝓛 n κs qs)) (sep 𝓤 (mean 𝓛 slice_row) (sem 𝓛 (owns (types_at ps (ν ∷ [], κs)) a vss)))) (RowOn.pre at_row)
      asks_row =
          qed 𝓛 ((‵ (flft (ν ∷ []) full_share) ⊛ raw (toks 𝓛 n κs qs)) ∷ slice_row ∷ ‵ (owns (types_at ps (ν ∷ [], κs)) a vss) ∷ []) ∵ nothing ! $ move ! (2 ∷ 3 ∷ []) $ fjoin ! $ move ! (2 ∷ 0 ∷ []) $ join ! $ frame ! $ done !

module _ {M : Type 1} {𝓤 : Ura M} {𝓛 : Logic 𝓤} {K : Type 0} {Γ : List (Item 𝓤)} {E : Env 𝓤 𝓛.H} {C : Calls 𝓤 𝓛.H} {k : Callee} {xs : List Operand} {Λ : Loops 𝓤 𝓛.H} {q : Post 𝓤 𝓛.H} {d : Place} where
  open 𝓛 use {H}

  pub calls_row_on : K → FmC 𝓤 H 𝓛.laws C → {rest : Body} (n : ℕ) (ps : List (Slot (suc n))) (ks : Kepts ps) {R : RattleType} (P : Plain R) (m : ℕ) (Y : RattleType) (Φ : (κs : Lfts (suc n)) → List R.Denot → Denots (types_at ps κs) → List R.Denot → Outs κs ps ks → Y.Denot → Type 0) → Triple 𝓤 (C k) (RowOn n ps ks R Y Φ 𝓛)
      → (κs : Lfts n) (qs : Shares n) (ys : List R.Denot) (l : ℕ) → Is (Array R m) ys (vals (array P m) ys) → Room R m
      → (a : (ν : ℕ) → Denots (types_at ps (ν ∷ [], κs))) (vss : (ν : ℕ) → Valss (types_at ps (ν ∷ [], κs))) (before : Item 𝓤) → ((ν : ℕ) → ent 𝓤 (mean 𝓛 before) (sem 𝓛 (owns (types_at ps (ν ∷ [], κs)) (a ν) (vss ν))))
      → ((ν : ℕ) (i j : Item 𝓤) → Opds K 𝓛 (i ∷ j ∷ Γ) E xs (slice_val (l, 0) m ∷ flat (types_at ps (ν ∷ [], κs)) (vss ν)))
      → ((ν : ℕ) (v : Val) (zs : List R.Denot) (r : Y.Denot) (ws : Fins (ν ∷ [], κs) ps ks (a ν)) → Is (Array R m) zs (vals (array P m) zs) → Is Y r (v ∷ []) → Φ (ν ∷ [], κs) ys (a ν) zs (outs (ν ∷ [], κs) ps ks (a ν) ws) r
      → Seq K 𝓛 (‵ (fat full_share (ty (array P m)) l 0 (val (array P m) zs)) ∷ raw (toks 𝓛 n κs qs) ∷ ‵ (lasts_of (ν ∷ [], κs) ps ks (a ν) ws) ∷ Γ) (lands C Λ E d v rest q))
      → Seq K 𝓛 (‵ (fat full_share (ty (array P m)) l 0 (val (array P m) ys)) ∷ raw (toks 𝓛 n κs qs) ∷ before ∷ Γ) (runs C Λ E (seq (call k xs d) rest) q)
  calls_row_on t fm {rest} n ps ks {R} P m Y Φ known κs qs ys l gy room a vss before gives os go =
      row_in t P m ys l gy (λ e.
      use1 𝓛 (‵ (cells (mem R) ys l 0)) (whole_in 𝓛 R ys l 0) $ lft_new t tt (λ ν. move t (1 ∷ []) $
      use1 𝓛 (later (some (λ (δ : GName). slice_row n ps ks R Y Φ 𝓛 κs qs ν l δ ys (a ν) (vss ν) ⊛ ‵ (flent (ν ∷ []) (Held R (length ys) l 0 δ))))) (lends_slice 𝓛 R (named 0) (ν ∷ []) ys l 0 (subst (Room R) (sym e) room)) $ await t tt $ pick t (λ δ. split t $
      -- [the slice; the lender's part; the lifetime's token; the tokens; what is passed on; …]
      move t (4 ∷ []) $ use1 𝓛 (‵ (owns (types_at ps (ν ∷ [], κs)) (a ν) (vss ν))) (gives ν) $ move t (3 ∷ 4 ∷ []) $ join t $ move t (0 ∷ 2 ∷ 1 ∷ []) $
      use3 𝓛 (raw ((RowOn n ps ks R Y Φ 𝓛).pre (at_row n ps ks R Y Φ 𝓛 κs qs ν l δ ys (a ν) (vss ν)))) (asks_row n ps ks R Y Φ 𝓛 κs qs ν l δ ys (a ν) (vss ν)) $
      calls_at t fm (RowOn n ps ks R Y Φ 𝓛) known (at_row n ps ks R Y Φ 𝓛 κs qs ν l δ ys (a ν) (vss ν)) (counted e ν _ _) (λ v.
      use1 𝓛 (later (some (λ (r : Y.Denot). ((‵ (flft (ν ∷ []) full_share) ⊛ raw (toks 𝓛 n κs qs)) ⊛ ‵ (Y.own_val r (v ∷ [])))
      ⊛ some (λ (ws : Lasts (ended_row n ps ks R Y) (ν ∷ [], κs) (ref_row n ps ks R Y Φ 𝓛 κs qs ν l δ ys (a ν) (vss ν), a ν)). ‵ (lasts (ended_row n ps ks R Y) (ν ∷ [], κs) (ref_row n ps ks R Y Φ 𝓛 κs qs ν l δ ys (a ν) (vss ν), a ν) ws) ⊛ raw (fact 𝓤 (Φ (ν ∷ [], κs) ys (a ν) ws.0 (outs (ν ∷ [], κs) ps ks (a ν) ws.1) r)))))) (id⊢ 𝓤 _) $ await t tt $ pick t (λ r.
      split t $ move t (1 ∷ []) $ pick t (λ ws. split t $ move t (1 ∷ []) $ heard t (Φ (ν ∷ [], κs) ys (a ν) ws.0 (outs (ν ∷ [], κs) ps ks (a ν) ws.1) r) (λ said. fsplit t $ fsplit t $ move t (1 ∷ []) $ drop t $ fsplit t $ move t (1 ∷ []) $ drop t $
      -- [the last list; what says the last values; the tokens and the result; the lender's part; …]
      move t (2 ∷ []) $ split t $ move t (1 ∷ []) $ peeks t Y (Is Y) (shows 𝓛 Y) r (v ∷ []) (λ g. drop t $ split t $ lft_end t tt $ move t (0 ∷ 4 ∷ 2 ∷ []) $
      use3 𝓛 (later (‵ ((Arr (mem R) (length ys)).own_at ws.0 l 0))) (slice_back 𝓛 R (ν ∷ []) δ ws.0 (length ys) l 0) $ await t tt $ fsplit t $ feq_l t (λ e'. use1 𝓛 (‵ (row R full_share ws.0 l 0)) (whole_out 𝓛 R ws.0 l 0) $
      row_back t P m ws.0 l (e' ∙ e) (λ gz. go ν v ws.0 r ws.1 gz g said))))))))))
    where
      counted : length ys ≡ m → (ν : ℕ) (i j : Item 𝓤) → Opds K 𝓛 (i ∷ j ∷ Γ) E xs (slice_val (l, 0) (length ys) ∷ flat (types_at ps (ν ∷ [], κs)) (vss ν))
      counted e ν i j = subst (λ (c : ℕ). Opds K 𝓛 (i ∷ j ∷ Γ) E xs (slice_val (l, 0) c ∷ flat (types_at ps (ν ∷ [], κs)) (vss ν))) (sym e) (os ν i j)
