-- `fn tick(table: &mut [R], area: &'a [u8], image: &'a [u8], answer: &mut [u8], clock: X₁) -> Y { if table.len() != n { return refuse(); } let d = find(table, clock); let r = core(load(table), d, area, image, answer, clock); save(table, r.two); r.one }` at any plain R, Y, X₁ and D and any n, where load and save are `RowLoad`'s and `RowSave`'s, find is `RowFind`'s, with a contract that says its result by sc, refuse is a covered function of nothing, and core a covered function at any contract of one fact: a walk of its MIR.
-- The table is opened once, after the test. Its elements are lent to find, to load and to save, and closed at the row that core made. The other parameters go to core for good, at their own lifetimes (`Beside`).
--     φ        what core's contract says of the row and the parameters at entry, of its result, and of each `&mut [u8]` at exit
--     Φ        what the contract says of the table and the parameters at entry, of the table and of each `&mut [u8]` at exit, and of the result. It is asked of what core leaves where the table is one of n, and else of all as it was and what refuse returns
-- It says nothing of the crate, and can be copied as it stands. Assumes nothing.
use mathlib.Core.Path.{◌≡◌, refl, sym, ◌∙◌, ap, subst}
use Prim.Native.Nat.{ℕ, ◌^◌}
use mathlib.Core.Bool.{Bool, true, false, not}
use mathlib.Core.List.{List, [], ◌∷◌}
use lib.ListN.{length}
use lib.Dec.{T, ltb, eqb, eqb→eq}
use seplogic.Ra.Ura.{Ura}
use base.Fraction.{full_share}
use mir.Syntax.{Callee, Ty, Fn, Body, Mutability, named, erased, imm, mut, w8, w64, ty_unit, ty_int, ty_bool, ty_ref, deref, field, place, copy, int, local, value_local, skip, seq, assign, cond, call, return, rv_opd, op2, ne, aggregate, addr_of}
use mir.Val.{vbool, Val}
use base.Logic.{SProp, ent, emp, via, fst∗}
use base.Fml.{Lft, GName, Share, fat, froom, fdies, flft, fobs, fbor}
use prog.Wp.{Env, Calls, Loops, WpFn, Tables}
use types.Logic.{Logic, sem}
use sound.WpLaws.{FmC, fm_of, WpFn-mono}
use types.Kit.{Item, Sq, runs, at_ret, ‵, raw, later, ◌⊛◌, ⋆, ◌$◌, ◌∵◌, !, qed, by, use1, await, move, keep, drop, split, join, rewrite, fsplit, fjoin, suffices, frame, done}
use types.Part.{whole, sub, look_in, agg}
use types.Run.{look, init, forget, stop, hop, fld, from, load, lit, of_opd, bin, addr, and_then, no_more, land, assigns, first, branches, skips, exec, returns, returns_within, enter, alloc1, alloc0, params1, pass1, pass0}
use contract.Monad.{fact}
use contract.Lifetimes.{Lfts, Shares, toks}
use denote.Array.{Array}
use denote.Builtin.{u8}
use denote.Exit.{yes}
use denote.RattleType.{RattleType, Denots, Valss, owns}
use denote.Shadow.{pure_i}
use denote.Laws.{Is, Ises, owns_make}
use denote.Memory.{pointee}
use denote.Ref.{Bor, MutBor}
use denote.Slice.{slice_ty, slice_val, Room, shr_slice_vals, mut_slice_vals, mut_slice_Tells, shr_slice_Tells, heres, coded_holeys, mut_slice_at}
use denote.Lend.{Held}
use denote.Index.{opens_slice, closes_slice}
use denote.Plain.{Nothing-Lawful}
use denote.Signature.{Signature, Slot, plain, mut_slice_of, shr_slice_of, types_at}
use denote.Triple.Entry.{Args, Vals, on_entry}
use denote.Steps.{only, owned}
use denote.Triple.Statement.{Contract, Triple}
use denote.Triple.Spec.{Meets}
use denote.Triple.End.{Kepts, Fins, Outs, lasts_of}
use denote.Triple.Clauses.{Clauses, Ended, closing}
use denote.Triple.Walked.{says, Stays, stay_slice, stay_none, stay_none_slice, walk_of, Walks, ends_at, walked, Goes-slice, Goes-none, Goes-none_slice, go_all, walk_Meets}
use Rattle.walks.proofs.Plain.{Plain, array, ty, val, vals, tells, told, fits, fits_at, rest, silent}
use Rattle.walks.proofs.ByValue.{Value0, calls0}
use Rattle.walks.proofs.Two.{Two, struct_ty, struct_is, struct_fits}
use Rattle.walks.proofs.Beside.{On, calls_on, says_last, goes_last}
use Rattle.walks.proofs.Frees.{free_all}
use Rattle.walks.proofs.RowLend.{ShrRow, AnyRow, MutRow, calls_shr, calls_any, calls_mut}

module _ (R Y S X₁ D : RattleType) (P : Plain R) (m : ℕ) (PY : Plain Y) (PX₁ : Plain X₁) (PD : Plain D) (B : Two PY (array P m) S) (sc : List R.Denot → X₁.Denot → D.Denot) where
  -- what is said of the lists and of the plain values
  abbrev pub Of : Type 1 → Type 1
  Of Z = List R.Denot → List ℕ → List ℕ → List ℕ → X₁.Denot → Z

  -- the row by value
  abbrev Row : RattleType
  Row = Array R m

  abbrev PR : Plain Row
  PR = array P m

  -- what load and save ask and say
  abbrev pub Eight : List R.Denot → Type 0
  Eight ys = length ys ≡ m

  abbrev pub loaded : List R.Denot → List R.Denot
  loaded ys = ys

  abbrev pub saved : List R.Denot → List R.Denot → List R.Denot
  saved ys zs = zs

  -- what core takes beside the row, and the same behind the table
  abbrev pub rests : List (Slot 2)
  rests = shr_slice_of (0 ∷ []) tt (plain (λ _. u8)) ∷ shr_slice_of (0 ∷ []) tt (plain (λ _. u8)) ∷ mut_slice_of (1 ∷ []) tt (plain (λ _. u8)) ∷ plain (λ _. X₁) ∷ []

  abbrev pub keeps : Kepts rests
  keeps = (yes, (yes, (yes, (yes, tt))))

  -- find's contract
  abbrev pub found : (κs : Lfts 1) → List R.Denot → Denots (types_at {n = 1} (plain (λ _. X₁) ∷ []) κs) → D.Denot → Type 0
  found κs ys a r = r ≡ sc ys a.0

  abbrev pub Find : {M : Type 1} {𝓤 : Ura M} (𝓛 : Logic 𝓤) → Contract 𝓤
  Find 𝓛 = AnyRow (plain (λ _. X₁) ∷ []) (yes, tt) R D found 𝓛

  abbrev pub signature : Signature
  signature = record { lifetimes = 3; outlives = []; params = mut_slice_of (0 ∷ []) tt (plain (λ _. R)) ∷ shr_slice_of (1 ∷ []) tt (plain (λ _. u8)) ∷ shr_slice_of (1 ∷ []) tt (plain (λ _. u8)) ∷ mut_slice_of (2 ∷ []) tt (plain (λ _. u8)) ∷ plain (λ _. X₁) ∷ []; result = plain (λ _. Y) }

  abbrev slice : Ty
  slice = slice_ty (ty_ref (named 0) mut (pointee R.written))

  abbrev lent : ℕ → Mutability → Ty
  lent j μ = slice_ty (ty_ref (named j) μ (pointee u8.written))

  abbrev lent_ref : Ty
  lent_ref = ty_ref erased mut (pointee u8.written)

  abbrev shr : Ty
  shr = ty_ref erased imm (pointee R.written)

  abbrev uniq : Ty
  uniq = ty_ref erased mut (pointee R.written)

  -- the locals: the result, table, area, image, answer, clock, d, what core returns, a number, the test, `&*table` and the slice of it, the row, `&*table` and the slice of it, `&mut *answer` and the slice of it, (), `&mut *table` and the slice of it. kᵣ, kf, kₗ, k and kₛ are the keys of refuse, find, load, core and save
  abbrev pub work : Callee → Callee → Callee → Callee → Body
  work kf kₗ k kₛ = seq (assign (place 10 []) (addr_of (place 1 (field 0 ∷ deref (ty P) ∷ []))))
      (seq (assign (place 11 []) (aggregate (copy (place 10 []) ∷ copy (place 1 (field 1 ∷ [])) ∷ [])))
      (seq (call kf (copy (place 11 []) ∷ copy (place 5 []) ∷ []) (place 6 []))
      (seq (assign (place 13 []) (addr_of (place 1 (field 0 ∷ deref (ty P) ∷ []))))
      (seq (assign (place 14 []) (aggregate (copy (place 13 []) ∷ copy (place 1 (field 1 ∷ [])) ∷ [])))
      (seq (call kₗ (copy (place 14 []) ∷ []) (place 12 []))
      (seq (assign (place 15 []) (addr_of (place 4 (field 0 ∷ deref (ty_int w8) ∷ []))))
      (seq (assign (place 16 []) (aggregate (copy (place 15 []) ∷ copy (place 4 (field 1 ∷ [])) ∷ [])))
      (seq (call k (copy (place 12 []) ∷ copy (place 6 []) ∷ copy (place 2 []) ∷ copy (place 3 []) ∷ copy (place 16 []) ∷ copy (place 5 []) ∷ []) (place 7 []))
      (seq (assign (place 18 []) (addr_of (place 1 (field 0 ∷ deref (ty P) ∷ []))))
      (seq (assign (place 19 []) (aggregate (copy (place 18 []) ∷ copy (place 1 (field 1 ∷ [])) ∷ [])))
      (seq (call kₛ (copy (place 19 []) ∷ copy (place 7 (field 1 ∷ [])) ∷ []) (place 17 []))
      (seq (assign (place 0 []) (rv_opd (copy (place 7 (field 0 ∷ []))))) return))))))))))))

  abbrev pub function : Callee → Callee → Callee → Callee → Callee → Fn
  function kᵣ kf kₗ k kₛ = record {
    lifetimes = 3;
    outlives = [];
    ty_params = [];
    givens = 0;
    params = 5;
    locals = local (ty PY) value_local ∷ local slice value_local ∷ local (lent 1 imm) value_local ∷ local (lent 1 imm) value_local ∷ local (lent 2 mut) value_local ∷ local (ty PX₁) value_local ∷ local (ty PD) value_local ∷ local (struct_ty B) value_local ∷ local (ty_int w64) value_local ∷ local ty_bool value_local ∷ local shr value_local ∷ local (slice_ty shr) value_local ∷ local (ty PR) value_local ∷ local shr value_local ∷ local (slice_ty shr) value_local ∷ local lent_ref value_local ∷ local (slice_ty lent_ref) value_local ∷ local ty_unit value_local ∷ local uniq value_local ∷ local (slice_ty uniq) value_local ∷ [];
    body = seq (assign (place 8 []) (rv_opd (copy (place 1 (field 1 ∷ [])))))
        (seq (assign (place 9 []) (op2 ne (copy (place 8 [])) (int w64 m)))
        (seq (cond (copy (place 9 [])) (seq (call kᵣ [] (place 0 [])) return) skip) (work kf kₗ k kₛ)));
  }

  abbrev pub ended : Ended
  ended = record { signature = signature; kept = (yes, keeps) }

  abbrev pub stayed : Stays ended.signature.params ended.kept
  stayed = (stay_slice (0 ∷ []) tt (plain (λ _. R)), (says_last (shr_slice_of (1 ∷ []) tt (plain (λ _. u8))) yes, (says_last (shr_slice_of (1 ∷ []) tt (plain (λ _. u8))) yes, (says_last (mut_slice_of (2 ∷ []) tt (plain (λ _. u8))) yes, (says_last (plain (λ _. X₁)) yes, tt)))))

  -- what core's contract says
  module _ (φ : D.Denot → Of (S.Denot → List ℕ → Type 0)) where
    abbrev pub cored : (κs : Lfts 2) → List R.Denot → Denots (types_at {n = 2} (plain (λ _. D) ∷ rests) κs) → S.Denot → Outs κs (plain (λ _. D) ∷ rests) (yes, keeps) → Type 0
    cored κs ys a s e = φ a.0 ys a.1.0.now a.1.1.0.now a.1.1.1.0.now a.1.1.1.1.0 s e.1.1.1.0.now

    module _ (refused : Y.Denot) (Φ : Of (List R.Denot → List ℕ → Y.Denot → Type 0)) where
      abbrev pub spec : {M : Type 1} (𝓤 : Ura M) → Clauses 𝓤 ended
      spec 𝓤 κs a = record { ghost = Unit {0}; requires = λ _. emp 𝓤; ensures = λ _ r e. fact 𝓤 (Φ a.0.now a.1.0.now a.1.1.0.now a.1.1.1.0.now a.1.1.1.1.0 e.0.now e.1.1.1.0.now r) }

      module _ (small : T (ltb m (2 ^ 64)))
          (accepts : (ys : List R.Denot) (area : List ℕ) (image : List ℕ) (answer : List ℕ) (clock : X₁.Denot) (s : S.Denot) (answer' : List ℕ) → length ys ≡ m → φ (sc ys clock) ys area image answer clock s answer' → Φ ys area image answer clock (B.two s) answer' (B.one s))
          (refuses : (ys : List R.Denot) (area : List ℕ) (image : List ℕ) (answer : List ℕ) (clock : X₁.Denot) → eqb (length ys) m ≡ false → Φ ys area image answer clock ys answer refused)
          {M : Type 1} {𝓤 : Ura M} (𝓛 : Logic 𝓤) (kᵣ kf kₗ k kₛ : Callee) where
        open 𝓛 use {H}

        module _ (κ : Lft) (κs : Lfts 2) (q : Share) (qs : Shares 2) (b o : ℕ) (γ : GName) (ys : List R.Denot) (gn : Room R (length ys)) (area : Bor (List ℕ)) (image : Bor (List ℕ)) (answer : MutBor (List ℕ)) (clock : X₁.Denot) where
          abbrev n : ℕ
          n = length ys

          abbrev ref : List R.Denot → MutBor (List R.Denot)
          ref l = record { ref_ptr = (b, o); ghost_name = γ; now = l }

          abbrev s : Val
          s = slice_val (b, o) n

          -- what is passed on, and its machine values
          abbrev on : Denots (types_at rests κs)
          on = (area, (image, (answer, (clock, tt))))

          abbrev ons : Valss (types_at rests κs)
          ons = (shr_slice_vals area, (shr_slice_vals image, (mut_slice_vals answer, (vals PX₁ clock, tt))))

          abbrev a : Args signature (κ, κs)
          a = (ref ys, on)

          abbrev at : Vals signature (κ, κs)
          at = (s ∷ [], ons)

          abbrev bound : (walk_of 𝓛 ended stayed (spec 𝓤)).Ghost
          bound = (((κ, κs), (q, qs), tt, a, at), tt)

          abbrev Post : Val → SProp 𝓤
          Post = (walk_of 𝓛 ended stayed (spec 𝓤)).post bound

          -- what is passed on, before and after
          abbrev before : Item 𝓤
          before = ‵ (owns (types_at rests κs) on ons)

          abbrev after : Fins κs rests keeps on → Item 𝓤
          after ws = ‵ (lasts_of κs rests keeps on ws)

          -- where nothing is passed on, the last values are those at entry
          abbrev same : Fins κs rests keeps on
          same = (tt, (tt, (answer.now, (rest PX₁ yes clock, tt))))

          gives : ent 𝓤 (⋆ 𝓛 (before ∷ [])) (H.⇛ (⋆ 𝓛 (after same ∷ [])))
          gives = go_all 𝓛 2 rests keeps (stay_none_slice (0 ∷ []) tt (plain (λ _. u8)) yes, (stay_none_slice (0 ∷ []) tt (plain (λ _. u8)) yes, (stay_slice (1 ∷ []) tt (plain (λ _. u8)), (stay_none (λ _. X₁) yes, tt))))
              (Goes-none_slice 𝓛 2 (0 ∷ []) tt (plain (λ _. u8)) yes, (Goes-none_slice 𝓛 2 (0 ∷ []) tt (plain (λ _. u8)) yes, (Goes-slice 𝓛 2 1 tt (plain (λ _. u8)), (Goes-none 𝓛 2 (λ _. X₁) yes (λ κs y f. silent PX₁ yes y f), tt)))) κs on same ons (tt, (tt, (refl, (tt, tt))))

          exits : (zs : List R.Denot) (r : Y.Denot) (ws : Fins κs rests keeps on) → Is Y r (vals PY r) → length zs ≡ n → Φ ys area.now image.now answer.now clock zs ws.1.1.0 r
              → ent 𝓤 (⋆ 𝓛 (‵ (fobs γ ((coded_holeys R).code (heres R zs))) ∷ ‵ (fbor κ (Held R (length zs) b o γ)) ∷ ‵ (flft κ q) ∷ raw (toks 𝓛 2 κs qs) ∷ after ws ∷ [])) (Post (val PY r))
          exits zs r ws gr same said =
              qed 𝓛 (‵ (fobs γ ((coded_holeys R).code (heres R zs))) ∷ ‵ (fbor κ (Held R (length zs) b o γ)) ∷ ‵ (flft κ q) ∷ raw (toks 𝓛 2 κs qs) ∷ after ws ∷ []) ∵
              suffices ! _ (ends_at 𝓛 ended stayed (spec 𝓤) bound (val PY r) r (zs, ws) (same, (tt, (tt, (tt, (tt, tt)))))) $ says ! said $
              move ! (2 ∷ 3 ∷ []) $ join ! $ frame ! $
              fjoin ! $ pure_i ! (mut_slice_at R (ref zs) (s ∷ [])) (tt, (tt, tt)) (ap (λ (j : ℕ). slice_val (b, o) j ∷ []) (sym same), subst (Room R) (sym same) gn) $ fjoin ! $
              fjoin ! $ frame ! $ owned ! Y (Is Y) (PY.makes M 𝓤 𝓛) r _ gr $ done !

          module _ (C : Calls 𝓤 H) (Λ : Loops 𝓤 H) (fm : FmC 𝓤 H 𝓛.laws C) (known-refuse : Triple 𝓤 (C kᵣ) (Value0 Y refused 𝓛)) (known-find : Triple 𝓤 (C kf) (Find 𝓛)) (known-load : Triple 𝓤 (C kₗ) (ShrRow R Row Eight loaded 𝓛)) (known : Triple 𝓤 (C k) (On 2 (plain (λ _. D) ∷ rests) (yes, keeps) Row S cored 𝓛)) (known-save : Triple 𝓤 (C kₛ) (MutRow R Row Eight saved 𝓛))
              (g-area : Room u8 (length area.now)) (g-image : Room u8 (length image.now)) (g-answer : Room u8 (length answer.now)) (g-clock : Is X₁ clock (vals PX₁ clock)) where
            module _ (l₀ l₁ l₂ l₃ l₄ l₅ l₆ l₇ l₈ l₉ l₁₀ l₁₁ l₁₂ l₁₃ l₁₄ l₁₅ l₁₆ l₁₇ l₁₈ l₁₉ : ℕ) where
              abbrev E : Env 𝓤 H
              E = (ty PY, l₀) ∷ (slice, l₁) ∷ (lent 1 imm, l₂) ∷ (lent 1 imm, l₃) ∷ (lent 2 mut, l₄) ∷ (ty PX₁, l₅) ∷ (ty PD, l₆) ∷ (struct_ty B, l₇) ∷ (ty_int w64, l₈) ∷ (ty_bool, l₉) ∷ (shr, l₁₀) ∷ (slice_ty shr, l₁₁) ∷ (ty PR, l₁₂) ∷ (shr, l₁₃) ∷ (slice_ty shr, l₁₄) ∷ (lent_ref, l₁₅) ∷ (slice_ty lent_ref, l₁₆) ∷ (ty_unit, l₁₇) ∷ (uniq, l₁₈) ∷ (slice_ty uniq, l₁₉) ∷ []

              -- at entry: the borrow of the table, with its name and its token; the locals, the last first; and the tokens of what is passed on, and what it owns
              abbrev Before : List (Item 𝓤)
              Before = ‵ (fobs γ ((coded_holeys R).code (heres R ys))) ∷ ‵ (fbor κ (Held R n b o γ)) ∷ ‵ (flft κ q)
                  ∷ ‵ (froom (slice_ty uniq) l₁₉ 0) ∷ ‵ (fdies (slice_ty uniq) l₁₉) ∷ ‵ (froom uniq l₁₈ 0) ∷ ‵ (fdies uniq l₁₈) ∷ ‵ (froom ty_unit l₁₇ 0) ∷ ‵ (fdies ty_unit l₁₇) ∷ ‵ (froom (slice_ty lent_ref) l₁₆ 0) ∷ ‵ (fdies (slice_ty lent_ref) l₁₆)
                  ∷ ‵ (froom lent_ref l₁₅ 0) ∷ ‵ (fdies lent_ref l₁₅) ∷ ‵ (froom (slice_ty shr) l₁₄ 0) ∷ ‵ (fdies (slice_ty shr) l₁₄) ∷ ‵ (froom shr l₁₃ 0) ∷ ‵ (fdies shr l₁₃) ∷ ‵ (froom (ty PR) l₁₂ 0) ∷ ‵ (fdies (ty PR) l₁₂)
                  ∷ ‵ (froom (slice_ty shr) l₁₁ 0) ∷ ‵ (fdies (slice_ty shr) l₁₁) ∷ ‵ (froom shr l₁₀ 0) ∷ ‵ (fdies shr l₁₀) ∷ ‵ (froom ty_bool l₉ 0) ∷ ‵ (fdies ty_bool l₉) ∷ ‵ (froom (ty_int w64) l₈ 0) ∷ ‵ (fdies (ty_int w64) l₈)
                  ∷ ‵ (froom (struct_ty B) l₇ 0) ∷ ‵ (fdies (struct_ty B) l₇) ∷ ‵ (froom (ty PD) l₆ 0) ∷ ‵ (fdies (ty PD) l₆) ∷ ‵ (fat full_share (ty PX₁) l₅ 0 (val PX₁ clock)) ∷ ‵ (fdies (ty PX₁) l₅) ∷ ‵ (fat full_share (lent 2 mut) l₄ 0 (slice_val answer.ref_ptr (length answer.now))) ∷ ‵ (fdies (lent 2 mut) l₄)
                  ∷ ‵ (fat full_share (lent 1 imm) l₃ 0 (slice_val image.ref_ptr (length image.now))) ∷ ‵ (fdies (lent 1 imm) l₃) ∷ ‵ (fat full_share (lent 1 imm) l₂ 0 (slice_val area.ref_ptr (length area.now))) ∷ ‵ (fdies (lent 1 imm) l₂) ∷ ‵ (fat full_share slice l₁ 0 s) ∷ ‵ (fdies slice l₁) ∷ ‵ (froom (ty PY) l₀ 0) ∷ ‵ (fdies (ty PY) l₀)
                  ∷ raw (toks 𝓛 2 κs qs) ∷ before ∷ []

              -- by how the test comes out
              body_on : (y : Bool) → eqb n m ≡ y → Sq 𝓛 Before (runs C Λ E (function kᵣ kf kₗ k kₛ).body (at_ret E Post))
              body_on false e =
                  assigns ! (of_opd ! (load ! (from ! (fld ! refl (stop !))) (look_in ! 39 (sub ! 1 refl (whole !))))) (from ! (stop !)) (init ! 25 refl (tt, record { fits = gn.0 })) $
                  assigns ! (bin ! (load ! (from ! (stop !)) (look ! 25 refl)) (lit ! small) tt) (from ! (stop !)) (init ! 23 refl (tt, tt)) $
                  rewrite ! 23 (λ (z : Bool). ‵ (fat full_share ty_bool l₉ 0 (vbool (not z)))) e refl $
                  first ! $ branches ! (load ! (from ! (stop !)) (look ! 23 refl))
                  (λ _. calls0 ! fm Y refused known-refuse (no_more !) (λ v₀ g₀. land ! (from ! (stop !)) (init ! 41 refl (fits_at PY 𝓛 refused v₀ g₀)) $ rewrite ! 41 (λ (z : Val). ‵ (fat full_share (ty PY) l₀ 0 z)) (ap only (tells PY refused (v₀ ∷ []) g₀)) refl $
                  move ! (44 ∷ []) $ use1 𝓛 (later (after same)) gives $ await ! tt $
                  -- [what says the last values; obs; the borrow; the token; _19; …; _0; …; the tokens]
                  returns_within ! Post refl (look ! 42 refl) $ forget ! 24 refl $ forget ! 26 refl $ forget ! 32 refl $ forget ! 34 refl $ forget ! 36 refl $ forget ! 38 refl $ forget ! 40 refl $ forget ! 42 refl $
                  keep ! (4 ∷ 5 ∷ 6 ∷ 7 ∷ 8 ∷ 9 ∷ 10 ∷ 11 ∷ 12 ∷ 13 ∷ 14 ∷ 15 ∷ 16 ∷ 17 ∷ 18 ∷ 19 ∷ 20 ∷ 21 ∷ 22 ∷ 23 ∷ 24 ∷ 25 ∷ 26 ∷ 27 ∷ 28 ∷ 29 ∷ 30 ∷ 31 ∷ 32 ∷ 33 ∷ 34 ∷ 35 ∷ 36 ∷ 37 ∷ 38 ∷ 39 ∷ 40 ∷ 41 ∷ 42 ∷ 43 ∷ 1 ∷ 2 ∷ 3 ∷ 44 ∷ 0 ∷ []) $ free_all ! E $ by ! (exits ys refused same (told PY refused (v₀ ∷ []) g₀) refl (refuses ys area.now image.now answer.now clock e))))
                  (λ z. absurd z)
              body_on true e =
                  assigns ! (of_opd ! (load ! (from ! (fld ! refl (stop !))) (look_in ! 39 (sub ! 1 refl (whole !))))) (from ! (stop !)) (init ! 25 refl (tt, record { fits = gn.0 })) $
                  assigns ! (bin ! (load ! (from ! (stop !)) (look ! 25 refl)) (lit ! small) tt) (from ! (stop !)) (init ! 23 refl (tt, tt)) $
                  rewrite ! 23 (λ (z : Bool). ‵ (fat full_share ty_bool l₉ 0 (vbool (not z)))) e refl $
                  first ! $ branches ! (load ! (from ! (stop !)) (look ! 23 refl)) (λ z. absurd z) (λ _. skips ! $ exec ! C Λ E (work kf kₗ k kₛ) (at_ret E Post) $
                  opens_slice ! tt R ys b o $
                  -- [the elements; the open borrow; obs; auth; _19; …; _0; …; the tokens; what is passed on]
                  assigns ! (addr ! (from ! (fld ! refl (hop ! (look_in ! 40 (sub ! 0 refl (whole !))) (stop !))))) (from ! (stop !)) (init ! 22 refl (tt, tt)) $
                  assigns ! (agg ! (and_then ! (load ! (from ! (stop !)) (look ! 22 refl)) (and_then ! (load ! (from ! (fld ! refl (stop !))) (look_in ! 40 (sub ! 1 refl (whole !)))) (no_more !)))) (from ! (stop !)) (init ! 20 refl (tt, (tt, (record { fits = gn.0 }, tt)))) $
                  calls_any ! fm (plain (λ _. X₁) ∷ []) (yes, tt) R D P found known-find full_share ys b o gn (λ ν. (clock, tt)) (λ ν. (vals PX₁ clock, tt)) (λ ν. clock_made) (λ ν i j. (and_then ! (load ! (from ! (stop !)) (look ! 21 refl)) (and_then ! (load ! (from ! (stop !)) (look ! 33 refl)) (no_more !)))) (λ ν x d gd d-is.
                  land ! (from ! (stop !)) (init ! 30 refl (fits_at PD 𝓛 d x gd)) $ rewrite ! 30 (λ (z : Val). ‵ (fat full_share (ty PD) l₆ 0 z)) (ap only (tells PD d (x ∷ []) gd)) refl $
                  assigns ! (addr ! (from ! (fld ! refl (hop ! (look_in ! 40 (sub ! 0 refl (whole !))) (stop !))))) (from ! (stop !)) (init ! 16 refl (tt, tt)) $
                  assigns ! (agg ! (and_then ! (load ! (from ! (stop !)) (look ! 16 refl)) (and_then ! (load ! (from ! (fld ! refl (stop !))) (look_in ! 40 (sub ! 1 refl (whole !)))) (no_more !)))) (from ! (stop !)) (init ! 14 refl (tt, (tt, (record { fits = gn.0 }, tt)))) $
                  calls_shr ! fm R Row P Eight loaded known-load full_share ys b o gn is_eight (λ i j. (and_then ! (load ! (from ! (stop !)) (look ! 15 refl)) (no_more !))) (λ u gu.
                  land ! (from ! (stop !)) (init ! 18 refl (fits_at PR 𝓛 ys u gu)) $ rewrite ! 18 (λ (z : Val). ‵ (fat full_share (ty PR) l₁₂ 0 z)) (ap only (tells PR ys (u ∷ []) gu)) refl $
                  assigns ! (addr ! (from ! (fld ! refl (hop ! (look_in ! 34 (sub ! 0 refl (whole !))) (stop !))))) (from ! (stop !)) (init ! 12 refl (tt, tt)) $
                  assigns ! (agg ! (and_then ! (load ! (from ! (stop !)) (look ! 12 refl)) (and_then ! (load ! (from ! (fld ! refl (stop !))) (look_in ! 34 (sub ! 1 refl (whole !)))) (no_more !)))) (from ! (stop !)) (init ! 10 refl (tt, (tt, (record { fits = g-answer.0 }, tt)))) $
                  move ! (45 ∷ []) $ owned ! D (Is D) (PD.makes M 𝓤 𝓛) d (vals PD d) (told PD d (x ∷ []) gd) $ fjoin ! $ move ! (45 ∷ 0 ∷ []) $
                  calls_on ! fm 2 (plain (λ _. D) ∷ rests) (yes, keeps) PR S cored known κs qs ys (val PR ys) (told PR ys (u ∷ []) gu) (d, on) (vals PD d, ons) (λ i. (and_then ! (load ! (from ! (stop !)) (look ! 19 refl)) (and_then ! (load ! (from ! (stop !)) (look ! 31 refl)) (and_then ! (load ! (from ! (stop !)) (look ! 39 refl)) (and_then ! (load ! (from ! (stop !)) (look ! 37 refl)) (and_then ! (load ! (from ! (stop !)) (look ! 11 refl)) (and_then ! (load ! (from ! (stop !)) (look ! 33 refl)) (no_more !)))))))) (λ v s' ws gv e'.
                  -- [the tokens; what says the last values; the elements; the open borrow; obs; auth; _19; …; _0; …]
                  move ! (1 ∷ []) $ fsplit ! $ drop ! $ move ! (1 ∷ 0 ∷ []) $
                  land ! (from ! (stop !)) (init ! 30 refl (struct_fits B 𝓛 s' v gv)) $ rewrite ! 30 (λ (z : Val). ‵ (fat full_share (struct_ty B) l₇ 0 z)) (struct_is B s' v gv) refl $
                  move ! (2 ∷ 3 ∷ 4 ∷ 5 ∷ []) $
                  assigns ! (addr ! (from ! (fld ! refl (hop ! (look_in ! 42 (sub ! 0 refl (whole !))) (stop !))))) (from ! (stop !)) (init ! 8 refl (tt, tt)) $
                  assigns ! (agg ! (and_then ! (load ! (from ! (stop !)) (look ! 8 refl)) (and_then ! (load ! (from ! (fld ! refl (stop !))) (look_in ! 42 (sub ! 1 refl (whole !)))) (no_more !)))) (from ! (stop !)) (init ! 6 refl (tt, (tt, (record { fits = gn.0 }, tt)))) $
                  calls_mut ! fm R PR Eight saved known-save ys b o gn is_eight (B.two s') (val PR (B.two s')) (B.two_is s' v gv)
                  (λ i j. and_then ! (load ! (from ! (stop !)) (look ! 7 refl)) (and_then ! (load ! (from ! (fld ! refl (stop !))) (look_in ! 31 (sub ! 1 refl (whole !)))) (no_more !))) (λ w gw.
                  land ! (from ! (stop !)) (init ! 10 refl ((Nothing-Lawful 𝓛).typed tt (w ∷ []) gw).0) $
                  assigns ! (of_opd ! (load ! (from ! (fld ! refl (stop !))) (look_in ! 30 (sub ! 0 refl (whole !))))) (from ! (stop !)) (init ! 44 refl (fits PY 𝓛 (B.one s') (B.one_is s' v gv))) $
                  closes_slice ! tt R ys (B.two s') ((B.two_is s' v gv).1.0.1 ∙ sym is_eight) b o $
                  -- [obs; the borrow; the token; the tokens; what says the last values; _19; …; _0; …]
                  returns ! (look ! 43 refl) $ forget ! 5 refl $ forget ! 7 refl $ forget ! 9 refl $ forget ! 11 refl $ forget ! 13 refl $ forget ! 15 refl $ forget ! 17 refl $ forget ! 19 refl $ forget ! 21 refl $ forget ! 23 refl $ forget ! 25 refl $ forget ! 27 refl $ forget ! 29 refl $ forget ! 31 refl $ forget ! 33 refl $ forget ! 35 refl $ forget ! 37 refl $ forget ! 39 refl $ forget ! 41 refl $ forget ! 43 refl $
                  keep ! (5 ∷ 6 ∷ 7 ∷ 8 ∷ 9 ∷ 10 ∷ 11 ∷ 12 ∷ 13 ∷ 14 ∷ 15 ∷ 16 ∷ 17 ∷ 18 ∷ 19 ∷ 20 ∷ 21 ∷ 22 ∷ 23 ∷ 24 ∷ 25 ∷ 26 ∷ 27 ∷ 28 ∷ 29 ∷ 30 ∷ 31 ∷ 32 ∷ 33 ∷ 34 ∷ 35 ∷ 36 ∷ 37 ∷ 38 ∷ 39 ∷ 40 ∷ 41 ∷ 42 ∷ 43 ∷ 44 ∷ 0 ∷ 1 ∷ 2 ∷ 3 ∷ 4 ∷ []) $ free_all ! E $
                  by ! (exits (B.two s') (B.one s') ws.1 (B.one_is s' v gv) ((B.two_is s' v gv).1.0.1 ∙ sym is_eight) (accepts ys area.now image.now answer.now clock s' ws.1.1.1.0 is_eight (heard_of d s' ws.1.1.1.0 d-is e'))))))))
                where
                  is_eight : length ys ≡ m
                  is_eight = eqb→eq n m (subst T (sym e) tt)

                  clock_made : ent 𝓤 (emp 𝓤) (sem 𝓛 (owns (X₁ ∷ []) (clock, tt) (vals PX₁ clock, tt)))
                  clock_made = owns_make 𝓛 (X₁ ∷ []) (Ises (X₁ ∷ [])) (PX₁.makes M 𝓤 𝓛, tt) (clock, tt) (vals PX₁ clock, tt) (g-clock, tt)

                  -- what core says of what find found
                  heard_of : (d : D.Denot) (s' : S.Denot) (answer' : List ℕ) → d ≡ sc ys clock → φ d ys area.now image.now answer.now clock s' answer' → φ (sc ys clock) ys area.now image.now answer.now clock s' answer'
                  heard_of d s' answer' e' p = subst (λ (z : D.Denot). φ z ys area.now image.now answer.now clock s' answer') e' p

            walk : ent 𝓤 (on_entry 𝓛 signature (κ, κs) (q, qs) a at) (WpFn 𝓤 H C Λ (function kᵣ kf kₗ k kₛ) (s ∷ slice_val area.ref_ptr (length area.now) ∷ slice_val image.ref_ptr (length image.now) ∷ slice_val answer.ref_ptr (length answer.now) ∷ val PX₁ clock ∷ []) Post)
            walk =
                qed 𝓛 ((‵ (flft κ q) ⊛ raw (toks 𝓛 2 κs qs)) ∷ ‵ (owns (types_at signature.params (κ, κs)) a at) ∷ []) ∵ enter ! C Λ (function kᵣ kf kₗ k kₛ) (s ∷ slice_val area.ref_ptr (length area.now) ∷ slice_val image.ref_ptr (length image.now) ∷ slice_val answer.ref_ptr (length answer.now) ∷ val PX₁ clock ∷ []) _ $
                alloc1 ! (λ l₀. alloc1 ! (λ l₁. alloc1 ! (λ l₂. alloc1 ! (λ l₃. alloc1 ! (λ l₄. alloc1 ! (λ l₅. alloc1 ! (λ l₆. alloc1 ! (λ l₇. alloc1 ! (λ l₈. alloc1 ! (λ l₉. alloc1 ! (λ l₁₀. alloc1 ! (λ l₁₁. alloc1 ! (λ l₁₂. alloc1 ! (λ l₁₃. alloc1 ! (λ l₁₄. alloc1 ! (λ l₁₅. alloc1 ! (λ l₁₆. alloc1 ! (λ l₁₇. alloc1 ! (λ l₁₈. alloc1 ! (λ l₁₉. alloc0 ! $ params1 ! $
                pass1 ! (init ! 36 refl (tt, (tt, (record { fits = gn.0 }, tt)))) $ pass1 ! (init ! 34 refl ((tt, (tt, (record { fits = g-area.0 }, tt))))) $ pass1 ! (init ! 32 refl ((tt, (tt, (record { fits = g-image.0 }, tt))))) $ pass1 ! (init ! 30 refl ((tt, (tt, (record { fits = g-answer.0 }, tt))))) $ pass1 ! (init ! 28 refl (fits PX₁ 𝓛 clock g-clock)) $ pass0 ! $
                move ! (41 ∷ []) $ fsplit ! $ fsplit ! $ drop ! $ fsplit ! $ move ! (43 ∷ []) $ split ! $ move ! (2 ∷ 3 ∷ 0 ∷ []) $
                -- [obs; the borrow; the token; the tokens; what is passed on; _19; …; _0; …]
                keep ! (0 ∷ 1 ∷ 2 ∷ 5 ∷ 6 ∷ 7 ∷ 8 ∷ 9 ∷ 10 ∷ 11 ∷ 12 ∷ 13 ∷ 14 ∷ 15 ∷ 16 ∷ 17 ∷ 18 ∷ 19 ∷ 20 ∷ 21 ∷ 22 ∷ 23 ∷ 24 ∷ 25 ∷ 26 ∷ 27 ∷ 28 ∷ 29 ∷ 30 ∷ 31 ∷ 32 ∷ 33 ∷ 34 ∷ 35 ∷ 36 ∷ 37 ∷ 38 ∷ 39 ∷ 40 ∷ 41 ∷ 42 ∷ 43 ∷ 44 ∷ 3 ∷ 4 ∷ []) $
                body_on l₀ l₁ l₂ l₃ l₄ l₅ l₆ l₇ l₈ l₉ l₁₀ l₁₁ l₁₂ l₁₃ l₁₄ l₁₅ l₁₆ l₁₇ l₁₈ l₁₉ (eqb n m) refl))))))))))))))))))))

        tick_walks : (C : Calls 𝓤 H) (Λ : Loops 𝓤 H) → FmC 𝓤 H 𝓛.laws C → Triple 𝓤 (C kᵣ) (Value0 Y refused 𝓛) → Triple 𝓤 (C kf) (Find 𝓛) → Triple 𝓤 (C kₗ) (ShrRow R Row Eight loaded 𝓛) → Triple 𝓤 (C k) (On 2 (plain (λ _. D) ∷ rests) (yes, keeps) Row S cored 𝓛) → Triple 𝓤 (C kₛ) (MutRow R Row Eight saved 𝓛)
            → Walks 𝓛 ended stayed (WpFn 𝓤 H C Λ (function kᵣ kf kₗ k kₛ)) (spec 𝓤)
        tick_walks C Λ fm known-refuse known-find known-load known known-save = walked 𝓛 ended stayed (spec 𝓤) (WpFn 𝓤 H C Λ (function kᵣ kf kₗ k kₛ)) (λ κs. (mut_slice_vals, (shr_slice_vals, (shr_slice_vals, (mut_slice_vals, (vals PX₁, tt))))))
            (λ κs. (mut_slice_Tells (named 0) κs.0 R, (shr_slice_Tells (named 1) κs.1.0 u8, (shr_slice_Tells (named 1) κs.1.0 u8, (mut_slice_Tells (named 2) κs.1.1.0 u8, (tells PX₁, tt))))))
            (λ κs qs bounds a g are. via 𝓤 _ (fst∗ 𝓤 _ (emp 𝓤)) (walk κs.0 κs.1 qs.0 qs.1 a.0.ref_ptr.0 a.0.ref_ptr.1 a.0.ghost_name a.0.now are.0.0.1 a.1.0 a.1.1.0 a.1.1.1.0 a.1.1.1.1.0 C Λ fm known-refuse known-find known-load known known-save are.1.0.0.1 are.1.1.0.0.1 are.1.1.1.0.0.1 are.1.1.1.1.0))

        pub tick_meets : (𝓣 : Tables 𝓤 H) → Triple 𝓤 (𝓣.C kᵣ) (Value0 Y refused 𝓛) → Triple 𝓤 (𝓣.C kf) (Find 𝓛) → Triple 𝓤 (𝓣.C kₗ) (ShrRow R Row Eight loaded 𝓛) → Triple 𝓤 (𝓣.C k) (On 2 (plain (λ _. D) ∷ rests) (yes, keeps) Row S cored 𝓛) → Triple 𝓤 (𝓣.C kₛ) (MutRow R Row Eight saved 𝓛)
            → Meets 𝓛 signature (WpFn 𝓤 H 𝓣.C 𝓣.Λ (function kᵣ kf kₗ k kₛ)) (closing 𝓛 ended (spec 𝓤))
        tick_meets 𝓣 known-refuse known-find known-load known known-save = walk_Meets 𝓛 ended stayed (Goes-slice 𝓛 3 0 tt (plain (λ _. R)), (goes_last 𝓛 3 (shr_slice_of (1 ∷ []) tt (plain (λ _. u8))) yes, (goes_last 𝓛 3 (shr_slice_of (1 ∷ []) tt (plain (λ _. u8))) yes, (goes_last 𝓛 3 (mut_slice_of (2 ∷ []) tt (plain (λ _. u8))) yes, (goes_last 𝓛 3 (plain (λ _. X₁)) yes, tt))))) (spec 𝓤)
            (WpFn 𝓤 H 𝓣.C 𝓣.Λ (function kᵣ kf kₗ k kₛ)) (WpFn-mono 𝓤 H 𝓛.laws 𝓣 (function kᵣ kf kₗ k kₛ)) (tick_walks 𝓣.C 𝓣.Λ (fm_of 𝓤 H 𝓛.laws 𝓣) known-refuse known-find known-load known known-save)
