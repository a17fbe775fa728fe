-- `fn query(table: &[R]) -> Y { if table.len() != n { return refuse(); } core(load(table), scan(table)) }` at any plain R, D and Y and any n, where load is `RowLoad`'s, scan a walked function of the slice that asks nothing, as `RowScan`'s, and refuse and core are covered: a walk of its MIR.
-- The table is looked into once, before the test. Its elements are lent to load and to scan, and it is shut before each return.
--     sc, f            what scan's contract says of its result, and core's of its own
--     Φ                what the contract says of the table and of the result. It is asked of what core returns where the table is one of n, and else of what refuse returns
-- It says nothing of the crate, and can be copied as it stands. Assumes nothing.
use mathlib.Core.Path.{◌≡◌, refl, sym, ap, subst}
use Prim.Native.Nat.{ℕ, ◌^◌}
use mathlib.Core.Bool.{Bool, true, false, not}
use mathlib.Core.List.{List, [], ◌∷◌}
use lib.ListN.{length}
use lib.Dec.{T, ltb, eqb, eqb→eq}
use seplogic.Ra.Ura.{Ura}
use base.Fraction.{full_share}
use mir.Syntax.{Callee, Ty, Fn, Body, named, imm, w64, ty_int, ty_bool, ty_ref, field, place, copy, int, local, value_local, skip, seq, assign, cond, call, return, rv_opd, op2, ne}
use mir.Val.{vbool, Val}
use base.Logic.{SProp, ent, emp, via, fst∗, id⊢}
use base.Fml.{Lft, GName, Share, ftrue, fat, froom, fdies, flft, fhide}
use prog.Wp.{Env, Calls, Loops, WpFn, Tables}
use types.Logic.{Logic}
use sound.WpLaws.{FmC, fm_of, WpFn-mono}
use types.Kit.{Item, Sq, runs, at_ret, ‵, ◌⊛◌, ⋆, ◌$◌, ◌∵◌, !, qed, by, move, keep, split, join, rewrite, fsplit, fjoin, suffices, frame, done}
use types.Part.{whole, sub, look_in}
use types.Run.{look, init, forget, stop, fld, from, load, lit, of_opd, bin, and_then, no_more, land, assigns, first, branches, skips, exec, returns, returns_within, enter, alloc1, alloc0, params1, pass1, pass0}
use contract.Monad.{fact}
use denote.Array.{Array}
use denote.Exit.{yes}
use denote.RattleType.{RattleType, owns}
use denote.Shadow.{pure_i}
use denote.Laws.{Is}
use denote.Memory.{pointee}
use denote.Ref.{Bor}
use denote.Slice.{slice_ty, slice_val, ShrSlice, Room, shr_slice_vals, shr_slice_Tells, shr_slice_at, elements_shared}
use denote.Opens.{Shut}
use denote.Index.{row, looks_slice, shuts_slice}
use denote.Signature.{Signature, plain, shr_slice_of}
use denote.Triple.Entry.{Vals, on_entry}
use denote.Steps.{only, nothing, owned}
use denote.Triple.Statement.{Triple}
use denote.Triple.Spec.{Meets}
use denote.Triple.Clauses.{Clauses, Ended, closing}
use denote.Triple.Walked.{says, Stays, stay_none_slice, walk_of, Walks, ends_at, walked, Goes-none_slice, walk_Meets}
use Rattle.walks.proofs.Plain.{Plain, array, ty, val, vals, tells, told, fits_at}
use Rattle.walks.proofs.ByValue.{Value0, Value2, calls0, calls2}
use Rattle.walks.proofs.Frees.{free_all}
use Rattle.walks.proofs.RowLend.{ShrRow, AnyRow, calls_shr, calls_any}

module _ (R D Y : RattleType) (P : Plain R) (m : ℕ) (PD : Plain D) (PY : Plain Y) (sc : List R.Denot → D.Denot) (f : List R.Denot → D.Denot → Y.Denot) (refused : Y.Denot) (Φ : List R.Denot → Y.Denot → Type 0) where
  -- the row by value
  abbrev Row : RattleType
  Row = Array R m

  abbrev PR : Plain Row
  PR = array P m

  -- what load asks and says
  abbrev pub Eight : List R.Denot → Type 0
  Eight ys = length ys ≡ m

  abbrev pub loaded : List R.Denot → List R.Denot
  loaded ys = ys

  abbrev pub signature : Signature
  signature = record { lifetimes = 1; outlives = []; params = shr_slice_of (0 ∷ []) tt (plain (λ _. R)) ∷ []; result = plain (λ _. Y) }

  abbrev slice : Ty
  slice = slice_ty (ty_ref (named 0) imm (pointee R.written))

  -- the locals: the result, table, a number, the test, the row, and what scan returns. kᵣ, kₗ, kₛ and k are the keys of refuse, load, scan and core
  abbrev pub work : Callee → Callee → Callee → Body
  work kₗ kₛ k = seq (call kₗ (copy (place 1 []) ∷ []) (place 4 []))
      (seq (call kₛ (copy (place 1 []) ∷ []) (place 5 []))
      (seq (call k (copy (place 4 []) ∷ copy (place 5 []) ∷ []) (place 0 [])) return))

  abbrev pub function : Callee → Callee → Callee → Callee → Fn
  function kᵣ kₗ kₛ k = record {
    lifetimes = 1;
    outlives = [];
    ty_params = [];
    givens = 0;
    params = 1;
    locals = local (ty PY) value_local ∷ local slice value_local ∷ local (ty_int w64) value_local ∷ local ty_bool value_local ∷ local (ty PR) value_local ∷ local (ty PD) value_local ∷ [];
    body = seq (assign (place 2 []) (rv_opd (copy (place 1 (field 1 ∷ [])))))
        (seq (assign (place 3 []) (op2 ne (copy (place 2 [])) (int w64 m)))
        (seq (cond (copy (place 3 [])) (seq (call kᵣ [] (place 0 [])) return) skip) (work kₗ kₛ k)));
  }

  abbrev pub ended : Ended
  ended = record { signature = signature; kept = (yes, tt) }

  abbrev pub stayed : Stays ended.signature.params ended.kept
  stayed = (stay_none_slice (0 ∷ []) tt (plain (λ _. R)) yes, tt)

  abbrev pub spec : {M : Type 1} (𝓤 : Ura M) → Clauses 𝓤 ended
  spec 𝓤 κs a = record { ghost = Unit {0}; requires = λ _. emp 𝓤; ensures = λ _ r _. fact 𝓤 (Φ a.0.now r) }

  module _ (small : T (ltb m (2 ^ 64))) (accepts : (ys : List R.Denot) → length ys ≡ m → Φ ys (f ys (sc ys))) (refuses : (ys : List R.Denot) → eqb (length ys) m ≡ false → Φ ys refused) where
    module _ {M : Type 1} {𝓤 : Ura M} (𝓛 : Logic 𝓤) (kᵣ kₗ kₛ k : Callee) where
      open 𝓛 use {H}

      module _ (κ : Lft) (q : Share) (b o : ℕ) (γ : GName) (ys : List R.Denot) (gn : Room R (length ys)) where
        abbrev n : ℕ
        n = length ys

        abbrev x : Bor (List R.Denot)
        x = record { ref_ptr = (b, o); now = ys }

        abbrev s : Val
        s = slice_val (b, o) n

        abbrev at : Vals signature (κ, tt)
        at = (s ∷ [], tt)

        abbrev bound : (walk_of 𝓛 ended stayed (spec 𝓤)).Ghost
        bound = (((κ, tt), (q, tt), tt, (x, tt), at), tt)

        abbrev Post : Val → SProp 𝓤
        Post = (walk_of 𝓛 ended stayed (spec 𝓤)).post bound

        -- the names under which the slice is held
        abbrev shared : Item 𝓤
        shared = ‵ (fhide (elements_shared R ys b o κ))

        abbrev fixed : Item 𝓤
        fixed = ‵ ftrue

        exits : (r : Y.Denot) → Is Y r (vals PY r) → Φ ys r → ent 𝓤 (⋆ 𝓛 (‵ (flft κ q) ∷ fixed ∷ shared ∷ [])) (Post (val PY r))
        exits r gr e =
            qed 𝓛 (‵ (flft κ q) ∷ fixed ∷ shared ∷ []) ∵
            suffices ! _ (ends_at 𝓛 ended stayed (spec 𝓤) bound (val PY r) r (tt, tt) (tt, tt)) $ says ! e $
            nothing ! $ move ! (1 ∷ 0 ∷ []) $ join ! $ frame ! $ keep ! (1 ∷ []) $ pure_i ! (shr_slice_at R x (s ∷ [])) (tt, (tt, tt)) (refl, gn) $ fjoin ! $ nothing ! $ move ! (1 ∷ 0 ∷ []) $ fjoin ! $ frame ! $
            owned ! Y (Is Y) (PY.makes M 𝓤 𝓛) r _ gr $ done !

        module _ (C : Calls 𝓤 H) (Λ : Loops 𝓤 H) (fm : FmC 𝓤 H 𝓛.laws C) (known-refuse : Triple 𝓤 (C kᵣ) (Value0 Y refused 𝓛)) (known-load : Triple 𝓤 (C kₗ) (ShrRow R Row Eight loaded 𝓛)) (known-scan : Triple 𝓤 (C kₛ) (AnyRow [] tt R D (λ κs ys a r. r ≡ sc ys) 𝓛)) (known : Triple 𝓤 (C k) (Value2 Row D Y f 𝓛)) where
          module _ (q' : Share) (l₀ l₁ l₂ l₃ l₄ l₅ : ℕ) where
            abbrev E : Env 𝓤 H
            E = (ty PY, l₀) ∷ (slice, l₁) ∷ (ty_int w64, l₂) ∷ (ty_bool, l₃) ∷ (ty PR, l₄) ∷ (ty PD, l₅) ∷ []

            -- the elements; what shuts the slice; the slice's borrow and name; and the locals, the last first
            abbrev Before : List (Item 𝓤)
            Before = ‵ (row R q' ys b o) ∷ Shut 𝓛 κ q (row R q' ys b o) ∷ shared ∷ fixed
                ∷ ‵ (froom (ty PD) l₅ 0) ∷ ‵ (fdies (ty PD) l₅) ∷ ‵ (froom (ty PR) l₄ 0) ∷ ‵ (fdies (ty PR) l₄) ∷ ‵ (froom ty_bool l₃ 0) ∷ ‵ (fdies ty_bool l₃) ∷ ‵ (froom (ty_int w64) l₂ 0) ∷ ‵ (fdies (ty_int w64) l₂)
                ∷ ‵ (fat full_share slice l₁ 0 s) ∷ ‵ (fdies slice l₁) ∷ ‵ (froom (ty PY) l₀ 0) ∷ ‵ (fdies (ty PY) l₀) ∷ []

            -- by how the test comes out
            body_on : (y : Bool) → eqb n m ≡ y → Sq 𝓛 Before (runs C Λ E (function kᵣ kₗ kₛ k).body (at_ret E Post))
            body_on false e =
                assigns ! (of_opd ! (load ! (from ! (fld ! refl (stop !))) (look_in ! 12 (sub ! 1 refl (whole !))))) (from ! (stop !)) (init ! 10 refl (tt, record { fits = gn.0 })) $
                assigns ! (bin ! (load ! (from ! (stop !)) (look ! 10 refl)) (lit ! small) tt) (from ! (stop !)) (init ! 8 refl (tt, tt)) $
                rewrite ! 8 (λ (z : Bool). ‵ (fat full_share ty_bool l₃ 0 (vbool (not z)))) e refl $
                first ! $ branches ! (load ! (from ! (stop !)) (look ! 8 refl))
                (λ _. calls0 ! fm Y refused known-refuse (no_more !) (λ v g. land ! (from ! (stop !)) (init ! 14 refl (fits_at PY 𝓛 refused v g)) $ rewrite ! 14 (λ (z : Val). ‵ (fat full_share (ty PY) l₀ 0 z)) (ap only (tells PY refused (v ∷ []) g)) refl $
                shuts_slice ! tt R q' ys b o $
                -- [the token; the fractured borrow; res; _5; …; _0; …]
                returns_within ! Post refl (look ! 13 refl) $ forget ! 7 refl $ forget ! 9 refl $ forget ! 11 refl $ forget ! 13 refl $
                keep ! (3 ∷ 4 ∷ 5 ∷ 6 ∷ 7 ∷ 8 ∷ 9 ∷ 10 ∷ 11 ∷ 12 ∷ 13 ∷ 14 ∷ 0 ∷ 2 ∷ 1 ∷ []) $ free_all ! E $ by ! (exits refused (told PY refused (v ∷ []) g) (refuses ys e))))
                (λ z. absurd z)
            body_on true e =
                assigns ! (of_opd ! (load ! (from ! (fld ! refl (stop !))) (look_in ! 12 (sub ! 1 refl (whole !))))) (from ! (stop !)) (init ! 10 refl (tt, record { fits = gn.0 })) $
                assigns ! (bin ! (load ! (from ! (stop !)) (look ! 10 refl)) (lit ! small) tt) (from ! (stop !)) (init ! 8 refl (tt, tt)) $
                rewrite ! 8 (λ (z : Bool). ‵ (fat full_share ty_bool l₃ 0 (vbool (not z)))) e refl $
                first ! $ branches ! (load ! (from ! (stop !)) (look ! 8 refl)) (λ z. absurd z) (λ _. skips ! $ exec ! C Λ E (work kₗ kₛ k) (at_ret E Post) $
                calls_shr ! fm R Row P Eight loaded known-load q' ys b o gn is_eight (λ i j. and_then ! (load ! (from ! (stop !)) (look ! 13 refl)) (no_more !)) (λ u gu.
                land ! (from ! (stop !)) (init ! 6 refl (fits_at PR 𝓛 ys u gu)) $ rewrite ! 6 (λ (z : Val). ‵ (fat full_share (ty PR) l₄ 0 z)) (ap only (tells PR ys (u ∷ []) gu)) refl $
                calls_any ! fm [] tt R D P (λ κs ys a r. r ≡ sc ys) known-scan q' ys b o gn (λ ν. tt) (λ ν. tt) (λ ν. id⊢ 𝓤 (emp 𝓤)) (λ ν i j. and_then ! (load ! (from ! (stop !)) (look ! 13 refl)) (no_more !)) (λ ν w d g e'.
                land ! (from ! (stop !)) (init ! 4 refl (fits_at PD 𝓛 (sc ys) w (scanned w d g e'))) $ rewrite ! 4 (λ (z : Val). ‵ (fat full_share (ty PD) l₅ 0 z)) (ap only (tells PD (sc ys) (w ∷ []) (scanned w d g e'))) refl $
                calls2 ! fm PR PD Y f known ys (val PR ys) (told PR ys (u ∷ []) gu) (sc ys) (val PD (sc ys)) (told PD (sc ys) (w ∷ []) (scanned w d g e')) (and_then ! (load ! (from ! (stop !)) (look ! 6 refl)) (and_then ! (load ! (from ! (stop !)) (look ! 4 refl)) (no_more !))) (λ v gv.
                land ! (from ! (stop !)) (init ! 14 refl (fits_at PY 𝓛 (f ys (sc ys)) v gv)) $ rewrite ! 14 (λ (z : Val). ‵ (fat full_share (ty PY) l₀ 0 z)) (ap only (tells PY (f ys (sc ys)) (v ∷ []) gv)) refl $
                shuts_slice ! tt R q' ys b o $
                returns ! (look ! 13 refl) $ forget ! 3 refl $ forget ! 5 refl $ forget ! 7 refl $ forget ! 9 refl $ forget ! 11 refl $ forget ! 13 refl $
                keep ! (3 ∷ 4 ∷ 5 ∷ 6 ∷ 7 ∷ 8 ∷ 9 ∷ 10 ∷ 11 ∷ 12 ∷ 13 ∷ 14 ∷ 0 ∷ 2 ∷ 1 ∷ []) $ free_all ! E $ by ! (exits (f ys (sc ys)) (told PY (f ys (sc ys)) (v ∷ []) gv) (accepts ys is_eight))))))
              where
                scanned : (w : Val) (d : D.Denot) → Is D d (w ∷ []) → d ≡ sc ys → Is D (sc ys) (w ∷ [])
                scanned w d g e' = subst (λ (z : D.Denot). Is D z (w ∷ [])) e' g

                is_eight : length ys ≡ m
                is_eight = eqb→eq n m (subst T (sym e) tt)

          walk : ent 𝓤 (on_entry 𝓛 signature (κ, tt) (q, tt) (x, tt) at) (WpFn 𝓤 H C Λ (function kᵣ kₗ kₛ k) (s ∷ []) Post)
          walk =
              qed 𝓛 ((‵ (flft κ q) ⊛ ‵ ftrue) ∷ ‵ (owns (ShrSlice (named 0) κ R ∷ []) (x, tt) at) ∷ []) ∵ enter ! C Λ (function kᵣ kₗ kₛ k) (s ∷ []) _ $
              alloc1 ! (λ l₀. alloc1 ! (λ l₁. alloc1 ! (λ l₂. alloc1 ! (λ l₃. alloc1 ! (λ l₄. alloc1 ! (λ l₅. alloc0 ! $ params1 ! $
              pass1 ! (init ! 8 refl (tt, (tt, (record { fits = gn.0 }, tt)))) $ pass0 ! $
              -- the slice is looked into
              move ! (13 ∷ []) $ fsplit ! $ fsplit ! $ nothing ! $ move ! (0 ∷ 2 ∷ []) $ move ! (16 ∷ []) $ split ! $ move ! (3 ∷ 0 ∷ []) $
              looks_slice ! tt R (P.copied M 𝓤 𝓛) ys b o (λ q'.
              keep ! (0 ∷ 1 ∷ 2 ∷ 4 ∷ 7 ∷ 8 ∷ 9 ∷ 10 ∷ 11 ∷ 12 ∷ 13 ∷ 14 ∷ 15 ∷ 16 ∷ 17 ∷ 18 ∷ []) $
              body_on q' l₀ l₁ l₂ l₃ l₄ l₅ (eqb n m) refl)))))))

      query_walks : (C : Calls 𝓤 H) (Λ : Loops 𝓤 H) → FmC 𝓤 H 𝓛.laws C → Triple 𝓤 (C kᵣ) (Value0 Y refused 𝓛) → Triple 𝓤 (C kₗ) (ShrRow R Row Eight loaded 𝓛) → Triple 𝓤 (C kₛ) (AnyRow [] tt R D (λ κs ys a r. r ≡ sc ys) 𝓛) → Triple 𝓤 (C k) (Value2 Row D Y f 𝓛) → Walks 𝓛 ended stayed (WpFn 𝓤 H C Λ (function kᵣ kₗ kₛ k)) (spec 𝓤)
      query_walks C Λ fm known-refuse known-load known-scan known = walked 𝓛 ended stayed (spec 𝓤) (WpFn 𝓤 H C Λ (function kᵣ kₗ kₛ k)) (λ κs. (shr_slice_vals, tt)) (λ κs. (shr_slice_Tells (named 0) κs.0 R, tt))
          (λ κs qs bounds a g are. via 𝓤 _ (fst∗ 𝓤 _ (emp 𝓤)) (walk κs.0 qs.0 a.0.ref_ptr.0 a.0.ref_ptr.1 0 a.0.now are.0.0.1 C Λ fm known-refuse known-load known-scan known))

      pub query_meets : (𝓣 : Tables 𝓤 H) → Triple 𝓤 (𝓣.C kᵣ) (Value0 Y refused 𝓛) → Triple 𝓤 (𝓣.C kₗ) (ShrRow R Row Eight loaded 𝓛) → Triple 𝓤 (𝓣.C kₛ) (AnyRow [] tt R D (λ κs ys a r. r ≡ sc ys) 𝓛) → Triple 𝓤 (𝓣.C k) (Value2 Row D Y f 𝓛) → Meets 𝓛 signature (WpFn 𝓤 H 𝓣.C 𝓣.Λ (function kᵣ kₗ kₛ k)) (closing 𝓛 ended (spec 𝓤))
      query_meets 𝓣 known-refuse known-load known-scan known = walk_Meets 𝓛 ended stayed (Goes-none_slice 𝓛 1 (0 ∷ []) tt (plain (λ _. R)) yes, tt) (spec 𝓤) (WpFn 𝓤 H 𝓣.C 𝓣.Λ (function kᵣ kₗ kₛ k)) (WpFn-mono 𝓤 H 𝓛.laws 𝓣 (function kᵣ kₗ kₛ k)) (query_walks 𝓣.C 𝓣.Λ (fm_of 𝓤 H 𝓛.laws 𝓣) known-refuse known-load known-scan known)
