-- `fn own_tick(t: [R; n], area: &[u8], image: &[u8], answer: &mut [u8], clock: X₁) -> S { let mut row = t; let o = g(&mut row, area, image, answer, clock); pair(o, row) }` at any plain R, Y, S and X₁ and any n, where g is a walked function over a lent row, at any contract of one fact, and pair a covered function whose contract says its result by f: a walk of its MIR.
-- The row is copied to a local, the local is lent to g (`RowOn`), and pair takes it as g left it. The other parameters go to g for good, at their own lifetimes.
--     Φ        what g's contract says of the row and the parameters at entry, of the row and of each `&mut [u8]` at exit, and of its result
--     Ψ        what the contract says of the row and the parameters at entry, of the result, and of each `&mut [u8]` at exit. It is asked of what Φ says
-- It says nothing of the crate, and can be copied as it stands. Assumes nothing.
use mathlib.Core.Path.{refl, ap}
use Prim.Native.Nat.{ℕ, ◌^◌}
use mathlib.Core.List.{List, [], ◌∷◌}
use lib.ListN.{length}
use lib.Dec.{T, ltb, lit<}
use seplogic.Ra.Ura.{Ura}
use base.Fraction.{full_share}
use mir.Syntax.{Callee, Ty, Fn, Mutability, named, erased, imm, mut, w8, w64, ty_int, ty_ref, deref, field, place, copy, int, local, value_local, memory_slot, seq, assign, call, return, rv_opd, aggregate, addr_of}
use mir.Val.{Val}
use base.Logic.{SProp, ent, emp, via, fst∗, id⊢}
use base.Fml.{fat}
use prog.Wp.{Calls, Loops, WpFn, Tables}
use types.Logic.{Logic}
use sound.WpLaws.{FmC, fm_of, WpFn-mono}
use types.Kit.{Item, ‵, raw, ⋆, ◌$◌, ◌∵◌, !, qed, by, move, keep, drop, rewrite, fsplit, fjoin, suffices, frame, done}
use types.Part.{whole, sub, look_in, agg}
use types.Run.{look, init, forget, stop, hop, fld, from, load, lit, of_opd, addr, and_then, no_more, land, assigns, returns, enter, alloc1, alloc0, params1, pass1, pass0}
use contract.Monad.{fact}
use contract.Lifetimes.{Lfts, Shares, toks}
use denote.Array.{Array}
use denote.Builtin.{u8}
use denote.Exit.{yes}
use denote.RattleType.{RattleType, Denots, Valss, owns}
use denote.Laws.{Is}
use denote.Memory.{pointee}
use denote.Ref.{Bor, MutBor}
use denote.Slice.{slice_ty, slice_val, Room, shr_slice_vals, mut_slice_vals, mut_slice_Tells, shr_slice_Tells}
use denote.Signature.{Signature, Slot, plain, mut_slice_of, shr_slice_of, types_at}
use denote.Triple.Entry.{Args, Vals, on_entry}
use denote.Steps.{only, owned}
use denote.Triple.Statement.{Triple}
use denote.Triple.Spec.{Meets}
use denote.Triple.End.{Kepts, Fins, Outs, lasts_of}
use denote.Triple.Clauses.{Clauses, Ended, closing}
use denote.Triple.Walked.{says, Stays, stay_none, walk_of, Walks, ends_at, walked, Goes-none, walk_Meets}
use Rattle.walks.proofs.Plain.{Plain, array, ty, val, vals, tells, told, fits, fits_at, rest, silent}
use Rattle.walks.proofs.ByValue.{Value2, calls2}
use Rattle.walks.proofs.Beside.{says_last, goes_last}
use Rattle.walks.proofs.RowOn.{RowOn, calls_row_on}
use Rattle.walks.proofs.Frees.{free_all}

module _ (R Y S X₁ : RattleType) (P : Plain R) (m : ℕ) (PY : Plain Y) (PS : Plain S) (PX₁ : Plain X₁) where
  -- what is said of the lists and of the plain values
  abbrev pub Of : Type 1 → Type 1
  Of D = List R.Denot → List ℕ → List ℕ → List ℕ → X₁.Denot → D

  -- the row by value
  abbrev Row : RattleType
  Row = Array R m

  abbrev PR : Plain Row
  PR = array P m

  -- what is taken beside the row, and the same behind the lent row
  abbrev pub rests : List (Slot 2)
  rests = shr_slice_of (0 ∷ []) tt (plain (λ _. u8)) ∷ shr_slice_of (0 ∷ []) tt (plain (λ _. u8)) ∷ mut_slice_of (1 ∷ []) tt (plain (λ _. u8)) ∷ plain (λ _. X₁) ∷ []

  abbrev pub behind : List (Slot 3)
  behind = shr_slice_of (1 ∷ []) tt (plain (λ _. u8)) ∷ shr_slice_of (1 ∷ []) tt (plain (λ _. u8)) ∷ mut_slice_of (2 ∷ []) tt (plain (λ _. u8)) ∷ plain (λ _. X₁) ∷ []

  abbrev pub keeps : Kepts rests
  keeps = (yes, (yes, (yes, (yes, tt))))

  abbrev pub keeps_behind : Kepts behind
  keeps_behind = (yes, (yes, (yes, (yes, tt))))

  abbrev pub signature : Signature
  signature = record { lifetimes = 2; outlives = []; params = plain (λ _. Row) ∷ rests; result = plain (λ _. S) }

  abbrev lent : ℕ → Mutability → Ty
  lent j μ = slice_ty (ty_ref (named j) μ (pointee u8.written))

  abbrev lent_ref : Ty
  lent_ref = ty_ref erased mut (pointee u8.written)

  abbrev whole_ref : Ty
  whole_ref = ty_ref erased mut (pointee Row.written)

  abbrev uniq : Ty
  uniq = ty_ref erased mut (pointee R.written)

  -- the locals: the result, t, area, image, answer, clock, row, o, `&mut row` and the slice of it, `&mut *answer` and the slice of it, and row as it is passed. k and kₚ are the keys of g and pair
  abbrev pub function : Callee → Callee → Fn
  function k kₚ = record {
    lifetimes = 2;
    outlives = [];
    ty_params = [];
    givens = 0;
    params = 5;
    locals = local (ty PS) value_local ∷ local (ty PR) value_local ∷ local (lent 0 imm) value_local ∷ local (lent 0 imm) value_local ∷ local (lent 1 mut) value_local ∷ local (ty PX₁) value_local ∷ local (ty PR) memory_slot ∷ local (ty PY) value_local ∷ local whole_ref value_local ∷ local (slice_ty uniq) value_local ∷ local lent_ref value_local ∷ local (slice_ty lent_ref) value_local ∷ local (ty PR) value_local ∷ [];
    body = seq (assign (place 6 []) (rv_opd (copy (place 1 []))))
        (seq (assign (place 8 []) (addr_of (place 6 [])))
        (seq (assign (place 9 []) (aggregate (copy (place 8 []) ∷ int w64 m ∷ [])))
        (seq (assign (place 10 []) (addr_of (place 4 (field 0 ∷ deref (ty_int w8) ∷ []))))
        (seq (assign (place 11 []) (aggregate (copy (place 10 []) ∷ copy (place 4 (field 1 ∷ [])) ∷ [])))
        (seq (call k (copy (place 9 []) ∷ copy (place 2 []) ∷ copy (place 3 []) ∷ copy (place 11 []) ∷ copy (place 5 []) ∷ []) (place 7 []))
        (seq (assign (place 12 []) (rv_opd (copy (place 6 []))))
        (seq (call kₚ (copy (place 7 []) ∷ copy (place 12 []) ∷ []) (place 0 [])) return)))))));
  }

  abbrev pub ended : Ended
  ended = record { signature = signature; kept = (yes, keeps) }

  abbrev pub stayed : Stays ended.signature.params ended.kept
  stayed = (stay_none (λ _. Row) yes, (says_last (shr_slice_of (0 ∷ []) tt (plain (λ _. u8))) yes, (says_last (shr_slice_of (0 ∷ []) tt (plain (λ _. u8))) yes, (says_last (mut_slice_of (1 ∷ []) tt (plain (λ _. u8))) yes, (says_last (plain (λ _. X₁)) yes, tt)))))

  -- what g's contract says
  module _ (Φ : Of (List R.Denot → List ℕ → Y.Denot → Type 0)) where
    abbrev pub lent_said : (κs : Lfts 3) → List R.Denot → Denots (types_at behind κs) → List R.Denot → Outs κs behind keeps_behind → Y.Denot → Type 0
    lent_said κs ys a zs e r = Φ ys a.0.now a.1.0.now a.1.1.0.now a.1.1.1.0 zs e.1.1.0.now r

    module _ (f : Y.Denot → List R.Denot → S.Denot) (Ψ : Of (S.Denot → List ℕ → Type 0)) where
      abbrev pub spec : {M : Type 1} (𝓤 : Ura M) → Clauses 𝓤 ended
      spec 𝓤 κs a = record { ghost = Unit {0}; requires = λ _. emp 𝓤; ensures = λ _ r e. fact 𝓤 (Ψ a.0 a.1.0.now a.1.1.0.now a.1.1.1.0.now a.1.1.1.1.0 r e.1.1.1.0.now) }

      module _ (small : T (ltb m (2 ^ 64))) (room : Room R m)
          (meant : (ys : List R.Denot) (area : List ℕ) (image : List ℕ) (answer : List ℕ) (clock : X₁.Denot) (zs : List R.Denot) (answer' : List ℕ) (r : Y.Denot) → Φ ys area image answer clock zs answer' r → Ψ ys area image answer clock (f r zs) answer')
          {M : Type 1} {𝓤 : Ura M} (𝓛 : Logic 𝓤) (k kₚ : Callee) where
        open 𝓛 use {H}

        module _ (κs : Lfts 2) (qs : Shares 2) (t : List R.Denot) (area : Bor (List ℕ)) (image : Bor (List ℕ)) (answer : MutBor (List ℕ)) (clock : X₁.Denot) (g-t : Is Row t (vals PR t)) where
          -- what is passed on, and its machine values
          abbrev on : Denots (types_at rests κs)
          on = (area, (image, (answer, (clock, tt))))

          abbrev ons : Valss (types_at rests κs)
          ons = (shr_slice_vals area, (shr_slice_vals image, (mut_slice_vals answer, (vals PX₁ clock, tt))))

          abbrev a : Args signature κs
          a = (t, on)

          abbrev at : Vals signature κs
          at = (vals PR t, ons)

          abbrev bound : (walk_of 𝓛 ended stayed (spec 𝓤)).Ghost
          bound = ((κs, qs, tt, a, at), tt)

          abbrev Post : Val → SProp 𝓤
          Post = (walk_of 𝓛 ended stayed (spec 𝓤)).post bound

          abbrev before : Item 𝓤
          before = ‵ (owns (types_at rests κs) on ons)

          abbrev after : Fins κs rests keeps on → Item 𝓤
          after ws = ‵ (lasts_of κs rests keeps on ws)

          exits : (s : S.Denot) (ws : Fins κs rests keeps on) → Is S s (vals PS s) → Ψ t area.now image.now answer.now clock s ws.1.1.0 → ent 𝓤 (⋆ 𝓛 (raw (toks 𝓛 2 κs qs) ∷ after ws ∷ [])) (Post (val PS s))
          exits s ws gs said =
              qed 𝓛 (raw (toks 𝓛 2 κs qs) ∷ after ws ∷ []) ∵ suffices ! _ (ends_at 𝓛 ended stayed (spec 𝓤) bound (val PS s) s (rest PR yes t, ws) (tt, (tt, (tt, (tt, (tt, tt)))))) $ says ! said $
              frame ! $ owned ! Row (Is Row) (PR.makes M 𝓤 𝓛) t _ g-t $ fjoin ! $ frame ! $ owned ! S (Is S) (PS.makes M 𝓤 𝓛) s _ gs $ done !

          module _ (C : Calls 𝓤 H) (Λ : Loops 𝓤 H) (fm : FmC 𝓤 H 𝓛.laws C) (known : Triple 𝓤 (C k) (RowOn 2 behind keeps_behind R Y lent_said 𝓛)) (known-pair : Triple 𝓤 (C kₚ) (Value2 Y Row S f 𝓛)) (g-area : Room u8 (length area.now)) (g-image : Room u8 (length image.now)) (g-answer : Room u8 (length answer.now)) (g-clock : Is X₁ clock (vals PX₁ clock)) where
            walk : ent 𝓤 (on_entry 𝓛 signature κs qs a at) (WpFn 𝓤 H C Λ (function k kₚ) (val PR t ∷ slice_val area.ref_ptr (length area.now) ∷ slice_val image.ref_ptr (length image.now) ∷ slice_val answer.ref_ptr (length answer.now) ∷ val PX₁ clock ∷ []) Post)
            walk =
                qed 𝓛 (raw (toks 𝓛 2 κs qs) ∷ ‵ (owns (types_at signature.params κs) a at) ∷ []) ∵ move ! (1 ∷ []) $ fsplit ! $ drop ! $ move ! (1 ∷ 0 ∷ []) $ enter ! C Λ (function k kₚ) (val PR t ∷ slice_val area.ref_ptr (length area.now) ∷ slice_val image.ref_ptr (length image.now) ∷ slice_val answer.ref_ptr (length answer.now) ∷ val PX₁ clock ∷ []) _ $
                alloc1 ! (λ l₀. alloc1 ! (λ l₁. alloc1 ! (λ l₂. alloc1 ! (λ l₃. alloc1 ! (λ l₄. alloc1 ! (λ l₅. alloc1 ! (λ l₆. alloc1 ! (λ l₇. alloc1 ! (λ l₈. alloc1 ! (λ l₉. alloc1 ! (λ l₁₀. alloc1 ! (λ l₁₁. alloc1 ! (λ l₁₂. alloc0 ! $ params1 ! $
                pass1 ! (init ! 22 refl (fits PR 𝓛 t g-t)) $ pass1 ! (init ! 20 refl ((tt, (tt, (record { fits = g-area.0 }, tt))))) $ pass1 ! (init ! 18 refl ((tt, (tt, (record { fits = g-image.0 }, tt))))) $ pass1 ! (init ! 16 refl ((tt, (tt, (record { fits = g-answer.0 }, tt))))) $ pass1 ! (init ! 14 refl (fits PX₁ 𝓛 clock g-clock)) $ pass0 ! $
                -- [room for _12; …; room for _0; …; the tokens; what is passed on]
                assigns ! (of_opd ! (load ! (from ! (stop !)) (look ! 22 refl))) (from ! (stop !)) (init ! 12 refl (fits PR 𝓛 t g-t)) $
                assigns ! (addr ! (from ! (stop !))) (from ! (stop !)) (init ! 8 refl (tt, tt)) $
                assigns ! (agg ! (and_then ! (load ! (from ! (stop !)) (look ! 8 refl)) (and_then ! (lit ! small) (no_more !)))) (from ! (stop !)) (init ! 6 refl (tt, (tt, (record { fits = lit< small }, tt)))) $
                assigns ! (addr ! (from ! (fld ! refl (hop ! (look_in ! 16 (sub ! 0 refl (whole !))) (stop !))))) (from ! (stop !)) (init ! 4 refl (tt, tt)) $
                assigns ! (agg ! (and_then ! (load ! (from ! (stop !)) (look ! 4 refl)) (and_then ! (load ! (from ! (fld ! refl (stop !))) (look_in ! 16 (sub ! 1 refl (whole !)))) (no_more !)))) (from ! (stop !)) (init ! 2 refl (tt, (tt, (record { fits = g-answer.0 }, tt)))) $
                move ! (12 ∷ 26 ∷ 27 ∷ []) $
                -- [row; the tokens; what is passed on; room for _12; …]
                calls_row_on ! fm 2 behind keeps_behind P m Y lent_said known κs qs t l₆ g-t room (λ ν. on) (λ ν. ons) before (λ ν. id⊢ 𝓤 _) (λ ν i j. (and_then ! (load ! (from ! (stop !)) (look ! 8 refl)) (and_then ! (load ! (from ! (stop !)) (look ! 21 refl)) (and_then ! (load ! (from ! (stop !)) (look ! 19 refl)) (and_then ! (load ! (from ! (stop !)) (look ! 4 refl)) (and_then ! (load ! (from ! (stop !)) (look ! 15 refl)) (no_more !))))))) (λ ν v zs r ws gz gr e.
                land ! (from ! (stop !)) (init ! 13 refl (fits_at PY 𝓛 r v gr)) $ rewrite ! 13 (λ (z : Val). ‵ (fat full_share (ty PY) l₇ 0 z)) (ap only (tells PY r (v ∷ []) gr)) refl $
                assigns ! (of_opd ! (load ! (from ! (stop !)) (look ! 0 refl))) (from ! (stop !)) (init ! 3 refl (fits PR 𝓛 zs gz)) $
                calls2 ! fm PY PR S f known-pair r (val PY r) (told PY r (v ∷ []) gr) zs (val PR zs) gz (and_then ! (load ! (from ! (stop !)) (look ! 13 refl)) (and_then ! (load ! (from ! (stop !)) (look ! 3 refl)) (no_more !))) (λ u gu.
                land ! (from ! (stop !)) (init ! 26 refl (fits_at PS 𝓛 (f r zs) u gu)) $ rewrite ! 26 (λ (z : Val). ‵ (fat full_share (ty PS) l₀ 0 z)) (ap only (tells PS (f r zs) (u ∷ []) gu)) refl $
                returns ! (look ! 26 refl) $ forget ! 26 refl $ forget ! 24 refl $ forget ! 22 refl $ forget ! 20 refl $ forget ! 18 refl $ forget ! 16 refl $ forget ! 0 refl $ forget ! 13 refl $ forget ! 11 refl $ forget ! 9 refl $ forget ! 7 refl $ forget ! 5 refl $ forget ! 3 refl $
                keep ! (3 ∷ 4 ∷ 5 ∷ 6 ∷ 7 ∷ 8 ∷ 9 ∷ 10 ∷ 11 ∷ 12 ∷ 13 ∷ 14 ∷ 0 ∷ 15 ∷ 16 ∷ 17 ∷ 18 ∷ 19 ∷ 20 ∷ 21 ∷ 22 ∷ 23 ∷ 24 ∷ 25 ∷ 26 ∷ 27 ∷ 1 ∷ 2 ∷ []) $ free_all ! ((ty PS, l₀) ∷ (ty PR, l₁) ∷ (lent 0 imm, l₂) ∷ (lent 0 imm, l₃) ∷ (lent 1 mut, l₄) ∷ (ty PX₁, l₅) ∷ (ty PR, l₆) ∷ (ty PY, l₇) ∷ (whole_ref, l₈) ∷ (slice_ty uniq, l₉) ∷ (lent_ref, l₁₀) ∷ (slice_ty lent_ref, l₁₁) ∷ (ty PR, l₁₂) ∷ []) $
                by ! (exits (f r zs) ws (told PS (f r zs) (u ∷ []) gu) (meant t area.now image.now answer.now clock zs ws.1.1.0 r e)))))))))))))))))

        own_tick_walks : (C : Calls 𝓤 H) (Λ : Loops 𝓤 H) → FmC 𝓤 H 𝓛.laws C → Triple 𝓤 (C k) (RowOn 2 behind keeps_behind R Y lent_said 𝓛) → Triple 𝓤 (C kₚ) (Value2 Y Row S f 𝓛) → Walks 𝓛 ended stayed (WpFn 𝓤 H C Λ (function k kₚ)) (spec 𝓤)
        own_tick_walks C Λ fm known known-pair = walked 𝓛 ended stayed (spec 𝓤) (WpFn 𝓤 H C Λ (function k kₚ)) (λ κs. (vals PR, (shr_slice_vals, (shr_slice_vals, (mut_slice_vals, (vals PX₁, tt)))))) (λ κs. (tells PR, (shr_slice_Tells (named 0) κs.0 u8, (shr_slice_Tells (named 0) κs.0 u8, (mut_slice_Tells (named 1) κs.1.0 u8, (tells PX₁, tt))))))
            (λ κs qs bounds a g are. via 𝓤 _ (fst∗ 𝓤 _ (emp 𝓤)) (walk κs qs a.0 a.1.0 a.1.1.0 a.1.1.1.0 a.1.1.1.1.0 are.0 C Λ fm known known-pair are.1.0.0.1 are.1.1.0.0.1 are.1.1.1.0.0.1 are.1.1.1.1.0))

        pub own_tick_meets : (𝓣 : Tables 𝓤 H) → Triple 𝓤 (𝓣.C k) (RowOn 2 behind keeps_behind R Y lent_said 𝓛) → Triple 𝓤 (𝓣.C kₚ) (Value2 Y Row S f 𝓛) → Meets 𝓛 signature (WpFn 𝓤 H 𝓣.C 𝓣.Λ (function k kₚ)) (closing 𝓛 ended (spec 𝓤))
        own_tick_meets 𝓣 known known-pair = walk_Meets 𝓛 ended stayed (Goes-none 𝓛 2 (λ _. Row) yes (λ κs y f. silent PR yes y f), (goes_last 𝓛 2 (shr_slice_of (0 ∷ []) tt (plain (λ _. u8))) yes, (goes_last 𝓛 2 (shr_slice_of (0 ∷ []) tt (plain (λ _. u8))) yes, (goes_last 𝓛 2 (mut_slice_of (1 ∷ []) tt (plain (λ _. u8))) yes, (goes_last 𝓛 2 (plain (λ _. X₁)) yes, tt))))) (spec 𝓤)
            (WpFn 𝓤 H 𝓣.C 𝓣.Λ (function k kₚ)) (WpFn-mono 𝓤 H 𝓛.laws 𝓣 (function k kₚ)) (own_tick_walks 𝓣.C 𝓣.Λ (fm_of 𝓤 H 𝓛.laws 𝓣) known known-pair)
