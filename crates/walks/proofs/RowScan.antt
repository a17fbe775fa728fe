-- `fn scan(t: &[R]) -> B { let mut best = INIT; let mut i = 0; while i < t.len() { best = g(best, t[i]); i += 1; } best }` at any plain R and B, where g is a covered function whose contract says its result by f: a walk of its MIR, with the loop.
-- The slice is looked into once, before the loop, and shut once, after it. The loop's state has its facts with it: how far the scan is, the best so far, and that scanning the rest from it comes to the same.
--     fold             what the contract says: any function with fold b [] ≡ b and fold b (c ∷ cs) ≡ fold (f b c) cs
--     rv, made         INIT, and that it evaluates to init's machine value in every context.        d      any value of R: an element past the end, which nothing reads
-- It says nothing of the crate, and can be copied as it stands. Assumes nothing.
use mathlib.Core.Path.{◌≡◌, refl, sym, ◌∙◌, ap, subst}
use Prim.Native.Nat.{ℕ, suc, ◌+◌, ◌-◌, ◌<◌, ◌≤◌, ◌^◌}
use native.Mathlib.Numerals.{add-one}
use native.Mathlib.Omega.{arith}
use mathlib.Core.Bool.{Bool, true, false, not}
use mathlib.Core.List.{List, [], ◌∷◌}
use mathlib.Core.WellFounded.InvImage
use lib.WfN.{lt-wf_rel}
use lib.ListN.{length, get_or, drop, drop_of_length-le}
use lib.Seq.{drop-cons}
use lib.Dec.{T, ltb, ltb→lt, nltb→le, lit<}
use seplogic.Ra.Ura.{Ura}
use base.Fraction.{full_share}
use mir.Syntax.{Callee, Ty, Fn, Body, Rv, named, imm, w64, ty_int, ty_bool, ty_ptr, ty_ref, deref, field, place, copy, int, local, value_local, unsigned, skip, seq, assign, block, loop, cond, exit, call, return, rv_opd, op2, add, mul, lt, offset}
use mir.Val.{vbool, vint, vptr, Val}
use base.Logic.{SProp, ent, emp, via, fst∗}
use base.Fml.{Lft, GName, Share, ftrue, fat, froom, fdies, flft, fhide}
use prog.Wp.{Env, Calls, Loops, Wp, WpFn, Tables, after_seq, after_block, after_turn, at_return}
use types.Logic.{Logic}
use sound.WpLaws.{FmC, fm_of, WpFn-mono}
use types.Kit as Kit
use types.Kit.{Go, Item, Sq, runs, any_q, at_ret, ‵, ◌⊛◌, ⋆, ◌$◌, ◌∵◌, !, qed, by, move, keep, split, join, rewrite, fsplit, fjoin, suffices, frame, done}
use types.Part.{whole, sub, look_in}
use types.Run as Run
use types.Run.{look, look_raw, init, store, forget, stop, hop, fld, from, load, lit, of_opd, bin, and_then, no_more, land, assigns, assigns_last, first, blocks, stays, leaves_loop, exec, Below, again, loops, returns, enter, alloc1, alloc0, params1, pass1, pass0, free1, free0}
use contract.Monad.{fact}
use denote.Exit.{yes}
use denote.RattleType.{RattleType, owns}
use denote.Shadow.{pure_i}
use denote.Laws.{Is, shows}
use denote.Memory.{mem, pointee}
use denote.Ref.{Bor}
use denote.Slice.{slice_ty, slice_val, ShrSlice, Room, shr_slice_vals, shr_slice_Tells, shr_slice_at, elements_shared}
use denote.Opens.{Shut}
use denote.Index.{place as place_of, place_is, row, elem_out, elem_back, looks_slice, shuts_slice}
use denote.Signature.{Signature, plain, shr_slice_of}
use denote.Triple.Entry.{Vals, on_entry}
use denote.Steps.{only, nothing, owned}
use denote.Triple.Statement.{Triple}
use denote.Triple.Spec.{Meets}
use denote.Triple.Clauses.{Clauses, Ended, closing}
use denote.Triple.Walked.{says, Stays, stay_none_slice, walk_of, Walks, ends_at, walked, Goes-none_slice, walk_Meets}
use Rattle.walks.proofs.Plain.{Plain, ty, val, vals, tells, told, fits, fits_at, bares, wraps}
use Rattle.walks.proofs.ByValue.{Value2, calls2}
use Rattle.walks.proofs.Lists.{below}

module _ (R B : RattleType) (P : Plain R) (PB : Plain B) (d : R.Denot) (f : B.Denot → R.Denot → B.Denot) (rv : Rv) (start : B.Denot) (fold : B.Denot → List R.Denot → B.Denot) where
  abbrev pub signature : Signature
  signature = record { lifetimes = 1; outlives = []; params = shr_slice_of (0 ∷ []) tt (plain (λ _. R)) ∷ []; result = plain (λ _. B) }

  -- the size of an element
  abbrev pub size : ℕ
  size = (mem R).size

  -- the locals: the result, t, best, i, a number, the test, the place of `t[i]`, and what is read there. k is g's key
  abbrev pub more : Callee → Body
  more k = seq (assign (place 4 []) (op2 (mul unsigned) (copy (place 3 [])) (int w64 size)))
      (seq (assign (place 6 []) (op2 offset (copy (place 1 (field 0 ∷ []))) (copy (place 4 []))))
      (seq (assign (place 7 []) (rv_opd (copy (place 6 (deref (ty P) ∷ [])))))
      (seq (call k (copy (place 2 []) ∷ copy (place 7 []) ∷ []) (place 2 []))
      (assign (place 3 []) (op2 (add unsigned) (copy (place 3 [])) (int w64 1))))))

  abbrev pub turn : Callee → Body
  turn k = seq (assign (place 4 []) (rv_opd (copy (place 1 (field 1 ∷ [])))))
      (seq (assign (place 5 []) (op2 (lt unsigned) (copy (place 3 [])) (copy (place 4 []))))
      (seq (cond (copy (place 5 [])) skip (exit 1)) (more k)))

  abbrev pub after : Body
  after = seq (assign (place 0 []) (rv_opd (copy (place 2 [])))) return

  abbrev pub function : Callee → Fn
  function k = record {
    lifetimes = 1;
    outlives = [];
    ty_params = [];
    givens = 0;
    params = 1;
    locals = local (ty PB) value_local ∷ local (slice_ty (ty_ref (named 0) imm (pointee R.written))) value_local ∷ local (ty PB) value_local ∷ local (ty_int w64) value_local ∷ local (ty_int w64) value_local ∷ local ty_bool value_local ∷ local ty_ptr value_local ∷ local (ty P) value_local ∷ [];
    body = seq (assign (place 2 []) rv) (seq (assign (place 3 []) (rv_opd (int w64 0))) (seq (block (loop (turn k))) after));
  }

  abbrev pub ended : Ended
  ended = record { signature = signature; kept = (yes, tt) }

  abbrev pub stayed : Stays ended.signature.params ended.kept
  stayed = (stay_none_slice (0 ∷ []) tt (plain (λ _. R)) yes, tt)

  abbrev pub spec : {M : Type 1} (𝓤 : Ura M) → Clauses 𝓤 ended
  spec 𝓤 κs a = record { ghost = Unit {0}; requires = λ _. emp 𝓤; ensures = λ _ r _. fact 𝓤 (r ≡ fold start a.0.now) }

  -- where the loop stands in a scan of ys, with what is known there
  pub record State (ys : List R.Denot) : Type 0 where
    pub i : ℕ
    pub best : B.Denot
    pub within : i ≤ length ys
    pub best_is : Is B best (vals PB best)
    pub so_far : fold best (drop i ys) ≡ fold start ys

  -- what is left of ys falls with each turn
  abbrev less : (ys : List R.Denot) → State ys → State ys → Type 0
  less ys s t = length ys - s.i < length ys - t.i

  module _ (small : T (ltb size (2 ^ 64))) (start_is : Is B start (vals PB start)) (none : (b : B.Denot) → fold b [] ≡ b) (one_more : (b : B.Denot) (c : R.Denot) (cs : List R.Denot) → fold b (c ∷ cs) ≡ fold (f b c) cs) where
    module _ {M : Type 1} {𝓤 : Ura M} (𝓛 : Logic 𝓤) (made : (Γ : List (Item 𝓤)) (E : Env 𝓤 𝓛.H) → Run.Rv (Go {0}) 𝓛 Γ E rv (val PB start)) (k : Callee) where
      open 𝓛 use {H}

      module _ (κ : Lft) (q : Share) (b o : ℕ) (γ : GName) (ys : List R.Denot) (gn : Room R (length ys)) where
        abbrev n : ℕ
        n = length ys

        abbrev x : Bor (List R.Denot)
        x = record { ref_ptr = (b, o); now = ys }

        abbrev s : Val
        s = slice_val (b, o) n

        abbrev at : Vals signature (κ, tt)
        at = (s ∷ [], tt)

        abbrev bound : (walk_of 𝓛 ended stayed (spec 𝓤)).Ghost
        bound = (((κ, tt), (q, tt), tt, (x, tt), at), tt)

        abbrev Post : Val → SProp 𝓤
        Post = (walk_of 𝓛 ended stayed (spec 𝓤)).post bound

        -- the names under which the slice is held
        abbrev shared : Item 𝓤
        shared = ‵ (fhide (elements_shared R ys b o κ))

        abbrev fixed : Item 𝓤
        fixed = ‵ ftrue

        exits : (r : B.Denot) → Is B r (vals PB r) → r ≡ fold start ys → ent 𝓤 (⋆ 𝓛 (‵ (flft κ q) ∷ fixed ∷ shared ∷ [])) (Post (val PB r))
        exits r gr e =
            qed 𝓛 (‵ (flft κ q) ∷ fixed ∷ shared ∷ []) ∵
            suffices ! _ (ends_at 𝓛 ended stayed (spec 𝓤) bound (val PB r) r (tt, tt) (tt, tt)) $ says ! e $
            nothing ! $ move ! (1 ∷ 0 ∷ []) $ join ! $ frame ! $ keep ! (1 ∷ []) $ pure_i ! (shr_slice_at R x (s ∷ [])) (tt, (tt, tt)) (refl, gn) $ fjoin ! $ nothing ! $ move ! (1 ∷ 0 ∷ []) $ fjoin ! $ frame ! $
            owned ! B (Is B) (PB.makes M 𝓤 𝓛) r _ gr $ done !

        module _ (𝓣 : Tables 𝓤 H) (fm : FmC 𝓤 H 𝓛.laws 𝓣.C) (known : Triple 𝓤 (𝓣.C k) (Value2 B R B f 𝓛)) (q' : Share) (l₀ l₁ l₂ l₃ l₄ l₅ l₆ l₇ : ℕ) where
          abbrev C : Calls 𝓤 H
          C = 𝓣.C

          abbrev Λ : Loops 𝓤 H
          Λ = 𝓣.Λ

          abbrev slice : Ty
          slice = slice_ty (ty_ref (named 0) imm (pointee R.written))

          abbrev E : Env 𝓤 H
          E = (ty PB, l₀) ∷ (slice, l₁) ∷ (ty PB, l₂) ∷ (ty_int w64, l₃) ∷ (ty_int w64, l₄) ∷ (ty_bool, l₅) ∷ (ty_ptr, l₆) ∷ (ty P, l₇) ∷ []

          -- the context at the loop's head: the elements; what shuts the slice; the slice's borrow and name; and the locals, the last first
          abbrev Inv : State ys → List (Item 𝓤)
          Inv t = ‵ (row R q' ys b o) ∷ Shut 𝓛 κ q (row R q' ys b o) ∷ shared ∷ fixed
              ∷ ‵ (froom (ty P) l₇ 0) ∷ ‵ (fdies (ty P) l₇) ∷ ‵ (froom ty_ptr l₆ 0) ∷ ‵ (fdies ty_ptr l₆) ∷ ‵ (froom ty_bool l₅ 0) ∷ ‵ (fdies ty_bool l₅) ∷ ‵ (froom (ty_int w64) l₄ 0) ∷ ‵ (fdies (ty_int w64) l₄)
              ∷ ‵ (fat full_share (ty_int w64) l₃ 0 (vint w64 t.i)) ∷ ‵ (fdies (ty_int w64) l₃) ∷ ‵ (fat full_share (ty PB) l₂ 0 (val PB t.best)) ∷ ‵ (fdies (ty PB) l₂)
              ∷ ‵ (fat full_share slice l₁ 0 s) ∷ ‵ (fdies slice l₁) ∷ ‵ (froom (ty PB) l₀ 0) ∷ ‵ (fdies (ty PB) l₀) ∷ []

          -- what is to hold where the loop is left
          abbrev Left : Kit.Post 𝓤 H
          Left = any_q (after_block 𝓤 H (after_seq 𝓤 H (Wp 𝓤 H C Λ E after (at_return 𝓤 H E Post)) (at_return 𝓤 H E Post)))

          abbrev Turned : State ys → Kit.Post 𝓤 H
          Turned t = any_q (after_turn 𝓤 H (Below 𝓛 (less ys) Inv t) (Kit.post 𝓤 H Left))

          -- the state after one more element
          next : (t : State ys) → t.i < n → Is B (f t.best (get_or ys t.i d)) (vals PB (f t.best (get_or ys t.i d))) → State ys
          next t l g = record {
            i = t.i + 1;
            best = f t.best (get_or ys t.i d);
            within = omega arith;
            best_is = g;
            so_far = ap (λ (j : ℕ). fold (f t.best (get_or ys t.i d)) (drop j ys)) (add-one t.i) ∙ sym (one_more t.best (get_or ys t.i d) (drop (suc t.i) ys)) ∙ ap (fold t.best) (sym (drop-cons ys t.i d l)) ∙ t.so_far;
          }

          -- a turn, by how its test comes out
          turn_on : (t : State ys) (y : Bool) → ltb t.i n ≡ y → Sq 𝓛 (Inv t) (runs C Λ E (turn k) (Turned t))
          unfolding after_turn next
          turn_on t true e =
              let l : t.i < n = ltb→lt t.i n (subst T (sym e) tt) in
              let elem : R.Denot = get_or ys t.i d in
              assigns ! (of_opd ! (load ! (from ! (fld ! refl (stop !))) (look_in ! 16 (sub ! 1 refl (whole !))))) (from ! (stop !)) (init ! 10 refl (tt, record { fits = gn.0 })) $
              assigns ! (bin ! (load ! (from ! (stop !)) (look ! 12 refl)) (load ! (from ! (stop !)) (look ! 10 refl)) tt) (from ! (stop !)) (init ! 8 refl (tt, tt)) $
              rewrite ! 8 (λ (z : Bool). ‵ (fat full_share ty_bool l₅ 0 (vbool z))) e refl $ stays ! (load ! (from ! (stop !)) (look ! 8 refl)) $
              assigns ! (bin ! (load ! (from ! (stop !)) (look ! 12 refl)) (lit ! small) (record { fits = below t.i n size l gn.1 })) (from ! (stop !)) (store ! 10 refl (tt, record { fits = below t.i n size l gn.1 })) $
              assigns ! (bin ! (load ! (from ! (fld ! refl (stop !))) (look_in ! 16 (sub ! 0 refl (whole !)))) (load ! (from ! (stop !)) (look ! 10 refl)) tt) (from ! (stop !)) (init ! 6 refl (tt, tt)) $
              rewrite ! 6 (λ (p : ℕ). ‵ (fat full_share ty_ptr l₆ 0 (vptr b p))) (sym (place_is size o t.i)) refl $
              -- element i is taken out of the row, read, and put back
              elem_out ! R (Is R) (shows 𝓛 R) (vals P) (tells P) q' ys t.i d b o l (λ g. bares ! P q' elem b (place_of size o t.i) $
              assigns ! (of_opd ! (load ! (from ! (hop ! (look ! 8 refl) (stop !))) (look_raw ! 0 refl))) (from ! (stop !)) (init ! 6 refl (fits P 𝓛 elem g)) $
              wraps ! P q' (val P elem) b (place_of size o t.i) $ elem_back ! R q' ys t.i d (vals P elem) b o l $
              calls2 ! fm PB P B f known t.best (val PB t.best) t.best_is elem (val P elem) g (and_then ! (load ! (from ! (stop !)) (look ! 14 refl)) (and_then ! (load ! (from ! (stop !)) (look ! 4 refl)) (no_more !))) (λ v gv.
              land ! (from ! (stop !)) (store ! 14 refl (fits_at PB 𝓛 (f t.best elem) v gv)) $
              rewrite ! 14 (λ (u : Val). ‵ (fat full_share (ty PB) l₂ 0 u)) (ap only (tells PB (f t.best elem) (v ∷ []) gv)) refl $
              assigns_last ! (bin ! (load ! (from ! (stop !)) (look ! 12 refl)) (lit ! tt) (record { fits = fits_next l })) (from ! (stop !)) (store ! 12 refl (tt, record { fits = fits_next l })) $
              forget ! 4 refl $ forget ! 6 refl $ forget ! 8 refl $ forget ! 10 refl $ again ! (less ys) Inv t (next t l (told PB (f t.best elem) (v ∷ []) gv)) (fewer l)))
            where
              fits_next : t.i < n → t.i + 1 < 2 ^ 64
              fits_next l = omega (arith, gn.0)

              fewer : t.i < n → n - (t.i + 1) < n - t.i
              fewer l = omega arith
          turn_on t false e =
              assigns ! (of_opd ! (load ! (from ! (fld ! refl (stop !))) (look_in ! 16 (sub ! 1 refl (whole !))))) (from ! (stop !)) (init ! 10 refl (tt, record { fits = gn.0 })) $
              assigns ! (bin ! (load ! (from ! (stop !)) (look ! 12 refl)) (load ! (from ! (stop !)) (look ! 10 refl)) tt) (from ! (stop !)) (init ! 8 refl (tt, tt)) $
              rewrite ! 8 (λ (z : Bool). ‵ (fat full_share ty_bool l₅ 0 (vbool z))) e refl $ leaves_loop ! (load ! (from ! (stop !)) (look ! 8 refl)) $ exec ! C Λ E after (at_ret E Post) $
              assigns ! (of_opd ! (load ! (from ! (stop !)) (look ! 14 refl))) (from ! (stop !)) (init ! 18 refl (fits PB 𝓛 t.best t.best_is)) $
              shuts_slice ! tt R q' ys b o $
              -- [the token; the fractured borrow; res; _7; …; _6; …; _5; …; _4; …; _3; …; _2; …; _1; …; _0; …]
              returns ! (look ! 17 refl) $ forget ! 7 refl $ forget ! 9 refl $ forget ! 11 refl $ forget ! 13 refl $ forget ! 15 refl $ forget ! 17 refl $
              move ! (17 ∷ 18 ∷ []) $ free1 ! $ move ! (15 ∷ 16 ∷ []) $ free1 ! $ move ! (13 ∷ 14 ∷ []) $ free1 ! $ move ! (11 ∷ 12 ∷ []) $ free1 ! $ move ! (9 ∷ 10 ∷ []) $ free1 ! $ move ! (7 ∷ 8 ∷ []) $ free1 ! $ move ! (5 ∷ 6 ∷ []) $ free1 ! $ move ! (3 ∷ 4 ∷ []) $ free1 ! $ free0 ! $
              keep ! (0 ∷ 2 ∷ 1 ∷ []) $ by ! (exits t.best t.best_is all_seen)
            where
              past : n ≤ t.i
              past = nltb→le t.i n (subst (λ (z : Bool). T (not z)) (sym e) tt)

              all_seen : t.best ≡ fold start ys
              all_seen = sym (ap (fold t.best) (drop_of_length-le ys past) ∙ none t.best) ∙ t.so_far

        begin : State ys
        begin = record { i = 0; best = start; within = omega arith; best_is = start_is; so_far = refl }

        walk : (𝓣 : Tables 𝓤 H) → FmC 𝓤 H 𝓛.laws 𝓣.C → Triple 𝓤 (𝓣.C k) (Value2 B R B f 𝓛) → ent 𝓤 (on_entry 𝓛 signature (κ, tt) (q, tt) (x, tt) at) (WpFn 𝓤 H 𝓣.C 𝓣.Λ (function k) (s ∷ []) Post)
        unfolding begin
        walk 𝓣 fm known =
            qed 𝓛 ((‵ (flft κ q) ⊛ ‵ ftrue) ∷ ‵ (owns (ShrSlice (named 0) κ R ∷ []) (x, tt) at) ∷ []) ∵ enter ! 𝓣.C 𝓣.Λ (function k) (s ∷ []) _ $
            alloc1 ! (λ l₀. alloc1 ! (λ l₁. alloc1 ! (λ l₂. alloc1 ! (λ l₃. alloc1 ! (λ l₄. alloc1 ! (λ l₅. alloc1 ! (λ l₆. alloc1 ! (λ l₇. alloc0 ! $ params1 ! $
            pass1 ! (init ! 12 refl (tt, (tt, (record { fits = gn.0 }, tt)))) $ pass0 ! $
            assigns ! (made _ _) (from ! (stop !)) (init ! 10 refl (fits PB 𝓛 start start_is)) $
            assigns ! (of_opd ! (lit ! tt)) (from ! (stop !)) (init ! 8 refl (tt, record { fits = lit< tt })) $
            -- the slice is looked into
            move ! (17 ∷ []) $ fsplit ! $ fsplit ! $ nothing ! $ move ! (0 ∷ 2 ∷ []) $ move ! (20 ∷ []) $ split ! $ move ! (3 ∷ 0 ∷ []) $
            looks_slice ! tt R (P.copied M 𝓤 𝓛) ys b o (λ q'. first ! $ blocks ! $
            keep ! (0 ∷ 1 ∷ 2 ∷ 4 ∷ 7 ∷ 8 ∷ 9 ∷ 10 ∷ 11 ∷ 12 ∷ 13 ∷ 14 ∷ 15 ∷ 16 ∷ 17 ∷ 18 ∷ 19 ∷ 20 ∷ 21 ∷ 22 ∷ []) $
            loops ! 𝓣 (less ys) (InvImage.wf (λ (t : State ys). n - t.i) lt-wf_rel.wf) (Inv 𝓣 fm known q' l₀ l₁ l₂ l₃ l₄ l₅ l₆ l₇) (λ t. turn_on 𝓣 fm known q' l₀ l₁ l₂ l₃ l₄ l₅ l₆ l₇ t (ltb t.i n) refl) begin)))))))))

      pub scan_walks : (𝓣 : Tables 𝓤 H) → FmC 𝓤 H 𝓛.laws 𝓣.C → Triple 𝓤 (𝓣.C k) (Value2 B R B f 𝓛) → Walks 𝓛 ended stayed (WpFn 𝓤 H 𝓣.C 𝓣.Λ (function k)) (spec 𝓤)
      scan_walks 𝓣 fm known = walked 𝓛 ended stayed (spec 𝓤) (WpFn 𝓤 H 𝓣.C 𝓣.Λ (function k)) (λ κs. (shr_slice_vals, tt)) (λ κs. (shr_slice_Tells (named 0) κs.0 R, tt))
          (λ κs qs bounds a g are. via 𝓤 _ (fst∗ 𝓤 _ (emp 𝓤)) (walk κs.0 qs.0 a.0.ref_ptr.0 a.0.ref_ptr.1 0 a.0.now are.0.0.1 𝓣 fm known))

      pub scan_meets : (𝓣 : Tables 𝓤 H) → Triple 𝓤 (𝓣.C k) (Value2 B R B f 𝓛) → Meets 𝓛 signature (WpFn 𝓤 H 𝓣.C 𝓣.Λ (function k)) (closing 𝓛 ended (spec 𝓤))
      scan_meets 𝓣 known = walk_Meets 𝓛 ended stayed (Goes-none_slice 𝓛 1 (0 ∷ []) tt (plain (λ _. R)) yes, tt) (spec 𝓤) (WpFn 𝓤 H 𝓣.C 𝓣.Λ (function k)) (WpFn-mono 𝓤 H 𝓛.laws 𝓣 (function k)) (scan_walks 𝓣 (fm_of 𝓤 H 𝓛.laws 𝓣) known)
