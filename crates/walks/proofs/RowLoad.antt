-- `fn load(t: &[R]) -> [R; n] { let mut row = blank(); let mut i = 0; while i < t.len() { row[i] = t[i]; i += 1; } row }` at any plain R and any n, where blank is a covered function: a walk of its MIR, with the loop.
-- The slice is looked into once, before the loop, and shut once, after it. The row's elements lie side by side in the local (`LocalLend`). At i they are the first i elements of the slice, and then those of the blank row, z.
--     d      any value of R: an element past the end, which nothing reads
-- It says nothing of the crate, and can be copied as it stands. Assumes nothing.
use mathlib.Core.Path.{◌≡◌, refl, sym, ◌∙◌, ap, subst}
use Prim.Native.Nat.{ℕ, ◌+◌, ◌-◌, ◌<◌, ◌≤◌, ◌^◌}
use native.Mathlib.Omega.{arith}
use mathlib.Core.Bool.{Bool, true, false, not}
use mathlib.Core.List.{List, [], ◌∷◌}
use mathlib.Core.WellFounded.InvImage
use lib.WfN.{lt-wf_rel}
use lib.ListN.{length, get_or}
use lib.Dec.{T, ltb, ltb→lt, nltb→le, lit<}
use seplogic.Ra.Ura.{Ura}
use base.Fraction.{full_share}
use mir.Syntax.{Callee, Ty, Fn, Body, named, imm, w64, ty_int, ty_bool, ty_ptr, ty_ref, deref, field, place, copy, int, local, value_local, memory_slot, unsigned, skip, seq, assign, block, loop, cond, exit, call, return, rv_opd, addr_of, op2, add, mul, lt, offset}
use mir.Val.{vbool, vint, vptr, Val}
use base.Logic.{SProp, ent}
use base.Fml.{Lft, GName, Share, ftrue, fat, froom, fdies, flft, fhide}
use prog.Wp.{Env, Calls, Loops, Wp, WpFn, Tables, after_seq, after_block, after_turn, at_return}
use types.Logic.{Logic}
use sound.WpLaws.{FmC, fm_of, WpFn-mono}
use types.Kit as Kit
use types.Kit.{Item, Sq, runs, any_q, at_ret, ‵, ◌⊛◌, ⋆, ◌$◌, ◌∵◌, !, qed, by, move, keep, drop, split, join, rewrite, fsplit, fjoin, suffices, frame, done}
use types.Part.{whole, sub, look_in}
use types.Run.{look, look_raw, init, store, store_raw, forget, stop, hop, fld, from, load, lit, of_opd, bin, addr, no_more, land, assigns, assigns_last, first, blocks, stays, leaves_loop, exec, Below, again, loops, returns, enter, alloc1, alloc0, params1, pass1, pass0}
use contract.Monad.{fact}
use denote.Array.{Array}
use denote.Exit.{yes}
use denote.RattleType.{RattleType, owns}
use denote.Shadow.{pure_i}
use denote.Laws.{Is, shows}
use denote.Memory.{mem, pointee}
use denote.Ref.{Bor}
use denote.Slice.{slice_ty, slice_val, ShrSlice, Room, shr_slice_vals, shr_slice_Tells, shr_slice_at, elements_shared}
use denote.Opens.{Shut}
use denote.Index.{place as place_of, place_is, row, elem_out, elem_back, elem_put, looks_slice, shuts_slice}
use denote.Signature.{Signature, plain, shr_slice_of}
use denote.Triple.Entry.{Vals, on_entry}
use denote.Steps.{only, nothing, owned}
use denote.Triple.Statement.{Triple}
use denote.Triple.Spec.{Meets}
use denote.Triple.Clauses.{Clauses, Ended, closing}
use denote.Triple.Walked.{says, needs, Stays, stay_none_slice, walk_of, Walks, ends_at, walked, Goes-none_slice, walk_Meets}
use Rattle.walks.proofs.Plain.{Plain, array, ty, val, vals, tells, told, fits, fits_at, bares, wraps}
use Rattle.walks.proofs.ByValue.{Value0, calls0}
use Rattle.walks.proofs.LocalLend.{row_in, row_back}
use Rattle.walks.proofs.Frees.{free_all}
use Rattle.walks.proofs.Lists.{part, put_next, put_all, put_length, below}

module _ (R : RattleType) (P : Plain R) (d : R.Denot) (m : ℕ) (z : List R.Denot) where
  -- the row by value
  abbrev B : RattleType
  B = Array R m

  abbrev PB : Plain B
  PB = array P m

  abbrev pub signature : Signature
  signature = record { lifetimes = 1; outlives = []; params = shr_slice_of (0 ∷ []) tt (plain (λ _. R)) ∷ []; result = plain (λ _. B) }

  -- the size of an element
  abbrev pub size : ℕ
  size = (mem R).size

  -- the locals: the result, t, row, i, the blank row, a number, the test, the place of `t[i]`, what is read there, a number, the place of row, and that of `row[i]`. k is blank's key
  abbrev pub more : Body
  more = seq (assign (place 5 []) (op2 (mul unsigned) (copy (place 3 [])) (int w64 size)))
      (seq (assign (place 7 []) (op2 offset (copy (place 1 (field 0 ∷ []))) (copy (place 5 []))))
      (seq (assign (place 8 []) (rv_opd (copy (place 7 (deref (ty P) ∷ [])))))
      (seq (assign (place 9 []) (op2 (mul unsigned) (copy (place 3 [])) (int w64 size)))
      (seq (assign (place 10 []) (addr_of (place 2 [])))
      (seq (assign (place 11 []) (op2 offset (copy (place 10 [])) (copy (place 9 []))))
      (seq (assign (place 11 (deref (ty P) ∷ [])) (rv_opd (copy (place 8 []))))
      (assign (place 3 []) (op2 (add unsigned) (copy (place 3 [])) (int w64 1)))))))))

  abbrev pub turn : Body
  turn = seq (assign (place 5 []) (rv_opd (copy (place 1 (field 1 ∷ [])))))
      (seq (assign (place 6 []) (op2 (lt unsigned) (copy (place 3 [])) (copy (place 5 []))))
      (seq (cond (copy (place 6 [])) skip (exit 1)) more))

  abbrev pub after : Body
  after = seq (assign (place 0 []) (rv_opd (copy (place 2 [])))) return

  abbrev pub function : Callee → Fn
  function k = record {
    lifetimes = 1;
    outlives = [];
    ty_params = [];
    givens = 0;
    params = 1;
    locals = local (ty PB) value_local ∷ local (slice_ty (ty_ref (named 0) imm (pointee R.written))) value_local ∷ local (ty PB) memory_slot ∷ local (ty_int w64) value_local ∷ local (ty PB) value_local ∷ local (ty_int w64) value_local ∷ local ty_bool value_local ∷ local ty_ptr value_local ∷ local (ty P) value_local ∷ local (ty_int w64) value_local ∷ local ty_ptr value_local ∷ local ty_ptr value_local ∷ [];
    body = seq (call k [] (place 4 [])) (seq (assign (place 2 []) (rv_opd (copy (place 4 [])))) (seq (assign (place 3 []) (rv_opd (int w64 0))) (seq (block (loop turn)) after)));
  }

  abbrev pub ended : Ended
  ended = record { signature = signature; kept = (yes, tt) }

  abbrev pub stayed : Stays ended.signature.params ended.kept
  stayed = (stay_none_slice (0 ∷ []) tt (plain (λ _. R)) yes, tt)

  abbrev pub spec : {M : Type 1} (𝓤 : Ura M) → Clauses 𝓤 ended
  spec 𝓤 κs a = record { ghost = Unit {0}; requires = λ _. fact 𝓤 (length a.0.now ≡ m); ensures = λ _ r _. fact 𝓤 (r ≡ a.0.now) }

  -- where the loop stands in a slice of ys
  pub record State (ys : List R.Denot) : Type 0 where
    pub i : ℕ
    pub within : i ≤ length ys

  -- what is left of ys falls with each turn
  abbrev less : (ys : List R.Denot) → State ys → State ys → Type 0
  less ys s t = length ys - s.i < length ys - t.i

  module _ (small : T (ltb size (2 ^ 64))) (full : length z ≡ m) where
    module _ {M : Type 1} {𝓤 : Ura M} (𝓛 : Logic 𝓤) (k : Callee) where
      open 𝓛 use {H}

      module _ (κ : Lft) (q : Share) (b o : ℕ) (γ : GName) (ys : List R.Denot) (gn : Room R (length ys)) (len : length ys ≡ m) where
        abbrev n : ℕ
        n = length ys

        abbrev x : Bor (List R.Denot)
        x = record { ref_ptr = (b, o); now = ys }

        abbrev s : Val
        s = slice_val (b, o) n

        abbrev at : Vals signature (κ, tt)
        at = (s ∷ [], tt)

        abbrev bound : (walk_of 𝓛 ended stayed (spec 𝓤)).Ghost
        bound = (((κ, tt), (q, tt), tt, (x, tt), at), tt)

        abbrev Post : Val → SProp 𝓤
        Post = (walk_of 𝓛 ended stayed (spec 𝓤)).post bound

        -- the names under which the slice is held
        abbrev shared : Item 𝓤
        shared = ‵ (fhide (elements_shared R ys b o κ))

        abbrev fixed : Item 𝓤
        fixed = ‵ ftrue

        exits : (r : B.Denot) → Is B r (vals PB r) → r ≡ ys → ent 𝓤 (⋆ 𝓛 (‵ (flft κ q) ∷ fixed ∷ shared ∷ [])) (Post (val PB r))
        exits r gr e =
            qed 𝓛 (‵ (flft κ q) ∷ fixed ∷ shared ∷ []) ∵
            suffices ! _ (ends_at 𝓛 ended stayed (spec 𝓤) bound (val PB r) r (tt, tt) (tt, tt)) $ says ! e $
            nothing ! $ move ! (1 ∷ 0 ∷ []) $ join ! $ frame ! $ drop ! $ pure_i ! (shr_slice_at R x (s ∷ [])) (tt, (tt, tt)) (refl, gn) $ fjoin ! $ nothing ! $ move ! (1 ∷ 0 ∷ []) $ fjoin ! $ frame ! $
            owned ! B (Is B) (PB.makes M 𝓤 𝓛) r _ gr $ done !

        -- the row stays as long as it is
        row_length : (t : State ys) → length (part ys z t.i) ≡ length z
        row_length t = put_length ys z t.i t.within (subst (λ (j : ℕ). t.i ≤ j) (len ∙ sym full) t.within)

        module _ (𝓣 : Tables 𝓤 H) (q' : Share) (l₀ l₁ l₂ l₃ l₄ l₅ l₆ l₇ l₈ l₉ l₁₀ l₁₁ : ℕ) where
          abbrev C : Calls 𝓤 H
          C = 𝓣.C

          abbrev Λ : Loops 𝓤 H
          Λ = 𝓣.Λ

          abbrev slice : Ty
          slice = slice_ty (ty_ref (named 0) imm (pointee R.written))

          abbrev E : Env 𝓤 H
          E = (ty PB, l₀) ∷ (slice, l₁) ∷ (ty PB, l₂) ∷ (ty_int w64, l₃) ∷ (ty PB, l₄) ∷ (ty_int w64, l₅) ∷ (ty_bool, l₆) ∷ (ty_ptr, l₇) ∷ (ty P, l₈) ∷ (ty_int w64, l₉) ∷ (ty_ptr, l₁₀) ∷ (ty_ptr, l₁₁) ∷ []

          -- the context at the loop's head: the elements; what shuts the slice; the slice's borrow and name; the row's elements; and the locals, the last first
          abbrev Inv : State ys → List (Item 𝓤)
          Inv t = ‵ (row R q' ys b o) ∷ Shut 𝓛 κ q (row R q' ys b o) ∷ shared ∷ fixed ∷ ‵ (row R full_share (part ys z t.i) l₂ 0)
              ∷ ‵ (froom ty_ptr l₁₁ 0) ∷ ‵ (fdies ty_ptr l₁₁) ∷ ‵ (froom ty_ptr l₁₀ 0) ∷ ‵ (fdies ty_ptr l₁₀) ∷ ‵ (froom (ty_int w64) l₉ 0) ∷ ‵ (fdies (ty_int w64) l₉) ∷ ‵ (froom (ty P) l₈ 0) ∷ ‵ (fdies (ty P) l₈)
              ∷ ‵ (froom ty_ptr l₇ 0) ∷ ‵ (fdies ty_ptr l₇) ∷ ‵ (froom ty_bool l₆ 0) ∷ ‵ (fdies ty_bool l₆) ∷ ‵ (froom (ty_int w64) l₅ 0) ∷ ‵ (fdies (ty_int w64) l₅) ∷ ‵ (froom (ty PB) l₄ 0) ∷ ‵ (fdies (ty PB) l₄)
              ∷ ‵ (fat full_share (ty_int w64) l₃ 0 (vint w64 t.i)) ∷ ‵ (fdies (ty_int w64) l₃) ∷ ‵ (fdies (ty PB) l₂) ∷ ‵ (fat full_share slice l₁ 0 s) ∷ ‵ (fdies slice l₁) ∷ ‵ (froom (ty PB) l₀ 0) ∷ ‵ (fdies (ty PB) l₀) ∷ []

          -- what is to hold where the loop is left
          abbrev Left : Kit.Post 𝓤 H
          Left = any_q (after_block 𝓤 H (after_seq 𝓤 H (Wp 𝓤 H C Λ E after (at_return 𝓤 H E Post)) (at_return 𝓤 H E Post)))

          abbrev Turned : State ys → Kit.Post 𝓤 H
          Turned t = any_q (after_turn 𝓤 H (Below 𝓛 (less ys) Inv t) (Kit.post 𝓤 H Left))

          -- the state after one more element
          next : (t : State ys) → t.i < n → State ys
          next t l = record { i = t.i + 1; within = omega arith }

          -- a turn, by how its test comes out
          turn_on : (t : State ys) (y : Bool) → ltb t.i n ≡ y → Sq 𝓛 (Inv t) (runs C Λ E turn (Turned t))
          unfolding after_turn next
          turn_on t true e =
              let l : t.i < n = ltb→lt t.i n (subst T (sym e) tt) in
              let elem : R.Denot = get_or ys t.i d in
              let here : List R.Denot = part ys z t.i in
              assigns ! (of_opd ! (load ! (from ! (fld ! refl (stop !))) (look_in ! 24 (sub ! 1 refl (whole !))))) (from ! (stop !)) (init ! 17 refl (tt, record { fits = gn.0 })) $
              assigns ! (bin ! (load ! (from ! (stop !)) (look ! 21 refl)) (load ! (from ! (stop !)) (look ! 17 refl)) tt) (from ! (stop !)) (init ! 15 refl (tt, tt)) $
              rewrite ! 15 (λ (z : Bool). ‵ (fat full_share ty_bool l₆ 0 (vbool z))) e refl $ stays ! (load ! (from ! (stop !)) (look ! 15 refl)) $
              assigns ! (bin ! (load ! (from ! (stop !)) (look ! 21 refl)) (lit ! small) (record { fits = below t.i n size l gn.1 })) (from ! (stop !)) (store ! 17 refl (tt, record { fits = below t.i n size l gn.1 })) $
              assigns ! (bin ! (load ! (from ! (fld ! refl (stop !))) (look_in ! 24 (sub ! 0 refl (whole !)))) (load ! (from ! (stop !)) (look ! 17 refl)) tt) (from ! (stop !)) (init ! 13 refl (tt, tt)) $
              rewrite ! 13 (λ (p : ℕ). ‵ (fat full_share ty_ptr l₇ 0 (vptr b p))) (sym (place_is size o t.i)) refl $
              -- element i is taken out of the slice, read, and put back
              elem_out ! R (Is R) (shows 𝓛 R) (vals P) (tells P) q' ys t.i d b o l (λ g. bares ! P q' elem b (place_of size o t.i) $
              assigns ! (of_opd ! (load ! (from ! (hop ! (look ! 15 refl) (stop !))) (look_raw ! 0 refl))) (from ! (stop !)) (init ! 13 refl (fits P 𝓛 elem g)) $
              wraps ! P q' (val P elem) b (place_of size o t.i) $ elem_back ! R q' ys t.i d (vals P elem) b o l $
              assigns ! (bin ! (load ! (from ! (stop !)) (look ! 21 refl)) (lit ! small) (record { fits = below t.i n size l gn.1 })) (from ! (stop !)) (init ! 9 refl (tt, record { fits = below t.i n size l gn.1 })) $
              assigns ! (addr ! (from ! (stop !))) (from ! (stop !)) (init ! 7 refl (tt, tt)) $
              assigns ! (bin ! (load ! (from ! (stop !)) (look ! 7 refl)) (load ! (from ! (stop !)) (look ! 9 refl)) tt) (from ! (stop !)) (init ! 5 refl (tt, tt)) $
              rewrite ! 5 (λ (p : ℕ). ‵ (fat full_share ty_ptr l₁₁ 0 (vptr l₂ p))) (sym (place_is size 0 t.i)) refl $
              -- element i is taken out of the row, and another is put in its place
              move ! (4 ∷ []) $ elem_out ! R (Is R) (shows 𝓛 R) (vals P) (tells P) full_share here t.i d l₂ 0 (inside l) (λ _. bares ! P full_share (get_or here t.i d) l₂ (place_of size 0 t.i) $
              assigns ! (of_opd ! (load ! (from ! (stop !)) (look ! 13 refl))) (from ! (hop ! (look ! 7 refl) (stop !))) (store_raw ! 0 refl (fits P 𝓛 elem g)) $
              wraps ! P full_share (val P elem) l₂ (place_of size 0 t.i) $ move ! (1 ∷ []) $ drop ! $ owned ! R (Is R) (P.makes M 𝓤 𝓛) elem (vals P elem) g $ move ! (1 ∷ 0 ∷ []) $
              elem_put ! R full_share here t.i elem (vals P elem) l₂ 0 (inside l) $ rewrite ! 0 (λ (r : List R.Denot). ‵ (row R full_share r l₂ 0)) (put_next ys z t.i d l (as_long l)) refl $ move ! (1 ∷ 2 ∷ 3 ∷ 4 ∷ 0 ∷ []) $
              assigns_last ! (bin ! (load ! (from ! (stop !)) (look ! 21 refl)) (lit ! tt) (record { fits = fits_next l })) (from ! (stop !)) (store ! 21 refl (tt, record { fits = fits_next l })) $
              forget ! 5 refl $ forget ! 7 refl $ forget ! 9 refl $ forget ! 11 refl $ forget ! 13 refl $ forget ! 15 refl $ forget ! 17 refl $ again ! (less ys) Inv t (next t l) (fewer l)))
            where
              fits_next : t.i < n → t.i + 1 < 2 ^ 64
              fits_next l = omega (arith, gn.0)

              fewer : t.i < n → n - (t.i + 1) < n - t.i
              fewer l = omega arith

              as_long : t.i < n → t.i < length z
              as_long l = subst (λ (j : ℕ). t.i < j) (len ∙ sym full) l

              inside : t.i < n → t.i < length (part ys z t.i)
              inside l = subst (λ (j : ℕ). t.i < j) (sym (row_length t)) (as_long l)
          turn_on t false e =
              assigns ! (of_opd ! (load ! (from ! (fld ! refl (stop !))) (look_in ! 24 (sub ! 1 refl (whole !))))) (from ! (stop !)) (init ! 17 refl (tt, record { fits = gn.0 })) $
              assigns ! (bin ! (load ! (from ! (stop !)) (look ! 21 refl)) (load ! (from ! (stop !)) (look ! 17 refl)) tt) (from ! (stop !)) (init ! 15 refl (tt, tt)) $
              rewrite ! 15 (λ (z : Bool). ‵ (fat full_share ty_bool l₆ 0 (vbool z))) e refl $ leaves_loop ! (load ! (from ! (stop !)) (look ! 15 refl)) $ exec ! C Λ E after (at_ret E Post) $
              move ! (4 ∷ []) $ row_back ! P m (part ys z t.i) l₂ (row_length t ∙ full) (λ g.
              assigns ! (of_opd ! (load ! (from ! (stop !)) (look ! 0 refl))) (from ! (stop !)) (init ! 26 refl (fits PB 𝓛 (part ys z t.i) g)) $
              move ! (1 ∷ 2 ∷ 3 ∷ 4 ∷ []) $ shuts_slice ! tt R q' ys b o $
              -- [the token; the fractured borrow; res; _2; _11; …; _3; …; _1; …; _0; …]
              returns ! (look ! 25 refl) $ forget ! 3 refl $ forget ! 14 refl $ forget ! 16 refl $ forget ! 20 refl $ forget ! 23 refl $ forget ! 25 refl $
              keep ! (4 ∷ 5 ∷ 6 ∷ 7 ∷ 8 ∷ 9 ∷ 10 ∷ 11 ∷ 12 ∷ 13 ∷ 14 ∷ 15 ∷ 16 ∷ 17 ∷ 18 ∷ 19 ∷ 20 ∷ 21 ∷ 3 ∷ 22 ∷ 23 ∷ 24 ∷ 25 ∷ 26 ∷ 0 ∷ 2 ∷ 1 ∷ []) $ free_all ! E $ by ! (exits (part ys z t.i) g all_seen))
            where
              past : n ≤ t.i
              past = nltb→le t.i n (subst (λ (z : Bool). T (not z)) (sym e) tt)

              all_seen : part ys z t.i ≡ ys
              all_seen = put_all ys z t.i past (subst (λ (j : ℕ). j ≤ t.i) (len ∙ sym full) past)

        begin : State ys
        begin = record { i = 0; within = omega arith }

        walk : (𝓣 : Tables 𝓤 H) → FmC 𝓤 H 𝓛.laws 𝓣.C → Triple 𝓤 (𝓣.C k) (Value0 B z 𝓛) → ent 𝓤 (on_entry 𝓛 signature (κ, tt) (q, tt) (x, tt) at) (WpFn 𝓤 H 𝓣.C 𝓣.Λ (function k) (s ∷ []) Post)
        unfolding begin
        walk 𝓣 fm known =
            qed 𝓛 ((‵ (flft κ q) ⊛ ‵ ftrue) ∷ ‵ (owns (ShrSlice (named 0) κ R ∷ []) (x, tt) at) ∷ []) ∵ enter ! 𝓣.C 𝓣.Λ (function k) (s ∷ []) _ $
            alloc1 ! (λ l₀. alloc1 ! (λ l₁. alloc1 ! (λ l₂. alloc1 ! (λ l₃. alloc1 ! (λ l₄. alloc1 ! (λ l₅. alloc1 ! (λ l₆. alloc1 ! (λ l₇. alloc1 ! (λ l₈. alloc1 ! (λ l₉. alloc1 ! (λ l₁₀. alloc1 ! (λ l₁₁. alloc0 ! $ params1 ! $
            pass1 ! (init ! 20 refl (tt, (tt, (record { fits = gn.0 }, tt)))) $ pass0 ! $
            calls0 ! fm B z known (no_more !) (λ v gz. land ! (from ! (stop !)) (init ! 14 refl (fits_at PB 𝓛 z v gz)) $
            rewrite ! 14 (λ (u : Val). ‵ (fat full_share (ty PB) l₄ 0 u)) (ap only (tells PB z (v ∷ []) gz)) refl $
            assigns ! (of_opd ! (load ! (from ! (stop !)) (look ! 14 refl))) (from ! (stop !)) (init ! 18 refl (fits PB 𝓛 z (told PB z (v ∷ []) gz))) $
            assigns ! (of_opd ! (lit ! tt)) (from ! (stop !)) (init ! 16 refl (tt, record { fits = lit< tt })) $
            forget ! 14 refl $ move ! (18 ∷ []) $ row_in ! P m z l₂ (told PB z (v ∷ []) gz) (λ _.
            -- the slice is looked into
            move ! (25 ∷ []) $ fsplit ! $ fsplit ! $ nothing ! $ move ! (0 ∷ 2 ∷ []) $ move ! (28 ∷ []) $ split ! $ move ! (3 ∷ 0 ∷ []) $
            looks_slice ! tt R (P.copied M 𝓤 𝓛) ys b o (λ q'. first ! $ blocks ! $
            keep ! (0 ∷ 1 ∷ 2 ∷ 4 ∷ 7 ∷ 8 ∷ 9 ∷ 10 ∷ 11 ∷ 12 ∷ 13 ∷ 14 ∷ 15 ∷ 16 ∷ 17 ∷ 18 ∷ 19 ∷ 20 ∷ 21 ∷ 22 ∷ 23 ∷ 24 ∷ 25 ∷ 26 ∷ 27 ∷ 28 ∷ 29 ∷ 30 ∷ []) $
            loops ! 𝓣 (less ys) (InvImage.wf (λ (t : State ys). n - t.i) lt-wf_rel.wf) (Inv 𝓣 q' l₀ l₁ l₂ l₃ l₄ l₅ l₆ l₇ l₈ l₉ l₁₀ l₁₁) (λ t. turn_on 𝓣 q' l₀ l₁ l₂ l₃ l₄ l₅ l₆ l₇ l₈ l₉ l₁₀ l₁₁ t (ltb t.i n) refl) begin)))))))))))))))

      load_walks : (𝓣 : Tables 𝓤 H) → FmC 𝓤 H 𝓛.laws 𝓣.C → Triple 𝓤 (𝓣.C k) (Value0 B z 𝓛) → Walks 𝓛 ended stayed (WpFn 𝓤 H 𝓣.C 𝓣.Λ (function k)) (spec 𝓤)
      load_walks 𝓣 fm known = walked 𝓛 ended stayed (spec 𝓤) (WpFn 𝓤 H 𝓣.C 𝓣.Λ (function k)) (λ κs. (shr_slice_vals, tt)) (λ κs. (shr_slice_Tells (named 0) κs.0 R, tt))
          (λ κs qs bounds a g are. needs 𝓤 (length a.0.now ≡ m) _ (λ len. walk κs.0 qs.0 a.0.ref_ptr.0 a.0.ref_ptr.1 0 a.0.now are.0.0.1 len 𝓣 fm known))

      pub load_meets : (𝓣 : Tables 𝓤 H) → Triple 𝓤 (𝓣.C k) (Value0 B z 𝓛) → Meets 𝓛 signature (WpFn 𝓤 H 𝓣.C 𝓣.Λ (function k)) (closing 𝓛 ended (spec 𝓤))
      load_meets 𝓣 known = walk_Meets 𝓛 ended stayed (Goes-none_slice 𝓛 1 (0 ∷ []) tt (plain (λ _. R)) yes, tt) (spec 𝓤) (WpFn 𝓤 H 𝓣.C 𝓣.Λ (function k)) (WpFn-mono 𝓤 H 𝓛.laws 𝓣 (function k)) (load_walks 𝓣 (fm_of 𝓤 H 𝓛.laws 𝓣) known)
