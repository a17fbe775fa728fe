-- `fn save(t: &mut [R], row: [R; n]) { let mut i = 0; while i < t.len() { t[i] = row[i]; i += 1; } }` at any plain R and any n: a walk of its MIR, with the loop.
-- The slice is opened once, before the loop, and closed once, after it. The row's elements lie side by side in the local (`LocalLend`). At i the slice's are the first i of the row, and then those that it had.
--     d      any value of R: an element past the end, which nothing reads
-- It says nothing of the crate, and can be copied as it stands. Assumes nothing.
use mathlib.Core.Path.{◌≡◌, refl, sym, ◌∙◌, ap, subst}
use Prim.Native.Nat.{ℕ, ◌+◌, ◌-◌, ◌<◌, ◌≤◌, ◌^◌}
use native.Mathlib.Omega.{arith}
use mathlib.Core.Bool.{Bool, true, false, not}
use mathlib.Core.List.{List, [], ◌∷◌}
use mathlib.Core.WellFounded.InvImage
use lib.WfN.{lt-wf_rel}
use lib.ListN.{length, get_or}
use lib.Dec.{T, ltb, ltb→lt, nltb→le, lit<}
use seplogic.Ra.Ura.{Ura}
use base.Fraction.{full_share}
use mir.Syntax.{Ty, Fn, Body, named, mut, w64, ty_unit, ty_int, ty_bool, ty_ptr, ty_ref, deref, field, place, copy, int, opd_unit, local, value_local, memory_slot, unsigned, skip, seq, assign, block, loop, cond, exit, return, rv_opd, addr_of, op2, add, mul, lt, offset}
use mir.Val.{vunit, vbool, vint, vptr, Val}
use base.Logic.{SProp, ent}
use base.Fml.{Lft, GName, Share, ftrue, fat, froom, fdies, flft, fobs, fauth, fbor, fobor}
use prog.Wp.{Env, Calls, Loops, Wp, WpFn, Tables, after_seq, after_block, after_turn, at_return}
use types.Logic.{Logic}
use sound.WpLaws.{WpFn-mono}
use types.Kit as Kit
use types.Kit.{Item, Sq, runs, any_q, at_ret, ‵, ◌⊛◌, ⋆, ◌$◌, ◌∵◌, !, qed, by, move, keep, drop, split, join, rewrite, fsplit, fjoin, feq_i, suffices, frame, done}
use types.Part.{whole, sub, look_in}
use types.Run.{look, look_raw, init, store, store_raw, forget, stop, hop, fld, from, load, lit, unit_lit, of_opd, bin, addr, assigns, assigns_last, first, blocks, stays, leaves_loop, exec, Below, again, loops, returns, enter, alloc1, alloc0, params1, pass1, pass0}
use contract.Monad.{fact}
use denote.Array.{Array}
use denote.Builtin.{unit}
use denote.Exit.{yes}
use denote.RattleType.{RattleType, owns}
use denote.Shadow.{pure_i}
use denote.Laws.{Is, shows}
use denote.Memory.{mem, pointee}
use denote.Ref.{MutBor}
use denote.Slice.{slice_ty, slice_val, MutSlice, Room, mut_slice_vals, mut_slice_Tells, heres, coded_holeys, mut_slice_at}
use denote.Lend.{Held}
use denote.Index.{place as place_of, place_is, row, elem_out, elem_back, elem_put, opens_slice, closes_slice}
use denote.Signature.{Signature, plain, mut_slice_of}
use denote.Triple.Entry.{Vals, on_entry}
use denote.Steps.{nothing, owned}
use denote.Triple.Spec.{Meets}
use denote.Triple.Clauses.{Clauses, Ended, closing}
use denote.Triple.Walked.{says, needs, Stays, stay_slice, stay_none, walk_of, Walks, ends_at, walked, Goes-slice, Goes-none, walk_Meets}
use Rattle.walks.proofs.Plain.{Plain, array, ty, val, vals, tells, fits, bares, wraps, rest, silent}
use Rattle.walks.proofs.LocalLend.{row_in, row_back}
use Rattle.walks.proofs.Frees.{free_all}
use Rattle.walks.proofs.Lists.{part, put_next, put_length, put_all, below}

module _ (R : RattleType) (P : Plain R) (d : R.Denot) (m : ℕ) where
  -- the row by value
  abbrev B : RattleType
  B = Array R m

  abbrev PB : Plain B
  PB = array P m

  abbrev pub signature : Signature
  signature = record { lifetimes = 1; outlives = []; params = mut_slice_of (0 ∷ []) tt (plain (λ _. R)) ∷ plain (λ _. B) ∷ []; result = plain (λ _. unit) }

  -- the size of an element
  abbrev pub size : ℕ
  size = (mem R).size

  -- the locals: the result, t, row, row where it is read, i, a number, the test, the place of row and that of `row[i]`, what is stored, a number, and the place of `t[i]`
  abbrev pub turn : Body
  turn = seq (assign (place 5 []) (rv_opd (copy (place 1 (field 1 ∷ [])))))
      (seq (assign (place 6 []) (op2 (lt unsigned) (copy (place 4 [])) (copy (place 5 []))))
      (seq (cond (copy (place 6 [])) skip (exit 1))
      (seq (assign (place 5 []) (op2 (mul unsigned) (copy (place 4 [])) (int w64 size)))
      (seq (assign (place 7 []) (addr_of (place 3 [])))
      (seq (assign (place 8 []) (op2 offset (copy (place 7 [])) (copy (place 5 []))))
      (seq (assign (place 9 []) (rv_opd (copy (place 8 (deref (ty P) ∷ [])))))
      (seq (assign (place 10 []) (op2 (mul unsigned) (copy (place 4 [])) (int w64 size)))
      (seq (assign (place 11 []) (op2 offset (copy (place 1 (field 0 ∷ []))) (copy (place 10 []))))
      (seq (assign (place 11 (deref (ty P) ∷ [])) (rv_opd (copy (place 9 []))))
      (assign (place 4 []) (op2 (add unsigned) (copy (place 4 [])) (int w64 1))))))))))))

  abbrev pub after : Body
  after = seq (assign (place 0 []) (rv_opd opd_unit)) return

  abbrev pub function : Fn
  function = record {
    lifetimes = 1;
    outlives = [];
    ty_params = [];
    givens = 0;
    params = 2;
    locals = local ty_unit value_local ∷ local (slice_ty (ty_ref (named 0) mut (pointee R.written))) value_local ∷ local (ty PB) value_local ∷ local (ty PB) memory_slot ∷ local (ty_int w64) value_local ∷ local (ty_int w64) value_local ∷ local ty_bool value_local ∷ local ty_ptr value_local ∷ local ty_ptr value_local ∷ local (ty P) value_local ∷ local (ty_int w64) value_local ∷ local ty_ptr value_local ∷ [];
    body = seq (assign (place 3 []) (rv_opd (copy (place 2 [])))) (seq (assign (place 4 []) (rv_opd (int w64 0))) (seq (block (loop turn)) after));
  }

  abbrev pub ended : Ended
  ended = record { signature = signature; kept = (yes, (yes, tt)) }

  abbrev pub stayed : Stays ended.signature.params ended.kept
  stayed = (stay_slice (0 ∷ []) tt (plain (λ _. R)), (stay_none (λ _. B) yes, tt))

  abbrev pub spec : {M : Type 1} (𝓤 : Ura M) → Clauses 𝓤 ended
  spec 𝓤 κs a = record { ghost = Unit {0}; requires = λ _. fact 𝓤 (length a.0.now ≡ m); ensures = λ _ r e. fact 𝓤 (e.0.now ≡ a.1.0) }

  -- where the loop stands in a slice of ys
  pub record State (ys : List R.Denot) : Type 0 where
    pub i : ℕ
    pub within : i ≤ length ys

  -- what is left of ys falls with each turn
  abbrev less : (ys : List R.Denot) → State ys → State ys → Type 0
  less ys s t = length ys - s.i < length ys - t.i

  module _ (small : T (ltb size (2 ^ 64))) where
    module _ {M : Type 1} {𝓤 : Ura M} (𝓛 : Logic 𝓤) where
      open 𝓛 use {H}

      module _ (κ : Lft) (q : Share) (b o : ℕ) (γ : GName) (ys zs : List R.Denot) (gn : Room R (length ys)) (gz : Is B zs (vals PB zs)) (len : length ys ≡ m) where
        abbrev n : ℕ
        n = length ys

        -- the row is as long as the slice
        same : length zs ≡ n
        same = gz.1.0.1 ∙ sym len

        abbrev x : List R.Denot → MutBor (List R.Denot)
        x l = record { ref_ptr = (b, o); ghost_name = γ; now = l }

        abbrev s : Val
        s = slice_val (b, o) n

        abbrev a : MutBor (List R.Denot) × (List R.Denot × Unit {0})
        a = (x ys, (zs, tt))

        abbrev at : Vals signature (κ, tt)
        at = (s ∷ [], (vals PB zs, tt))

        abbrev bound : (walk_of 𝓛 ended stayed (spec 𝓤)).Ghost
        bound = (((κ, tt), (q, tt), tt, a, at), tt)

        abbrev Post : Val → SProp 𝓤
        Post = (walk_of 𝓛 ended stayed (spec 𝓤)).post bound

        exits : ent 𝓤 (⋆ 𝓛 (‵ (fobs γ ((coded_holeys R).code (heres R zs))) ∷ ‵ (fbor κ (Held R (length zs) b o γ)) ∷ ‵ (flft κ q) ∷ [])) (Post vunit)
        exits =
            qed 𝓛 (‵ (fobs γ ((coded_holeys R).code (heres R zs))) ∷ ‵ (fbor κ (Held R (length zs) b o γ)) ∷ ‵ (flft κ q) ∷ []) ∵
            suffices ! _ (ends_at 𝓛 ended stayed (spec 𝓤) bound vunit tt (zs, (rest PB yes zs, tt)) (same, (tt, tt))) $ says ! refl $
            nothing ! $ move ! (3 ∷ 0 ∷ []) $ join ! $ frame ! $
            fjoin ! $ pure_i ! (mut_slice_at R (x zs) (s ∷ [])) (tt, (tt, tt)) (ap (λ (j : ℕ). slice_val (b, o) j ∷ []) (sym same), subst (Room R) (sym same) gn) $ fjoin ! $
            nothing ! $ owned ! B (Is B) (PB.makes M 𝓤 𝓛) zs _ gz $ fjoin ! $ move ! (1 ∷ 0 ∷ []) $ fjoin ! $
            feq_i ! (List Val) (vunit ∷ []) (vunit ∷ []) refl $ move ! (1 ∷ 0 ∷ []) $ done !

        module _ (𝓣 : Tables 𝓤 H) (l₀ l₁ l₂ l₃ l₄ l₅ l₆ l₇ l₈ l₉ l₁₀ l₁₁ : ℕ) where
          abbrev C : Calls 𝓤 H
          C = 𝓣.C

          abbrev Λ : Loops 𝓤 H
          Λ = 𝓣.Λ

          abbrev slice : Ty
          slice = slice_ty (ty_ref (named 0) mut (pointee R.written))

          abbrev E : Env 𝓤 H
          E = (ty_unit, l₀) ∷ (slice, l₁) ∷ (ty PB, l₂) ∷ (ty PB, l₃) ∷ (ty_int w64, l₄) ∷ (ty_int w64, l₅) ∷ (ty_bool, l₆) ∷ (ty_ptr, l₇) ∷ (ty_ptr, l₈) ∷ (ty P, l₉) ∷ (ty_int w64, l₁₀) ∷ (ty_ptr, l₁₁) ∷ []

          -- the context at the loop's head: the elements; the open borrow, with both halves of its name; the row's elements; and the locals, the last first
          abbrev Inv : State ys → List (Item 𝓤)
          Inv t = ‵ (row R full_share (part zs ys t.i) b o) ∷ ‵ (fobor κ q (Held R n b o γ)) ∷ ‵ (fobs γ ((coded_holeys R).code (heres R ys))) ∷ ‵ (fauth γ ((coded_holeys R).code (heres R ys))) ∷ ‵ (row R full_share zs l₃ 0)
              ∷ ‵ (froom ty_ptr l₁₁ 0) ∷ ‵ (fdies ty_ptr l₁₁) ∷ ‵ (froom (ty_int w64) l₁₀ 0) ∷ ‵ (fdies (ty_int w64) l₁₀) ∷ ‵ (froom (ty P) l₉ 0) ∷ ‵ (fdies (ty P) l₉) ∷ ‵ (froom ty_ptr l₈ 0) ∷ ‵ (fdies ty_ptr l₈)
              ∷ ‵ (froom ty_ptr l₇ 0) ∷ ‵ (fdies ty_ptr l₇) ∷ ‵ (froom ty_bool l₆ 0) ∷ ‵ (fdies ty_bool l₆) ∷ ‵ (froom (ty_int w64) l₅ 0) ∷ ‵ (fdies (ty_int w64) l₅) ∷ ‵ (fat full_share (ty_int w64) l₄ 0 (vint w64 t.i)) ∷ ‵ (fdies (ty_int w64) l₄)
              ∷ ‵ (fdies (ty PB) l₃) ∷ ‵ (fat full_share (ty PB) l₂ 0 (val PB zs)) ∷ ‵ (fdies (ty PB) l₂) ∷ ‵ (fat full_share slice l₁ 0 s) ∷ ‵ (fdies slice l₁) ∷ ‵ (froom ty_unit l₀ 0) ∷ ‵ (fdies ty_unit l₀) ∷ []

          -- what is to hold where the loop is left
          abbrev Left : Kit.Post 𝓤 H
          Left = any_q (after_block 𝓤 H (after_seq 𝓤 H (Wp 𝓤 H C Λ E after (at_return 𝓤 H E Post)) (at_return 𝓤 H E Post)))

          abbrev Turned : State ys → Kit.Post 𝓤 H
          Turned t = any_q (after_turn 𝓤 H (Below 𝓛 (less ys) Inv t) (Kit.post 𝓤 H Left))

          -- the state after one more element
          next : (t : State ys) → t.i < n → State ys
          next t l = record { i = t.i + 1; within = omega arith }

          -- a turn, by how its test comes out
          turn_on : (t : State ys) (y : Bool) → ltb t.i n ≡ y → Sq 𝓛 (Inv t) (runs C Λ E turn (Turned t))
          unfolding after_turn next
          turn_on t true e =
              let l : t.i < n = ltb→lt t.i n (subst T (sym e) tt) in
              let elem : R.Denot = get_or zs t.i d in
              let here : List R.Denot = part zs ys t.i in
              assigns ! (of_opd ! (load ! (from ! (fld ! refl (stop !))) (look_in ! 24 (sub ! 1 refl (whole !))))) (from ! (stop !)) (init ! 17 refl (tt, record { fits = gn.0 })) $
              assigns ! (bin ! (load ! (from ! (stop !)) (look ! 19 refl)) (load ! (from ! (stop !)) (look ! 17 refl)) tt) (from ! (stop !)) (init ! 15 refl (tt, tt)) $
              rewrite ! 15 (λ (z : Bool). ‵ (fat full_share ty_bool l₆ 0 (vbool z))) e refl $ stays ! (load ! (from ! (stop !)) (look ! 15 refl)) $
              assigns ! (bin ! (load ! (from ! (stop !)) (look ! 19 refl)) (lit ! small) (record { fits = below t.i n size l gn.1 })) (from ! (stop !)) (store ! 17 refl (tt, record { fits = below t.i n size l gn.1 })) $
              assigns ! (addr ! (from ! (stop !))) (from ! (stop !)) (init ! 13 refl (tt, tt)) $
              assigns ! (bin ! (load ! (from ! (stop !)) (look ! 13 refl)) (load ! (from ! (stop !)) (look ! 17 refl)) tt) (from ! (stop !)) (init ! 11 refl (tt, tt)) $
              rewrite ! 11 (λ (p : ℕ). ‵ (fat full_share ty_ptr l₈ 0 (vptr l₃ p))) (sym (place_is size 0 t.i)) refl $
              -- element i is taken out of the row, read, and put back
              move ! (4 ∷ []) $ elem_out ! R (Is R) (shows 𝓛 R) (vals P) (tells P) full_share zs t.i d l₃ 0 (as_long l) (λ g. bares ! P full_share elem l₃ (place_of size 0 t.i) $
              assigns ! (of_opd ! (load ! (from ! (hop ! (look ! 13 refl) (stop !))) (look_raw ! 0 refl))) (from ! (stop !)) (init ! 11 refl (fits P 𝓛 elem g)) $
              wraps ! P full_share (val P elem) l₃ (place_of size 0 t.i) $ elem_back ! R full_share zs t.i d (vals P elem) l₃ 0 (as_long l) $ move ! (1 ∷ 2 ∷ 3 ∷ 4 ∷ 0 ∷ []) $
              assigns ! (bin ! (load ! (from ! (stop !)) (look ! 19 refl)) (lit ! small) (record { fits = below t.i n size l gn.1 })) (from ! (stop !)) (init ! 7 refl (tt, record { fits = below t.i n size l gn.1 })) $
              assigns ! (bin ! (load ! (from ! (fld ! refl (stop !))) (look_in ! 24 (sub ! 0 refl (whole !)))) (load ! (from ! (stop !)) (look ! 7 refl)) tt) (from ! (stop !)) (init ! 5 refl (tt, tt)) $
              rewrite ! 5 (λ (p : ℕ). ‵ (fat full_share ty_ptr l₁₁ 0 (vptr b p))) (sym (place_is size o t.i)) refl $
              -- element i is taken out of the slice, and another is put in its place
              elem_out ! R (Is R) (shows 𝓛 R) (vals P) (tells P) full_share here t.i d b o (inside l) (λ _. bares ! P full_share (get_or here t.i d) b (place_of size o t.i) $
              assigns ! (of_opd ! (load ! (from ! (stop !)) (look ! 11 refl))) (from ! (hop ! (look ! 7 refl) (stop !))) (store_raw ! 0 refl (fits P 𝓛 elem g)) $
              wraps ! P full_share (val P elem) b (place_of size o t.i) $ move ! (1 ∷ []) $ drop ! $ owned ! R (Is R) (P.makes M 𝓤 𝓛) elem (vals P elem) g $ move ! (1 ∷ 0 ∷ []) $
              elem_put ! R full_share here t.i elem (vals P elem) b o (inside l) $ rewrite ! 0 (λ (r : List R.Denot). ‵ (row R full_share r b o)) (put_next zs ys t.i d (as_long l) l) refl $
              assigns_last ! (bin ! (load ! (from ! (stop !)) (look ! 19 refl)) (lit ! tt) (record { fits = fits_next l })) (from ! (stop !)) (store ! 19 refl (tt, record { fits = fits_next l })) $
              forget ! 5 refl $ forget ! 7 refl $ forget ! 9 refl $ forget ! 11 refl $ forget ! 13 refl $ forget ! 15 refl $ forget ! 17 refl $ again ! (less ys) Inv t (next t l) (fewer l)))
            where
              fits_next : t.i < n → t.i + 1 < 2 ^ 64
              fits_next l = omega (arith, gn.0)

              fewer : t.i < n → n - (t.i + 1) < n - t.i
              fewer l = omega arith

              as_long : t.i < n → t.i < length zs
              as_long l = subst (λ (j : ℕ). t.i < j) (sym same) l

              inside : t.i < n → t.i < length (part zs ys t.i)
              inside l = subst (λ (j : ℕ). t.i < j) (sym (put_length zs ys t.i (subst (λ (j : ℕ). t.i ≤ j) (sym same) t.within) t.within)) l
          turn_on t false e =
              assigns ! (of_opd ! (load ! (from ! (fld ! refl (stop !))) (look_in ! 24 (sub ! 1 refl (whole !))))) (from ! (stop !)) (init ! 17 refl (tt, record { fits = gn.0 })) $
              assigns ! (bin ! (load ! (from ! (stop !)) (look ! 19 refl)) (load ! (from ! (stop !)) (look ! 17 refl)) tt) (from ! (stop !)) (init ! 15 refl (tt, tt)) $
              rewrite ! 15 (λ (z : Bool). ‵ (fat full_share ty_bool l₆ 0 (vbool z))) e refl $ leaves_loop ! (load ! (from ! (stop !)) (look ! 15 refl)) $ exec ! C Λ E after (at_ret E Post) $
              assigns ! (of_opd ! (unit_lit !)) (from ! (stop !)) (init ! 26 refl (tt, tt)) $
              rewrite ! 0 (λ (r : List R.Denot). ‵ (row R full_share r b o)) (put_all zs ys t.i (subst (λ (j : ℕ). j ≤ t.i) (sym same) past) past) refl $ closes_slice ! tt R ys zs same b o $
              -- [obs; the borrow; the token; the row's elements; _11; …; _0; …]
              move ! (3 ∷ []) $ row_back ! P m zs l₃ (same ∙ len) (λ _.
              returns ! (look ! 25 refl) $ forget ! 0 refl $ forget ! 14 refl $ forget ! 16 refl $ forget ! 18 refl $ forget ! 21 refl $ forget ! 23 refl $ forget ! 25 refl $
              keep ! (4 ∷ 5 ∷ 6 ∷ 7 ∷ 8 ∷ 9 ∷ 10 ∷ 11 ∷ 12 ∷ 13 ∷ 14 ∷ 15 ∷ 16 ∷ 17 ∷ 18 ∷ 19 ∷ 0 ∷ 20 ∷ 21 ∷ 22 ∷ 23 ∷ 24 ∷ 25 ∷ 26 ∷ 1 ∷ 2 ∷ 3 ∷ []) $ free_all ! E $ by ! exits)
            where
              past : n ≤ t.i
              past = nltb→le t.i n (subst (λ (z : Bool). T (not z)) (sym e) tt)

        begin : State ys
        begin = record { i = 0; within = omega arith }

        walk : (𝓣 : Tables 𝓤 H) → ent 𝓤 (on_entry 𝓛 signature (κ, tt) (q, tt) a at) (WpFn 𝓤 H 𝓣.C 𝓣.Λ function (s ∷ val PB zs ∷ []) Post)
        unfolding begin
        walk 𝓣 =
            qed 𝓛 ((‵ (flft κ q) ⊛ ‵ ftrue) ∷ ‵ (owns (MutSlice (named 0) κ R ∷ B ∷ []) a at) ∷ []) ∵ enter ! 𝓣.C 𝓣.Λ function (s ∷ val PB zs ∷ []) _ $
            alloc1 ! (λ l₀. alloc1 ! (λ l₁. alloc1 ! (λ l₂. alloc1 ! (λ l₃. alloc1 ! (λ l₄. alloc1 ! (λ l₅. alloc1 ! (λ l₆. alloc1 ! (λ l₇. alloc1 ! (λ l₈. alloc1 ! (λ l₉. alloc1 ! (λ l₁₀. alloc1 ! (λ l₁₁. alloc0 ! $ params1 ! $
            pass1 ! (init ! 20 refl (tt, (tt, (record { fits = gn.0 }, tt)))) $ pass1 ! (init ! 18 refl (fits PB 𝓛 zs gz)) $ pass0 ! $
            assigns ! (of_opd ! (load ! (from ! (stop !)) (look ! 18 refl))) (from ! (stop !)) (init ! 16 refl (fits PB 𝓛 zs gz)) $
            assigns ! (of_opd ! (lit ! tt)) (from ! (stop !)) (init ! 14 refl (tt, record { fits = lit< tt })) $
            move ! (16 ∷ []) $ row_in ! P m zs l₃ gz (λ _.
            -- the slice is opened
            move ! (25 ∷ []) $ fsplit ! $ fsplit ! $ drop ! $ fsplit ! $ move ! (27 ∷ []) $ split ! $ move ! (2 ∷ 3 ∷ 0 ∷ []) $
            opens_slice ! tt R ys b o $ first ! $ blocks ! $
            -- [the elements; the open borrow; obs; auth; true; what row owns; the row's elements; _11; …; room for _0; …]
            keep ! (0 ∷ 1 ∷ 2 ∷ 3 ∷ 6 ∷ 7 ∷ 8 ∷ 9 ∷ 10 ∷ 11 ∷ 12 ∷ 13 ∷ 14 ∷ 15 ∷ 16 ∷ 17 ∷ 18 ∷ 19 ∷ 20 ∷ 21 ∷ 22 ∷ 23 ∷ 24 ∷ 25 ∷ 26 ∷ 27 ∷ 28 ∷ 29 ∷ []) $
            loops ! 𝓣 (less ys) (InvImage.wf (λ (t : State ys). n - t.i) lt-wf_rel.wf) (Inv 𝓣 l₀ l₁ l₂ l₃ l₄ l₅ l₆ l₇ l₈ l₉ l₁₀ l₁₁) (λ t. turn_on 𝓣 l₀ l₁ l₂ l₃ l₄ l₅ l₆ l₇ l₈ l₉ l₁₀ l₁₁ t (ltb t.i n) refl) begin)))))))))))))

      save_walks : (𝓣 : Tables 𝓤 H) → Walks 𝓛 ended stayed (WpFn 𝓤 H 𝓣.C 𝓣.Λ function) (spec 𝓤)
      save_walks 𝓣 = walked 𝓛 ended stayed (spec 𝓤) (WpFn 𝓤 H 𝓣.C 𝓣.Λ function) (λ κs. (mut_slice_vals, (vals PB, tt))) (λ κs. (mut_slice_Tells (named 0) κs.0 R, (tells PB, tt)))
          (λ κs qs bounds a g are. needs 𝓤 (length a.0.now ≡ m) _ (λ len. walk κs.0 qs.0 a.0.ref_ptr.0 a.0.ref_ptr.1 a.0.ghost_name a.0.now a.1.0 are.0.0.1 are.1.0 len 𝓣))

      pub save_meets : (𝓣 : Tables 𝓤 H) → Meets 𝓛 signature (WpFn 𝓤 H 𝓣.C 𝓣.Λ function) (closing 𝓛 ended (spec 𝓤))
      save_meets 𝓣 = walk_Meets 𝓛 ended stayed (Goes-slice 𝓛 1 0 tt (plain (λ _. R)), (Goes-none 𝓛 1 (λ _. B) yes (λ κs x f. silent PB yes x f), tt)) (spec 𝓤) (WpFn 𝓤 H 𝓣.C 𝓣.Λ function) (WpFn-mono 𝓤 H 𝓛.laws 𝓣 function) (save_walks 𝓣)
