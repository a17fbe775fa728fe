-- `fn query(t: [R; n]) -> Y { g(&t) }` at any plain R and Y and any n, where g is a walked function over a lent row, at any contract Φ of the row and the result: a walk of its MIR.
-- The row is copied to a local, and the local is lent to g.
-- It says nothing of the crate, and can be copied as it stands. Assumes nothing.
use mathlib.Core.Path.{◌≡◌, refl, sym, ap, subst}
use Prim.Native.Nat.{ℕ, ◌^◌}
use mathlib.Core.List.{List, [], ◌∷◌}
use lib.ListN.{length}
use lib.Dec.{T, ltb, lit<}
use seplogic.Ra.Ura.{Ura}
use base.Fraction.{full_share}
use mir.Syntax.{Callee, Ty, Fn, erased, imm, w64, ty_ref, place, copy, int, local, value_local, memory_slot, seq, assign, call, return, rv_opd, aggregate, addr_of}
use mir.Val.{Val, vptr}
use base.Logic.{SProp, ent, emp, via, fst∗, id⊢}
use base.Fml.{ftrue, fat, froom, fdies}
use prog.Wp.{Env, Calls, Loops, WpFn, Tables}
use types.Logic.{Logic}
use sound.WpLaws.{FmC, fm_of, WpFn-mono}
use types.Kit.{Go, Item, ‵, ◌$◌, ◌∵◌, !, qed, by, move, keep, rewrite, fjoin, suffices, done}
use types.Part.{agg}
use types.Run.{Opds, look, init, forget, stop, from, load, lit, of_opd, addr, and_then, no_more, land, assigns, returns, enter, alloc1, alloc0, params1, pass1, pass0}
use contract.Monad.{fact}
use denote.Array.{Array}
use denote.Exit.{yes}
use denote.RattleType.{RattleType, owns}
use denote.Laws.{Is}
use denote.Memory.{pointee}
use denote.Slice.{slice_ty, slice_val, Room}
use denote.Signature.{Signature, plain}
use denote.Triple.Entry.{Vals, on_entry}
use denote.Steps.{only, nothing, owned}
use denote.Triple.Statement.{Triple}
use denote.Triple.Spec.{Meets}
use denote.Triple.Clauses.{Clauses, Ended, closing}
use denote.Triple.Walked.{says, Stays, stay_none, walk_of, Walks, ends_at, walked, Goes-none, walk_Meets}
use Rattle.walks.proofs.Plain.{Plain, array, ty, val, vals, tells, told, fits, fits_at, rest, silent}
use Rattle.walks.proofs.LocalLend.{row_in, row_back}
use Rattle.walks.proofs.RowLend.{AnyRow, calls_any}
use Rattle.walks.proofs.Frees.{free_all}

module _ (R Y : RattleType) (P : Plain R) (m : ℕ) (PY : Plain Y) (Φ : List R.Denot → Y.Denot → Type 0) where
  abbrev Row : RattleType
  Row = Array R m

  abbrev PR : Plain Row
  PR = array P m

  abbrev pub signature : Signature
  signature = record { lifetimes = 0; outlives = []; params = plain (λ _. Row) ∷ []; result = plain (λ _. Y) }

  abbrev whole_ref : Ty
  whole_ref = ty_ref erased imm (pointee Row.written)

  abbrev slice : Ty
  slice = slice_ty (ty_ref erased imm (pointee R.written))

  -- the locals: the result, t, t where it is lent, `&t` and the slice of it. k is g's key
  abbrev pub function : Callee → Fn
  function k = record {
    lifetimes = 0;
    outlives = [];
    ty_params = [];
    givens = 0;
    params = 1;
    locals = local (ty PY) value_local ∷ local (ty PR) value_local ∷ local (ty PR) memory_slot ∷ local whole_ref value_local ∷ local slice value_local ∷ [];
    body = seq (assign (place 2 []) (rv_opd (copy (place 1 []))))
        (seq (assign (place 3 []) (addr_of (place 2 [])))
        (seq (assign (place 4 []) (aggregate (copy (place 3 []) ∷ int w64 m ∷ [])))
        (seq (call k (copy (place 4 []) ∷ []) (place 0 [])) return)));
  }

  abbrev pub ended : Ended
  ended = record { signature = signature; kept = (yes, tt) }

  abbrev pub stayed : Stays ended.signature.params ended.kept
  stayed = (stay_none (λ _. Row) yes, tt)

  abbrev pub spec : {M : Type 1} (𝓤 : Ura M) → Clauses 𝓤 ended
  spec 𝓤 κs a = record { ghost = Unit {0}; requires = λ _. emp 𝓤; ensures = λ _ r _. fact 𝓤 (Φ a.0 r) }

  -- g's contract
  abbrev pub Known : {M : Type 1} {𝓤 : Ura M} (𝓛 : Logic 𝓤) → Calls 𝓤 𝓛.H → Callee → Type 1
  Known {𝓤 = 𝓤} 𝓛 C k = Triple 𝓤 (C k) (AnyRow [] tt R Y (λ κs ys a r. Φ ys r) 𝓛)

  module _ (small : T (ltb m (2 ^ 64))) (room : Room R m) {M : Type 1} {𝓤 : Ura M} (𝓛 : Logic 𝓤) where
    open 𝓛 use {H}

    module _ (t : List R.Denot) (gt : Is Row t (vals PR t)) where
      abbrev at : Vals signature tt
      at = (vals PR t, tt)

      abbrev bound : (walk_of 𝓛 ended stayed (spec 𝓤)).Ghost
      bound = ((tt, tt, tt, (t, tt), at), tt)

      abbrev Post : Val → SProp 𝓤
      Post = (walk_of 𝓛 ended stayed (spec 𝓤)).post bound

      exits : (r : Y.Denot) → Is Y r (vals PY r) → Φ t r → ent 𝓤 (emp 𝓤) (Post (val PY r))
      exits r gr e =
          qed 𝓛 [] ∵ suffices ! _ (ends_at 𝓛 ended stayed (spec 𝓤) bound (val PY r) r (rest PR yes t, tt) (tt, tt)) $ says ! e $
          owned ! Y (Is Y) (PY.makes M 𝓤 𝓛) r _ gr $ nothing ! $ owned ! Row (Is Row) (PR.makes M 𝓤 𝓛) t _ gt $ fjoin ! $ nothing ! $ done !

      module _ (C : Calls 𝓤 H) (Λ : Loops 𝓤 H) (fm : FmC 𝓤 H 𝓛.laws C) (k : Callee) (known : Known 𝓛 C k) where
        module _ (l₀ l₁ l₂ l₃ l₄ : ℕ) where
          abbrev E : Env 𝓤 H
          E = (ty PY, l₀) ∷ (ty PR, l₁) ∷ (ty PR, l₂) ∷ (whole_ref, l₃) ∷ (slice, l₄) ∷ []

          -- the locals but for _2's cell, with two items before them
          abbrev Around : Item 𝓤 → Item 𝓤 → List (Item 𝓤)
          Around i j = i ∷ j ∷ ‵ (fat full_share slice l₄ 0 (slice_val (l₂, 0) m)) ∷ ‵ (fdies slice l₄) ∷ ‵ (fat full_share whole_ref l₃ 0 (vptr l₂ 0)) ∷ ‵ (fdies whole_ref l₃) ∷ ‵ (fdies (ty PR) l₂) ∷ ‵ (fat full_share (ty PR) l₁ 0 (val PR t)) ∷ ‵ (fdies (ty PR) l₁) ∷ ‵ (froom (ty PY) l₀ 0) ∷ ‵ (fdies (ty PY) l₀) ∷ []

          counted : length t ≡ m → (i j : Item 𝓤) → Opds (Go {0}) 𝓛 (Around i j) E (copy (place 4 []) ∷ []) (slice_val (l₂, 0) (length t) ∷ [])
          counted e i j = subst (λ (c : ℕ). Opds (Go {0}) 𝓛 (Around i j) E (copy (place 4 []) ∷ []) (slice_val (l₂, 0) c ∷ [])) (sym e) (and_then ! (load ! (from ! (stop !)) (look ! 2 refl)) (no_more !))

        walk : ent 𝓤 (on_entry 𝓛 signature tt tt (t, tt) at) (WpFn 𝓤 H C Λ (function k) (val PR t ∷ []) Post)
        walk =
            qed 𝓛 (‵ ftrue ∷ ‵ (owns (Row ∷ []) (t, tt) at) ∷ []) ∵ keep ! [] $ enter ! C Λ (function k) (val PR t ∷ []) _ $
            alloc1 ! (λ l₀. alloc1 ! (λ l₁. alloc1 ! (λ l₂. alloc1 ! (λ l₃. alloc1 ! (λ l₄. alloc0 ! $ params1 ! $ pass1 ! (init ! 6 refl (fits PR 𝓛 t gt)) $ pass0 ! $
            assigns ! (of_opd ! (load ! (from ! (stop !)) (look ! 6 refl))) (from ! (stop !)) (init ! 4 refl (fits PR 𝓛 t gt)) $
            assigns ! (addr ! (from ! (stop !))) (from ! (stop !)) (init ! 2 refl (tt, tt)) $
            assigns ! (agg ! (and_then ! (load ! (from ! (stop !)) (look ! 2 refl)) (and_then ! (lit ! small) (no_more !)))) (from ! (stop !)) (init ! 0 refl (tt, (tt, (record { fits = lit< small }, tt)))) $
            move ! (4 ∷ []) $
            -- [_2; _4; …; _3; …; _1; …; room for _0; …]
            row_in ! P m t l₂ gt (λ e.
            calls_any ! fm [] tt R Y P (λ κs ys a r. Φ ys r) known full_share t l₂ 0 (subst (Room R) (sym e) room) (λ ν. tt) (λ ν. tt) (λ ν. id⊢ 𝓤 (emp 𝓤)) (λ ν. counted l₀ l₁ l₂ l₃ l₄ e) (λ ν v r gr said.
            row_back ! P m t l₂ e (λ gt'.
            land ! (from ! (stop !)) (init ! 8 refl (fits_at PY 𝓛 r v gr)) $ rewrite ! 8 (λ (z : Val). ‵ (fat full_share (ty PY) l₀ 0 z)) (ap only (tells PY r (v ∷ []) gr)) refl $
            returns ! (look ! 8 refl) $ forget ! 0 refl $ forget ! 1 refl $ forget ! 3 refl $ forget ! 6 refl $ forget ! 8 refl $
            keep ! (1 ∷ 2 ∷ 3 ∷ 4 ∷ 0 ∷ 5 ∷ 6 ∷ 7 ∷ 8 ∷ 9 ∷ []) $ free_all ! (E l₀ l₁ l₂ l₃ l₄) $
            by ! (exits r (told PY r (v ∷ []) gr) said)))))))))

    module _ (k : Callee) where
      own_query_walks : (C : Calls 𝓤 H) (Λ : Loops 𝓤 H) → FmC 𝓤 H 𝓛.laws C → Known 𝓛 C k → Walks 𝓛 ended stayed (WpFn 𝓤 H C Λ (function k)) (spec 𝓤)
      own_query_walks C Λ fm known = walked 𝓛 ended stayed (spec 𝓤) (WpFn 𝓤 H C Λ (function k)) (λ κs. (vals PR, tt)) (λ κs. (tells PR, tt)) (λ κs qs bounds a g are. via 𝓤 _ (fst∗ 𝓤 _ (emp 𝓤)) (walk a.0 are.0 C Λ fm k known))

      pub own_query_meets : (𝓣 : Tables 𝓤 H) → Known 𝓛 𝓣.C k → Meets 𝓛 signature (WpFn 𝓤 H 𝓣.C 𝓣.Λ (function k)) (closing 𝓛 ended (spec 𝓤))
      own_query_meets 𝓣 known = walk_Meets 𝓛 ended stayed (Goes-none 𝓛 0 (λ _. Row) yes (λ κs y f. silent PR yes y f), tt) (spec 𝓤) (WpFn 𝓤 H 𝓣.C 𝓣.Λ (function k)) (WpFn-mono 𝓤 H 𝓛.laws 𝓣 (function k)) (own_query_walks 𝓣.C 𝓣.Λ (fm_of 𝓤 H 𝓛.laws 𝓣) known)
