-- The locals of a function, freed in ONE step at its end, where a walk has `free1` for each.
--     rooms E Γ        the rooms of the locals E, the last first, as the allocations leave them, and then Γ
--     free_all         from there to Γ. Each local that is full is first forgotten (`forget`)
-- It says nothing of the crate, and can be copied as it stands. Assumes nothing.
use Prim.Native.Nat.{ℕ, zero}
use mathlib.Core.List.{List, [], ◌∷◌}
use seplogic.Ra.Ura.{Ura}
use mir.Syntax.{Ty}
use base.Logic.{SProp, ent, sep, via, id⊢, comm∗, assoc∗, assoc', mono_l, mono_r}
use base.Fml.{froom, fdies}
use prog.Wp.{Env, release}
use types.Logic.{Logic}
use types.Kit.{Item, Goal, Step, step, ‵, ⋆, pop, frees}

module _ {M : Type 1} {𝓤 : Ura M} (𝓛 : Logic 𝓤) where
  open 𝓛 use {H}

  abbrev pub rooms : List (Ty × ℕ) → List (Item 𝓤) → List (Item 𝓤)
  rooms [] Γ = Γ
  rooms (e ∷ E) Γ = rooms E (‵ (froom e.0 e.1 zero) ∷ ‵ (fdies e.0 e.1) ∷ Γ)

  -- the room of a local, and that it dies
  abbrev cell : Ty × ℕ → SProp 𝓤
  cell e = sep 𝓤 (H.room e.0 e.1 zero) (H.dies e.0 e.1)

  release_mono : (E : Env 𝓤 H) {P Q : SProp 𝓤} → ent 𝓤 P Q → ent 𝓤 (release 𝓤 H E P) (release 𝓤 H E Q)
  release_mono [] h = h
  release_mono (e ∷ E) h = mono_r 𝓤 (cell e) (release_mono E h)

  release_out : (E : Env 𝓤 H) (P Q : SProp 𝓤) → ent 𝓤 (release 𝓤 H E (sep 𝓤 P Q)) (sep 𝓤 P (release 𝓤 H E Q))
  release_out [] P Q = id⊢ 𝓤 (sep 𝓤 P Q)
  release_out (e ∷ E) P Q =
      via 𝓤 (sep 𝓤 (cell e) (sep 𝓤 P (release 𝓤 H E Q))) (mono_r 𝓤 (cell e) (release_out E P Q)) (via 𝓤 (sep 𝓤 (sep 𝓤 (cell e) P) (release 𝓤 H E Q)) (assoc' 𝓤 (cell e) P (release 𝓤 H E Q))
      (via 𝓤 (sep 𝓤 (sep 𝓤 P (cell e)) (release 𝓤 H E Q)) (mono_l 𝓤 (release 𝓤 H E Q) (comm∗ 𝓤 (cell e) P)) (assoc∗ 𝓤 P (cell e) (release 𝓤 H E Q))))

  all_out : (E : Env 𝓤 H) (Γ : List (Item 𝓤)) → ent 𝓤 (⋆ 𝓛 (rooms E Γ)) (release 𝓤 H E (⋆ 𝓛 Γ))
  all_out [] Γ = id⊢ 𝓤 (⋆ 𝓛 Γ)
  all_out (e ∷ E) Γ =
      via 𝓤 (release 𝓤 H E (⋆ 𝓛 (‵ (froom e.0 e.1 zero) ∷ ‵ (fdies e.0 e.1) ∷ Γ))) (all_out E (‵ (froom e.0 e.1 zero) ∷ ‵ (fdies e.0 e.1) ∷ Γ))
      (via 𝓤 (release 𝓤 H E (sep 𝓤 (cell e) (⋆ 𝓛 Γ)))
      (release_mono E (via 𝓤 (sep 𝓤 (H.room e.0 e.1 zero) (sep 𝓤 (H.dies e.0 e.1) (⋆ 𝓛 Γ))) (mono_r 𝓤 (H.room e.0 e.1 zero) (pop 𝓛 (‵ (fdies e.0 e.1)) Γ)) (assoc' 𝓤 (H.room e.0 e.1 zero) (H.dies e.0 e.1) (⋆ 𝓛 Γ))))
      (release_out E (cell e) (⋆ 𝓛 Γ)))

pub free_all : {M : Type 1} {𝓤 : Ura M} {𝓛 : Logic 𝓤} {K : Type 0} {Γ : List (Item 𝓤)} → K → (E : Env 𝓤 𝓛.H) {g : Goal 𝓤 𝓛.H} → Step K 𝓛 Γ g (rooms 𝓛 E Γ) (frees E g)
free_all {𝓤 = 𝓤} {𝓛 = 𝓛} {Γ = Γ} t E = step (λ s. record { prf = via 𝓤 (release 𝓤 𝓛.H E (⋆ 𝓛 Γ)) (all_out 𝓛 E Γ) (release_mono 𝓛 E s.prf) })
