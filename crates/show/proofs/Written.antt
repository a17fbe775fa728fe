-- What a formatter has written, as another text, and as none.
use mathlib.Core.Path.{◌≡◌}
use mathlib.Core.List.{List, []}
use Prim.Native.Nat.{ℕ}
use Rattle.std.specs.declared.fmt.Formatter.{Formatter}
use Rattle.std.specs.Fmt.{HasWritten, IsPlainFormatter}
use Rattle.std.proofs.Output.{has_written_of_eq, writes_in_calls_nil}

module _ {W : Type 0} {took : W → List ℕ → W → Type 0} {f : Formatter W} where
  pub as_text : {a b : List ℕ} {g : Formatter W} → a ≡ b → HasWritten took f a g → HasWritten took f b g
  as_text {a} {b} {g} e h = has_written_of_eq _ f a b g e h

  pub nothing_yet : {a : List ℕ} → [] ≡ a → IsPlainFormatter f → HasWritten took f a f
  nothing_yet e p = as_text e (record { wrote = writes_in_calls_nil _ _; plain = p })
