-- The entry in its twelve bytes.
use Prim.Native.Nat.{◌+◌, ◌-◌}
use native.Mathlib.Omega.{arith}
use mathlib.Core.Path.{◌≡◌, ap, ◌∙◌}
use lib.ListN.{take, drop}
use Rattle.entries.specs.Reading.{entry_in}
use Rattle.entries.proofs.Reading.{entry_there, entry_part}
use Rattle.soundness.proofs.entry_in.Goals as goal

pub returns : goal.returns
returns c =
    let a = c.args in
    let image = a.image.now in
    let e : a.at + 12 - a.at ≡ 12 = omega arith in
    c.entry_in.ensures ∙ ap (λ n. entry_in a.at (take n (drop a.at image))) e ∙ entry_part a.at (drop a.at image) ∙ entry_there image a.at
