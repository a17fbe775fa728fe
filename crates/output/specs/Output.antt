-- What was handed over to an output: a part was written, and the rest waits.
use Rattle.std.specs.Prelude.{ℕ, List, take, Option}
use Rattle.std.specs.Io.KnownBytes.{append_known}
use Rattle.output.specs.declared.Output.{Output}

-- how many bytes wait: the first of the buffer
abbrev pub waits : {W : Type 0} → Output W → ℕ
waits o = o.filled

abbrev pub waiting : {W : Type 0} → Output W → List ℕ
waiting o = take (waits o) o.bytes

-- what was written, where that is known, and behind it what waits
abbrev pub handed_over : {W : Type 0} → (W → Option (List ℕ)) → Output W → Option (List ℕ)
handed_over contents o = append_known (contents o.to) (waiting o)
