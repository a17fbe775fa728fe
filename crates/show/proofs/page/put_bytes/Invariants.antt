-- The bytes so far are laid.
use Rattle.std.proofs.Common.{◌≡◌, take}
use Rattle.show.specs.Text.{page_at, laid, bytes_text}
use Rattle.show.proofs.page.put_bytes.Given as goal

abbrev pub invariant-loop-byte : goal.invariant-loop-byte
invariant-loop-byte l = page_at l.end l.page ≡ laid (page_at l.at l.initial.page) (bytes_text (take l.byte-index l.bytes))
