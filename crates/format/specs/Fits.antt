-- What fits its bytes: the numbers that take several bytes are below the power of 256. Nothing is asked of a field of one byte.
use Rattle.std.specs.Prelude.{ℕ, ◌<◌, ◌^◌, List, [], ◌∷◌, Option, None, Some}
use Prim.{Unit}
use Rattle.protocol.specs.declared.SdoClientInfo.{SdoClientInfo}
use Rattle.protocol.specs.declared.SdoClientInfo.TheVariants.{Asnd, Udp}
use Rattle.protocol.specs.declared.SdoTransferState.{SdoTransferState}
use Rattle.protocol.specs.declared.SdoServerState.{SdoServerState}
use Rattle.protocol.specs.declared.SdoServerState.TheVariants.{Closed, Opening, Established, SegmentedDownload, SegmentedUpload}
use Rattle.protocol.specs.declared.Connection.{Connection}

abbrev pub FitsClient : SdoClientInfo → Type 0
FitsClient (Asnd node mac) = mac < 256 ^ 6
FitsClient (Udp ip port) = (ip < 256 ^ 4) × (port < 256 ^ 2)

abbrev pub FitsDeadline : Option ℕ → Type 0
FitsDeadline None = Unit
FitsDeadline (Some n) = n < 256 ^ 8

pub record FitsTransfer (t : SdoTransferState) : Type 0 where
  pub total : t.total < 256 ^ 4
  pub offset : t.offset < 256 ^ 4
  pub index : t.index < 256 ^ 2
  pub deadline : FitsDeadline t.deadline
  pub retries : t.retries < 256 ^ 4

abbrev pub FitsState : SdoServerState → Type 0
FitsState Closed = Unit
FitsState Opening = Unit
FitsState Established = Unit
FitsState (SegmentedDownload t) = FitsTransfer t
FitsState (SegmentedUpload t) = FitsTransfer t

abbrev pub FitsRecord : Connection → Type 0
FitsRecord c = FitsClient c.client × FitsState c.state

abbrev pub FitsTable : List Connection → Type 0
FitsTable [] = Unit
FitsTable (c ∷ t) = FitsRecord c × FitsTable t
