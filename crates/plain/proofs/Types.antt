-- The types whose values the walks carry out of and into lent memory, and those of what the calls return: each is plain, by the laws that the checker makes of it. No field of a record is named.
use mathlib.Core.Path.{refl}
use denote.RattleType.{RattleType}
use denote.Lowered.{Lowered}
use denote.Shadow.{makes_shadow}
use denote.Array.{Array}
use denote.Struct.Laws as LL
use denote.Enum.Laws as EL
use denote.Builtin.{u64}
use denote.Param.Laws.{Laws, Told, IsCopy, of_field, field_told, of_copyable}
use denote.Param.Shared.{copy_shared}
use denote.Struct.Field.{u64-field}
use denote.Struct.Laws.{u64-laws, u64-copy, u64-plain}
use denote.Param.Plain.{IsPlain}
use Rattle.walks.proofs.Plain.{Plain, array, told}
use Rattle.walks.proofs.Two.{Two}
use Rattle.protocol.specs.contracts.Connection as Connection
use Rattle.protocol.proofs.Connection.TheLaws as Connection'
use Rattle.protocol.specs.contracts.SdoClientInfo as SdoClientInfo
use Rattle.protocol.proofs.SdoClientInfo.TheLaws as SdoClientInfo'
use Rattle.protocol.specs.contracts.SequenceLayerHeader as SequenceLayerHeader
use Rattle.protocol.proofs.SequenceLayerHeader.TheLaws as SequenceLayerHeader'
use Rattle.protocol.specs.contracts.Answered as Answered
use Rattle.protocol.proofs.Answered.TheLaws as Answered'
use Rattle.protocol.specs.contracts.Refusal as Refusal
use Rattle.protocol.proofs.Refusal.TheLaws as Refusal'
use Rattle.protocol.specs.contracts.Misfit as Misfit
use Rattle.protocol.proofs.Misfit.TheLaws as Misfit'
use Rattle.protocol.specs.contracts.Called as Called
use Rattle.protocol.proofs.Called.TheLaws as Called'
use Rattle.protocol.specs.contracts.Left as Left
use Rattle.protocol.proofs.Left.TheLaws as Left'
use Rattle.std.specs.contracts.option.Option as Option
use Rattle.std.proofs.option.Option.TheLaws as Option'
use Rattle.std.specs.contracts.result.Result as Result
use Rattle.std.proofs.result.Result.TheLaws as Result'

abbrev pub conn : Plain Connection.the_row
conn = record {
  low = record { mir = (Connection'.lowers).mir; lowered = (Connection'.the_told).val; layout_is = (Connection'.lowers).layout_is; val_is = (Connection'.the_told).tells };
  lawful = λ M 𝓤 𝓛. LL.lawful Connection.the_type Connection'.the_laws 𝓛;
  makes = λ M 𝓤 𝓛. LL.makes Connection.the_type Connection'.the_plain 𝓛;
  still = λ k. refl;
  copied = λ M 𝓤 𝓛. (Connection'.the_row_copy).copied M 𝓤 𝓛;
}

abbrev pub row : Plain (Array Connection.the_row 8)
row = array conn 8

abbrev pub client : Plain SdoClientInfo.the_row
client = record {
  low = SdoClientInfo'.lowers;
  lawful = λ M 𝓤 𝓛. EL.lawful SdoClientInfo.the_type SdoClientInfo'.the_laws 𝓛 tt;
  makes = λ M 𝓤 𝓛. EL.makes SdoClientInfo.the_type SdoClientInfo'.the_plain 𝓛;
  still = λ k. refl;
  copied = λ M 𝓤 𝓛. (SdoClientInfo'.the_row_copy).copied M 𝓤 𝓛;
}

abbrev pub header : Plain SequenceLayerHeader.the_row
header = record {
  low = SequenceLayerHeader'.lowers;
  lawful = λ M 𝓤 𝓛. LL.lawful SequenceLayerHeader.the_type SequenceLayerHeader'.the_laws 𝓛;
  makes = λ M 𝓤 𝓛. LL.makes SequenceLayerHeader.the_type SequenceLayerHeader'.the_plain 𝓛;
  still = λ k. refl;
  copied = λ M 𝓤 𝓛. (SequenceLayerHeader'.the_row_copy).copied M 𝓤 𝓛;
}

-- What the checker makes of a row that may be a type argument, from which it makes the same of a generic type at that argument.
record Shown (R : RattleType) : Type 2 where
  pub laws : Laws R
  pub told : Told R
  pub copy : IsCopy R
  pub facts : IsPlain R

-- With these laws a row is plain, at the machine values that lowering says.
abbrev plain_of : {R : RattleType} → Shown R → Lowered R → Plain R
plain_of {R} s l = record {
  low = l;
  lawful = λ M 𝓤 𝓛. s.laws.lawful 𝓛;
  makes = λ M 𝓤 𝓛 x vs p. makes_shadow 𝓛 (R.own_val x vs) (s.facts x vs) p;
  still = s.copy.still;
  copied = s.copy.copied;
}

abbrev answered : Shown Answered.the_row
answered = record { laws = Answered'.the_row_laws; told = Answered'.the_told; copy = Answered'.the_row_copy; facts = Answered'.the_row_plain }

abbrev refusal : Shown Refusal.the_row
refusal = record { laws = Refusal'.the_row_laws; told = Refusal'.the_told; copy = Refusal'.the_row_copy; facts = Refusal'.the_row_plain }

abbrev misfit : Shown Misfit.the_row
misfit = record { laws = Misfit'.the_row_laws; told = Misfit'.the_told; copy = Misfit'.the_row_copy; facts = Misfit'.the_row_plain }

abbrev sequence_header : Shown SequenceLayerHeader.the_row
sequence_header = record { laws = SequenceLayerHeader'.the_row_laws; told = SequenceLayerHeader'.the_told; copy = SequenceLayerHeader'.the_row_copy; facts = SequenceLayerHeader'.the_row_plain }

abbrev time : Shown u64
time = record { laws = of_field u64-field u64-laws refl (copy_shared u64-field u64-copy); told = field_told u64-field u64-laws; copy = of_copyable u64-field u64-copy; facts = u64-plain }

abbrev option : {R : RattleType} → Shown R → Shown (Option.the_row R)
option {R} s = record { laws = Option'.the_row_laws R s.laws; told = Option'.the_told R s.laws s.told; copy = Option'.the_row_copy R s.laws s.copy; facts = Option'.the_row_plain R s.facts }

abbrev result : {R Y : RattleType} → Shown R → Shown Y → Shown (Result.the_row R Y)
result {R} {Y} s e = record { laws = Result'.the_row_laws R Y s.laws e.laws; told = Result'.the_told R Y s.laws e.laws s.told e.told; copy = Result'.the_row_copy R Y s.laws e.laws s.copy e.copy; facts = Result'.the_row_plain R Y s.facts e.facts }

-- what a call says, or why it refuses
abbrev says : {R : RattleType} → Shown R → Plain (Result.the_row R Refusal.the_row)
says {R} s = plain_of (result s refusal) (Result'.lowers R Refusal.the_row s.laws refusal.laws s.told refusal.told)

-- that with the row, as two fields
abbrev two_of : {R : RattleType} (s : Shown R) → Two (says s) row (Called.the_row R)
two_of {R} s = record {
  name = (Called.struct R).name;
  one = λ d. d.outcome;
  two = λ d. d.table;
  layout_is = refl;
  val_is = (Called'.lowers R s.laws s.told).val_is;
  lawful = λ M 𝓤 𝓛. LL.lawful (Called.the_type R) (Called'.the_laws R s.laws s.told) 𝓛;
  one_is = λ d v g. told (says s) d.outcome _ (LL.owed (Called.the_type R) (Called'.the_laws R s.laws s.told) d _ g).0;
  two_is = λ d v g. told row d.table _ (LL.owed (Called.the_type R) (Called'.the_laws R s.laws s.told) d _ g).1.0;
}

-- and as one value
abbrev whole_of : {R : RattleType} → Shown R → Plain (Called.the_row R)
whole_of {R} s = plain_of (record { laws = Called'.the_row_laws R s.laws; told = Called'.the_told R s.laws s.told; copy = Called'.the_row_copy R s.laws s.copy; facts = Called'.the_row_plain R s.facts }) (Called'.lowers R s.laws s.told)

abbrev left_of : {R : RattleType} → Shown R → Plain (Left.the_row R)
left_of {R} s = plain_of (record { laws = Left'.the_row_laws R s.laws; told = Left'.the_told R s.laws s.told; copy = Left'.the_row_copy R s.laws s.copy; facts = Left'.the_row_plain R s.facts }) (Left'.lowers R s.laws s.told)

abbrev pub outcome : Plain (Result.the_row Answered.the_row Refusal.the_row)
outcome = says answered

abbrev pub ticked : Plain (Result.the_row (Option.the_row Answered.the_row) Refusal.the_row)
ticked = says (option answered)

abbrev pub requested : Two outcome row (Called.the_row Answered.the_row)
requested = two_of answered

abbrev pub ticked_row : Two ticked row (Called.the_row (Option.the_row Answered.the_row))
ticked_row = two_of (option answered)

abbrev pub requested_whole : Plain (Called.the_row Answered.the_row)
requested_whole = whole_of answered

abbrev pub ticked_row_whole : Plain (Called.the_row (Option.the_row Answered.the_row))
ticked_row_whole = whole_of (option answered)

abbrev pub deadline : Plain (Option.the_row u64)
deadline = plain_of (option time) (Option'.lowers u64 time.laws time.told)

abbrev pub next_action_lem : Plain (Result.the_row (Option.the_row u64) Refusal.the_row)
next_action_lem = says (option time)

abbrev pub step : Plain (Left.the_row (Result.the_row SequenceLayerHeader.the_row Misfit.the_row))
step = left_of (result sequence_header misfit)
