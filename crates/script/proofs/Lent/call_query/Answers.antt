-- The query on the table.
use mathlib.Core.Path.{◌∙◌}
use Rattle.script.specs.Playing.{did}
use Rattle.script.proofs.Through.{query_through}
use Rattle.script.proofs.Lent.call_query.Goals as goal

pub returns : goal.returns
returns c =
    query_through c.args.self c.records_of.ensures.1 (c.if-self-records_of.false ∙ c.records_of.ensures.0) (did c.calls-2.result) c.next_action_time.result c.next_action_time.ensures c.calls-2.ensures.0
