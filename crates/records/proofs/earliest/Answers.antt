-- The earlier deadlines, record by record.
use Rattle.std.proofs.Common.{◌≡◌, ◌∙◌, ap, rules}
use Rattle.std.specs.Prelude.{None}
use Rattle.std.proofs.lemmas.Fn.{fold_over, slice_gives, fronts}
use Rattle.protocol.specs.ConnectionTable.{earliest}
use Rattle.records.proofs.Searches.{earliest_in, earliest_none, earliest_more}
use Rattle.records.proofs.earliest.Goals as goal

pub returns : goal.returns
unfolding earliest
returns g c =
    let value = g.R.Record.value in
    let rows = c.args.rows.now in
    fold_over fronts (λ y. y.now) _ (λ ys d. d ≡ earliest_in value None ys) _ (λ ys a x b f j k. (earliest_more value ys x.now a b j (search rules), search rules)) _ _ _ _ (slice_gives c.iter.result) (earliest_none value) c.fold.ensures.ran ∙ ap (earliest_in value None) c.iter.ensures.rest ∙ ap earliest (g.met.R.Record.laws rows)
