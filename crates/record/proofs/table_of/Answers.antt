-- Padded with 0, the bytes read the same; eight records, each of its row.
use Rattle.std.proofs.Common.{rules, ◌≡◌, ap, ◌∙◌, get_or, []}
use Rattle.std.proofs.lemmas.List.FromFn.{fill_by_all}
use Rattle.protocol.specs.ConnectionTable.{fresh}
use Rattle.format.specs.Format.{record_of, rows, table_of}
use Rattle.format.proofs.Reading.{table_agrees, padded_agrees}
use Rattle.record.proofs.table_of.Goals as goal

pub returns : goal.returns
unfolding table_of rows
returns c =
    let made = c.from_fn.ensures.items in
    let b = c.bytes_at-bytes.result in
    let e : c.from_fn.result ≡ table_of b = fill_by_all (λ i. record_of (get_or (rows 8 0 b) i [])) c.from_fn.result 8 (fresh 0) made.long (λ k h. let called = made.at k (fresh 0) h in search rules) in
    e ∙ ap table_of c.bytes_at-bytes.ensures ∙ table_agrees _ _ (padded_agrees 320 c.args.s.now)
