-- A test of every record.
use Rattle.std.proofs.Common.{rules, tests, sym, ◌∙◌, List, ℕ}
use Rattle.std.proofs.lemmas.Iterator.{YieldsList-from_slice}
use Rattle.std.proofs.lemmas.Iterator.Search.{all_from_yields_List}
use Rattle.picks.proofs.Keep.{all_every, every_map}
use Rattle.format.specs.Format.{record_of, rows, table_of}
use Rattle.packed.specs.Packed.{is_quiet}
use Rattle.packed.proofs.is_quiet.Goals as goal

pub returns : goal.returns
unfolding table_of
returns c =
    let rs = rows 8 0 c.args.t.now in
    let quiet = λ (x : List ℕ). is_quiet c.args.clock (record_of x) in
    all_from_yields_List quiet _ _ c.all.result c.all.ensures.ran (YieldsList-from_slice rs (c.iter.ensures.rest ∙ c.rows.ensures)) (λ x b q k. search (rules, tests)) ∙ all_every quiet rs ∙ sym (every_map (is_quiet c.args.clock) record_of rs)
