-- A test of every row.
use Rattle.std.proofs.Common.{rules, tests, ◌∙◌}
use Rattle.std.proofs.lemmas.Iterator.{YieldsList-from_slice, cases_from_all}
use Rattle.std.specs.Bool.{⊤}
use Rattle.format.specs.Format.{rows}
use Rattle.packing.specs.Plain.{SameRecord}
use Rattle.packing.proofs.Plain.{same_table, true_case}
use Rattle.packing.proofs.is_plain.Goals as goal

pub returns : goal.returns
returns c t =
    same_table c.args.t.now c.told-t (true_case _ c.all.result (cases_from_all c.all.new.self _ c.all.result SameRecord (λ _. ⊤) c.all.ensures.ran (YieldsList-from_slice (rows 8 0 c.args.t.now) (c.iter.ensures.rest ∙ c.rows.ensures)) (λ x q k. search (rules, tests)) (λ x q k. tt)) t)
