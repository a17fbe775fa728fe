-- The place that the search gives, or the length.
use Rattle.std.proofs.Common.{rules, tests, eqb, ◌∙◌}
use Rattle.std.proofs.lemmas.Iterator.{YieldsList-from_slice}
use Rattle.std.proofs.lemmas.Iterator.Search.{position_from_yields_List}
use Rattle.show.proofs.Texts.{found}
use Rattle.show.proofs.find.Goals as goal

pub returns-clause-value : goal.returns-clause-value
returns-clause-value c =
    let at = position_from_yields_List (λ x. eqb x c.args.mark) _ _ c.position.result c.position.ensures.ran (YieldsList-from_slice c.args.text.now cc) (λ x b q k. search (rules, tests)) in
    c.unwrap_or.ensures ∙ found (λ x. eqb x c.args.mark) c.args.text.now c.position.result at
