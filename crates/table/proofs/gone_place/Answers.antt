-- The first record that is used and closed.
use Rattle.connection.specs.Among.{is_gone}
use Rattle.row.proofs.Walk.{searched_eight}
use Rattle.std.proofs.lemmas.Iterator.{YieldsList-from_slice}
use borrow.Author.Rules.{rules}
use Rattle.table.proofs.gone_place.Goals as goal

pub returns-clause-place : goal.returns-clause-place
returns-clause-place c = searched_eight is_gone c.args.t _ _ c.position.ensures.ran (YieldsList-from_slice c.args.t c.iter.ensures.rest) (λ x b q k. search rules) (search rules)
