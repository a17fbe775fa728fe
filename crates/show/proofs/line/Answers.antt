-- The text's part with this number, or none.
use Rattle.std.proofs.Common.{rules, tests, eqb, ◌≡◌, ℕ, List, Bor, None, Some, Option, refl}
use Rattle.std.specs.Option.{option_map, unwrap_or}
use Rattle.std.proofs.lemmas.Iterator.Consumers.{nth_from_yields_List}
use Rattle.std.proofs.lemmas.Iterator.Splits.{YieldsList-from_slice_split}
use Rattle.std.proofs.lemmas.Option.{unwrap_or-slice_get}
use Rattle.show.proofs.Texts.{line_part}
use Rattle.show.proofs.line.Goals as goal

read_or : (r : Option (Bor (List ℕ))) (d : Bor (List ℕ)) → (unwrap_or r d).now ≡ unwrap_or (option_map (λ x. x.now) r) d.now
read_or None d = refl
read_or (Some x) d = refl

pub returns : goal.returns
returns c =
    let part = nth_from_yields_List c.nth.result c.nth.new.self _ c.nth.ensures.ran (YieldsList-from_slice_split _ (λ x. eqb x 10) c.args.text.now c.split.ensures.rest c.split.ensures.done c.split.ensures.closure (λ x r q k. search (rules, tests))) in
    search (rules, part, read_or, unwrap_or-slice_get, line_part)
