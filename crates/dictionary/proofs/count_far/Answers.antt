-- Where the chain stops, or the length.
use Rattle.std.proofs.Common.{◌≡◌, ℕ, ◌≤◌, Bool, true, false, cond, ltb, Some, None, refl, ap, ◌∙◌, length, unwrap_or, arith, rules, tests}
use borrow.Author.Tests.{ltb-false}
use Rattle.std.proofs.lemmas.Iterator.{YieldsList-from_slice}
use Rattle.std.proofs.lemmas.Iterator.Search.{position_from_yields_List}
use Rattle.std.proofs.lemmas.List.Sums.{prefix_len-le-length}
use Rattle.std.specs.List.{position_or_len}
use Rattle.dictionary.specs.Skipping.{is_near_four}
use Rattle.dictionary.proofs.count_far.Goals as goal

-- a place, or the length where there is none
or_length : (b : Bool) (k n : ℕ) → ltb k n ≡ b → k ≤ n → unwrap_or (cond b (Some k) None) n ≡ k
or_length true k n e h = refl
or_length false k n e h = omega (arith, ltb-false k n e)

pub returns-clause-first : goal.returns-clause-first
returns-clause-first c =
    let a = c.args in
    let all = a.fours.now in
    let near = is_near_four a.low a.high in
    let k = position_or_len near all in
    c.unwrap_or.ensures ∙ ap (λ o. unwrap_or o (length all)) (position_from_yields_List near _ _ c.position-first.result c.position-first.ensures.ran (YieldsList-from_slice all cc) (λ x b q k. search (rules, tests))) ∙ or_length (ltb k (length all)) k (length all) refl (prefix_len-le-length _ all)
