-- An ordered row has its used records first.
use mathlib.Core.Path.{◌≡◌, refl, sym, ◌∙◌}
use mathlib.Core.Bool.{true}
use mathlib.Core.List.{List, [], ◌∷◌}
use Rattle.picks.specs.Pick.{every}
use Rattle.picks.proofs.Keep.{by_test, every_follows, of_both}
use Rattle.picks.proofs.Picks.{pick_t, pick_f}
use Rattle.protocol.specs.declared.Connection.{Connection}
use Rattle.protocol.specs.ConnectionTable.{is_unused, is_fresh, ascends, ordered}
use Rattle.records.proofs.Order.{fresh_unused}
use Rattle.table.specs.Row.{used_first}

pub ordered_used_first : (t : List Connection) → ordered t ≡ true → used_first t ≡ true
unfolding ordered used_first
ordered_used_first [] e = refl
ordered_used_first (r ∷ rs) e =
    by_test r.used
    (λ u. sym (pick_t _ _ _ _ u (sym (ordered_used_first rs (of_both (ascends r rs) (ordered rs) (pick_t _ _ _ _ u refl ∙ e)).1))))
    (λ u. sym (pick_f _ _ _ _ u (sym (every_follows is_fresh is_unused rs fresh_unused (of_both (is_fresh r) (every is_fresh rs) (pick_f _ _ _ _ u refl ∙ e)).1))))
