-- A loop that checks each number with those seen so far.
use Rattle.records.proofs.Areas.{unseen, mark, seen_not, past_not, unseen_so, areas_pass}
use Rattle.picks.proofs.Fold.{checks_more, checks_not, checks_end}
use Rattle.picks.specs.Pick.{checks}
use Rattle.protocol.specs.declared.Connection.{Connection}
use Rattle.records.proofs.Searches.{record_in, long}
use lib.ListN.{get_or, set, length}
use mathlib.Core.Bool.{Bool, true, false}
use mathlib.Core.List.{List}
use mathlib.Core.Path.{◌≡◌, refl, ap, ◌∙◌}
use Prim.Native.Nat.{ℕ, ◌<◌, ◌≤◌}
use borrow.Author.Rules.{rules}
use native.Mathlib.Omega.{arith}
use Rattle.records.proofs.areas_once.Goals as goal

-- the laws of a number of the record that is looked up, however the code has come by it
seen_here : (seen : List Bool) (n : ℕ) (r : Connection) (s : Bool) → r.area ≡ n → s ≡ get_or seen n false → true ≡ s → unseen seen r ≡ false
seen_here seen n r s a e t = rw a (seen_not seen n (t ∙ e))

past_here : (seen : List Bool) (n : ℕ) (r : Connection) → r.area ≡ n → length seen ≡ 8 → length seen ≤ n → unseen seen r ≡ false
past_here seen n r a l h = rw a (past_not seen n l h)

unseen_here : (seen : List Bool) (n : ℕ) (r : Connection) → r.area ≡ n → length seen ≡ 8 → n < length seen → false ≡ get_or seen n false → unseen seen r ≡ true
unseen_here seen n r a l h e = rw a (unseen_so seen n l h e)

marked_here : (seen : List Bool) (n : ℕ) (r : Connection) (xs : List Connection) → r.area ≡ n → checks unseen mark (mark seen r) xs ≡ checks unseen mark (set seen n true) xs
marked_here seen n r xs a = ap (λ k. checks unseen mark (set seen k true) xs) a

pub loop-r-init : goal.loop-r-init
loop-r-init g c = (refl, areas_pass (g.R.Record.values c.args.rows.now))

pub returns-in_default : goal.returns-in_default
returns-in_default g c =
    let l = c.loop-r in
    let value = g.R.Record.value in
    let rows = c.args.rows.now in
    let same = g.met.R.Record.laws rows in
    let d = c.r-item.result in
    let x = get_or (g.R.Record.values rows) l.r-index (value d) in
    let here : x ≡ value (get_or rows l.r-index d) = record_in value rows _ same l.r-index (value d) d (omega (arith, c.type_inv.rows, c.loop-r-test.true)) in
    let look = rw c.in_default.is at c.get.ensures.lookup in
    checks_not unseen mark (g.R.Record.values rows) _ l.seen l.r-index l.invariant.1 (value d) (omega (arith, long value rows _ same, c.type_inv.rows, c.loop-r-test.true)) (seen_here l.seen _ x _ (cc here) (look.3.1 false) (search rules))

pub returns-in_default-2 : goal.returns-in_default-2
returns-in_default-2 g c =
    let l = c.loop-r in
    let value = g.R.Record.value in
    let rows = c.args.rows.now in
    let same = g.met.R.Record.laws rows in
    let d = c.r-item.result in
    let x = get_or (g.R.Record.values rows) l.r-index (value d) in
    let here : x ≡ value (get_or rows l.r-index d) = record_in value rows _ same l.r-index (value d) d (omega (arith, c.type_inv.rows, c.loop-r-test.true)) in
    let look = rw c.in_default.is at c.get.ensures.lookup in
    checks_not unseen mark (g.R.Record.values rows) _ l.seen l.r-index l.invariant.1 (value d) (omega (arith, long value rows _ same, c.type_inv.rows, c.loop-r-test.true)) (past_here l.seen _ x (cc here) l.invariant.0 look.3)

pub loop-r-preserved : goal.loop-r-preserved
loop-r-preserved g c =
    let l = c.loop-r in
    let value = g.R.Record.value in
    let rows = c.args.rows.now in
    let same = g.met.R.Record.laws rows in
    let d = c.r-item.result in
    let x = get_or (g.R.Record.values rows) l.r-index (value d) in
    let here : x ≡ value (get_or rows l.r-index d) = record_in value rows _ same l.r-index (value d) d (omega (arith, c.type_inv.rows, c.loop-r-test.true)) in
    let look = c.in-Some-false.ensures.lookup in
    (search rules, checks_more unseen mark (g.R.Record.values rows) _ l.seen l.r-index l.invariant.1 (value d) (omega (arith, long value rows _ same, c.type_inv.rows, c.loop-r-test.true)) (unseen_here l.seen _ x (cc here) l.invariant.0 look.3.0 (rw (← look.3.1 false) (search rules))) ∙ marked_here l.seen _ x _ (cc here))

pub returns : goal.returns
returns g c =
    let l = c.loop-r in
    let rows = c.args.rows.now in
    checks_end unseen mark (g.R.Record.values rows) _ l.seen l.r-index l.invariant.1 (omega (arith, long g.R.Record.value rows _ (g.met.R.Record.laws rows), c.type_inv.rows, c.loop-r-test.false))
