-- "1 request, 2 tick, 3 deadline query, 4 image, 5 table, 6 area, 7 lengths": the item of a number
use Rattle.std.specs.Prelude.{ℕ, Result, Ok, Err}
use Rattle.items.specs.declared.Item.{Item}
use Rattle.items.specs.declared.Item.TheVariants.{Request, Tick, Query, Image, Table, Area, Lengths}
use Rattle.items.specs.declared.UnknownItem.{UnknownItem}
use Rattle.items.specs.Items.{by_kind}

unfoldable pub item_of : ℕ → Result Item UnknownItem
item_of n = by_kind n (Ok Request) (Ok Tick) (Ok Query) (Ok Image) (Ok Table) (Ok Area) (Ok Lengths) (Err (record { 0 = n }))
