-- The row that a table's bytes stand for: eight records, sound where the bytes are a sound table's, and then theirs.
use Prim.Native.Nat.{ℕ}
use mathlib.Core.Path.{◌≡◌, refl, sym, ap, ◌∙◌}
use mathlib.Core.Bool.{Bool, true, false, ◌&&◌}
use mathlib.Core.List.{List}
use lib.ListN.{length}
use Rattle.picks.specs.Pick.{pick, every, count}
use Rattle.picks.proofs.Picks.{pick_t, pick_f, pick_elim}
use Rattle.picks.proofs.Keep.{by_test, not_both}
use Rattle.protocol.specs.declared.Connection.{Connection}
use Rattle.protocol.specs.Constants.{RECORDS}
use Rattle.protocol.specs.ConnectionTable.{sound_table, ordered, areas_once}
use Rattle.format.specs.Format.{table_of, is_table}
use Rattle.format.proofs.Ranges.{length_table_of}
use Rattle.outcomes.specs.Outcomes.{no_table, row_of}

pub no_table_unsound : sound_table no_table ≡ false
unfolding sound_table ordered areas_once every count pick RECORDS
no_table_unsound = refl

-- records that are read where a test holds, and else none of a table
module _ (row : List Connection) (b : Bool) where
  pub eight_if : length row ≡ 8 → length (pick b row no_table) ≡ 8
  eight_if l = pick_elim (λ (t : List Connection). length t ≡ 8) b row no_table (λ e. l) (λ e. refl)

  pub sound_if : (b && sound_table row) ≡ sound_table (pick b row no_table)
  sound_if =
      by_test b
      (λ e. ap (λ a. a && sound_table row) e ∙ ap sound_table (pick_t _ _ _ _ e refl))
      (λ e. ap (λ a. a && sound_table row) e ∙ sym no_table_unsound ∙ ap sound_table (pick_f _ _ _ _ e refl))

  pub row_if : sound_table (pick b row no_table) ≡ true → pick b row no_table ≡ row
  row_if s =
      by_test b
      (λ e. sym (pick_t _ _ _ _ e refl))
      (λ e. not_both s (ap sound_table (sym (pick_f _ _ _ _ e refl)) ∙ no_table_unsound))

-- the row that bytes stand for
module _ (known : Bool) (bytes : List ℕ) where
  pub eight_row : length (row_of known bytes) ≡ 8
  unfolding row_of
  eight_row = eight_if (table_of bytes) (known && is_table bytes) (length_table_of bytes)

  pub sound_row : (known && (is_table bytes && sound_table (table_of bytes))) ≡ sound_table (row_of known bytes)
  unfolding row_of
  sound_row = regroup known (is_table bytes) (sound_table (table_of bytes)) ∙ sound_if (table_of bytes) (known && is_table bytes)
    where
      regroup : (a b c : Bool) → (a && (b && c)) ≡ ((a && b) && c)
      regroup true b c = refl
      regroup false b c = refl

  pub row_is : sound_table (row_of known bytes) ≡ true → row_of known bytes ≡ table_of bytes
  unfolding row_of
  row_is = row_if (table_of bytes) (known && is_table bytes)
