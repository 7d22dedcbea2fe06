-- A seat of a twin table as it is opened.
use Rattle.std.specs.Prelude.{◌≡◌, ℕ}
use Rattle.atomic_table.specs.Seated.{TableId}
use Rattle.target_table.specs.declared.table.Seat.{Seat}
use Rattle.twin_tables.specs.Keeping.{Rests}

-- it is of this table, has this number and so many places left
pub record IsOpened (table : TableId) (number left : ℕ) (s : Seat ℕ) : Type 0 where
  pub own : s.base.table_id ≡ table
  pub number_is : s.number ≡ number
  pub left_is : s.left ≡ left
  pub rests : Rests number s.base.me.0
