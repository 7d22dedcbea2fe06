-- A place of a list that is lent.
use Rattle.std.specs.Prelude.{ℕ, List, slice_set}
use Rattle.std.specs.Borrow.{Lends, MutBor, Fml}
use denote.RattleType.{RattleType}
use Rattle.lists.specs.contracts.items.Items.{the_row}

-- what is written through r stands at i when the loan ends
abbrev pub LendsItem : (R : RattleType) → MutBor (List R.Denot) → ℕ → MutBor R.Denot → Fml
LendsItem R s i r = Lends (the_row R) R s r (slice_set s.now i)
