use Rattle.std.proofs.Common.{ap, sym, ◌∙◌}
use lib.ListN.{get_elem?}
use Rattle.table_seats.proofs.Eight.{all_blank}
use Rattle.table_seats.proofs.meaning.open_small.Goals as goal

pub open-requires-clause-extents : goal.open-requires-clause-extents
open-requires-clause-extents c n x e = all_blank 8 n x (ap (λ l. get_elem? l n) (sym c.in_ok-slots.ensures) ∙ e)
