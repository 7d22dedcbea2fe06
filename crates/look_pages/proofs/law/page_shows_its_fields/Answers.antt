use Rattle.look_pages.proofs.Placed.{fields_stand, rest_is_zero, page_keeps_its_size}
use Rattle.look_pages.proofs.law.page_shows_its_fields.Goals as goal

pub returns : goal.returns
returns c = record { fields = fields_stand; rest = rest_is_zero; size = page_keeps_its_size }
