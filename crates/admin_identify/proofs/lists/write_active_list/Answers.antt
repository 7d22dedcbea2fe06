use Rattle.std.proofs.Common.{◌≡◌, ◌∙◌, length, List, ℕ, arith}
use Rattle.sqe_cqe.specs.Answers.{view_of}
use Rattle.look_pages.specs.declared.walk.TheConstants.{PAGE}
use Rattle.look_pages.specs.declared.list.Choice.TheVariants.{Enabled}
use Rattle.look_pages.specs.Chosen.{chosen_nsids}
use Rattle.look_pages.specs.Pages.{Emits, zeros, words}
use Rattle.look_pages.proofs.Parts.{written}
use Rattle.admin_identify.specs.ActiveList.{active_list_page}
use Rattle.admin_identify.proofs.Active.{cut_list}
use Rattle.admin_identify.proofs.lists.write_active_list.Goals as goal

pub returns-clause-page : goal.returns-clause-page
unfolding active_list_page
returns-clause-page g c =
    let v = view_of (g.L.Look.told (g.L.Look.behind c.args.look.now)) c.args.b.now in
    let list = chosen_nsids (Enabled c.args.above) v in
    let to = c.emit_nsids-end.new.to in
    let emits : Emits 0 0 (zeros PAGE) to (words list) = rw (← c.requires.zeros) c.emit_nsids-end.ensures.emits in
    let size : length c.args.page.now ≡ PAGE = c.requires.size in
    let long : length to ≡ PAGE = omega (arith, size, c.emit_nsids-end.auto.to) in
    written 0 PAGE to (words list) long emits ∙ cut_list list
