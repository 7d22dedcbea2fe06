use Rattle.std.proofs.Common.{◌≡◌, ◌∙◌, length, arith}
use Rattle.look_pages.specs.declared.walk.TheConstants.{PAGE}
use Rattle.look_pages.specs.Pages.{Emits, zeros, filled}
use Rattle.look_pages.proofs.Parts.{written_filled, window-all}
use Rattle.look_pages.proofs.Ranges.{length-filled}
use Rattle.admin_identify.specs.Descriptors.{descriptor_bytes, descriptor_page}
use Rattle.admin_identify.proofs.descriptors.write_descriptors.Goals as goal

pub returns-in-On-clause-page : goal.returns-in-On-clause-page
unfolding descriptor_page
returns-in-On-clause-page g c =
    let bytes = descriptor_bytes c.in-On.row in
    let to = c.emit_descriptors.new.page in
    let emits : Emits 0 0 (zeros PAGE) to bytes = rw (← c.requires.zeros) c.emit_descriptors.ensures.emits in
    let size : length c.args.page.now ≡ PAGE = c.requires.size in
    let long : length to ≡ PAGE = omega (arith, size, c.emit_descriptors.auto.page) in
    rw (← c.in-On.ensures.value)
    (written_filled 0 PAGE PAGE to bytes long emits ∙ window-all (filled PAGE bytes) PAGE (length-filled PAGE bytes c.emit_descriptors.ensures.small))
