use Rattle.std.proofs.Common.{◌≡◌, ◌+◌, ◌++◌, ◌∷◌, [], List, ℕ, length, length-append, arith}
use Rattle.look_pages.specs.Pages.{Emits}
use Rattle.look_pages.proofs.Parts.{emits_both}
use Rattle.admin_identify.specs.declared.descriptors.TheConstants.{NIDT_NGUID, NIDT_UUID, NIDT_CSI}
use Rattle.admin_identify.specs.Descriptors.{identifier, descriptor_bytes}
use Rattle.admin_identify.proofs.descriptors.emit_descriptors.Goals as goal

pub returns-clause-emits : goal.returns-clause-emits
returns-clause-emits c =
    let uuid = identifier NIDT_UUID c.args.row.now.uuid in
    let nguid = identifier NIDT_NGUID c.args.row.now.nguid in
    let csi : List ℕ = NIDT_CSI ∷ 1 ∷ 0 ∷ 0 ∷ 0 ∷ [] in
    let first = c.emit_identifier-after_uuid in
    let second = c.emit_identifier-after_nguid in
    let at1 : first.result ≡ 0 + length uuid = omega (arith, first.ensures.at) in
    let at2 : second.result ≡ 0 + length uuid + length nguid = omega (arith, first.ensures.at, second.ensures.at) in
    let then1 : Emits 0 (0 + length uuid) first.new.page second.new.page nguid = rw (← at1) second.ensures.emits in
    let then2 : Emits 0 (0 + length uuid + length nguid) second.new.page c.emit.new.to csi = rw (← at2) c.emit.ensures in
    emits_both 0 0 c.args.page.now first.new.page c.emit.new.to uuid (nguid ++ csi) first.ensures.emits
    (emits_both 0 (0 + length uuid) first.new.page second.new.page c.emit.new.to nguid csi then1 then2)

pub returns-clause-small : goal.returns-clause-small
returns-clause-small c =
    let uuid = identifier NIDT_UUID c.args.row.now.uuid in
    let nguid = identifier NIDT_NGUID c.args.row.now.nguid in
    let csi : List ℕ = NIDT_CSI ∷ 1 ∷ 0 ∷ 0 ∷ 0 ∷ [] in
    let first = c.emit_identifier-after_uuid in
    let second = c.emit_identifier-after_nguid in
    omega (arith, first.ensures.at, second.ensures.at, first.ensures.few, second.ensures.few, length-append uuid (nguid ++ csi), length-append nguid csi)
