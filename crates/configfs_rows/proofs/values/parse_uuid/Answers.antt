use Rattle.std.proofs.Common.{false, sym, refl}
use Rattle.uuid.specs.Text.{parsed}
use Rattle.configfs_rows.proofs.Scans.{clash}
use Rattle.configfs_rows.proofs.Texts.{none_of_no}
use Rattle.configfs_rows.proofs.values.parse_uuid.Goals as goal

pub returns-in-Err : goal.returns-in-Err
returns-in-Err c = sym (none_of_no (parsed c.args.value.now)
    (λ h. clash false (c.in-Err.ensures.ok.1 h) refl))
