use Rattle.nvmetcli_json.proofs.Standing.{nqn_is_text}
use Rattle.nvmetcli_json.proofs.saving.name.Goals as goal

pub text-requires : goal.text-requires
text-requires c = rw c.as_bytes.ensures (nqn_is_text c.args.nqn.now c.certify.ensures)
