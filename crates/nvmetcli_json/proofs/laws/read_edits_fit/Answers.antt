use Rattle.nvmetcli_json.proofs.Fitting.{edits_fit}
use Rattle.nvmetcli_json.proofs.laws.read_edits_fit.Goals as goal

pub returns : goal.returns
returns c = λ d es is. (edits_fit d es is).all
