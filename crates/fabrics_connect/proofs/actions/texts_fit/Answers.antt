use Rattle.fabrics_connect.proofs.Kept.{short_len, nqn_len, model_len}
use Rattle.std.proofs.Common.{◌≤◌, length, arith}
use Rattle.fabrics_connect.proofs.actions.texts_fit.Goals as goal

pub returns-clause-nqn : goal.returns-clause-nqn
returns-clause-nqn c =
    let row = c.args._row.now in
    let found = c.subsystem_positions.ensures.of_position c.args._at row c.requires in
    let short : length row.nqn
    ≤ 223 = nqn_len row.nqn (c.certify.ensures.sound.subsystems row.nqn row found).nqn in
    omega (arith, short)

pub returns-clause-serial : goal.returns-clause-serial
returns-clause-serial c =
    let row = c.args._row.now in
    let found = c.subsystem_positions.ensures.of_position c.args._at row c.requires in
    short_len row.serial 20 (c.certify.ensures.sound.subsystems row.nqn row found).serial

pub returns-clause-model : goal.returns-clause-model
returns-clause-model c =
    let row = c.args._row.now in
    let found = c.subsystem_positions.ensures.of_position c.args._at row c.requires in
    model_len row.model_name (c.certify.ensures.sound.subsystems row.nqn row found).model_name
