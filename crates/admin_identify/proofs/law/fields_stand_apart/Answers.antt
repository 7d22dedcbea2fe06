use Rattle.std.proofs.Common.{refl, arith}
use Rattle.admin_identify.specs.Apart.{ControllerFieldsApart, NamespaceFieldsApart}
use Rattle.admin_identify.proofs.law.fields_stand_apart.Goals as goal

controller_apart : ControllerFieldsApart
controller_apart c offers serial model name = (omega arith, serial, (omega arith, model, (omega arith, refl, (omega arith, refl, (omega arith, refl, (omega arith, refl, (omega arith, refl, (omega arith, refl, (omega arith, refl, (omega arith, refl, (omega arith, refl, (omega arith, refl, (omega arith, refl, (omega arith, refl, (omega arith, refl, (omega arith, refl, (omega arith, refl, (omega arith, refl, (omega arith, refl, (omega arith, refl, (omega arith, refl, (omega arith, refl, (omega arith, refl, (omega arith, refl, (omega arith, name, (omega arith, refl, (omega arith, refl, omega arith)))))))))))))))))))))))))))

namespace_apart : NamespaceFieldsApart
namespace_apart row nuse rescap marks nguid = (omega arith, refl, (omega arith, refl, (omega arith, refl, (omega arith, refl, (omega arith, refl, (omega arith, refl, (omega arith, refl, (omega arith, refl, (omega arith, nguid, (omega arith, refl, omega arith))))))))))

pub returns : goal.returns
returns c = record { controller = controller_apart; namespace = namespace_apart }
