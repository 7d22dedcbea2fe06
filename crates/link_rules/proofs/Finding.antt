-- A row that was found by its key stands at its position.
use Rattle.std.proofs.Common.{◌≡◌, ℕ, ◌==◌, List, Option, Some, None, refl, sym, ap, subst, ◌∙◌, IsTrue}
use Rattle.std.specs.Prelude.{MatchOption, option_copied}
use denote.Ref.{Bor}
use Rattle.std.specs.FinMap as map
use Rattle.configfs_rows.specs.declared.ports.PortRow.{PortRow}
use Rattle.configfs_rows.specs.declared.subsystems.SubsystemRow.{SubsystemRow}
use Rattle.configfs_tree.specs.Links.{SubsystemPositions, PortPositions}
use Rattle.configfs_tree.specs.Standing.{IsStanding}
use Rattle.configfs_tree.specs.declared.configuration.Configuration.{Configuration}
use Rattle.link_rules.specs.Found.{SubsystemFound, PortFound}
use Rattle.link_rules.proofs.Maps.{found_any}

pub subsystem_found : (t : Configuration) (sub : List ℕ) (s : SubsystemRow)
    → map.get t.settings.subsystems sub ≡ Some s → IsStanding t → SubsystemPositions t
    → SubsystemFound t sub s
subsystem_found t sub s e standing positions =
    let stands = positions.of_name sub s e in
    record {
      found = e;
      stands = stands;
      in_use = found_any (λ (x : SubsystemRow). x.at == s.at)
          (map.values t.settings.subsystems) s stands;
      named = standing.placed.subsystems.own_key sub s e;
    }

pub port_found : (t : Configuration) (id : ℕ) (p : PortRow) → map.get t.settings.ports id ≡ Some p
    → IsStanding t → PortPositions t → PortFound t id p
port_found t id p e standing positions =
    let stands = positions.of_id id p e in
    record {
      found = e;
      stands = stands;
      in_use = found_any (λ (x : PortRow). x.at == p.at) (map.values t.settings.ports) p stands;
      numbered = standing.placed.ports.own_key id p e;
    }

pub subsystem_of : (t : Configuration) (sub : List ℕ) (r : Option (Bor SubsystemRow))
    → option_copied r ≡ map.get t.settings.subsystems sub → IsStanding t → SubsystemPositions t
    → MatchOption r (map.get t.settings.subsystems sub ≡ None) (λ s. SubsystemFound t sub s.now)
subsystem_of t sub None e standing positions = sym e
subsystem_of t sub (Some s) e standing positions = subsystem_found t sub s.now
    (sym e) standing positions

pub port_of : (t : Configuration) (id : ℕ) (r : Option (Bor PortRow))
    → option_copied r ≡ map.get t.settings.ports id → IsStanding t → PortPositions t
    → MatchOption r (map.get t.settings.ports id ≡ None) (λ p. PortFound t id p.now)
port_of t id None e standing positions = sym e
port_of t id (Some p) e standing positions = port_found t id p.now (sym e) standing positions
