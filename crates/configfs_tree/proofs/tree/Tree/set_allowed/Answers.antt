use Rattle.std.proofs.Common.{ap, ◌∙◌}
use Rattle.std.specs.FinMap as map
use Rattle.configfs_tree.specs.Links.{with_allowed, subsystem_row, allows_any}
use Rattle.configfs_tree.specs.declared.configuration.Configuration.{Configuration}
use Rattle.configfs_tree.proofs.Stands.{either_way, allow_stands}
use Rattle.configfs_tree.proofs.tree.Tree.set_allowed.Goals as goal

pub invariant_of-self : goal.invariant_of-self
invariant_of-self c =
    let t = c.self.inside.configuration in
    either_way c.put_allowed.result t c.put_allowed.new.self
    (with_allowed t c.args.sub c.args.host.now c.args.linked) c.put_allowed.ensures.ok
    c.put_allowed.ensures.err
    (allow_stands t c.args.sub c.args.host.now c.args.linked
    (ap (λ (u : Configuration). map.contains_key u.settings.hosts c.args.host.now) c.self.view_is
    ∙ c.requires.host)
    (λ linked. ap (λ (u : Configuration). allows_any (subsystem_row u c.args.sub)) c.self.view_is
    ∙ c.requires.listed linked) c.self.invariant) c.self.invariant
