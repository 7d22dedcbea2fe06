use Rattle.std.proofs.Common.{ap, ◌∙◌}
use Rattle.configfs_tree.specs.Links.{with_link, port_row, is_loop}
use Rattle.configfs_tree.specs.declared.configuration.Configuration.{Configuration}
use Rattle.configfs_tree.proofs.Stands.{either_way, link_stands}
use Rattle.configfs_tree.proofs.tree.Tree.set_link.Goals as goal

pub invariant_of-self : goal.invariant_of-self
invariant_of-self c =
    let t = c.self.inside.configuration in
    either_way c.put_link.result t c.put_link.new.self (with_link t c.args.port c.args.sub
    c.args.linked) c.put_link.ensures.ok c.put_link.ensures.err
    (link_stands t c.args.port c.args.sub c.args.linked
    (λ linked. ap (λ (u : Configuration). is_loop (port_row u c.args.port)) c.self.view_is
    ∙ c.requires.loop_port linked) c.self.invariant) c.self.invariant
