use Rattle.tree_target.proofs.SimpleEdits.{subsystem_in_use, port_in_use, subsystem_room, port_room, attached_is}
use Rattle.tree_target.proofs.simple.simple_tree.Goals as goal

pub attach-requires-clause-sub_in_use : goal.attach-requires-clause-sub_in_use
attach-requires-clause-sub_in_use c = subsystem_in_use _ c.args.disk.now.path c.in_ok-tree.ensures

pub attach-requires-clause-port_in_use : goal.attach-requires-clause-port_in_use
attach-requires-clause-port_in_use c = port_in_use _ c.args.disk.now.path c.in_ok-tree.ensures

pub attach-requires-clause-sub_room : goal.attach-requires-clause-sub_room
attach-requires-clause-sub_room c = subsystem_room _ c.args.disk.now.path c.in_ok-tree.ensures

pub attach-requires-clause-port_room : goal.attach-requires-clause-port_room
attach-requires-clause-port_room c = port_room _ c.args.disk.now.path c.in_ok-tree.ensures

pub returns : goal.returns
returns c = attached_is _ _ c.args.disk.now.path c.in_ok-tree.ensures c.attach.ensures
