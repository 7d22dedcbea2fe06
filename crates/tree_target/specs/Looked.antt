-- What the code sees of a tree, by positions.
use Rattle.std.specs.Prelude.{List, is_some}
use Rattle.mem_bdev.specs.Blocks.{Blocks}
use Rattle.sqe_cqe.specs.Answers.{Answers}
use Rattle.sqe_cqe.specs.One.{plain_offers}
use Rattle.sqe_cqe.specs.Ready.{ready_in}
use Rattle.sqe_cqe.specs.declared.controllers.ControllerRow.{ControllerRow}
use Rattle.change_stamps.specs.Stamps.{Stamps, space_stamp, ana_stamp}
use Rattle.configfs_tree.specs.declared.configuration.Configuration.{Configuration}
use Rattle.configfs_tree.specs.Links.{subsystem_row, port_row}
use Rattle.tree_target.specs.Views.{seen_of, space_in, group_state, group_in}

abbrev pub tree_answers : Configuration → List ControllerRow → List Blocks → Stamps → Answers
tree_answers t controllers blocks stamps = record {
  ready = λ c. ready_in controllers c;
  ns = λ s n. seen_of blocks (space_in n (subsystem_row t s));
  ana = λ p g. group_state (group_in g (port_row t p));
  group_made = λ p g. is_some (group_in g (port_row t p));
  ns_stamp = λ s n. space_stamp stamps s n;
  ana_stamp = λ s p. ana_stamp stamps s p;
  ana_count = t.settings.ana_count;
  serial = stamps.serial;
  bars = λ c s n o. 0;
  offers = plain_offers;
  marks = λ s n. 0;
  group_count = λ p s g. t.settings.ana_count;
}
