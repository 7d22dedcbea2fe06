-- Starts hold no command and have few disks.
use Rattle.std.proofs.Common.{◌≡◌, ◌≤◌, List, [], length, map, refl, arith}
use Rattle.std.proofs.lemmas.List.{length-map}
use Rattle.mem_bdev.specs.declared.disk.DiskLine.{DiskLine}
use Rattle.sqe_cqe.specs.Sqe.{payload_len, direction_of}
use Rattle.configfs_tree.specs.Start.{empty_tree}
use Rattle.tree_target.specs.Loads.{blank_of}
use Rattle.target_states.specs.Sizes.{AreWhole, IsStart}
use Rattle.target_states.specs.Starts.{LoadedStarts, SimpleStarts, no_entry, no_inputs, empty_begun}

pub loaded_starts : LoadedStarts
loaded_starts t lines ports i few whole =
    let same : length (map blank_of lines) ≡ length lines = length-map lines blank_of in
    record { idle = refl; few_disks = omega (arith, same, few); whole = whole }

pub simple_starts : SimpleStarts
simple_starts d i whole = record { idle = refl; few_disks = omega arith; whole = whole }

no_data : 0 ≡ payload_len no_entry
unfolding payload_len direction_of
no_data = refl

nothing_whole : AreWhole no_inputs
nothing_whole queue number = no_data

no_disks : length (let x : List DiskLine = [] in x) ≤ 64
no_disks = omega arith

pub empty_starts : IsStart empty_begun
empty_starts = loaded_starts (empty_tree []) [] [] no_inputs no_disks nothing_whole
