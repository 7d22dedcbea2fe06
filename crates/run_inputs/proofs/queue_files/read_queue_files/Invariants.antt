use Rattle.std.proofs.Common.{◌≡◌, ◌≤◌, All, drop, length, map}
use Rattle.run_inputs.specs.Ready.{IsReady, capsules_of_file}
use Rattle.run_inputs.specs.Views.{IsEarlier, seen}
use Rattle.run_inputs.proofs.QueueLoop.{SoFar}
use Rattle.run_inputs.proofs.queue_files.read_queue_files.Given as goal

abbrev pub invariant-loop-i : goal.invariant-loop-i
invariant-loop-i g l = record {
  input_small : l.input ≤ 536870912;
  output_small : l.output ≤ 536870912;
  ready : All IsReady l.read.items;
  all : length l.read.items ≡ l.i;
  later : IsEarlier (seen (g.F.Files.tells l.initial.files) (g.F.Files.told l.initial.files)
      (g.F.Files.faults l.initial.files) (g.F.Files.last l.initial.files))
      (seen (g.F.Files.tells l.files) (g.F.Files.told l.files) (g.F.Files.faults l.files)
      (g.F.Files.last l.files));
  so_far : SoFar (seen (g.F.Files.tells l.initial.files) (g.F.Files.told l.initial.files)
      (g.F.Files.faults l.initial.files) (g.F.Files.last l.initial.files)) l.lines l.i
      (drop l.i l.lines) (map capsules_of_file l.read.items) l.input l.output;
}
