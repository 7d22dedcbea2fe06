use Rattle.std.proofs.Common.{◌≡◌, All, drop, length}
use Rattle.check_records.specs.Seats.{AreRead, all_responses, files_of}
use Rattle.run_inputs.specs.Views.{IsEarlier, seen}
use Rattle.run_check.proofs.Files.{SoFar}
use Rattle.run_check.proofs.response_files_read.read_response_files.Given as goal

abbrev pub invariant-loop-i : goal.invariant-loop-i
invariant-loop-i g l = record {
  ready : All AreRead l.read.items;
  all : length l.read.items ≡ l.i;
  later : IsEarlier (seen (g.F.Files.tells l.initial.files) (g.F.Files.told l.initial.files)
      (g.F.Files.faults l.initial.files) (g.F.Files.last l.initial.files))
      (seen (g.F.Files.tells l.files) (g.F.Files.told l.files) (g.F.Files.faults l.files)
      (g.F.Files.last l.files));
  so_far : SoFar (seen (g.F.Files.tells l.initial.files) (g.F.Files.told l.initial.files)
      (g.F.Files.faults l.initial.files) (g.F.Files.last l.initial.files)) l.lines
      (files_of l.capsules) l.i (drop l.i l.lines) (files_of (drop l.i l.capsules))
      (all_responses l.read.items);
}
