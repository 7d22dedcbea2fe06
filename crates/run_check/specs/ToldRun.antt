-- The run that the records of a finished run tell.
use Rattle.std.specs.Prelude.{List, ◌∷◌}
use Rattle.std.specs.List.{flat_map}
use Rattle.run_inputs.specs.Known.{Known}
use Rattle.run_transcript.specs.Runs.{Placed, Run}
use Rattle.run_verdicts.specs.Nexts.{in_places}
use Rattle.check_records.specs.Told.{editor_told, queues_told}
use Rattle.check_records.specs.Seats.{all_responses}
use Rattle.run_check.specs.declared.records.Records.{Records}
use Rattle.run_check.specs.Finished.{Finished, lines_of, number_of}

-- the records that the program has in hand, of a run that had read so much
abbrev pub finished_of : Known → Records → Finished
finished_of s r = record {
  known = s;
  responses = all_responses r.responses.items;
  journal = r.journal;
}

-- what its queues did, and what its editor did
abbrev pub queues_of : Finished → List (List Placed)
queues_of f = queues_told 1 f.known.files f.responses

abbrev pub editor_of : Finished → List Placed
editor_of f = editor_told f.known.script (lines_of f.journal)

-- The run that is told: it had read so much, its callers did what the records tell, and its history
-- is all that in the order of places.
abbrev pub run_of : Finished → Run
run_of f = record {
  plan = f.known.plan;
  start = f.known.start;
  passed_over = f.known.passed_over;
  script = f.known.script;
  files = f.known.files;
  editor = editor_of f;
  queues = queues_of f;
  history = in_places (number_of f) (flat_map (λ list. list) (editor_of f ∷ queues_of f));
}
