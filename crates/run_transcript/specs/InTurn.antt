-- The order of a run by one caller.
use Rattle.std.specs.Prelude.{◌≡◌, List, [], ◌∷◌, ◌++◌, drop}
use Rattle.plan_files.specs.Capsules.{Capsule}
use Rattle.run_transcript.specs.Runs.{Placed, Run, placed_from}
use Rattle.run_transcript.specs.Served.{front_len, body_of, fronts, finals}

-- what the queues made of their files behind the fronts, file after file, without the final polls
abbrev pub rests : List (List Capsule) → List (List Placed) → List Placed
rests [] lists = []
rests (file ∷ files) [] = []
rests (file ∷ files) (list ∷ lists) = drop (front_len file) (body_of file list)
    ++ rests files lists

-- first the fronts, then the script, then the rest of each file, then the final polls
abbrev pub in_turn : Run → List Placed
in_turn run = fronts run.files run.queues ++ (run.editor ++ (rests run.files run.queues
    ++ finals run.files run.queues))

-- one caller made all calls in this order
abbrev pub IsInTurn : Run → Type 0
IsInTurn run = in_turn run ≡ placed_from 0 run.history
