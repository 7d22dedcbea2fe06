-- Files of records read one after another: fronts, and what comes after them.
use Rattle.std.proofs.Common.{◌≡◌, ℕ, false, List, [], ◌∷◌, ◌++◌, Result, Ok, Err, subst, inl, inr, arith}
use Rattle.run_outcomes.specs.declared.numbers.FileNo.{FileNo}
use Rattle.run_outcomes.specs.declared.faults.Fault.{Fault}
use Rattle.run_outcomes.specs.declared.faults.Fault.TheVariants as fault
use Rattle.run_outcomes.specs.Outsides.{FilesView, FailedCall}
use Rattle.run_inputs.specs.Views.{IsEarlier}
use Rattle.run_inputs.proofs.OneFile.{earlier_again, holds_then}
use Rattle.run_check.specs.Finished.{Finished}
use Rattle.run_check.specs.RecordFiles.{RecordFile, gives}
use Rattle.run_check.specs.RecordReading.{Saying, Then, Walk, ReadsSo, WasRead, Reading, ReadOn, StoppedIn}

-- ---- one file, as an earlier view tells it
reads_then : (before now : FilesView) (name : List ℕ) (given : List ℕ → Result Finished Fault)
    (r : Result Finished Fault) → IsEarlier before now
    → ReadsSo now.told name given r → ReadsSo before.told name given r
reads_then before now name given r e h = record {
  bytes = h.bytes;
  held = holds_then before now name h.bytes e h.held;
  is = h.is;
}

fails_then : (before now after : FilesView) (name : List ℕ) → IsEarlier before now
    → FailedCall false name now after → FailedCall false name before after
fails_then before now after name e h = record {
  last = h.last;
  rose = omega (arith, h.rose, e.faults);
}

pub reading_then : (before now after : FilesView) (file : FileNo) (name : List ℕ)
    (given : List ℕ → Result Finished Fault) (r : Result Finished Fault)
    → IsEarlier before now → Reading now after file name given r
    → Reading before after file name given r
reading_then before now after file name given (Ok s) e h =
    reads_then before now name given (Ok s) e h
reading_then before now after file name given (Err (fault.Malformed n place)) e h =
    reads_then before now name given (Err (fault.Malformed n place)) e h
reading_then before now after file name given (Err (fault.Limit n what count)) e h =
    reads_then before now name given (Err (fault.Limit n what count)) e h
reading_then before now after file name given (Err (fault.ConfigRefused n errno)) e h =
    reads_then before now name given (Err (fault.ConfigRefused n errno)) e h
reading_then before now after file name given (Err (fault.ReadFault n)) e h = (
  h.0,
  fails_then before now after name e h.1,
)
reading_then before now after file name given (Err (fault.WriteFault n)) e h = h
reading_then before now after file name given (Err fault.Memory) e h = h

-- ---- files behind files
then_step : (Says : Saying) (x : RecordFile) (xs ys : List RecordFile) (s t : Finished)
    (r : Result Finished Fault)
    → ((v : Finished) → Walk Says xs v (Ok t) → Walk Says (xs ++ ys) v r)
    → (u : Result Finished Fault) → Says x.number x.name (gives x s) u
    → Then u (Walk Says xs) (Ok t) → Walk Says (x ∷ (xs ++ ys)) s r
then_step Says x xs ys s t r more (Ok v) says rest = (Ok v, says, more v rest)
then_step Says x xs ys s t r more (Err f) says rest = absurd cc

pub walk_then : (Says : Saying) (xs ys : List RecordFile) (s t : Finished)
    (r : Result Finished Fault)
    → Walk Says xs s (Ok t) → Walk Says ys t r → Walk Says (xs ++ ys) s r
walk_then Says [] ys s t r h k =
    let e : t ≡ s = cc in
    subst (λ (x : Finished). Walk Says ys x r) e k
walk_then Says (x ∷ xs) ys s t r h k = then_step Says x xs ys s t r
    (λ v rest. walk_then Says xs ys v t r rest k) h.0 h.1 h.2

stop_step : (Says : Saying) (x : RecordFile) (xs ys : List RecordFile) (s : Finished) (f : Fault)
    → ((v : Finished) → Walk Says xs v (Err f) → Walk Says (xs ++ ys) v (Err f))
    → (u : Result Finished Fault) → Says x.number x.name (gives x s) u
    → Then u (Walk Says xs) (Err f) → Walk Says (x ∷ (xs ++ ys)) s (Err f)
stop_step Says x xs ys s f more (Ok v) says rest = (Ok v, says, more v rest)
stop_step Says x xs ys s f more (Err e) says rest = (Err e, says, rest)

pub walk_stops : (Says : Saying) (xs ys : List RecordFile) (s : Finished) (f : Fault)
    → Walk Says xs s (Err f) → Walk Says (xs ++ ys) s (Err f)
walk_stops Says [] ys s f h = absurd cc
walk_stops Says (x ∷ xs) ys s f h = stop_step Says x xs ys s f
    (λ v rest. walk_stops Says xs ys v f rest) h.0 h.1 h.2

-- ---- what was read
was_step : (before after : FilesView) (x : RecordFile) (xs : List RecordFile) (s t : Finished)
    → ((v : Finished) → Walk (Reading before after) xs v (Ok t)
    → Walk (WasRead before.told) xs v (Ok t))
    → (u : Result Finished Fault) → Reading before after x.number x.name (gives x s) u
    → Then u (Walk (Reading before after) xs) (Ok t) → Walk (WasRead before.told) (x ∷ xs) s (Ok t)
was_step before after x xs s t more (Ok v) says rest = (Ok v, says, more v rest)
was_step before after x xs s t more (Err f) says rest = absurd cc

pub walk_was : (before after : FilesView) (files : List RecordFile) (s t : Finished)
    → Walk (Reading before after) files s (Ok t) → Walk (WasRead before.told) files s (Ok t)
walk_was before after [] s t h = h
walk_was before after (x ∷ xs) s t h = was_step before after x xs s t
    (λ v rest. walk_was before after xs v t rest) h.0 h.1 h.2

again_step : (before after : FilesView) (x : RecordFile) (xs : List RecordFile) (s t : Finished)
    → ((v : Finished) → Walk (WasRead before.told) xs v (Ok t)
    → Walk (Reading before after) xs v (Ok t))
    → (u : Result Finished Fault) → WasRead before.told x.number x.name (gives x s) u
    → Then u (Walk (WasRead before.told) xs) (Ok t)
    → Walk (Reading before after) (x ∷ xs) s (Ok t)
again_step before after x xs s t more (Ok v) says rest = (Ok v, says, more v rest)
again_step before after x xs s t more (Err f) says rest = absurd cc

-- what was read is what came of reading
pub was_walk : (before after : FilesView) (files : List RecordFile) (s t : Finished)
    → Walk (WasRead before.told) files s (Ok t) → Walk (Reading before after) files s (Ok t)
was_walk before after [] s t h = h
was_walk before after (x ∷ xs) s t h = again_step before after x xs s t
    (λ v rest. was_walk before after xs v t rest) h.0 h.1 h.2

-- ---- stages
pub read_both : (now mid : FilesView) (xs ys : List RecordFile) (s t u : Finished)
    → IsEarlier now mid → ReadOn now xs s t → ReadOn mid ys t u → ReadOn now (xs ++ ys) s u
read_both now mid xs ys s t u later first second before after e =
    walk_then (Reading before after) xs ys s t (Ok u) (first before after e)
    (second before after (earlier_again before now mid e later))

pub stop_first : (now after : FilesView) (xs ys : List RecordFile) (s : Finished) (f : Fault)
    → StoppedIn now after xs s f → StoppedIn now after (xs ++ ys) s f
stop_first now after xs ys s f h = elim h [
  | inl memory ↦ inl memory
  | inr stops ↦ inr (λ before e. walk_stops (Reading before after) xs ys s f (stops before e))
]

pub stop_second : (now mid after : FilesView) (xs ys : List RecordFile) (s t : Finished)
    (f : Fault) → IsEarlier now mid → ReadOn now xs s t → StoppedIn mid after ys t f
    → StoppedIn now after (xs ++ ys) s f
stop_second now mid after xs ys s t f later first h = elim h [
  | inl memory ↦ inl memory
  | inr stops ↦
      inr (λ before e. walk_then (Reading before after) xs ys s t (Err f) (first before after e)
      (stops before (earlier_again before now mid e later)))
]
