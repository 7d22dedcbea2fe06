-- The sequential target as what the calls of a running table mean.
use Rattle.std.specs.Prelude.{List, [], ◌∷◌}
use Rattle.ref_state.specs.declared.kinds.Tag.{Tag}
use Rattle.table_rule.specs.Meant.{Meaning}
use Rattle.disk_extents.specs.Extents.{Part}
use Rattle.target_states.specs.declared.parts.Fixed.{Fixed}
use Rattle.target_states.specs.declared.parts.Desk.{Desk}
use Rattle.target_states.specs.declared.parts.Answer.{Answer}
use Rattle.target_states.specs.Inputs.{call_of}
use Rattle.target_states.specs.States.{Begun, state, may_take, answer_to, held_on, fixed_at, desk_at, commands_at}
use Rattle.target_states.specs.Sizes.{IsStart}
use Rattle.target_states.specs.Extents.{StandsAt, touches_of}
use Rattle.target_states.specs.Starts.{empty_begun}
use Rattle.target_states.proofs.Starting.{empty_starts}
use Rattle.target_states.proofs.Tags as states
use Rattle.target_words.specs.Words.{words_at}
use Rattle.target_words.proofs.Tags as words

-- what a run begins with, and what its callers bring
pub record Run : Type 0 where
  pub begun : Begun
  pub start : IsStart begun

-- a target is given by the calls since the start, of which the newest stands first
abbrev pub tree_means : Run → Meaning (List Tag) Fixed Desk Answer Part
tree_means r = record {
  start = [];
  lawful = λ tags tag. may_take (state r.begun tags) tag.kind (call_of r.begun.inputs tag);
  next = λ tags tag. tag ∷ tags;
  reply = λ tags tag. answer_to (state r.begun tags) (call_of r.begun.inputs tag);
  held = λ tags tag. held_on (state r.begun tags) (call_of r.begun.inputs tag);
  words = λ tags. words_at (state r.begun tags);
  fixed = λ tags. fixed_at (state r.begun tags);
  desk = λ tags. desk_at (state r.begun tags);
  commands = λ tags. commands_at (state r.begun tags);
  touches = touches_of r.begun;
  stands = λ x n tags. StandsAt x n (state r.begun tags);
  free = states.free r.begun r.start;
  held_is = words.held_is r.begun r.start;
  adds = states.adds r.begun r.start;
  leaves = states.leaves r.begun r.start;
  removes = states.removes r.begun r.start;
  executes = words.executes r.begun r.start;
  always = λ tags tag. states.always r.begun.inputs (state r.begun tags) tag.kind tag.caller
      tag.number;
  stays = states.stays r.begun r.start;
}

-- a run of nothing
abbrev pub empty_run : Run
empty_run = record { begun = empty_begun; start = empty_starts }
