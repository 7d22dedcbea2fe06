-- A submit in a read section: what it answers, and what its seat knows after it.
use Rattle.std.specs.Prelude.{◌≡◌, ℕ, ◌+◌, ◌-◌, Bool, true, false, List, [], ◌∷◌, ◌++◌, map, length, is_some}
use Rattle.atomic_table.specs.Seated.{TableId}
use Rattle.ref_state.specs.declared.kinds.Tag.{Tag}
use Rattle.ref_state.specs.declared.state.Entry.{Entry}
use Rattle.ref_state.specs.declared.state.LoadedMode.TheVariants.{NotLoaded}
use Rattle.ref_state.specs.declared.state.Section.{Section}
use Rattle.ref_state.specs.declared.state.Section.TheVariants.{Placed}
use Rattle.ref_state.specs.Steps.{section_got}
use Rattle.table_rule.specs.declared.rule.Told.{Told}
use Rattle.table_rule.specs.Meant.{Meaning, target, Legal}
use Rattle.table_rule.specs.Plays.{drawn}
use Rattle.table_rule.specs.Shown.{extended}
use Rattle.sqe_cqe.specs.declared.controllers.Bound.{Bound}
use Rattle.sqe_cqe.specs.declared.sqe.Sqe.{Sqe}
use Rattle.io_commands.specs.declared.jobs.Job.{Job}
use Rattle.io_commands.specs.declared.jobs.Admit.{Admit}
use Rattle.io_commands.specs.declared.jobs.Admit.TheVariants as admits
use Rattle.io_commands.specs.Jobs.{disk_of}
use Rattle.percpu_ref.specs.declared.holds.Hold.{Hold}
use Rattle.section_look.specs.declared.submitted.Submitted.{Submitted}
use Rattle.section_look.specs.declared.submitted.Submitted.TheVariants.{Refused, Held}
use Rattle.section_look.specs.Admissions.{admission_in, disk_held, is_held}
use Rattle.section_look.specs.Read.{target_before}

module _ {S : Type 0} where
  -- the admission that was answered
  abbrev pub admit_of : Submitted S → Admit
  admit_of (Refused status) = admits.Refused status
  admit_of (Held job hold) = admits.Run job

  -- the hold is the one that the section with this place and call got, on the job's disk. Who puts
  -- it knows this history
  pub record IsHold (table : TableId) (known : List Tag) (place : ℕ) (call : Tag) (job : Job)
      (hold : Hold S) : Type 0 where
    pub own : hold.part.base.table_id ≡ table
    pub disk : hold.disk ≡ disk_of job
    pub got : hold.part.base.me.0.view.holds ≡ record {
      disk = disk_of job;
      place = place;
      call = call;
      executed = false;
    } ∷ []
    pub seen : hold.part.base.me.0.known ≡ known

  -- a command that is held has its hold
  abbrev pub HasHold : TableId → List Tag → ℕ → Tag → Submitted S → Type 0
  HasHold table known place call (Refused status) = Unit {0}
  HasHold table known place call (Held job hold) = IsHold table known place call job hold

-- the section after its call was held, or was not
abbrev pub with_hold : Bool → Section → Section
with_hold false s = s
with_hold true s = section_got s

-- what a seat knows after an admission with its get: the section may have got its hold, and else
-- nothing but loads was made
pub record Admitted (held : Bool) (v w : Told) : Type 0 where
  pub found : List (ℕ × ℕ)
  pub told : w ≡ record v {
    view = record v.view { loaded = NotLoaded; section = with_hold held v.view.section };
    found = found;
  }

module _ {T X Y R S : Type 0} (m : Meaning T X Y R S) where
  -- where the section's call is a submit, it is Held at its place exactly where the section got a
  -- hold: so the section may be left
  abbrev pub IsFinished : Told → Type 0
  IsFinished v = (e : Entry) → v.view.section ≡ Placed e → e.call.kind ≡ 1
      → is_some (m.held (target_before m v) e.call) ≡ e.got

  -- a submit in a section that this seat has entered, and that isn't left yet: `between` are the
  -- calls that others placed since the seat saw the history last
  pub record Submits (tag : Tag) (b : Bound) (e : Sqe) (v w : Told) (place serial : ℕ)
      (a : Admit) : Type 0 where
    pub between : List Tag
    pub place_is : length (v.known ++ between) ≡ place
    pub legal : Legal m w.known
    -- the answer is the admission over the configuration at the place ..
    pub answer : a ≡ admission_in (m.words (target m (v.known ++ between))) serial b e
    -- .. and Held is the target's
    pub held : m.held (target m (v.known ++ between)) tag ≡ disk_held a
    pub found : List (ℕ × ℕ)
    -- the section has its place, with a hold where the command is held
    pub told : w ≡ record v {
      view = record v.view {
        section = Placed (record (drawn place serial tag) { got = is_held a });
        loaded = NotLoaded;
        left = v.view.left - 1;
        seen = place + 1;
      };
      known = (v.known ++ between)
          ++ tag ∷ [];
      claims = map (extended tag) v.claims;
      found = found;
    }
