-- A hold as a value: a part that was split off the seat that got it, and what a get and a put do.
use Rattle.std.specs.Prelude.{◌≡◌, ◌⊎◌, ℕ, zero, suc, ◌+◌, ◌%◌, ◌==◌, true, false, if◌then◌else◌, List, [], ◌∷◌, ◌++◌, max}
use Rattle.ref_state.specs.declared.state.Hold.{Hold as HoldOf}
use Rattle.ref_state.specs.declared.state.LoadedMode.TheVariants.{NotLoaded}
use Rattle.ref_state.specs.State.{is_bare, word_end}
use Rattle.ref_state.specs.Steps.{section_got}
use Rattle.table_rule.specs.declared.rule.Told.{Told}
use Rattle.table_rule.specs.Counted.{Counted}
use Rattle.table_rule.specs.Shown.{longer}
use Rattle.table_rule.specs.Words.{at, ModeOf, SharedOf}
use Rattle.percpu_ref.specs.declared.put_kinds.Put.{Put}
use Rattle.percpu_ref.specs.declared.put_kinds.Put.TheVariants.{Kept, Last}

-- what stands for the hold of a part that has none
abbrev pub no_hold : HoldOf
no_hold = record {
  disk = 0;
  place = 0;
  call = record {
    kind = 0;
    caller = 0;
    number = 0;
  };
  executed = false;
}

-- the one hold of a part
abbrev pub the_hold : List HoldOf → HoldOf
the_hold [] = no_hold
the_hold (h ∷ hs) = h

-- a hold may be put where a bare call got it, or once the Execute of its command is placed
abbrev pub MayPut : HoldOf → Type 0
MayPut h = (is_bare h.call ≡ true) ⊎ (h.executed ≡ true)

-- ## Where a get or a put counts, by the mode that it loaded: on the seat's own counter while the
-- reference is live, on the shared count once it is killed

abbrev pub own_steps : ℕ → ℕ
own_steps zero = 1
own_steps (suc m) = 0

abbrev pub shared_steps : ℕ → ℕ
shared_steps zero = 0
shared_steps (suc m) = 1

-- a get or a put counts by one step, whichever mode it loaded
abbrev pub CountsOnce : Type 0
CountsOnce = (mode : ℕ) → own_steps mode + shared_steps mode ≡ 1

-- what its loads and steps found: the mode, and once that is killed the shared count before its
-- step
abbrev pub words_found : ℕ → ℕ → ℕ → List (ℕ × ℕ) → List (ℕ × ℕ)
words_found d zero before fs = (at (ModeOf d), 0) ∷ fs
words_found d (suc m) before fs = (at (SharedOf d), before) ∷ ((at (ModeOf d), suc m) ∷ fs)

-- a put is the last where it found 1 on the shared count of a killed reference, and so left 0. The
-- bias keeps that count far from 1 until the fold
abbrev pub put_of : ℕ → ℕ → Put
put_of zero before = Kept
put_of (suc m) before = if before == 1 then Last else Kept

-- ## What the seat knows after a get and after a put

-- the section got its hold, which is handed out
pub record Gets (d : ℕ) (v w : Told) (a b : Counted) : Type 0 where
  -- the mode word that this call loaded
  pub mode : ℕ
  -- the shared count that this call found, where the mode was killed
  pub before : ℕ
  pub told : w ≡ record v {
    view = record v.view { loaded = NotLoaded; section = section_got v.view.section };
    found = words_found d mode before v.found;
  }
  pub ticks : b ≡ record a {
    own = a.own + own_steps mode;
    shared = a.shared + shared_steps mode;
    clock = a.clock + 1;
    row = a.row + 1;
  }

-- the hold was put in a section of its own. Who puts a hold has seen what its getter had seen
pub record Puts (d : ℕ) (part v w : Told) (put : Put) (a b : Counted) : Type 0 where
  pub mode : ℕ
  pub before : ℕ
  pub answer : put ≡ put_of mode before
  pub told : w ≡ record v {
    view = record v.view {
      word = ((v.view.word + 1) % word_end + 1) % word_end;
      loaded = NotLoaded;
      seen = max v.view.seen part.view.seen;
    };
    known = longer v.known part.known;
    heard = v.known ∷ (part.known ∷ (part.heard ++ v.heard));
    found = words_found d mode before v.found;
  }
  pub ticks : b ≡ record a {
    own = a.own + (2 + own_steps mode);
    shared = a.shared + shared_steps mode;
    clock = a.clock + 1;
    row = a.row + 1;
  }
