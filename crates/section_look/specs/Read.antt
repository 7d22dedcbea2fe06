-- What stands behind a look over a placed read section, and which words it reads.
use Rattle.std.specs.Prelude.{ℕ, ◌+◌, Bool, true, false, List, take, Option}
use Rattle.std.specs.Borrow.{GName}
use Rattle.atomic_table.specs.Seated.{TableId}
use Rattle.atomic_table.specs.Table.{Me}
use Rattle.ref_state.specs.declared.state.By.TheVariants as by
use Rattle.ref_state.specs.declared.state.Entry.{Entry}
use Rattle.ref_state.specs.declared.state.Section.{Section}
use Rattle.ref_state.specs.declared.state.Section.TheVariants.{Out, In, Placed}
use Rattle.table_rule.specs.declared.rule.Told.{Told}
use Rattle.table_rule.specs.Counted.{Counted}
use Rattle.table_rule.specs.Meant.{Meaning, target}

-- the section has drawn its place
abbrev pub is_placed : Section → Bool
is_placed Out = false
is_placed In = false
is_placed (Placed e) = true

-- what stands for the entry of a section that has no place
abbrev pub no_entry : Entry
no_entry = record {
  place = 0;
  serial = 0;
  call = record {
    kind = 0;
    caller = 0;
    number = 0;
  };
  by = by.Draw;
  got = false;
}

-- the entry of a placed section: its call, place and serial, and whether it got a hold
abbrev pub entry_of : Section → Entry
entry_of Out = no_entry
entry_of In = no_entry
entry_of (Placed e) = e

-- what stands behind a look, and is left by all its calls: all that the seat with its section (call,
-- place, serial, hold) keeps and knows; its table; the references to the seat and to the counter of
-- steps; and the steps of every kind but loads of rows
abbrev pub Reads : Type 0 → Type 0
Reads S = Me (Option S) Told × (TableId × (GName × (GName × Counted)))

-- the steps but for loads of rows
abbrev pub no_rows : Counted → Counted
no_rows c = record c { row = 0 }

-- how many steps were taken
abbrev pub all_steps : Counted → ℕ
all_steps c = c.own + (c.shared + (c.clock + (c.row + c.turn)))

-- the serial that the seat's section reads
abbrev pub section_serial : Told → ℕ
section_serial v = (entry_of v.view.section).serial

module _ {T X Y R S : Type 0} (m : Meaning T X Y R S) where
  -- the target before the call of the seat's section, and right after it
  abbrev pub target_before : Told → T
  target_before v = target m (take (entry_of v.view.section).place v.known)

  abbrev pub target_there : Told → T
  target_there v = target m (take ((entry_of v.view.section).place + 1) v.known)

  -- the words of the configuration at the place of the seat's section
  abbrev pub section_words : Told → List ℕ
  section_words v = m.words (target_there v)
