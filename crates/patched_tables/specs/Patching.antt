-- A target of words, of which each edit sets those of its patch. It has no commands, so a section
-- may read it at any place.
use Rattle.std.specs.Prelude.{◌≡◌, ◌≢◌, ℕ, ◌<◌, ◌==◌, Bool, true, false, cond, List, [], Option, Some, None, is_none, slice_index_or, refl}
use Rattle.std.proofs.Common.{ap, sym, subst, ◌∙◌, ne_eqb, lt-ltb}
use Rattle.ref_state.specs.declared.kinds.Tag.{Tag}
use Rattle.ref_state.specs.State.{overlaid}
use Rattle.table_rule.specs.Meant.{Meaning}

-- the patch of the edit with this number: words with their positions, the newest first
abbrev pub patch_at : List (List (ℕ × ℕ)) → ℕ → List (ℕ × ℕ)
patch_at ps n = slice_index_or ps n []

-- the words after a call
abbrev pub patched : List (List (ℕ × ℕ)) → List ℕ → Tag → List ℕ
patched ps ws tag = cond (tag.kind == 6) (overlaid ws (patch_at ps tag.number)) ws

abbrev pub no_commands : List (Tag × ℕ)
no_commands = []

abbrev pub never_held : List ℕ → Tag → Option ℕ
never_held ws tag = None

-- ## The laws

-- a call that is no edit leaves the words
pub stays_plain : (ps : List (List (ℕ × ℕ))) (ws : List ℕ) (tag : Tag) → tag.kind ≢ 6 → patched ps ws tag ≡ ws
stays_plain ps ws tag ne = ap (λ b. cond b (overlaid ws (patch_at ps tag.number)) ws) (ne_eqb tag.kind 6 ne)

abbrev pub Holds : Bool → Type 0
Holds true = Unit {0}
Holds false = ⊥

pub no_edit_of_two : (k : ℕ) → k ≡ 2 → k ≢ 6
no_edit_of_two k two six = subst Holds (ap (λ n. n == 2) (sym two ∙ six)) tt

pub no_edit_below : (k : ℕ) → k < 4 → k ≢ 6
no_edit_below k small six = let Q : ℕ → Type 0 = λ n. n < 4 in subst Holds (sym (lt-ltb 6 4 (subst Q six small))) tt

abbrev pub none_first : Option (Tag × ℕ)
none_first = None

pub nothing_held : {A : Type 0} (ws : List ℕ) (tag : Tag) (d : ℕ) → never_held ws tag ≡ Some d → A
nothing_held ws tag d e = let P : Option ℕ → Type 0 = λ o. Holds (is_none o) in absurd (subst P e tt)

pub nothing_first : {A : Type 0} (x : Tag × ℕ) → none_first ≡ Some x → A
nothing_first x e = let P : Option (Tag × ℕ) → Type 0 = λ o. Holds (is_none o) in absurd (subst P e tt)

abbrev pub patch_means : List ℕ → List (List (ℕ × ℕ)) → Meaning (List ℕ) (List ℕ) (List ℕ) ℕ ℕ
patch_means opened ps = record {
  start = opened;
  lawful = λ ws tag. true;
  next = patched ps;
  reply = λ ws tag. 0;
  held = never_held;
  words = λ ws. ws;
  fixed = λ ws. ws;
  desk = λ ws. ws;
  commands = λ ws. no_commands;
  touches = λ c d n. false;
  stands = λ x n ws. Unit {0};
  free = refl;
  held_is = λ ws tag d e. nothing_held ws tag d e;
  adds = λ ws tag f ne. refl;
  leaves = λ ws tag n x ne s. s;
  removes = λ ws tag x two e. nothing_first x e;
  executes = λ ws tag two. (stays_plain ps ws tag (no_edit_of_two tag.kind two), stays_plain ps ws tag (no_edit_of_two tag.kind two));
  always = λ ws tag two seven. refl;
  stays = λ ws tag small. stays_plain ps ws tag (no_edit_below tag.kind small);
}
