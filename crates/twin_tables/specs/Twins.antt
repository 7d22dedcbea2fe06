-- A target of two disks and two words of configuration, which each edit sets both to its number:
-- the word of a disk isn't 0 where the disk is shown. It has no commands, so a drain may end at
-- once.
use Rattle.std.specs.Prelude.{◌≡◌, ◌≢◌, ℕ, ◌<◌, ◌==◌, Bool, true, false, cond, List, [], ◌∷◌, Option, Some, None, is_none, refl}
use Rattle.std.proofs.Common.{ap, sym, subst, ◌∙◌, ne_eqb, lt-ltb}
use Rattle.ref_state.specs.declared.kinds.Tag.{Tag}
use Rattle.table_rule.specs.declared.rule.Plan.{Plan}
use Rattle.table_rule.specs.Meant.{Meaning}

-- the number after a call
abbrev pub twin_next : ℕ → Tag → ℕ
twin_next t tag = cond (tag.kind == 6) tag.number t

abbrev pub twin_words : ℕ → List ℕ
twin_words t = t ∷ (t ∷ [])

abbrev pub no_commands : List (Tag × ℕ)
no_commands = []

-- a call that is no edit leaves the number
pub stays_plain : (t : ℕ) (tag : Tag) → tag.kind ≢ 6 → twin_next t tag ≡ t
stays_plain t tag ne = ap (λ b. cond b tag.number t) (ne_eqb tag.kind 6 ne)

abbrev pub twin_held : ℕ → Tag → Option ℕ
twin_held t tag = None

-- ## The laws

abbrev pub Holds : Bool → Type 0
Holds true = Unit {0}
Holds false = ⊥

pub no_edit_of_two : (k : ℕ) → k ≡ 2 → k ≢ 6
no_edit_of_two k two six = subst Holds (ap (λ n. n == 2) (sym two ∙ six)) tt

pub no_edit_below : (k : ℕ) → k < 4 → k ≢ 6
no_edit_below k small six = let Q : ℕ → Type 0 = λ n. n < 4 in subst Holds (sym (lt-ltb 6 4 (subst Q six small))) tt

abbrev pub none_first : Option (Tag × ℕ)
none_first = None

pub nothing_held : {A : Type 0} (t : ℕ) (tag : Tag) (d : ℕ) → twin_held t tag ≡ Some d → A
nothing_held t tag d e = let P : Option ℕ → Type 0 = λ o. Holds (is_none o) in absurd (subst P e tt)

pub nothing_first : {A : Type 0} (x : Tag × ℕ) → none_first ≡ Some x → A
nothing_first x e = let P : Option (Tag × ℕ) → Type 0 = λ o. Holds (is_none o) in absurd (subst P e tt)

abbrev pub twin_means : Meaning ℕ ℕ ℕ ℕ ℕ
twin_means = record {
  start = 1;
  lawful = λ t tag. true;
  next = twin_next;
  reply = λ t tag. t;
  held = twin_held;
  words = twin_words;
  fixed = λ t. t;
  desk = λ t. t;
  commands = λ t. no_commands;
  touches = λ c d n. false;
  stands = λ x n t. Unit {0};
  free = refl;
  held_is = λ t tag d e. nothing_held t tag d e;
  adds = λ t tag f ne. refl;
  leaves = λ t tag n x ne s. s;
  removes = λ t tag x two e. nothing_first x e;
  executes = λ t tag two. (ap twin_words (stays_plain t tag (no_edit_of_two tag.kind two)), stays_plain t tag (no_edit_of_two tag.kind two));
  always = λ t tag two seven. refl;
  stays = λ t tag small. stays_plain t tag (no_edit_below tag.kind small);
}

-- two disks, with one word each
abbrev pub twin_plan : List ℕ → Plan
twin_plan quotas = record { quotas = quotas; disks = 2; slots = 16; rows = 2 }
