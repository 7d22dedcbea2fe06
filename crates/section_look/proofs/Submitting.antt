-- What a submit in a section tells.
use Rattle.std.proofs.Common.{◌≡◌, ◌≢◌, ℕ, zero, suc, ◌+◌, ◌-◌, Bool, true, false, List, [], ◌∷◌, ◌++◌, map, length, take, get_or, sym, refl, ap, ◌∙◌, subst, arith}
use Rattle.ref_state.specs.declared.kinds.Tag.{Tag}
use Rattle.ref_state.specs.declared.state.LoadedMode.TheVariants.{NotLoaded}
use Rattle.ref_state.specs.declared.state.Section.{Section}
use Rattle.ref_state.specs.declared.state.Section.TheVariants.{Out, In, Placed}
use Rattle.table_rule.specs.declared.rule.Told.{Told}
use Rattle.table_rule.specs.Meant.{Meaning, target, Legal, IsPlain}
use Rattle.table_rule.specs.Plays.{drawn, Drew, MayGet}
use Rattle.table_rule.specs.Shown.{extended}
use Rattle.table_rule.proofs.Histories.{take_all, target_next}
use Rattle.sqe_cqe.specs.declared.controllers.Bound.{Bound}
use Rattle.sqe_cqe.specs.declared.sqe.Sqe.{Sqe}
use Rattle.io_commands.specs.declared.jobs.Job.{Job}
use Rattle.io_commands.specs.declared.jobs.Admit.{Admit}
use Rattle.io_commands.specs.declared.jobs.Admit.TheVariants.{Run}
use Rattle.io_commands.specs.Jobs.{disk_of}
use Rattle.section_look.specs.Admissions.{Admits, admission_in, disk_held, is_held}
use Rattle.section_look.specs.Read.{entry_of, is_placed, section_serial, section_words, target_before}
use Rattle.section_look.specs.Submits.{Admitted, Submits, with_hold}

-- a placed section is at its entry
pub placed_at : (s : Section) → is_placed s ≡ true → s ≡ Placed (entry_of s)
placed_at Out e = absurd (let h : false ≡ true = e in grind arith)
placed_at In e = absurd (let h : false ≡ true = e in grind arith)
placed_at (Placed x) e = refl

abbrev admitted_by : Bool → List (ℕ × ℕ) → Told → Told
admitted_by held found v = record v {
  view = record v.view { loaded = NotLoaded; section = with_hold held v.view.section };
  found = found;
}

abbrev drew_by : Tag → ℕ → ℕ → Told → List Tag → Told
drew_by tag place serial v between = record v {
  view = record v.view {
    section = Placed (drawn place serial tag);
    left = v.view.left - 1;
    seen = place + 1;
  };
  known = (v.known ++ between) ++ tag ∷ [];
  claims = map (extended tag) v.claims;
}

module _ {T X Y R S : Type 0} (m : Meaning T X Y R S) where
  -- the reply at the place, from the admission over the words there
  pub held_there : (disks serial : ℕ) (b : Bound) (e : Sqe) (v : Told) (a : Admit)
      → section_words m v ≡ m.words (target_before m v)
      → Admits m disks (entry_of v.view.section).call b e (target_before m v)
      → a ≡ admission_in (section_words m v) serial b e
      → m.held (target_before m v) (entry_of v.view.section).call ≡ disk_held a
  held_there disks serial b e v a words admits answer = admits.held serial
      ∙ (ap (λ ws. disk_held (admission_in ws serial b e)) (sym words) ∙ ap disk_held (sym answer))

  -- so the disk of an admitted job may be got
  pub may_get : (disks serial : ℕ) (b : Bound) (e : Sqe) (v : Told) (job : Job)
      → is_placed v.view.section ≡ true → (entry_of v.view.section).got ≡ false
      → section_words m v ≡ m.words (target_before m v)
      → Admits m disks (entry_of v.view.section).call b e (target_before m v)
      → Run job ≡ admission_in (section_words m v) serial b e
      → MayGet m v (disk_of job)
  may_get disks serial b e v job placed new words admits answer =
      let held = held_there disks serial b e v (Run job) words admits answer in
      let is = m.held_is (target_before m v) (entry_of v.view.section).call (disk_of job) held in
      record {
        entry = entry_of v.view.section;
        placed = placed_at v.view.section placed;
        shown = subst (λ (ws : List ℕ). get_or ws (disk_of job) 0 ≢ 0) (sym words) is.1;
        none = new;
        held = λ _. held;
      }

  module _ (tag : Tag) (place serial number : ℕ) (v b : Told) (d : Drew m tag v b place serial)
      (number_is : number ≡ v.view.number) (plain : IsPlain m number v.known tag) where
    abbrev there : T
    there = target m (v.known ++ d.between)

    pub section_is : b.view.section ≡ Placed (drawn place serial tag)
    section_is = ap (λ (z : Told). z.view.section) d.told

    known_is : b.known ≡ (v.known ++ d.between) ++ tag ∷ []
    known_is = ap (λ (z : Told). z.known) d.told

    -- the target before the call, and the words after it
    pub before_is : target_before m b ≡ there
    before_is = ap (λ (s : Section). target m (take (entry_of s).place b.known)) section_is
        ∙ (ap (λ (k : List Tag). target m (take place k)) known_is
        ∙ ap (target m) (front (v.known ++ d.between) place d.place_is))
      where
        front : (l : List Tag) (n : ℕ) → length l ≡ n → take n (l ++ tag ∷ []) ≡ l
        front [] zero e = refl
        front [] (suc n) e = absurd (omega arith)
        front (x ∷ xs) zero e = absurd (omega arith)
        front (x ∷ xs) (suc n) e = ap (λ r. x ∷ r) (front xs n (omega arith))

    pub words_are : section_words m b ≡ m.words there
    words_are = ap (λ (s : Section). m.words (target m (take ((entry_of s).place + 1) b.known))) section_is
        ∙ (ap (λ (k : List Tag). m.words (target m (take (place + 1) k))) known_is
        ∙ (ap m.words (target_next m (v.known ++ d.between) tag place d.place_is)
        ∙ (ap (λ (l : List Tag). m.words (m.next (target m l) tag)) (take_all (v.known ++ d.between) place d.place_is)
        ∙ (plain there (λ zero_is. d.steady (sym number_is ∙ zero_is))).words)))

    pub same_words : section_words m b ≡ m.words (target_before m b)
    same_words = words_are ∙ ap m.words (sym before_is)

    pub serial_is : section_serial b ≡ serial
    serial_is = ap (λ (s : Section). (entry_of s).serial) section_is

    pub call_is : (entry_of b.view.section).call ≡ tag
    call_is = ap (λ (s : Section). (entry_of s).call) section_is

    legal_there : Legal m ((v.known ++ d.between) ++ tag ∷ [])
    legal_there = subst (Legal m) known_is d.legal

    module _ (disks : ℕ) (q : Bound) (e : Sqe)
        (all : (between : List Tag) → Legal m ((v.known ++ between) ++ tag ∷ []) → Admits m disks tag q e (target m (v.known ++ between))) where
      pub admits_there : Admits m disks (entry_of b.view.section).call q e (target_before m b)
      admits_there = subst (λ (c : Tag). Admits m disks c q e (target_before m b)) (sym call_is)
          (subst (λ (t : T). Admits m disks tag q e t) (sym before_is) (all d.between legal_there))

      module _ (a : Admit) (answer : a ≡ admission_in (section_words m b) (section_serial b) q e) where
        answer_is : a ≡ admission_in (m.words there) serial q e
        answer_is = answer ∙ (ap (λ ws. admission_in ws (section_serial b) q e) words_are
            ∙ ap (λ n. admission_in (m.words there) n q e) serial_is)

        pub submitted : (w : Told) → Admitted (is_held a) b w → Submits m tag q e v w place serial a
        submitted w ad =
            let told = ad.told ∙ ap (λ (k : Told). admitted_by (is_held a) ad.found k) d.told in
            let known : w.known ≡ b.known = ap (λ (k : Told). k.known) ad.told in
            record {
              between = d.between;
              place_is = d.place_is;
              legal = subst (Legal m) (sym known) d.legal;
              answer = answer_is;
              held = (all d.between legal_there).held serial ∙ ap disk_held (sym answer_is);
              found = ad.found;
              told = told ∙ by_held (is_held a) ad.found;
            }
          where
            by_held : (h : Bool) (found : List (ℕ × ℕ)) → admitted_by h found (drew_by tag place serial v d.between) ≡ record v {
              view = record v.view {
                section = Placed (record (drawn place serial tag) { got = h });
                loaded = NotLoaded;
                left = v.view.left - 1;
                seen = place + 1;
              };
              known = (v.known ++ d.between) ++ tag ∷ [];
              claims = map (extended tag) v.claims;
              found = found;
            }
            by_held true found = refl
            by_held false found = refl
