-- What editors and readers keep.
use Rattle.std.proofs.Common.{◌≡◌, ℕ, zero, suc, ◌+◌, ◌-◌, ◌<◌, ◌++◌, List, [], ◌∷◌, length, get_or, set, sym, refl, ap, ◌∙◌, subst, arith, length-append, get_or-set_other}
use Rattle.std.proofs.lemmas.List.{length-set}
use Rattle.ref_state.specs.declared.state.Drain.{Drain}
use Rattle.ref_state.specs.declared.state.Phase.{Phase}
use Rattle.ref_state.specs.declared.state.Phase.TheVariants as phase
use Rattle.ref_state.specs.declared.state.Editor.{Editor}
use Rattle.ref_state.specs.State.{conf, overlaid, drain, no_drain, total}
use Rattle.table_rule.specs.declared.rule.Told.{Told}
use Rattle.table_rule.specs.Shown.{claims_of}
use Rattle.table_rule.specs.Plays.{Published, Drew, Ended, ended, spare_of, with_life, armed, revived}
use Rattle.table_rule.specs.Counted.{Counted}
use Rattle.ref_state.specs.declared.kinds.Tag.{Tag}
use Rattle.ref_state.specs.declared.state.Published.{Published as Published_}
use Rattle.ref_state.specs.Steps.{after_enter, after_leave}
use Rattle.percpu_ref.specs.Holds.{Gets}
use Rattle.table_rule.proofs.Claiming.{extended_total}
use Rattle.rcu_sections.specs.Grace.{Look, after_looks}
use Rattle.rcu_sections.proofs.Looking.{phase_after}
use Rattle.percpu_ref.specs.Lives.{Folds, new_life}
use Rattle.twin_tables.specs.Twins.{twin_means}
use Rattle.twin_tables.specs.Keeping.{Rests, Edits, IsIn, LeavesOthers, all_steps}
use Rattle.percpu_ref.proofs.Holding.{once}

-- ## Looks

pub in_after : (p : Phase) (d : ℕ) (ls : List Look) (a b : Told) → b ≡ after_looks ls a → IsIn p d a → IsIn p d b
in_after p d ls a b e h = ap (λ (z : Told). (drain z.notes d).phase) e ∙ (phase_after ls a.notes d ∙ h)

pub edits_after : (n : ℕ) (ls : List Look) (a b : Told) → b ≡ after_looks ls a → Edits n a → Edits n b
edits_after n ls a b e h = subst (Edits n) (sym e) record { claim = h.claim; confs = h.confs; before = h.before; shown = h.shown }

-- ## Words that are set

overlaid_long : (ws : List ℕ) (ps : List (ℕ × ℕ)) → length (overlaid ws ps) ≡ length ws
overlaid_long ws [] = refl
overlaid_long ws (p ∷ ps) = length-set (overlaid ws ps) p.0 p.1 ∙ overlaid_long ws ps

pub two_set : (l : List ℕ) (n : ℕ) → length (set (set l 0 n) 1 n) ≡ 2 → set (set l 0 n) 1 n ≡ n ∷ (n ∷ [])
two_set [] n e = absurd (omega arith)
two_set (x ∷ []) n e = absurd (omega arith)
two_set (x ∷ (y ∷ [])) n e = refl
two_set (x ∷ (y ∷ (z ∷ zs))) n e = absurd (omega arith)

get_last : {A : Type 0} (l : List A) (x d : A) (i : ℕ) → i ≡ length l → get_or (l ++ x ∷ []) i d ≡ x
get_last [] x d zero e = refl
get_last [] x d (suc i) e = absurd (omega arith)
get_last (y ∷ l) x d zero e = absurd (omega arith)
get_last (y ∷ l) x d (suc i) e = get_last l x d i (omega arith)

get_front : {A : Type 0} (l : List A) (x d : A) (i : ℕ) → i < length l → get_or (l ++ x ∷ []) i d ≡ get_or l i d
get_front [] x d i h = absurd (omega arith)
get_front (y ∷ l) x d zero h = refl
get_front (y ∷ l) x d (suc i) h = get_front l x d i (omega arith)

-- ## Sections

abbrev entered : Told → Told
entered v = record v { view = after_enter v.view }

abbrev left_by : Told → Told
left_by v = record v { view = after_leave v.view }

module _ (n place serial : ℕ) (tag : Tag) (v a b : Told) (enters : a ≡ entered v) (drew : Drew twin_means tag a b place serial) (h : Rests n v) where
  claim_b : 0 < total (claims_of n) b.claims
  claim_b = subst (λ cs. 0 < total (claims_of n) cs) (sym (ap (λ (z : Told). z.claims) drew.told))
      (subst (λ k. 0 < k) (sym (extended_total n tag a.claims)) (subst (λ cs. 0 < total (claims_of n) cs) (sym (ap (λ (z : Told). z.claims) enters)) h.claim))

  pub holds_b : b.view.holds ≡ []
  holds_b = ap (λ (z : Told). z.view.holds) drew.told ∙ (ap (λ (z : Told). z.view.holds) enters ∙ h.none)

  -- a section that got nothing is left
  pub plain_rests : (z : Told) → z ≡ left_by b → Rests n z
  plain_rests z e = subst (Rests n) (sym e) record {
    out = refl;
    free = ap (λ (x : Told). x.view.loaded) drew.told ∙ (ap (λ (x : Told). x.view.loaded) enters ∙ h.free);
    none = holds_b;
    claim = claim_b;
  }

  -- one that got a hold is left
  pub got_rests : (d : ℕ) (x y : Counted) (g z : Told) → Gets d b g x y → z ≡ left_by g → Rests n z
  got_rests d x y g z got e = subst (Rests n) (sym (e ∙ ap left_by got.told)) record { out = refl; free = refl; none = holds_b; claim = claim_b }

-- ## Edits

-- after an edit of this number, with the words of the spare side set to it
pub edited : (n place serial : ℕ) (tag : Tag) (v w : Told) (m : ℕ) (ps : List (ℕ × ℕ)) → Edits m v → v.notes.pending ≡ (1, n) ∷ ((0, n) ∷ ps)
    → Published twin_means tag v w place serial → Edits n w
edited n place serial tag v w m ps h set_both p =
    let spare : spare_of v.notes ≡ n ∷ (n ∷ []) = let l = overlaid (conf v.notes (length v.notes.published - 1)) ps in
    ap (overlaid (conf v.notes (length v.notes.published - 1))) set_both
    ∙ two_set l n (length-set (set l 0 n) 1 n ∙ (length-set l 0 n ∙ (overlaid_long (conf v.notes (length v.notes.published - 1)) ps ∙ h.before))) in
    let one : Published_ = record { place = place; call = tag } in
    let many : length (v.notes.published ++ one ∷ []) ≡ length v.notes.published + 1 = length-append v.notes.published (one ∷ []) in
    let confs = h.confs in
    subst (Edits n) (sym p.told) record {
      claim = subst (λ k. 0 < k) (sym (extended_total 0 tag v.claims)) h.claim;
      confs = length-append v.notes.confs (spare_of v.notes ∷ []) ∙ (ap (λ k. k + 1) h.confs ∙ ap (λ k. k + 1) (sym many));
      before = ap (λ k. length (get_or (v.notes.confs ++ spare_of v.notes ∷ []) k [])) (let e : length (v.notes.published ++ one ∷ []) - 1 ≡ length v.notes.published = omega arith in e)
          ∙ (ap length (get_front v.notes.confs (spare_of v.notes) [] (length v.notes.published) (omega arith)) ∙ ap length h.shown);
      shown = get_last v.notes.confs (spare_of v.notes) [] (length (v.notes.published ++ one ∷ [])) (omega arith) ∙ spare;
    }

-- ## Lives

pub others_life : (d : ℕ) (b : Drain) (v w : Told) (f : List (ℕ × ℕ)) → w ≡ record v { notes = with_life d b v.notes; found = f } → LeavesOthers d v w
others_life d b v w f e q ne = ap (λ (z : Told). (drain z.notes q).phase) e ∙ ap (λ (z : Drain). z.phase) (get_or-set_other v.notes.drains d q b no_drain ne)

pub others_looks : (d : ℕ) (ls : List Look) (v w : Told) → w ≡ after_looks ls v → LeavesOthers d v w
others_looks d ls v w e q ne = ap (λ (z : Told). (drain z.notes q).phase) e ∙ phase_after ls v.notes q

pub others_then : (d : ℕ) (u v w : Told) → LeavesOthers d u v → LeavesOthers d v w → LeavesOthers d u w
others_then d u v w first second q ne = second q ne ∙ first q ne

pub others_folds : (d : ℕ) (v w : Told) → Folds d v w → LeavesOthers d v w
others_folds d v w f = let u = after_looks f.looks v in others_then d v u w (others_looks d f.looks v u refl) (others_life d _ u w f.folds.found f.folds.told)

pub edits_done : (n d place serial : ℕ) (tag : Tag) (v w : Told) → Ended twin_means tag d v w place serial → Edits n v → Edits n w
edits_done n d place serial tag v w x h = subst (Edits n) (sym x.told) record {
  claim = subst (λ k. 0 < k) (sym (extended_total 0 tag v.claims)) h.claim;
  confs = h.confs;
  before = h.before;
  shown = h.shown;
}

pub others_done : (d place serial : ℕ) (tag : Tag) (v w : Told) → Ended twin_means tag d v w place serial → LeavesOthers d v w
others_done d place serial tag v w x q ne = ap (λ (z : Told). (drain z.notes q).phase) x.told ∙ ap (λ (z : Drain). z.phase) (get_or-set_other v.notes.drains d q (ended d v.notes) no_drain ne)

-- of two disks
pub either : (d : ℕ) (v : Told) → d < 2 → IsIn phase.Live 0 v → IsIn phase.Live 1 v → (drain v.notes d).phase ≡ phase.Live
either zero v near one two = one
either (suc zero) v near one two = two
either (suc (suc d)) v near one two = absurd (omega arith)

pub spare_words : (n : ℕ) (k : Editor) (ps : List (ℕ × ℕ)) → k.pending ≡ (1, n) ∷ ((0, n) ∷ ps) → length (spare_of k) ≡ 2 → spare_of k ≡ n ∷ (n ∷ [])
spare_words n k ps e long = let is = ap (overlaid (conf k (length k.published - 1))) e in
    is ∙ two_set (overlaid (conf k (length k.published - 1)) ps) n (sym (ap length is) ∙ long)

pub others_revived : (d : ℕ) (v w : Told) → w ≡ record v { notes = new_life d v.notes } → LeavesOthers d v w
others_revived d v w e = let b : Told = record v { notes = with_life d (armed d v.notes) v.notes } in
    others_then d v b w (others_life d (armed d v.notes) v b v.found refl) (others_life d (revived d b.notes) b w v.found e)

-- ## Steps

-- a section that got a hold took seven
pub hold_steps : (d : ℕ) (v w : Told) (a b c e f h : Counted) → b ≡ record a { own = a.own + 1 } → c ≡ record b { clock = b.clock + 1 } → e ≡ record c { row = c.row + 1 }
    → Gets d v w e f → h ≡ record f { own = f.own + 1 } → all_steps h ≡ all_steps a + 7
hold_steps d v w a b c e f h enters draws loads gets leaves = let one = once gets.mode in
    omega (arith, ap all_steps enters, ap all_steps draws, ap all_steps loads, ap all_steps gets.ticks, ap all_steps leaves)
