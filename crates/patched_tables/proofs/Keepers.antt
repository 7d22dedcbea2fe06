-- What editors and readers keep.
use Rattle.std.proofs.Common.{◌≡◌, ℕ, zero, suc, ◌+◌, ◌-◌, ◌<◌, ◌++◌, List, [], ◌∷◌, length, get_or, set, sym, refl, ap, ◌∙◌, subst, arith, length-append}
use Rattle.std.proofs.lemmas.List.{length-set}
use Rattle.ref_state.specs.declared.state.Editor.{Editor}
use Rattle.ref_state.specs.State.{conf, overlaid, drain, total}
use Rattle.ref_state.specs.declared.kinds.Tag.{Tag}
use Rattle.ref_state.specs.declared.state.Published.{Published as Published_}
use Rattle.ref_state.specs.Steps.{after_enter, after_leave}
use Rattle.table_rule.specs.declared.rule.Told.{Told}
use Rattle.table_rule.specs.Meant.{target, replay}
use Rattle.table_rule.specs.Shown.{claims_of}
use Rattle.table_rule.specs.Plays.{Published, Drew, spare_of}
use Rattle.table_rule.proofs.Claiming.{extended_total}
use Rattle.rcu_sections.specs.Grace.{Look, after_looks}
use Rattle.rcu_sections.proofs.Looking.{phase_after}
use Rattle.patched_tables.specs.Patching.{patch_means}
use Rattle.patched_tables.specs.Keeping.{Rests, Keeps, disks}

-- ## Words that are set

overlaid-length : (ws : List ℕ) (ps : List (ℕ × ℕ)) → length (overlaid ws ps) ≡ length ws
overlaid-length ws [] = refl
overlaid-length ws (p ∷ ps) = length-set (overlaid ws ps) p.0 p.1 ∙ overlaid-length ws ps

overlaid-append : (ws : List ℕ) (ps qs : List (ℕ × ℕ)) → overlaid ws (ps ++ qs) ≡ overlaid (overlaid ws qs) ps
overlaid-append ws [] qs = refl
overlaid-append ws (p ∷ ps) qs = ap (λ (l : List ℕ). set l p.0 p.1) (overlaid-append ws ps qs)

nothing-after : (ps : List (ℕ × ℕ)) → ps ++ [] ≡ ps
nothing-after [] = refl
nothing-after (p ∷ ps) = ap (λ (l : List (ℕ × ℕ)). p ∷ l) (nothing-after ps)

get_last : {A : Type 0} (l : List A) (x d : A) (i : ℕ) → i ≡ length l → get_or (l ++ x ∷ []) i d ≡ x
get_last [] x d zero e = refl
get_last [] x d (suc i) e = absurd (omega arith)
get_last (y ∷ l) x d zero e = absurd (omega arith)
get_last (y ∷ l) x d (suc i) e = get_last l x d i (omega arith)

get_front : {A : Type 0} (l : List A) (x d : A) (i : ℕ) → i < length l → get_or (l ++ x ∷ []) i d ≡ get_or l i d
get_front [] x d i h = absurd (omega arith)
get_front (y ∷ l) x d zero h = refl
get_front (y ∷ l) x d (suc i) h = get_front l x d i (omega arith)

-- ## Edits

module _ (opened : List ℕ) (ps : List (List (ℕ × ℕ))) where
  -- looks at section words leave what the editor keeps
  pub keeps_after : (last : List (ℕ × ℕ)) (ls : List Look) (a b : Told) → b ≡ after_looks ls a → Keeps opened ps last a → Keeps opened ps last b
  keeps_after last ls a b e h = subst (Keeps opened ps last) (sym e) record {
    claim = h.claim;
    confs = h.confs;
    none = h.none;
    long = h.long;
    shown = h.shown;
    before = h.before;
    live = λ d near. phase_after ls a.notes d ∙ h.live d near;
  }

  -- the words of the spare side, once those of the last patch and of the next are set
  pub spare_is : (last patch : List (ℕ × ℕ)) (v w : Told) → Keeps opened ps last v
      → w ≡ record v { notes = record v.notes { pending = patch ++ (last ++ v.notes.pending) } }
      → spare_of w.notes ≡ overlaid (conf v.notes (length v.notes.published)) patch
  spare_is last patch v w h e =
      let c = conf v.notes (length v.notes.published - 1) in
      ap (λ (z : Told). spare_of z.notes) e
      ∙ (ap (λ (l : List (ℕ × ℕ)). overlaid c (patch ++ (last ++ l))) h.none
      ∙ (ap (λ (l : List (ℕ × ℕ)). overlaid c (patch ++ l)) (nothing-after last)
      ∙ (overlaid-append c patch last ∙ ap (λ (l : List ℕ). overlaid l patch) h.before)))

  pub spare_long : (last patch : List (ℕ × ℕ)) (v w : Told) → Keeps opened ps last v
      → w ≡ record v { notes = record v.notes { pending = patch ++ (last ++ v.notes.pending) } }
      → length (spare_of w.notes) ≡ length opened
  spare_long last patch v w h e = ap length (spare_is last patch v w h e)
      ∙ (overlaid-length (conf v.notes (length v.notes.published)) patch ∙ h.long)

  -- after the edit of that patch
  pub published_keeps : (place serial : ℕ) (tag : Tag) (last patch : List (ℕ × ℕ)) (v w x : Told) → Keeps opened ps last v
      → w ≡ record v { notes = record v.notes { pending = patch ++ (last ++ v.notes.pending) } }
      → Published (patch_means opened ps) tag w x place serial
      → target (patch_means opened ps) x.known ≡ spare_of w.notes → Keeps opened ps patch x
  published_keeps place serial tag last patch v w x h e p shows =
      let spare = spare_is last patch v w h e in
      let one : Published_ = record { place = place; call = tag } in
      let confs : length w.notes.confs ≡ length w.notes.published + 1 = ap (λ (z : Told). length z.notes.confs) e ∙ (h.confs ∙ sym (ap (λ (z : Told). length z.notes.published + 1) e)) in
      let shown : conf w.notes (length w.notes.published) ≡ conf v.notes (length v.notes.published) = ap (λ (z : Told). conf z.notes (length z.notes.published)) e in
      let many : length (w.notes.published ++ one ∷ []) ≡ length w.notes.published + 1 = length-append w.notes.published (one ∷ []) in
      let front : get_or (w.notes.confs ++ spare_of w.notes ∷ []) (length (w.notes.published ++ one ∷ []) - 1) [] ≡ conf w.notes (length w.notes.published)
      = ap (λ k. get_or (w.notes.confs ++ spare_of w.notes ∷ []) k []) (let f : length (w.notes.published ++ one ∷ []) - 1 ≡ length w.notes.published = omega arith in f)
      ∙ get_front w.notes.confs (spare_of w.notes) [] (length w.notes.published) (omega arith) in
      let back : get_or (w.notes.confs ++ spare_of w.notes ∷ []) (length (w.notes.published ++ one ∷ [])) [] ≡ spare_of w.notes
      = get_last w.notes.confs (spare_of w.notes) [] (length (w.notes.published ++ one ∷ [])) (omega arith) in
      let claimed : 0 < total (claims_of 0) w.claims = subst (λ (z : Told). 0 < total (claims_of 0) z.claims) (sym e) h.claim in
      subst (Keeps opened ps patch) (sym p.told) record {
        claim = subst (λ k. 0 < k) (sym (extended_total 0 tag w.claims)) claimed;
        confs = length-append w.notes.confs (spare_of w.notes ∷ []) ∙ (ap (λ k. k + 1) confs ∙ ap (λ k. k + 1) (sym many));
        none = refl;
        long = ap length back ∙ spare_long last patch v w h e;
        shown = back ∙ (sym shows ∙ ap (λ (z : Told). target (patch_means opened ps) z.known) p.told);
        before = ap (λ (l : List ℕ). overlaid l patch) (front ∙ shown) ∙ (sym spare ∙ sym back);
        live = λ d near. ap (λ (z : Told). (drain z.notes d).phase) e ∙ h.live d near;
      }

-- ## Sections

abbrev entered : Told → Told
entered v = record v { view = after_enter v.view }

abbrev left_by : Told → Told
left_by v = record v { view = after_leave v.view }

-- a section that got nothing is left
module _ (opened : List ℕ) (ps : List (List (ℕ × ℕ))) (n place serial : ℕ) (tag : Tag) (v a b : Told) (enters : a ≡ entered v) (drew : Drew (patch_means opened ps) tag a b place serial) (h : Rests n v) where
  claim_b : 0 < total (claims_of n) b.claims
  claim_b = subst (λ cs. 0 < total (claims_of n) cs) (sym (ap (λ (z : Told). z.claims) drew.told))
      (subst (λ k. 0 < k) (sym (extended_total n tag a.claims)) (subst (λ cs. 0 < total (claims_of n) cs) (sym (ap (λ (z : Told). z.claims) enters)) h.claim))

  pub rests_after : (z : Told) → z ≡ left_by b → Rests n z
  rests_after z e = subst (Rests n) (sym e) record {
    out = refl;
    free = ap (λ (x : Told). x.view.loaded) drew.told ∙ (ap (λ (x : Told). x.view.loaded) enters ∙ h.free);
    none = ap (λ (x : Told). x.view.holds) drew.told ∙ (ap (λ (x : Told). x.view.holds) enters ∙ h.none);
    claim = claim_b;
  }
