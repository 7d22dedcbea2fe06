-- The two sides and the turns are kept where one seat's view changes.
use Rattle.std.proofs.Common.{◌≡◌, ◌<◌, ◌⊎◌, ℕ, ◌+◌, ◌-◌, List, [], length, get_or, set, sym, ap, ◌∙◌, subst, inl, ⊎_elim}
use mathlib.Core.Option.{some}
use lib.ListN.{get_elem?}
use Rattle.ref_state.specs.declared.state.View.{View}
use Rattle.ref_state.specs.declared.state.Editor.{Editor}
use Rattle.ref_state.specs.State.{At, read, Reads, AllPassed, total, of_slot}
use Rattle.ref_state.specs.Soundness.{Every, SidesAgree, TurnsOwned}
use Rattle.ref_state.proofs.Lists.{each_set, total_same}

module _ (n rows serial : ℕ) (sides : List (List ℕ)) (k : Editor) (views : List View)
    (x : SidesAgree n rows serial sides k views) where
  pub sides_move : (j : ℕ) (v w : View) → At views j v → ((s : ℕ) → Reads w s → (s ≡ serial)
      ⊎ Reads v s) → SidesAgree n rows serial sides k (set views j w)
  sides_move j v w sits reads = record {
    two = x.two;
    confs = x.confs;
    wide = x.wide;
    last = x.last;
    spare = x.spare;
    still = x.still;
    reads = each_set (λ _ u. (s : ℕ) → Reads u s → (s ≡ serial)
        ⊎ (s + 1 ≡ serial)) views j w x.reads (λ s e. ⊎_elim (λ (t : s
        ≡ serial). inl t) (λ (t : Reads v s). x.reads j v sits s t) (reads s e));
  }

  -- another editor with the same words, and no mark that was passed taken back
  pub sides_editor : (l : Editor) → l.confs ≡ k.confs → l.pending ≡ k.pending
      → (AllPassed n k.marks → AllPassed n l.marks) → SidesAgree n rows serial sides l views
  sides_editor l confs pending passed = record {
    two = x.two;
    confs = ap length confs ∙ x.confs;
    wide = λ s near. ap (λ cs. length (get_or cs s [])) confs ∙ x.wide s near;
    last = x.last ∙ ap (λ (cs : List (List ℕ)). get_or cs serial []) (sym confs);
    spare = x.spare ∙ λ i. Rattle.ref_state.specs.State.overlaid
        (get_or (sym confs i) (serial - 1) []) (sym pending i);
    still = λ some_set. passed (x.still (λ e. some_set (pending ∙ e)));
    reads = x.reads;
  }

pub turns_stay : (n : ℕ) (turns : List ℕ) (views : List View) (j : ℕ) (v w : View) → At views j v
    → w.number ≡ v.number → w.turns ≡ v.turns → TurnsOwned n turns views
    → TurnsOwned n turns (set views j w)
turns_stay n turns views j v w sits number same x = record {
  numbered = each_set (λ i u. (i < n → u.number ≡ i)
      × (u.number < n)) views j w x.numbered (subst (λ (z : ℕ). (j < n → z ≡ j)
      × (z < n)) (sym number) (x.numbered j v sits));
  holders = λ s near. total_same (λ u. total (of_slot s) u.turns) views j v w sits
      (ap (total (of_slot s)) same) ∙ x.holders s near;
  owner = each_set (λ i u. Every (λ t. get_elem? turns t.slot
      ≡ some (i + 1)) u.turns) views j w x.owner (subst (Every (λ t. get_elem? turns t.slot
      ≡ some (j + 1))) (sym same) (x.owner j v sits));
}
