use Rattle.std.proofs.Common.{◌≡◌, ℕ, ◌<◌, ◌∙◌, List, [], ◌∷◌, ◌++◌, length, get_or, slice_set, ap}
use Rattle.std.proofs.lemmas.List.{set-append_left}
use Rattle.ref_state.specs.declared.kinds.Take.{Take}
use Rattle.ref_state.specs.declared.state.View.{View}
use Rattle.ref_state.specs.declared.state.State.{State as Core}
use Rattle.ref_state.specs.State.{view, no_view}
use Rattle.ref_state.specs.Steps.{after_split, split_part}
use Rattle.ref_state.proofs.SideSteps.{or_before}
use Rattle.ref_rule.proofs.parts.split.Goals as goal

-- the part is added, and then the seat's view is changed
splits : (vs ws : List View) (j : ℕ) (t : Take) (a p was is : View) → j < length vs
    → ws ≡ vs ++ p ∷ [] → a ≡ view vs j → p ≡ split_part t a → was ≡ get_or ws j no_view
    → is ≡ after_split t was
    → slice_set ws j is ≡ slice_set vs j (after_split t (view vs j))
    ++ split_part t (view vs j) ∷ []
splits vs ws j t a p was is near added at made before after =
    let was' : was ≡ view vs j = before ∙ (ap (λ (l : List View). get_or l j no_view) added
    ∙ or_before vs p j no_view near) in
    let is' : is ≡ after_split t (view vs j) = after ∙ ap (after_split t) was' in
    let p' : p ≡ split_part t (view vs j) = made ∙ ap (split_part t) at in
    (λ k. slice_set (added k) j (is' k)) ∙ (set-append_left vs (p ∷ []) j
    (after_split t (view vs j)) near ∙ (λ k. slice_set vs j (after_split t (view vs j))
    ++ p' k ∷ []))

pub returns-clause-done : goal.returns-clause-done
returns-clause-done c = let s : Core = c.args.s.now in
    ap (λ (vs : List View). record s { views = vs })
    (splits s.views c.push.new.self c.args.seat c.args.take c.at.result.now c.in_ok-part.part
    c.at_mut.result.now c.part_from.new.view c.requires.there c.in_ok-push.ensures.ok
    (c.at.ensures no_view) c.in_ok-part.ensures (c.at_mut.ensures.value no_view)
    c.part_from.ensures)
