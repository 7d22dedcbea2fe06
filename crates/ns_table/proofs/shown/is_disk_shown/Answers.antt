use Rattle.std.proofs.Common.{◌≡◌, ◌||◌, Bool, List, [], ◌∷◌, map, refl, sym, ap, ◌∙◌}
use Rattle.std.specs.List.{list_any}
use Rattle.std.specs.FinMap as maps
use Rattle.ns_table.specs.Words.{entry_shows, is_shown, subsystem_shows}
use Rattle.ns_table.proofs.shown.is_disk_shown.Goals as goal

-- whether something passes, of a list that is seen by a part of each entry
any_of : {A B : Type 0} (f : A → B) (p : B → Bool) (es : List A)
    → list_any (λ e. p (f e)) es ≡ list_any p (map f es)
any_of f p [] = refl
any_of f p (e ∷ es) = ap (λ b. p (f e) || b) (any_of f p es)

pub returns : goal.returns
unfolding is_shown
returns c =
    c.any_shows.ensures
    ∙ ap (λ rows. list_any (entry_shows c.args.disk) rows) c.entries.ensures
    ∙ ap (λ rows. list_any (entry_shows c.args.disk) (maps.entries rows)) c.subsystems.ensures
    ∙ any_of (λ e. e.1) (subsystem_shows c.args.disk) (maps.entries c.args.tree.now.settings.subsystems)
