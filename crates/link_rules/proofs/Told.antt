-- What an edit of a link tells, by the positions that the code has in hand.
use Rattle.std.proofs.Common.{◌≡◌, ℕ, Bool, true, false, not, List, Option, Some, Result, Ok, Err, refl, sym, ap, subst, ◌∙◌}
use Rattle.std.specs.Result.{is_ok, is_err, OnOk}
use Rattle.std.specs.FinMap as map
use Rattle.configfs_rows.specs.Ports.{put_link}
use Rattle.configfs_rows.specs.Subsystems.{put_allowed}
use Rattle.configfs_rows.specs.declared.ports.PortRow.{PortRow}
use Rattle.configfs_rows.specs.declared.subsystems.SubsystemRow.{SubsystemRow}
use Rattle.configfs_tree.specs.Links.{allowed_in, linked_in, with_allowed, with_link, subsystem_row}
use Rattle.configfs_tree.specs.Outcome.{touching, on_subsystem, on_port}
use Rattle.configfs_tree.specs.Stays.{Stays}
use Rattle.configfs_tree.specs.Told.{Tells}
use Rattle.configfs_tree.specs.declared.edits.Change.{Change}
use Rattle.configfs_tree.specs.declared.edits.Touched.TheVariants as touches
use Rattle.configfs_tree.specs.declared.configuration.Configuration.{Configuration}
use Rattle.link_rules.specs.Found.{SubsystemFound, PortFound}
use Rattle.link_rules.proofs.Tells.{allowed_tells, allowed_stays, linked_tells, linked_stays}

pub on_ok : {T E : Type 0} (r : Result T E) (P : Type 0) → OnOk r P → is_err r ≡ false → P
on_ok (Ok x) P h e = h
on_ok (Err d) P h e = absurd cc

pub on_taken : {T E : Type 0} (r : Result T E) (P : Type 0) → OnOk r P → is_ok r ≡ true → P
on_taken (Ok x) P h e = h
on_taken (Err d) P h e = absurd cc

-- ---- hosts
allowed_is : (t : Configuration) (sub host : List ℕ) (linked : Bool) (s : SubsystemRow)
    → SubsystemFound t sub s
    → with_allowed t s.at host linked ≡ on_subsystem t sub (put_allowed host linked)
allowed_is t sub host linked s f = ap (λ (o : Option SubsystemRow). allowed_in t host linked o)
    f.stands
    ∙ ap (λ (n : List ℕ). on_subsystem t n (put_allowed host linked)) f.named

pub allowed_told : (t u : Configuration) (sub host : List ℕ) (linked : Bool) (s : SubsystemRow)
    (change : Change) → SubsystemFound t sub s
    → map.contains_key s.allowed_hosts host ≡ not linked → u ≡ with_allowed t s.at host linked
    → change ≡ touching (touches.Subsystem s.at) → Tells t u change
allowed_told t u sub host linked s change f was is told =
    rw (told, is ∙ allowed_is t sub host linked s f) (allowed_tells t sub host linked s f.found was)

pub allowed_left : (t u : Configuration) (sub host : List ℕ) (linked : Bool) (s : SubsystemRow)
    → SubsystemFound t sub s → u ≡ with_allowed t s.at host linked → Stays t u
allowed_left t u sub host linked s f is =
    rw (is ∙ allowed_is t sub host linked s f) (allowed_stays t sub host linked s f.found)

-- ---- subsystems
linked_is : (t : Configuration) (id : ℕ) (sub : List ℕ) (linked : Bool) (p : PortRow)
    (s : SubsystemRow) → PortFound t id p → SubsystemFound t sub s
    → with_link t p.at s.at linked ≡ on_port t id (put_link sub linked)
linked_is t id sub linked p s f g = ap (λ (o : Option PortRow). linked_in t linked o
    (subsystem_row t s.at)) f.stands
    ∙ (ap (λ (o : Option SubsystemRow). linked_in t linked (Some p) o) g.stands
    ∙ (ap (λ (n : List ℕ). on_port t p.id (put_link n linked)) g.named
    ∙ ap (λ (i : ℕ). on_port t i (put_link sub linked)) f.numbered))

pub linked_told : (t u : Configuration) (id : ℕ) (sub : List ℕ) (linked : Bool) (p : PortRow)
    (s : SubsystemRow) (change : Change) → PortFound t id p → SubsystemFound t sub s
    → map.contains_key p.links sub ≡ not linked → u ≡ with_link t p.at s.at linked
    → change ≡ touching (touches.Port p.at) → Tells t u change
linked_told t u id sub linked p s change f g was is told =
    rw (told, is ∙ linked_is t id sub linked p s f g) (linked_tells t id sub linked p f.found was)

pub linked_left : (t u : Configuration) (id : ℕ) (sub : List ℕ) (linked : Bool) (p : PortRow)
    (s : SubsystemRow) → PortFound t id p → SubsystemFound t sub s
    → u ≡ with_link t p.at s.at linked → Stays t u
linked_left t u id sub linked p s f g is =
    rw (is ∙ linked_is t id sub linked p s f g) (linked_stays t id sub linked p f.found)
