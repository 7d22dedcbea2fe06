-- What the target keeps of an admin queue's controller shows its notices, and goes on to.
use Rattle.std.proofs.Common.{◌≡◌, ◌≤◌, ◌<◌, ◌+◌, ◌-◌, ◌^◌, min, max, nat_le, nat_lt, ℕ, Bool, true, false, cond, List, [], ◌∷◌, length, Option, Some, None, is_some, slice_index, refl, sym, ap, subst, ◌∙◌, arith}
use Rattle.std.specs.Option.{unwrap_or}
use Rattle.std.specs.FinMap as map
use Rattle.std.proofs.lemmas.Bool.{le-ltb}
use Rattle.sqe_cqe.specs.declared.rows.TheConstants.{MAX_NSID}
use Rattle.sqe_cqe.specs.declared.controllers.ControllerRow.{ControllerRow}
use Rattle.configfs_rows.specs.declared.limits.TheConstants.{MAX_SUBSYSTEMS, MAX_PORTS}
use Rattle.configfs_rows.specs.declared.subsystems.SubsystemRow.{SubsystemRow}
use Rattle.configfs_rows.specs.declared.ports.PortRow.{PortRow}
use Rattle.configfs_tree.specs.Links.{subsystem_place, port_place}
use Rattle.configfs_tree.specs.Stays.{is_subsystem_attached, is_port_attached, SubsystemAt, PortAt, Stays}
use Rattle.configfs_tree.specs.declared.configuration.Attached.{Attached}
use Rattle.configfs_tree.specs.declared.configuration.Settings.{Settings}
use Rattle.configfs_tree.specs.declared.configuration.Configuration.{Configuration}
use Rattle.configfs_tree.specs.declared.edits.Change.{Change}
use Rattle.async_events.specs.declared.events.Events.{Events}
use Rattle.async_events.specs.Notices.{Published, Notices, at_connect, after_mark, listed_step}
use Rattle.async_events.specs.Stamps.{Stamps as SeenStamps, IsStamped, shown, begun}
use Rattle.async_events.proofs.Folds.{shows_fold, begins_fresh}
use Rattle.change_stamps.specs.Stamps.{Stamps, place_of, space_stamp, ana_stamp, next_serial, raised, stamped, stamps_after}
use Rattle.notice_laws.specs.Marks.{mark_of, seen_by, AreSound, IsInRange}
use Rattle.notice_laws.proofs.Marking.{notices_are_the_fold, list_is_the_fold, raise_is_a_mark}
use Rattle.fabrics_connect.specs.Checks.{numbered}
use Rattle.tree_target.specs.Model.{Bound, Binding, Target}
use Rattle.tree_target.specs.Controls.{subsystem_placed, port_placed}
use Rattle.tree_target.specs.Admission.{events_numbered}
use Rattle.tree_target.proofs.Joining.{Grows}
use Rattle.history_notices.proofs.Bindings.{Apart}

-- ---- serials
next_is : (s : Stamps) → s.serial < 2 ^ 32 - 1 → next_serial s ≡ s.serial + 1
next_is s h = omega (arith, h)

pub raised_low : (s : Stamps) (n : ℕ) → s.serial < 2 ^ 32 - 1 → n ≤ s.serial
    → n ≤ (raised s).serial
raised_low s n room low = let e = next_is s room in omega (arith, e, low)

pub raised_sound : (s : Stamps) → s.serial < 2 ^ 32 - 1 → AreSound s → AreSound (raised s)
raised_sound s room sound = record {
  spaces_len = sound.spaces_len;
  subs_len = sound.subs_len;
  ports_len = sound.ports_len;
  spaces = λ i. raised_low s (slice_index s.spaces i) room (sound.spaces i);
  subs = λ i. raised_low s (slice_index s.subs i) room (sound.subs i);
  ports = λ i. raised_low s (slice_index s.ports i) room (sound.ports i);
}

stamp_low : (b : Bool) (x n : ℕ) → x ≤ n → cond b x 0 ≤ n
stamp_low true x n low = low
stamp_low false x n low = omega arith

later_low : (x y n : ℕ) → x ≤ n → y ≤ n → max x y ≤ n
later_low x y n hx hy = omega (arith, hx, hy)

pub seen_stamped_well : (sub port : ℕ) (s : Stamps) → AreSound s → IsStamped (seen_by sub port s)
unfolding space_stamp ana_stamp
seen_stamped_well sub port s sound = record {
  ns = λ n. stamp_low (nat_le n MAX_NSID) (slice_index s.spaces (place_of sub n)) s.serial
      (sound.spaces (place_of sub n));
  ana = later_low (slice_index s.subs sub) (slice_index s.ports port) s.serial (sound.subs sub)
      (sound.ports port);
}

pub raised_by : (s : Stamps) → (raised s).serial ≤ s.serial + 1
raised_by s = least (s.serial + 1) (2 ^ 32 - 1) where
  least : (a b : ℕ) → min a b ≤ a
  least a b = omega arith

stamped_by : (c : Change) (s : Stamps) (b : Bool) → (cond b (stamped c s) s).serial ≤ s.serial + 1
unfolding stamped
stamped_by c s true = raised_by s
stamped_by c s false = omega arith

pub noted_by : (c : Change) (s : Stamps) → (stamps_after c s).serial ≤ s.serial + 1
noted_by c s = stamped_by c s c.published

stamped_up : (c : Change) (s : Stamps) (b : Bool) (n : ℕ) → s.serial < 2 ^ 32 - 1 → n ≤ s.serial
    → n ≤ (cond b (stamped c s) s).serial
unfolding stamped
stamped_up c s true n room low = raised_low s n room low
stamped_up c s false n room low = low

pub noted_up : (c : Change) (s : Stamps) (n : ℕ) → s.serial < 2 ^ 32 - 1 → n ≤ s.serial
    → n ≤ (stamps_after c s).serial
noted_up c s n room low = stamped_up c s c.published n room low

-- ---- positions of names
pub sub_placed : (t : Configuration) (name : List ℕ) (at : ℕ) → SubsystemAt t name at
    → subsystem_placed t name ≡ at
sub_placed t name at x =
    ap (λ (o : Option SubsystemRow). unwrap_or (subsystem_place o) 0) x.found ∙ x.at_is

pub port_is_placed : (t : Configuration) (id at : ℕ) → PortAt t id at → port_placed t id ≡ at
port_is_placed t id at x =
    ap (λ (o : Option PortRow). unwrap_or (port_place o) 0) x.found ∙ x.at_is

-- names stay at their positions where controllers are attached
pub record Carries (t u : Configuration) : Type 0 where
  pub sub : (name : List ℕ) (at : ℕ) → SubsystemAt t name at → is_subsystem_attached t at ≡ true
      → SubsystemAt u name at × (is_subsystem_attached u at ≡ true)
  pub port : (id at : ℕ) → PortAt t id at → is_port_attached t at ≡ true
      → PortAt u id at × (is_port_attached u at ≡ true)

pub carries_same : (t : Configuration) → Carries t t
carries_same t = record { sub = λ name at x on. (x, on); port = λ id at x on. (x, on) }

pub carries_grown : (t u : Configuration) → Grows t u → Carries t u
carries_grown t u g = record {
  sub = λ name at x on. (g.named name at x, g.subsystems at on);
  port = λ id at x on. (g.numbered id at x, g.ports at on);
}

attached_sub : (t u : Configuration) (at : ℕ) → u.settings.attached ≡ t.settings.attached
    → is_subsystem_attached u at ≡ is_subsystem_attached t at
attached_sub t u at e = ap (λ (a : Attached). nat_lt 0 (slice_index a.subsystems at)) e

attached_port : (t u : Configuration) (at : ℕ) → u.settings.attached ≡ t.settings.attached
    → is_port_attached u at ≡ is_port_attached t at
attached_port t u at e = ap (λ (a : Attached). nat_lt 0 (slice_index a.ports at)) e

pub carries_stays : (t u : Configuration) → Stays t u → Carries t u
carries_stays t u s = record {
  sub = λ name at x on. (s.subsystems name at on x, attached_sub t u at s.attached ∙ on);
  port = λ id at x on. (s.ports id at on x, attached_port t u at s.attached ∙ on);
}

pub carries_settings : (t u : Configuration) → u.settings ≡ t.settings → Carries t u
carries_settings t u e = record {
  sub = λ name at x on. (
    record {
      row = x.row;
      found = ap (λ (y : Settings). map.get y.subsystems name) e ∙ x.found;
      at_is = x.at_is;
    },
    attached_sub t u at (ap (λ (y : Settings). y.attached) e) ∙ on,
  );
  port = λ id at x on. (
    record {
      row = x.row;
      found = ap (λ (y : Settings). map.get y.ports id) e ∙ x.found;
      at_is = x.at_is;
    },
    attached_port t u at (ap (λ (y : Settings). y.attached) e) ∙ on,
  );
}

-- ---- the parts of a target that notices depend on
pub record Parts : Type 0 where
  pub tree : Configuration
  pub controllers : List ControllerRow
  pub bindings : List Binding
  pub stamps : Stamps
  pub events : List Events

abbrev pub parts : Target → Parts
parts t = record {
  tree = t.tree;
  controllers = t.controllers;
  bindings = t.bindings;
  stamps = t.stamps;
  events = t.events;
}

-- what holds of all queues
pub record Base (p : Parts) : Type 0 where
  pub sound : AreSound p.stamps
  pub states : length p.events ≡ length p.controllers
  pub subsystems : length p.tree.settings.attached.subsystems ≡ MAX_SUBSYSTEMS
  pub ports : length p.tree.settings.attached.ports ≡ MAX_PORTS
  pub apart : Apart p.bindings (length p.controllers)

-- a controller's events show these notices, and stamps above its last clearing read this list
pub record Own (p : Parts) (port : ℕ) (b : Bound) (n : Notices) (listed : ℕ → Bool) : Type 0 where
  pub k : Events
  pub sub : ℕ
  pub at : ℕ
  pub row : is_some (numbered p.controllers b.controller) ≡ true
  pub own : events_numbered p.events b.controller ≡ Some k
  pub seen : k.seen ≤ p.stamps.serial
  pub cleared : k.cleared ≤ p.stamps.serial
  pub shows : shown MAX_NSID (seen_by sub at p.stamps) k ≡ n
  pub lists : (m : ℕ) → nat_lt k.cleared (space_stamp p.stamps sub m) ≡ listed m
  pub sub_at : SubsystemAt p.tree b.subsystem sub
  pub sub_on : is_subsystem_attached p.tree sub ≡ true
  pub port_at : PortAt p.tree port at
  pub port_on : is_port_attached p.tree at ≡ true

-- the other parts may change, as long as its own go on
pub carried : (p q : Parts) (port : ℕ) (b : Bound) (n : Notices) (l : ℕ → Bool)
    → Own p port b n l → q.stamps ≡ p.stamps → Carries p.tree q.tree
    → (is_some (numbered p.controllers b.controller) ≡ true
    → is_some (numbered q.controllers b.controller) ≡ true)
    → ((k : Events) → events_numbered p.events b.controller ≡ Some k
    → events_numbered q.events b.controller ≡ Some k) → Own q port b n l
carried p q port b n l o same tree rows events =
    let s = tree.sub b.subsystem o.sub o.sub_at o.sub_on in
    let t = tree.port port o.at o.port_at o.port_on in
    record {
      k = o.k;
      sub = o.sub;
      at = o.at;
      row = rows o.row;
      own = events o.k o.own;
      seen = subst (λ (x : Stamps). o.k.seen ≤ x.serial) (sym same) o.seen;
      cleared = subst (λ (x : Stamps). o.k.cleared ≤ x.serial) (sym same) o.cleared;
      shows = ap (λ (x : Stamps). shown MAX_NSID (seen_by o.sub o.at x) o.k) same ∙ o.shows;
      lists = λ m. ap (λ (x : Stamps). nat_lt o.k.cleared (space_stamp x o.sub m)) same
          ∙ o.lists m;
      sub_at = s.0;
      sub_on = s.1;
      port_at = t.0;
      port_on = t.1;
    }

-- ---- a change of the controllers alone
nothing_published : (n : Notices) → after_mark n (Published None false) ≡ n
nothing_published n = refl

pub carried_raised : (p : Parts) (port : ℕ) (b : Bound) (n : Notices) (l : ℕ → Bool)
    → p.stamps.serial < 2 ^ 32 - 1 → Own p port b n l
    → Own (record p { stamps = raised p.stamps }) port b n l
unfolding space_stamp
carried_raised p port b n l room o = record {
  k = o.k;
  sub = o.sub;
  at = o.at;
  row = o.row;
  own = o.own;
  seen = raised_low p.stamps o.k.seen room o.seen;
  cleared = raised_low p.stamps o.k.cleared room o.cleared;
  shows = ap (λ (x : SeenStamps). shown MAX_NSID x o.k)
      (raise_is_a_mark p.stamps o.sub o.at room)
      ∙ (shows_fold MAX_NSID (seen_by o.sub o.at p.stamps) o.k (Published None false ∷ []) o.seen
      (tt, tt) ∙ o.shows);
  lists = o.lists;
  sub_at = o.sub_at;
  sub_on = o.sub_on;
  port_at = o.port_at;
  port_on = o.port_on;
}

-- ---- an edit
abbrev pub with_edit : Parts → Configuration → Change → Parts
with_edit p u c = record p { tree = u; stamps = stamps_after c p.stamps }

room_one : (n : ℕ) → n < 2 ^ 32 - 1 → n + 1 < 2 ^ 32
room_one n h = omega (arith, h)

pub carried_edit : (p : Parts) (port : ℕ) (b : Bound) (n : Notices) (l : ℕ → Bool)
    (u : Configuration) (c : Change) → p.stamps.serial < 2 ^ 32 - 1 → AreSound p.stamps
    → IsInRange c → Carries p.tree u → Own p port b n l
    → Own (with_edit p u c) port b
    (after_mark n (mark_of (subsystem_placed p.tree b.subsystem) (port_placed p.tree port) c))
    (λ m. listed_step m (l m)
    (mark_of (subsystem_placed p.tree b.subsystem) (port_placed p.tree port) c))
carried_edit p port b n l u c room sound range tree o =
    let s = tree.sub b.subsystem o.sub o.sub_at o.sub_on in
    let t = tree.port port o.at o.port_at o.port_on in
    let mark : mark_of o.sub o.at c
    ≡ mark_of (subsystem_placed p.tree b.subsystem) (port_placed p.tree port) c =
    λ i. mark_of ((sym (sub_placed p.tree b.subsystem o.sub o.sub_at)) i)
    ((sym (port_is_placed p.tree port o.at o.port_at)) i) c in
    record {
      k = o.k;
      sub = o.sub;
      at = o.at;
      row = o.row;
      own = o.own;
      seen = noted_up c p.stamps o.k.seen room o.seen;
      cleared = noted_up c p.stamps o.k.cleared room o.cleared;
      shows = notices_are_the_fold p.stamps (c ∷ []) o.sub o.at o.k sound (range, tt)
          (room_one p.stamps.serial room) o.seen
          ∙ (ap (λ (x : Notices). after_mark x (mark_of o.sub o.at c)) o.shows
          ∙ ap (after_mark n) mark);
      lists = λ m. list_is_the_fold p.stamps (c ∷ []) o.sub o.at m o.k.cleared sound (range, tt)
          (room_one p.stamps.serial room) o.cleared
          ∙ (ap (λ (x : Bool). listed_step m x (mark_of o.sub o.at c)) (o.lists m)
          ∙ ap (listed_step m (l m)) mark);
      sub_at = s.0;
      sub_on = s.1;
      port_at = t.0;
      port_on = t.1;
    }

-- ---- a Connect
pub fresh_shows : (sub at : ℕ) (s : Stamps) (kato : ℕ) → AreSound s
    → shown MAX_NSID (seen_by sub at s) (begun s.serial kato) ≡ at_connect
fresh_shows sub at s kato sound =
    begins_fresh MAX_NSID kato (seen_by sub at s) (seen_stamped_well sub at s sound)

pub fresh_lists : (sub at : ℕ) (s : Stamps) → AreSound s → (m : ℕ)
    → nat_lt s.serial (space_stamp s sub m) ≡ false
fresh_lists sub at s sound m =
    le-ltb s.serial (space_stamp s sub m) ((seen_stamped_well sub at s sound).ns m)
