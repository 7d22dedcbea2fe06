-- What an accepted Connect binds its queue to: by the checks, the subsystem that its data name and
-- the queue's own port, at their positions.
use Rattle.std.proofs.Common.{◌≡◌, ℕ, zero, suc, ◌<◌, ◌%◌, ◌/◌, ◌^◌, ◌+◌, ◌==◌, not, ◌||◌, Bool, true, false, cond, List, [], ◌∷◌, length, Option, Some, None, refl, sym, ap, subst, ◌∙◌}
use Rattle.std.specs.List.{AllByRecursion}
use Rattle.std.specs.Option.{unwrap_or}
use Rattle.std.specs.FinMap as map
use Rattle.std.proofs.lemmas.Bool.{both_ways}
use Rattle.sqe_cqe.specs.Sqe.{fctype_of}
use Rattle.sqe_cqe.specs.Connect.{connect_of, is_long_property_of, property_offset_of, property_value_of}
use Rattle.sqe_cqe.specs.declared.sqe.Sqe.{Sqe}
use Rattle.sqe_cqe.specs.declared.codes.TheConstants.{DATA_SGL_LENGTH_INVALID, INVALID_FIELD, PROPERTY_GET}
use Rattle.sqe_cqe.specs.declared.connect.ConnectData.{ConnectData}
use Rattle.sqe_cqe.specs.declared.controllers.Binding.{Binding}
use Rattle.sqe_cqe.specs.declared.controllers.Bound.{Bound}
use Rattle.sqe_cqe.specs.declared.controllers.ControllerRow.{ControllerRow}
use Rattle.configfs_rows.specs.Nqns.{is_nqn}
use Rattle.configfs_rows.specs.declared.limits.TheConstants.{MAX_SUBSYSTEMS, MAX_PORTS}
use Rattle.configfs_rows.specs.declared.subsystems.SubsystemRow.{SubsystemRow}
use Rattle.configfs_rows.specs.declared.ports.PortRow.{PortRow}
use Rattle.configfs_tree.specs.Links.{subsystem_place, port_place}
use Rattle.configfs_tree.specs.Standing.{IsStanding}
use Rattle.configfs_tree.specs.Stays.{is_subsystem_attached, is_port_attached, SubsystemAt, PortAt}
use Rattle.configfs_tree.specs.declared.configuration.Configuration.{Configuration}
use Rattle.fabrics_connect.specs.declared.answer.Answer.{Answer}
use Rattle.fabrics_connect.specs.declared.answer.Answer.TheVariants.{Refused, Makes, Joins, Reads, Sets}
use Rattle.fabrics_connect.specs.declared.registers.TheConstants.{OFFSET_CC}
use Rattle.fabrics_connect.specs.Names.{name_or_none}
use Rattle.fabrics_connect.specs.Registers.{property_at}
use Rattle.fabrics_connect.specs.Checks.{Check, refused, decided, subsystem_asked, port_asked, links_places, is_served, numbered, is_admin, connect_checks, bound_to, connected, connect_answer, read_answer, set_answer, accessed, property_answer, property_answer_at, control_checks, own_answer, control_answer}
use Rattle.fabrics_connect.specs.After.{is_at, FitsAnswer}
use Rattle.tree_target.specs.Controls.{subsystem_in}
use Rattle.tree_target.specs.Joined.{IsAttached}
use Rattle.tree_target.proofs.HeldList.{both_true, eqb_is}
use Rattle.tree_target.proofs.Joining.{all_get, HasPositions, MakesFirst}

-- ---- what an answer binds to
abbrev pub bound_by : Answer → Option Bound
bound_by (Refused fault) = None
bound_by (Makes bound host) = Some bound
bound_by (Joins bound) = Some bound
bound_by (Reads value) = None
bound_by (Sets value) = None

no_bound : (b : Bound) → None ≡ Some b → ⊥
no_bound b e = cc

-- ---- checks that pass
abbrev AllPass : List Check → Type 0
AllPass [] = Unit {0}
AllPass (c ∷ cs) = (c.fails ≡ false) × AllPass cs

record Passes (cs : List Check) (a : Answer) (b : Bound) : Type 0 where
  all : AllPass cs
  is : bound_by a ≡ Some b

passes_one : (c : Check) (cs : List Check) (a : Answer) (b : Bound) (f : Bool) → c.fails ≡ f
    → bound_by (cond f (refused c.status c.result) (decided cs a)) ≡ Some b
    → (bound_by (decided cs a) ≡ Some b → Passes cs a b) → Passes (c ∷ cs) a b
passes_one c cs a b true is e rest = absurd (no_bound b e)
passes_one c cs a b false is e rest =
    let p = rest e in record { all = (is, p.all); is = p.is }

passes : (cs : List Check) (a : Answer) (b : Bound) → bound_by (decided cs a) ≡ Some b
    → Passes cs a b
passes [] a b e = record { all = tt; is = e }
passes (c ∷ cs) a b e = passes_one c cs a b c.fails refl e (passes cs a b)

-- ---- properties bind nothing
none_either : (b : Bool) (x y : Answer) → bound_by x ≡ None → bound_by y ≡ None
    → bound_by (cond b x y) ≡ None
none_either true x y hx hy = hx
none_either false x y hx hy = hy

none_read : (o : Option ℕ) → bound_by (read_answer o) ≡ None
none_read None = refl
none_read (Some value) = refl

none_property : (o : Option ControllerRow) (e : Sqe) → bound_by (property_answer_at o e) ≡ None
unfolding property_answer
none_property None e = refl
none_property (Some c) e =
    none_either (not (e.sgl_len == 0)) (refused DATA_SGL_LENGTH_INVALID 0) (accessed c e) refl
    (none_either (fctype_of e == PROPERTY_GET)
    (read_answer (property_at c (is_long_property_of e) (property_offset_of e))) (set_answer e)
    (none_read (property_at c (is_long_property_of e) (property_offset_of e)))
    (none_either (is_long_property_of e || not (property_offset_of e == OFFSET_CC))
    (refused INVALID_FIELD 0) (Sets (property_value_of e % 2 ^ 32)) refl refl))

-- ---- a Connect that is served
record ServedAt (t : Configuration) (id : ℕ) (d : ConnectData) : Type 0 where
  sub : SubsystemAt t (name_or_none d.subnqn) (unwrap_or (subsystem_asked t d) 0)
  port : PortAt t id (unwrap_or (port_asked t id) 0)

at_rows : (t : Configuration) (id : ℕ) (name : List ℕ) (port : Option PortRow)
    → map.get t.settings.ports id ≡ port → (good : Bool) (sub : Option SubsystemRow)
    → map.get t.settings.subsystems name ≡ sub
    → links_places t (port_place port) (cond good (subsystem_place sub) None) ≡ true
    → SubsystemAt t name (unwrap_or (cond good (subsystem_place sub) None) 0)
    × PortAt t id (unwrap_or (port_place port) 0)
at_rows t id name None ep good sub es h = absurd (both_ways false refl h)
at_rows t id name (Some p) ep false sub es h = absurd (both_ways false refl h)
at_rows t id name (Some p) ep true None es h = absurd (both_ways false refl h)
at_rows t id name (Some p) ep true (Some s) es h = (
  record { row = s; found = es; at_is = refl },
  record { row = p; found = ep; at_is = refl },
)

served_at : (t : Configuration) (id : ℕ) (d : ConnectData) → is_served t id d ≡ true
    → ServedAt t id d
served_at t id d h =
    let name = name_or_none d.subnqn in
    let both = at_rows t id name (map.get t.settings.ports id) refl (is_nqn name)
    (map.get t.settings.subsystems name) refl h in
    record { sub = both.0; port = both.1 }

-- ---- what is bound
record Positions (t : Configuration) (id : ℕ) (d : ConnectData) (b : Bound) : Type 0 where
  sub : b.sub ≡ unwrap_or (subsystem_asked t d) 0
  port : b.port ≡ unwrap_or (port_asked t id) 0

some_bound : (a b : Bound) → Some a ≡ Some b → a ≡ b
some_bound a b e = cc

positions_on : (t : Configuration) (id : ℕ) (d : ConnectData) (x y : Bound) (host : List ℕ)
    (admin : Bool) (b : Bound) → Positions t id d x → Positions t id d y
    → bound_by (cond admin (Makes x host) (Joins y)) ≡ Some b → Positions t id d b
positions_on t id d x y host true b px py e = subst (Positions t id d) (some_bound x b e) px
positions_on t id d x y host false b px py e = subst (Positions t id d) (some_bound y b e) py

positions : (t : Configuration) (cs : List ControllerRow) (id : ℕ) (e : Sqe) (d : ConnectData)
    (b : Bound) → bound_by (connected t cs id e d) ≡ Some b → Positions t id d b
positions t cs id e d b is = positions_on t id d (bound_to t id (length cs + 1) d 0)
    (bound_to t id d.cntlid d (e.cdw10 / 65536)) _ (is_admin e) b
    (record { sub = refl; port = refl }) (record { sub = refl; port = refl }) is

-- ---- the queue of an accepted Connect
pub record Accepted (t : Configuration) (b : Binding) (payload : List ℕ) (bound : Bound) : Type 0
  where
    pub unbound : b.bound ≡ None
    pub sub : SubsystemAt t (subsystem_in payload) bound.sub
    pub port : PortAt t b.port bound.port

pub not_off : (b : Bool) → not b ≡ false → b ≡ true
not_off true e = refl
not_off false e = absurd (both_ways true e refl)

connects : (t : Configuration) (cs : List ControllerRow) (b : Binding) (e : Sqe)
    (payload : List ℕ) (bound : Bound)
    → bound_by (connect_answer t cs b.port e (connect_of payload)) ≡ Some bound
    → b.bound ≡ None → Accepted t b payload bound
unfolding connect_answer
connects t cs b e payload bound is none =
    let d : ConnectData = connect_of payload in
    let p = passes (connect_checks t cs b.port e d) (connected t cs b.port e d) bound is in
    let served = served_at t b.port d (not_off (is_served t b.port d) p.all.1.1.1.0) in
    let at = positions t cs b.port e d bound p.is in
    record {
      unbound = none;
      sub = subst (SubsystemAt t (name_or_none d.subnqn)) (sym at.sub) served.sub;
      port = subst (PortAt t b.port) (sym at.port) served.port;
    }

owns : (t : Configuration) (cs : List ControllerRow) (b : Binding) (e : Sqe)
    (payload : List ℕ) (bound : Bound) (o : Option Bound) → b.bound ≡ o
    → bound_by (own_answer t cs b.port o e payload) ≡ Some bound → Accepted t b payload bound
owns t cs b e payload bound None none is = connects t cs b e payload bound is none
owns t cs b e payload bound (Some c) there is =
    absurd (no_bound bound (sym (none_property (numbered cs c.ctrl) e) ∙ is))

pub accepted : (t : Configuration) (cs : List ControllerRow) (b : Binding) (e : Sqe)
    (payload : List ℕ) (a : Answer) (bound : Bound) → control_answer t cs b e payload ≡ a
    → bound_by a ≡ Some bound → Accepted t b payload bound
unfolding control_answer
accepted t cs b e payload a bound is by =
    let p = passes (control_checks b e) (own_answer t cs b.port b.bound e payload) bound
    (ap bound_by is ∙ by) in
    owns t cs b e payload bound b.bound refl p.is

-- ---- so a new controller has positions that the tree has, and its queue wasn't connected
pub makes_first : (t : Configuration) (cs : List ControllerRow) (b : Binding) (e : Sqe)
    (payload : List ℕ) (a : Answer) → control_answer t cs b e payload ≡ a → MakesFirst b a
makes_first t cs b e payload (Refused fault) is = tt
makes_first t cs b e payload (Makes bound host) is =
    (accepted t cs b e payload (Makes bound host) bound is refl).unbound
makes_first t cs b e payload (Joins bound) is = tt
makes_first t cs b e payload (Reads value) is = tt
makes_first t cs b e payload (Sets value) is = tt

sub_below : (t : Configuration) (name : List ℕ) (at most : ℕ) → IsStanding t → SubsystemAt t name at
    → most ≡ MAX_SUBSYSTEMS → at < most
sub_below t name at most st x e = subst (λ (n : ℕ). at < n) (sym e)
    (subst (λ (n : ℕ). n < MAX_SUBSYSTEMS) x.at_is
    (st.placed.subsystems.below name x.row x.found))

port_below : (t : Configuration) (id at most : ℕ) → IsStanding t → PortAt t id at
    → most ≡ MAX_PORTS → at < most
port_below t id at most st x e = subst (λ (n : ℕ). at < n) (sym e)
    (subst (λ (n : ℕ). n < MAX_PORTS) x.at_is (st.placed.ports.below id x.row x.found))

pub has_positions : (t : Configuration) (cs : List ControllerRow) (b : Binding) (e : Sqe)
    (payload : List ℕ) (a : Answer) → IsStanding t
    → length t.settings.attached.subsystems ≡ MAX_SUBSYSTEMS
    → length t.settings.attached.ports ≡ MAX_PORTS
    → control_answer t cs b e payload ≡ a → HasPositions t a
has_positions t cs b e payload (Refused fault) st ls lp is = tt
has_positions t cs b e payload (Makes bound host) st ls lp is =
    let x = accepted t cs b e payload (Makes bound host) bound is refl in (
      sub_below t (subsystem_in payload) bound.sub (length t.settings.attached.subsystems) st
          x.sub ls,
      port_below t b.port bound.port (length t.settings.attached.ports) st x.port lp,
    )
has_positions t cs b e payload (Joins bound) st ls lp is = tt
has_positions t cs b e payload (Reads value) st ls lp is = tt
has_positions t cs b e payload (Sets value) st ls lp is = tt

-- ---- a controller that is joined is attached
joined_row : (t : Configuration) (cs : List ControllerRow) (bound : Bound)
    (o : Option ControllerRow) → numbered cs bound.ctrl ≡ o
    → AllByRecursion (IsAttached t) cs → is_at bound.sub bound.port o ≡ true
    → (is_subsystem_attached t bound.sub ≡ true) × (is_port_attached t bound.port ≡ true)
joined_row t cs bound None is all at = absurd (both_ways false refl at)
joined_row t cs bound (Some c) is all at =
    let b = both_true (c.ctrl.bound.sub == bound.sub) (c.ctrl.bound.port == bound.port) at in
    let row : IsAttached t c = of_number bound.ctrl is in (
      subst (λ (n : ℕ). is_subsystem_attached t n ≡ true)
          (eqb_is c.ctrl.bound.sub bound.sub b.0) row.sub,
      subst (λ (n : ℕ). is_port_attached t n ≡ true)
          (eqb_is c.ctrl.bound.port bound.port b.1) row.port,
    ) where
      of_number : (n : ℕ) → numbered cs n ≡ Some c → IsAttached t c
      of_number zero e = absurd (none_some c e) where
        none_some : (c : ControllerRow) → None ≡ Some c → ⊥
        none_some c e = cc
      of_number (suc n) e = all_get (IsAttached t) cs n c all e

pub joins_attached : (t : Configuration) (cs : List ControllerRow) (bound : Bound)
    → AllByRecursion (IsAttached t) cs → FitsAnswer t cs (Joins bound)
    → (is_subsystem_attached t bound.sub ≡ true) × (is_port_attached t bound.port ≡ true)
joins_attached t cs bound all fits =
    joined_row t cs bound (numbered cs bound.ctrl) refl all fits.theirs
