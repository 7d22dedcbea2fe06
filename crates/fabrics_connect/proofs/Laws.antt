-- The laws: one QID is connected; the check of a subsystem by names; readiness after a set of CC.
use Rattle.std.proofs.Common.{◌≡◌, ◌≢◌, ◌<◌, ◌-◌, ◌%◌, ◌^◌, ℕ, Bool, true, false, cond, ◌==◌, List, [], max, Option, Some, None, refl, sym, ap, ◌∙◌, arith}
use Rattle.std.proofs.Math.Nat.{div-one}
use Rattle.std.proofs.lemmas.Nat.Bits.{bit_at_or, bit_at-lt, bit_at-pow_same, bit_at-pow_other}
use Rattle.std.specs.FinMap as map
use Rattle.std.specs.Int.{bit_at}
use Rattle.std.specs.Option.{unwrap_or}
use Rattle.configfs_rows.specs.Nqns.{is_nqn}
use Rattle.configfs_rows.specs.declared.subsystems.SubsystemRow.{SubsystemRow}
use Rattle.configfs_rows.specs.declared.ports.PortRow.{PortRow}
use Rattle.configfs_tree.specs.Links.{SubsystemPositions, PortPositions, subsystem_place, port_place, subsystem_row, port_row, links_it}
use Rattle.configfs_tree.specs.Standing.{IsStanding}
use Rattle.configfs_tree.specs.declared.configuration.Configuration.{Configuration}
use Rattle.sqe_cqe.specs.declared.connect.ConnectData.{ConnectData}
use Rattle.fabrics_connect.specs.Names.{name_in, name_or_none}
use Rattle.fabrics_connect.specs.Registers.{after_set, registers_after, is_enabled}
use Rattle.fabrics_connect.specs.Checks.{is_served, links_places}
use Rattle.fabrics_connect.specs.Laws.{ConnectsJustThisQid, IsServedByName, ReadyAfterSet}

-- ---- QIDs
one_of : (x : ℕ) → x < 2 → max x 1 ≡ 1
one_of x h = omega arith

zero_of : (x : ℕ) → max x 0 ≡ x
zero_of x = omega arith

pub connects_just_this_qid : ConnectsJustThisQid
connects_just_this_qid c qid low = record {
  this =
      let bit : bit_at (2 ^ (qid - 1)) (qid - 1) ≡ 1 = bit_at-pow_same (qid - 1) in
      let both = bit_at_or c.qids (2 ^ (qid - 1)) (qid - 1) in
      let e = both ∙ ap (λ (n : ℕ). max (bit_at c.qids (qid - 1)) n) bit
      ∙ one_of (bit_at c.qids (qid - 1)) (bit_at-lt c.qids (qid - 1)) in
      ap (λ (n : ℕ). n == 1) e;
  others = λ other above differs.
      let apart : other - 1 ≢ qid - 1 = λ same. differs (omega (arith, same, above, low)) in
      let bit : bit_at (2 ^ (qid - 1)) (other - 1)
      ≡ 0 = bit_at-pow_other (qid - 1) (other - 1) apart in
      let e = bit_at_or c.qids (2 ^ (qid - 1)) (other - 1)
      ∙ ap (λ (n : ℕ). max (bit_at c.qids (other - 1)) n) bit
      ∙ zero_of (bit_at c.qids (other - 1)) in
      ap (λ (n : ℕ). n == 1) e;
}

-- ---- names
no_name : is_nqn [] ≡ false
unfolding is_nqn
no_name = refl

by_names : (t : Configuration) (id : ℕ) (d : ConnectData) → SubsystemPositions t → PortPositions t
    → IsStanding t
    → (name : Option (List ℕ)) → name_in d.subnqn ≡ name
    → (port : Option PortRow) → map.get t.settings.ports id ≡ port
    → (good : Bool) → is_nqn (unwrap_or name []) ≡ good
    → (sub : Option SubsystemRow) → map.get t.settings.subsystems (unwrap_or name []) ≡ sub
    → links_places t (port_place port) (cond good (subsystem_place sub) None) ≡ true
    → IsServedByName t id d
by_names t id d sp pp st name en None ep good eg sub es h = cc
by_names t id d sp pp st name en (Some p) ep false eg sub es h = cc
by_names t id d sp pp st name en (Some p) ep true eg None es h = cc
by_names t id d sp pp st None en (Some p) ep true eg (Some s) es h = let no_such : is_nqn []
    ≡ false = no_name in cc
by_names t id d sp pp st (Some n) en (Some p) ep true eg (Some s) es h =
    let at_port : port_row t p.at ≡ Some p = pp.of_id id p ep in
    let at_sub : subsystem_row t s.at ≡ Some s = sp.of_name n s es in
    let linked : links_it (Some p) (Some s) ≡ true =
    sym (ap (λ (o : Option PortRow). links_it o (Some s)) at_port)
    ∙ sym (ap (λ (o : Option SubsystemRow). links_it (port_row t p.at) o) at_sub) ∙ h in
    let key : s.nqn ≡ n = st.placed.subsystems.own_key n s es in
    record {
      name = n;
      port = p;
      sub = s;
      named = en;
      port_there = ep;
      sub_there = es;
      linked = sym (ap (λ (k : List ℕ). map.contains_key p.links k) key) ∙ linked;
    }

pub served_forth : (t : Configuration) (id : ℕ) (d : ConnectData) → SubsystemPositions t
    → PortPositions t → IsStanding t
    → is_served t id d ≡ true → IsServedByName t id d
served_forth t id d sp pp st h =
    by_names t id d sp pp st (name_in d.subnqn) refl (map.get t.settings.ports id) refl
    (is_nqn (name_or_none d.subnqn)) refl (map.get t.settings.subsystems (name_or_none d.subnqn))
    refl h

pub served_back : (t : Configuration) (id : ℕ) (d : ConnectData) → SubsystemPositions t
    → PortPositions t → IsStanding t
    → IsServedByName t id d → is_served t id d ≡ true
served_back t id d sp pp st by =
    let good : is_nqn by.name ≡ true = (st.sound.subsystems by.name by.sub by.sub_there).nqn in
    let at_port : port_row t by.port.at ≡ Some by.port = pp.of_id id by.port by.port_there in
    let at_sub : subsystem_row t by.sub.at ≡ Some by.sub = sp.of_name by.name by.sub by.sub_there in
    let key : by.sub.nqn ≡ by.name = st.placed.subsystems.own_key by.name by.sub by.sub_there in
    rw (by.named, by.port_there, good, by.sub_there, at_port, at_sub, key) by.linked

-- ---- readiness
odd : (v : ℕ) → (v % 2 == 1) ≡ is_enabled v
odd v = ap (λ (n : ℕ). n % 2 == 1) (sym (div-one v))

pub ready_after_set : ReadyAfterSet
unfolding after_set registers_after
ready_after_set c v = grind (arith, odd v)
