-- What an accepted edit names is in range.
use Rattle.std.proofs.Common.{◌≡◌, ◌≤◌, ◌<◌, ℕ, List, Option, Some, None, refl, sym, ap, subst, ◌∙◌}
use Rattle.std.specs.FinMap as map
use Rattle.sqe_cqe.specs.declared.rows.TheConstants.{MAX_NSID}
use Rattle.configfs_rows.specs.declared.limits.TheConstants.{MAX_SUBSYSTEMS, MAX_PORTS}
use Rattle.configfs_rows.specs.declared.namespaces.NamespaceRow.{NamespaceRow}
use Rattle.configfs_rows.specs.declared.subsystems.SubsystemRow.{SubsystemRow}
use Rattle.configfs_tree.specs.declared.configuration.Configuration.{Configuration}
use Rattle.configfs_tree.specs.declared.edits.Change.{Change}
use Rattle.configfs_tree.specs.Outcome.{Outcome, Refuses, Accepts}
use Rattle.configfs_tree.specs.Standing.{IsStanding, Placed, placed, placed_row, placed_in}
use Rattle.configfs_tree.specs.Told.{Tells}
use Rattle.configfs_tree.proofs.Holds.{Holds, accepted, holds_row, holds_last, holds_if_subsystem, holds_if_port}
use Rattle.configfs_tree.proofs.TellsTable.{edit_tells}
use Rattle.link_rules.specs.declared.edits.Edit.{Edit}
use Rattle.link_rules.specs.declared.edits.Edit.TheVariants as edit
use Rattle.link_rules.specs.declared.edits.LinkEdit.{LinkEdit}
use Rattle.link_rules.specs.declared.edits.LinkEdit.TheVariants as link
use Rattle.link_rules.specs.Table.{allow_host, disallow_host, link_subsystem, unlink_subsystem, link_outcome, edit_outcome}
use Rattle.notice_laws.specs.Marks.{SpaceInRange, PlaceInRange, IsInRange}
use Rattle.notice_laws.specs.Laws.{EditsNameInRange}

-- ---- a namespace that stands
abbrev InPlace : Placed → ℕ → Type 0
InPlace x nsid = (x.at < MAX_SUBSYSTEMS) × (1 ≤ nsid) × (nsid ≤ MAX_NSID)

no_placed : (x : Placed) → None ≡ Some x → ⊥
no_placed x e = cc

same_placed : (x y : Placed) → Some x ≡ Some y → x ≡ y
same_placed x y e = cc

module _ (t : Configuration) (st : IsStanding t) where
  row_in : (sub : List ℕ) (nsid : ℕ) (s : SubsystemRow) (n : Option NamespaceRow) (x : Placed)
      → map.get t.settings.subsystems sub ≡ Some s → map.get s.namespaces nsid ≡ n
      → placed_row s.at n ≡ Some x → InPlace x nsid
  row_in sub nsid s None x f g e = absurd (no_placed x e)
  row_in sub nsid s (Some n) x f g e =
      let same : record { at = s.at; row = n } ≡ x = same_placed _ x e in
      let stands = (st.sound.subsystems sub s f).namespaces nsid n g in (
        subst (λ (a : ℕ). a < MAX_SUBSYSTEMS) (ap (λ (y : Placed). y.at) same)
            (st.placed.subsystems.below sub s f),
        stands.nsid_low,
        stands.nsid_high,
      )

  sub_in : (sub : List ℕ) (nsid : ℕ) (s : Option SubsystemRow) (x : Placed)
      → map.get t.settings.subsystems sub ≡ s → placed_in nsid s ≡ Some x → InPlace x nsid
  sub_in sub nsid None x f e = absurd (no_placed x e)
  sub_in sub nsid (Some s) x f e =
      row_in sub nsid s (map.get s.namespaces nsid) x f refl e

  stands_in : (sub : List ℕ) (nsid : ℕ) (x : Placed)
      → placed t.settings.subsystems sub nsid ≡ Some x → InPlace x nsid
  stands_in sub nsid x e = sub_in sub nsid (map.get t.settings.subsystems sub) x refl e

  -- ---- what a change names
  module _ (u : Configuration) (c : Change) (tells : Tells t u c) where
    space_in : (o : Option (ℕ × ℕ)) → c.namespace ≡ o → SpaceInRange o
    space_in None e = tt
    space_in (Some x) e =
        let turns = tells.space_named x.0 x.1 e in
        let here = stands_in turns.sub x.1 turns.x turns.before in (
          subst (λ (a : ℕ). a < MAX_SUBSYSTEMS) turns.at_is here.0,
          here.1,
          here.2,
        )

    moves_in : (o : Option ℕ) → c.ana_subsystem ≡ o → PlaceInRange o MAX_SUBSYSTEMS
    moves_in None e = tt
    moves_in (Some at) e =
        let moves = tells.subsystem_named at e in
        subst (λ (a : ℕ). a < MAX_SUBSYSTEMS) moves.at_is
        (stands_in moves.sub moves.nsid moves.x moves.before).0

    port_in : (o : Option ℕ) → c.ana_port ≡ o → PlaceInRange o MAX_PORTS
    port_in None e = tt
    port_in (Some at) e =
        let differs = tells.port_named at e in
        subst (λ (a : ℕ). a < MAX_PORTS) differs.at_is
        (st.placed.ports.below differs.id differs.p differs.before)

    told_in : IsInRange c
    told_in = record {
      space = space_in c.namespace refl;
      sub = moves_in c.ana_subsystem refl;
      port = port_in c.ana_port refl;
    }

-- ---- the table
abbrev RangesBy : Outcome → Type 0
RangesBy o = Holds (λ u c. IsInRange c) o

link_in : (t : Configuration) (e : LinkEdit) → RangesBy (link_outcome t e)
unfolding allow_host disallow_host link_subsystem unlink_subsystem
link_in t (link.AllowHost sub host) = holds_if_subsystem _ _ (λ s f. holds_row _ _ _ _
    (λ _. holds_row _ _ _ _ (λ _. holds_last _ _ _ _
    (λ _. record { space = tt; sub = tt; port = tt }))))
link_in t (link.DisallowHost sub host) = holds_if_subsystem _ _ (λ s f. holds_row _ _ _ _
    (λ _. holds_last _ _ _ _ (λ _. record { space = tt; sub = tt; port = tt })))
link_in t (link.LinkSubsystem id sub) = holds_if_port _ _ (λ p f. holds_if_subsystem _ _
    (λ s _. holds_row _ _ _ _ (λ _. holds_last _ _ _ _
    (λ _. record { space = tt; sub = tt; port = tt }))))
link_in t (link.UnlinkSubsystem id sub) = holds_if_port _ _ (λ p f. holds_if_subsystem _ _
    (λ s _. holds_last _ _ _ _ (λ _. record { space = tt; sub = tt; port = tt })))

folder_in : (t u : Configuration) (c : Change) (o : Outcome) → IsStanding t
    → Holds (λ v d. Tells t v d) o → o ≡ Accepts u c → IsInRange c
folder_in t u c o st tells is = told_in t st u c
    (accepted u c (subst (λ (x : Outcome). Holds (λ v d. Tells t v d) x) is tells))

pub edits_name_in_range : EditsNameInRange
edits_name_in_range t (edit.Folder e) u c st is =
    folder_in t u c (edit_outcome t (edit.Folder e)) st (edit_tells t e st.placed) is
edits_name_in_range t (edit.Link e) u c st is =
    accepted u c (subst RangesBy is (link_in t e))
