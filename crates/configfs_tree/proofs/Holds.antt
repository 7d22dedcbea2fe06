-- What holds of the tree and the change that an outcome accepts, row by row of the table.
use Rattle.std.proofs.Common.{◌≡◌, ℕ, Bool, true, false, List, [], ◌∷◌, Option, Some, None, refl}
use Rattle.configfs_tree.specs.Outcome.{Outcome, Refuses, Accepts, first_of, either, unless_stands, if_subsystem, if_rows, if_port, if_group, nothing}
use Rattle.std.specs.FinMap as map
use Rattle.configfs_tree.specs.NamespaceRows.{paired, rows_in}
use Rattle.configfs_tree.specs.Table.{put_parsed}
use Rattle.configfs_tree.specs.declared.edits.Errno.{Errno}
use Rattle.configfs_tree.specs.declared.edits.Errno.TheVariants.{ENOENT, EINVAL}
use Rattle.configfs_tree.specs.declared.edits.Change.{Change}
use Rattle.configfs_rows.specs.declared.namespaces.NamespaceRow.{NamespaceRow}
use Rattle.configfs_rows.specs.declared.subsystems.SubsystemRow.{SubsystemRow}
use Rattle.sqe_cqe.specs.declared.rows.Ana.{Ana}
use Rattle.configfs_rows.specs.declared.ports.PortRow.{PortRow}
use Rattle.configfs_tree.specs.declared.configuration.Configuration.{Configuration}

abbrev IfAccepts : (Configuration → Change → Type 0) → Outcome → Type 0
IfAccepts P (Refuses errno) = Unit {0}
IfAccepts P (Accepts u change) = P u change

-- P holds of what an outcome accepts
pub record Holds (P : Configuration → Change → Type 0) (o : Outcome) : Type 0 where
  held : IfAccepts P o

pub refuses : {P : Configuration → Change → Type 0} (errno : Errno) → Holds P (Refuses errno)
refuses errno = record { held = tt }

pub accepts : {P : Configuration → Change → Type 0} (u : Configuration) (change : Change)
    → P u change → Holds P (Accepts u change)
accepts u change h = record { held = h }

pub accepted : {P : Configuration → Change → Type 0} (u : Configuration) (change : Change)
    → Holds P (Accepts u change) → P u change
accepted u change h = h.held

pub holds_row : {P : Configuration → Change → Type 0} (b : Bool) (errno : Errno) (rows : List (Bool
    × Errno)) (o : Outcome) → (b ≡ false → Holds P (first_of rows o))
    → Holds P (first_of ((b, errno) ∷ rows) o)
unfolding first_of
holds_row true errno rows o h = refuses errno
holds_row false errno rows o h = h refl

-- the last row
pub holds_end : {P : Configuration → Change → Type 0} (b : Bool) (errno : Errno) (o : Outcome)
    → (b ≡ false → Holds P o) → Holds P (first_of ((b, errno) ∷ []) o)
unfolding first_of
holds_end true errno o h = refuses errno
holds_end false errno o h = h refl

-- the last row, before an edit is accepted
pub holds_last : {P : Configuration → Change
    → Type 0} (b : Bool) (errno : Errno) (u : Configuration) (change : Change)
    → (b ≡ false → P u change) → Holds P (first_of ((b, errno) ∷ []) (Accepts u change))
holds_last b errno u change h = holds_end b errno (Accepts u change) (λ e. accepts u change (h e))

pub holds_either : {P : Configuration → Change → Type 0} (b : Bool) (x y : Outcome) → Holds P x
    → Holds P y → Holds P (either b x y)
unfolding either
holds_either true x y h k = h
holds_either false x y h k = k

pub holds_unless : {P : Configuration → Change
    → Type 0} (b : Bool) (t u : Configuration) (change : Change) → P t nothing
    → (b ≡ false → P u change) → Holds P (unless_stands b t (Accepts u change))
unfolding unless_stands
holds_unless true t u change s h = accepts t nothing s
holds_unless false t u change s h = accepts u change (h refl)

pub holds_if_subsystem : {P : Configuration → Change
    → Type 0} (found : Option SubsystemRow) (f : SubsystemRow → Outcome)
    → ((x : SubsystemRow) → found ≡ Some x → Holds P (f x)) → Holds P (if_subsystem found f)
unfolding if_subsystem
holds_if_subsystem None f h = refuses ENOENT
holds_if_subsystem (Some x) f h = h x refl

holds_if_paired : {P : Configuration → Change
    → Type 0} (s : SubsystemRow) (found : Option NamespaceRow) (f : SubsystemRow → NamespaceRow
    → Outcome) → ((n : NamespaceRow) → found ≡ Some n → Holds P (f s n))
    → Holds P (if_rows (paired s found) f)
unfolding if_rows
holds_if_paired s None f h = refuses ENOENT
holds_if_paired s (Some n) f h = h n refl

pub holds_if_rows : {P : Configuration → Change
    → Type 0} (nsid : ℕ) (found : Option SubsystemRow) (f : SubsystemRow → NamespaceRow → Outcome)
    → ((s : SubsystemRow) → found ≡ Some s → (n : NamespaceRow)
    → map.get s.namespaces nsid ≡ Some n → Holds P (f s n))
    → Holds P (if_rows (rows_in nsid found) f)
unfolding if_rows
holds_if_rows nsid None f h = refuses ENOENT
holds_if_rows nsid (Some s) f h = holds_if_paired s (map.get s.namespaces nsid) f (h s refl)

pub holds_if_port : {P : Configuration → Change → Type 0} (found : Option PortRow) (f : PortRow
    → Outcome) → ((x : PortRow) → found ≡ Some x → Holds P (f x)) → Holds P (if_port found f)
unfolding if_port
holds_if_port None f h = refuses ENOENT
holds_if_port (Some x) f h = h x refl

pub holds_if_group : {P : Configuration → Change → Type 0} (found : Option Ana) (f : Ana → Outcome)
    → ((a : Ana) → found ≡ Some a → Holds P (f a)) → Holds P (if_group found f)
unfolding if_group
holds_if_group None f h = refuses ENOENT
holds_if_group (Some a) f h = h a refl

pub holds_parsed : {P : Configuration → Change → Type 0} (found : Option (List ℕ)) (put : List ℕ
    → Outcome) → ((bytes : List ℕ) → Holds P (put bytes)) → Holds P (put_parsed found put)
holds_parsed None put h = refuses EINVAL
holds_parsed (Some bytes) put h = h bytes
