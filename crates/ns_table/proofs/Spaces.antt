-- What stands at an NSID is what its words tell.
use Rattle.std.proofs.Common.{◌≡◌, ◌≤◌, ◌<◌, ℕ, ◌+◌, ◌*◌, ◌^◌, ◌==◌, Bool, true, false, if◌then◌else◌, nat_lt, nat_le, List, [], ◌∷◌, ◌++◌, length, take, drop, get_or, Option, Some, None, refl, sym, ap, subst, ◌∙◌, arith}
use Rattle.std.proofs.Math.Nat.{one-le-pow, mul-le-mul_left}
use Rattle.std.proofs.lemmas.Nat.{le_bytes_8}
use Rattle.std.proofs.lemmas.Bool.{eqb-true}
use Rattle.std.proofs.lemmas.Option.{slice_get_within}
use Rattle.std.proofs.lemmas.List.{take-append-drop, length-take, length-drop}
use Rattle.std.proofs.lemmas.Grind.{common_steps}
use Rattle.std.specs.List.{slice_get, find}
use Rattle.std.specs.Int.{from_le_bytes, to_le_bytes, w64}
use Rattle.std.specs.FinMap as maps
use Rattle.mem_bdev.specs.Blocks.{Blocks}
use Rattle.mem_bdev.specs.declared.limits.TheConstants.{MAX_DISK_BYTES}
use Rattle.sqe_cqe.specs.declared.rows.NsRow.{NsRow}
use Rattle.sqe_cqe.specs.declared.rows.Seen.{Seen}
use Rattle.sqe_cqe.specs.declared.rows.Seen.TheVariants.{NotConfigured, Off, On}
use Rattle.configfs_rows.specs.declared.namespaces.NamespaceRow.{NamespaceRow}
use Rattle.configfs_rows.specs.declared.subsystems.SubsystemRow.{SubsystemRow}
use Rattle.configfs_tree.specs.Links.{subsystem_row}
use Rattle.configfs_tree.proofs.Positions.{subsystem_positions}
use Rattle.tree_target.specs.Views.{seen_of, space_in, row_of, on_blocks, on_disk}
use Rattle.ns_table.proofs.Limits.{if-true, lt-true, le-true, five}
use Rattle.ns_table.specs.Positions.{IsNsid}
use Rattle.ns_table.specs.Words.{Shape, space_words}
use Rattle.ns_table.specs.Looked.{row_in, may_be_row, row_or_off, seen_in, IsIdentifier, HasIdentifiers, IsDisk, FitsTable}

-- ---- 16 bytes as two words
half-again : (bytes : List ℕ) → length bytes ≡ 8 → ((i : ℕ) → get_or bytes i 0 < 256) → to_le_bytes w64 (from_le_bytes w64 bytes) ≡ bytes
half-again bytes len small = le_bytes_8 bytes (from_le_bytes w64 bytes) len small refl

front-at : (bytes : List ℕ) (i : ℕ) → length bytes ≡ 16 → ((j : ℕ) → get_or bytes j 0 < 256) → get_or (take 8 bytes) i 0 < 256
front-at bytes i len small = grind (arith, common_steps, small i)

back-at : (bytes : List ℕ) (i : ℕ) → length bytes ≡ 16 → ((j : ℕ) → get_or bytes j 0 < 256) → get_or (drop 8 bytes) i 0 < 256
back-at bytes i len small = grind (arith, common_steps, small (8 + i))

pub identifier-again : (bytes : List ℕ) → IsIdentifier bytes → to_le_bytes w64 (from_le_bytes w64 (take 8 bytes)) ++ to_le_bytes w64 (from_le_bytes w64 (drop 8 bytes)) ≡ bytes
identifier-again bytes h =
    let a : length (take 8 bytes) ≡ 8 = omega (arith, h.len, length-take 8 bytes) in
    let b : length (drop 8 bytes) ≡ 8 = omega (arith, h.len, length-drop 8 bytes) in
    let front = half-again (take 8 bytes) a (λ i. front-at bytes i h.len h.small) in
    let back = half-again (drop 8 bytes) b (λ i. back-at bytes i h.len h.small) in
    ap (λ (x : List ℕ). x ++ to_le_bytes w64 (from_le_bytes w64 (drop 8 bytes))) front
    ∙ (ap (λ (x : List ℕ). take 8 bytes ++ x) back ∙ take-append-drop 8 bytes)

-- ---- words of a row
abbrev pub IsFine : Seen → Type 0
IsFine NotConfigured = Unit {0}
IsFine Off = Unit {0}
IsFine (On row) = (may_be_row row ≡ true) × IsIdentifier row.uuid × IsIdentifier row.nguid

abbrev row_with : ℕ → ℕ → ℕ → ℕ → List ℕ → List ℕ → NsRow
row_with disk shift blocks group uuid nguid = record { disk = disk; shift = shift; blocks = blocks; group = group; uuid = uuid; nguid = nguid }

identifier-from : (a b : ℕ) (bytes : List ℕ) → a ≡ from_le_bytes w64 (take 8 bytes) → b ≡ from_le_bytes w64 (drop 8 bytes) → IsIdentifier bytes → to_le_bytes w64 a ++ to_le_bytes w64 b ≡ bytes
identifier-from a b bytes p q h =
    ap (λ (k : ℕ). to_le_bytes w64 k ++ to_le_bytes w64 b) p ∙ (ap (λ (k : ℕ). to_le_bytes w64 (from_le_bytes w64 (take 8 bytes)) ++ to_le_bytes w64 k) q ∙ identifier-again bytes h)

same_row : (a b c d a' b' c' d' : ℕ) (u v u' v' : List ℕ) → a ≡ a' → b ≡ b' → c ≡ c' → d ≡ d' → u ≡ u' → v ≡ v' → row_with a b c d u v ≡ row_with a' b' c' d' u' v'
same_row a b c d a' b' c' d' u v u' v' p q r s t w = λ i. row_with (p i) (q i) (r i) (s i) (t i) (w i)

row-again : (ws : List ℕ) (from stamp : ℕ) (row : NsRow) → ((k : ℕ) → k < 11 → get_or ws (from + k) 0 ≡ get_or (space_words (On row) stamp) k 0)
    → IsIdentifier row.uuid → IsIdentifier row.nguid → row_in ws from ≡ row
row-again ws from stamp row each u v =
    same_row _ _ _ _ row.disk row.shift row.blocks row.group _ _ row.uuid row.nguid (each 1 (omega arith)) (each 2 (omega arith)) (each 3 (omega arith)) (each 4 (omega arith))
    (identifier-from (get_or ws (from + 5) 0) (get_or ws (from + 6) 0) row.uuid (each 5 (omega arith)) (each 6 (omega arith)) u)
    (identifier-from (get_or ws (from + 7) 0) (get_or ws (from + 8) 0) row.nguid (each 7 (omega arith)) (each 8 (omega arith)) v)

pub seen-again : (ws : List ℕ) (from stamp : ℕ) (seen : Seen) → ((k : ℕ) → k < 11 → get_or ws (from + k) 0 ≡ get_or (space_words seen stamp) k 0) → IsFine seen → seen_in ws from ≡ seen
seen-again ws from stamp NotConfigured each fine = let a = each 0 (omega arith) in rw a refl
seen-again ws from stamp Off each fine = let a = each 0 (omega arith) in rw a refl
seen-again ws from stamp (On row) each fine =
    let phase : get_or ws (from + 0) 0 ≡ 2 = each 0 (omega arith) in
    let P : NsRow → Type 0 = λ r. row_or_off r ≡ On row in
    let Q : ℕ → Type 0 = λ k. (if k == 2 then row_or_off (row_in ws from) else (if k == 1 then Off else NotConfigured)) ≡ On row in
    subst Q (sym phase) (subst P (sym (row-again ws from stamp row each fine.1 fine.2)) (if-true (may_be_row row) (On row) Off (On row) fine.0 refl))

pub stamp-again : (seen : Seen) (stamp : ℕ) → get_or (space_words seen stamp) 10 0 ≡ stamp
stamp-again NotConfigured stamp = refl
stamp-again Off stamp = refl
stamp-again (On row) stamp = refl

-- ---- what stands at an NSID can be shown
pub none-some : {X : Type 0} (x : X) → None ≡ Some x → ⊥
none-some x e = cc

pub some-same : {X : Type 0} (x y : X) → Some x ≡ Some y → x ≡ y
some-same x y e = cc

passes-on : {X : Type 0} (p : X → Bool) (y x : X) (xs : List X) (b : Bool) → p y ≡ b → (if b then Some y else find p xs) ≡ Some x → (find p xs ≡ Some x → p x ≡ true) → p x ≡ true
passes-on p y x xs true is e rest = ap p (sym (some-same y x e)) ∙ is
passes-on p y x xs false is e rest = rest e

pub found-passes : {X : Type 0} (p : X → Bool) (xs : List X) (x : X) → find p xs ≡ Some x → p x ≡ true
found-passes p [] x e = absurd (none-some x e)
found-passes p (y ∷ xs) x e = passes-on p y x xs (p y) refl e (found-passes p xs x)

-- a row that stands in a tree, with the map that it is found in
pub row-named : (x : Shape) (s : ℕ) (row : SubsystemRow) → FitsTable x → subsystem_row x.tree s ≡ Some row → maps.get x.tree.settings.subsystems row.nqn ≡ Some row
row-named x s row fits e = (subsystem_positions x.tree fits.standing.placed).of_position s row e

row-place : (x : Shape) (s : ℕ) (row : SubsystemRow) → subsystem_row x.tree s ≡ Some row → row.at ≡ s
row-place x s row e = eqb-true row.at s (found-passes (λ (r : SubsystemRow). r.at == s) (maps.values x.tree.settings.subsystems) row e)

nsid-there : (x : Shape) (s n : ℕ) (row : SubsystemRow) (ns : NamespaceRow) → FitsTable x → subsystem_row x.tree s ≡ Some row → maps.get row.namespaces n ≡ Some ns → IsNsid s n
nsid-there x s n row ns fits e f =
    let named = row-named x s row fits e in
    let place = row-place x s row e in
    let below = fits.standing.placed.subsystems.below row.nqn row named in
    let stands = (fits.standing.sound.subsystems row.nqn row named).namespaces n ns f in
    (omega (arith, below, place), stands.nsid_low, stands.nsid_high)

none-in : (x : Shape) (s n : ℕ) (row : SubsystemRow) (m : Option NamespaceRow) → FitsTable x → subsystem_row x.tree s ≡ Some row → maps.get row.namespaces n ≡ m → (IsNsid s n → ⊥) → m ≡ None
none-in x s n row None fits e f out = refl
none-in x s n row (Some ns) fits e f out = absurd (out (nsid-there x s n row ns fits e f))

none-at : (x : Shape) (s n : ℕ) (o : Option SubsystemRow) → FitsTable x → subsystem_row x.tree s ≡ o → (IsNsid s n → ⊥) → space_in n o ≡ None
none-at x s n None fits e out = refl
none-at x s n (Some row) fits e out = none-in x s n row (maps.get row.namespaces n) fits e refl out

-- nothing is configured where there are no words
pub nothing-outside : (x : Shape) (s n : ℕ) → FitsTable x → (IsNsid s n → ⊥) → seen_of x.blocks (space_in n (subsystem_row x.tree s)) ≡ NotConfigured
nothing-outside x s n fits out = ap (seen_of x.blocks) (none-at x s n (subsystem_row x.tree s) fits refl out)

fits-row : (disk group : ℕ) (d : Blocks) (ns : NamespaceRow) → disk < 64 → IsDisk d → ns.group ≤ 128 → may_be_row (row_of disk d ns) ≡ true
fits-row disk group d ns few is small =
    let some : 1 ≤ 2 ^ d.shift = one-le-pow d.shift 2 (omega arith) in
    let more : length d.blocks * 1 ≤ length d.blocks * 2 ^ d.shift = mul-le-mul_left (length d.blocks) some in
    let blocks : length d.blocks ≤ MAX_DISK_BYTES = omega (arith, is.small) in
    five (nat_lt disk 256) (nat_lt d.shift 13) (nat_le (length d.blocks) MAX_DISK_BYTES) (nat_le (length d.blocks * 2 ^ d.shift) MAX_DISK_BYTES) (nat_le ns.group 128)
    (lt-true disk 256 (omega arith)) (lt-true d.shift 13 (omega (arith, is.block))) (le-true (length d.blocks) MAX_DISK_BYTES blocks) (le-true (length d.blocks * 2 ^ d.shift) MAX_DISK_BYTES is.small) (le-true ns.group 128 small)

fine-blocks : (x : Shape) (i : ℕ) (ns : NamespaceRow) (o : Option Blocks) → FitsTable x → slice_get x.blocks i ≡ o → ns.group ≤ 128 → HasIdentifiers ns → IsFine (on_blocks i ns o)
fine-blocks x i ns None fits e small ids = tt
fine-blocks x i ns (Some d) fits e small ids =
    let few : i < 64 = omega (arith, slice_get_within x.blocks i d e, fits.few_disks) in
    (fits-row i ns.group d ns few (fits.disks i d e) small, ids.uuid, ids.nguid)

fine-disk : (x : Shape) (ns : NamespaceRow) (o : Option ℕ) → FitsTable x → ns.group ≤ 128 → HasIdentifiers ns → IsFine (on_disk x.blocks ns o)
fine-disk x ns None fits small ids = tt
fine-disk x ns (Some i) fits small ids = fine-blocks x i ns (slice_get x.blocks i) fits refl small ids

fine-enabled : (x : Shape) (ns : NamespaceRow) (b : Bool) → FitsTable x → ns.group ≤ 128 → HasIdentifiers ns → IsFine (if b then on_disk x.blocks ns ns.disk else Off)
fine-enabled x ns true fits small ids = fine-disk x ns ns.disk fits small ids
fine-enabled x ns false fits small ids = tt

fine-space : (x : Shape) (s n : ℕ) (row : SubsystemRow) (m : Option NamespaceRow) → FitsTable x → subsystem_row x.tree s ≡ Some row → maps.get row.namespaces n ≡ m → IsFine (seen_of x.blocks m)
fine-space x s n row None fits e f = tt
fine-space x s n row (Some ns) fits e f =
    let named = row-named x s row fits e in
    let stands = (fits.standing.sound.subsystems row.nqn row named).namespaces n ns f in
    fine-enabled x ns ns.enabled fits stands.group_high (fits.identifiers row.nqn row n ns named f)

fine-row : (x : Shape) (s n : ℕ) (o : Option SubsystemRow) → FitsTable x → subsystem_row x.tree s ≡ o → IsFine (seen_of x.blocks (space_in n o))
fine-row x s n None fits e = tt
fine-row x s n (Some row) fits e = fine-space x s n row (maps.get row.namespaces n) fits e refl

pub fine-seen : (x : Shape) (s n : ℕ) → FitsTable x → IsFine (seen_of x.blocks (space_in n (subsystem_row x.tree s)))
fine-seen x s n fits = fine-row x s n (subsystem_row x.tree s) fits refl
