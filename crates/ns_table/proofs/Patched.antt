-- The words that a patch has.
use Rattle.std.proofs.Common.{◌≡◌, ℕ, ◌+◌, ◌<◌, ◌≤◌, length, true, Option, Some, None, List, [], ◌∷◌, ◌++◌, map, get_or, refl, sym, ap, ◌∙◌, arith}
use Rattle.std.specs.List.{range_with_len}
use Rattle.std.proofs.lemmas.List.{map-append}
use Rattle.std.proofs.lemmas.List.FromFn.{map-range_with_len_more}
use Rattle.sqe_cqe.specs.declared.rows.Seen.{Seen}
use Rattle.configfs_tree.specs.Links.{subsystem_row}
use Rattle.tree_target.specs.Views.{seen_of, space_in}
use Rattle.std.specs.FinMap as maps
use Rattle.std.specs.Prelude.{IfSome}
use Rattle.std.specs.Str.{bytes_eq}
use Rattle.std.proofs.lemmas.List.Quantifiers.{position-Some}
use Rattle.configfs_rows.specs.Holders.{disk_number, paths_of}
use Rattle.configfs_rows.specs.declared.disks.DiskRow.{DiskRow}
use Rattle.configfs_rows.specs.declared.namespaces.NamespaceRow.{NamespaceRow}
use Rattle.configfs_tree.specs.declared.configuration.Configuration.{Configuration}
use Rattle.configfs_tree.specs.Links.{SubsystemPositions}
use Rattle.configfs_tree.specs.Standing.{IsStanding}
use Rattle.configfs_tree.proofs.SoundTable.{length_paths}
use Rattle.ns_table.proofs.Spaces.{none-some}
use Rattle.ns_table.proofs.ByPosition.{found-at, found-placed}
use Rattle.ns_table.proofs.Changing.{placed-on-shows}
use Rattle.ns_table.specs.Positions.{Space, at}
use Rattle.ns_table.specs.Words.{Shape, shows, is_shown, space_words, word_for}
use Rattle.ns_table.specs.Patches.{placed_word, words_at}

pub next-part : (x : Shape) (s n part pos word : ℕ) (before after : List (ℕ × ℕ)) → before ≡ words_at x (map (Space s n) (range_with_len 0 part))
    → pos ≡ at (Space s n part) → word ≡ word_for x (Space s n part) → after ≡ before ++ (pos, word) ∷ []
    → after ≡ words_at x (map (Space s n) (range_with_len 0 (part + 1)))
next-part x s n part pos word before after is here value now =
    let more : map (Space s n) (range_with_len 0 (part + 1)) ≡ map (Space s n) (range_with_len 0 part) ++ Space s n part ∷ [] = map-range_with_len_more (Space s n) 0 part part (omega arith) in
    let parts : words_at x (map (Space s n) (range_with_len 0 part) ++ Space s n part ∷ []) ≡ words_at x (map (Space s n) (range_with_len 0 part)) ++ placed_word x (Space s n part) ∷ [] =
    map-append (placed_word x) (map (Space s n) (range_with_len 0 part)) (Space s n part ∷ []) in
    let last : List (ℕ × ℕ) → List (ℕ × ℕ) = λ (xs : List (ℕ × ℕ)). xs ++ (pos, word) ∷ [] in
    now ∙ (ap last is ∙ ((λ i. words_at x (map (Space s n) (range_with_len 0 part)) ++ (here i, value i) ∷ []) ∙ (sym parts ∙ ap (words_at x) (sym more))))

pub part-value : (x : Shape) (s n part word : ℕ) (seen : Seen) → seen ≡ seen_of x.blocks (space_in n (subsystem_row x.tree s)) → word ≡ get_or (space_words seen 0) part 0 → x.stamps.space s n ≡ 0 → word ≡ word_for x (Space s n part)
part-value x s n part word seen is value none =
    value ∙ (ap (λ (k : Seen). get_or (space_words k 0) part 0) is ∙ ap (λ (k : ℕ). get_or (space_words (seen_of x.blocks (space_in n (subsystem_row x.tree s))) k) part 0) (sym none))

-- the number of a namespace's disk is one of the table's
number-small : (disks : List DiskRow) (path : Option (List ℕ)) (o : Option ℕ) → length disks ≤ 64 → o ≡ disk_number (paths_of disks) path → IfSome o (λ d. d < 64)
number-small disks path None few is = tt
number-small disks None (Some d) few is = absurd (none-some d (sym is))
number-small disks (Some path) (Some d) few is =
    let within = (position-Some (λ (p : List ℕ). bytes_eq p path) (paths_of disks) d [] (sym is)).0 in
    omega (arith, within, length_paths disks, few)

pub disk-small : (t : Configuration) (s n : ℕ) (ns : NamespaceRow) → IsStanding t → SubsystemPositions t → space_in n (subsystem_row t s) ≡ Some ns → IfSome ns.disk (λ d. d < 64)
disk-small t s n ns h p is =
    let f = found-at t s n ns p is in
    number-small t.disks ns.device_path ns.disk h.sound.few_disks ((h.sound.subsystems f.row.nqn f.row f.named).namespaces n ns f.stands).disk

pub seen-shows : (t : Configuration) (s n disk : ℕ) (ns : NamespaceRow) → SubsystemPositions t → space_in n (subsystem_row t s) ≡ Some ns → shows disk ns ≡ true → is_shown t disk ≡ true
seen-shows t s n disk ns p is h =
    let f = found-at t s n ns p is in
    placed-on-shows t f.row.nqn n disk (maps.get t.settings.subsystems f.row.nqn) (record { at = s; row = ns }) refl (found-placed t s n ns f) h
