-- The words follow settings, controllers, stamps and sizes of disks.
use Rattle.std.proofs.Common.{◌≡◌, ℕ, ◌==◌, if◌then◌else◌, List, length, get_or, Option, Some, None, refl, sym, ap, ◌∙◌}
use Rattle.std.specs.List.{slice_get, find, list_any}
use Rattle.std.specs.FinMap as maps
use Rattle.mem_bdev.specs.Blocks.{Blocks}
use Rattle.sqe_cqe.specs.Ready.{ready_in}
use Rattle.sqe_cqe.specs.declared.controllers.ControllerRow.{ControllerRow}
use Rattle.sqe_cqe.specs.declared.rows.Seen.{Seen}
use Rattle.sqe_cqe.specs.declared.rows.Seen.TheVariants.{Off, On}
use Rattle.configfs_rows.specs.declared.namespaces.NamespaceRow.{NamespaceRow}
use Rattle.configfs_rows.specs.declared.subsystems.SubsystemRow.{SubsystemRow}
use Rattle.configfs_rows.specs.declared.ports.PortRow.{PortRow}
use Rattle.configfs_tree.specs.declared.configuration.Settings.{Settings}
use Rattle.configfs_tree.specs.declared.configuration.Configuration.{Configuration}
use Rattle.configfs_tree.specs.Links.{subsystem_row}
use Rattle.tree_target.specs.Views.{seen_of, space_in, group_in, on_disk, on_blocks, row_of}
use Rattle.ns_table.specs.declared.layout.TheConstants.{WORDS}
use Rattle.ns_table.specs.Positions.{Place, Shown, Ready, Changes, SubsystemStamp, PortStamp, State, Space, place_at}
use Rattle.ns_table.specs.Words.{Stamps, Shape, bit, is_shown, subsystem_shows, state_word, space_words, word_for, each_below, words_of}
use Rattle.ns_table.proofs.Spaces.{some-same}
use Rattle.ns_table.specs.Follows.{size_of, AreAlike, WordsFollowSettings}

-- ---- namespaces on disks of the same sizes
no-size : (d : Blocks) → None ≡ size_of (Some d) → ⊥
no-size d e = cc

row-alike : (i : ℕ) (d e : Blocks) (n : NamespaceRow) → (d.shift ≡ e.shift) → (length d.blocks ≡ length e.blocks) → On (row_of i d n) ≡ On (row_of i e n)
row-alike i d e n a b = rw (a, b) refl

sizes-alike : (d e : Blocks) → size_of (Some d) ≡ size_of (Some e) → (d.shift ≡ e.shift) × (length d.blocks ≡ length e.blocks)
sizes-alike d e same =
    let a : ℕ × ℕ = (d.shift, length d.blocks) in
    let b : ℕ × ℕ = (e.shift, length e.blocks) in
    let pair : a ≡ b = some-same a b same in
    (ap (λ (p : ℕ × ℕ). p.0) pair, ap (λ (p : ℕ × ℕ). p.1) pair)

blocks-alike : (i : ℕ) (n : NamespaceRow) (o p : Option Blocks) → size_of o ≡ size_of p → on_blocks i n o ≡ on_blocks i n p
blocks-alike i n None None same = refl
blocks-alike i n None (Some e) same = absurd (no-size e same)
blocks-alike i n (Some d) None same = absurd (no-size d (sym same))
blocks-alike i n (Some d) (Some e) same = let both = sizes-alike d e same in row-alike i d e n both.0 both.1

disk-alike : (a b : List Blocks) (n : NamespaceRow) (o : Option ℕ) → ((i : ℕ) → size_of (slice_get a i) ≡ size_of (slice_get b i)) → on_disk a n o ≡ on_disk b n o
disk-alike a b n None same = refl
disk-alike a b n (Some i) same = blocks-alike i n (slice_get a i) (slice_get b i) (same i)

seen-alike : (a b : List Blocks) (o : Option NamespaceRow) → ((i : ℕ) → size_of (slice_get a i) ≡ size_of (slice_get b i)) → seen_of a o ≡ seen_of b o
seen-alike a b None same = refl
seen-alike a b (Some n) same = ap (λ (s : Seen). if n.enabled then s else Off) (disk-alike a b n n.disk same)

-- ---- words
shown-alike : (t u : Configuration) (disk : ℕ) → u.settings ≡ t.settings → is_shown u disk ≡ is_shown t disk
unfolding is_shown
shown-alike t u disk same = ap (λ (s : Settings). list_any (subsystem_shows disk) (maps.values s.subsystems)) same

word-alike : (x y : Shape) (p : Place) → AreAlike x y → word_for y p ≡ word_for x p
word-alike x y (Shown disk) h = ap bit (shown-alike x.tree y.tree disk h.settings)
word-alike x y (Ready ctrl) h = ap (λ (cs : List ControllerRow). bit (ready_in cs ctrl)) h.controllers
word-alike x y Changes h = ap (λ (s : Settings). s.ana_count) h.settings
word-alike x y (SubsystemStamp sub) h = ap (λ (s : Stamps). s.subsystem sub) h.stamps
word-alike x y (PortStamp port) h = ap (λ (s : Stamps). s.port port) h.stamps
word-alike x y (State port group) h =
    ap (λ (s : Settings). state_word (group_in group (find (λ (p : PortRow). p.at == port) (maps.values s.ports)))) h.settings
word-alike x y (Space sub nsid part) h =
    ap (λ (s : Seen). get_or (space_words s (y.stamps.space sub nsid)) part 0) (seen-alike y.blocks x.blocks (space_in nsid (subsystem_row y.tree sub)) h.sizes)
    ∙ (ap (λ (s : Settings). get_or (space_words (seen_of x.blocks (space_in nsid (find (λ (r : SubsystemRow). r.at == sub) (maps.values s.subsystems)))) (y.stamps.space sub nsid)) part 0) h.settings
    ∙ ap (λ (s : Stamps). get_or (space_words (seen_of x.blocks (space_in nsid (subsystem_row x.tree sub))) (s.space sub nsid)) part 0) h.stamps)

each-alike : (f g : ℕ → ℕ) (n : ℕ) → ((w : ℕ) → f w ≡ g w) → each_below f n ≡ each_below g n
each-alike f g n same = λ i. each_below (λ w. same w i) n

pub words_follow : WordsFollowSettings
unfolding words_of
words_follow x y h = each-alike (λ w. word_for y (place_at w)) (λ w. word_for x (place_at w)) WORDS (λ w. word-alike x y (place_at w) h)
