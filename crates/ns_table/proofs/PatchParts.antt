-- The words of a patch, put together.
use Rattle.std.proofs.Common.{◌≡◌, ◌<◌, ℕ, zero, suc, ◌+◌, ◌==◌, ◌&&◌, Bool, true, if◌then◌else◌, List, [], ◌∷◌, ◌++◌, map, get_or, Option, Some, None, refl, sym, ap, ◌∙◌, append_assoc, arith}
use Rattle.std.proofs.lemmas.Bool.{eq-eqb}
use Rattle.std.proofs.lemmas.List.{map-append}
use Rattle.std.specs.List.{range_with_len}
use Rattle.mem_bdev.specs.Blocks.{Blocks}
use Rattle.sqe_cqe.specs.declared.controllers.ControllerRow.{ControllerRow}
use Rattle.sqe_cqe.specs.declared.rows.Seen.{Seen}
use Rattle.sqe_cqe.specs.declared.rows.Seen.TheVariants.{NotConfigured, Off, On}
use Rattle.configfs_tree.specs.declared.configuration.Configuration.{Configuration}
use Rattle.configfs_tree.specs.declared.edits.Change.{Change}
use Rattle.configfs_tree.specs.declared.edits.Touched.{Touched}
use Rattle.configfs_tree.specs.declared.edits.Touched.TheVariants as touches
use Rattle.configfs_tree.specs.Links.{subsystem_row}
use Rattle.tree_target.specs.Views.{seen_of, space_in}
use Rattle.ns_table.specs.Positions.{Changes, SubsystemStamp, PortStamp, Space, at}
use Rattle.ns_table.specs.Words.{Stamps, opened_shape, space_words}
use Rattle.ns_table.specs.Changed.{stamps_after, is_pair, is_at, disk_in, shape_before}
use Rattle.ns_table.specs.Patches.{placed_word, words_at, touched_places, shown_places, turned_places, port_places, subsystem_places, told_places, turned_words, port_words, subsystem_words}
use Rattle.ns_table.proofs.Spaces.{stamp-again}

-- parts but for the stamp don't depend on it
pub part-same : (seen : Seen) (a b k : ℕ) → k < 10 → get_or (space_words seen a) k 0 ≡ get_or (space_words seen b) k 0
part-same NotConfigured a b zero h = refl
part-same NotConfigured a b (suc zero) h = refl
part-same NotConfigured a b (suc (suc zero)) h = refl
part-same NotConfigured a b (suc (suc (suc zero))) h = refl
part-same NotConfigured a b (suc (suc (suc (suc zero)))) h = refl
part-same NotConfigured a b (suc (suc (suc (suc (suc zero))))) h = refl
part-same NotConfigured a b (suc (suc (suc (suc (suc (suc zero)))))) h = refl
part-same NotConfigured a b (suc (suc (suc (suc (suc (suc (suc zero))))))) h = refl
part-same NotConfigured a b (suc (suc (suc (suc (suc (suc (suc (suc zero)))))))) h = refl
part-same NotConfigured a b (suc (suc (suc (suc (suc (suc (suc (suc (suc zero))))))))) h = refl
part-same NotConfigured a b (suc (suc (suc (suc (suc (suc (suc (suc (suc (suc k)))))))))) h = absurd (omega arith)
part-same Off a b zero h = refl
part-same Off a b (suc zero) h = refl
part-same Off a b (suc (suc zero)) h = refl
part-same Off a b (suc (suc (suc zero))) h = refl
part-same Off a b (suc (suc (suc (suc zero)))) h = refl
part-same Off a b (suc (suc (suc (suc (suc zero))))) h = refl
part-same Off a b (suc (suc (suc (suc (suc (suc zero)))))) h = refl
part-same Off a b (suc (suc (suc (suc (suc (suc (suc zero))))))) h = refl
part-same Off a b (suc (suc (suc (suc (suc (suc (suc (suc zero)))))))) h = refl
part-same Off a b (suc (suc (suc (suc (suc (suc (suc (suc (suc zero))))))))) h = refl
part-same Off a b (suc (suc (suc (suc (suc (suc (suc (suc (suc (suc k)))))))))) h = absurd (omega arith)
part-same (On row) a b zero h = refl
part-same (On row) a b (suc zero) h = refl
part-same (On row) a b (suc (suc zero)) h = refl
part-same (On row) a b (suc (suc (suc zero))) h = refl
part-same (On row) a b (suc (suc (suc (suc zero)))) h = refl
part-same (On row) a b (suc (suc (suc (suc (suc zero))))) h = refl
part-same (On row) a b (suc (suc (suc (suc (suc (suc zero)))))) h = refl
part-same (On row) a b (suc (suc (suc (suc (suc (suc (suc zero))))))) h = refl
part-same (On row) a b (suc (suc (suc (suc (suc (suc (suc (suc zero)))))))) h = refl
part-same (On row) a b (suc (suc (suc (suc (suc (suc (suc (suc (suc zero))))))))) h = refl
part-same (On row) a b (suc (suc (suc (suc (suc (suc (suc (suc (suc (suc k)))))))))) h = absurd (omega arith)

space-same : (t : Configuration) (cs : List ControllerRow) (bs : List Blocks) (a b : Stamps) (s n from count : ℕ) → from + count ≡ 10
    → words_at (shape_before t cs bs a) (map (Space s n) (range_with_len from count)) ≡ words_at (shape_before t cs bs b) (map (Space s n) (range_with_len from count))
space-same t cs bs a b s n from zero ten = refl
space-same t cs bs a b s n from (suc count) ten =
    let seen = seen_of bs (space_in n (subsystem_row t s)) in
    let first = part-same seen (a.space s n) (b.space s n) from (omega arith) in
    let rest = space-same t cs bs a b s n (from + 1) count (omega arith) in
    λ i. (at (Space s n from), first i) ∷ rest i

touched-same : (t : Configuration) (cs : List ControllerRow) (bs : List Blocks) (a b : Stamps) (touched : Touched)
    → words_at (shape_before t cs bs a) (touched_places touched) ≡ words_at (shape_before t cs bs b) (touched_places touched)
touched-same t cs bs a b touches.Nothing = refl
touched-same t cs bs a b (touches.Namespace s n) = space-same t cs bs a b s n 0 10 refl
touched-same t cs bs a b (touches.Group p g) = refl
touched-same t cs bs a b (touches.Port p) = refl
touched-same t cs bs a b (touches.Subsystem s) = refl
touched-same t cs bs a b (touches.Controller c) = refl

shown-same : (t : Configuration) (cs : List ControllerRow) (bs : List Blocks) (a b : Stamps) (o : Option ℕ)
    → words_at (shape_before t cs bs a) (shown_places o) ≡ words_at (shape_before t cs bs b) (shown_places o)
shown-same t cs bs a b None = refl
shown-same t cs bs a b (Some d) = refl

-- the stamps of what the change names are its serial
if-one : (b : Bool) (x y : ℕ) → b ≡ true → (if b then x else y) ≡ x
if-one b x y is = rw is refl

pair-true : (s n : ℕ) → ((s == s) && (n == n)) ≡ true
pair-true s n = rw (eq-eqb s s refl, eq-eqb n n refl) refl

turned-same : (t : Configuration) (cs : List ControllerRow) (bs : List Blocks) (c : Change) (old : Stamps) (serial : ℕ) (o : Option (ℕ × ℕ)) → c.namespace ≡ o
    → turned_words (opened_shape t cs bs) o serial ≡ words_at (shape_before t cs bs (stamps_after serial c old)) (turned_places t o)
turned-same t cs bs c old serial None is = refl
turned-same t cs bs c old serial (Some x) is =
    let seen = seen_of bs (space_in x.1 (subsystem_row t x.0)) in
    let named : is_pair x.0 x.1 c.namespace ≡ true = ap (is_pair x.0 x.1) is ∙ pair-true x.0 x.1 in
    let stamp : get_or (space_words seen ((stamps_after serial c old).space x.0 x.1)) 10 0 ≡ serial = stamp-again seen ((stamps_after serial c old).space x.0 x.1) ∙ if-one (is_pair x.0 x.1 c.namespace) serial (old.space x.0 x.1) named in
    let rest = shown-same t cs bs ((opened_shape t cs bs).stamps) (stamps_after serial c old) (disk_in (space_in x.1 (subsystem_row t x.0))) in
    λ i. (at (Space x.0 x.1 10), (sym stamp) i) ∷ rest i

port-same : (t : Configuration) (cs : List ControllerRow) (bs : List Blocks) (c : Change) (old : Stamps) (serial : ℕ) (o : Option ℕ) → c.ana_port ≡ o
    → port_words (opened_shape t cs bs) o serial ≡ words_at (shape_before t cs bs (stamps_after serial c old)) (port_places o)
port-same t cs bs c old serial None is = refl
port-same t cs bs c old serial (Some p) is =
    let named : is_at p c.ana_port ≡ true = ap (is_at p) is ∙ eq-eqb p p refl in
    let stamp : (stamps_after serial c old).port p ≡ serial = if-one (is_at p c.ana_port) serial (old.port p) named in
    λ i. (at (PortStamp p), (sym stamp) i) ∷ (at Changes, t.settings.ana_count) ∷ []

subsystem-same : (t : Configuration) (cs : List ControllerRow) (bs : List Blocks) (c : Change) (old : Stamps) (serial : ℕ) (o : Option ℕ) → c.ana_subsystem ≡ o
    → subsystem_words (opened_shape t cs bs) o serial ≡ words_at (shape_before t cs bs (stamps_after serial c old)) (subsystem_places o)
subsystem-same t cs bs c old serial None is = refl
subsystem-same t cs bs c old serial (Some s) is =
    let named : is_at s c.ana_subsystem ≡ true = ap (is_at s) is ∙ eq-eqb s s refl in
    let stamp : (stamps_after serial c old).subsystem s ≡ serial = if-one (is_at s c.ana_subsystem) serial (old.subsystem s) named in
    λ i. (at (SubsystemStamp s), (sym stamp) i) ∷ (at Changes, t.settings.ana_count) ∷ []

-- all together
pub patch-is : (t : Configuration) (cs : List ControllerRow) (bs : List Blocks) (c : Change) (old : Stamps) (serial : ℕ) (p0 p1 p2 p3 : List (ℕ × ℕ))
    → p0 ≡ words_at (opened_shape t cs bs) (touched_places c.touched) → p1 ≡ p0 ++ turned_words (opened_shape t cs bs) c.namespace serial
    → p2 ≡ p1 ++ port_words (opened_shape t cs bs) c.ana_port serial → p3 ≡ p2 ++ subsystem_words (opened_shape t cs bs) c.ana_subsystem serial
    → p3 ≡ words_at (shape_before t cs bs (stamps_after serial c old)) (told_places t c)
patch-is t cs bs c old serial p0 p1 p2 p3 e0 e1 e2 e3 =
    let x = shape_before t cs bs (stamps_after serial c old) in
    let f = placed_word x in
    let A = touched_places c.touched in
    let B = turned_places t c.namespace in
    let C = port_places c.ana_port in
    let D = subsystem_places c.ana_subsystem in
    let a : p0 ≡ map f A = e0 ∙ touched-same t cs bs (opened_shape t cs bs).stamps (stamps_after serial c old) c.touched in
    let b : p1 ≡ map f A ++ map f B = e1 ∙ (λ i. a i ++ turned-same t cs bs c old serial c.namespace refl i) in
    let d : p2 ≡ (map f A ++ map f B) ++ map f C = e2 ∙ (λ i. b i ++ port-same t cs bs c old serial c.ana_port refl i) in
    let e : p3 ≡ ((map f A ++ map f B) ++ map f C) ++ map f D = e3 ∙ (λ i. d i ++ subsystem-same t cs bs c old serial c.ana_subsystem refl i) in
    let split : map f (A ++ (B ++ (C ++ D))) ≡ map f A ++ (map f B ++ (map f C ++ map f D)) =
    map-append f A (B ++ (C ++ D)) ∙ ap (λ (r : List (ℕ × ℕ)). map f A ++ r) (map-append f B (C ++ D) ∙ ap (λ (r : List (ℕ × ℕ)). map f B ++ r) (map-append f C D)) in
    e ∙ (append_assoc (map f A ++ map f B) (map f C) (map f D) ∙ (append_assoc (map f A) (map f B) (map f C ++ map f D) ∙ sym split))
