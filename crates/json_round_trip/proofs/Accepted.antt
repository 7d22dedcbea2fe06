-- Edits that are made one after another in a loop, and the tree that they make.
use Rattle.std.proofs.Common.{◌≡◌, ℕ, suc, ◌+◌, ◌<◌, ◌≤◌, List, ◌∷◌, length, map as each, get_or, drop, drop-cons, nat_le, Bool, true, Ok, Err, sym, ap, subst, ◌∙◌, arith, ◌++◌, [], take, add-one, Some, false}
use Rattle.std.proofs.Math.Seq.{take-suc}
use Rattle.std.proofs.lemmas.Bool.{both_ways, le-leb}
use Rattle.std.proofs.lemmas.Option.{slice_get_within, get_or_from_slice_get, slice_get-get_or, slice_get-map}
use Rattle.std.proofs.lemmas.Slice.Eq.{bytes_eq-Decides}
use Rattle.std.specs.List.{slice_get}
use Rattle.std.specs.Option.{option_map}
use Rattle.std.specs.Str.{bytes_eq}
use Rattle.std.proofs.lemmas.List.{length-map}
use Rattle.mem_bdev.specs.declared.disk.DiskLine.{DiskLine}
use Rattle.configfs_rows.specs.Holders.{are_apart, disk_path, paths_of}
use Rattle.configfs_rows.proofs.Gets.{some_same}
use Rattle.configfs_rows.specs.declared.disks.DiskRow.{DiskRow}
use Rattle.configfs_rows.specs.declared.limits.TheConstants.{MAX_DISKS}
use Rattle.configfs_tree.specs.Outcome.{Outcome, Refuses}
use Rattle.configfs_tree.specs.Standing.{IsStanding}
use Rattle.configfs_tree.specs.Gives.{Gives}
use Rattle.configfs_tree.specs.Start.{are_disks, empty_tree, line_path}
use Rattle.configfs_tree.specs.declared.edits.Refused.{Refused}
use Rattle.configfs_tree.specs.declared.edits.Refused.TheVariants as refused
use Rattle.nvmetcli_json.specs.Loading.{edits_in}
use Rattle.nvmetcli_json.specs.Saving.{tree_data}
use Rattle.nvmetcli_json.specs.Edits.{Loads}
use Rattle.configfs_tree.specs.declared.configuration.Configuration.{Configuration}
use Rattle.configfs_tree.specs.declared.edits.Errno.{Errno}
use Rattle.configfs_tree.proofs.Decided.{both}
use Rattle.configfs_tree.proofs.SoundTable.{length_paths}
use Rattle.link_rules.specs.Table.{edit_outcome}
use Rattle.link_rules.specs.declared.edits.Edit.{Edit}
use Rattle.tree_target.specs.Loads.{Loaded, RefusedEdit, LoadedTree, load_on, load_from, loaded}
use Rattle.json_round_trip.specs.Reloads.{HasDisksOf, IsAccepted, Reloads}

-- none of them is refused, where all of them together make a tree
pub never_refused : (edits : List Edit) (i : ℕ) (e : Edit) (t u : Configuration) (errno : Errno)
    (l : Loaded) → i < length edits → e ≡ get_or edits i e
    → l ≡ load_from (i + 1) t (drop i edits) → edit_outcome t e ≡ Refuses errno
    → l ≡ LoadedTree u → ⊥
never_refused edits i e t u errno l lt is so_far refused made =
    let next : load_from (i + 1) t (drop i edits) ≡ RefusedEdit (i + 1) errno =
    ap (load_from (i + 1) t) (drop-cons edits i e lt ∙ ap (λ (x : Edit). x ∷ drop (suc i) edits)
    (sym is)) ∙ ap (λ (o : Outcome). load_on (i + 1) o
    (λ v. load_from (i + 1 + 1) v (drop (suc i) edits))) refused in
    apart (i + 1) errno u (sym next ∙ (sym so_far ∙ made)) where
      apart : (n : ℕ) (errno : Errno) (u : Configuration) → RefusedEdit n errno ≡ LoadedTree u → ⊥
      apart n errno u is = cc

-- the disks of a tree that stands are such that a tree may have them
pub lines_are_disks : (lines : List DiskLine) (t : Configuration) → IsStanding t
    → HasDisksOf lines t → are_disks lines ≡ true
lines_are_disks lines t stands same =
    let paths : length (paths_of t.disks) ≡ length (each line_path lines) = ap length same in
    let rows : length (paths_of t.disks) ≡ length t.disks = length_paths t.disks in
    let size : length (each line_path lines) ≡ length lines = length-map lines line_path in
    let few : length lines ≤ MAX_DISKS = let some = stands.sound.few_disks in omega arith in
    both (nat_le (length lines) MAX_DISKS) (are_apart (each line_path lines))
    (le-leb (length lines) MAX_DISKS few) (sym (ap are_apart same) ∙ stands.sound.disks_apart)

pub refused_as : (grows : Bool) (o : Outcome) (old new : Configuration) (r : Refused)
    (errno : Errno) → r ≡ refused.Errno errno → Gives grows o old (Err r) new → o ≡ Refuses errno
refused_as grows o old new r errno is gives = (subst (λ (x : Refused). Gives grows o old (Err x) new)
    is gives).0

read_once : (x : Loads) (a b : List Edit) → x ≡ Ok a → x ≡ Ok b → b ≡ a
read_once x a b is is' = cc

-- the edits that were read are accepted from the empty tree on, and make the tree of the law
module _ (lines : List DiskLine) (t empty : Configuration) (es edits : List Edit)
    (r : Reloads lines t) (start : empty ≡ empty_tree lines) (read : edits_in (tree_data t) ≡ Ok es)
    (same : edits ≡ es) where
  loads : load_from 1 empty edits ≡ LoadedTree r.tree
  loads = ap (λ (u : Configuration). load_from 1 u edits) start
      ∙ (ap (loaded lines) (same ∙ read_once (edits_in (tree_data t)) r.edits es r.read read)
      ∙ r.made)

  pub accepted : IsAccepted empty edits
  accepted = record { tree = r.tree; loads = loads }

-- ---- the paths of disks, compared one after another
-- the path at a place of the disks, and of the lines
record BothAt (disks : List DiskRow) (lines : List DiskLine) (i : ℕ) (d : DiskRow) (l : DiskLine)
    : Type 0 where
  disk : slice_get (paths_of disks) i ≡ Some d.path
  line : slice_get (each line_path lines) i ≡ Some l.path

both_at : (disks : List DiskRow) (lines : List DiskLine) (i : ℕ) (d : DiskRow) (l : DiskLine)
    → Some d ≡ slice_get disks i → i < length lines → l ≡ get_or lines i l
    → BothAt disks lines i d l
both_at disks lines i d l got lt is = record {
  disk = slice_get-map disk_path disks i ∙ ap (option_map disk_path) (sym got);
  line = slice_get-map line_path lines i ∙ ap (option_map line_path)
      (slice_get-get_or lines i l lt ∙ ap (λ (x : DiskLine). Some x) (sym is));
}

pub paths_differ : (disks : List DiskRow) (lines : List DiskLine) (i : ℕ) (d : DiskRow)
    (l : DiskLine) → Some d ≡ slice_get disks i → i < length lines → l ≡ get_or lines i l
    → bytes_eq d.path l.path ≡ false → paths_of disks ≡ each line_path lines → ⊥
paths_differ disks lines i d l got lt is differ same =
    let at = both_at disks lines i d l got lt is in
    both_ways (bytes_eq d.path l.path) differ ((bytes_eq-Decides d.path l.path).1
    (some_same d.path l.path (sym at.disk ∙ (ap (λ (ps : List (List ℕ)). slice_get ps i) same
    ∙ at.line))))

one_more : (ps qs : List (List ℕ)) (i : ℕ) (p : List ℕ) → slice_get ps i ≡ Some p
    → slice_get qs i ≡ Some p → take i ps ≡ take i qs → take (i + 1) ps ≡ take (i + 1) qs
one_more ps qs i p at at' so_far =
    let lt : i < length ps = slice_get_within ps i p at in
    let lt' : i < length qs = slice_get_within qs i p at' in
    ap (λ n. take n ps) (add-one i) ∙ (take-suc ps i p lt
    ∙ (ap (λ xs. xs ++ get_or ps i p ∷ []) so_far
    ∙ (ap (λ x. take i qs ++ x ∷ []) (get_or_from_slice_get ps i p p at
    ∙ sym (get_or_from_slice_get qs i p p at'))
    ∙ (sym (take-suc qs i p lt') ∙ ap (λ n. take n qs) (sym (add-one i))))))

pub paths_so_far : (disks : List DiskRow) (lines : List DiskLine) (i : ℕ) (d : DiskRow)
    (l : DiskLine) → Some d ≡ slice_get disks i → i < length lines → l ≡ get_or lines i l
    → bytes_eq d.path l.path ≡ true → take i (paths_of disks) ≡ take i (each line_path lines)
    → take (i + 1) (paths_of disks) ≡ take (i + 1) (each line_path lines)
paths_so_far disks lines i d l got lt is same so_far =
    let at = both_at disks lines i d l got lt is in
    one_more (paths_of disks) (each line_path lines) i d.path at.disk (at.line
    ∙ ap (λ (p : List ℕ). Some p) (sym ((bytes_eq-Decides d.path l.path).0 same))) so_far
