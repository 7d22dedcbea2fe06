-- A holder put at the first disk of a path, by its place.
use Rattle.std.proofs.Common.{◌≡◌, ℕ, zero, suc, ◌<◌, Bool, true, false, cond, List, [], ◌∷◌, ◌++◌, length, get_or, set, take, drop, Option, refl, ap, sym, ◌∙◌, append_assoc, append-nil, add-one, take_all, ◌+◌, ◌≤◌, arith}
use Rattle.std.proofs.Math.Seq.{drop-cons, take-suc}
use Rattle.std.proofs.Math.ListN.{drop_of_length-le}
use Rattle.std.specs.Str.{bytes_eq}
use Rattle.configfs_rows.specs.Holders.{hold}
use Rattle.configfs_rows.specs.declared.disks.Holder.{Holder}
use Rattle.configfs_rows.specs.declared.disks.DiskRow.{DiskRow}

set_splits : {A : Type 0} (xs : List A) (i : ℕ) (v : A) → i < length xs
    → set xs i v ≡ take i xs ++ v ∷ drop (suc i) xs
set_splits [] i v lt = absurd (omega arith)
set_splits (x ∷ xs) zero v lt = refl
set_splits (x ∷ xs) (suc i) v lt = let less : i < length xs = omega arith in
    ap (λ ys. x ∷ ys) (set_splits xs i v less)

module _ (path : List ℕ) (h : Option Holder) where
  hold_next : (rows : List DiskRow) (i : ℕ) (d : DiskRow) (b : Bool) → i < length rows
      → bytes_eq (get_or rows i d).path path ≡ b → hold path h (drop i rows)
      ≡ cond b (record (get_or rows i d) {
        holder =
            h;
      } ∷ drop (suc i) rows) (get_or rows i d ∷ hold path h (drop (suc i) rows))
  hold_next rows i d b lt is = ap (hold path h) (drop-cons rows i d lt)
      ∙ ap (λ t. cond t (record (get_or rows i d) {
        holder =
            h;
      } ∷ drop (suc i) rows) (get_or rows i d ∷ hold path h (drop (suc i) rows))) is

  pub hold_hit : (rows : List DiskRow) (i : ℕ) (d : DiskRow) → i < length rows
      → bytes_eq (get_or rows i d).path path ≡ true → hold path h rows ≡ take i rows
      ++ hold path h (drop i rows) → set rows i (record (get_or rows i d) { holder = h })
      ≡ hold path h rows
  hold_hit rows i d lt hit so_far =
      set_splits rows i (record (get_or rows i d) { holder = h }) lt
      ∙ ap (λ ys. take i rows ++ ys) (sym (hold_next rows i d true lt hit))
      ∙ sym so_far

  pub hold_miss : (rows : List DiskRow) (i : ℕ) (d : DiskRow) → i < length rows
      → bytes_eq (get_or rows i d).path path ≡ false → hold path h rows ≡ take i rows
      ++ hold path h (drop i rows) → hold path h rows ≡ take (i + 1) rows
      ++ hold path h (drop (i + 1) rows)
  hold_miss rows i d lt miss so_far =
      so_far
      ∙ ap (λ ys. take i rows ++ ys) (hold_next rows i d false lt miss)
      ∙ sym (append_assoc (take i rows) (get_or rows i d ∷ []) (hold path h (drop (suc i) rows)))
      ∙ ap (λ ys. ys ++ hold path h (drop (suc i) rows)) (sym (take-suc rows i d lt))
      ∙ ap (λ n. take n rows ++ hold path h (drop n rows)) (sym (add-one i))

  pub hold_end : (rows : List DiskRow) (i : ℕ) → length rows ≤ i
      → hold path h rows ≡ take i rows ++ hold path h (drop i rows) → rows ≡ hold path h rows
  hold_end rows i le so_far =
      sym (append-nil rows)
      ∙ ap (λ ys. ys ++ []) (sym (take_all i rows le))
      ∙ ap (λ ys. take i rows ++ hold path h ys) (sym (drop_of_length-le rows le))
      ∙ sym so_far
