-- The words of a table are laid out one after the other, and its seats are dealt.
use Rattle.std.proofs.Common.{◌≡◌, ◌≢◌, ◌⊎◌, ℕ, zero, suc, ◌+◌, ◌*◌, ◌/◌, ◌%◌, ◌<◌, ◌≤◌, nat_lt, Bool, true, false, cond, List, [], ◌∷◌, length, map, drop, replicate, get_or, set, sym, refl, ap, ◌∙◌, subst, arith, length-set, get_or-set_same, get_or-set_other, lt-ltb}
use Rattle.std.proofs.lemmas.Bool.{le-ltb}
use lib.ListN.{get_elem?, length-replicate}
use mathlib.Core.Option.{some, some-ne-none}
use mathlib.Core.Logic.{dite}
use native.Mathlib.Decide.{ℕ_discrete}
use Rattle.ref_state.specs.declared.state.View.{View}
use Rattle.ref_state.specs.declared.state.Disk.{Disk}
use Rattle.ref_state.specs.State.{view, no_view, no_disk, no_count, word_of, bias}
use Rattle.ref_state.specs.Soundness.{seats_from, opened_core, live_disk}
use Rattle.table_rule.specs.declared.rule.Plan.{Plan}
use Rattle.table_rule.specs.Words.{Where, Clock, SectionOf, ModeOf, SharedOf, OwnOf, TurnOf, RowOf, at, width, Within, value, Words, laid, IsLaid}
use Rattle.table_rule.specs.Shown.{head_or}
use Rattle.table_rule.proofs.Addresses.{Few, one_word, inside}

everywhere : {A : Type 0} (n i : ℕ) (a : A) → get_or (replicate n a) i a ≡ a
everywhere zero i a = refl
everywhere (suc n) zero a = refl
everywhere (suc n) (suc i) a = everywhere n i a

within : {A : Type 0} (n i : ℕ) (a b : A) → i < n → get_or (replicate n a) i b ≡ a
within zero i a b h = absurd (omega arith)
within (suc n) zero a b h = refl
within (suc n) (suc i) a b h = within n i a b (omega arith)

no_word : (qs : List ℕ) (n j : ℕ) → (view (seats_from n qs) j).word ≡ 0
no_word [] n j = refl
no_word (q ∷ qs) n zero = refl
no_word (q ∷ qs) n (suc j) = no_word qs (n + 1) j

-- one word more is laid
module _ (key : Plan) (few : Few key) (rows ws : List ℕ) where
  lay : (v w : Where → ℕ) (q : Where) (n : ℕ) → length ws ≡ width key.rows
      → ((o : Where) → Within key o → get_or ws (at o) 0 ≡ v o) → Within key q → w q ≡ n
      → ((o : Where) → o ≢ q → w o ≡ v o)
      → (o : Where) → Within key o → get_or (set ws (at q) n) (at o) 0 ≡ w o
  lay v w q n wide each near here others o close = dite (ℕ_discrete (at o) (at q))
      (λ e. let same : o ≡ q = one_word key few o q close near e in
      subst (λ (z : Where). get_or (set ws (at q) n) (at z) 0 ≡ w z) (sym same)
      (get_or-set_same ws (at q) n 0 (let a = inside key few q near in omega arith) ∙ sym here))
      (λ ne. get_or-set_other ws (at q) (at o) n 0 ne
      ∙ (each o close ∙ sym (others o (λ e. ne (ap at e)))))

more_below : (a k : ℕ) → a ≢ k → nat_lt a (k + 1) ≡ nat_lt a k
more_below a k ne = grind (arith, Rattle.std.proofs.lemmas.Bool.Decides.nat_tests)

pub lay_none : (key : Plan) (n : ℕ) → n ≡ width key.rows → IsLaid key 0 0 0 [] (replicate n 0)
lay_none key n is = record {
  wide = length-replicate n 0 ∙ is;
  each = λ o _. everywhere n (at o) 0
      ∙ sym (nothing o);
}
  where
    nothing : (o : Where) → laid 0 0 0 [] o ≡ 0
    nothing Clock = refl
    nothing (SectionOf j) = refl
    nothing (ModeOf d) = refl
    nothing (SharedOf d) = ap (λ b. cond b bias 0) (le-ltb d 0 (omega arith))
    nothing (OwnOf d j) = refl
    nothing (TurnOf n) = refl
    nothing (RowOf zero w) = ap (λ b. cond b (get_or [] w 0) 0) (le-ltb w 0 (omega arith))
    nothing (RowOf (suc i) w) = ap (λ b. cond b (get_or [] w 0) 0) (le-ltb w 0 (omega arith))

pub lay_bias : (key : Plan) → Few key → (k : ℕ) (ws : List ℕ) → k < key.disks
    → IsLaid key k 0 0 [] ws → IsLaid key (k + 1) 0 0 [] (set ws (2576 + 16 * k) bias)
lay_bias key few k ws near x = record {
  wide = length-set ws (2576 + 16 * k) bias ∙ x.wide;
  each = lay key few [] ws (laid k 0 0 []) (laid (k + 1) 0 0 [])
      (SharedOf k) bias x.wide x.each near (ap (λ b. cond b bias 0)
      (lt-ltb k (k + 1) (omega arith))) others;
}
  where
    others : (o : Where) → o ≢ SharedOf k → laid (k + 1) 0 0 [] o ≡ laid k 0 0 [] o
    others Clock ne = refl
    others (SectionOf j) ne = refl
    others (ModeOf d) ne = refl
    others (SharedOf d) ne = ap (λ b. cond b bias 0) (more_below d k (λ e. ne (ap SharedOf e)))
    others (OwnOf d j) ne = refl
    others (TurnOf n) ne = refl
    others (RowOf zero w) ne = refl
    others (RowOf (suc i) w) ne = refl

-- the words of no row are none of any
pub no_rows : (key : Plan) (d : ℕ) (rows ws : List ℕ) → IsLaid key d 0 0 [] ws
    → IsLaid key d 0 0 rows ws
no_rows key d rows ws x = record { wide = x.wide; each = λ o near. x.each o near ∙ same o }
  where
    none : (l : List ℕ) (w : ℕ) → cond (nat_lt w 0) (get_or l w 0) 0 ≡ 0
    none l w = ap (λ b. cond b (get_or l w 0) 0) (le-ltb w 0 (omega arith))

    same : (o : Where) → laid d 0 0 [] o ≡ laid d 0 0 rows o
    same Clock = refl
    same (SectionOf j) = refl
    same (ModeOf e) = refl
    same (SharedOf e) = refl
    same (OwnOf e j) = refl
    same (TurnOf n) = refl
    same (RowOf zero w) = none [] w ∙ sym (none rows w)
    same (RowOf (suc i) w) = none [] w ∙ sym (none rows w)

module _ (key : Plan) (few : Few key) (d k : ℕ) (rows ws : List ℕ) (near : k < key.rows) where
  one_side : IsLaid key d k k rows ws → IsLaid key d (k + 1) k rows
      (set ws (at (RowOf 0 k)) (get_or rows k 0))
  one_side x = record {
    wide = length-set ws (at (RowOf 0 k)) (get_or rows k 0) ∙ x.wide;
    each = lay key few rows ws (laid d k k rows) (laid d (k + 1) k rows) (RowOf 0 k)
        (get_or rows k 0) x.wide x.each (
          omega arith,
          near,
        ) (ap (λ b. cond b (get_or rows k 0) 0) (lt-ltb k (k + 1) (omega arith))) others;
  }
    where
      others : (o : Where) → o ≢ RowOf 0 k → laid d (k + 1) k rows o ≡ laid d k k rows o
      others Clock ne = refl
      others (SectionOf j) ne = refl
      others (ModeOf e) ne = refl
      others (SharedOf e) ne = refl
      others (OwnOf e j) ne = refl
      others (TurnOf n) ne = refl
      others (RowOf zero w) ne = ap (λ b. cond b (get_or rows w 0) 0)
          (more_below w k (λ e. ne (ap (RowOf 0) e)))
      others (RowOf (suc i) w) ne = refl

  other_side : (zs : List ℕ) → IsLaid key d (k + 1) k rows zs
      → IsLaid key d (k + 1) (k + 1) rows (set zs (at (RowOf 1 k)) (get_or rows k 0))
  other_side zs x = record {
    wide = length-set zs (at (RowOf 1 k)) (get_or rows k 0) ∙ x.wide;
    each = λ o close. lay key few rows zs (laid d (k + 1) k rows) both (RowOf 1 k)
        (get_or rows k 0) x.wide x.each (
          omega arith,
          near,
        ) (ap (λ b. cond b (get_or rows k 0) 0)
        (lt-ltb k (k + 1) (omega arith))) others o close ∙ sides o close;
  }
    where
      -- the second side alone
      both : Where → ℕ
      both Clock = 0
      both (SectionOf j) = 0
      both (ModeOf e) = 0
      both (SharedOf e) = laid d (k + 1) k rows (SharedOf e)
      both (OwnOf e j) = 0
      both (TurnOf n) = 0
      both (RowOf zero w) = laid d (k + 1) k rows (RowOf zero w)
      both (RowOf (suc zero) w) = cond (nat_lt w (k + 1)) (get_or rows w 0) 0
      both (RowOf (suc (suc i)) w) = laid d (k + 1) k rows (RowOf (suc (suc i)) w)

      others : (o : Where) → o ≢ RowOf 1 k → both o ≡ laid d (k + 1) k rows o
      others Clock ne = refl
      others (SectionOf j) ne = refl
      others (ModeOf e) ne = refl
      others (SharedOf e) ne = refl
      others (OwnOf e j) ne = refl
      others (TurnOf n) ne = refl
      others (RowOf zero w) ne = refl
      others (RowOf (suc zero) w) ne = ap (λ b. cond b (get_or rows w 0) 0)
          (more_below w k (λ e. ne (ap (RowOf 1) e)))
      others (RowOf (suc (suc i)) w) ne = refl

      sides : (o : Where) → Within key o → both o ≡ laid d (k + 1) (k + 1) rows o
      sides Clock close = refl
      sides (SectionOf j) close = refl
      sides (ModeOf e) close = refl
      sides (SharedOf e) close = refl
      sides (OwnOf e j) close = refl
      sides (TurnOf n) close = refl
      sides (RowOf zero w) close = refl
      sides (RowOf (suc zero) w) close = refl
      sides (RowOf (suc (suc i)) w) close = let z = close.0 in absurd (omega arith)

  pub lay_row : IsLaid key d k k rows ws
      → IsLaid key d (k + 1) (k + 1) rows (set (set ws (7688 + (16 * (k / 8) + k % 8))
      (get_or rows k 0)) (7688 + (16 * (k / 8) + k % 8) + 8) (get_or rows k 0))
  lay_row x = let a : 7688 + (16 * (k / 8) + k % 8) ≡ at (RowOf 0 k) = omega arith in
      let b : 7688 + (16 * (k / 8) + k % 8) + 8 ≡ at (RowOf 1 k) = omega arith in
      subst (λ (z : ℕ × ℕ). IsLaid key d (k + 1) (k + 1) rows
      (set (set ws z.0 (get_or rows k 0)) z.1 (get_or rows k 0))) (λ i. (sym a i, sym b i))
      (other_side (set ws (at (RowOf 0 k)) (get_or rows k 0)) (one_side x))

pub all_laid : (key : Plan) (rows ws : List ℕ) → length rows ≡ key.rows
    → IsLaid key key.disks key.rows key.rows rows ws
    → Words key (opened_core key.quotas key.disks key.slots rows) ws
all_laid key rows ws long x = record { wide = x.wide; each = λ o near. x.each o near ∙ same o near }
  where
    n : ℕ
    n = length key.quotas

    same : (o : Where) → Within key o → laid key.disks key.rows key.rows rows o ≡ value
        (opened_core key.quotas key.disks key.slots rows) o
    same Clock near = refl
    same (SectionOf j) near = sym (no_word key.quotas 0 j)
    same (ModeOf d) near = sym (ap (λ (k : Disk). k.mode)
        (within key.disks d (live_disk n) no_disk near))
    same (SharedOf d) near = ap (λ b. cond b bias 0) (lt-ltb d key.disks near)
        ∙ sym (ap (λ (k : Disk). k.shared) (within key.disks d (live_disk n) no_disk near))
    same (OwnOf d j) near = sym (ap (λ (k : Disk). word_of (get_or k.own j no_count))
        (within key.disks d (live_disk n) no_disk near.0) ∙ ap word_of (everywhere n j no_count))
    same (TurnOf m) near = sym (everywhere key.slots m 0)
    same (RowOf zero w) near = ap (λ b. cond b (get_or rows w 0) 0) (lt-ltb w key.rows near.1)
    same (RowOf (suc zero) w) near = ap (λ b. cond b (get_or rows w 0) 0) (lt-ltb w key.rows near.1)
    same (RowOf (suc (suc i)) w) near = let z = near.0 in absurd (omega arith)

-- ## Seats

drop_none : {A : Type 0} (k : ℕ) → drop {A = A} k [] ≡ []
drop_none zero = refl
drop_none (suc k) = refl

pub drop_next : {A : Type 0} (k : ℕ) (l : List A) → drop 1 (drop k l) ≡ drop (k + 1) l
drop_next zero l = refl
drop_next (suc k) [] = sym (drop_none (suc k + 1))
drop_next (suc k) (x ∷ xs) = drop_next k xs ∙ (let h : suc (k + 1) ≡ suc k + 1 = omega arith in
    ap (λ i. drop i (x ∷ xs)) h)

pub drop_whole : {A : Type 0} (k : ℕ) (l : List A) → length l ≤ k → drop k l ≡ []
drop_whole zero [] h = refl
drop_whole (suc k) [] h = refl
drop_whole zero (x ∷ xs) h = absurd (omega arith)
drop_whole (suc k) (x ∷ xs) h = drop_whole k xs (omega arith)

pub drop_head : (k : ℕ) (l : List ℕ) → k < length l → get_elem? (drop k l) 0 ≡ some (get_or l k 0)
drop_head zero [] h = absurd (omega arith)
drop_head zero (x ∷ xs) h = refl
drop_head (suc k) [] h = absurd (omega arith)
drop_head (suc k) (x ∷ xs) h = drop_head k xs (omega arith)

pub head_first : (l : List ℕ) → 0 < length l → get_or l 0 0 ≡ head_or l
head_first [] h = absurd (omega arith)
head_first (x ∷ xs) h = refl

pub there_is : {A : Type 0} (l : List A) (i : ℕ) → i < length l → (a : A) × (get_elem? l i ≡ some a)
there_is [] i h = absurd (omega arith)
there_is (x ∷ xs) zero h = (x, refl)
there_is (x ∷ xs) (suc i) h = there_is xs i (omega arith)

pub long_map : {A B : Type 0} (f : A → B) (l : List A) → length (map f l) ≡ length l
long_map f [] = refl
long_map f (x ∷ xs) = ap suc (long_map f xs)
