-- The look of words is the look of the tree with the stamps that its target keeps.
use Rattle.std.proofs.Common.{◌≡◌, ◌≤◌, ◌<◌, max, nat_le, nat_lt, ℕ, Bool, true, false, cond, if◌then◌else◌, List, length, slice_index, refl, sym, ap, ◌∙◌, inl, inr, arith}
use Rattle.std.proofs.lemmas.List.{get_or_past}
use Rattle.mem_bdev.specs.Blocks.{Blocks}
use Rattle.sqe_cqe.specs.declared.controllers.ControllerRow.{ControllerRow}
use Rattle.sqe_cqe.specs.declared.rows.TheConstants.{MAX_NSID}
use Rattle.configfs_tree.specs.declared.configuration.Configuration.{Configuration}
use Rattle.change_stamps.specs.Stamps.{Stamps as Kept, place_of, space_stamp, ana_stamp}
use Rattle.tree_target.specs.Looked.{tree_answers}
use Rattle.ns_table.specs.Positions.{IsNsid}
use Rattle.ns_table.specs.Kept.{shape_of, HavePlaces}
use Rattle.ns_table.specs.Looked.{is_nsid, shape_answers, LookOfWordsIsTheTrees}
use Rattle.ns_table.proofs.Limits.{nsid-cases, lt-cases, if-true, if-false}
use Rattle.ns_table.proofs.Answered.{answered}

-- ---- nothing is stamped outside of the places
above : (a b : ℕ) → b < a → nat_le a b ≡ false
above a b h = grind (arith, h)

-- past the subsystems
space-past : (s : Kept) (sub n : ℕ) (h : Bool) → HavePlaces s → 16 ≤ sub
    → cond h (slice_index s.spaces (place_of sub n)) 0 ≡ 0
space-past s sub n true places past =
    let len = places.spaces in
    get_or_past s.spaces (place_of sub n) 0 (omega (arith, len, past))
space-past s sub n false places past = refl

past-nsid : (s : Kept) (sub n : ℕ) → 2048 < n → space_stamp s sub n ≡ 0
unfolding space_stamp
past-nsid s sub n h = ap (λ (b : Bool). cond b (slice_index s.spaces (place_of sub n)) 0) (above n MAX_NSID h)

past-sub : (s : Kept) (sub n : ℕ) → HavePlaces s → 16 ≤ sub → space_stamp s sub n ≡ 0
unfolding space_stamp
past-sub s sub n places h = space-past s sub n (nat_le n MAX_NSID) places h

zero-nsid : (s : Kept) (sub n : ℕ) → HavePlaces s → n ≡ 0 → space_stamp s sub n ≡ 0
zero-nsid s sub n places e = ap (λ (k : ℕ). space_stamp s sub k) e ∙ places.never sub

outside : (s : Kept) (sub n : ℕ) → HavePlaces s → (IsNsid sub n → ⊥) → space_stamp s sub n ≡ 0
outside s sub n places out =
    elim (lt-cases sub 16) [
      | inr a ↦ past-sub s sub n places a.1
      | inl a ↦ elim (lt-cases 2048 n) [
        | inl b ↦ past-nsid s sub n b.1
        | inr b ↦ elim (lt-cases 0 n) [
          | inl d ↦ absurd (out (a.1, d.1, b.1))
          | inr d ↦ zero-nsid s sub n places (let h = d.1 in omega (arith, h))
        ]
      ]
    ]

space-is : (s : Kept) (sub n : ℕ) → HavePlaces s → (if is_nsid sub n then space_stamp s sub n else 0) ≡ space_stamp s sub n
space-is s sub n places =
    elim (nsid-cases sub n) [
      | inl t ↦ if-true (is_nsid sub n) (space_stamp s sub n) 0 (space_stamp s sub n) t.0 refl
      | inr t ↦ if-false (is_nsid sub n) (space_stamp s sub n) 0 (space_stamp s sub n) t.0 (sym (outside s sub n places t.1))
    ]

clip-is : (xs : List ℕ) (k most : ℕ) → length xs ≡ most → (if nat_lt k most then slice_index xs k else 0) ≡ slice_index xs k
clip-is xs k most len =
    elim (lt-cases k most) [
      | inl t ↦ if-true (nat_lt k most) (slice_index xs k) 0 (slice_index xs k) t.0 refl
      | inr t ↦ if-false (nat_lt k most) (slice_index xs k) 0 (slice_index xs k) t.0 (sym (get_or_past xs k 0 (let h = t.1 in omega (arith, len, h))))
    ]

ana-is : (s : Kept) (sub port : ℕ) → HavePlaces s
    → max (if nat_lt sub 16 then slice_index s.subs sub else 0) (if nat_lt port 8 then slice_index s.ports port else 0) ≡ ana_stamp s sub port
unfolding ana_stamp
ana-is s sub port places =
    ap (λ (k : ℕ). max k (if nat_lt port 8 then slice_index s.ports port else 0)) (clip-is s.subs sub 16 places.subs)
    ∙ ap (λ (k : ℕ). max (slice_index s.subs sub) k) (clip-is s.ports port 8 places.ports)

shape-is : (t : Configuration) (controllers : List ControllerRow) (blocks : List Blocks) (s : Kept) → HavePlaces s
    → shape_answers (shape_of t controllers blocks s) s.serial ≡ tree_answers t controllers blocks s
shape-is t controllers blocks s places =
    let a = tree_answers t controllers blocks s in
    λ i. record {
      ready = a.ready;
      ns = a.ns;
      ana = a.ana;
      group_made = a.group_made;
      ns_stamp = λ sub n. space-is s sub n places i;
      ana_stamp = λ sub port. ana-is s sub port places i;
      ana_count = a.ana_count;
      serial = a.serial;
      bars = a.bars;
      offers = a.offers;
      marks = a.marks;
      group_count = a.group_count;
    }

pub trees : LookOfWordsIsTheTrees
trees t controllers blocks s fits places =
    answered (shape_of t controllers blocks s) s.serial fits ∙ shape-is t controllers blocks s places
