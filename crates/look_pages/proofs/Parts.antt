-- Parts of a page from an offset on.
use Rattle.std.proofs.Common.{◌≡◌, ◌≢◌, ◌⊎◌, inl, inr, ℕ, zero, suc, ◌+◌, ◌-◌, ◌≤◌, ◌<◌, List, [], ◌∷◌, ◌++◌, length, take, drop, set, get_or, replicate, map, refl, sym, ◌∙◌, ap, subst, arith, append_assoc, length-append, get_or-set_other, get_or-set_same, length-set}
use Rattle.std.proofs.lemmas.Grind.{common_steps}
use Rattle.std.proofs.lemmas.List.{get_or-append_right, get_or_append_left, get_or_past, append-nil, take_more, length-take, get_or-replicate, length-replicate, ext_get_or}
use Rattle.std.proofs.lemmas.List.FromFn.{get_or-map-range_with_len, length-map-range_with_len}
use Rattle.std.specs.List.{range_with_len}
use Rattle.std.proofs.Math.Seq.{get_or-append_seam}
use Rattle.look_pages.specs.Pages.{zeros, filled, window, Shows, Emits}

pub emits_none : (offset at : ℕ) (to : List ℕ) → Emits offset at to to []
emits_none offset at to = record { shows = λ done len shows. subst (λ (d : List ℕ). Shows offset to d) (sym (append-nil done)) shows }

-- one part after another
pub emits_both : (offset at : ℕ) (a b c xs ys : List ℕ) → Emits offset at a b xs → Emits offset (at + length xs) b c ys → Emits offset at a c (xs ++ ys)
emits_both offset at a b c xs ys first then = record {
  shows = λ done len shows.
      subst (λ (d : List ℕ). Shows offset c d) (append_assoc done xs ys)
      (then.shows (done ++ xs) (omega (arith, length-append done xs, len)) (first.shows done len shows));
}

-- which byte of the part stands at the end of what was done
emits_at : (offset : ℕ) (to new done : List ℕ) (x : ℕ) → Shows offset to done → length new ≡ length to
    → ((k : ℕ) → k < length to → offset + k ≡ length done → get_or new k 0 ≡ x)
    → ((k : ℕ) → k < length to → offset + k ≢ length done → get_or new k 0 ≡ get_or to k 0)
    → Shows offset new (done ++ x ∷ [])
emits_at offset to new done x shows same here other = record {
  here = λ k low.
      elim (place k) [
        | inl before ↦ other k (omega arith) (omega arith) ∙ shows.here k (omega arith) ∙ sym (get_or_append_left done (x ∷ []) 0 (offset + k) before)
        | inr (inl at) ↦ here k (omega arith) at ∙ sym (rw at (get_or-append_seam done x [] 0))
        | inr (inr after) ↦ other k (omega arith) (omega arith) ∙ shows.here k (omega arith) ∙ get_or_past done (offset + k) 0 (omega arith)
            ∙ sym (get_or_past (done ++ x ∷ []) (offset + k) 0 (omega (arith, length-append done (x ∷ []))))
      ];
}
  where
    place : (k : ℕ) → (offset + k < length done) ⊎ ((offset + k ≡ length done) ⊎ (length done < offset + k))
    place k = grind arith

-- a byte outside the part
pub emits_outside : (offset at : ℕ) (to : List ℕ) (x : ℕ) → (at < offset) ⊎ (length to ≤ at - offset) → Emits offset at to to (x ∷ [])
emits_outside offset at to x out = record {
  shows = λ done len shows.
      emits_at offset to to done x shows refl
      (λ k low e. absurd (elim out [ inl a ↦ omega arith | inr b ↦ omega arith ]))
      (λ k low ne. refl);
}

-- a byte inside it
pub emits_inside : (offset at : ℕ) (to : List ℕ) (x : ℕ) → offset ≤ at → at - offset < length to → Emits offset at to (set to (at - offset) x) (x ∷ [])
emits_inside offset at to x low high = record {
  shows = λ done len shows.
      emits_at offset to (set to (at - offset) x) done x shows (length-set to (at - offset) x)
      (λ k small e. let same : k ≡ at - offset = omega arith in rw same (get_or-set_same to (at - offset) x 0 high))
      (λ k small ne. let apart : k ≢ at - offset = omega arith in get_or-set_other to (at - offset) k x 0 apart);
}

-- one byte more of those that are added
pub emits_more : (offset at i : ℕ) (a b c bytes : List ℕ) → i < length bytes → Emits offset at a b (take i bytes) → Emits offset (at + i) b c (get_or bytes i 0 ∷ []) → Emits offset at a c (take (i + 1) bytes)
emits_more offset at i a b c bytes low first then =
    let len : length (take i bytes) ≡ i = omega (arith, length-take i bytes) in
    let one : Emits offset (at + length (take i bytes)) b c (get_or bytes i 0 ∷ []) = rw len then in
    subst (λ (d : List ℕ). Emits offset at a c d) (sym (take_more bytes i 0 low)) (emits_both offset at a b c (take i bytes) (get_or bytes i 0 ∷ []) first one)

zeros_show : (offset n : ℕ) → Shows offset (zeros n) []
unfolding zeros
zeros_show offset n = record {
  here = λ k low.
      let small : k < n = omega (arith, length-replicate {A = ℕ} n 0, low) in
      get_or-replicate n k 0 0 small ∙ sym (get_or_past [] (offset + k) 0 (omega arith));
}

shown_window : (offset n : ℕ) (to bytes : List ℕ) → length to ≡ n → Shows offset to bytes → to ≡ window offset n bytes
unfolding window
shown_window offset n to bytes len shows =
    ext_get_or 0 to (window offset n bytes) (len ∙ sym (length-map-range_with_len (λ (i : ℕ). get_or bytes i 0) offset n))
    (λ i low. shows.here i low ∙ sym (get_or-map-range_with_len (λ (j : ℕ). get_or bytes j 0) offset n i (offset + i) 0 (omega arith) refl))

-- bytes that were added from the start over zeros: the part of the page
pub written : (offset n : ℕ) (to bytes : List ℕ) → length to ≡ n → Emits offset 0 (zeros n) to bytes → to ≡ window offset n bytes
written offset n to bytes len emits = shown_window offset n to bytes len (emits.shows [] refl (zeros_show offset n))

cut : (i k : ℕ) → (i < k) ⊎ (k ≤ i)
cut i k = grind arith

pub zero_at : (k i : ℕ) → get_or (zeros k) i 0 ≡ 0
unfolding zeros
zero_at k i = elim (cut i k) [
  | inl low ↦ get_or-replicate k i 0 0 low
  | inr high ↦ get_or_past (replicate k 0) i 0 (omega (arith, length-replicate {A = ℕ} k 0, high))
]

-- zeros after bytes are read past their end too
pub get_or-filled : (size : ℕ) (bytes : List ℕ) (i : ℕ) → get_or (filled size bytes) i 0 ≡ get_or bytes i 0
unfolding filled
get_or-filled size bytes i = elim (cut i (length bytes)) [
  | inl low ↦ get_or_append_left bytes (zeros (size - length bytes)) 0 i low
  | inr high ↦ get_or-append_right bytes (zeros (size - length bytes)) (length bytes) i 0 refl high ∙ zero_at (size - length bytes) (i - length bytes) ∙ sym (get_or_past bytes i 0 high)
]

-- the same where a page is filled up with zeros
pub written_filled : (offset n size : ℕ) (to bytes : List ℕ) → length to ≡ n → Emits offset 0 (zeros n) to bytes → to ≡ window offset n (filled size bytes)
written_filled offset n size to bytes len emits =
    let shows = emits.shows [] refl (zeros_show offset n) in
    shown_window offset n to (filled size bytes) len (record { here = λ k low. shows.here k low ∙ sym (get_or-filled size bytes (offset + k)) })

-- all of a page is the page
pub window-all : (page : List ℕ) (n : ℕ) → length page ≡ n → window 0 n page ≡ page
unfolding window
window-all page n len =
    ext_get_or 0 (map (λ i. get_or page i 0) (range_with_len 0 n)) page (length-map-range_with_len (λ (i : ℕ). get_or page i 0) 0 n ∙ sym len)
    (λ i low. get_or-map-range_with_len (λ (j : ℕ). get_or page j 0) 0 n i i 0 (omega (arith, low, length-map-range_with_len (λ (j : ℕ). get_or page j 0) 0 n)) (omega arith))

pub window_all : (page : List ℕ) (n : ℕ) → length page ≡ n → window 0 n page ≡ page
window_all page n len = window-all page n len
