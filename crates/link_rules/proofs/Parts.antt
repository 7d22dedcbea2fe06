-- Parts cut from a path, and joined to one.
use Rattle.std.proofs.Common.{◌≡◌, ◌<◌, ◌≤◌, ◌+◌, ℕ, zero, suc, Bool, true, false, cond, not, ◌&&◌, eqb, ltb, leb, List, [], ◌∷◌, ◌++◌, length, get_or, take, drop, None, refl, sym, ap, ◌∙◌, arith, inl, inr}
use Rattle.std.specs.List.{list_all, join_with_byte, onto_first, slice_split, AllByRecursion}
use Rattle.std.proofs.lemmas.Bool.{cases_Bool, eq-eqb, leb-true, ltb-true}
use Rattle.configfs_rows.specs.Nqns.{is_nqn}
use Rattle.link_rules.specs.Reading.{parts_of, folder_of, link_of}
use Rattle.link_rules.proofs.Numbers.{and-parts}

other : (b : ℕ) → (b ≡ 47 → ⊥) → eqb b 47 ≡ false
other b h = grind arith

pub split_first : (n : ℕ) (bytes : List ℕ) → ((k : ℕ) → k < n → get_or bytes k 0 ≡ 47 → ⊥)
    → n < length bytes → get_or bytes n 0 ≡ 47
    → parts_of bytes ≡ take n bytes ∷ parts_of (drop (n + 1) bytes)
split_first n [] none lt here = absurd (omega arith)
split_first zero (b ∷ bytes) none lt here = let e : eqb b 47 ≡ true = grind arith in rw e refl
split_first (suc n) (b ∷ bytes) none lt here =
    let e : eqb b 47 ≡ false = other b (none 0 (omega arith)) in
    let s : suc n + 1 ≡ suc (n + 1) = omega arith in
    rw (e, s, split_first n bytes (λ k h. none (suc k) (omega arith)) (omega arith) here) refl

pub split_last : (bytes : List ℕ) → ((k : ℕ) → k < length bytes → get_or bytes k 0 ≡ 47 → ⊥)
    → parts_of bytes ≡ bytes ∷ []
split_last [] none = refl
split_last (b ∷ bytes) none =
    let e : eqb b 47 ≡ false = other b (none 0 (omega arith)) in
    let rest = split_last bytes (λ k h. none (suc k) (omega arith)) in
    rw (e, rest) refl

-- a path has a part
some_part : (bytes : List ℕ) → (w : List ℕ) × (ws : List (List ℕ)) × (parts_of bytes ≡ w ∷ ws)
some_part [] = ([], [], refl)
some_part (b ∷ bytes) =
    elim (eqb b 47) as (λ t. (w : List ℕ) × (ws : List (List ℕ)) × (cond t ([] ∷ parts_of bytes)
    (onto_first b (parts_of bytes)) ≡ w ∷ ws)) [
      | true ↦ ([], parts_of bytes, refl)
      | false ↦ let s = some_part bytes in (b ∷ s.0, s.1, rw s.2 refl)
    ]

-- parts that lead nowhere: one, three, five and more
abbrev pub Nowhere : List (List ℕ) → Type 0
Nowhere parts = (folder_of parts ≡ None) × ((made : Bool) → link_of made parts ≡ None)

pub one_part : (path a : List ℕ) → parts_of path ≡ a ∷ [] → Nowhere (parts_of path)
one_part path a first = rw first (refl, λ made. refl)

pub three_parts : (path r s a b c : List ℕ) → parts_of path ≡ a ∷ parts_of r
    → parts_of r ≡ b ∷ parts_of s → parts_of s ≡ c ∷ [] → Nowhere (parts_of path)
three_parts path r s a b c first second third = rw (first, second, third) (refl, λ made. refl)

pub many_parts : (path r s t u a b c d : List ℕ) → parts_of path ≡ a ∷ parts_of r
    → parts_of r ≡ b ∷ parts_of s → parts_of s ≡ c ∷ parts_of t → parts_of t ≡ d ∷ parts_of u
    → Nowhere (parts_of path)
many_parts path r s t u a b c d first second third fourth =
    let last = some_part u in rw (first, second, third, fourth, last.2) (refl, λ made. refl)

-- ---- parts without the byte that stands between them, joined and cut again
abbrev pub Free : ℕ → List ℕ → Type 0
Free byte part = list_all (λ b. not (eqb b byte)) part ≡ true

not_it : (byte b : ℕ) → not (eqb b byte) ≡ true → eqb b byte ≡ false
not_it byte b e = elim (cases_Bool (eqb b byte)) [
  | inl t ↦ absurd (let f : not true ≡ true = rw t at e in cc)
  | inr f ↦ f
]

pub split_front : (byte : ℕ) (part rest : List ℕ) → Free byte part
    → slice_split (λ b. eqb b byte) (part ++ (byte ∷ rest))
    ≡ part ∷ slice_split (λ b. eqb b byte) rest
split_front byte [] rest s = rw (eq-eqb byte byte refl) refl
split_front byte (b ∷ part) rest s =
    let p = and-parts (not (eqb b byte)) (list_all (λ b. not (eqb b byte)) part) s in
    rw (not_it byte b p.0, split_front byte part rest p.1) refl

split_only : (byte : ℕ) (part : List ℕ) → Free byte part
    → slice_split (λ b. eqb b byte) part ≡ part ∷ []
split_only byte [] s = refl
split_only byte (b ∷ part) s =
    let p = and-parts (not (eqb b byte)) (list_all (λ b. not (eqb b byte)) part) s in
    rw (not_it byte b p.0, split_only byte part p.1) refl

pub split_joined : (byte : ℕ) (part : List ℕ) (parts : List (List ℕ)) → Free byte part
    → AllByRecursion (Free byte) parts
    → slice_split (λ b. eqb b byte) (join_with_byte byte (part ∷ parts)) ≡ part ∷ parts
split_joined byte part [] s all = split_only byte part s
split_joined byte part (next ∷ parts) s all =
    split_front byte part (join_with_byte byte (next ∷ parts)) s
    ∙ ap (λ (ws : List (List ℕ)). part ∷ ws) (split_joined byte next parts all.0 all.1)

free_append : (byte : ℕ) (xs ys : List ℕ) → Free byte xs → Free byte ys → Free byte (xs ++ ys)
free_append byte [] ys s t = t
free_append byte (b ∷ xs) ys s t =
    let p = and-parts (not (eqb b byte)) (list_all (λ b. not (eqb b byte)) xs) s in
    rw (p.0, free_append byte xs ys p.1 t) refl

-- parts that are free of a byte make a path that is free of it, but for the byte between them
pub free_joined : (byte other : ℕ) (part : List ℕ) (parts : List (List ℕ))
    → not (eqb other byte) ≡ true → Free byte part → AllByRecursion (Free byte) parts
    → Free byte (join_with_byte other (part ∷ parts))
free_joined byte other part [] ne s all = s
free_joined byte other part (next ∷ parts) ne s all =
    let rest : Free byte (other ∷ join_with_byte other (next ∷ parts)) =
    rw (ne, free_joined byte other next parts ne all.0 all.1) refl in
    free_append byte part (other ∷ join_with_byte other (next ∷ parts)) s rest

above : (byte b : ℕ) → byte < 48 → leb 48 b ≡ true → not (eqb b byte) ≡ true
above byte b low e =
    let lt : 48 ≤ b = leb-true 48 b e in
    let f : eqb b byte ≡ false = grind arith in
    rw f refl

pub digits_free : (byte : ℕ) (word : List ℕ) → byte < 48
    → list_all (λ b. leb 48 b && leb b 57) word ≡ true → Free byte word
digits_free byte [] low e = refl
digits_free byte (b ∷ word) low e =
    let p = and-parts (leb 48 b && leb b 57) (list_all (λ b. leb 48 b && leb b 57) word) e in
    let q = and-parts (leb 48 b) (leb b 57) p.0 in
    rw (above byte b low q.0, digits_free byte word low p.1) refl

over_space : (b : ℕ) → ltb 32 b ≡ true → not (eqb b 32) ≡ true
over_space b e =
    let lt : 32 < b = ltb-true 32 b e in
    let f : eqb b 32 ≡ false = grind arith in
    rw f refl

-- a name has no '/' and no space
name_bytes_free : (name : List ℕ)
    → list_all (λ b. ltb 32 b && ltb b 127 && not (eqb b 47)) name ≡ true
    → Free 47 name × Free 32 name
name_bytes_free [] e = (refl, refl)
name_bytes_free (b ∷ name) e =
    let p = and-parts (ltb 32 b && ltb b 127 && not (eqb b 47))
    (list_all (λ b. ltb 32 b && ltb b 127 && not (eqb b 47)) name) e in
    let q = and-parts (ltb 32 b && ltb b 127) (not (eqb b 47)) p.0 in
    let low = and-parts (ltb 32 b) (ltb b 127) q.0 in
    let rest = name_bytes_free name p.1 in
    (rw (q.1, rest.0) refl, rw (over_space b low.0, rest.1) refl)

pub nqn_free : (name : List ℕ) → is_nqn name ≡ true → Free 47 name × Free 32 name
unfolding is_nqn
nqn_free name e = name_bytes_free name (and-parts (ltb 0 (length name) && leb (length name) 223)
    (list_all (λ b. ltb 32 b && ltb b 127 && not (eqb b 47)) name) e).1
