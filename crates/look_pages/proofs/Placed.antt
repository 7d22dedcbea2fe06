-- What stands in a page after fields were put.
use Rattle.std.proofs.Common.{◌≡◌, ◌⊎◌, inl, inr, ℕ, ◌+◌, ◌-◌, ◌≤◌, ◌<◌, List, [], ◌∷◌, ◌++◌, length, take, drop, get_or, replicate, refl, sym, ◌∙◌, ap, arith, length-append, length-drop}
use Rattle.std.proofs.lemmas.Grind.{common_steps}
use Rattle.std.proofs.lemmas.List.{get_or-append_right, get_or_append_left, get_or_past, length-take-le, get_or-drop, get_or-take}
use Rattle.std.specs.List.{AllByRecursion}
use Rattle.look_pages.specs.Pages.{put_at, zeros}
use Rattle.look_pages.specs.Tables.{Field, with_fields, page_of, IsApart, StandsIn, IsOutside, FieldsStand, RestIsZero, PageKeepsItsSize}
use Rattle.look_pages.proofs.Parts.{zero_at}
use Rattle.look_pages.proofs.Walks.{length-zeros}

pub length-put_at : (at : ℕ) (bytes page : List ℕ) → at + length bytes ≤ length page → length (put_at at bytes page) ≡ length page
unfolding put_at
length-put_at at bytes page fits =
    omega (arith, length-append (take at page) (bytes ++ drop (at + length bytes) page), length-append bytes (drop (at + length bytes) page), length-drop (at + length bytes) page, length-take-le at page (omega arith))

-- a byte of what was put
pub put_at-here : (at : ℕ) (bytes page : List ℕ) (i : ℕ) → at + length bytes ≤ length page → i < length bytes → get_or (put_at at bytes page) (at + i) 0 ≡ get_or bytes i 0
unfolding put_at
put_at-here at bytes page i fits low =
    let front = length-take-le at page (omega arith) in
    let back : at + i - at ≡ i = omega arith in
    get_or-append_right (take at page) (bytes ++ drop (at + length bytes) page) at (at + i) 0 front (omega arith)
    ∙ rw back (get_or_append_left bytes (drop (at + length bytes) page) 0 i low)

-- a byte before it
pub put_at-before : (at : ℕ) (bytes page : List ℕ) (k : ℕ) → at + length bytes ≤ length page → k < at → get_or (put_at at bytes page) k 0 ≡ get_or page k 0
unfolding put_at
put_at-before at bytes page k fits low =
    get_or_append_left (take at page) (bytes ++ drop (at + length bytes) page) 0 k (omega (arith, length-take-le at page (omega arith)))
    ∙ get_or-take at page k 0 low

-- a byte after it
pub put_at-after : (at : ℕ) (bytes page : List ℕ) (k : ℕ) → at + length bytes ≤ length page → at + length bytes ≤ k → get_or (put_at at bytes page) k 0 ≡ get_or page k 0
unfolding put_at
put_at-after at bytes page k fits high =
    let front = length-take-le at page (omega arith) in
    let same : at + length bytes + (k - at - length bytes) ≡ k = omega arith in
    get_or-append_right (take at page) (bytes ++ drop (at + length bytes) page) at k 0 front (omega arith)
    ∙ get_or-append_right bytes (drop (at + length bytes) page) (length bytes) (k - at) 0 refl (omega arith)
    ∙ get_or-drop (at + length bytes) page (k - at - length bytes) 0
    ∙ ap (λ j. get_or page j 0) same

-- a table that begins within the page
begins_within : (at size : ℕ) (fields : List Field) → IsApart at size fields → at ≤ size
begins_within at size [] apart = apart
begins_within at size (f ∷ fields) apart = omega (arith, apart.0, begins_within (f.offset + f.size) size fields apart.2)

fits_within : (at size : ℕ) (f : Field) (fields : List Field) (page : List ℕ) → IsApart at size (f ∷ fields) → length page ≡ size → f.offset + length f.bytes ≤ length page
fits_within at size f fields page apart len = omega (arith, apart.1, len, begins_within (f.offset + f.size) size fields apart.2)

length_kept : (at size : ℕ) (fields : List Field) (page : List ℕ) → IsApart at size fields → length page ≡ size → length (with_fields fields page) ≡ size
length_kept at size [] page apart len = len
length_kept at size (f ∷ fields) page apart len =
    length_kept (f.offset + f.size) size fields (put_at f.offset f.bytes page) apart.2
    (length-put_at f.offset f.bytes page (fits_within at size f fields page apart len) ∙ len)

-- what stands before all fields of a table stays
before_all : (at size : ℕ) (fields : List Field) (page : List ℕ) (k : ℕ) → IsApart at size fields → length page ≡ size → k < at → get_or (with_fields fields page) k 0 ≡ get_or page k 0
before_all at size [] page k apart len low = refl
before_all at size (f ∷ fields) page k apart len low =
    let fits = fits_within at size f fields page apart len in
    before_all (f.offset + f.size) size fields (put_at f.offset f.bytes page) k apart.2 (length-put_at f.offset f.bytes page fits ∙ len) (omega (arith, apart.0, low))
    ∙ put_at-before f.offset f.bytes page k fits (omega (arith, apart.0, low))

all_stand : (at size : ℕ) (fields : List Field) (page : List ℕ) → IsApart at size fields → length page ≡ size → AllByRecursion (StandsIn (with_fields fields page)) fields
all_stand at size [] page apart len = tt
all_stand at size (f ∷ fields) page apart len =
    let fits = fits_within at size f fields page apart len in
    let long = length-put_at f.offset f.bytes page fits ∙ len in (
      (λ i low.
          before_all (f.offset + f.size) size fields (put_at f.offset f.bytes page) (f.offset + i) apart.2 long (omega (arith, low))
          ∙ put_at-here f.offset f.bytes page i fits (omega (arith, apart.1, low))),
      all_stand (f.offset + f.size) size fields (put_at f.offset f.bytes page) apart.2 long,
    )

uncovered : (at size : ℕ) (fields : List Field) (page : List ℕ) (k : ℕ) → IsApart at size fields → length page ≡ size → AllByRecursion (IsOutside k) fields → get_or (with_fields fields page) k 0 ≡ get_or page k 0
uncovered at size [] page k apart len out = refl
uncovered at size (f ∷ fields) page k apart len out =
    let fits = fits_within at size f fields page apart len in
    uncovered (f.offset + f.size) size fields (put_at f.offset f.bytes page) k apart.2 (length-put_at f.offset f.bytes page fits ∙ len) out.1
    ∙ elim out.0 [
      | inl before ↦ put_at-before f.offset f.bytes page k fits before
      | inr after ↦ put_at-after f.offset f.bytes page k fits (omega (arith, apart.1, after))
    ]

pub fields_stand : FieldsStand
fields_stand size fields apart = all_stand 0 size fields (zeros size) apart (length-zeros size)

pub rest_is_zero : RestIsZero
rest_is_zero size fields k apart out = uncovered 0 size fields (zeros size) k apart (length-zeros size) out ∙ zero_at size k

pub page_keeps_its_size : PageKeepsItsSize
page_keeps_its_size size fields apart = length_kept 0 size fields (zeros size) apart (length-zeros size)
