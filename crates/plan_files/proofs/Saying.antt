-- A line that says an item spells it, and a line that spells an item says it.
use Rattle.std.proofs.Common.{◌≡◌, ◌⊎◌, ◌<◌, ◌≤◌, ◌^◌, ℕ, Bool, true, false, cond, not, ◌&&◌, ◌||◌, eqb, ltb, leb, List, [], ◌∷◌, ◌++◌, length, get_or, Option, Some, None, refl, sym, ap, ◌∙◌, arith, inl, inr, lit≤}
use Rattle.std.specs.Prelude.{codes}
use Rattle.std.specs.List.{list_all, join_with_byte, AllByRecursion}
use Rattle.std.specs.Option.{option_and_then}
use Rattle.std.specs.Str.{bytes_eq}
use Rattle.std.specs.Str.Parse.{digits_value}
use Rattle.std.specs.Fmt.{decimal}
use Rattle.std.proofs.lemmas.Bool.{eqb-true, ltb-true, lt-ltb, leb-true, le-leb, cases_lt, cases_Bool}
use Rattle.std.proofs.lemmas.Option.{cond_some}
use Rattle.std.proofs.lemmas.List.Splits.{join_with_byte-slice_split}
use Rattle.std.proofs.lemmas.Slice.Eq.{bytes_eq-Decides}
use Rattle.std.proofs.lemmas.Fmt.{decimal-digits_value, decimal_nonempty, decimal_digit, first_decimal, digits_decimal, digits_value-decimal}
use Rattle.mem_bdev.specs.declared.disk.DiskLine.{DiskLine}
use Rattle.plan_files.specs.declared.items.QueueLine.{QueueLine}
use Rattle.plan_files.specs.declared.items.Item.{Item}
use Rattle.plan_files.specs.declared.items.Item.TheVariants.{Simple, Disk, Config, Script, Journal, Queue}
use Rattle.text_lines.specs.Lines.{words_of}
use Rattle.plan_files.specs.Spelling.{item_words, spelling, is_name, fits_disk, fits_queue, fits, is_numeral, number_of, if_fits, disk_of, queue_of, file_of, table_of, said_by, item_in}
use Rattle.plan_files.proofs.Wording.{own, and-parts, numeral-parts}

-- ---- tests

-- which way a test went
chosen : {A : Type 0} (b : Bool) (x y z : A) → cond b x y ≡ z → ((b ≡ true) × (x ≡ z))
    ⊎ ((b ≡ false) × (y ≡ z))
chosen true x y z e = inl (refl, e)
chosen false x y z e = inr (refl, e)

abbrev maybe : {A : Type 0} → Option A → Option A
maybe o = o

none_some : {A : Type 0} (x : A) → maybe None ≡ Some x → ⊥
none_some x e = cc

-- the value of a step that gave one
then_some : {A B : Type 0} (f : A → Option B) (o : Option A) (y : B) → option_and_then f o ≡ Some y
    → (x : A) × (o ≡ Some x) × (f x ≡ Some y)
then_some f None y e = absurd cc
then_some f (Some x) y e = (x, refl, e)

same_bytes : (xs ys : List ℕ) → bytes_eq xs ys ≡ true → xs ≡ ys
same_bytes xs ys e = (bytes_eq-Decides xs ys).0 e

-- ---- what is said was spelled

pub number_was : (word : List ℕ) (n : ℕ) → number_of word ≡ Some n → (word ≡ decimal n)
    × (n < 2 ^ 64)
unfolding number_of
number_was word n e =
    let c = cond_some (is_numeral word && ltb (digits_value 10 word) (2 ^ 64))
    (digits_value 10 word) n e in
    let p = and-parts (is_numeral word) (ltb (digits_value 10 word) (2 ^ 64)) c.0 in
    let plain = numeral-parts word p.0 in
    let small : digits_value 10 word < 2 ^ 64 = ltb-true _ _ p.1 in
    let back : decimal (digits_value 10 word) ≡ word = decimal-digits_value own word plain.digits
    plain.some plain.plain small in
    (sym back ∙ ap decimal c.1, rw (← c.1) small)

-- what is said of an item
pub record IsSaid (words : List (List ℕ)) (item : Item) : Type 0 where
  pub spelled : words ≡ item_words item
  pub fits : fits item ≡ true

if_fits_was : (said item : Item) → if_fits said ≡ Some item → (fits item ≡ true) × (said ≡ item)
if_fits_was said item e = let c = cond_some (fits said) said item e in (rw (← c.1) c.0, c.1)

disk_words : (path shift blocks : List ℕ) (s n : ℕ) → shift ≡ decimal s → blocks ≡ decimal n
    → codes "disk" ∷ path ∷ shift ∷ blocks ∷ [] ≡ codes "disk" ∷ path ∷ decimal s ∷ decimal n ∷ []
disk_words path shift blocks s n e f = rw (e, f) refl

queue_words : (port capsules responses : List ℕ) (n : ℕ) → port ≡ decimal n
    → codes "queue" ∷ port ∷ capsules ∷ responses ∷ [] ≡ codes "queue" ∷ decimal n ∷ capsules
    ∷ responses ∷ []
queue_words port capsules responses n e = rw e refl

disk_was : (path shift blocks : List ℕ) (item : Item) → disk_of path shift blocks ≡ Some item
    → IsSaid (codes "disk" ∷ path ∷ shift ∷ blocks ∷ []) item
unfolding disk_of
disk_was path shift blocks item e =
    let s = then_some
    (λ s. option_and_then (λ n. if_fits (Disk (record { path = path; shift = s; blocks = n })))
    (number_of blocks)) (number_of shift) item e in
    let n = then_some (λ n. if_fits (Disk (record { path = path; shift = s.0; blocks = n })))
    (number_of blocks) item s.2 in
    let f = if_fits_was (Disk (record { path = path; shift = s.0; blocks = n.0 })) item n.2 in
    let spelled : codes "disk" ∷ path ∷ shift ∷ blocks ∷ []
    ≡ item_words (Disk (record { path = path; shift = s.0; blocks = n.0 })) =
    disk_words path shift blocks s.0 n.0 (number_was shift s.0 s.1).0 (number_was blocks n.0 n.1).0
    in
    record { spelled = spelled ∙ ap item_words f.1; fits = f.0 }

queue_was : (port capsules responses : List ℕ) (item : Item) → queue_of port capsules responses
    ≡ Some item → IsSaid (codes "queue" ∷ port ∷ capsules ∷ responses ∷ []) item
unfolding queue_of
queue_was port capsules responses item e =
    let n = then_some
    (λ n. if_fits (Queue (record { port = n; capsules = capsules; responses = responses })))
    (number_of port) item e in
    let f = if_fits_was (Queue (record { port = n.0; capsules = capsules; responses = responses }))
    item n.2 in
    let spelled : codes "queue" ∷ port ∷ capsules ∷ responses ∷ []
    ≡ item_words (Queue (record { port = n.0; capsules = capsules; responses = responses })) =
    queue_words port capsules responses n.0 (number_was port n.0 n.1).0 in
    record { spelled = spelled ∙ ap item_words f.1; fits = f.0 }

file_was : (kind name : List ℕ) (item : Item) → file_of kind name ≡ Some item
    → IsSaid (kind ∷ name ∷ []) item
unfolding file_of
file_was kind name item e =
    elim (chosen (bytes_eq kind (codes "config")) _ _ (Some item) e) [
      | inl c ↦ let f = if_fits_was (Config name) item c.1 in
          record {
            spelled = rw (same_bytes kind (codes "config") c.0) (ap item_words f.1);
            fits = f.0;
          }
      | inr c ↦ elim (chosen (bytes_eq kind (codes "script")) _ _ (Some item) c.1) [
        | inl s ↦ let f = if_fits_was (Script name) item s.1 in
            record {
              spelled = rw (same_bytes kind (codes "script") s.0) (ap item_words f.1);
              fits = f.0;
            }
        | inr s ↦ elim (chosen (bytes_eq kind (codes "journal")) _ _ (Some item) s.1) [
          | inl j ↦ let f = if_fits_was (Journal name) item j.1 in
              record {
                spelled = rw (same_bytes kind (codes "journal") j.0) (ap item_words f.1);
                fits = f.0;
              }
          | inr j ↦ absurd (none_some item j.1)
        ]
      ]
    ]

table_was : (kind first second third : List ℕ) (item : Item) → table_of kind first second third
    ≡ Some item → IsSaid (kind ∷ first ∷ second ∷ third ∷ []) item
unfolding table_of
table_was kind first second third item e =
    elim (chosen (bytes_eq kind (codes "disk")) _ _ (Some item) e) [
      | inl d ↦ rw (same_bytes kind (codes "disk") d.0) (disk_was first second third item d.1)
      | inr d ↦ elim (chosen (bytes_eq kind (codes "queue")) _ _ (Some item) d.1) [
        | inl q ↦ rw (same_bytes kind (codes "queue") q.0) (queue_was first second third item q.1)
        | inr q ↦ absurd (none_some item q.1)
      ]
    ]

said_was : (words : List (List ℕ)) (item : Item) → said_by words ≡ Some item → IsSaid words item
said_was [] item e = absurd (none_some item e)
said_was (kind ∷ []) item e =
    let c = cond_some (bytes_eq kind (codes "simple")) Simple item e in
    record {
      spelled = rw (same_bytes kind (codes "simple") c.0) (ap item_words c.1);
      fits = rw (← c.1) refl;
    }
said_was (kind ∷ name ∷ []) item e = file_was kind name item e
said_was (kind ∷ first ∷ second ∷ []) item e = absurd (none_some item e)
said_was (kind ∷ first ∷ second ∷ third ∷ []) item e = table_was kind first second third item e
said_was (kind ∷ first ∷ second ∷ third ∷ more ∷ rest) item e = absurd (none_some item e)

pub item_was : (line : List ℕ) (item : Item) → item_in line ≡ Some item → (line ≡ spelling item)
    × (fits item ≡ true)
item_was line item e =
    let s = said_was (words_of line) item e in (
      sym (join_with_byte-slice_split 32 line) ∙ ap (λ (ws : List (List ℕ)). join_with_byte 32 ws)
          s.spelled,
      s.fits,
    )

-- ---- what is spelled is said

abbrev Spaceless : List ℕ → Type 0
Spaceless word = list_all (λ b. not (eqb b 32)) word ≡ true

no_space : (b : ℕ) → not (eqb b 32) ≡ true → eqb b 32 ≡ false
no_space b e = elim (cases_Bool (eqb b 32)) [
  | inl t ↦ absurd (let f : not true ≡ true = rw t at e in
      cc)
  | inr f ↦ f
]

words-front : (word rest : List ℕ) → Spaceless word → words_of (word ++ (32 ∷ rest)) ≡ word
    ∷ words_of rest
words-front [] rest s = refl
words-front (b ∷ word) rest s =
    let p = and-parts (not (eqb b 32)) (list_all (λ b. not (eqb b 32)) word) s in
    rw (no_space b p.0, words-front word rest p.1) refl

words-only : (word : List ℕ) → Spaceless word → words_of word ≡ word ∷ []
words-only [] s = refl
words-only (b ∷ word) s =
    let p = and-parts (not (eqb b 32)) (list_all (λ b. not (eqb b 32)) word) s in
    rw (no_space b p.0, words-only word p.1) refl

words-joined : (word : List ℕ) (words : List (List ℕ)) → Spaceless word
    → AllByRecursion Spaceless words → words_of (join_with_byte 32 (word ∷ words)) ≡ word ∷ words
words-joined word [] s all = words-only word s
words-joined word (next ∷ words) s all =
    words-front word (join_with_byte 32 (next ∷ words)) s
    ∙ ap (λ (ws : List (List ℕ)). word ∷ ws) (words-joined next words all.0 all.1)

above : (low b : ℕ) → 33 ≤ low → leb low b ≡ true → not (eqb b 32) ≡ true
above low b h e = let lt : low ≤ b = leb-true low b e in let f : eqb b 32 ≡ false = grind arith in
    rw f refl

spaceless : (low high : ℕ) (word : List ℕ) → 33 ≤ low → list_all (λ b. leb low b && leb b high) word
    ≡ true → Spaceless word
spaceless low high [] h e = refl
spaceless low high (b ∷ word) h e =
    let p = and-parts (leb low b && leb b high) (list_all (λ b. leb low b && leb b high) word) e in
    let q = and-parts (leb low b) (leb b high) p.0 in
    rw (above low b h q.0, spaceless low high word h p.1) refl

name_spaceless : (name : List ℕ) → is_name name ≡ true → Spaceless name
unfolding is_name
name_spaceless name e =
    let p = and-parts (leb 1 (length name) && leb (length name) 255) (list_all (λ b. leb 33 b
    && leb b 126) name) e in
    spaceless 33 126 name (lit≤ tt) p.1

number_spaceless : (n : ℕ) → n < 2 ^ 64 → Spaceless (decimal n)
number_spaceless n h = spaceless 48 57 (decimal n) (lit≤ tt) (digits_decimal own n h)

or-true : (b : Bool) → (b || true) ≡ true
or-true true = refl
or-true false = refl

plain_again : (n : ℕ) → n < 2 ^ 64 → (eqb (length (decimal n)) 1
    || not (eqb (get_or (decimal n) 0 0) 48)) ≡ true
plain_again n h =
    elim (cases_lt n 10) [
      | inl few ↦ rw (decimal_digit n few) refl
      | inr more ↦
          let first : 48 < get_or (decimal n) 0 0 = first_decimal n (omega arith) h in
          let other : eqb (get_or (decimal n) 0 0) 48 ≡ false = grind arith in
          rw other (or-true (eqb (length (decimal n)) 1))
    ]

number_again : (n : ℕ) → n < 2 ^ 64 → number_of (decimal n) ≡ Some n
unfolding number_of is_numeral
number_again n h =
    let some : leb 1 (length (decimal n)) ≡ true =
    le-leb 1 (length (decimal n)) (decimal_nonempty n h) in
    let value : digits_value 10 (decimal n) ≡ n = digits_value-decimal own n h in
    rw (some, plain_again n h, digits_decimal own n h, value, lt-ltb n (2 ^ 64) h) refl

either_small : (s : ℕ) → (eqb s 9 || eqb s 12) ≡ true → s < 2 ^ 64
either_small s e =
    elim (cases_Bool (eqb s 9)) [
      | inl nine ↦ let is : s ≡ 9 = eqb-true s 9 nine in omega arith
      | inr other ↦ let f : (false || eqb s 12) ≡ true = rw other at e in let is : s ≡ 12 =
          eqb-true s 12 f in omega arith
    ]

-- the parts of a disk that fits
pub record DiskFits (d : DiskLine) : Type 0 where
  pub path : is_name d.path ≡ true
  pub shift : d.shift < 2 ^ 64
  pub blocks : d.blocks < 2 ^ 64

disk-parts : (d : DiskLine) → fits_disk d ≡ true → DiskFits d
unfolding fits_disk
disk-parts d e =
    let p = and-parts (is_name d.path && (eqb d.shift 9 || eqb d.shift 12) && leb 1 d.blocks)
    (ltb d.blocks (2 ^ 52)) e in
    let q = and-parts (is_name d.path && (eqb d.shift 9 || eqb d.shift 12)) (leb 1 d.blocks) p.0 in
    let r = and-parts (is_name d.path) (eqb d.shift 9 || eqb d.shift 12) q.0 in
    let small : d.blocks < 2 ^ 52 = ltb-true _ _ p.1 in
    record { path = r.0; shift = either_small d.shift r.1; blocks = omega arith }

pub record QueueFits (q : QueueLine) : Type 0 where
  pub port : q.port < 2 ^ 64
  pub capsules : is_name q.capsules ≡ true
  pub responses : is_name q.responses ≡ true

queue-parts : (q : QueueLine) → fits_queue q ≡ true → QueueFits q
unfolding fits_queue
queue-parts q e =
    let p = and-parts (ltb q.port 65536 && is_name q.capsules) (is_name q.responses) e in
    let r = and-parts (ltb q.port 65536) (is_name q.capsules) p.0 in
    let small : q.port < 65536 = ltb-true _ _ r.0 in
    record { port = omega arith; capsules = r.1; responses = p.1 }

item_words_again : (item : Item) → fits item ≡ true → words_of (spelling item) ≡ item_words item
item_words_again Simple fit = refl
item_words_again (Disk d) fit =
    let p = disk-parts d fit in
    words-joined (codes "disk") (d.path ∷ decimal d.shift ∷ decimal d.blocks ∷ []) refl (
      name_spaceless d.path p.path,
      (
        number_spaceless d.shift p.shift,
        (number_spaceless d.blocks p.blocks, tt),
      ),
    )
item_words_again (Config name) fit = words-joined (codes "config") (name ∷ []) refl
    (name_spaceless name fit, tt)
item_words_again (Script name) fit = words-joined (codes "script") (name ∷ []) refl
    (name_spaceless name fit, tt)
item_words_again (Journal name) fit = words-joined (codes "journal") (name ∷ []) refl
    (name_spaceless name fit, tt)
item_words_again (Queue q) fit =
    let p = queue-parts q fit in
    words-joined (codes "queue") (decimal q.port ∷ q.capsules ∷ q.responses ∷ []) refl (
      number_spaceless q.port p.port,
      (
        name_spaceless q.capsules p.capsules,
        (name_spaceless q.responses p.responses, tt),
      ),
    )

said_again : (item : Item) → fits item ≡ true → said_by (item_words item) ≡ Some item
unfolding file_of table_of disk_of queue_of
said_again Simple fit = refl
said_again (Disk d) fit = let p = disk-parts d fit in rw (
  number_again d.shift p.shift,
  number_again d.blocks p.blocks,
  fit,
) refl
said_again (Config name) fit = rw fit refl
said_again (Script name) fit = rw fit refl
said_again (Journal name) fit = rw fit refl
said_again (Queue q) fit = let p = queue-parts q fit in rw (number_again q.port p.port, fit) refl

pub item_read : (line : List ℕ) (item : Item) → line ≡ spelling item → fits item ≡ true
    → item_in line ≡ Some item
item_read line item e fit = rw (e, item_words_again item fit) (said_again item fit)
