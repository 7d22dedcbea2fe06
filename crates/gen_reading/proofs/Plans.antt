-- A generated plan is read.
use Rattle.std.proofs.Common.{◌≡◌, ◌≤◌, ℕ, true, false, ◌&&◌, ltb, leb, List, [], ◌∷◌, ◌++◌, length, map, Ok, refl, sym, ap, ◌∙◌, append_assoc, arith, length-append, inl, inr}
use Rattle.std.specs.Prelude.{codes}
use Rattle.std.specs.Char.{is_ascii_graphic}
use Rattle.std.specs.Fmt.{digits}
use Rattle.std.specs.List.{AllByRecursion, list_all}
use Rattle.std.specs.Str.{bytes_eq}
use Rattle.std.proofs.lemmas.Bool.{and_parts, eq-eqb, le-leb, leb-true}
use Rattle.std.proofs.lemmas.Bool.Decides.{nat_tests}
use Rattle.std.proofs.lemmas.List.{append-nil}
use Rattle.std.proofs.lemmas.List.Folds.{list_all-append}
use Rattle.text_lines.specs.Lines.{is_passed_over}
use Rattle.plan_files.specs.declared.items.Item.{Item}
use Rattle.plan_files.specs.declared.items.Item.TheVariants.{Disk, Config, Script, Journal, Queue}
use Rattle.plan_files.specs.declared.items.Plan.{Plan}
use Rattle.plan_files.specs.declared.line_items.TheConstants.{MAX_NAME}
use Rattle.plan_files.specs.Spelling.{spelling, fits, fits_disk, fits_queue, is_name}
use Rattle.plan_files.specs.Plans.{Makes, IsAllowed, no_plan, with_item, is_new, is_free, agrees, item_bytes, is_complete}
use Rattle.plan_files.specs.PlanReading.{plan_in}
use Rattle.plan_files.proofs.PlanLaws.{plan_is_read}
use Rattle.response_files.proofs.Rows.{IsLine, ended, rows_cut}
use Rattle.response_files.proofs.Saying.{AllAbove, above_append}
use Rattle.gen_files.specs.Seeds.{is_base_name}
use Rattle.gen_files.specs.Texts.{disk_lines, file_lines, named_line, plan_text, queue_line, queue_lines}
use Rattle.gen_reading.specs.Plans.{first_disk, second_disk, queue_of, items_of, plan_of}

-- ---- names

-- names that begin alike differ where their endings do
same_front : (name a b : List ℕ) → bytes_eq (name ++ a) (name ++ b) ≡ bytes_eq a b
same_front [] a b = refl
same_front (x ∷ name) a b = rw (eq-eqb x x refl) (same_front name a b)

-- a name that the endings of the files fit behind
record IsBase (name : List ℕ) : Type 0 where
  pub some : 1 ≤ length name
  pub few : length name ≤ 200
  pub graphic : list_all is_ascii_graphic name ≡ true

base_of : (name : List ℕ) → is_base_name name ≡ true → IsBase name
unfolding is_base_name is_name
base_of name e =
    let p = and_parts (leb 1 (length name) && leb (length name) MAX_NAME
    && list_all is_ascii_graphic name) (leb (length name) 200) e in
    let q = and_parts (leb 1 (length name) && leb (length name) MAX_NAME)
    (list_all is_ascii_graphic name) p.0 in
    let r = and_parts (leb 1 (length name)) (leb (length name) MAX_NAME) q.0 in
    record {
      some = leb-true 1 (length name) r.0;
      few = leb-true (length name) 200 p.1;
      graphic = q.1;
    }

is_named : (name end : List ℕ) → IsBase name → length end ≤ 55
    → list_all is_ascii_graphic end ≡ true → is_name (name ++ end) ≡ true
unfolding is_name
is_named name end b short g =
    let len = length-append name end in
    rw (
      le-leb 1 (length (name ++ end)) (omega (arith, len, b.some)),
      le-leb (length (name ++ end)) 255 (omega (arith, len, b.few, short)),
      list_all-append is_ascii_graphic name end,
      b.graphic,
      g,
    ) refl

graphic_above : (b : ℕ) → is_ascii_graphic b ≡ true → ltb 10 b ≡ true
graphic_above b e = grind (arith, nat_tests)

above : (name : List ℕ) → list_all is_ascii_graphic name ≡ true → AllAbove 10 name
above [] g = refl
above (b ∷ name) g =
    let p = and_parts (is_ascii_graphic b) (list_all is_ascii_graphic name) g in
    rw (graphic_above b p.0) (above name p.1)

-- ---- the lines

pub line_is : (b : ℕ) (row : List ℕ) → AllAbove 10 (b ∷ row) → IsLine (b ∷ row)
line_is b row s = record { some = omega arith; above = s }

file_above : (name end : List ℕ) → IsBase name → AllAbove 10 end → AllAbove 10 (name ++ end)
file_above name end b e = above_append 10 name end (above name b.graphic) e

queue_above : (name capsules responses : List ℕ) → IsBase name → AllAbove 10 capsules
    → AllAbove 10 responses
    → AllAbove 10 ((name ++ capsules) ++ (32 ∷ (name ++ responses)))
queue_above name capsules responses b c r = above_append 10 (name ++ capsules)
    (32 ∷ (name ++ responses)) (file_above name capsules b c) (file_above name responses b r)

abbrev rows_of : List ℕ → List (List ℕ)
rows_of name = codes "nvmet-plan 1" ∷ map spelling (items_of name)

named_is : (name end : List ℕ) → name ++ (end ++ 10 ∷ []) ≡ (name ++ end) ++ 10 ∷ []
named_is name end = sym (append_assoc name end (10 ∷ []))

config_is : (name : List ℕ) → named_line (codes "config ") name (codes ".json\n")
    ≡ spelling (Config (name ++ codes ".json")) ++ 10 ∷ []
unfolding named_line
config_is name = ap (λ (l : List ℕ). codes "config " ++ l) (named_is name (codes ".json"))

script_is : (name : List ℕ) → named_line (codes "script ") name (codes ".script\n")
    ≡ spelling (Script (name ++ codes ".script")) ++ 10 ∷ []
unfolding named_line
script_is name = ap (λ (l : List ℕ). codes "script " ++ l) (named_is name (codes ".script"))

journal_is : (name : List ℕ) → named_line (codes "journal ") name (codes ".journal\n")
    ≡ spelling (Journal (name ++ codes ".journal")) ++ 10 ∷ []
unfolding named_line
journal_is name = ap (λ (l : List ℕ). codes "journal " ++ l) (named_is name (codes ".journal"))

grouped : (n a b c d e f : List ℕ) → n ++ a ++ b ++ c ++ n ++ d ++ e ++ f
    ≡ ((n ++ (a ++ b)) ++ (c ++ (n ++ (d ++ e)))) ++ f
grouped n a b c d e f = simp append_assoc refl

first_is : (name : List ℕ) → queue_line name (codes "1")
    ≡ spelling (Queue (queue_of name (codes ".q1") (codes ".r1"))) ++ 10 ∷ []
unfolding queue_line digits
first_is name = ap (λ (l : List ℕ). codes "queue 1 " ++ l)
    (grouped name (codes ".q") (codes "1") (codes " ") (codes ".r") (codes "1") (codes "\n"))

second_is : (name : List ℕ) → queue_line name (codes "2")
    ≡ spelling (Queue (queue_of name (codes ".q2") (codes ".r2"))) ++ 10 ∷ []
unfolding queue_line digits
second_is name = ap (λ (l : List ℕ). codes "queue 1 " ++ l)
    (grouped name (codes ".q") (codes "2") (codes " ") (codes ".r") (codes "2") (codes "\n"))

third_is : (name : List ℕ) → queue_line name (codes "3")
    ≡ spelling (Queue (queue_of name (codes ".q3") (codes ".r3"))) ++ 10 ∷ []
unfolding queue_line digits
third_is name = ap (λ (l : List ℕ). codes "queue 1 " ++ l)
    (grouped name (codes ".q") (codes "3") (codes " ") (codes ".r") (codes "3") (codes "\n"))

last_is : (name : List ℕ) → queue_line name (codes "4")
    ≡ spelling (Queue (queue_of name (codes ".q4") (codes ".r4"))) ++ 10 ∷ []
unfolding queue_line digits
last_is name = ap (λ (l : List ℕ). codes "queue 1 " ++ l)
    (grouped name (codes ".q") (codes "4") (codes " ") (codes ".r") (codes "4") (codes "\n"))

one_by_one : (d f g h q r s t : List ℕ) → d ++ (f ++ g ++ h) ++ (q ++ r ++ s ++ t)
    ≡ d ++ (f ++ (g ++ (h ++ (q ++ (r ++ (s ++ (t ++ [])))))))
one_by_one d f g h q r s t = simp (append_assoc, append-nil) refl

disks_are : (more : List ℕ) → disk_lines ++ more
    ≡ (codes "nvmet-plan 1" ++ 10 ∷ []) ++ ((spelling (Disk first_disk) ++ 10 ∷ [])
    ++ ((spelling (Disk second_disk) ++ 10 ∷ []) ++ more))
unfolding disk_lines digits
disks_are more = refl

joined : (f g h q r s t : List ℕ) → disk_lines ++ (f ++ g ++ h) ++ (q ++ r ++ s ++ t)
    ≡ (codes "nvmet-plan 1" ++ 10 ∷ []) ++ ((spelling (Disk first_disk) ++ 10 ∷ [])
    ++ ((spelling (Disk second_disk) ++ 10 ∷ [])
    ++ (f ++ (g ++ (h ++ (q ++ (r ++ (s ++ (t ++ [])))))))))
joined f g h q r s t = one_by_one disk_lines f g h q r s t
    ∙ disks_are (f ++ (g ++ (h ++ (q ++ (r ++ (s ++ (t ++ [])))))))

text_is : (name : List ℕ) → plan_text name ≡ ended (rows_of name)
unfolding plan_text file_lines queue_lines
text_is name = joined (named_line (codes "config ") name (codes ".json\n"))
    (named_line (codes "script ") name (codes ".script\n"))
    (named_line (codes "journal ") name (codes ".journal\n")) (queue_line name (codes "1"))
    (queue_line name (codes "2")) (queue_line name (codes "3")) (queue_line name (codes "4"))
    ∙ spelled where
      spelled : (codes "nvmet-plan 1" ++ 10 ∷ []) ++ ((spelling (Disk first_disk) ++ 10 ∷ [])
          ++ ((spelling (Disk second_disk) ++ 10 ∷ [])
          ++ (named_line (codes "config ") name (codes ".json\n")
          ++ (named_line (codes "script ") name (codes ".script\n")
          ++ (named_line (codes "journal ") name (codes ".journal\n")
          ++ (queue_line name (codes "1") ++ (queue_line name (codes "2")
          ++ (queue_line name (codes "3") ++ (queue_line name (codes "4") ++ [])))))))))
          ≡ ended (rows_of name)
      spelled = rw (
        config_is name,
        script_is name,
        journal_is name,
        first_is name,
        second_is name,
        third_is name,
        last_is name,
      ) refl

are_lines : (name : List ℕ) → IsBase name → AllByRecursion IsLine (rows_of name)
unfolding digits
are_lines name b = (line_is _ _ refl, (line_is _ _ refl, (line_is _ _ refl, files))) where
  queues : AllByRecursion IsLine (spelling (Queue (queue_of name (codes ".q1") (codes ".r1")))
      ∷ spelling (Queue (queue_of name (codes ".q2") (codes ".r2")))
      ∷ spelling (Queue (queue_of name (codes ".q3") (codes ".r3")))
      ∷ spelling (Queue (queue_of name (codes ".q4") (codes ".r4"))) ∷ [])
  queues = (
    line_is _ _ (queue_above name (codes ".q1") (codes ".r1") b refl refl),
    (
      line_is _ _ (queue_above name (codes ".q2") (codes ".r2") b refl refl),
      (
        line_is _ _ (queue_above name (codes ".q3") (codes ".r3") b refl refl),
        (line_is _ _ (queue_above name (codes ".q4") (codes ".r4") b refl refl), tt),
      ),
    ),
  )

  files : AllByRecursion IsLine (spelling (Config (name ++ codes ".json"))
      ∷ spelling (Script (name ++ codes ".script")) ∷ spelling (Journal (name ++ codes ".journal"))
      ∷ spelling (Queue (queue_of name (codes ".q1") (codes ".r1")))
      ∷ spelling (Queue (queue_of name (codes ".q2") (codes ".r2")))
      ∷ spelling (Queue (queue_of name (codes ".q3") (codes ".r3")))
      ∷ spelling (Queue (queue_of name (codes ".q4") (codes ".r4"))) ∷ [])
  files = (
    line_is _ _ (file_above name (codes ".json") b refl),
    (
      line_is _ _ (file_above name (codes ".script") b refl),
      (line_is _ _ (file_above name (codes ".journal") b refl), queues),
    ),
  )

-- ---- what they say

queue_fits : (name capsules responses : List ℕ) → IsBase name → length capsules ≤ 55
    → length responses ≤ 55 → list_all is_ascii_graphic capsules ≡ true
    → list_all is_ascii_graphic responses ≡ true
    → fits (Queue (queue_of name capsules responses)) ≡ true
unfolding fits_queue
queue_fits name capsules responses b c r g h =
    rw (is_named name capsules b c g, is_named name responses b r h) refl

-- one item more, which may be added
step : (lines : List (List ℕ)) (p q : Plan) (item : Item)
    → is_passed_over (spelling item) ≡ false → fits item ≡ true → IsAllowed p item
    → Makes lines (with_item p item) q → Makes (spelling item ∷ lines) p q
step lines p q item over fit allowed rest = inr (over, item, refl, fit, allowed, rest)

-- an item that names files may be added after both disks
allowed : (p : Plan) (item : Item) → is_new p item ≡ true → agrees (with_item p item) ≡ true
    → (with_item p item).disks ≡ first_disk ∷ second_disk ∷ [] → item_bytes item ≡ 0
    → length (with_item p item).queues ≤ 4 → IsAllowed p item
allowed p item new agree disks none few = record {
  new = new;
  agrees = agree;
  disks = rw disks (omega arith);
  bytes = omega (arith, none);
  total = rw disks (omega arith);
  queues = omega (arith, few);
}

abbrev with_disks : Plan
with_disks = with_item (with_item no_plan (Disk first_disk)) (Disk second_disk)

abbrev with_config : List ℕ → Plan
with_config name = with_item with_disks (Config (name ++ codes ".json"))

abbrev with_script : List ℕ → Plan
with_script name = with_item (with_config name) (Script (name ++ codes ".script"))

abbrev with_journal : List ℕ → Plan
with_journal name = with_item (with_script name) (Journal (name ++ codes ".journal"))

abbrev with_first : List ℕ → Plan
with_first name = with_item (with_journal name)
    (Queue (queue_of name (codes ".q1") (codes ".r1")))

abbrev with_second : List ℕ → Plan
with_second name = with_item (with_first name) (Queue (queue_of name (codes ".q2") (codes ".r2")))

abbrev with_third : List ℕ → Plan
with_third name = with_item (with_second name) (Queue (queue_of name (codes ".q3") (codes ".r3")))

first_allowed : IsAllowed no_plan (Disk first_disk)
unfolding is_new agrees
first_allowed = record {
  new = refl;
  agrees = refl;
  disks = omega arith;
  bytes = omega arith;
  total = omega arith;
  queues = omega arith;
}

second_allowed : IsAllowed (with_item no_plan (Disk first_disk)) (Disk second_disk)
unfolding is_new agrees
second_allowed = record {
  new = refl;
  agrees = refl;
  disks = omega arith;
  bytes = omega arith;
  total = omega arith;
  queues = omega arith;
}

-- the queue with these endings may be added
queue_step : (lines : List (List ℕ)) (p q : Plan) (name capsules responses : List ℕ) → IsBase name
    → length capsules ≤ 55 → length responses ≤ 55 → list_all is_ascii_graphic capsules ≡ true
    → list_all is_ascii_graphic responses ≡ true
    → IsAllowed p (Queue (queue_of name capsules responses))
    → Makes lines (with_item p (Queue (queue_of name capsules responses))) q
    → Makes (spelling (Queue (queue_of name capsules responses)) ∷ lines) p q
unfolding digits
queue_step lines p q name capsules responses b c r g h a rest =
    step lines p q (Queue (queue_of name capsules responses)) refl
    (queue_fits name capsules responses b c r g h) a rest

abbrev last_on : List ℕ → List Item
last_on name = Queue (queue_of name (codes ".q4") (codes ".r4")) ∷ []

abbrev third_on : List ℕ → List Item
third_on name = Queue (queue_of name (codes ".q3") (codes ".r3")) ∷ last_on name

abbrev second_on : List ℕ → List Item
second_on name = Queue (queue_of name (codes ".q2") (codes ".r2")) ∷ third_on name

abbrev queue_items : List ℕ → List Item
queue_items name = Queue (queue_of name (codes ".q1") (codes ".r1")) ∷ second_on name

abbrev journal_on : List ℕ → List Item
journal_on name = Journal (name ++ codes ".journal") ∷ queue_items name

abbrev script_on : List ℕ → List Item
script_on name = Script (name ++ codes ".script") ∷ journal_on name

abbrev config_on : List ℕ → List Item
config_on name = Config (name ++ codes ".json") ∷ script_on name

queues_make : (name : List ℕ) → IsBase name
    → Makes (map spelling (queue_items name)) (with_journal name) (plan_of name)
unfolding is_new is_free agrees digits
queues_make name b =
    queue_step (map spelling (second_on name)) (with_journal name) (plan_of name) name (codes ".q1") (codes ".r1") b
    (omega arith) (omega arith) refl refl
    (allowed (with_journal name) (Queue (queue_of name (codes ".q1") (codes ".r1"))) (simp same_front refl) refl refl
    refl (omega arith))
    (queue_step (map spelling (third_on name)) (with_first name) (plan_of name) name (codes ".q2") (codes ".r2") b
    (omega arith) (omega arith) refl refl
    (allowed (with_first name) (Queue (queue_of name (codes ".q2") (codes ".r2"))) (simp same_front refl) refl refl
    refl (omega arith))
    (queue_step (map spelling (last_on name)) (with_second name) (plan_of name) name (codes ".q3") (codes ".r3") b
    (omega arith) (omega arith) refl refl
    (allowed (with_second name) (Queue (queue_of name (codes ".q3") (codes ".r3"))) (simp same_front refl) refl refl
    refl (omega arith))
    (queue_step [] (with_third name) (plan_of name) name (codes ".q4") (codes ".r4") b
    (omega arith) (omega arith) refl refl
    (allowed (with_third name) (Queue (queue_of name (codes ".q4") (codes ".r4"))) (simp same_front refl) refl refl
    refl (omega arith))
    refl)))

makes : (name : List ℕ) → IsBase name → Makes (map spelling (items_of name)) no_plan (plan_of name)
unfolding is_new is_free agrees fits_disk is_name digits
makes name b =
    step (map spelling (Disk second_disk ∷ config_on name)) no_plan (plan_of name) (Disk first_disk)
    refl refl first_allowed
    (step (map spelling (config_on name)) (with_item no_plan (Disk first_disk)) (plan_of name)
    (Disk second_disk) refl refl second_allowed
    (step (map spelling (script_on name)) with_disks (plan_of name) (Config (name ++ codes ".json"))
    refl (is_named name (codes ".json") b (omega arith) refl)
    (allowed with_disks (Config (name ++ codes ".json")) refl refl refl refl (omega arith))
    (step (map spelling (journal_on name)) (with_config name) (plan_of name)
    (Script (name ++ codes ".script")) refl (is_named name (codes ".script") b (omega arith) refl)
    (allowed (with_config name) (Script (name ++ codes ".script")) (simp same_front refl) refl refl
    refl (omega arith))
    (step (map spelling (queue_items name)) (with_script name) (plan_of name)
    (Journal (name ++ codes ".journal")) refl
    (is_named name (codes ".journal") b (omega arith) refl)
    (allowed (with_script name) (Journal (name ++ codes ".journal")) (simp same_front refl) refl
    refl refl (omega arith))
    (queues_make name b)))))

pub plan_read : (name : List ℕ) → is_base_name name ≡ true
    → plan_in (plan_text name) ≡ Ok (plan_of name)
unfolding is_complete
plan_read name e =
    let b = base_of name e in
    plan_is_read (plan_text name) (plan_of name) (record {
      lines = map spelling (items_of name);
      head = rows_cut (plan_text name) (rows_of name) (are_lines name b) (inl (text_is name));
      rest = (makes name b, refl);
    })
