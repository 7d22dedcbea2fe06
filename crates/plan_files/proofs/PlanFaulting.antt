-- The first fault of a plan is the error that reading it gives.
use Rattle.std.proofs.Common.{◌≡◌, ◌≢◌, ◌⊎◌, ◌<◌, ◌≤◌, ℕ, suc, ◌+◌, min, Bool, true, false, cond, ◌&&◌, ltb, List, [], ◌∷◌, ◌++◌, length, Option, Some, None, Result, Ok, Err, refl, sym, ap, subst, ◌∙◌, inl, inr, lit≤, arith}
use Rattle.std.specs.Prelude.{codes, IfErr}
use Rattle.std.specs.Str.{bytes_eq}
use Rattle.std.proofs.lemmas.Bool.{ltb-false, ltb-true, le-ltb, lt-ltb}
use Rattle.std.proofs.lemmas.Slice.Eq.{bytes_eq-Decides}
use Rattle.plan_files.specs.declared.items.Item.{Item}
use Rattle.plan_files.specs.declared.items.Plan.{Plan}
use Rattle.plan_files.specs.declared.limits.What.{What}
use Rattle.plan_files.specs.declared.limits.What.TheVariants.{Disks, DiskBytes, AllDiskBytes, Queues}
use Rattle.plan_files.specs.declared.plan.PlanError.{PlanError}
use Rattle.plan_files.specs.declared.plan.PlanError.TheVariants as errors
use Rattle.text_lines.specs.Lines.{is_passed_over, lines_of}
use Rattle.plan_files.specs.Spelling.{spelling, fits, item_in}
use Rattle.plan_files.specs.Plans.{Makes, no_plan, with_item, is_new, agrees, within, item_bytes, total_of, is_complete}
use Rattle.plan_files.specs.PlanReading.{Gives, item_taken, said_taken, line_taken, next_line, plan_from, plan_by, plan_in}
use Rattle.plan_files.specs.PlanFaults.{PassesFirst, PassesLimit, LineFault, StopsAt, Lacks, FirstFault}
use Rattle.plan_files.specs.Binding.{◌>>=◌}
use Rattle.std.proofs.lemmas.List.{append-nil}
use Rattle.plan_files.proofs.Wording.{and-parts}
use Rattle.plan_files.proofs.Saying.{item_was, item_read}
use Rattle.plan_files.proofs.PlanLaws.{last_number, goes_over, said_taken_was}

-- ---- one line

-- a test on the way to an error
either_err : {A : Type 0} (b : Bool) (r s : Result A PlanError) (e : PlanError) → cond b r s ≡ Err e
    → ((b ≡ true) × (r ≡ Err e)) ⊎ ((b ≡ false) × (s ≡ Err e))
either_err true r s e h = inl (refl, h)
either_err false r s e h = inr (refl, h)

abbrev failed : PlanError → Result Plan PlanError
failed e = Err e

same_err : (d e : PlanError) → failed d ≡ failed e → d ≡ e
same_err d e h = cc

-- what a passed limit answers
record PassedSo (p : Plan) (bytes : ℕ) (e : PlanError) : Type 0 where
  what : What
  count : ℕ
  is : errors.TooLong what count ≡ e
  first : PassesFirst p bytes what count

within_fails : (p : Plan) (bytes : ℕ) (e : PlanError) → within p bytes ≡ Err e → PassedSo p bytes e
unfolding within
within_fails p bytes e h =
    elim (either_err (ltb 64 (length p.disks)) _ _ e h) [
      | inl disks ↦ record {
        what = Disks;
        count = length p.disks;
        is = same_err _ e disks.1;
        first = inl (refl, refl, ltb-true _ _ disks.0);
      }
      | inr few ↦ let disks = ltb-false _ _ few.0 in
          elim (either_err (ltb 16777216 bytes) _ _ e few.1) [
            | inl large ↦ record {
              what = DiskBytes;
              count = bytes;
              is = same_err _ e large.1;
              first = inr (inl (refl, refl, ltb-true _ _ large.0, disks));
            }
            | inr small ↦ let one = ltb-false _ _ small.0 in
                elim (either_err (ltb 268435456 (total_of p.disks)) _ _ e small.1) [
                  | inl large ↦ record {
                    what = AllDiskBytes;
                    count = total_of p.disks;
                    is = same_err _ e large.1;
                    first =
                        inr (inr (inl (refl, refl, ltb-true _ _ large.0, disks, one)));
                  }
                  | inr total ↦ elim (either_err (ltb 31 (length p.queues)) _ _ e total.1) [
                    | inl queues ↦ record {
                      what = Queues;
                      count = length p.queues;
                      is = same_err _ e queues.1;
                      first =
                          inr (inr (inr (
                            refl,
                            refl,
                            ltb-true _ _ queues.0,
                            disks,
                            one,
                            ltb-false _ _ total.0,
                          )));
                    }
                    | inr fine ↦ absurd (let no : Ok p ≡ Err e = fine.1 in cc)
                  ]
                ]
          ]
    ]

passes_within : (p : Plan) (bytes : ℕ) (what : What) (count : ℕ) → PassesFirst p bytes what count
    → within p bytes ≡ Err (errors.TooLong what count)
unfolding within
passes_within p bytes what count f =
    elim f [
      | inl d ↦ let over : 64 < length p.disks = omega (arith, d.1, d.2) in
          rw (lt-ltb 64 (length p.disks) over, d.0, d.1) refl
      | inr g ↦ elim g [
        | inl d ↦ let over : 16777216 < bytes = omega (arith, d.1, d.2) in
            rw (le-ltb 64 (length p.disks) d.3, lt-ltb 16777216 bytes over, d.0, d.1) refl
        | inr h ↦ elim h [
          | inl d ↦
              let over : 268435456 < total_of p.disks = omega (arith, d.1, d.2) in
              rw (
                le-ltb 64 (length p.disks) d.3,
                le-ltb 16777216 bytes d.4,
                lt-ltb 268435456 (total_of p.disks) over,
                d.0,
                d.1,
              ) refl
          | inr d ↦
              let over : 31 < length p.queues = omega (arith, d.1, d.2) in
              rw (
                le-ltb 64 (length p.disks) d.3,
                le-ltb 16777216 bytes d.4,
                le-ltb 268435456 (total_of p.disks) d.5,
                lt-ltb 31 (length p.queues) over,
                d.0,
                d.1,
              ) refl
        ]
      ]
    ]

-- a line of which one item is said says no other
one_item : (line : List ℕ) (item other : Item) → item_in line ≡ Some item → line ≡ spelling other
    → fits other ≡ true → other ≡ item
one_item line item other is says fit = let again : item_in line ≡ Some other =
    item_read line other says fit in cc

item_fails : (n : ℕ) (p : Plan) (line : List ℕ) (item : Item) (e : PlanError)
    → is_passed_over line ≡ false → item_in line ≡ Some item
    → item_taken n p item ≡ Err e → LineFault n p line e
unfolding item_taken
item_fails n p line item e looked is h =
    let was = item_was line item is in
    elim (either_err (is_new p item && agrees (with_item p item)) _ _ e h) [
      | inl may ↦
          let w = within_fails (with_item p item) (item_bytes item) e may.1 in
          let both = and-parts (is_new p item) (agrees (with_item p item)) may.0 in
          subst (λ (x : PlanError). LineFault n p line x) w.is (record {
            looked_at = looked;
            item = item;
            says = was.0;
            fit = was.1;
            new = both.0;
            agree = both.1;
            first =
                w.first;
          })
      | inr not ↦
          subst (λ (x : PlanError). LineFault n p line x) (same_err (errors.BadLine n) e not.1) (
            refl,
            record {
              looked_at = looked;
              none = λ other says fit. let same = one_item line item other is says fit in
                  rw same not.0;
            },
          )
    ]

line_fails : (n : ℕ) (p : Plan) (line : List ℕ) (e : PlanError) → line_taken n p line ≡ Err e
    → LineFault n p line e
unfolding line_taken
line_fails n p line e h =
    elim (either_err (is_passed_over line) _ _ e h) [
      | inl over ↦ absurd (let no : Ok p ≡ Err e = over.1 in cc)
      | inr looked ↦ by_item looked.0 (item_in line) refl looked.1
    ] where
      by_item : is_passed_over line ≡ false → (said : Option Item) → item_in line ≡ said
          → said_taken n p said ≡ Err e → LineFault n p line e
      by_item looked None is s =
          subst (λ (x : PlanError). LineFault n p line x) (same_err (errors.BadLine n) e s) (
            refl,
            record {
              looked_at = looked;
              none = λ other says fit. absurd (let no : item_in line ≡ Some other = item_read line
                  other says fit in cc);
            },
          )
      by_item looked (Some item) is s = item_fails n p line item e looked is s

bad_item : (n : ℕ) (p : Plan) (item : Item) → (is_new p item && agrees (with_item p item)) ≡ false
    → item_taken n p item ≡ Err (errors.BadLine n)
unfolding item_taken
bad_item n p item not = rw not refl

over_item : (n : ℕ) (p : Plan) (line : List ℕ) (what : What) (count : ℕ)
    (l : PassesLimit p line what count) → item_taken n p l.item ≡ Err (errors.TooLong what count)
unfolding item_taken
over_item n p line what count l =
    rw (l.new, l.agree) (passes_within (with_item p l.item) (item_bytes l.item) what count l.first)

line_stops : (n : ℕ) (p : Plan) (line : List ℕ) (e : PlanError) → LineFault n p line e
    → line_taken n p line ≡ Err e
unfolding line_taken
line_stops n p line errors.Memory f = absurd f
line_stops n p line (errors.BadLine number) f =
    rw (f.1.looked_at, f.0) (by_item (item_in line) refl) where
      by_item : (said : Option Item) → item_in line ≡ said
          → said_taken n p said ≡ Err (errors.BadLine n)
      by_item None is = refl
      by_item (Some item) is = let was = item_was line item is in
          bad_item n p item (f.1.none item was.0 was.1)
line_stops n p line (errors.TooLong what count) f =
    rw (f.looked_at, item_read line f.item f.says f.fit) (over_item n p line what count f)

-- ---- from a line on

record StopsFrom (n : ℕ) (p : Plan) (lines : List (List ℕ)) (e : PlanError) : Type 0 where
  before : List (List ℕ)
  line : List ℕ
  after : List (List ℕ)
  is : lines ≡ before ++ line ∷ after
  plan : Plan
  made : Makes before p plan
  fault : LineFault (min (n + length before) last_number) plan line e

record LacksFrom (n : ℕ) (p : Plan) (lines : List (List ℕ)) (e : PlanError) : Type 0 where
  plan : Plan
  made : Makes lines p plan
  missing : is_complete plan ≡ false
  is : e ≡ errors.BadLine (min (n + length lines) last_number)

-- a line that was taken made the plan another, and the lines from here on fail as those after it do
taken : (n : ℕ) (p q : Plan) (line : List ℕ) → line_taken n p line ≡ Ok q
    → (lines : List (List ℕ)) (plan : Plan) → Makes lines q plan → Makes (line ∷ lines) p plan
unfolding line_taken
taken n p q line h lines plan made =
    by_test (is_passed_over line) refl h where
      by_test : (t : Bool) → is_passed_over line ≡ t → cond t (Ok p) (said_taken n p (item_in line))
          ≡ Ok q → Makes (line ∷ lines) p plan
      by_test true over e = let same : q ≡ p = cc in
          inl (over, subst (λ (x : Plan). Makes lines x plan) same made)
      by_test false looked e =
          let t = said_taken_was n p q (item_in line) e in
          let was = item_was line t.0 t.1 in
          inr (
            looked,
            t.0,
            was.0,
            was.1,
            t.2,
            subst (λ (x : Plan). Makes lines x plan) (sym t.3)
                made,
          )

number_next : (n k : ℕ) → n ≤ last_number → min (next_line n + k) last_number
    ≡ min (n + suc k) last_number
number_next n k le = omega (arith, le)

bind_err : {A B : Type 0} (r : Result A PlanError) (f : A → Result B PlanError) (e : PlanError)
    → (r >>= f) ≡ Err e
    → (r ≡ Err e) ⊎ ((x : A) × (r ≡ Ok x) × (f x ≡ Err e))
bind_err (Ok x) f e h = inr (x, refl, h)
bind_err (Err d) f e h = let same : d ≡ e = cc in inl (ap (λ x. Err x) same)

fails_from : (n : ℕ) (p : Plan) (lines : List (List ℕ)) (e : PlanError) → n ≤ last_number
    → plan_from n p lines ≡ Err e
    → StopsFrom n p lines e ⊎ LacksFrom n p lines e
unfolding plan_from
fails_from n p [] e le h =
    let here : min (n + 0) last_number ≡ n = omega (arith, le) in
    elim (either_err (is_complete p) (Ok p) (Err (errors.BadLine n)) e h) [
      | inl full ↦ absurd (let no : Ok p ≡ Err e = full.1 in cc)
      | inr missing ↦ inr (record {
        plan = p;
        made = refl;
        missing = missing.0;
        is = rw here (sym (same_err (errors.BadLine n) e missing.1));
      })
    ]
fails_from n p (line ∷ lines) e le h =
    let next : next_line n ≤ last_number = omega arith in
    elim (bind_err (line_taken n p line) (λ q. plan_from (next_line n) q lines) e h) [
      | inl here ↦
          let number : min (n + 0) last_number ≡ n = omega (arith, le) in
          inl (record {
            before = [];
            line = line;
            after = lines;
            is = refl;
            plan = p;
            made = refl;
            fault = rw number (line_fails n p line e here);
          })
      | inr went ↦ elim (fails_from (next_line n) went.0 lines e next went.2) [
        | inl s ↦ inl (record {
          before = line ∷ s.before;
          line = s.line;
          after = s.after;
          is = ap (λ (x : List (List ℕ)). line ∷ x) s.is;
          plan = s.plan;
          made = taken n p went.0 line went.1 s.before s.plan s.made;
          fault = rw (← number_next n (length s.before) le) s.fault;
        })
        | inr s ↦ inr (record {
          plan = s.plan;
          made = taken n p went.0 line went.1 lines s.plan s.made;
          missing = s.missing;
          is = rw (← number_next n (length lines) le) s.is;
        })
      ]
    ]

-- the next line's fault is what reading gives there
line_ends : (n : ℕ) (p : Plan) (line : List ℕ) (after : List (List ℕ)) (e : PlanError)
    → line_taken n p line ≡ Err e → plan_from n p (line ∷ after) ≡ Err e
unfolding plan_from
line_ends n p line after e h = rw h refl

lack_ends : (n : ℕ) (p : Plan) → is_complete p ≡ false → plan_from n p [] ≡ Err (errors.BadLine n)
unfolding plan_from
lack_ends n p missing = rw missing refl

stops_there : (lines : List (List ℕ)) (e : PlanError) → StopsAt lines e → plan_from 2 no_plan lines
    ≡ Err e
stops_there lines e s =
    let n = min (2 + length s.before) last_number in
    let over = goes_over 2 no_plan s.plan s.before (s.line ∷ s.after) (lit≤ tt) s.made in
    ap (plan_from 2 no_plan) s.is ∙ over
    ∙ line_ends n s.plan s.line s.after e (line_stops n s.plan s.line e s.fault)

lacks_there : (lines : List (List ℕ)) (e : PlanError) → Lacks lines e → plan_from 2 no_plan lines
    ≡ Err e
lacks_there lines e s =
    let over = goes_over 2 no_plan s.plan lines [] (lit≤ tt) s.made in
    ap (plan_from 2 no_plan) (sym (append-nil lines)) ∙ over
    ∙ lack_ends (min (2 + length lines) last_number) s.plan s.missing
    ∙ ap (λ x. Err x) (sym s.is)

-- ---- the file

found_at : (lines : List (List ℕ)) (e : PlanError) → plan_from 2 no_plan lines ≡ Err e
    → StopsAt lines e ⊎ Lacks lines e
found_at lines e h =
    elim (fails_from 2 no_plan lines e (lit≤ tt) h) [
      | inl s ↦ inl (record {
        before = s.before;
        line = s.line;
        after = s.after;
        is = s.is;
        plan = s.plan;
        made = s.made;
        fault = s.fault;
      })
      | inr s ↦ inr (record { plan = s.plan; made = s.made; missing = s.missing; is = s.is })
    ]

pub fault_was : (bytes : List ℕ) (e : PlanError) → plan_in bytes ≡ Err e → FirstFault bytes e
unfolding plan_in
fault_was bytes e h = by_lines (lines_of bytes) refl h where
  by_head : (head : List ℕ) (lines : List (List ℕ)) → lines_of bytes ≡ head ∷ lines → (t : Bool)
      → bytes_eq head (codes "nvmet-plan 1") ≡ t
      → cond t (plan_from 2 no_plan lines) (Err (errors.BadLine 1)) ≡ Err e → FirstFault bytes e
  by_head head lines is true same s =
      let here : head ≡ codes "nvmet-plan 1" = (bytes_eq-Decides head (codes "nvmet-plan 1")).0 same
      in
      inr (lines, (rw here at is), found_at lines e s)
  by_head head lines is false other s =
      inl (
        sym (same_err (errors.BadLine 1) e s),
        λ after there.
            let here : head ≡ codes "nvmet-plan 1" = cc in
            let yes : bytes_eq head (codes "nvmet-plan 1") ≡ true =
            (bytes_eq-Decides head (codes "nvmet-plan 1")).1 here in
            let no : false ≡ true = sym other ∙ yes in
            cc,
      )

  by_lines : (lines : List (List ℕ)) → lines_of bytes ≡ lines → plan_by lines ≡ Err e
      → FirstFault bytes e
  by_lines [] is s = inl (
    sym (same_err (errors.BadLine 1) e s),
    λ after there. let no : []
        ≡ codes "nvmet-plan 1" ∷ after = sym is ∙ there in cc,
  )
  by_lines (head ∷ lines) is s = by_head head lines is (bytes_eq head (codes "nvmet-plan 1")) refl s

pub is_fault : (bytes : List ℕ) (e : PlanError) → FirstFault bytes e → plan_in bytes ≡ Err e
unfolding plan_in
is_fault bytes e f =
    elim f [
      | inl none ↦ by_lines (lines_of bytes) refl none.1 ∙ ap (λ x. Err x) (sym none.0)
      | inr some ↦ rw some.1 (elim some.2 [
        | inl s ↦ stops_there some.0 e s
        | inr s ↦ lacks_there some.0 e s
      ])
    ] where
      by_head : (head : List ℕ) (lines : List (List ℕ)) → (t : Bool)
          → bytes_eq head (codes "nvmet-plan 1") ≡ t → head ≢ codes "nvmet-plan 1"
          → cond t (plan_from 2 no_plan lines) (Err (errors.BadLine 1)) ≡ Err (errors.BadLine 1)
      by_head head lines true same other =
          absurd (other ((bytes_eq-Decides head (codes "nvmet-plan 1")).0 same))
      by_head head lines false same other = refl

      by_lines : (lines : List (List ℕ)) → lines_of bytes ≡ lines
          → ((after : List (List ℕ)) → lines_of bytes ≢ codes "nvmet-plan 1" ∷ after)
          → plan_by lines ≡ Err (errors.BadLine 1)
      by_lines [] is none = refl
      by_lines (head ∷ lines) is none = by_head head lines (bytes_eq head (codes "nvmet-plan 1"))
          refl (λ same. none lines (rw same at is))

-- the error that a call answered is the first fault
pub found_fault : (bytes : List ℕ) (r : Result Plan PlanError) → Gives r (plan_in bytes)
    → IfErr r (λ e. e ≢ errors.Memory → FirstFault bytes e)
found_fault bytes (Ok plan) h = tt
found_fault bytes (Err errors.Memory) h = λ other. absurd (other refl)
found_fault bytes (Err (errors.BadLine line)) h = λ other. fault_was bytes (errors.BadLine line) h
found_fault bytes (Err (errors.TooLong what count)) h =
    λ other. fault_was bytes (errors.TooLong what count) h
