-- What came of reading one file.
use Rattle.std.proofs.Common.{◌≡◌, ◌≤◌, ◌<◌, ℕ, ◌+◌, false, List, length, Result, Ok, Err, refl, sym, ap, subst, ◌∙◌, arith}
use Rattle.std.proofs.lemmas.Bool.{le-ltb, lt-ltb}
use Rattle.plan_files.specs.declared.limits.What.{What}
use Rattle.plan_files.specs.declared.limits.What.TheVariants.{Bytes}
use Rattle.plan_files.specs.Binding.{◌>>=◌}
use Rattle.run_outcomes.specs.declared.numbers.FileNo.{FileNo}
use Rattle.run_outcomes.specs.declared.faults.Fault.{Fault}
use Rattle.run_outcomes.specs.declared.faults.Fault.TheVariants as fault
use Rattle.run_outcomes.specs.Outsides.{Told, HoldsOf, FilesView, Kept, FailedCall}
use Rattle.run_inputs.specs.Contents.{content_of}
use Rattle.run_inputs.specs.Known.{Known}
use Rattle.run_inputs.specs.Reading.{ReadsSo, Reading}
use Rattle.run_inputs.specs.Stages.{ContentRefused, Refuses, GivesFault}
use Rattle.run_inputs.specs.Views.{IsEarlier}

-- ---- views

pub holds_then : (before now : FilesView) (name bytes : List ℕ) → IsEarlier before now
    → HoldsOf now.told name bytes → HoldsOf before.told name bytes
holds_then before now name bytes e h = subst (λ (t : Told). HoldsOf t name bytes) (sym e.told) h

pub earlier_again : (a b c : FilesView) → IsEarlier a b → IsEarlier b c → IsEarlier a c
earlier_again a b c e f = record {
  told = e.told ∙ f.told;
  faults = omega (arith, e.faults, f.faults);
}

pub earlier_itself : (a : FilesView) → IsEarlier a a
earlier_itself a = record { told = refl; faults = omega arith }

-- reading alone leaves what names hold
pub kept_by : (before after : FilesView) → IsEarlier before after → Kept before.told after.told
kept_by before after e name = ap (λ (t : Told). t.holds name) (sym e.told)

reads_then : (before now : FilesView) (name : List ℕ)
    (gives : List ℕ → Result Known Fault → Type 0) (r : Result Known Fault)
    → IsEarlier before now → ReadsSo now.told name gives r → ReadsSo before.told name gives r
reads_then before now name gives r e h = record {
  bytes = h.bytes;
  held = holds_then before now name h.bytes e h.held;
  is = h.is;
}

fails_then : (before now after : FilesView) (name : List ℕ) → IsEarlier before now
    → FailedCall false name now after → FailedCall false name before after
fails_then before now after name e h = record {
  last = h.last;
  rose = omega (arith, h.rose, e.faults);
}

-- what came of it, as an earlier view tells it
pub reading_then : (before now after : FilesView) (file : FileNo) (name : List ℕ)
    (gives : List ℕ → Result Known Fault → Type 0) (r : Result Known Fault)
    → IsEarlier before now → Reading now after file name gives r
    → Reading before after file name gives r
reading_then before now after file name gives (Ok s) e h =
    reads_then before now name gives (Ok s) e h
reading_then before now after file name gives (Err (fault.Malformed n place)) e h =
    reads_then before now name gives (Err (fault.Malformed n place)) e h
reading_then before now after file name gives (Err (fault.Limit n what count)) e h =
    reads_then before now name gives (Err (fault.Limit n what count)) e h
reading_then before now after file name gives (Err (fault.ConfigRefused n errno)) e h =
    reads_then before now name gives (Err (fault.ConfigRefused n errno)) e h
reading_then before now after file name gives (Err (fault.ReadFault n)) e h = (
  h.0,
  fails_then before now after name e h.1,
)
reading_then before now after file name gives (Err (fault.WriteFault n)) e h = h
reading_then before now after file name gives (Err fault.Memory) e h = h

-- ---- contents

pub within : (limit : ℕ) (file : FileNo) (bytes : List ℕ) → length bytes ≤ limit
    → content_of limit file bytes ≡ Ok bytes
unfolding content_of
within limit file bytes le = rw (le-ltb limit (length bytes) le) refl

pub over : (limit : ℕ) (file : FileNo) (bytes : List ℕ) → limit < length bytes
    → content_of limit file bytes ≡ Err (fault.Limit file Bytes (limit + 1))
unfolding content_of
over limit file bytes lt = rw (lt-ltb limit (length bytes) lt) refl

-- bytes over the limit give the limit
abbrev pub IsLimited : ℕ → FileNo → (List ℕ → Result Known Fault → Type 0) → Type 0
IsLimited limit file gives = (bytes : List ℕ) → limit < length bytes
    → gives bytes (Err (fault.Limit file Bytes (limit + 1)))

limit_is : (limit : ℕ) (file n : FileNo) (what : What) (count : ℕ)
    → n ≡ file → what ≡ Bytes → count ≡ limit + 1
    → fault.Limit file Bytes (limit + 1) ≡ fault.Limit n what count
limit_is limit file n what count e f g = cc

-- bytes that could not be had
pub content_stops : (limit : ℕ) (now after : FilesView) (file : FileNo) (name : List ℕ)
    (gives : List ℕ → Result Known Fault → Type 0) (f : Fault)
    → IsLimited limit file gives → ContentRefused limit file name now after f
    → Reading now after file name gives (Err f)
content_stops limit now after file name gives (fault.Malformed n place) l h = absurd h
content_stops limit now after file name gives (fault.Limit n what count) l h = record {
  bytes = h.3.bytes;
  held = h.3.held;
  is = subst (λ (f : Fault). gives h.3.bytes (Err f))
      (limit_is limit file n what count h.0 h.1 h.2) (l h.3.bytes h.3.over);
}
content_stops limit now after file name gives (fault.ConfigRefused n errno) l h = absurd h
content_stops limit now after file name gives (fault.ReadFault n) l h = h
content_stops limit now after file name gives (fault.WriteFault n) l h = absurd h
content_stops limit now after file name gives fault.Memory l h = tt

-- ---- bytes

-- bytes that were had give this fault
pub bytes_stop : (now after : FilesView) (file : FileNo) (name bytes : List ℕ)
    (gives : List ℕ → Result Known Fault → Type 0) (f : Fault)
    → HoldsOf now.told name bytes → GivesFault (gives bytes) f
    → Reading now after file name gives (Err f)
bytes_stop now after file name bytes gives (fault.Malformed n place) held h =
    record { bytes = bytes; held = held; is = h }
bytes_stop now after file name bytes gives (fault.Limit n what count) held h =
    record { bytes = bytes; held = held; is = h }
bytes_stop now after file name bytes gives (fault.ConfigRefused n errno) held h =
    record { bytes = bytes; held = held; is = h }
bytes_stop now after file name bytes gives (fault.ReadFault n) held h = absurd h
bytes_stop now after file name bytes gives (fault.WriteFault n) held h = absurd h
bytes_stop now after file name bytes gives fault.Memory held h = tt

-- a fault that a reading function gives, where the rest passes faults on
pub fault_given : {X : Type 0} (more : Result X Fault → Result Known Fault)
    → ((f : Fault) → more (Err f) ≡ Err f) → (read : Result X Fault) (f : Fault)
    → Refuses f read → GivesFault (λ r. r ≡ more read) f
fault_given more pass read (fault.Malformed n place) h = rw h (sym (pass (fault.Malformed n place)))
fault_given more pass read (fault.Limit n what count) h =
    rw h (sym (pass (fault.Limit n what count)))
fault_given more pass read (fault.ConfigRefused n errno) h =
    rw h (sym (pass (fault.ConfigRefused n errno)))
fault_given more pass read (fault.ReadFault n) h = absurd h
fault_given more pass read (fault.WriteFault n) h = absurd h
fault_given more pass read fault.Memory h = tt

-- a fault of the first step is one of both
pub first_refuses : {A B : Type 0} (read : Result A Fault) (more : A → Result B Fault) (f : Fault)
    → Refuses f read → Refuses f (read >>= more)
first_refuses read more (fault.Malformed n place) h = rw h refl
first_refuses read more (fault.Limit n what count) h = rw h refl
first_refuses read more (fault.ConfigRefused n errno) h = rw h refl
first_refuses read more (fault.ReadFault n) h = h
first_refuses read more (fault.WriteFault n) h = h
first_refuses read more fault.Memory h = tt

-- the same fact of an equal reading
pub refuses_so : {A : Type 0} (f : Fault) (a b : Result A Fault) → a ≡ b → Refuses f b
    → Refuses f a
refuses_so f a b e h = subst (λ r. Refuses f r) (sym e) h
