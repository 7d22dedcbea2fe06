-- Writes one after another.
use Rattle.std.proofs.Common.{◌≡◌, ◌≢◌, ◌≤◌, ℕ, ◌+◌, Bool, true, List, [], ◌∷◌, ◌++◌, take, Option, Some, None, Result, Ok, Err, refl, sym, ap, subst, ◌∙◌, append_assoc, arith}
use Rattle.std.proofs.lemmas.Bool.{le-leb}
use Rattle.std.specs.List.{AllByRecursion}
use Rattle.run_outside.specs.Outside.{Rose, rose, HoldsWritten}
use Rattle.run_outcomes.specs.declared.faults.Fault.{Fault}
use Rattle.run_outcomes.specs.declared.faults.Fault.TheVariants as fault
use Rattle.run_outcomes.specs.Outsides.{Told, HoldsNow, FilesView, FailedCall}
use Rattle.run_outcomes.specs.Written.{ToWrite, AreWritten, KeptBut, AreApart, AllWritten, StopsAt, WriteFails, Writes}

rose-true : (before now : ℕ) → Rose before now → rose before now ≡ true
rose-true before now r = le-leb _ _ r

pub failed_call : (wrote : Bool) (name : List ℕ) (before after : FilesView)
    → after.last ≡ Some (record {
      wrote = wrote;
      name = take 255 name;
      rose = rose before.faults after.faults;
    }) → Rose before.faults after.faults
    → FailedCall wrote name before after
failed_call wrote name before after last r = record {
  last = last
      ∙ rw (rose-true before.faults after.faults r) refl;
  rose = r;
}

-- the first write of a list did not go well
pub stops_first : (w : ToWrite) (before after : FilesView) (f : Fault)
    → ((other : List ℕ) → other ≢ w.name → after.told.holds other ≡ before.told.holds other)
    → WriteFails w before after f → StopsAt (w ∷ []) before after f
stops_first w before after f others fails =
    record {
      done = [];
      here = w;
      rest = [];
      split = refl;
      written = tt;
      kept = λ other differ. others other differ.0;
      fails = fails;
    }

-- ---- one after another

-- a name that is none of these is none of those up to one of them
all_front : (P : ToWrite → Type 0) (done : List ToWrite) (here : ToWrite) (rest : List ToWrite)
    → AllByRecursion P (done ++ here ∷ rest) → AllByRecursion P (done ++ here ∷ [])
all_front P [] here rest all = (all.0, tt)
all_front P (w ∷ done) here rest all = (all.0, all_front P done here rest all.1)

-- names that another write leaves are written still
written_before : (w : ToWrite) (before mid after : Told) (ws : List ToWrite)
    → AllByRecursion (λ v. w.name ≢ v.name) ws → mid.tells ≡ before.tells
    → ((other : List ℕ) → other ≢ w.name → mid.holds other ≡ before.holds other)
    → AreWritten mid after ws → AreWritten before after ws
written_before w before mid after [] apart tells others written = tt
written_before w before mid after (v ∷ ws) apart tells others written = (
  subst (λ (t : Bool). HoldsWritten t (before.holds v.name) (after.holds v.name) v.bytes) tells
      (subst (λ (o : Option (List ℕ)). HoldsWritten mid.tells o (after.holds v.name) v.bytes)
      (others v.name (λ e. apart.0 (sym e))) written.0),
  written_before w before mid after ws apart.1 tells others written.1,
)

kept_both : (w : ToWrite) (ws : List ToWrite) (before mid after : Told)
    → KeptBut before mid (w ∷ []) → KeptBut mid after ws → KeptBut before after (w ∷ ws)
kept_both w ws before mid after first rest name differ = rest name differ.1
    ∙ first name (differ.0, tt)

-- what was written at first is there at last
still_written : (w : ToWrite) (ws : List ToWrite) (before mid after : Told)
    → AllByRecursion (λ v. w.name ≢ v.name) ws → HoldsNow before mid w.name w.bytes
    → KeptBut mid after ws → HoldsNow before after w.name w.bytes
still_written w ws before mid after apart holds kept =
    subst (λ (o : Option (List ℕ)). HoldsWritten before.tells (before.holds w.name) o w.bytes)
    (sym (kept w.name apart)) holds

fails_since : (w here : ToWrite) (before mid after : FilesView) (f : Fault)
    → here.name ≢ w.name → before.faults ≤ mid.faults
    → ((other : List ℕ) → other ≢ w.name → mid.told.holds other ≡ before.told.holds other)
    → WriteFails here mid after f → WriteFails here before after f
fails_since w here before mid after (fault.WriteFault n) differ le others fails = (
  fails.0,
  record { last = fails.1.last; rose = omega (arith, le, fails.1.rose) },
)
fails_since w here before mid after fault.Memory differ le others fails = fails
    ∙ others here.name differ
fails_since w here before mid after (fault.Malformed n place) differ le others fails = absurd fails
fails_since w here before mid after (fault.Limit n what count) differ le others fails = absurd fails
fails_since w here before mid after (fault.ReadFault n) differ le others fails = absurd fails
fails_since w here before mid after (fault.ConfigRefused edit errno) differ le others fails =
    absurd fails

all_at : (P : ToWrite → Type 0) (done : List ToWrite) (here : ToWrite) (rest : List ToWrite)
    → AllByRecursion P (done ++ here ∷ rest) → P here
all_at P [] here rest all = all.0
all_at P (w ∷ done) here rest all = all_at P done here rest all.1

all_until : (P : ToWrite → Type 0) (done : List ToWrite) (here : ToWrite) (rest : List ToWrite)
    → AllByRecursion P (done ++ here ∷ rest) → AllByRecursion P done
all_until P [] here rest all = tt
all_until P (w ∷ done) here rest all = (all.0, all_until P done here rest all.1)

-- a write that went well, and then those of other files
pub writes_then : (w : ToWrite) (ws : List ToWrite) (before mid after : FilesView)
    (r : Result (Unit {0}) Fault) → AreApart (w ∷ ws) → mid.told.tells ≡ before.told.tells
    → before.faults ≤ mid.faults → AllWritten (w ∷ []) before.told mid.told
    → Writes ws mid after r → Writes (w ∷ ws) before after r
writes_then w ws before mid after (Ok u) apart tells le first rest = record {
  written = (
    still_written w ws before.told mid.told after.told apart.0 first.written.0 rest.kept,
    written_before w before.told mid.told after.told ws apart.0 tells
        (λ other differ. first.kept other (differ, tt)) rest.written,
  );
  kept = kept_both w ws before.told mid.told after.told first.kept rest.kept;
}
writes_then w ws before mid after (Err f) apart tells le first rest =
    let all : AllByRecursion (λ v. w.name ≢ v.name) (rest.done ++ rest.here ∷ rest.rest) =
    subst (λ (xs : List ToWrite). AllByRecursion (λ v. w.name ≢ v.name) xs) rest.split apart.0 in
    let others : (other : List ℕ) → other ≢ w.name → mid.told.holds other
    ≡ before.told.holds other = λ other differ. first.kept other (differ, tt) in
    record {
      done = w ∷ rest.done;
      here = rest.here;
      rest = rest.rest;
      split = ap (λ (xs : List ToWrite). w ∷ xs) rest.split;
      written = (
        still_written w (rest.done ++ rest.here ∷ []) before.told mid.told after.told
            (all_front (λ v. w.name ≢ v.name) rest.done rest.here rest.rest all) first.written.0
            rest.kept,
        written_before w before.told mid.told after.told rest.done
            (all_until (λ v. w.name ≢ v.name) rest.done rest.here rest.rest all) tells others
            rest.written,
      );
      kept = kept_both w (rest.done ++ rest.here ∷ []) before.told mid.told after.told first.kept
          rest.kept;
      fails = fails_since w rest.here before mid after f
          (λ e. all_at (λ v. w.name ≢ v.name) rest.done rest.here rest.rest all (sym e)) le others
          rest.fails;
    }

-- the first write stopped, and so do all
pub stops_more : (w : ToWrite) (ws : List ToWrite) (before after : FilesView) (f : Fault)
    → StopsAt (w ∷ []) before after f → StopsAt (w ∷ ws) before after f
stops_more w ws before after f s = record {
  done = s.done;
  here = s.here;
  rest = s.rest ++ ws;
  split = ap (λ (xs : List ToWrite). xs ++ ws) s.split
      ∙ append_assoc s.done (s.here ∷ s.rest) ws;
  written = s.written;
  kept = s.kept;
  fails = s.fails;
}
