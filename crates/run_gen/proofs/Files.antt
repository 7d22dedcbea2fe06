-- Seven files under seven names, and files that hold just these.
use Rattle.std.proofs.Common.{◌≡◌, ◌≢◌, ◌≤◌, ℕ, length, get_or, drop, arith, Bool, true, false, IsTrue, List, [], ◌∷◌, ◌++◌, map, Option, Some, None, refl, sym, ap, subst, ◌∙◌, inl, inr}
use Rattle.std.specs.Prelude.{◌⊎◌, codes, IfSome}
use Rattle.std.specs.List.{AllByRecursion}
use Rattle.std.specs.Str.{bytes_eq}
use Rattle.std.proofs.lemmas.Bool.Decides.{not_from_Decides}
use Rattle.std.proofs.lemmas.List.{append_cancel_left}
use Rattle.std.proofs.lemmas.Slice.Eq.{bytes_eq-Decides}
use Rattle.run_outside.specs.Outside.{HoldsWritten}
use Rattle.gen_files.specs.Seeds.{Base}
use Rattle.gen_files.specs.Contents.{Content, contents, content_of}
use Rattle.gen_files.specs.declared.made.MadeFile.{MadeFile}
use Rattle.run_outcomes.specs.Outsides.{Told, HoldsOf}
use Rattle.run_outcomes.specs.Written.{ToWrite, AreWritten, AreApart, AllWritten}
use Rattle.run_gen.specs.Written.{written_as, in_hand, generated, HoldsJust}

-- ---- names
differ : (name first second : List ℕ) → bytes_eq first second ≡ false
    → name ++ first ≢ name ++ second
differ name first second e same = not_from_Decides (bytes_eq first second)
    (bytes_eq-Decides first second) e (append_cancel_left name first second same)

pub generated_apart : (b : Base) → AreApart (generated b)
unfolding contents
generated_apart b = (
  (
    differ b.name (codes ".plan") (codes ".json") refl,
    (
      differ b.name (codes ".plan") (codes ".script") refl,
      (
        differ b.name (codes ".plan") (codes ".q1") refl,
        (
          differ b.name (codes ".plan") (codes ".q2") refl,
          (
            differ b.name (codes ".plan") (codes ".q3") refl,
            (differ b.name (codes ".plan") (codes ".q4") refl, tt),
          ),
        ),
      ),
    ),
  ),
  (
    (
      differ b.name (codes ".json") (codes ".script") refl,
      (
        differ b.name (codes ".json") (codes ".q1") refl,
        (
          differ b.name (codes ".json") (codes ".q2") refl,
          (
            differ b.name (codes ".json") (codes ".q3") refl,
            (differ b.name (codes ".json") (codes ".q4") refl, tt),
          ),
        ),
      ),
    ),
    (
      (
        differ b.name (codes ".script") (codes ".q1") refl,
        (
          differ b.name (codes ".script") (codes ".q2") refl,
          (
            differ b.name (codes ".script") (codes ".q3") refl,
            (differ b.name (codes ".script") (codes ".q4") refl, tt),
          ),
        ),
      ),
      (
        (
          differ b.name (codes ".q1") (codes ".q2") refl,
          (
            differ b.name (codes ".q1") (codes ".q3") refl,
            (differ b.name (codes ".q1") (codes ".q4") refl, tt),
          ),
        ),
        (
          (
            differ b.name (codes ".q2") (codes ".q3") refl,
            (differ b.name (codes ".q2") (codes ".q4") refl, tt),
          ),
          ((differ b.name (codes ".q3") (codes ".q4") refl, tt), (tt, tt)),
        ),
      ),
    ),
  ),
)

-- ---- in hand
in_hand_maps : (files : List MadeFile) → in_hand files ≡ map written_as (map content_of files)
in_hand_maps [] = refl
in_hand_maps (f ∷ files) = ap (λ (ws : List ToWrite). written_as (content_of f) ∷ ws)
    (in_hand_maps files)

pub in_hand_is : (b : Base) (files : List MadeFile) → map content_of files ≡ contents b
    → in_hand files ≡ generated b
in_hand_is b files e = in_hand_maps files ∙ ap (λ (cs : List Content). map written_as cs) e

pub in_hand_apart : (b : Base) (files : List MadeFile) → map content_of files ≡ contents b
    → AreApart (in_hand files)
in_hand_apart b files e = subst (λ (ws : List ToWrite). AreApart ws) (sym (in_hand_is b files e))
    (generated_apart b)

-- the first of some, and the rest
pub first_and_rest : (files : List MadeFile) (first d : MadeFile) → 1 ≤ length files
    → first ≡ get_or files 0 d
    → in_hand files ≡ written_as (content_of first) ∷ in_hand (drop 1 files)
first_and_rest [] first d le is = absurd (omega (arith, le))
first_and_rest (f ∷ files) first d le is =
    ap (λ (x : MadeFile). written_as (content_of x) ∷ in_hand files) (sym is)

-- ---- files that hold just these
held_all : (ws : List ToWrite) (before after : Told) → IsTrue before.tells
    → AreWritten before after ws → AllByRecursion (λ w. after.holds w.name ≡ Some w.bytes) ws
held_all [] before after tells written = tt
held_all (w ∷ ws) before after tells written = (
  written.0.2 tells,
  held_all ws before after tells written.1,
)

-- files that held nothing hold just what was written
pub holds_just : (ws : List ToWrite) (before after : Told) → IsTrue before.tells
    → after.tells ≡ before.tells → ((name : List ℕ) → before.holds name ≡ None)
    → AllWritten ws before after → HoldsJust ws after
holds_just ws before after tells same none all = record {
  tells = subst (λ (t : Bool). IsTrue t) (sym same) tells;
  held = held_all ws before after tells all.written;
  nothing_else = λ name others. all.kept name others ∙ none name;
}

-- ---- what files in memory hold, those hold that were written since
bytes_or : Option (List ℕ) → List ℕ
bytes_or None = []
bytes_or (Some bytes) = bytes

same_bytes : (a b : List ℕ) (o : Option (List ℕ)) → o ≡ Some a → o ≡ Some b → b ≡ a
unfolding bytes_or
same_bytes a b o x y = ap bytes_or (sym y ∙ x)

holds_of : (before after : Told) (name bytes other : List ℕ) (written : List ℕ)
    → after.tells ≡ before.tells → name ≡ other → written ≡ bytes
    → HoldsWritten before.tells (before.holds other) (after.holds other) written
    → HoldsOf after name bytes
holds_of before after name bytes other written same is eq h = record {
  where_told = subst (λ (n : List ℕ). IfSome (after.holds n) (λ x. x ≡ bytes)) (sym is)
      (subst (λ (x : List ℕ). IfSome (after.holds other) (λ y. y ≡ x)) eq h.0);
  there = λ tells. subst (λ (n : List ℕ). after.holds n ≡ Some bytes) (sym is)
      (subst (λ (x : List ℕ). after.holds other ≡ Some x) eq
      (h.2 (subst (λ (t : Bool). IsTrue t) same tells)));
}

-- a name is one of these, or none
held_or_not : (ws : List ToWrite) (inner before after : Told) (name bytes : List ℕ)
    → after.tells ≡ before.tells → inner.holds name ≡ Some bytes
    → AllByRecursion (λ w. inner.holds w.name ≡ Some w.bytes) ws → AreWritten before after ws
    → HoldsOf after name bytes ⊎ AllByRecursion (λ w. name ≢ w.name) ws
held_or_not [] inner before after name bytes same there held written = inr tt
held_or_not (w ∷ ws) inner before after name bytes same there held written =
    by (bytes_eq name w.name) refl
    (held_or_not ws inner before after name bytes same there held.1 written.1) where
      here : name ≡ w.name → HoldsOf after name bytes
      here is = holds_of before after name bytes w.name w.bytes same is
          (same_bytes bytes w.bytes (inner.holds name) there
          (subst (λ (n : List ℕ). inner.holds n ≡ Some w.bytes) (sym is) held.0)) written.0

      by : (t : Bool) → bytes_eq name w.name ≡ t
          → (HoldsOf after name bytes ⊎ AllByRecursion (λ (v : ToWrite). name ≢ v.name) ws)
          → HoldsOf after name bytes ⊎ AllByRecursion (λ (v : ToWrite). name ≢ v.name) (w ∷ ws)
      by true e rest = inl (here ((bytes_eq-Decides name w.name).0 e))
      by false e rest = elim rest [
        | inl h ↦ inl h
        | inr none ↦ inr (
          not_from_Decides (bytes_eq name w.name) (bytes_eq-Decides name w.name) e,
          none,
        )
      ]

none_some : (bytes : List ℕ) (o : Option (List ℕ)) → o ≡ Some bytes → o ≡ None → ⊥
none_some bytes o x y = absurd cc

pub held_since : (ws : List ToWrite) (inner before after : Told) (name bytes : List ℕ)
    → HoldsJust ws inner → after.tells ≡ before.tells → AreWritten before after ws
    → HoldsOf inner name bytes → HoldsOf after name bytes
held_since ws inner before after name bytes just same written h =
    let there : inner.holds name ≡ Some bytes = h.there just.tells in
    elim (held_or_not ws inner before after name bytes same there just.held written) [
      | inl holds ↦ holds
      | inr none ↦ absurd (none_some bytes (inner.holds name) there (just.nothing_else name none))
    ]
