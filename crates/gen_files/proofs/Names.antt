-- The names of generated files are texts.
use Rattle.std.proofs.Common.{◌≡◌, ◌<◌, ℕ, Bool, true, false, ◌&&◌, leb, List, [], ◌∷◌, length, refl, arith}
use Rattle.std.proofs.lemmas.Bool.Decides.{nat_tests}
use Rattle.std.specs.Prelude.{IsUtf8}
use Rattle.std.specs.Char.{is_ascii_graphic}
use Rattle.std.specs.List.{list_all}
use Rattle.std.specs.Str.{IsAscii}
use Rattle.std.proofs.lemmas.Str.{IsUtf8-from_ascii}
use Rattle.std.proofs.lemmas.Str.Ascii.{IsAscii-nil, IsAscii-cons}
use Rattle.plan_files.specs.declared.line_items.TheConstants.{MAX_NAME}
use Rattle.plan_files.specs.Spelling.{is_name}
use Rattle.gen_files.specs.Seeds.{is_base, is_base_name}

and-parts : (a b : Bool) → (a && b) ≡ true → (a ≡ true) × (b ≡ true)
and-parts true true e = (refl, refl)
and-parts true false e = absurd cc
and-parts false b e = absurd cc

graphic : (b : ℕ) → is_ascii_graphic b ≡ true → b < 128
graphic b e = grind (arith, nat_tests)

ascii : (bs : List ℕ) → list_all is_ascii_graphic bs ≡ true → IsAscii bs
ascii [] e = IsAscii-nil
ascii (b ∷ bs) e = let p = and-parts (is_ascii_graphic b) (list_all is_ascii_graphic bs) e in
    IsAscii-cons b bs (graphic b p.0) (ascii bs p.1)

name-graphic : (name : List ℕ) → is_name name ≡ true → list_all is_ascii_graphic name ≡ true
unfolding is_name
name-graphic name e = (and-parts (leb 1 (length name) && leb (length name) MAX_NAME)
    (list_all is_ascii_graphic name) e).1

pub base_name_is_text : (name : List ℕ) → is_base_name name ≡ true → IsUtf8 name
unfolding is_base_name
base_name_is_text name e = IsUtf8-from_ascii name
    (ascii name (name-graphic name (and-parts (is_name name) (leb (length name) 200) e).0))

pub base_is_text : (rounds : ℕ) (name : List ℕ) → is_base rounds name ≡ true → IsUtf8 name
base_is_text rounds name e = base_name_is_text name
    (and-parts (leb 1 rounds && leb rounds 4096) (is_base_name name) e).1
