-- The name of a plan is a text.
use Rattle.std.proofs.Common.{◌≡◌, ◌≤◌, ◌<◌, ℕ, Bool, true, false, ◌&&◌, List, [], ◌∷◌, length, refl, arith}
use Rattle.std.specs.Prelude.{nat_eq, nat_le, not, codes, IsUtf8}
use Rattle.std.specs.List.{list_all, starts_with, AllByRecursion}
use Rattle.std.proofs.lemmas.Bool.{leb-true}
use Rattle.std.proofs.lemmas.Str.{IsUtf8-from_ascii}
use Rattle.std.proofs.lemmas.Str.Ascii.{IsAscii-from_all}
use Rattle.std.proofs.lemmas.List.Elements.{All-from_recursion}
use Rattle.plan_files.specs.Spelling.{is_name}
use Rattle.command_words.specs.Commands.{is_plan_name}

and_left : (a b : Bool) → (a && b) ≡ true → a ≡ true
and_left true b e = refl
and_left false b e = absurd cc

and_right : (a b : Bool) → (a && b) ≡ true → b ≡ true
and_right true b e = e
and_right false b e = absurd cc

all_ascii : (bytes : List ℕ) → list_all (λ b. nat_le 33 b && nat_le b 126) bytes ≡ true
    → AllByRecursion (λ b. b < 128) bytes
all_ascii [] e = tt
all_ascii (b ∷ bytes) e =
    let here = and_left (nat_le 33 b && nat_le b 126) _ e in
    let small : b ≤ 126 = leb-true b 126 (and_right (nat_le 33 b) _ here) in
    (omega arith, all_ascii bytes (and_right (nat_le 33 b && nat_le b 126) _ e))

name_is_text : (name : List ℕ) → is_name name ≡ true → IsUtf8 name
unfolding is_name
name_is_text name e =
    IsUtf8-from_ascii name (IsAscii-from_all name (All-from_recursion (λ b. b < 128) name
    (all_ascii name (and_right (nat_le 1 (length name) && nat_le (length name) 255) _ e))))

pub plan_name_is_text : (name : List ℕ) → is_plan_name name ≡ true → IsUtf8 name
plan_name_is_text name e = name_is_text name (and_left (is_name name)
    (not (starts_with nat_eq name (codes "-"))) e)
