-- A generated script is read.
use Rattle.std.proofs.Common.{◌≡◌, ℕ, ◌+◌, ◌*◌, false, List, [], ◌∷◌, Some, None, Ok, refl, arith, inl, take_all}
use Rattle.std.specs.Prelude.{codes, position}
use Rattle.std.specs.List.{AllByRecursion, flat_map, range_with_len}
use Rattle.text_lines.specs.Lines.{is_passed_over, lines_of}
use Rattle.script_lines.specs.Script.{is_text}
use Rattle.plan_files.specs.Spelling.{is_numeral, number_of}
use Rattle.configfs_rows.specs.Nqns.{is_nqn}
use Rattle.link_rules.specs.Reading.{inner_folder, nqn_of, number_below, set_of, set_said}
use Rattle.link_rules.specs.declared.edits.Edit.{Edit}
use Rattle.script_edits.specs.Script.{edit_in, is_bad, numbered, script_in}
use Rattle.run_transcript.specs.declared.scripts.ScriptEdit.{ScriptEdit}
use Rattle.response_files.proofs.Rows.{IsLine, ended, rows_cut}
use Rattle.gen_files.specs.Texts.{round_trip, script_text}
use Rattle.gen_reading.specs.Scripts.{set_enable, on_line, script_of}
use Rattle.gen_reading.proofs.Plans.{line_is}

abbrev disable : List ℕ
disable = codes "set subsystems/gen/namespaces/2 enable 0"

abbrev enable : List ℕ
enable = codes "set subsystems/gen/namespaces/2 enable 1"

disable_says : edit_in disable ≡ Some (set_enable (codes "0"))
unfolding edit_in is_text inner_folder nqn_of number_below set_of set_said is_numeral number_of is_nqn
disable_says = refl

enable_says : edit_in enable ≡ Some (set_enable (codes "1"))
unfolding edit_in is_text inner_folder nqn_of number_below set_of set_said is_numeral number_of is_nqn
enable_says = refl

-- two lines, eight times
abbrev rows_of : List ℕ → List ℕ → List (List ℕ)
rows_of first second = flat_map (λ n. first ∷ second ∷ []) (range_with_len 0 8)

abbrev edits_of : Edit → Edit → List ScriptEdit
edits_of x y = flat_map (λ n. on_line (2 * n + 1) x ∷ on_line (2 * n + 1 + 1) y ∷ [])
    (range_with_len 0 8)

none_bad : (first second : List ℕ) (x y : Edit) → is_passed_over first ≡ false
    → is_passed_over second ≡ false → edit_in first ≡ Some x → edit_in second ≡ Some y
    → position is_bad (rows_of first second) ≡ None
none_bad first second x y a b e f = rw (a, b, e, f) refl

are_numbered : (first second : List ℕ) (x y : Edit) → is_passed_over first ≡ false
    → is_passed_over second ≡ false → edit_in first ≡ Some x → edit_in second ≡ Some y
    → numbered 1 (rows_of first second) ≡ edits_of x y
are_numbered first second x y a b e f = rw (a, b, e, f) refl

all_rows : (P : List ℕ → Type 0) (first second : List ℕ) → P first → P second
    → AllByRecursion P (rows_of first second)
all_rows P first second p q = (p, (q, (p, (q, (p, (q, (p, (q, (p, (q, (p, (q, (p, (q, (p, (q, tt))))))))))))))))

text_is : script_text ≡ ended (rows_of disable enable)
unfolding script_text round_trip
text_is = refl

pub script_read : script_in script_text ≡ Ok script_of
unfolding script_in
script_read =
    let lines : lines_of script_text ≡ rows_of disable enable =
    rows_cut script_text (rows_of disable enable)
    (all_rows IsLine disable enable (line_is _ _ refl) (line_is _ _ refl)) (inl text_is) in
    rw (
      lines,
      take_all 65536 (rows_of disable enable) (omega arith),
      none_bad disable enable _ _ refl refl disable_says enable_says,
      are_numbered disable enable _ _ refl refl disable_says enable_says,
    ) refl
