-- The line of a verdict.
use Rattle.std.specs.Prelude.{ℕ, List, ◌++◌, codes}
use Rattle.std.specs.Fmt.{decimal}
use Rattle.run_verdicts.specs.declared.verdict.Field.{Field}
use Rattle.run_verdicts.specs.declared.verdict.Field.TheVariants as field

-- a field's word, which ends the line
unfoldable pub field_end : Field → List ℕ
field_end field.Place = codes " place\n"
field_end field.Order = codes " order\n"
field_end field.Answer = codes " answer\n"
field_end field.Completion = codes " completion\n"
field_end field.Bytes = codes " bytes\n"
field_end field.Errno = codes " errno\n"
field_end field.Drain = codes " drain\n"

-- `legal N`
abbrev pub legal_line : ℕ → List ℕ
legal_line n = codes "legal " ++ (decimal n ++ codes "\n")

-- `not legal place P FIELD`
abbrev pub not_legal_line : ℕ → Field → List ℕ
not_legal_line place f = codes "not legal place " ++ (decimal place ++ field_end f)
