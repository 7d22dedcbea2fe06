-- The one line that is put where a run did not end well. FILE is the name as the command line or the
-- plan has it.
use Rattle.std.specs.Prelude.{ℕ, ◌==◌, if◌then◌else◌, List, [], ◌∷◌, ◌++◌, codes}
use Rattle.std.specs.Fmt.{decimal}
use Rattle.configfs_tree.specs.declared.edits.Errno.{Errno}
use Rattle.configfs_tree.specs.Errnos.{name_of}
use Rattle.plan_files.specs.Words.{word_of}
use Rattle.plan_files.specs.declared.limits.What.{What}
use Rattle.run_outcomes.specs.declared.faults.At.{At}
use Rattle.run_outcomes.specs.declared.faults.At.TheVariants as at
use Rattle.run_outcomes.specs.declared.numbers.TheConstants.{SINK}
use Rattle.run_outcomes.specs.declared.faults.Fault.{Fault}
use Rattle.run_outcomes.specs.declared.faults.Fault.TheVariants as fault

abbrev pub usage_line : List ℕ
usage_line = codes "usage: nvmetd run PLAN | check PLAN | show PLAN | gen N NAME" ++ 10 ∷ []

unfoldable pub malformed_line : List ℕ → At → List ℕ
malformed_line file (at.Line line) = (codes "malformed " ++ file)
    ++ (codes " line " ++ (decimal line ++ 10 ∷ []))
malformed_line file (at.Offset offset) = (codes "malformed " ++ file)
    ++ (codes " offset " ++ (decimal offset ++ 10 ∷ []))
malformed_line file at.Json = (codes "malformed " ++ file) ++ codes " json\n"
malformed_line file (at.Shape pointer) = (codes "malformed " ++ file)
    ++ ((codes " member " ++ pointer) ++ codes "\n")

abbrev pub limit_line : List ℕ → What → ℕ → List ℕ
limit_line file what count = (codes "limit " ++ file) ++ ((codes " " ++ word_of what)
    ++ (codes " " ++ (decimal count ++ 10 ∷ [])))

abbrev pub config_line : ℕ → Errno → List ℕ
config_line edit errno = (codes "config edit " ++ decimal edit)
    ++ ((codes " " ++ name_of errno) ++ codes "\n")

-- `malformed FILE line L`, `malformed FILE offset O`, `malformed FILE json`,
-- `malformed FILE member POINTER`, `cannot read FILE`, `cannot write FILE`, `out of memory`,
-- `limit FILE WHAT COUNT`, `config edit N ERRNO`; nothing where the sink itself failed
unfoldable pub line_of : List ℕ → Fault → List ℕ
line_of file (fault.Malformed f place) = malformed_line file place
line_of file (fault.ReadFault f) = (codes "cannot read " ++ file) ++ 10 ∷ []
line_of file (fault.WriteFault f) = if f.0 == SINK.0 then [] else (codes "cannot write " ++ file)
    ++ 10 ∷ []
line_of file fault.Memory = codes "out of memory" ++ 10 ∷ []
line_of file (fault.Limit f what count) = limit_line file what count
line_of file (fault.ConfigRefused edit errno) = config_line edit errno
