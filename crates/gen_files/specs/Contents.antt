-- The seven files of a generated plan.
use Rattle.std.specs.Prelude.{ℕ, List, [], ◌∷◌, ◌++◌, codes}
use Rattle.gen_files.specs.Seeds.{Base}
use Rattle.gen_files.specs.Texts.{plan_text, configuration_text, script_text}
use Rattle.gen_files.specs.Commands.{admin_queue_bytes, io_queue_bytes}
use Rattle.gen_files.specs.declared.made.MadeFile.{MadeFile}

-- a file by the number that it has in its plan and by its name, with its bytes
pub record Content : Type 0 where
  pub number : ℕ
  pub name : List ℕ
  pub bytes : List ℕ

abbrev pub content : ℕ → List ℕ → List ℕ → Content
content number name bytes = record { number = number; name = name; bytes = bytes }

abbrev pub content_of : MadeFile → Content
content_of f = content f.number f.name f.bytes.items

abbrev pub plan_name : List ℕ → List ℕ
plan_name name = name ++ codes ".plan"

-- the files, in the order in which they are written
unfoldable pub contents : Base → List Content
contents b =
    content 0 (plan_name b.name) (plan_text b.name)
    ∷ content 1 (b.name ++ codes ".json") configuration_text
    ∷ content 2 (b.name ++ codes ".script") script_text
    ∷ content 4 (b.name ++ codes ".q1") admin_queue_bytes
    ∷ content 6 (b.name ++ codes ".q2") (io_queue_bytes b.rounds 1)
    ∷ content 8 (b.name ++ codes ".q3") (io_queue_bytes b.rounds 2)
    ∷ content 10 (b.name ++ codes ".q4") (io_queue_bytes b.rounds 3)
    ∷ []
