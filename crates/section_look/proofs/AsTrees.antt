-- What words answer is what the tree answers that they are of.
use Rattle.std.proofs.Common.{◌∙◌, ℕ, List, ap}
use Rattle.ns_table.specs.Kept.{shape_of}
use Rattle.ns_table.specs.Words.{words_of}
use Rattle.ns_table.specs.Looked.{words_answers}
use Rattle.ns_table.proofs.Kept.{trees}
use Rattle.section_look.specs.Trees.{AnswersAsTree}

pub as_tree : (ws : List ℕ) (serial : ℕ) → AnswersAsTree (words_answers ws serial) ws serial
as_tree ws serial t controllers blocks stamps h =
    ap (λ (l : List ℕ). words_answers l serial) h.words
    ∙ (ap (words_answers (words_of (shape_of t controllers blocks stamps))) h.serial_is
    ∙ trees t controllers blocks stamps h.fits h.places)
