-- The page of a namespace (Identify Namespace data structure of the NVM Command Set), as one table.
use Rattle.std.specs.Prelude.{ℕ, ◌*◌, List, [], ◌∷◌}
use Rattle.sqe_cqe.specs.declared.rows.NsRow.{NsRow}
use Rattle.sqe_cqe.specs.declared.rows.Seen.{Seen}
use Rattle.sqe_cqe.specs.declared.rows.Seen.TheVariants.{NotConfigured, Off, On}
use Rattle.sqe_cqe.specs.declared.rows.Ana.{Ana}
use Rattle.sqe_cqe.specs.declared.rows.Ana.TheVariants.{Optimized, NonOptimized, Inaccessible, PersistentLoss, Changing}
use Rattle.sqe_cqe.specs.Answers.{View}
use Rattle.look_pages.specs.declared.walk.TheConstants.{PAGE}
use Rattle.look_pages.specs.Pages.{zeros}
use Rattle.look_pages.specs.Tables.{Field, number, text, page_of}
use Rattle.admin_identify.specs.declared.namespace.TheConstants.{NMIC}

-- none where the state of the group keeps a host from the blocks
abbrev pub used_blocks : NsRow → Ana → ℕ
used_blocks row Optimized = row.blocks
used_blocks row NonOptimized = row.blocks
used_blocks row Inaccessible = 0
used_blocks row PersistentLoss = 0
used_blocks row Changing = row.blocks

-- NSZE, NCAP, NUSE, FLBAS, NMIC, RESCAP, ANAGRPID, NSATTR, NGUID, LBAF0 (the base 2 logarithm of the
-- block size in its third byte)
abbrev pub namespace_fields : NsRow → ℕ → ℕ → ℕ → List Field
namespace_fields row nuse rescap marks =
    number 0 8 row.blocks ∷
    number 8 8 row.blocks ∷
    number 16 8 nuse ∷
    number 26 1 0 ∷
    number 30 1 NMIC ∷
    number 31 1 rescap ∷
    number 92 4 row.group ∷
    number 99 1 marks ∷
    text 104 16 row.nguid ∷
    number 128 4 (row.shift * 65536) ∷
    []

-- of an enabled namespace; else all zero
unfoldable pub namespace_page : View → Seen → ℕ → List ℕ
namespace_page v NotConfigured nsid = zeros PAGE
namespace_page v Off nsid = zeros PAGE
namespace_page v (On row) nsid =
    page_of PAGE (namespace_fields row (used_blocks row (v.ana row.group)) v.offers.rescap (v.marks nsid))
