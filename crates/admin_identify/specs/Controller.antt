-- The page of a controller (Identify Controller data structure), as one table. Offsets and sizes are in
-- bytes; numbers are little-endian.
use Rattle.std.specs.Prelude.{ℕ, List, [], ◌∷◌, ◌++◌, ◌-◌}
use Rattle.sqe_cqe.specs.declared.controllers.Ctrl.{Ctrl}
use Rattle.sqe_cqe.specs.declared.rows.Offers.{Offers}
use Rattle.ana_groups.specs.declared.members.TheConstants.{GROUPS}
use Rattle.async_events.specs.declared.waits.TheConstants.{MOST_WAITING}
use Rattle.look_pages.specs.declared.walk.TheConstants.{PAGE}
use Rattle.look_pages.specs.Tables.{Field, number, text, page_of}
use Rattle.admin_identify.specs.declared.controller.TheConstants.{FR, CMIC, MDTS, VER, OAES, CNTRLTYPE, LPA, KAS, ANATT, ANACAP, SQES, CQES, MAXCMD, SGLS, IOCCSZ, IORCSZ}

-- SN, MN, FR, CMIC, MDTS, CNTLID, VER
abbrev pub identity_fields : Ctrl → List Field
identity_fields c =
    text 4 20 c.serial ∷
    text 24 40 c.model_name ∷
    text 64 8 FR ∷
    number 76 1 CMIC ∷
    number 77 1 MDTS ∷
    number 78 2 c.bound.ctrl ∷
    number 80 4 VER ∷
    []

-- OAES, CNTRLTYPE, AERL (counted from 0), LPA, KAS, ANATT, ANACAP, ANAGRPMAX, NANAGRPID
abbrev pub event_fields : List Field
event_fields =
    number 92 4 OAES ∷
    number 111 1 CNTRLTYPE ∷
    number 259 1 (MOST_WAITING - 1) ∷
    number 261 1 LPA ∷
    number 320 2 KAS ∷
    number 342 1 ANATT ∷
    number 343 1 ANACAP ∷
    number 344 4 GROUPS ∷
    number 348 4 GROUPS ∷
    []

-- SQES, CQES, MAXCMD, NN, ONCS, NWPC, SGLS, MNAN
abbrev pub queue_fields : Offers → List Field
queue_fields offers =
    number 512 1 SQES ∷
    number 513 1 CQES ∷
    number 514 2 MAXCMD ∷
    number 516 4 offers.nsids ∷
    number 520 2 offers.oncs ∷
    number 531 1 offers.nwpc ∷
    number 536 4 SGLS ∷
    number 540 4 offers.nsids ∷
    []

-- SUBNQN (filled up with zeros), IOCCSZ, IORCSZ
abbrev pub transport_fields : Ctrl → List Field
transport_fields c =
    text 768 256 c.subnqn ∷
    number 1792 4 IOCCSZ ∷
    number 1796 4 IORCSZ ∷
    []

abbrev pub controller_fields : Ctrl → Offers → List Field
controller_fields c offers =
    identity_fields c ++ (event_fields ++ (queue_fields offers ++ transport_fields c))

unfoldable pub controller_page : Ctrl → Offers → List ℕ
controller_page c offers = page_of PAGE (controller_fields c offers)
