-- The properties of a controller: CAP, VS, CC and CSTS, and what a Property Set of CC does.
use Rattle.std.specs.Prelude.{ℕ, ◌+◌, ◌-◌, ◌*◌, ◌/◌, ◌%◌, ◌^◌, ◌==◌, ◌&&◌, ◌||◌, not, Bool, Option, Some, None, if◌then◌else◌}
use Rattle.sqe_cqe.specs.declared.controllers.ControllerRow.{ControllerRow}
use Rattle.fabrics_connect.specs.declared.registers.TheConstants.{CAPABILITIES, VERSION, OFFSET_CAP, OFFSET_VS, OFFSET_CC, OFFSET_CSTS}

-- the bits of a number from `low` on, `size` of them
abbrev pub bits : ℕ → ℕ → ℕ → ℕ
bits low size x = x / 2 ^ low % 2 ^ size

-- CC.EN
abbrev pub is_enabled : ℕ → Bool
is_enabled cc = bits 0 1 cc == 1

-- CC.SHN asks for a shutdown
abbrev pub asks_shutdown : ℕ → Bool
asks_shutdown cc = not (bits 14 2 cc == 0)

-- queue entries of 64 and 16 bytes (IOSQES, IOCQES), pages of 4 KiB (MPS), round robin (AMS), the
-- NVM command set (CSS)
abbrev pub can_enable : ℕ → Bool
can_enable cc =
    (bits 16 4 cc == 6)
    && ((bits 20 4 cc == 4) && ((bits 7 4 cc == 0) && ((bits 11 3 cc == 0) && (bits 4 3 cc == 0))))

pub record Registers : Type 0 where
  pub cc : ℕ
  pub csts : ℕ

-- bit 0 (RDY) cleared
abbrev pub not_ready : ℕ → ℕ
not_ready csts = csts - bits 0 1 csts

-- bits 3:2 (SHST) made 10b: shutdown is complete
abbrev pub shut_down : ℕ → ℕ
shut_down csts = csts - bits 2 2 csts * 4 + 8

-- CC becomes v. Where EN rises, CSTS is RDY, or CFS where v can't be met. Where EN falls, RDY and
-- CC are cleared.
abbrev pub by_enable : Registers → ℕ → Registers
by_enable old v =
    if is_enabled v && not (is_enabled old.cc)
    then record { cc = v; csts = if can_enable v then 1 else 2 }
    else (if is_enabled old.cc && not (is_enabled v)
    then record { cc = 0; csts = not_ready old.csts }
    else record { cc = v; csts = old.csts })

-- a shutdown that v asks for, and CC didn't: RDY is cleared, SHST says complete, CC is cleared
abbrev pub by_shutdown : Registers → ℕ → Registers → Registers
by_shutdown old v new =
    if asks_shutdown v && not (asks_shutdown old.cc)
    then record { cc = 0; csts = shut_down (not_ready new.csts) }
    else new

-- CC and CSTS after a Property Set of v: enable or disable, then shutdown
unfoldable pub registers_after : Registers → ℕ → Registers
registers_after old v = by_shutdown old v (by_enable old v)

abbrev pub registers_of : ControllerRow → Registers
registers_of c = record { cc = c.cc; csts = c.csts }

abbrev pub with_registers : ControllerRow → Registers → ControllerRow
with_registers c r = record c { cc = r.cc; csts = r.csts }

-- the controller after a Property Set of v
unfoldable pub after_set : ℕ → ControllerRow → ControllerRow
after_set v c = with_registers c (registers_after (registers_of c) v)

-- CC or CSTS differ
abbrev pub differ : ControllerRow → ControllerRow → Bool
differ c d = not (c.cc == d.cc) || not (c.csts == d.csts)

-- the property at an offset, in eight bytes or in four
unfoldable pub property_at : ControllerRow → Bool → ℕ → Option ℕ
property_at c is_long offset =
    if is_long then (if offset == OFFSET_CAP then Some CAPABILITIES else None)
    else (if offset == OFFSET_VS then Some VERSION
    else (if offset == OFFSET_CC then Some c.cc
    else (if offset == OFFSET_CSTS then Some c.csts
    else None)))
