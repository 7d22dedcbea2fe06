-- Where the words of a configuration stand. Each stride is fixed, so that two places are apart by
-- linear arithmetic.
use Rattle.std.specs.Prelude.{◌≡◌, ◌≤◌, ◌<◌, ℕ, ◌+◌, ◌-◌, ◌*◌, ◌/◌, ◌%◌, nat_lt, if◌then◌else◌}
use Rattle.ns_table.specs.declared.layout.TheConstants.{WORDS}

-- what a word tells
pub data Place : Type 0 where
  -- whether an enabled namespace is on a disk, from 0
  Shown : ℕ → Place
  -- whether a controller is ready, from 1
  Ready : ℕ → Place
  -- how many ANA changes there were
  Changes : Place
  -- the stamps of the ANA changes of a subsystem and of a port, by position
  SubsystemStamp : ℕ → Place
  PortStamp : ℕ → Place
  -- the state of a group, from 1, at the port at a position
  State : ℕ → ℕ → Place
  -- a part of what stands at an NSID, from 1, of the subsystem at a position
  Space : ℕ → ℕ → ℕ → Place

-- the first word of an NSID of a subsystem
abbrev pub space_at : ℕ → ℕ → ℕ
space_at sub nsid = 1133 + 11 * (2048 * sub + nsid)

abbrev pub at : Place → ℕ
at (Shown disk) = disk
at (Ready ctrl) = 63 + ctrl
at Changes = 95
at (SubsystemStamp sub) = 96 + sub
at (PortStamp port) = 112 + port
at (State port group) = 119 + (128 * port + group)
at (Space sub nsid part) = space_at sub nsid + part

-- what there is in a table
abbrev pub IsNsid : ℕ → ℕ → Type 0
IsNsid sub nsid = (sub < 16) × (1 ≤ nsid) × (nsid ≤ 2048)

abbrev pub IsGroup : ℕ → ℕ → Type 0
IsGroup port group = (port < 8) × (1 ≤ group) × (group ≤ 128)

abbrev pub IsController : ℕ → Type 0
IsController ctrl = (1 ≤ ctrl) × (ctrl ≤ 31)

abbrev pub IsWithin : Place → Type 0
IsWithin (Shown disk) = disk < 64
IsWithin (Ready ctrl) = IsController ctrl
IsWithin Changes = Unit {0}
IsWithin (SubsystemStamp sub) = sub < 16
IsWithin (PortStamp port) = port < 8
IsWithin (State port group) = IsGroup port group
IsWithin (Space sub nsid part) = IsNsid sub nsid × (part < 11)

-- what the word at a position tells
abbrev pub space_place : ℕ → Place
space_place k = Space (k / 11 / 2048) (k / 11 % 2048 + 1) (k % 11)

abbrev pub place_at : ℕ → Place
place_at w = if nat_lt w 64 then Shown w
    else (if nat_lt w 95 then Ready (w - 63)
    else (if nat_lt w 96 then Changes
    else (if nat_lt w 112 then SubsystemStamp (w - 96)
    else (if nat_lt w 120 then PortStamp (w - 112)
    else (if nat_lt w 1144 then State ((w - 120) / 128) ((w - 120) % 128 + 1)
    else space_place (w - 1144))))))

-- each word stands below the number of words ..
abbrev pub PositionsAreBelow : Type 0
PositionsAreBelow = (p : Place) → IsWithin p → at p < WORDS

-- .. and no two at one position
abbrev pub PositionsAreDistinct : Type 0
PositionsAreDistinct = (p q : Place) → IsWithin p → IsWithin q → at p ≡ at q → p ≡ q

-- and each position has a word
pub record IsPlaced (w : ℕ) : Type 0 where
  pub within : IsWithin (place_at w)
  pub there : at (place_at w) ≡ w

abbrev pub PositionsAreUsed : Type 0
PositionsAreUsed = (w : ℕ) → w < WORDS → IsPlaced w
