-- What a generated plan says.
use Rattle.std.specs.Prelude.{ℕ, false, List, [], ◌∷◌, ◌++◌, codes, Some}
use Rattle.mem_bdev.specs.declared.disk.DiskLine.{DiskLine}
use Rattle.plan_files.specs.declared.items.Item.{Item}
use Rattle.plan_files.specs.declared.items.Item.TheVariants.{Disk, Config, Script, Journal, Queue}
use Rattle.plan_files.specs.declared.items.Plan.{Plan}
use Rattle.plan_files.specs.declared.items.QueueLine.{QueueLine}

-- 2,048 blocks of 512 bytes, and 256 of 4,096 bytes
abbrev pub first_disk : DiskLine
first_disk = record { path = codes "/dev/ram0"; shift = 9; blocks = 2048 }

abbrev pub second_disk : DiskLine
second_disk = record { path = codes "/dev/ram1"; shift = 12; blocks = 256 }

-- a queue at port 1, by the endings of its files' names
abbrev pub queue_of : List ℕ → List ℕ → List ℕ → QueueLine
queue_of name capsules responses = record {
  port = 1;
  capsules = name ++ capsules;
  responses = name ++ responses;
}

abbrev pub items_of : List ℕ → List Item
items_of name =
    Disk first_disk
    ∷ Disk second_disk
    ∷ Config (name ++ codes ".json")
    ∷ Script (name ++ codes ".script")
    ∷ Journal (name ++ codes ".journal")
    ∷ Queue (queue_of name (codes ".q1") (codes ".r1"))
    ∷ Queue (queue_of name (codes ".q2") (codes ".r2"))
    ∷ Queue (queue_of name (codes ".q3") (codes ".r3"))
    ∷ Queue (queue_of name (codes ".q4") (codes ".r4"))
    ∷ []

abbrev pub plan_of : List ℕ → Plan
plan_of name = record {
  simple = false;
  disks = first_disk ∷ second_disk ∷ [];
  config = Some (name ++ codes ".json");
  script = Some (name ++ codes ".script");
  journal = Some (name ++ codes ".journal");
  queues =
      queue_of name (codes ".q1") (codes ".r1")
      ∷ queue_of name (codes ".q2") (codes ".r2")
      ∷ queue_of name (codes ".q3") (codes ".r3")
      ∷ queue_of name (codes ".q4") (codes ".r4")
      ∷ [];
}
