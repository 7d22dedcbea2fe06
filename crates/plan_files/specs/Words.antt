-- The words for what a passed limit counts.
use Rattle.std.specs.Prelude.{ℕ, List, codes}
use Rattle.plan_files.specs.declared.limits.What.{What}
use Rattle.plan_files.specs.declared.limits.What.TheVariants.{Bytes, Lines, Capsules, Data, Output, AllInput, AllOutput, Disks, DiskBytes, AllDiskBytes, Queues}

abbrev pub word_of : What → List ℕ
word_of Bytes = codes "bytes"
word_of Lines = codes "lines"
word_of Capsules = codes "capsules"
word_of Data = codes "data"
word_of Output = codes "output"
word_of AllInput = codes "all-input"
word_of AllOutput = codes "all-output"
word_of Disks = codes "disks"
word_of DiskBytes = codes "disk-bytes"
word_of AllDiskBytes = codes "all-disk-bytes"
word_of Queues = codes "queues"
