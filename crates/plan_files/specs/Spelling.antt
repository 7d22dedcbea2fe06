-- What one line of a plan says, and how it is spelled.
use Rattle.std.specs.Prelude.{ℕ, ◌^◌, ◌==◌, nat_lt, nat_le, Bool, true, not, ◌&&◌, ◌||◌, if◌then◌else◌, List, [], ◌∷◌, length, codes, slice_index, Option, Some, None}
use Rattle.std.specs.Char.{is_ascii_digit, is_ascii_graphic}
use Rattle.std.specs.List.{list_all, join_with_byte}
use Rattle.std.specs.Str.{bytes_eq}
use Rattle.std.specs.Str.Parse.{digits_value}
use Rattle.std.specs.Option.{option_and_then}
use Rattle.std.specs.Fmt.{decimal}
use Rattle.mem_bdev.specs.declared.disk.DiskLine.{DiskLine}
use Rattle.plan_files.specs.declared.items.QueueLine.{QueueLine}
use Rattle.plan_files.specs.declared.items.Item.{Item}
use Rattle.plan_files.specs.declared.items.Item.TheVariants.{Simple, Disk, Config, Script, Journal, Queue}
use Rattle.plan_files.specs.declared.line_items.TheConstants.{MAX_NAME}
use Rattle.text_lines.specs.Lines.{words_of}

-- the words of a line that says an item
abbrev pub item_words : Item → List (List ℕ)
item_words Simple = codes "simple" ∷ []
item_words (Disk d) = codes "disk" ∷ d.path ∷ decimal d.shift ∷ decimal d.blocks ∷ []
item_words (Config name) = codes "config" ∷ name ∷ []
item_words (Script name) = codes "script" ∷ name ∷ []
item_words (Journal name) = codes "journal" ∷ name ∷ []
item_words (Queue q) = codes "queue" ∷ decimal q.port ∷ q.capsules ∷ q.responses ∷ []

-- the line that says an item: its words, with one space between each two
abbrev pub spelling : Item → List ℕ
spelling item = join_with_byte 32 (item_words item)

-- a name has 1 to 255 bytes from 21h to 7Eh
unfoldable pub is_name : List ℕ → Bool
is_name name = nat_le 1 (length name) && nat_le (length name) MAX_NAME
    && list_all is_ascii_graphic name

-- a disk has a name, blocks of 512 or 4,096 bytes, and from 1 block to one below 2 ^ 52
unfoldable pub fits_disk : DiskLine → Bool
fits_disk d = is_name d.path && (d.shift == 9 || d.shift == 12) && nat_le 1 d.blocks
    && nat_lt d.blocks (2 ^ 52)

unfoldable pub fits_queue : QueueLine → Bool
fits_queue q = nat_lt q.port 65536 && is_name q.capsules && is_name q.responses

-- what a line may say
abbrev pub fits : Item → Bool
fits Simple = true
fits (Disk d) = fits_disk d
fits (Config name) = is_name name
fits (Script name) = is_name name
fits (Journal name) = is_name name
fits (Queue q) = fits_queue q

-- ---- reading a line

-- digits alone, with no leading zero but in `0` itself
unfoldable pub is_numeral : List ℕ → Bool
is_numeral word = nat_le 1 (length word) && (length word == 1 || not (slice_index word 0 == 48))
    && list_all is_ascii_digit word

-- a number below 2 ^ 64
unfoldable pub number_of : List ℕ → Option ℕ
number_of word = if is_numeral word && nat_lt (digits_value 10 word) (2 ^ 64) then Some
    (digits_value 10 word) else None

-- an item that a line may say
abbrev pub if_fits : Item → Option Item
if_fits item = if fits item then Some item else None

unfoldable pub disk_of : List ℕ → List ℕ → List ℕ → Option Item
disk_of path shift blocks =
    option_and_then
    (λ s. option_and_then (λ n. if_fits (Disk (record { path = path; shift = s; blocks = n })))
    (number_of blocks)) (number_of shift)

unfoldable pub queue_of : List ℕ → List ℕ → List ℕ → Option Item
queue_of port capsules responses =
    option_and_then
    (λ n. if_fits (Queue (record { port = n; capsules = capsules; responses = responses })))
    (number_of port)

unfoldable pub file_of : List ℕ → List ℕ → Option Item
file_of kind name =
    if bytes_eq kind (codes "config") then if_fits (Config name) else
    (if bytes_eq kind (codes "script") then if_fits (Script name) else
    (if bytes_eq kind (codes "journal") then if_fits (Journal name) else None))

unfoldable pub table_of : List ℕ → List ℕ → List ℕ → List ℕ → Option Item
table_of kind first second third =
    if bytes_eq kind (codes "disk") then disk_of first second third else
    (if bytes_eq kind (codes "queue") then queue_of first second third else None)

-- the item that these words say
abbrev pub said_by : List (List ℕ) → Option Item
said_by [] = None
said_by (kind ∷ []) = if bytes_eq kind (codes "simple") then Some Simple else None
said_by (kind ∷ name ∷ []) = file_of kind name
said_by (kind ∷ first ∷ second ∷ []) = None
said_by (kind ∷ first ∷ second ∷ third ∷ []) = table_of kind first second third
said_by (kind ∷ first ∷ second ∷ third ∷ more ∷ rest) = None

-- the item that a line says
abbrev pub item_in : List ℕ → Option Item
item_in line = said_by (words_of line)
