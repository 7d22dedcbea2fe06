-- The plan, the configuration and the script of a generated plan, as texts.
use Rattle.std.specs.Prelude.{ℕ, List, ◌++◌, codes}
use Rattle.std.specs.List.{flat_map, range_with_len}

-- a line that names a file of the plan
unfoldable pub named_line : List ℕ → List ℕ → List ℕ → List ℕ
named_line before name after = before ++ name ++ after

-- the line of a queue at port 1, by its digit: its capsule file and its response file
unfoldable pub queue_line : List ℕ → List ℕ → List ℕ
queue_line name digit = codes "queue 1 " ++ name ++ codes ".q" ++ digit ++ codes " " ++ name
    ++ codes ".r" ++ digit ++ codes "\n"

-- a disk of 2,048 blocks of 512 bytes, and one of 256 blocks of 4,096 bytes
unfoldable pub disk_lines : List ℕ
disk_lines = codes "nvmet-plan 1\ndisk /dev/ram0 9 2048\ndisk /dev/ram1 12 256\n"

-- the configuration, the script and the journal
unfoldable pub file_lines : List ℕ → List ℕ
file_lines name = named_line (codes "config ") name (codes ".json\n")
    ++ named_line (codes "script ") name (codes ".script\n")
    ++ named_line (codes "journal ") name (codes ".journal\n")

unfoldable pub queue_lines : List ℕ → List ℕ
queue_lines name = queue_line name (codes "1") ++ queue_line name (codes "2")
    ++ queue_line name (codes "3") ++ queue_line name (codes "4")

unfoldable pub plan_text : List ℕ → List ℕ
plan_text name = disk_lines ++ file_lines name ++ queue_lines name

-- The configuration as nvmetcli saves it: port 1 of transport type `loop` links the subsystem `gen`,
-- which any host may use and which has namespaces 1 and 2, enabled on the two disks. All else is as
-- it is when its folder is made.
unfoldable pub configuration_text : List ℕ
configuration_text = codes "{\"hosts\":[],\"ports\":[{\"addr\":{\"adrfam\":\"\",\"traddr\":\"\",\"treq\":\"not specified\",\"trsvcid\":\"\",\"trtype\":\"loop\"},\"ana_groups\":[{\"ana\":{\"state\":\"optimized\"},\"grpid\":1}],\"portid\":1,\"referrals\":[],\"subsystems\":[\"gen\"]}],\"subsystems\":[{\"allowed_hosts\":[],\"attr\":{\"allow_any_host\":\"1\",\"model\":\"Linux\",\"serial\":\"00000000000000000001\"},\"namespaces\":[{\"ana_grpid\":1,\"device\":{\"nguid\":\"00000000-0000-0000-0000-000000000000\",\"path\":\"/dev/ram0\",\"uuid\":\"00000000-0000-0000-0000-000000000000\"},\"enable\":1,\"nsid\":1},{\"ana_grpid\":1,\"device\":{\"nguid\":\"00000000-0000-0000-0000-000000000000\",\"path\":\"/dev/ram1\",\"uuid\":\"00000000-0000-0000-0000-000000000000\"},\"enable\":1,\"nsid\":2}],\"nqn\":\"gen\"}]}"

-- namespace 2 is disabled, and then enabled again
unfoldable pub round_trip : List ℕ
round_trip = codes "set subsystems/gen/namespaces/2 enable 0\nset subsystems/gen/namespaces/2 enable 1\n"

-- eight times
unfoldable pub script_text : List ℕ
script_text = flat_map (λ n. round_trip) (range_with_len 0 8)
