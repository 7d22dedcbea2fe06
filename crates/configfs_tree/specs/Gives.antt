-- What a call that makes an edit answers and leaves: a refusal and want of memory leave the tree as
-- it was.
use Rattle.std.specs.Prelude.{◌≡◌, Bool, false, IsTrue, Result, Ok, Err}
use Rattle.configfs_tree.specs.declared.edits.Change.{Change}
use Rattle.configfs_tree.specs.declared.edits.Refused.{Refused}
use Rattle.configfs_tree.specs.declared.edits.Refused.TheVariants as refused
use Rattle.configfs_tree.specs.declared.edits.Errno.{Errno}
use Rattle.configfs_tree.specs.declared.configuration.Configuration.{Configuration}
use Rattle.configfs_tree.specs.Outcome.{Outcome, Refuses, Accepts}

-- the table accepts the edit, and something changes
abbrev pub is_made : Outcome → Bool
is_made (Refuses errno) = false
is_made (Accepts u change) = change.published

-- want of memory comes only of a kind of edit that grows something, where the table accepts it and
-- something changes
abbrev pub Gives : Bool → Outcome → Configuration → Result Change Refused → Configuration → Type 0
Gives grows outcome old (Ok change) new = outcome ≡ Accepts new change
Gives grows outcome old (Err (refused.Errno errno)) new = (outcome ≡ Refuses errno) × (new ≡ old)
Gives grows outcome old (Err refused.Memory) new = (new ≡ old) × IsTrue grows
    × IsTrue (is_made outcome)

-- the same of an edit that takes no memory
abbrev pub GivesErrno : Outcome → Configuration → Result Change Errno → Configuration → Type 0
GivesErrno outcome old (Ok change) new = outcome ≡ Accepts new change
GivesErrno outcome old (Err errno) new = (outcome ≡ Refuses errno) × (new ≡ old)

abbrev pub with_errno : Result Change Errno → Result Change Refused
with_errno (Ok change) = Ok change
with_errno (Err errno) = Err (refused.Errno errno)
