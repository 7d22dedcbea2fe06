-- The names of errnos, as texts have them.
use Rattle.std.specs.Prelude.{ℕ, List, codes}
use Rattle.configfs_tree.specs.declared.edits.Errno.{Errno}
use Rattle.configfs_tree.specs.declared.edits.Errno.TheVariants.{EPERM, ENOENT, EACCES, EBUSY, EEXIST, EINVAL, ENOTEMPTY, ENOSPC}

abbrev pub name_of : Errno → List ℕ
name_of EPERM = codes "EPERM"
name_of ENOENT = codes "ENOENT"
name_of EACCES = codes "EACCES"
name_of EBUSY = codes "EBUSY"
name_of EEXIST = codes "EEXIST"
name_of EINVAL = codes "EINVAL"
name_of ENOTEMPTY = codes "ENOTEMPTY"
name_of ENOSPC = codes "ENOSPC"
