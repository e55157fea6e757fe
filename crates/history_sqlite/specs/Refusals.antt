-- What a refusal of the database is for a keeper.
use Rattle.sqlite.specs.declared.error.Error.{Error}
use Rattle.sqlite.specs.declared.error.Error.TheVariants.{SqliteFailure}
use Rattle.sqlite.specs.declared.error.ErrorCode.TheVariants.{OutOfMemory}
use Rattle.history_keeper.specs.declared.refusal.KeeperRefusal.{KeeperRefusal}
use Rattle.history_keeper.specs.declared.refusal.KeeperRefusal.TheVariants.{Fault, NoMemory}

-- Want of memory, and all else is a fault.
abbrev pub refusal_of : Error → KeeperRefusal
refusal_of (SqliteFailure OutOfMemory) = NoMemory
refusal_of _ = Fault
