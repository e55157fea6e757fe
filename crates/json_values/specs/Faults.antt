-- The fault of a tree that wasn't read.
use Rattle.json.specs.declared.error.Error.{Error}
use Rattle.json.specs.declared.error.Error.TheVariants as errors
use Rattle.json_values.specs.declared.reading.JsonFault.{JsonFault}
use Rattle.json_values.specs.declared.reading.JsonFault.TheVariants.{NotJson, NoMemory}

abbrev pub fault_of : Error → JsonFault
fault_of errors.Invalid = NotJson
fault_of errors.OutOfMemory = NoMemory
fault_of errors.TooLong = NoMemory
fault_of errors.DuplicateKey = NoMemory
