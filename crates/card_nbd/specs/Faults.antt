-- How faults of other crates show.
use Rattle.clap.specs.declared.error.kind.ErrorKind.{ErrorKind}
use Rattle.clap.specs.declared.error.kind.ErrorKind.TheVariants.{OutOfMemory}
use Rattle.card_nbd.specs.declared.fault.NbdFault.{NbdFault}
use Rattle.card_nbd.specs.declared.fault.NbdFault.TheVariants.{Unserved, Usage}
use Rattle.card_served.specs.declared.fault.ServeFault.TheVariants.{NoMemory}

-- words that aren't those of the command, or memory that was refused while they were read
abbrev pub of_words : ErrorKind → NbdFault
of_words OutOfMemory = Unserved NoMemory
of_words kind = Usage
