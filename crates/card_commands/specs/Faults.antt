-- How faults of other crates show.
use Rattle.clap.specs.declared.error.kind.ErrorKind.{ErrorKind}
use Rattle.clap.specs.declared.error.kind.ErrorKind.TheVariants.{OutOfMemory}
use Rattle.card_commands.specs.declared.fault.CommandFault.{CommandFault}
use Rattle.card_commands.specs.declared.fault.CommandFault.TheVariants.{Nbd, NoMemory, Usage}
use Rattle.card_nbd.specs.declared.fault.NbdFault.{NbdFault}
use Rattle.card_nbd.specs.declared.fault.NbdFault.TheVariants as Why

-- other words are those of any command
abbrev pub of_nbd : NbdFault → CommandFault
of_nbd Why.Usage = Usage
of_nbd fault = Nbd fault

-- words that aren't those of a command, or memory that was refused while they were read
abbrev pub of_words : ErrorKind → CommandFault
of_words OutOfMemory = NoMemory
of_words kind = Usage
