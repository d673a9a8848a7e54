-- What is said of a failure.
use Rattle.std.specs.Prelude.{ℕ, List, Some, None, Option}
use Rattle.failures.specs.declared.Failure.{Failure}
use Rattle.failures.specs.declared.Failure.TheVariants.{Usage, File, Read, Pack, Drive, System}
use Rattle.command_words.specs.declared.misuse.Program.TheVariants.{Showing, Driving}
use Rattle.command_words.specs.Commands.{Misused}
use Rattle.command_words.specs.Misuses.{misuse_text}
use Rattle.drive_texts.specs.Halts.{halt_line}
use Rattle.texts.specs.Faults.{pack_refusal_line, read_refusal_line}

-- a misuse, a refusal and a halt are told in these words; of the system's own words nothing is stated
abbrev pub failure_text : Failure → Option (List ℕ)
failure_text (Usage m) = Some (misuse_text m)
failure_text (File name e) = None
failure_text (Read r) = Some (read_refusal_line r)
failure_text (Pack r) = Some (pack_refusal_line r)
failure_text (Drive h) = Some (halt_line h)
failure_text (System e) = None

-- memory or the output failed, and nothing is said of a macro
abbrev pub OfSystem : Failure → Type 0
OfSystem (Usage m) = ⊥
OfSystem (File name e) = ⊥
OfSystem (Read r) = ⊥
OfSystem (Pack r) = ⊥
OfSystem (Drive h) = ⊥
OfSystem (System e) = Unit {0}

-- a file could not be read, or memory or the output failed
abbrev pub OfFile : Failure → Type 0
OfFile (Usage m) = ⊥
OfFile (File name e) = Unit {0}
OfFile (Read r) = ⊥
OfFile (Pack r) = ⊥
OfFile (Drive h) = ⊥
OfFile (System e) = Unit {0}

-- a failure of the program that shows: no path was driven, so none was halted, and no other program was misused
abbrev pub OfShowing : Failure → Type 0
OfShowing (Usage m) = Misused Showing m
OfShowing (File name e) = Unit {0}
OfShowing (Read r) = Unit {0}
OfShowing (Pack r) = Unit {0}
OfShowing (Drive h) = ⊥
OfShowing (System e) = Unit {0}

-- a failure of the program that drives: no macro was packed, so none was refused, and no other program was misused
abbrev pub OfDriving : Failure → Type 0
OfDriving (Usage m) = Misused Driving m
OfDriving (File name e) = Unit {0}
OfDriving (Read r) = Unit {0}
OfDriving (Pack r) = ⊥
OfDriving (Drive h) = Unit {0}
OfDriving (System e) = Unit {0}
