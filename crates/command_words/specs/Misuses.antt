-- What is said of words that name no command.
use Rattle.std.specs.Prelude.{ℕ, List, codes}
use Rattle.command_words.specs.declared.misuse.Mistake.{Mistake}
use Rattle.command_words.specs.declared.misuse.Mistake.TheVariants.{NoCommand, NoSuchCommand, WrongCount, WrongOptions, StartNumbers, ReadingNumbers, PathNumbers}
use Rattle.command_words.specs.declared.misuse.Misuse.{Misuse}
use Rattle.command_words.specs.declared.misuse.Program.{Program}
use Rattle.command_words.specs.declared.misuse.Program.TheVariants.{Showing, Driving}
use Rattle.texts.specs.Text.{◌&◌}

abbrev pub mistake_text : Mistake → List ℕ
mistake_text NoCommand = codes "no command"
mistake_text NoSuchCommand = codes "no such command"
mistake_text WrongCount = codes "wrong number of files"
mistake_text WrongOptions = codes "options must be --start and --path, and --readings if any, each once with a value"
mistake_text StartNumbers = codes "--start takes numbers from -2147483648 to 2147483647, with commas between"
mistake_text ReadingNumbers = codes "--readings takes numbers from -2147483648 to 2147483647, with commas between"
mistake_text PathNumbers = codes "--path takes edge numbers from 0 to 65535, with commas between"

-- how a program is used
abbrev pub usage_text : Program → List ℕ
usage_text Showing = codes "usage: pathbench demo | pathbench show MACRO"
usage_text Driving = codes "usage: pathbench demo | pathbench show MACRO | pathbench run MACRO --start NUMBERS [--readings NUMBERS] --path EDGES"

-- what is wrong with the words, and in the next line how they should be
abbrev pub misuse_text : Misuse → List ℕ
misuse_text m = mistake_text m.mistake & codes "\n" & usage_text m.program
