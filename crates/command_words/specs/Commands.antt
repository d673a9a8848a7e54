-- Which words name which command.
use Rattle.std.specs.Prelude.{◌≡◌, ℕ, List, [], ◌∷◌, map, take, Some, None, Ok, Err, codes, Option, Result}
use Rattle.std.specs.Borrow.{Bor}
use Rattle.command_words.specs.declared.command.Command.{Command}
use Rattle.command_words.specs.declared.command.Command.TheVariants.{Demo, Show, Run}
use Rattle.command_words.specs.declared.misuse.Mistake.{Mistake}
use Rattle.command_words.specs.declared.misuse.Mistake.TheVariants.{NoCommand, NoSuchCommand, WrongCount, WrongOptions, StartNumbers, ReadingNumbers, PathNumbers}
use Rattle.command_words.specs.declared.misuse.Misuse.{Misuse}
use Rattle.command_words.specs.declared.misuse.Program.{Program}
use Rattle.command_words.specs.declared.misuse.Program.TheVariants.{Showing, Driving}

-- what the words are where a command is named; of the options after a file nothing is stated
abbrev pub Named : Result Command Misuse → List (Bor (List ℕ)) → Type 0
Named (Ok Demo) ws = map (λ w. w.now) ws ≡ codes "demo" ∷ []
Named (Ok (Show f)) ws = map (λ w. w.now) ws ≡ codes "show" ∷ f.now ∷ []
Named (Ok (Run f o)) ws = take 2 (map (λ w. w.now) ws) ≡ codes "run" ∷ f.now ∷ []
Named (Err m) ws = Unit {0}

-- the program offers a command for which the words can be so mistaken
abbrev pub Mistaken : Program → Mistake → Type 0
Mistaken Driving m = Unit {0}
Mistaken Showing NoCommand = Unit {0}
Mistaken Showing NoSuchCommand = Unit {0}
Mistaken Showing WrongCount = Unit {0}
Mistaken Showing WrongOptions = ⊥
Mistaken Showing StartNumbers = ⊥
Mistaken Showing ReadingNumbers = ⊥
Mistaken Showing PathNumbers = ⊥

-- it is this program that is misused, by a mistake that its words can have
abbrev pub Misused : Program → Misuse → Type 0
Misused p m = (m.program ≡ p) × Mistaken p m.mistake

-- the program offers the command, or is the one that is misused
abbrev pub Offered : Program → Result Command Misuse → Type 0
Offered p (Ok Demo) = Unit {0}
Offered p (Ok (Show f)) = Unit {0}
Offered Showing (Ok (Run f o)) = ⊥
Offered Driving (Ok (Run f o)) = Unit {0}
Offered p (Err m) = Misused p m

-- a run of the macro in this file, if the options are in order
abbrev pub RunOf : Option Command → List ℕ → Type 0
RunOf (Some Demo) file = ⊥
RunOf (Some (Show f)) file = ⊥
RunOf (Some (Run f o)) file = f.now ≡ file
RunOf None file = Unit {0}
