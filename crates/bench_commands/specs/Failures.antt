-- Which failure a refused file gives.
use Rattle.std.specs.Prelude.{◌≡◌, ℕ, List, Ok, Err, string_bytes, Result, String}
use Rattle.std.specs.declared.alloc.Global.{Global}
use Rattle.failures.specs.declared.Failure.{Failure}
use Rattle.failures.specs.declared.Failure.TheVariants.{Usage, File, Read, Pack, Drive, System}
use Rattle.reading.specs.Reading.{read_answer}
use Rattle.texts.specs.Lines.{Describes}

-- the failure is the refusal that `read` answers, or one of the system
abbrev pub Fails : Failure → List ℕ → Type 0
Fails (Usage m) bs = ⊥
Fails (File name e) bs = ⊥
Fails (Read r) bs = read_answer bs ≡ Err r
Fails (Pack r) bs = ⊥
Fails (Drive h) bs = ⊥
Fails (System e) bs = Unit {0}

-- the text has the lines of the macro in these bytes, or they are refused
abbrev pub Shown : Result (String Global) Failure → List ℕ → Type 0
Shown (Ok s) bs = Describes (string_bytes s) bs
Shown (Err e) bs = Fails e bs
