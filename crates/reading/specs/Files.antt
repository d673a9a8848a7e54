-- A file that was opened, and its edges.
use Rattle.std.specs.Prelude.{◌≡◌, ℕ, List, drop, Ok, Err, Result}
use Rattle.macros.specs.declared.parts.Edge.{Edge}
use Rattle.reading.specs.declared.ReadRefusal.{ReadRefusal}
use Rattle.reading.specs.declared.file.Edges.{Edges}
use Rattle.reading.specs.declared.file.MacroFile.{MacroFile}
use Rattle.reading.specs.Reading.{edges_in, read_answer}

-- a file is opened where `read` answers its header, and refused where `read` refuses it
abbrev pub Opened : Result MacroFile ReadRefusal → List ℕ → Type 0
Opened (Ok f) bs = (f.bytes.now ≡ bs) × (read_answer bs ≡ Ok f.header)
Opened (Err e) bs = read_answer bs ≡ Err e

-- the edges that are still to come
abbrev pub edges_from : Edges → List Edge
edges_from s = drop s.next (edges_in s.file.bytes.now)
