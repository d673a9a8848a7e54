-- What the bytes of a file read as, and what `read` answers.
use Rattle.std.specs.Prelude.{ℕ, zero, suc, ◌+◌, cond, List, [], ◌∷◌, length, Ok, Err, Result, ◌==◌, nat_lt}
use Rattle.macros.specs.declared.faults.Call.TheVariants.{Read}
use Rattle.macros.specs.declared.faults.EdgeFault.{EdgeFault}
use Rattle.macros.specs.declared.faults.MacroFault.{MacroFault}
use Rattle.macros.specs.declared.faults.MacroFault.TheVariants.{Length}
use Rattle.reading.specs.declared.ReadRefusal.{ReadRefusal}
use Rattle.macros.specs.declared.faults.Told.{Told}
use Rattle.macros.specs.declared.parts.Edge.{Edge}
use Rattle.macros.specs.declared.parts.Header.{Header}
use Rattle.macros.specs.Macro.{Macro, header_of, macro_of}
use Rattle.macros.specs.Faults.{bind, same, in_edge, in_edges, in_header, told_macro}
use Rattle.macros.specs.Layout.{edge_bit, file_length}
use Rattle.decoding.specs.Decode.{decode_edge, decode_header, edge_fields_at, header_fields_at}

-- a file of `found` bytes where `expected` are asked for
abbrev pub wrong_length : ℕ → ℕ → MacroFault
wrong_length found expected = Length (record { bit = 0; found = found; expected = expected })

-- the header: 4 bytes at least, then its fields, then the length that it asks of the file
abbrev pub read_header : List ℕ → Result Header MacroFault
read_header bs =
    cond (nat_lt (length bs) 4) (Err (wrong_length (length bs) 4)) (bind in_header (decode_header (header_fields_at bs)) (λ h.
    cond (length bs == file_length h.edges) (Ok h) (Err (wrong_length (length bs) (file_length h.edges)))))

-- one edge by its number
abbrev pub read_edge : List ℕ → Header → ℕ → Result Edge EdgeFault
read_edge bs h i = bind in_edge (decode_edge h.variables h.places (edge_bit i) (edge_fields_at bs (edge_bit i))) (λ x. Ok x)

-- k edges from number i on, or the first fault
unfoldable pub read_edges : List ℕ → Header → ℕ → ℕ → Result (List Edge) EdgeFault
read_edges bs h i zero = Ok []
read_edges bs h i (suc k) = bind same (read_edge bs h i) (λ x. bind same (read_edges bs h (i + 1) k) (λ xs. Ok (x ∷ xs)))

-- the macro that a file holds
abbrev pub read_macro : List ℕ → Result Macro MacroFault
read_macro bs = bind same (read_header bs) (λ h. bind in_edges (read_edges bs h 0 h.edges) (λ xs. Ok (macro_of h xs)))

-- the header of a file that holds a macro
abbrev pub headed : List ℕ → Result Header MacroFault
headed bs = bind same (read_macro bs) (λ m. Ok (header_of m))

-- a macro's fault where `read` declines
abbrev pub in_read : MacroFault → ReadRefusal
in_read f = record { call = Read; fault = f }

-- how a refusal of `read` is told
abbrev pub told_read : ReadRefusal → Told
told_read r = told_macro r.call r.fault

-- what `read` answers: the header of the macro, or why the file holds none
abbrev pub read_answer : List ℕ → Result Header ReadRefusal
read_answer bs = bind in_read (read_macro bs) (λ m. Ok (header_of m))

-- the edges of the macro that was read; none where the file was refused
abbrev pub edges_read : Result Macro MacroFault → List Edge
edges_read (Ok m) = m.edges
edges_read (Err f) = []

-- the edges of the macro that a file holds
abbrev pub edges_in : List ℕ → List Edge
edges_in bs = edges_read (read_macro bs)
