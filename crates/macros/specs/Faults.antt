-- How the fault of one layer lies in that of the next, and how a refusal is told by its number.
use Rattle.std.specs.Prelude.{◌-◌, ◌/◌, Some, None, Ok, Err, Result}
use Rattle.macros.specs.declared.faults.Call.{Call}
use Rattle.macros.specs.declared.faults.EdgeFault.{EdgeFault}
use Rattle.macros.specs.declared.faults.FieldFault.{FieldFault}
use Rattle.macros.specs.declared.faults.MacroFault.{MacroFault}
use Rattle.macros.specs.declared.faults.MacroFault.TheVariants.{Length, Header, Edge}
use Rattle.macros.specs.declared.faults.Told.{Told}

-- the value handed on to the next step; a fault ends the chain, turned into that of the next layer
abbrev pub bind : {A B E F : Type 0} → (E → F) → Result A E → (A → Result B F) → Result B F
bind turn (Ok a) next = next a
bind turn (Err e) next = Err (turn e)

-- a fault that stays in its layer
abbrev pub same : {E : Type 0} → E → E
same e = e

-- of a result only whether there is a fault, and which
abbrev pub tested : {A E : Type 0} → Result A E → Result (Unit {0}) E
tested (Ok a) = Ok tt
tested (Err e) = Err e

-- a field's fault in an edge: the edge is the one in whose 96 bits the field lies
abbrev pub in_edge : FieldFault → EdgeFault
in_edge f = record { field = f; edge = (f.bit - 32) / 96 }

-- a field's fault in the header
abbrev pub in_header : FieldFault → MacroFault
in_header f = Header f

-- an edge's fault in the macro
abbrev pub in_edges : EdgeFault → MacroFault
in_edges f = Edge f

-- refusal 1 is a wrong length, 2 a field of the header, 3 a field of an edge;
-- each holds the failing field's first bit, and 3 also the edge's number
abbrev pub told_macro : Call → MacroFault → Told
told_macro c (Length f) = record { number = 1; call = c; bit = Some f.bit; edge = None }
told_macro c (Header f) = record { number = 2; call = c; bit = Some f.bit; edge = None }
told_macro c (Edge f) = record { number = 3; call = c; bit = Some f.field.bit; edge = Some f.edge }
