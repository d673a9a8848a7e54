-- The words for a refusal, as bytes.
use Rattle.std.specs.Prelude.{ℕ, cond, List, [], Some, None, codes, decimal, Option, nat_lt}
use Rattle.macros.specs.declared.faults.Call.{Call}
use Rattle.macros.specs.declared.faults.Call.TheVariants.{Read, Pack}
use Rattle.macros.specs.declared.faults.FieldFault.{FieldFault}
use Rattle.macros.specs.declared.faults.LengthFault.{LengthFault}
use Rattle.macros.specs.declared.faults.MacroFault.{MacroFault}
use Rattle.macros.specs.declared.faults.MacroFault.TheVariants.{Length, Header, Edge}
use Rattle.macros.specs.declared.faults.Told.{Told}
use Rattle.macros.specs.declared.layout.Field.{Field}
use Rattle.macros.specs.declared.layout.Field.TheVariants.{Variables, Places, Guarded, Edges, HeaderFilling, From, To, Form, Target, LeftMark, Left, RightMark, Right, EdgeFilling}
use Rattle.packing.specs.declared.faults.PackFault.{PackFault}
use Rattle.packing.specs.declared.faults.PackFault.TheVariants.{Macro, Room}
use Rattle.packing.specs.declared.faults.PackRefusal.{PackRefusal}
use Rattle.packing.specs.declared.faults.RoomFault.{RoomFault}
use Rattle.packing.specs.Faults.{told_pack}
use Rattle.reading.specs.declared.ReadRefusal.{ReadRefusal}
use Rattle.reading.specs.Reading.{told_read}
use Rattle.texts.specs.Text.{◌&◌}

abbrev pub field_name : Field → List ℕ
field_name Variables = codes "variables"
field_name Places = codes "places"
field_name Guarded = codes "guarded"
field_name Edges = codes "edges"
field_name HeaderFilling = codes "filling"
field_name From = codes "from"
field_name To = codes "to"
field_name Form = codes "form"
field_name Target = codes "target"
field_name LeftMark = codes "left mark"
field_name Left = codes "left"
field_name RightMark = codes "right mark"
field_name Right = codes "right"
field_name EdgeFilling = codes "filling"

-- what the layout asks of the number in a field
abbrev pub asked : Field → List ℕ
asked Variables = codes "1 to 15"
asked Places = codes "1 to 255"
asked Guarded = codes "below places"
asked Edges = codes "at most 511"
asked HeaderFilling = codes "0"
asked From = codes "below places"
asked To = codes "below places"
asked Form = codes "0 to 11"
asked Target = codes "below variables, or 0 in a test"
asked LeftMark = codes "0 in a read"
asked Left = codes "a variable below variables, or 0 in a read"
asked RightMark = codes "0 in a set or a read"
asked Right = codes "a variable below variables, or 0 in a set or a read"
asked EdgeFilling = codes "0"

abbrev pub call_name : Call → List ℕ
call_name Read = codes "read"
call_name Pack = codes "pack"

abbrev pub field_fault_text : FieldFault → List ℕ
field_fault_text f = codes "field " & field_name f.field & codes " is " & decimal f.found & codes ", must be " & asked f.field

-- a file of fewer than 4 bytes has no header that could say its length
abbrev pub length_fault_text : LengthFault → List ℕ
length_fault_text f = codes "length is " & decimal f.found & codes " bytes, must be " & cond (nat_lt f.found 4) (codes "at least ") [] & decimal f.expected

abbrev pub macro_fault_text : MacroFault → List ℕ
macro_fault_text (Length f) = codes "macro " & length_fault_text f
macro_fault_text (Header f) = codes "header " & field_fault_text f
macro_fault_text (Edge f) = codes "edge " & field_fault_text f.field

-- how much room there was, and how much is needed
abbrev pub room_fault_text : RoomFault → List ℕ
room_fault_text f = codes "room is " & decimal f.given & codes " bytes, must be at least " & decimal f.needed

abbrev pub pack_fault_text : PackFault → List ℕ
pack_fault_text (Macro f) = macro_fault_text f
pack_fault_text (Room f) = room_fault_text f

-- a number after its name, where there is one
abbrev pub noted_text : List ℕ → Option ℕ → List ℕ
noted_text name None = []
noted_text name (Some n) = codes " " & name & codes " " & decimal n

-- the call, then the bit and the edge, as far as the refusal holds them
abbrev pub spot_text : Told → List ℕ
spot_text t = codes "call " & call_name t.call & noted_text (codes "bit") t.bit & noted_text (codes "edge") t.edge

-- the number that is told, the words of the fault, and the spot that is told
abbrev pub refusal_line : Told → List ℕ → List ℕ
refusal_line t why = codes "refused " & decimal t.number & codes " " & why & codes " " & spot_text t

abbrev pub read_refusal_line : ReadRefusal → List ℕ
read_refusal_line r = refusal_line (told_read r) (macro_fault_text r.fault)

abbrev pub pack_refusal_line : PackRefusal → List ℕ
pack_refusal_line r = refusal_line (told_pack r) (pack_fault_text r.fault)
