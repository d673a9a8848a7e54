-- How a fault lies in a refusal of `pack`, and how that is told by its number.
use Rattle.std.specs.Prelude.{None}
use Rattle.macros.specs.declared.faults.Call.{Call}
use Rattle.macros.specs.declared.faults.Call.TheVariants.{Pack}
use Rattle.macros.specs.declared.faults.MacroFault.{MacroFault}
use Rattle.macros.specs.declared.faults.Told.{Told}
use Rattle.macros.specs.Faults.{told_macro}
use Rattle.packing.specs.declared.faults.PackFault.{PackFault}
use Rattle.packing.specs.declared.faults.PackFault.TheVariants.{Macro, Room}
use Rattle.packing.specs.declared.faults.PackRefusal.{PackRefusal}
use Rattle.packing.specs.declared.faults.RoomFault.{RoomFault}

-- a macro's fault where `pack` declines
abbrev pub in_pack : MacroFault → PackRefusal
in_pack f = record { call = Pack; fault = Macro f }

-- too little memory where `pack` declines
abbrev pub no_room : RoomFault → PackRefusal
no_room f = record { call = Pack; fault = Room f }

-- a macro's fault is told as in reading; 8 is too little memory, and holds no spot
abbrev pub told_fault : Call → PackFault → Told
told_fault c (Macro f) = told_macro c f
told_fault c (Room f) = record { number = 8; call = c; bit = None; edge = None }

-- how a refusal of `pack` is told
abbrev pub told_pack : PackRefusal → Told
told_pack r = told_fault r.call r.fault
