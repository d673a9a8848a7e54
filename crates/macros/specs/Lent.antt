-- The macro that a caller hands over.
use Rattle.macros.specs.declared.parts.Macro.{Macro as Given}
use Rattle.macros.specs.Macro.{Macro}

-- its edges are those that the lent slice holds
abbrev pub given : Given → Macro
given x = record { variables = x.variables; places = x.places; guarded = x.guarded; edges = x.edges.now }
