use Rattle.std.proofs.Common.{◌≡◌, ◌*◌}
use Rattle.bits.specs.Field.{field}
use Rattle.bits.proofs.load_each.Given as goal

-- the bytes before this one are read
abbrev pub invariant-loop-byte : goal.invariant-loop-byte
invariant-loop-byte l = l.word ≡ field l.bytes (8 * l.first) (8 * l.byte-index)
