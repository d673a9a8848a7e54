use Rattle.std.proofs.Common.{◌≡◌, ◌-◌, ◌*◌, ◌/◌, ◌^◌, ◌≤◌}
use Rattle.bits.specs.Field.{put}
use Rattle.bits.proofs.store_each.Given as goal

-- the bytes from this one on are written, and `rest` is still to come
abbrev pub invariant-loop-index : goal.invariant-loop-index
invariant-loop-index l =
    (l.first ≤ l.index) × (l.rest ≡ l.word / 2 ^ (8 * (l.end - l.index))) × (l.bytes ≡ put l.initial.bytes (8 * l.index) (8 * (l.end - l.index)) l.word)
