use Rattle.std.proofs.Common.{◌≡◌, take, string_bytes}
use Rattle.drive_texts.specs.Lines.{state_text}
use Rattle.drive_texts.proofs.lines.state_text.Given as goal

abbrev pub invariant-loop-number : goal.invariant-loop-number
invariant-loop-number l = string_bytes l.text ≡ state_text l.fn.place (take l.number-index l.numbers)
