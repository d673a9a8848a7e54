use Rattle.std.proofs.Common.{◌≡◌, ◌++◌, string_bytes}
use Rattle.reading.specs.Files.{edges_from}
use Rattle.texts.specs.Lines.{edge_lines}
use Rattle.texts.proofs.LineLaws.{file_lines}
use Rattle.texts.proofs.lines.macro_lines.Given as goal

abbrev pub invariant-loop-number : goal.invariant-loop-number
invariant-loop-number l = file_lines l.file.header l.file.bytes.now ≡ string_bytes l.lines ++ edge_lines l.number-iterator.count (edges_from l.number-iterator.iter)
