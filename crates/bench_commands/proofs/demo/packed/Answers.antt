use Rattle.std.proofs.Common.{take, ap, ◌∙◌, arith}
use Rattle.reading.specs.Reading.{read_macro}
use Rattle.std.proofs.lemmas.List.{take_at}
use Rattle.std.proofs.lemmas.Result.{err_from_is_err_and}
use Rattle.bench_commands.proofs.demo.packed.Goals as goal

pub returns-in_err-count-clause-reads_back : goal.returns-in_err-count-clause-reads_back
returns-in_err-count-clause-reads_back c =
    let p = err_from_is_err_and c.from_residual-in_err-count.result c.from_residual-in_err-count.ensures.1 in
    rw p.1 tt

pub returns-clause-reads_back : goal.returns-clause-reads_back
returns-clause-reads_back c =
    ap read_macro c.truncate.ensures.items
    ∙ ap (λ bs. read_macro (take c.in_ok-count.count bs)) (take_at c.pack.new.out _ c.in_ok-bytes.bytes.len (omega arith))
    ∙ c.in_ok-count.ensures.promises.reads_back
