use Rattle.std.proofs.Common.{refl}
use Rattle.std.specs.Int.{int_wrap}
use Rattle.bits.specs.Field.{field, put}
use Rattle.reading.specs.Reading.{read_edges}
use Rattle.packing.specs.Packing.{put_edges, put_fields}
use Rattle.runs.specs.Steps.{follow}
use Rattle.exact.specs.Exact.{only_of}
use Rattle.span.specs.Span.{greatest_of_4, least_of_4, span_of}
use Rattle.known_answers.proofs.known_answers.Goals as goal

pub returns : goal.returns
unfolding field put read_edges put_edges put_fields int_wrap follow only_of span_of least_of_4 greatest_of_4
returns c =
    record {
      macro_a_reads = refl;
      macro_b_reads = refl;
      no_such_place = (refl, refl);
      macro_a_is_packed = refl;
      macro_b_is_packed = refl;
      results_wrap = (refl, refl, refl);
      remainders = (refl, refl, refl, refl, refl);
      paths_are_driven = (refl, refl, refl);
      exact_combines = (refl, refl, refl);
      exact_narrows = (refl, refl, refl);
      exact_codes = (refl, refl, refl, refl);
      span_combines = (refl, refl, refl, refl, refl, refl, refl, refl, refl);
      span_narrows = (refl, refl, refl, refl, refl, refl, refl, refl, refl, refl, refl, refl, refl, refl);
      span_codes = (refl, refl, refl);
    }
