use Rattle.std.proofs.Common.{[], ◌∷◌, refl, ap, inr, Ok}
use Rattle.std.proofs.lemmas.Result.{err_from_is_err_and}
use Rattle.pf_say.specs.declared.place.Place.TheVariants.{Node, Ele, Part, Size, Trace}
use Rattle.pf_cmd.specs.Input.{◌>>=◌}
use Rattle.pf_cmd.specs.Commands.{to_trace, traced_in, trace_given}
use Rattle.pf_cmd.proofs.Reading.{explains-then}
use Rattle.pf_cmd.proofs.perform.perform_trace.Goals as goal

pub returns-in_err-report-clause-stops : goal.returns-in_err-report-clause-stops
returns-in_err-report-clause-stops g c =
    let p = err_from_is_err_and c.from_residual.result c.from_residual.ensures.1 in
    rw (p.1, p.2)
    (inr (record {
      explained = explains-then (Node ∷ Ele ∷ Part ∷ Size ∷ Trace ∷ []) (Node ∷ Ele ∷ Part ∷ Size ∷ Trace ∷ []) _ _ _ (traced_in c.args.scale) (λ f input. Ok (to_trace input)) _ (λ q a. a) c.in_err-report.ensures.stop;
      only_read = c.in_err-report.ensures.only_read;
    }))

pub returns-clause-done : goal.returns-clause-done
returns-clause-done g c = record {
  done = λ tells.
      let traced = c.in_ok-report.ensures.traced tells in
      record {
        given = trace_given traced.input;
        is_given = record {
          input = to_trace traced.input;
          is_input = ap (λ r. r >>= (λ input. Ok (to_trace input))) traced.is_input;
          may = refl;
        };
        files = λ name. c.in_ok-report.ensures.only_read.files.same name;
        says = traced.answer;
      };
  fileless = tt;
  quiet = c.in_ok-report.ensures.quiet;
  write_faults = c.in_ok-report.ensures.only_read.write_faults;
}
