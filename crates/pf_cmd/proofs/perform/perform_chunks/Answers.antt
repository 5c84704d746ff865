use Rattle.std.proofs.Common.{[], ◌∷◌, refl, ap, inr, Ok}
use Rattle.std.proofs.lemmas.Result.{err_from_is_err_and}
use Rattle.pf_say.specs.declared.place.Place.TheVariants.{Node, Ele, Part}
use Rattle.pf_cmd.specs.Input.{◌>>=◌}
use Rattle.pf_cmd.specs.Commands.{to_divide, divided_in, chunks_given}
use Rattle.pf_cmd.proofs.Reading.{explains-then}
use Rattle.pf_cmd.proofs.perform.perform_chunks.Goals as goal

pub returns-in_err-report-clause-stops : goal.returns-in_err-report-clause-stops
returns-in_err-report-clause-stops g c =
    let p = err_from_is_err_and c.from_residual.result c.from_residual.ensures.1 in
    rw (p.1, p.2)
    (inr (record {
      explained = explains-then (Node ∷ Ele ∷ Part ∷ []) (Node ∷ Ele ∷ Part ∷ []) _ _ _ (divided_in c.args.scale) (λ f input. Ok (to_divide input)) _ (λ q a. a) c.in_err-report.ensures.stop;
      only_read = c.in_err-report.ensures.only_read;
    }))

pub returns-clause-done : goal.returns-clause-done
returns-clause-done g c = record {
  done = λ tells.
      let listed = c.in_ok-report.ensures.listed tells in
      record {
        given = chunks_given listed.0;
        is_given = record {
          input = to_divide listed.0;
          is_input = ap (λ r. r >>= (λ mesh. Ok (to_divide mesh))) listed.1;
          may = refl;
        };
        files = λ name. c.in_ok-report.ensures.only_read.files.same name;
        says = listed.2;
      };
  fileless = tt;
  quiet = c.in_ok-report.ensures.quiet;
  write_faults = c.in_ok-report.ensures.only_read.write_faults;
}
