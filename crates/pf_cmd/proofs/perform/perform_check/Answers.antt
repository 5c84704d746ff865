use Rattle.std.proofs.Common.{[], ◌∷◌, ◌∙◌, refl, ap, inr, Ok}
use Rattle.std.proofs.lemmas.Result.{err_from_is_err_and}
use Rattle.pf_model.specs.Texts.{check_report}
use Rattle.pf_say.specs.declared.place.Place.TheVariants.{Node, Ele, Part}
use Rattle.pf_say.specs.Shown.{stems_of}
use Rattle.pf_cmd.specs.declared.words.Task.TheVariants.{Check}
use Rattle.pf_cmd.specs.Shown.{parted_of}
use Rattle.pf_cmd.specs.Input.{◌>>=◌, partitioned_in}
use Rattle.pf_cmd.specs.Commands.{to_check, input_in, check_given}
use Rattle.pf_cmd.proofs.Reading.{explains-then, memory-explains}
use Rattle.pf_cmd.proofs.perform.perform_check.Goals as goal

pub returns-in_err-listed-clause-stops : goal.returns-in_err-listed-clause-stops
returns-in_err-listed-clause-stops g c =
    let p = err_from_is_err_and c.from_residual.result c.from_residual.ensures.1 in
    rw (p.1, p.2)
    (inr (record {
      explained = explains-then (Node ∷ Ele ∷ Part ∷ []) (Node ∷ Ele ∷ Part ∷ []) _ _ _ (partitioned_in c.args.scale) (λ f parted. Ok (to_check parted)) _ (λ q a. a) c.in_err-listed.ensures.stop;
      only_read = c.in_err-listed.ensures.only_read;
    }))

pub returns-in_err-report-clause-stops : goal.returns-in_err-report-clause-stops
returns-in_err-report-clause-stops g c =
    let p = err_from_is_err_and c.from_residual-in_err-report.result c.from_residual-in_err-report.ensures.1 in
    rw (p.1, p.2)
    (inr (record {
      explained = memory-explains (Node ∷ Ele ∷ Part ∷ []) _ _ _ (input_in (record { task = Check; stems = stems_of c.args.stems; scale = c.args.scale })) _ c.in_err-report.ensures.memory c.in_ok-listed.ensures.quiet;
      only_read = c.in_ok-listed.ensures.only_read;
    }))

pub returns-clause-done : goal.returns-clause-done
returns-clause-done g c = record {
  done = λ tells. record {
    given = check_given (parted_of c.in_ok-listed.field-0);
    is_given = record {
      input = to_check (parted_of c.in_ok-listed.field-0);
      is_input = ap (λ r. r >>= (λ parted. Ok (to_check parted))) (c.in_ok-listed.ensures.parted tells);
      may = refl;
    };
    files = λ name. c.in_ok-listed.ensures.only_read.files.same name;
    says = c.in_ok-report.ensures.text ∙ ap (λ parts. check_report parts.chunks c.in_ok-listed.field-0.listed.mesh.mesh) c.parts.view_is;
  };
  fileless = tt;
  quiet = c.in_ok-listed.ensures.quiet;
  write_faults = c.in_ok-listed.ensures.only_read.write_faults;
}
