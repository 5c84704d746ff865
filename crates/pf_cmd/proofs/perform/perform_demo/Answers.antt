use Rattle.std.proofs.Common.{refl}
use Rattle.pf_cmd.specs.Commands.{to_show, demo_given}
use Rattle.pf_cmd.proofs.perform.perform_demo.Goals as goal

pub returns-clause-done : goal.returns-clause-done
returns-clause-done g c = record {
  done = λ tells. record {
    given = demo_given c.args.cells;
    is_given = record { input = to_show c.args.cells; is_input = refl; may = refl };
    files = λ name. refl;
    says = c.in_ok-report.ensures.text;
  };
  fileless = c.in_ok-report.ensures.text;
  quiet = record { read_faults = refl; misses = refl };
  write_faults = refl;
}
