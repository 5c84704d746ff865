use Rattle.pf_model.specs.Stars.{spokes_of}
use Rattle.pf_rules.proofs.Names.{close-least}
use Rattle.pf_judge.proofs.contract.least_far.Goals as goal

pub returns-then-shape : goal.returns-then-shape
returns-then-shape c = λ m u us ok s b f shape beside around none. close-least m us (spokes_of m c.args.v) c.args.v c.args.names.now (shape.close c.if-shape.true) (beside c.if-shape.true) around
