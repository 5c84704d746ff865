use Rattle.std.proofs.Common.{ℕ, ◌≡◌, ◌<◌, ◌≤◌, ◌+◌, [], ◌∷◌, ◌∙◌, refl, ap, Ok, Err, sym, arith, subst}
use Rattle.std.proofs.lemmas.Result.{err_from_is_err_and}
use Rattle.pf_say.specs.declared.place.Place.TheVariants.{Node, Ele, Part, Size}
use Rattle.pf_say.specs.declared.stop.Stop.TheVariants.{Limit}
use Rattle.pf_say.specs.Shown.{stems_of}
use Rattle.pf_cmd.specs.Commands.{budget_of, budgeted_in}
use Rattle.pf_cmd.specs.Input.{◌>>=◌, Numbered, numbered_in, within_limit}
use Rattle.pf_cmd.proofs.InputLemmas.{within_limit-small, within_limit-large}
use Rattle.pf_cmd.proofs.Reading.{explains-then, explained}
use Rattle.pf_cmd.proofs.input.read_budgeted.Goals as goal

pub returns-in_err-base-clause-stop : goal.returns-in_err-base-clause-stop
unfolding budgeted_in
returns-in_err-base-clause-stop g c =
    let p = err_from_is_err_and c.from_residual.result c.from_residual.ensures.1 in
    rw (p.1, p.2) (explains-then (Node ∷ Ele ∷ Part ∷ Size ∷ []) (Node ∷ Ele ∷ Part ∷ Size ∷ []) _ _ _ (numbered_in c.args.scale) (λ f read. within_limit read.mesh.first_new (budget_of c.args.ops read.mesh.first_new) (budget_of c.args.ops read.mesh.first_new) >>= (λ budget. Ok record { base = read.base; mesh = read.mesh; budget = budget })) _ (λ q a. a) c.in_err-base.ensures.stop)

pub returns-then-count-gt-MOST_NAMES-clause-stop : goal.returns-then-count-gt-MOST_NAMES-clause-stop
unfolding budgeted_in
returns-then-count-gt-MOST_NAMES-clause-stop g c =
    explained (Node ∷ Ele ∷ Part ∷ Size ∷ []) _ _ _ (budgeted_in c.args.ops c.args.scale) _ tt
    (λ ne tells.
    ap (λ r. r >>= (λ read. within_limit read.mesh.first_new (budget_of c.args.ops read.mesh.first_new) (budget_of c.args.ops read.mesh.first_new) >>= (λ budget. Ok record { base = read.base; mesh = read.mesh; budget = budget }))) (c.in_ok-base.ensures.mesh tells)
    ∙ (ap (λ r. r >>= (λ budget. Ok record { base = read.base; mesh = read.mesh; budget = budget }))
    (within_limit-large read.mesh.first_new may may (let l = c.if-count-gt-MOST_NAMES.true in let e = count in omega (arith, l, e)))
    ∙ ap (λ n. Err (Limit n)) count))
    c.in_ok-base.ensures.quiet
  where
    read : Numbered
    read = record { base = c.in_ok-base.field-0.base; mesh = c.in_ok-base.field-0.mesh.mesh }

    may : ℕ
    may = budget_of c.args.ops read.mesh.first_new

    budgeted : c.budget_of-budget.result ≡ may
    budgeted = c.budget_of-budget.ensures ∙ ap (budget_of c.args.ops) c.first_new-first_new.ensures.value

    count : read.mesh.first_new + may ≡ c.first_new-first_new.result + c.budget_of-budget.result
    count = let e = c.first_new-first_new.ensures.value in let b = budgeted in omega (arith, e, b)

pub returns-clause-mesh : goal.returns-clause-mesh
unfolding budgeted_in
returns-clause-mesh g c = λ tells.
    ap (λ r. r >>= (λ read. within_limit read.mesh.first_new (budget_of c.args.ops read.mesh.first_new) (budget_of c.args.ops read.mesh.first_new) >>= (λ budget. Ok record { base = read.base; mesh = read.mesh; budget = budget }))) (c.in_ok-base.ensures.mesh tells)
    ∙ (ap (λ r. r >>= (λ budget. Ok record { base = read.base; mesh = read.mesh; budget = budget }))
    (within_limit-small read.mesh.first_new may may (let l = c.if-count-gt-MOST_NAMES.false in let e = count in omega (arith, l, e)))
    ∙ ap (λ n. Ok record { base = read.base; mesh = read.mesh; budget = n }) (sym budgeted))
  where
    read : Numbered
    read = record { base = c.in_ok-base.field-0.base; mesh = c.in_ok-base.field-0.mesh.mesh }

    may : ℕ
    may = budget_of c.args.ops read.mesh.first_new

    budgeted : c.budget_of-budget.result ≡ may
    budgeted = c.budget_of-budget.ensures ∙ ap (budget_of c.args.ops) c.first_new-first_new.ensures.value

    count : read.mesh.first_new + may ≡ c.first_new-first_new.result + c.budget_of-budget.result
    count = let e = c.first_new-first_new.ensures.value in let b = budgeted in omega (arith, e, b)
