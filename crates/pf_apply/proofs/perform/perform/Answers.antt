use Rattle.std.proofs.lemmas.Result.{err_from_is_err_and}
use Rattle.pf_apply.proofs.MeshLemmas.{kept-unchanged}
use Rattle.pf_apply.proofs.perform.perform.Goals as goal

pub perform_on_table-requires-clause-can : goal.perform_on_table-requires-clause-can
perform_on_table-requires-clause-can c =
    let old = c.args.table.now in
    let new = c.reserve.new.self in
    let m = c.requires.mesh in
    record { mesh = m; kept = kept-unchanged old.sides new.sides old.nodes.items new.nodes.items m c.reserve.ensures.sides c.reserve.ensures.nodes c.requires.kept; can = c.requires.can; change = c.requires.change }

pub returns-clause-applied : goal.returns-clause-applied
returns-clause-applied c = λ m k can h.
    let old = c.args.table.now in
    let new = c.reserve.new.self in
    c.perform_on_table.ensures.applied m (kept-unchanged old.sides new.sides old.nodes.items new.nodes.items m c.reserve.ensures.sides c.reserve.ensures.nodes k) can h

pub returns-in_err-reserve-clause-err : goal.returns-in_err-reserve-clause-err
returns-in_err-reserve-clause-err c =
    let old = c.args.table.now in
    let new = c.reserve.new.self in
    let p = err_from_is_err_and c.from_residual.result c.from_residual.ensures.1 in
    rw p.1 (λ m k can. kept-unchanged old.sides new.sides old.nodes.items new.nodes.items m c.reserve.ensures.sides c.reserve.ensures.nodes k)
