use Rattle.std.proofs.Common.{◌≡◌, ℕ, ◌<◌, ◌≤◌, ◌+◌, ◌-◌, List, [], ◌∷◌, ◌++◌, Bool, true, false, not, ◌&&◌, refl, sym, ap, ◌∙◌, set, length, take, drop, subst, suc, arith, rules}
use Rattle.std.specs.Prelude.{is_none, is_some}
use Rattle.pf_star_model.specs.Judged.{judged}
use Rattle.pf_star_model.specs.Cavity.{needed}
use Rattle.pf_core.specs.Tables.{star_seen}
use Rattle.pf_core.proofs.Starring.{held_first}
use Rattle.pf_core.proofs.judging.is_makeable.Goals as goal

pub returns-then-is_cavity_held : goal.returns-then-is_cavity_held
returns-then-is_cavity_held c = λ m shown.
    let cavity : is_none (needed (star_seen c.args.nodes.now c.args.seats.now c.args.a) c.args.op) ≡ true = sym c.is_cavity_held.ensures ∙ c.if-is_cavity_held.true in
    ap not (c.is_failing.ensures m shown.conforming (shown.first (held_first c.args.nodes.now c.args.seats.now c.args.a c.args.op cavity)))
    ∙ ap (λ (b : Bool). b && not (is_some (judged (star_seen c.args.nodes.now c.args.seats.now c.args.a) c.args.bands.now c.args.chunk c.args.op))) (sym cavity)
