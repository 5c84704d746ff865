use Rattle.std.proofs.Common.{◌≡◌, true, false, refl, sym, ◌∙◌, ap, subst, IsSome, Option, Some, cond, arith, ◌==◌}
use Rattle.std.specs.Option.{option_copied_mut}
use Rattle.std.proofs.lemmas.Bool.Decides.{nat_tests}
use Rattle.indexmap.specs.IndexMap.{get}
use Rattle.pf_model.specs.declared.Side.{Side}
use Rattle.pf_edges.specs.Table.{edge_eq}
use Rattle.pf_apply.proofs.OwnedSides.{owned-one}
use Rattle.pf_apply.proofs.tables.own_side.Goals as goal

pub returns-then-left-apex-clause-sides : goal.returns-then-left-apex-clause-sides
returns-then-left-apex-clause-sides c = λ a b.
    let m = c.args.sides.now in
    let left = c.in-Some.left.now in
    let w : Side = record { apex = left.apex; owner = c.args.owner } in
    let found : get edge_eq m record { from = c.args.p; to = c.args.q } ≡ Some left = sym c.get_mut.ensures.value ∙ ap option_copied_mut c.in-Some.is in
    let test : (c.args.apex == left.apex) ≡ true = let e = c.if-left-apex.true in grind (arith, nat_tests) in
    let P : Option Side → Type 0 = λ o. IsSome o in
    owned-one m (c.get_mut.follows.lender w) c.args.p c.args.q c.args.apex c.args.owner left w ((c.get_mut.follows.holds w).3 (subst P (sym found) refl)) (found) (ap (λ t. record { apex = left.apex; owner = cond t c.args.owner left.owner }) (sym test)) a b

pub returns-else-left-apex-clause-sides : goal.returns-else-left-apex-clause-sides
returns-else-left-apex-clause-sides c = λ a b.
    let m = c.args.sides.now in
    let left = c.in-Some.left.now in
    let found : get edge_eq m record { from = c.args.p; to = c.args.q } ≡ Some left = sym c.get_mut.ensures.value ∙ ap option_copied_mut c.in-Some.is in
    let test : (c.args.apex == left.apex) ≡ false = let e = c.if-left-apex.false in grind (arith, nat_tests) in
    let P : Option Side → Type 0 = λ o. IsSome o in
    owned-one m (c.get_mut.follows.lender left) c.args.p c.args.q c.args.apex c.args.owner left left ((c.get_mut.follows.holds left).3 (subst P (sym found) refl)) (found) (ap (λ t. record { apex = left.apex; owner = cond t c.args.owner left.owner }) (sym test)) a b
