use Rattle.std.proofs.Common.{◌≡◌, ◌∙◌, ℕ, ◌++◌, Option, Some, sym, ap, subst}
use Rattle.std.specs.Prelude.{min, max}
use Rattle.pf_geom.specs.declared.Point.{Point}
use Rattle.pf_geom.specs.Plane.{middle_of}
use Rattle.pf_model.specs.declared.Op.{Op}
use Rattle.pf_model.specs.Mesh.{place_of}
use Rattle.pf_model.specs.Applied.{op_applied, new_site}
use Rattle.pf_edges.specs.Table.{Sides}
use Rattle.pf_edges.specs.Kept.{IsKept}
use Rattle.pf_apply.specs.Operations.{HasPlaces}
use Rattle.pf_apply.proofs.OperationLemmas.{new_not_live, keeps-stood, places-kept, places-contracted, places-moved, places-pushed}
use Rattle.pf_apply.proofs.perform.make_node.Goals as goal

pub returns-clause-keeps : goal.returns-clause-keeps
returns-clause-keeps c = λ m k can.
    let P : Sides → Type 0 = λ s. IsKept s c.stand_at.new.self.nodes.items m in
    subst P (sym c.stand_at.ensures.sides)
    (keeps-stood c.args.table.now.sides c.args.table.now.nodes.items c.stand_at.new.self.nodes.items m c.args.n k (new_not_live m c.args.n c.args.op can) c.stand_at.ensures.counts c.stand_at.ensures.others (c.stand_at.ensures.in_range c.requires.in_range))

pub returns-in-Contract-clause-places : goal.returns-in-Contract-clause-places
returns-in-Contract-clause-places c = λ m k can.
    let nodes = c.args.table.now.nodes.items in
    let P : Op → Type 0 = λ o. HasPlaces nodes (op_applied m can.ticket o) in
    subst P (sym c.in-Contract.is) (places-contracted nodes m c.in-Contract.u c.in-Contract.v (places-kept c.args.table.now.sides nodes m k))

pub returns-clause-places : goal.returns-clause-places
returns-clause-places c = λ m k can.
    let a = c.in-Bisect.a in
    let b = c.in-Bisect.b in
    let n = c.args.n in
    let nodes = c.stand_at.new.self.nodes.items in
    let before = places-kept c.args.table.now.sides c.args.table.now.nodes.items m k in
    let none = new_not_live m n c.args.op can in
    let mid : middle_of (place_of m (min a b)) (place_of m (max a b)) ≡ Some c.in-Some.at = ap (λ (i : ℕ). middle_of (place_of m i) (place_of m (max a b))) (sym c.min.ensures) ∙ (ap (λ (i : ℕ). middle_of (place_of m c.min.result) (place_of m i)) (sym c.max.ensures) ∙ (sym (c.middle_between.ensures.value m k.shows) ∙ c.in-Some.is)) in
    let same : (op_applied m can.ticket c.args.op).sites ≡ m.sites ++ new_site n (Some c.in-Some.at) =
    ap (λ (o : Op). (op_applied m can.ticket o).sites) c.in-Bisect.is
    ∙ (ap (λ (i : ℕ). m.sites ++ new_site i (middle_of (place_of m (min a b)) (place_of m (max a b)))) can.name ∙ ap (λ (o : Option Point). m.sites ++ new_site n o) mid)
    in
    places-pushed nodes m (op_applied m can.ticket c.args.op) n c.in-Some.at same
    (places-moved c.args.table.now.nodes.items nodes m n before none c.stand_at.ensures.names c.stand_at.ensures.others) c.stand_at.ensures.named c.stand_at.ensures.stands
