use Rattle.std.proofs.Common.{List, length, take, ◌∙◌, ap, arith}
use Rattle.pf_edges.specs.declared.table.Node.{Node}
use Rattle.pf_apply.specs.BuildSteps.{live_sites}
use Rattle.pf_apply.proofs.SitesCut.{sites-cut}
use Rattle.pf_apply.proofs.SitesListed.{sites-listed}
use Rattle.pf_apply.proofs.relist.relist_sites.Goals as goal

pub gather_sites-requires-clause-room : goal.gather_sites-requires-clause-room
gather_sites-requires-clause-room c =
    let sides = c.args.table.now.sides in
    let nodes = c.args.table.now.nodes.items in
    let end = c.min-end.result in
    let m = c.requires.mesh in
    let first = ap (λ (ns : List Node). live_sites 0 (take end ns)) c.deref.ensures.value in
    let whole = sites-cut sides nodes m c.args.names end c.requires.kept.shows c.requires.below (λ n h k. (let a = c.min-end.ensures in let b = c.len.ensures in let l = c.args.table.now.nodes.ok in omega (arith, a, b, l, h, k))) in
    let same = ap length (first ∙ (whole ∙ sites-listed sides nodes m c.requires.kept.conforming c.requires.kept.shows)) in
    let few = c.requires.few in
    let cap = c.clear.ensures.capacity in
    omega (arith, same, few, cap)

pub returns : goal.returns
returns c = λ m kept below.
    let sides = c.args.table.now.sides in
    let nodes = c.args.table.now.nodes.items in
    let end = c.min-end.result in
    let first = ap (λ (ns : List Node). live_sites 0 (take end ns)) c.deref.ensures.value in
    let whole = sites-cut sides nodes m c.args.names end kept.shows below (λ n h k. (let a = c.min-end.ensures in let b = c.len.ensures in let l = c.args.table.now.nodes.ok in omega (arith, a, b, l, h, k))) in
    c.gather_sites.ensures ∙ (first ∙ (whole ∙ sites-listed sides nodes m kept.conforming kept.shows))
