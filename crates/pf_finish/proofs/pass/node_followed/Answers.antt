use Rattle.std.proofs.Common.{◌∙◌, ℕ, sym, subst, List}
use Rattle.pf_model.specs.Lengths.{edge_of}
use Rattle.pf_model.specs.Mesh.{Undivided}
use Rattle.pf_finish.specs.Seen.{IsSettled}
use Rattle.pf_finish.specs.Wished.{HasWishes}
use Rattle.pf_finish.proofs.Wishing.{mesh_same, ok_told}
use Rattle.pf_finish.proofs.Quiet.{node_settled}
use Rattle.pf_finish.proofs.pass.node_followed.Goals as goal

pub returns-clause-settled : goal.returns-clause-settled
returns-clause-settled g c = λ none stays.
    let m = g.H.Holder in
    let t = g.met.H.Holder in
    let h0 = c.args.h.now in
    let h1 = c.wishes_at.new.h in
    let w = c.wishes_at.ensures in
    let q = mesh_same (m.opening h0) (m.opening h1) (m.entries h0) (m.entries h1) (t.same_opening h0 h1 w.same) w.kept.0 in
    node_settled (record { of_mesh = c.look_is_of_mesh.ensures; edges = c.neighbours_have_edges.ensures; no_flip = c.no_shorter_no_flip.ensures }) (m.opening h0) (m.pairs h0) (m.allowance h0) (m.entries h0) c.args.n c.deref.result.now (t.alone_knows h0 c.requires.alone)
    (λ s h. subst (λ (l : List ℕ). HasWishes (m.opening h0).mesh.bands s l) (sym c.deref.ensures.value) (ok_told c.wishes_at.result _ (sym c.is_err.ensures.value ∙ c.if-is_err.false) w.found s h))
    (λ x i. subst (λ (y : Undivided). IsSettled y (edge_of c.args.n x)) q (c.edges_followed.ensures.settled none (stays ∙ sym w.kept.1) x i))
