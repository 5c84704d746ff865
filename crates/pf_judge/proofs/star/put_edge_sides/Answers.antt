use Rattle.std.proofs.Common.{sym, ◌∙◌, ap}
use Rattle.pf_model.specs.Rising.{insert_by}
use Rattle.pf_model.specs.Stars.{spoke_lt}
use Rattle.pf_judge.proofs.StarFan.{flank-on, flank-before, edge_sides-both, edge_sides-none}
use Rattle.pf_judge.proofs.star.put_edge_sides.Goals as goal

pub returns-in_default-before-clause-found : goal.returns-in_default-before-clause-found
returns-in_default-before-clause-found c = λ m u ok s f edge. absurd (edge_sides-none m ok u c.args.v edge (c.in_default.ensures.found m u ok s (f.on_left ∙ sym (s.triangles.sides u c.args.v))) (c.in_default-before.ensures.found m u ok s (f.on_right ∙ sym (s.triangles.sides c.args.v u))))

pub returns-in_default-clause-found : goal.returns-in_default-clause-found
returns-in_default-clause-found c = λ m u ok s f edge. flank-before m ok u c.put_spoke.new.spokes.items c.args.v c.in-Some-before.before (c.put_spoke.ensures.items ∙ ap (insert_by spoke_lt c.in-Some-before.before) c.requires) (c.in-Some-before.ensures.found m u ok s (f.on_right ∙ sym (s.triangles.sides c.args.v u)))

pub returns-in_default-before-2-clause-found : goal.returns-in_default-before-2-clause-found
returns-in_default-before-2-clause-found c = λ m u ok s f edge. flank-on m ok u c.put_spoke-2.new.spokes.items c.args.v c.in-Some.on (c.put_spoke-2.ensures.items ∙ ap (insert_by spoke_lt c.in-Some.on) c.requires) (c.in-Some.ensures.found m u ok s (f.on_left ∙ sym (s.triangles.sides u c.args.v)))

pub returns-clause-found : goal.returns-clause-found
returns-clause-found c = λ m u ok s f edge. edge_sides-both m ok u c.put_spoke-3.new.spokes.items c.args.v c.in-Some.on c.in-Some-before-2.before (c.put_spoke-3.ensures.items ∙ ap (insert_by spoke_lt c.in-Some-before-2.before) (c.put_spoke-2.ensures.items ∙ ap (insert_by spoke_lt c.in-Some.on) c.requires)) (c.in-Some.ensures.found m u ok s (f.on_left ∙ sym (s.triangles.sides u c.args.v))) (c.in-Some-before-2.ensures.found m u ok s (f.on_right ∙ sym (s.triangles.sides c.args.v u)))
