use Rattle.std.proofs.Common.{◌≡◌, ◌+◌, ◌≤◌, length, drop}
use Rattle.std.specs.Prelude.{filter, pos}
use Rattle.pf_model.specs.Mesh.{place_of}
use Rattle.pf_model.specs.Sums.{cover_of}
use Rattle.pf_sums.specs.Inside.{is_strictly_inside}
use Rattle.pf_forms.proofs.cover.Given as goal

-- what was counted, and what is left to count, are the whole
abbrev pub invariant-loop-tri : goal.invariant-loop-tri
invariant-loop-tri l = record {
  counted : l.count + length (filter (λ t. is_strictly_inside (pos l.q) record { x = l.x; y = l.y } (place_of l.m.mesh t.a) (place_of l.m.mesh t.b) (place_of l.m.mesh t.c)) (drop l.tri-index l.tri-items)) ≡ cover_of l.m.mesh record { x = l.x; y = l.y } (pos l.q);
  few : l.count ≤ l.tri-index;
}
