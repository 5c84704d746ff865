use Rattle.std.proofs.Common.{◌≡◌, ◌<◌, ◌+◌, ℕ, length, take, sym, ◌∙◌, ap, subst, arith, vec_capacity}
use Rattle.pf_model.specs.Mesh.{Undivided}
use Rattle.pf_model.specs.Conforming.{IsConforming, IsLive}
use Rattle.pf_model.specs.Applied.{IsFresh}
use Rattle.pf_model.specs.Sums.{area2_of}
use Rattle.pf_edges.specs.Kept.{mesh_of, IsKept}
use Rattle.std.specs.Prelude.{◌≢◌, OnOk, IfErr, Some}
use Rattle.std.specs.Option.{option_map}
use Rattle.pf_model.specs.Replay.{IsLegal, first_refusal}
use Rattle.pf_apply.specs.declared.run.ApplyErr.TheVariants.{Memory}
use Rattle.pf_apply.specs.Run.{IsReached, stop_of}
use Rattle.pf_apply.proofs.RunEnds.{IsEnd, count_of, ran, run-ended, ended-ok, ended-err, parts-ended, area-ended, legal-ended, refused-ended}
use Rattle.pf_mesh.proofs.MeshLemmas.{same-mesh}
use Rattle.pf_mesh.proofs.mesh.Mesh.apply_all.Goals as goal
use Rattle.std.proofs.Common.{List}
use Rattle.pf_model.specs.declared.Entry.{Entry}
use Rattle.pf_model.proofs.Replays.{unrefused-legal, tickets-take}
use Rattle.pf_mesh.proofs.Alike.{IsReplay, replay-covers, replay-euler, replay-fans}

pub run_entries-ran-requires-clause-reached : goal.run_entries-ran-requires-clause-reached
run_entries-ran-requires-clause-reached c =
    let i = c.self.inside in
    let m = mesh_of i.first_new i.sites.items i.tris.items i.bands.items i.chunks in
    let F : Undivided → Type 0 = λ x. IsFresh x 0 in
    record {
      mesh = m;
      reached = record {
        kept = c.self.invariant;
        bands_are = sym c.deref.ensures.value;
        first = ap (λ (x : Undivided). x.first_new) (same-mesh c.self.view_is) ∙ sym c.first_new-first_new.ensures.value;
        fresh = subst F (sym (same-mesh c.self.view_is)) c.requires.fresh;
        sites_fit = (let cap = c.clear.ensures.capacity in let ok = i.sites.ok in let small = i.sites.small in omega (arith, cap, ok, small));
        tris_fit = (let cap = c.clear-2.ensures.capacity in let ok = i.tris.ok in let small = i.tris.small in omega (arith, cap, ok, small));
      };
    }

pub relist_sites-requires : goal.relist_sites-requires
relist_sites-requires c =
    let i = c.self.inside in
    let m = mesh_of i.first_new i.sites.items i.tris.items i.bands.items i.chunks in
    let F : Undivided → Type 0 = λ x. IsFresh x 0 in
    let es = c.args.entries.now in
    let r = c.run_entries-ran.result in
    let new = c.run_entries-ran.new.table in
    let first_new = c.first_new-first_new.result in
    let I : Undivided → Type 0 = λ n. IsReached i.table.sides i.table.nodes.items c.deref.result.now first_new 0 (vec_capacity c.clear.new.self) (vec_capacity c.clear-2.new.self) n in
    let R : ℕ → Undivided → Type 0 = λ k n. IsReached new.sides new.nodes.items c.deref.result.now first_new k (vec_capacity c.run_entries-ran.new.sites) (vec_capacity c.run_entries-ran.new.tris) n in
    let start : I m = record {
      kept = c.self.invariant;
      bands_are = sym c.deref.ensures.value;
      first = ap (λ (x : Undivided). x.first_new) (same-mesh c.self.view_is) ∙ sym c.first_new-first_new.ensures.value;
      fresh = subst F (sym (same-mesh c.self.view_is)) c.requires.fresh;
      sites_fit = (let cap = c.clear.ensures.capacity in let ok = i.sites.ok in let small = i.sites.small in omega (arith, cap, ok, small));
      tris_fit = (let cap = c.clear-2.ensures.capacity in let ok = i.tris.ok in let small = i.tris.small in omega (arith, cap, ok, small));
    } in
    let end : IsEnd R m es r = run-ended I R m es r c.run_entries-ran.ensures.applied c.run_entries-ran.ensures.stopped start in
    let n = ran m es r in
    let at = end.reached in
    let below : (k : ℕ) → IsLive n k → k < first_new + length es = λ k l. (let a = at.fresh k l in let b = at.first in let w = end.within in omega (arith, a, b, w)) in
    record { mesh = n; kept = at.kept; below = below; few = at.sites_fit }

pub relist_tris-requires : goal.relist_tris-requires
relist_tris-requires c =
    let i = c.self.inside in
    let m = mesh_of i.first_new i.sites.items i.tris.items i.bands.items i.chunks in
    let F : Undivided → Type 0 = λ x. IsFresh x 0 in
    let es = c.args.entries.now in
    let r = c.run_entries-ran.result in
    let new = c.run_entries-ran.new.table in
    let first_new = c.first_new-first_new.result in
    let I : Undivided → Type 0 = λ n. IsReached i.table.sides i.table.nodes.items c.deref.result.now first_new 0 (vec_capacity c.clear.new.self) (vec_capacity c.clear-2.new.self) n in
    let R : ℕ → Undivided → Type 0 = λ k n. IsReached new.sides new.nodes.items c.deref.result.now first_new k (vec_capacity c.run_entries-ran.new.sites) (vec_capacity c.run_entries-ran.new.tris) n in
    let start : I m = record {
      kept = c.self.invariant;
      bands_are = sym c.deref.ensures.value;
      first = ap (λ (x : Undivided). x.first_new) (same-mesh c.self.view_is) ∙ sym c.first_new-first_new.ensures.value;
      fresh = subst F (sym (same-mesh c.self.view_is)) c.requires.fresh;
      sites_fit = (let cap = c.clear.ensures.capacity in let ok = i.sites.ok in let small = i.sites.small in omega (arith, cap, ok, small));
      tris_fit = (let cap = c.clear-2.ensures.capacity in let ok = i.tris.ok in let small = i.tris.small in omega (arith, cap, ok, small));
    } in
    let end : IsEnd R m es r = run-ended I R m es r c.run_entries-ran.ensures.applied c.run_entries-ran.ensures.stopped start in
    let n = ran m es r in
    let at = end.reached in
    record { mesh = n; kept = at.kept; few = at.tris_fit }

-- the mesh before, the first new name, and the entries
abbrev before : goal.After-relist_tris → Undivided
before c = mesh_of c.self.inside.first_new c.self.inside.sites.items c.self.inside.tris.items c.self.inside.bands.items c.self.inside.chunks

abbrev given : goal.After-relist_tris → List Entry
given c = c.args.entries.now

-- the mesh after
abbrev after : goal.After-relist_tris → Undivided
after c = mesh_of c.self.inside.first_new c.relist_sites.new.sites.items c.relist_tris.new.tris.items c.self.inside.bands.items c.self.inside.chunks

-- what the table shows before the run, and after so many entries
abbrev Start : goal.After-relist_tris → Undivided → Type 0
Start c n = IsReached c.self.inside.table.sides c.self.inside.table.nodes.items c.deref.result.now c.first_new-first_new.result 0 (vec_capacity c.clear.new.self) (vec_capacity c.clear-2.new.self) n

abbrev Reached : goal.After-relist_tris → ℕ → Undivided → Type 0
Reached c k n = IsReached c.run_entries-ran.new.table.sides c.run_entries-ran.new.table.nodes.items c.deref.result.now c.first_new-first_new.result k (vec_capacity c.run_entries-ran.new.sites) (vec_capacity c.run_entries-ran.new.tris) n

start : (c : goal.After-relist_tris) → Start c (before c)
start c =
    let i = c.self.inside in
    let F : Undivided → Type 0 = λ x. IsFresh x 0 in
    record {
      kept = c.self.invariant;
      bands_are = sym c.deref.ensures.value;
      first = ap (λ (x : Undivided). x.first_new) (same-mesh c.self.view_is) ∙ sym c.first_new-first_new.ensures.value;
      fresh = subst F (sym (same-mesh c.self.view_is)) c.requires.fresh;
      sites_fit = (let cap = c.clear.ensures.capacity in let ok = i.sites.ok in let small = i.sites.small in omega (arith, cap, ok, small));
      tris_fit = (let cap = c.clear-2.ensures.capacity in let ok = i.tris.ok in let small = i.tris.small in omega (arith, cap, ok, small));
    }

end : (c : goal.After-relist_tris) → IsEnd (Reached c) (before c) (given c) c.run_entries-ran.result
end c = run-ended (Start c) (Reached c) (before c) (given c) c.run_entries-ran.result c.run_entries-ran.ensures.applied c.run_entries-ran.ensures.stopped (start c)

-- the mesh after is that to which the run has come
came : (c : goal.After-relist_tris) → after c ≡ ran (before c) (given c) c.run_entries-ran.result
came c =
    let i = c.self.inside in
    let es = given c in
    let r = c.run_entries-ran.result in
    let n = ran (before c) es r in
    let e = end c in
    let at = e.reached in
    let below : (k : ℕ) → IsLive n k → k < c.first_new-first_new.result + length es = λ k l. (let a = at.fresh k l in let b = at.first in let w = e.within in omega (arith, a, b, w)) in
    parts-ended (before c) (take (count_of es r) es) i.first_new c.relist_sites.new.sites.items c.relist_tris.new.tris.items i.bands.items
    (at.first ∙ (c.first_new-first_new.ensures.value ∙ ap (λ (x : Undivided). x.first_new) (sym (same-mesh c.self.view_is))))
    (c.relist_sites.ensures n at.kept below) (c.relist_tris.ensures n at.kept) (at.bands_are ∙ c.deref.ensures.value)

-- from the mesh that callers see before
came-from : (c : goal.After-relist_tris) → after c ≡ ran c.args.self.now.mesh (given c) c.run_entries-ran.result
came-from c = came c ∙ ap (λ (k : Undivided). ran k (given c) c.run_entries-ran.result) (same-mesh c.self.view_is)

-- it is the replay of a legal journal
replay : (c : goal.After-relist_tris) → IsReplay c.args.self.now.mesh (after c)
replay c =
    let L : Undivided → Type 0 = λ x. IsLegal x (take (count_of (given c) c.run_entries-ran.result) (given c)) in
    record {
      entries = take (count_of (given c) c.run_entries-ran.result) (given c);
      legal = subst L (same-mesh c.self.view_is) (unrefused-legal 0 (before c) (take (count_of (given c) c.run_entries-ran.result) (given c)) (tickets-take 0 (count_of (given c) c.run_entries-ran.result) (given c) c.requires.tickets) (end c).passed);
      is = came-from c;
    }

pub invariant_of-self : goal.invariant_of-self
invariant_of-self c =
    let P : Undivided → Type 0 = λ x. IsKept c.run_entries-ran.new.table.sides c.run_entries-ran.new.table.nodes.items x in
    subst P (sym (came c)) (end c).reached.kept

pub returns-clause-replayed : goal.returns-clause-replayed
returns-clause-replayed c = ended-ok (after c) c.args.self.now.mesh (given c) c.run_entries-ran.result (came-from c)

pub returns-clause-before : goal.returns-clause-before
returns-clause-before c = ended-err (after c) c.args.self.now.mesh (given c) c.run_entries-ran.result (came-from c)

pub returns-clause-conforming : goal.returns-clause-conforming
returns-clause-conforming c = let P : Undivided → Type 0 = λ x. IsConforming x in subst P (sym (came c)) (end c).reached.kept.conforming

pub returns-clause-area : goal.returns-clause-area
returns-clause-area c =
    ap area2_of (came c)
    ∙ (area-ended (before c) (given c) (count_of (given c) c.run_entries-ran.result) c.self.invariant.conforming (start c).fresh c.requires.tickets (end c).passed
    ∙ ap area2_of (same-mesh c.self.view_is))

pub returns-clause-cover : goal.returns-clause-cover
returns-clause-cover c = replay-covers c.args.self.now.mesh (after c) c.first_new-first_new.ensures.conforming c.requires.fresh (replay c)

pub returns-clause-euler : goal.returns-clause-euler
returns-clause-euler c = replay-euler c.args.self.now.mesh (after c) c.first_new-first_new.ensures.conforming c.requires.fresh (replay c)

pub returns-clause-fans : goal.returns-clause-fans
returns-clause-fans c = replay-fans c.args.self.now.mesh (after c) c.first_new-first_new.ensures.conforming c.requires.fresh (replay c)

pub returns-clause-legal : goal.returns-clause-legal
returns-clause-legal c =
    let P : Undivided → Type 0 = λ x. OnOk c.run_entries-ran.result (IsLegal x (given c)) in
    subst P (same-mesh c.self.view_is) (legal-ended (before c) (given c) c.run_entries-ran.result c.requires.tickets (end c).all)

pub returns-clause-refused : goal.returns-clause-refused
returns-clause-refused c =
    let P : Undivided → Type 0 = λ x. IfErr c.run_entries-ran.result (λ stop. stop.fault ≢ Memory → option_map stop_of (first_refusal x (given c)) ≡ Some stop) in
    subst P (same-mesh c.self.view_is) (refused-ended (before c) (given c) c.run_entries-ran.result c.requires.tickets (end c).stopped)
