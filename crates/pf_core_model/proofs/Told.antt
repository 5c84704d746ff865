-- What a view tells in a sound state.
use Rattle.std.proofs.Common.{◌≡◌, ◌≢◌, ◌⊎◌, ℕ, zero, suc, ◌+◌, ◌-◌, ◌<◌, ◌≤◌, Bool, true, false, cond, ◌||◌, List, [], ◌∷◌, ◌++◌, length, set, map, refl, sym, ap, ◌∙◌, subst, inl, inr, ⊎_elim, arith}
use Rattle.std.specs.Prelude.{slice_index, Option, Some, None, is_some, Contains, min, max}
use Rattle.std.proofs.lemmas.Bool.Decides.{nat_tests}
use mathlib.Core.Option.{some, some-injective, some-ne-none}
use mathlib.Core.Logic.{dite}
use native.Mathlib.Decide.{dec_le, ℕ_discrete}
use lib.ListN.{get_elem?}
use Rattle.pf_geom.specs.declared.Point.{Point}
use Rattle.pf_geom.specs.Plane.{middle_of}
use Rattle.pf_model.specs.declared.Tri.{Tri}
use Rattle.pf_model.specs.declared.Spoke.{Spoke}
use Rattle.pf_model.specs.declared.Op.{Op}
use Rattle.pf_model.specs.declared.Op.TheVariants.{Flip, Bisect, Contract}
use Rattle.pf_model.specs.declared.Cond.{Cond}
use Rattle.pf_model.specs.declared.Entry.{Entry}
use Rattle.pf_model.specs.Mesh.{Undivided, tri_of, has_corner, point_of, place_of}
use Rattle.pf_model.specs.Conforming.{IsConforming, IsLive}
use Rattle.pf_model.specs.Applied.{IsFresh, applied, op_applied, new_site}
use Rattle.pf_model.specs.Conditions.{neighbours}
use Rattle.pf_model.specs.Replay.{replayed}
use Rattle.pf_model.specs.Stars.{Star, star_of, spokes_of}
use Rattle.pf_model.proofs.SitesAfter.{point_of-past}
use Rattle.pf_model.proofs.SitesLess.{without_name, point_of-without, point_of-gone}
use Rattle.pf_model.proofs.Spokes.{spokes-means, spokes-has}
use Rattle.pf_model.proofs.Triangles.{tri_of-turned, tri_of-corner}
use Rattle.pf_core_model.specs.declared.view.View.{View}
use Rattle.pf_star_model.specs.Lent.{Held, spokes_in}
use Rattle.pf_core_model.specs.Lists.{In, times, total}
use Rattle.pf_core_model.specs.Sharers.{sharers_in}
use Rattle.pf_core_model.proofs.Sharing.{none_due}
use Rattle.pf_core_model.specs.Cavity.{makes_node, makes, is_made, neighbours_in}
use Rattle.pf_core_model.specs.Moves.{unborn_by, refused, made_list, committed}
use Rattle.pf_core_model.specs.Needs.{KeepsOutside}
use Rattle.pf_core_model.specs.History.{with_ticket}
use Rattle.pf_core_model.specs.Core.{Opening, names_of, mesh_after, star_after, held_by, number_of, nodes_in, nodes_of, tickets_of, ArePatched, Homes, Sound}
use Rattle.pf_core_model.specs.Guards.{IsMeshOf, IsViewJudged, ViewHoldsCavity, IsViewPatch, IsAlone, KnowsHistory}
use Rattle.pf_core_model.proofs.Lists.{total_some, in_none, in_left, in_right, in_map, in_mapped, in_times}
use Rattle.pf_core_model.proofs.Replays.{star_after_is, star_applied, conforms_after, fresh_after, replayed_first_new, replayed_chunks, replayed_bands, makes_here, or_right}
use Rattle.pf_core_model.proofs.Views.{some_not_none, node_in, acts, one_number, apart, holder_of}
use Rattle.pf_core_model.proofs.Learnt.{refuses}
use Rattle.pf_core_model.proofs.Commits.{commits}
use Rattle.pf_core_model.proofs.Born.{spokes_from, neighbour_of, corner_live, not_itself, not_pinched, contains_in}
use Rattle.pf_core_model.proofs.Histories.{history_is, found_here, at_below}

-- live names of a replay were live in the mesh before, or were made
live_before : (m : Undivided) (t : ℕ) (op : Op) (n : ℕ) → IsLive (op_applied m t op) n → IsLive m n ⊎ ((makes_node op ≡ true) × (n ≡ m.first_new + t))
live_before m t (Flip a b) n l = inl l
live_before m t (Bisect a b) n l = go (point_of m.sites n) refl
  where
    only : (q : Option Point) → is_some (point_of (new_site (m.first_new + t) q) n) ≡ true → n ≡ m.first_new + t
    only None e = absurd (let z : false ≡ true = e in cc (z))
    only (Some p) e = grind (arith, nat_tests)

    go : (q : Option Point) → point_of m.sites n ≡ q → IsLive m n ⊎ ((makes_node (Bisect a b) ≡ true) × (n ≡ m.first_new + t))
    go (Some p) e = inl (ap is_some e)
    go None e = inr (refl, only (middle_of (place_of m (min a b)) (place_of m (max a b))) (ap is_some (sym (point_of-past m.sites (new_site (m.first_new + t) (middle_of (place_of m (min a b)) (place_of m (max a b)))) n e)) ∙ l))
live_before m t (Contract u v) n l = dite (ℕ_discrete n u)
    (λ e. absurd (let a : is_some (point_of (without_name u m.sites) u) ≡ true = subst (λ w. is_some (point_of (without_name u m.sites) w) ≡ true) e l in let z : false ≡ true = sym (ap is_some (point_of-gone u m.sites)) ∙ a in cc (z)))
    (λ ne. inl (sym (ap is_some (point_of-without u n m.sites ne)) ∙ l))

pub live_known : (m : Undivided) (log : List Entry) (n : ℕ) → IsLive (replayed m log) n → IsLive m n ⊎ (is_made m.first_new log n ≡ true)
live_known m [] n l = inl l
live_known m (e ∷ es) n l =
    let same : (applied m e).first_new ≡ m.first_new = replayed_first_new m (e ∷ []) in
    ⊎_elim
    (λ (x : IsLive (applied m e) n). ⊎_elim
    (λ (y : IsLive m n). inl y)
    (λ (y : (makes_node e.op ≡ true) × (n ≡ m.first_new + e.ticket)). inr (ap (λ (b : Bool). b || is_made m.first_new es n) (makes_here m.first_new n e y.0 y.1)))
    (live_before m e.ticket e.op n x))
    (λ (x : is_made (applied m e).first_new es n ≡ true). inr (or_right (makes m.first_new n e) (is_made m.first_new es n) (ap (λ (f : ℕ). is_made f es n) (sym same) ∙ x)))
    (live_known (applied m e) es n l)

-- a neighbour in a star of a conforming mesh is live, and has the node as a neighbour
pub record AreNeighbours (m : Undivided) (n x : ℕ) : Type 0 where
  pub live : IsLive m x
  pub back : In n (neighbours_in (star_of m x))

star_live : (m : Undivided) (n : ℕ) → IsLive m n → spokes_in (star_of m n) ≡ spokes_of m n
star_live m n l = ap (λ (b : Bool). spokes_in (cond b (Some record { node = n; at = place_of m n; spokes = spokes_of m n }) None)) l

pub are_neighbours : (m : Undivided) → IsConforming m → (n x : ℕ) → In x (neighbours_in (star_of m n)) → AreNeighbours m n x
are_neighbours m ok n x h =
    let s = neighbour_of x (spokes_in (star_of m n)) h in
    let tri : Contains m.tris (tri_of n s.0.right s.0.left s.0.owner) = spokes-means m ok n s.0 (spokes_from m n s.0 s.1) in
    let t : Tri = tri_of n s.0.right s.0.left s.0.owner in
    let corner : has_corner x t ≡ true = tri_of-corner x n s.0.right s.0.left s.0.owner (⊎_elim (λ (e : x ≡ s.0.right). inr (inl (sym e))) (λ (e : x ≡ s.0.left). inr (inr (sym e))) s.2) in
    let live : IsLive m x = corner_live m t x (ok.proper t tri) corner in
    let not_right : n ≢ s.0.right = λ e. not_itself m ok n s.0 tri (inl e) in
    let not_left : s.0.left ≢ n = λ e. not_itself m ok n s.0 tri (inr (sym e)) in
    let apart : s.0.right ≢ s.0.left = λ e. not_pinched m ok n s.0 tri e in
    let one : tri_of n s.0.right s.0.left s.0.owner ≡ tri_of s.0.right s.0.left n s.0.owner = tri_of-turned n s.0.right s.0.left s.0.owner not_right apart not_left in
    let two : tri_of s.0.right s.0.left n s.0.owner ≡ tri_of s.0.left n s.0.right s.0.owner = tri_of-turned s.0.right s.0.left n s.0.owner apart not_left not_right in
    record {
      live = live;
      back = subst (λ (ss : List Spoke). In n (neighbours ss)) (sym (star_live m x live)) (⊎_elim
          (λ (e : x ≡ s.0.right).
          let r = spokes-has m ok s.0.right s.0.left n s.0.owner (subst (Contains m.tris) one tri) in
          subst (λ (k : ℕ). In n (neighbours (spokes_of m k))) (sym e) (in_right n (map (λ (q : Spoke). q.right) (spokes_of m s.0.right)) (map (λ (q : Spoke). q.left) (spokes_of m s.0.right))
          (subst (λ (k : ℕ). In k (map (λ (q : Spoke). q.left) (spokes_of m s.0.right))) r.3 (in_map (λ (q : Spoke). q.left) r.0 (spokes_of m s.0.right) (in_of r.0 (spokes_of m s.0.right) r.1)))))
          (λ (e : x ≡ s.0.left).
          let r = spokes-has m ok s.0.left n s.0.right s.0.owner (subst (Contains m.tris) (one ∙ two) tri) in
          subst (λ (k : ℕ). In n (neighbours (spokes_of m k))) (sym e) (in_left n (map (λ (q : Spoke). q.right) (spokes_of m s.0.left)) (map (λ (q : Spoke). q.left) (spokes_of m s.0.left))
          (subst (λ (k : ℕ). In k (map (λ (q : Spoke). q.right) (spokes_of m s.0.left))) r.2 (in_map (λ (q : Spoke). q.right) r.0 (spokes_of m s.0.left) (in_of r.0 (spokes_of m s.0.left) r.1)))))
          s.2);
    }
  where
    in_of : (s : Spoke) (ss : List Spoke) → Contains ss s → In s ss
    in_of s ss h = contains_in s ss h

-- where there is no star, the name isn't live
pub star_none : (m : Undivided) (n : ℕ) → star_of m n ≡ None → is_some (point_of m.sites n) ≡ false
star_none m n e = go (is_some (point_of m.sites n)) e
  where
    go : (b : Bool) → cond {A = Option Star} b (Some record { node = n; at = place_of m n; spokes = spokes_of m n }) None ≡ None → b ≡ false
    go true k = absurd (let z : true ≡ false = ap is_some k in cc (z))
    go false k = refl

total_none : {A : Type 0} (f : A → ℕ) (xs : List A) → ((j : ℕ) (u : A) → get_elem? xs j ≡ some u → f u ≡ 0) → total f xs ≡ 0
total_none f [] all = refl
total_none f (x ∷ xs) all = let q = all zero x refl in let z = total_none f xs (λ j u e. all (suc j) u e) in omega arith

-- a sum to which one place alone adds
total_only : {A : Type 0} (f : A → ℕ) (xs : List A) (i : ℕ) (v : A) → get_elem? xs i ≡ some v → ((j : ℕ) (u : A) → j ≢ i → get_elem? xs j ≡ some u → f u ≡ 0) → total f xs ≡ f v
total_only f [] i v at rest = absurd (some-ne-none v (sym at))
total_only f (x ∷ xs) zero v at rest =
    let q : f x ≡ f v = ap f (some-injective x v at) in
    let z : total f xs ≡ 0 = total_none f xs (λ j u e. rest (suc j) u (λ k. omega arith) e) in omega arith
total_only f (x ∷ xs) (suc i) v at rest =
    let q : f x ≡ 0 = rest zero x (λ k. omega arith) refl in
    let z = total_only f xs i v at (λ j u ne e. rest (suc j) u (λ k. ne (omega arith)) e) in omega arith

module _ (o : Opening) (words : List ℕ) (homes : Homes) (views : List View) (log : List Entry) (s : Sound o words homes views log) (id : ℕ) (v : View) (at : get_elem? views id ≡ some v) where
  pub shown_mesh : v.numbers ≢ [] → IsMeshOf v (mesh_after o log)
  shown_mesh actor =
      let f = s.fits id v at in
      let k = f.knows actor in
      record {
        conforming = conforms_after o log s.conforming s.fresh s.legal;
        first_new = replayed_first_new o.mesh log ∙ sym k.1;
        chunks = replayed_chunks o.mesh log ∙ sym k.2;
        bands = replayed_bands o.mesh log ∙ sym k.3;
        pairs = λ p h. f.pairs p h ∙ star_after_is o log p.node;
      }

  pub judged_keeps : (chunk : ℕ) (op : Op) (why : Cond) → v.numbers ≢ [] → IsViewJudged v chunk op (Some why) → Sound o words homes (set views id (refused v (length log) chunk op why)) log
  judged_keeps chunk op why actor judged = refuses o words homes views log s id v chunk op why at (judged (mesh_after o log) (shown_mesh actor))

  pub made_keeps : (outside : KeepsOutside) (homes' : Homes) (e : Entry) (fresh : List Held)
      → length homes' ≡ length homes → ((n : ℕ) → makes o.mesh.first_new n e ≡ false → get_elem? homes' n ≡ get_elem? homes n)
      → v.numbers ≢ [] → v.unborn ≡ None → 0 < v.allowance → e.ticket ≡ length log → IsViewJudged v e.chunk e.op None → ViewHoldsCavity v e.chunk e.op → IsViewPatch v e fresh
      → Sound o (set words (names_of o) (length log + 1)) homes' (set views id (committed v e fresh (unborn_by v.first_new e))) (log ++ e ∷ [])
  made_keeps outside homes' e fresh full home_else actor clear rich ticket judged cavity patch =
      let m : Undivided = mesh_after o log in
      let is = shown_mesh actor in
      let new : v.first_new ≡ o.mesh.first_new = ((s.fits id v at).knows actor).1 in
      let fresh_now : IsFresh m e.ticket = subst (λ (t : ℕ). IsFresh m t) (sym ticket) (fresh_after o log s.conforming s.fresh s.legal) in
      let patched : ArePatched o log v e fresh =
      record {
        nodes = patch.nodes ∙ ap (λ (f : ℕ). made_list f e ++ nodes_of v) new;
        pairs = λ p h. patch.pairs m is fresh_now (judged m is) p h ∙ star_applied o log e p.node;
      } in
      subst (λ (f : ℕ). Sound o (set words (names_of o) (length log + 1)) homes' (set views id (committed v e fresh (unborn_by f e))) (log ++ e ∷ [])) (sym new)
      (commits outside o words homes views log s homes' id v e fresh full home_else at actor clear rich ticket (judged m is) (cavity m is) patched)

  -- the other views of one that is alone are those of no actor
  pub others_spent : v.numbers ≢ [] → IsAlone v → (j : ℕ) (u : View) → j ≢ id → get_elem? views j ≡ some u → u.numbers ≡ []
  others_spent actor alone j u ne there = go u.numbers refl
    where
      go : (l : List ℕ) → u.numbers ≡ l → u.numbers ≡ []
      go [] e = e
      go (k ∷ ks) e =
          let mine : In k u.numbers = subst (λ (l : List ℕ). In k l) (sym e) (inl refl) in
          let low = (s.fits j u there).below k mine in
          let same = ((s.fits id v at).knows actor).0 in
          absurd (one_number o words homes views log s id j v u k at there ne (alone k (omega arith)) mine)

  pub others_hold : (n : ℕ) → v.numbers ≢ [] → n < names_of o → 3 ≤ slice_index words n → (In n (nodes_of v) → ⊥) → (slice_index words n ≢ held_by (number_of v)) × (IsAlone v → ⊥)
  others_hold n actor near three away =
      let h = s.held n near three in
      let u : View = h.view in (
        (λ by. away (holder_of o words homes views log s id n v at actor near by)),
        (λ alone. dite (ℕ_discrete h.place id)
            (λ e. away (subst (λ (y : View). In n (nodes_of y)) (some-injective u v (sym h.at ∙ ap (λ (j : ℕ). get_elem? views j) e ∙ at)) h.holds))
            (λ ne. acts o words homes views log s u (s.fits h.place u h.at) n h.holds (others_spent actor alone h.place u ne h.at))),
      )

  pub neighbour_near : (p : Held) (x : ℕ) → v.unborn ≡ None → In p v.held → In x (neighbours_in p.star) → (x < names_of o) × ((slice_index words x ≡ 0) ⊎ (3 ≤ slice_index words x))
  neighbour_near p x clear held h =
      let f = s.fits id v at in
      let m : Undivided = mesh_after o log in
      let ok = conforms_after o log s.conforming s.fresh s.legal in
      let both = are_neighbours m ok p.node x (subst (λ (st : Option Star). In x (neighbours_in st)) (f.pairs p held ∙ star_after_is o log p.node) h) in
      let name : x < o.mesh.first_new + length log = let z = fresh_after o log s.conforming s.fresh s.legal x both.live in let y = replayed_first_new o.mesh log in omega arith in
      let near : x < names_of o = let b = s.budget in omega arith in
      let live_star : star_after o log x ≢ None = λ e. let z : true ≡ false = sym both.live ∙ star_none m x (sym (star_after_is o log x) ∙ e) in absurd (cc (z)) in
      let not_dead : slice_index words x ≢ 1 = λ e. live_star (s.dead x near e).gone in
      let not_two : slice_index words x ≢ 2 = λ e.
      let known = live_known o.mesh log x both.live in
      let made : is_made o.mesh.first_new log x ≡ true = ⊎_elim (λ (l : IsLive o.mesh x). absurd (s.read x (let z = s.fresh x l in omega arith) e)) (λ (k : is_made o.mesh.first_new log x ≡ true). k) known in
      let w = s.unborn x near e made in
      let u : View = w.view in
      let g = s.fits w.place u w.at in
      let y = g.unborn x w.holds in
      let back : In p.node (nodes_of u) = y.neighbours p.node (subst (λ (st : Option Star). In p.node (neighbours_in st)) (sym (star_after_is o log x)) both.back) in
      dite (ℕ_discrete w.place id)
      (λ same. some_not_none x (sym w.holds ∙ ap (λ (z : View). z.unborn) (some-injective u v (sym w.at ∙ ap (λ (j : ℕ). get_elem? views j) same ∙ at)) ∙ clear))
      (λ ne. apart o words homes views log s id w.place v u p.node at w.at ne (node_in p v.held held) back) in
      (near, pick (slice_index words x) not_dead not_two)
    where
      pick : (w : ℕ) → w ≢ 1 → w ≢ 2 → (w ≡ 0) ⊎ (3 ≤ w)
      pick zero a b = inl refl
      pick (suc zero) a b = absurd (a refl)
      pick (suc (suc zero)) a b = absurd (b refl)
      pick (suc (suc (suc w))) a b = inr (omega arith)

  pub knows_all : v.numbers ≢ [] → IsAlone v → KnowsHistory o log v
  knows_all actor alone =
      let f = s.fits id v at in
      let spent : (j : ℕ) (u : View) → j ≢ id → get_elem? views j ≡ some u → u.numbers ≡ [] = others_spent actor alone in
      let mine : (t : ℕ) → t < length log → (d : Entry) × In d v.entries × (t ≡ d.ticket) = λ t low.
      let c = s.once t low in
      let r = total_some (λ (u : View). times t (tickets_of u)) views (omega arith) in
      let d = in_mapped (λ (y : Entry). y.ticket) t r.1.entries (in_times t (tickets_of r.1) r.3) in
      dite (ℕ_discrete r.0 id)
      (λ e. (d.0, subst (λ (y : View). In d.0 y.entries) (some-injective r.1 v (sym r.2 ∙ ap (λ (j : ℕ). get_elem? views j) e ∙ at)) d.1, d.2))
      (λ ne. absurd (in_none d.0 r.1.entries d.1 ((s.fits r.0 r.1 r.2).spent (spent r.0 r.1 ne r.2)).1)) in
      record {
        history = history_is 0 (length log) v.entries log refl (λ i e there.
            let d = mine i (at_below log i e there) in
            ap (λ (k : ℕ). with_ticket k v.entries) (let z : 0 + i ≡ i = omega arith in z) ∙ found_here log v.entries i e (λ y k. (f.done y k).0) there d.0 d.1 (sym d.2));
        seen = dite (ℕ_discrete (length log) 0)
            (λ e. let z = f.seen in omega arith)
            (λ ne. let d = mine (length log - 1) (omega arith) in let k = (f.done d.0 d.1).1 in let z = f.seen in let q = d.2 in omega arith);
        budget = let z = total_only (λ (u : View). u.allowance) views id v at (λ j u ne there. ((s.fits j u there).spent (spent j u ne there)).2) in let b = s.budget in omega arith;
      }

  pub shows_copies : v.numbers ≢ [] → IsAlone v → v.held ≡ [] → (n : ℕ) → n < names_of o → get_elem? homes n ≡ some (some (sharers_in o.mesh.chunks (star_of (mesh_after o log) n)))
  shows_copies actor alone empty n near =
      let is : star_after o log n ≡ star_of (mesh_after o log) n = star_after_is o log n in
      let nobody : (i : ℕ) (u : View) → get_elem? views i ≡ some u → In n (nodes_of u) → ⊥
      = λ i u there h. dite (ℕ_discrete i id)
      (λ e. in_none n (nodes_of u) h (ap nodes_of (some-injective u v (sym there ∙ ap (λ (j : ℕ). get_elem? views j) e ∙ at)) ∙ ap nodes_in empty))
      (λ ne. in_none n (nodes_of u) h (ap nodes_in ((s.fits i u there).spent (others_spent actor alone i u ne there)).0)) in
      by_word (slice_index words n) refl (get_elem? homes n ≡ some (some (sharers_in o.mesh.chunks (star_of (mesh_after o log) n))))
      (λ e. let r = s.free n near e in r.copies ∙ ap (λ (x : Option Star). some (some (sharers_in o.mesh.chunks x))) (sym r.live ∙ is))
      (λ e. let r = s.dead n near e in r.copies ∙ none_home (star_of (mesh_after o log) n) (sym is ∙ r.gone))
      (λ e.
      let up : o.mesh.first_new ≤ n = by_order n o.mesh.first_new (λ low. s.read n low e) in
      let unmade : is_made o.mesh.first_new log n ≡ false = by_test (is_made o.mesh.first_new log n) (λ made. let w = s.unborn n near e made in nobody w.place w.view w.at ((s.fits w.place w.view w.at).unborn n w.holds).held) in
      let gone : star_of (mesh_after o log) n ≡ None = star_off (mesh_after o log) n (λ l. ⊎_elim (λ (x : IsLive o.mesh n). let z = s.fresh n x in absurd (omega arith)) (λ (x : is_made o.mesh.first_new log n ≡ true). absurd (let z : true ≡ false = sym x ∙ unmade in cc (z))) (live_known o.mesh log n l)) in
      (s.unmade n near up unmade).1 ∙ none_home (star_of (mesh_after o log) n) gone)
      (λ three. let h = s.held n near three in absurd (nobody h.place h.view h.at h.holds))
    where
      by_word : (w : ℕ) → slice_index words n ≡ w → (P : Type 0) → (slice_index words n ≡ 0 → P) → (slice_index words n ≡ 1 → P) → (slice_index words n ≡ 2 → P) → (3 ≤ slice_index words n → P) → P
      by_word zero e P a b c d = a e
      by_word (suc zero) e P a b c d = b e
      by_word (suc (suc zero)) e P a b c d = c e
      by_word (suc (suc (suc w))) e P a b c d = d (omega arith)

      by_order : (a b : ℕ) → (a < b → ⊥) → b ≤ a
      by_order a b h = dite (dec_le b a) (λ y. y) (λ n2. absurd (h (omega arith)))

      by_test : (b : Bool) → (b ≡ true → ⊥) → b ≡ false
      by_test true k = absurd (k refl)
      by_test false k = refl

      none_home : (x : Option Star) → x ≡ None → some (some []) ≡ some (some (sharers_in o.mesh.chunks x))
      none_home x e = ap (λ l. some (some l)) (sym (none_due 0 o.mesh.chunks)) ∙ ap (λ (y : Option Star). some (some (sharers_in o.mesh.chunks y))) (sym e)

      star_off : (m : Undivided) (k : ℕ) → (IsLive m k → ⊥) → star_of m k ≡ None
      star_off m k off = go (is_some (point_of m.sites k)) refl
        where
          go : (b : Bool) → is_some (point_of m.sites k) ≡ b → star_of m k ≡ None
          go true e = absurd (off e)
          go false e = ap (λ (y : Bool). cond y (Some record { node = k; at = place_of m k; spokes = spokes_of m k }) None) e
