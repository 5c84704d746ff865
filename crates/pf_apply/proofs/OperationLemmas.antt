-- What the table shows before and after an operation.
use Rattle.std.proofs.Common.{◌≡◌, ◌≢◌, ℕ, ◌+◌, ◌<◌, ◌≤◌, List, [], ◌∷◌, ◌++◌, length, refl, sym, ◌∙◌, ap, subst, Bool, true, false, cond, ◌⊎◌, inl, inr, arith, Option, Some, None, is_some}
use Rattle.std.specs.Prelude.{nat_lt, ◌==◌, unwrap_or, pos}
use Rattle.std.proofs.lemmas.Bool.Decides.{nat_tests}
use Rattle.indexmap.specs.IndexMap.{IsUnchanged}
use Rattle.pf_geom.specs.declared.Point.{Point}
use Rattle.pf_geom.specs.Plane.{IsInRange}
use Rattle.pf_model.specs.declared.Site.{Site}
use Rattle.pf_model.specs.declared.Tri.{Tri}
use Rattle.pf_model.specs.declared.Op.{Op}
use Rattle.pf_model.specs.declared.Op.TheVariants.{Flip, Bisect, Contract}
use Rattle.pf_model.specs.Mesh.{Undivided, point_of}
use Rattle.pf_model.specs.Conforming.{IsConforming}
use Rattle.pf_model.specs.Applied.{new_site, op_applied, contracted}
use Rattle.pf_model.proofs.SitesAfter.{point_of-append, point_of-past, fresh_not_live}
use Rattle.pf_model.proofs.SitesLess.{without_name, point_of-without, point_of-gone}
use Rattle.pf_model.proofs.ReadClauses.{bisect_passes}
use Rattle.pf_model.proofs.ReplayKeeps.{applied_conforms}
use Rattle.pf_edges.specs.declared.table.Node.{Node}
use Rattle.pf_edges.specs.Table.{Sides, place_at, triangles_at, point_or_origin, ArePlacesInRange, ShowsTriangles, HasSamePlaces}
use Rattle.pf_edges.specs.Kept.{IsKept, mesh_of}
use Rattle.pf_apply.specs.Sites.{sites_after}
use Rattle.pf_rules.specs.Change.{PassesWithName}
use Rattle.pf_apply.specs.Operations.{AreParts, HasPlaces}
use Rattle.pf_apply.proofs.MeshLemmas.{live-within, shown-point, shows-from, kept-unchanged}

-- the new name isn't live
pub new_not_live : (m : Undivided) (n : ℕ) (op : Op) → PassesWithName m n op → point_of m.sites n ≡ None
new_not_live m n op can = subst (λ k. point_of m.sites k ≡ None) can.name (fresh_not_live m.sites (m.first_new + can.ticket) can.fresh)

-- a name without triangles may stand elsewhere
pub keeps-stood : (sides : Sides) (nodes after : List Node) (m : Undivided) (n : ℕ) → IsKept sides nodes m → point_of m.sites n ≡ None → ((k : ℕ) → triangles_at after k ≡ triangles_at nodes k) → ((k : ℕ) → n ≢ k → place_at after k ≡ place_at nodes k) → ArePlacesInRange after → IsKept sides after m
keeps-stood sides nodes after m n k none counts others range =
    record {
      conforming = k.conforming;
      shows = record {
        triangles = record { sides = k.shows.triangles.sides; counts = λ i. counts i ∙ k.shows.triangles.counts i; all = k.shows.triangles.all };
        sites = λ i. ap (λ x. cond (nat_lt 0 x) (Some (place_at after i)) None) (counts i) ∙ go i (nat_lt 0 (triangles_at nodes i)) (k.shows.sites i);
      };
      in_range = range;
    }
  where
    go : (i : ℕ) (b : Bool) → cond b (Some (place_at nodes i)) None ≡ point_of m.sites i → cond b (Some (place_at after i)) None ≡ point_of m.sites i
    go i true e = ap (λ p. Some p) (others i (λ q. absurd (let x : Some (place_at nodes i) ≡ None = e ∙ subst (λ w. point_of m.sites w ≡ None) q none in cc))) ∙ e
    go i false e = e

-- the places of the mesh itself
pub places-kept : (sides : Sides) (nodes : List Node) (m : Undivided) → IsKept sides nodes m → HasPlaces nodes m
places-kept sides nodes m k = record { within = live-within sides nodes m k.shows; places = shown-point sides nodes m k.shows }

-- they stay where another name is moved
pub places-moved : (nodes after : List Node) (m : Undivided) (n : ℕ) → HasPlaces nodes m → point_of m.sites n ≡ None → length nodes ≤ length after → ((k : ℕ) → n ≢ k → place_at after k ≡ place_at nodes k) → HasPlaces after m
places-moved nodes after m n h none names others =
    record {
      within = λ k l. (let x = h.within k l in omega (arith, x, names));
      places = λ k p e. others k (λ q. absurd (let x : None ≡ Some p = sym none ∙ subst (λ w. point_of m.sites w ≡ Some p) (sym q) e in cc)) ∙ h.places k p e;
    }

live-some : (ss : List Site) (k : ℕ) → is_some (point_of ss k) ≡ true → (p : Point) × (point_of ss k ≡ Some p)
live-some ss k e = go (point_of ss k) refl e
  where
    go : (o : Option Point) → point_of ss k ≡ o → is_some o ≡ true → (p : Point) × (point_of ss k ≡ Some p)
    go None q f = absurd (let x : false ≡ true = f in cc)
    go (Some p) q f = (p, q)

-- the places after a contraction
pub places-contracted : (nodes : List Node) (m : Undivided) (u v : ℕ) → HasPlaces nodes m → HasPlaces nodes (contracted m u v)
places-contracted nodes m u v h = record { within = λ k l. let p = live-some (without_name u m.sites) k l in h.within k (ap is_some (old k p.0 p.1)); places = λ k p e. h.places k p (old k p e) }
  where
    eq_or_not : (a b : ℕ) → (a ≡ b) ⊎ (a ≢ b)
    eq_or_not a b = grind arith

    old : (k : ℕ) (p : Point) → point_of (without_name u m.sites) k ≡ Some p → point_of m.sites k ≡ Some p
    old k p e = elim (eq_or_not k u) [
      | inl q ↦ absurd (let x : point_of (without_name u m.sites) u ≡ Some p = subst (λ w. point_of (without_name u m.sites) w ≡ Some p) q e in let y : None ≡ Some p = sym (point_of-gone u m.sites) ∙ x in cc)
      | inr n ↦ sym (point_of-without u k m.sites n) ∙ e
    ]

-- the places after a new node, where the table has it
pub places-pushed : (nodes : List Node) (m m' : Undivided) (n : ℕ) (at : Point) → m'.sites ≡ m.sites ++ record { name = n; at = at } ∷ [] → HasPlaces nodes m → n < length nodes → place_at nodes n ≡ at → HasPlaces nodes m'
places-pushed nodes m m' n at same h within stands = record { within = λ k l. let p = live-some m'.sites k l in (found k p.0 p.1).0; places = λ k p e. (found k p e).1 }
  where
    itself : (k : ℕ) (p : Point) → cond (n == k) (Some at) None ≡ Some p → (n ≡ k) × (at ≡ p)
    itself k p e = go (n == k) refl e
      where
        names : (n == k) ≡ true → n ≡ k
        names e = grind (arith, nat_tests)

        go : (b : Bool) → (n == k) ≡ b → cond b (Some at) None ≡ Some p → (n ≡ k) × (at ≡ p)
        go true q f = (names q, (let x : Some at ≡ Some p = f in cc))
        go false q f = absurd (let x : None ≡ Some p = f in cc)

    found : (k : ℕ) (p : Point) → point_of m'.sites k ≡ Some p → (k < length nodes) × (place_at nodes k ≡ p)
    found k p e = go (point_of m.sites k) refl
      where
        e' : point_of (m.sites ++ record { name = n; at = at } ∷ []) k ≡ Some p
        e' = subst (λ ss. point_of ss k ≡ Some p) same e

        go : (o : Option Point) → point_of m.sites k ≡ o → (k < length nodes) × (place_at nodes k ≡ p)
        go (Some q) f =
            let x : Some q ≡ Some p = sym (point_of-append m.sites (record { name = n; at = at } ∷ []) k q f) ∙ e' in
            let y : q ≡ p = cc in
            (h.within k (ap is_some f), h.places k q f ∙ y)
        go None f =
            let i = itself k p (sym (point_of-past m.sites (record { name = n; at = at } ∷ []) k f) ∙ e') in
            (subst (λ w. w < length nodes) i.0 within, subst (λ w. place_at nodes w ≡ p) i.0 (stands ∙ i.1))

-- what is kept after an operation, by the triangles that the table shows and the places that it has
pub kept-applied : (sides : Sides) (nodes after : List Node) (m : Undivided) → IsConforming m → ShowsTriangles sides after m.tris → HasPlaces nodes m → HasSamePlaces nodes after → ArePlacesInRange nodes → IsKept sides after m
kept-applied sides nodes after m ok s h same range =
    record {
      conforming = ok;
      shows = shows-from sides after m ok s (λ k p e. same.places k ∙ h.places k p e);
      in_range = record { each = λ k. subst (λ p. IsInRange p) (sym (same.places k)) (range.each k) };
    }

-- the mesh after an operation that can be applied
pub can-conforms : (m : Undivided) (n : ℕ) (op : Op) → IsConforming m → (can : PassesWithName m n op) → IsConforming (op_applied m can.ticket op)
can-conforms m n op ok can = applied_conforms m can.chunk can.ticket op ok can.fresh can.passes

-- where the new node stands, after a bisection
pub new-place : (m : Undivided) (n : ℕ) (mid : Point) → point_of m.sites n ≡ None → point_of (m.sites ++ record { name = n; at = mid } ∷ []) n ≡ Some mid
new-place m n mid none = point_of-past m.sites (record { name = n; at = mid } ∷ []) n none ∙ ap (λ b. cond b (Some mid) None) (itself n)
  where
    itself : (k : ℕ) → (k == k) ≡ true
    itself k = grind (arith, nat_tests)

-- the sites after, by where the table has the new node
pub sites-applied : (sides : Sides) (nodes : List Node) (m : Undivided) (n : ℕ) (op : Op) → (can : PassesWithName m n op) → IsKept sides nodes (op_applied m can.ticket op) → sites_after m.sites n (point_or_origin nodes n) op ≡ (op_applied m can.ticket op).sites
sites-applied sides nodes m n (Flip a b) can k = refl
sites-applied sides nodes m n (Contract u v) can k = refl
sites-applied sides nodes m n (Bisect a b) can k =
    let x = bisect_passes m can.chunk a b can.passes in
    let same : m.sites ++ record { name = n; at = x.0 } ∷ [] ≡ (op_applied m can.ticket (Bisect a b)).sites =
    ap (λ (i : ℕ). m.sites ++ record { name = i; at = x.0 } ∷ []) (sym can.name) ∙ ap (λ (o : Option Point). m.sites ++ new_site (m.first_new + can.ticket) o) (sym x.1.middle)
    in
    let found : point_of (op_applied m can.ticket (Bisect a b)).sites n ≡ Some x.0 = subst (λ ss. point_of ss n ≡ Some x.0) same (new-place m n x.0 (new_not_live m n (Bisect a b) can)) in
    let at : point_or_origin nodes n ≡ x.0 = ap (λ o. unwrap_or o record { x = pos 0; y = pos 0 }) (k.shows.sites n ∙ found) in
    ap (λ (p : Point). m.sites ++ record { name = n; at = p } ∷ []) at ∙ same

-- a mesh with the sites and triangles after an operation is the mesh after it
pub parts-applied : (m : Undivided) (ticket : ℕ) (op : Op) (sites : List Site) (tris : List Tri) → sites ≡ (op_applied m ticket op).sites → tris ≡ (op_applied m ticket op).tris → mesh_of m.first_new sites tris m.bands m.chunks ≡ op_applied m ticket op
parts-applied m ticket (Flip a b) sites tris e f = λ i. mesh_of m.first_new (e i) (f i) m.bands m.chunks
parts-applied m ticket (Bisect a b) sites tris e f = λ i. mesh_of m.first_new (e i) (f i) m.bands m.chunks
parts-applied m ticket (Contract u v) sites tris e f = λ i. mesh_of m.first_new (e i) (f i) m.bands m.chunks

-- the parts of the mesh, once room was made
pub parts-roomier : (sides new : Sides) (nodes after : List Node) (sites sites' : List Site) (tris tris' : List Tri) (m : Undivided) → IsUnchanged sides new → after ≡ nodes → sites' ≡ sites → tris' ≡ tris → AreParts sides nodes sites tris m → AreParts new after sites' tris' m
parts-roomier sides new nodes after sites sites' tris tris' m u e s t p = record { kept = kept-unchanged sides new nodes after m u e p.kept; sites_are = s ∙ p.sites_are; tris_are = t ∙ p.tris_are }

-- a mesh with the parts of that after an operation is it
pub parts-after : (sides : Sides) (nodes : List Node) (sites : List Site) (tris : List Tri) (m : Undivided) (ticket : ℕ) (op : Op) → AreParts sides nodes sites tris (op_applied m ticket op) → mesh_of m.first_new sites tris m.bands m.chunks ≡ op_applied m ticket op
parts-after sides nodes sites tris m ticket op p = parts-applied m ticket op sites tris p.sites_are p.tris_are

pub kept-after : (sides : Sides) (nodes : List Node) (sites : List Site) (tris : List Tri) (m : Undivided) (ticket : ℕ) (op : Op) → AreParts sides nodes sites tris (op_applied m ticket op) → IsKept sides nodes (mesh_of m.first_new sites tris m.bands m.chunks)
kept-after sides nodes sites tris m ticket op p = subst (λ k. IsKept sides nodes k) (sym (parts-after sides nodes sites tris m ticket op p)) p.kept
