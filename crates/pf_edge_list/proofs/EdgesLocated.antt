-- Edges of a list by their places.
use Rattle.std.proofs.Common.{◌≡◌, ℕ, ◌<◌, List, length, refl, sym, ◌∙◌, ap, subst, true, arith}
use Rattle.std.specs.Prelude.{All, Contains, Option, Some, None, slice_get, slice_index_or}
use Rattle.std.specs.Option.{option_map}
use Rattle.std.proofs.lemmas.Bool.Decides.{nat_tests}
use Rattle.std.proofs.lemmas.List.Elements.{Contains-get_or}
use Rattle.std.proofs.lemmas.Option.{slice_get_within, slice_get_read, slice_get-get_or, get_or_from_slice_get}
use Rattle.pf_model.specs.declared.Tri.{Tri}
use Rattle.pf_model.specs.Mesh.{Undivided, apex_in, has_edge, side_of}
use Rattle.pf_model.specs.Conforming.{HasEdgesOnce, IsConforming}
use Rattle.pf_model.proofs.Kept.{has_edge-first, side_of-found}
use Rattle.pf_model.specs.Lengths.{Edge}
use Rattle.pf_edge_list.specs.declared.edges.Sided.{Sided}
use Rattle.pf_edge_list.specs.Edges.{sided_edge, AreSided, IsOnEdges, IsListed, StandsAt, IsLocated}
use Rattle.pf_edges.specs.declared.table.Node.{Node}
use Rattle.pf_edges.specs.Table.{Shows, Sides}

pub some_same : {X : Type 0} {x y : X} → Some x ≡ Some y → x ≡ y
some_same h = cc

pub none_some : {X : Type 0} {x : X} → None ≡ Some x → ⊥
none_some h = cc

-- a place where an edge stands is within the list
stands-within : (edges : List Sided) (e : Edge) (i : ℕ) → StandsAt edges e i → i < length edges
stands-within edges e i h = go (slice_get edges i) refl h
  where
    go : (o : Option Sided) → slice_get edges i ≡ o → option_map sided_edge o ≡ Some e → i < length edges
    go None p q = absurd (none_some q)
    go (Some x) p q = slice_get_within edges i x p

-- a triangle's edges are its own
sides-of_itself : (ts : List Tri) → HasEdgesOnce ts → (p q z : ℕ) (t : Tri) → Contains ts t → has_edge p q t ≡ true → apex_in p q t ≡ z → side_of ts p q ≡ Some record { apex = z; owner = t.owner }
sides-of_itself ts once p q z t h e a = side_of-found ts once p q t h e ∙ ap (λ w. Some record { apex = w; owner = t.owner }) a

-- the table has the triangles of the mesh on their edges
pub are-sided : (m : Undivided) (table : Sides) (nodes : List Node) → IsConforming m → Shows table nodes m → AreSided table m.tris
are-sided m table nodes ok s k d l = on_edges (slice_index_or m.tris k d) (Contains-get_or m.tris k d l)
  where
    on_edges : (t : Tri) → Contains m.tris t → IsOnEdges table t
    on_edges t h =
        let proper = ok.proper t h in
        let least : t.a < t.b = proper.least in
        let least' : t.a < t.c = proper.least' in
        record {
          from_first = s.triangles.sides t.a t.b ∙ sides-of_itself m.tris ok.edges_once t.a t.b t.c t h (has_edge-first t) (grind (arith, nat_tests));
          from_second = s.triangles.sides t.b t.c ∙ sides-of_itself m.tris ok.edges_once t.b t.c t.a t h (grind (arith, nat_tests)) (grind (arith, nat_tests));
          from_third = s.triangles.sides t.c t.a ∙ sides-of_itself m.tris ok.edges_once t.c t.a t.b t h (grind (arith, nat_tests)) (grind (arith, nat_tests));
        }

-- an edge of the list
pub listed-at : (table : Sides) (edges : List Sided) (i : ℕ) (x : Sided) → All (IsListed table) edges → i < length edges → x ≡ slice_index_or edges i x → IsListed table x
listed-at table edges i x all within is = subst (λ w. IsListed table w) (sym is) (all i x within)

-- an edge of the list, with its place
pub located-at : (table : Sides) (edges : List Sided) (i : ℕ) (x : Sided) → All (IsListed table) edges → i < length edges → x ≡ slice_index_or edges i x → IsLocated table edges (sided_edge x) record { edge = x; place = Some i }
located-at table edges i x all within is = record {
  edge = refl;
  sided = (listed-at table edges i x all within is).sided;
  placed = λ j h. subst (λ k. slice_get edges k ≡ Some x) (some_same h) (slice_get_read edges (length edges) i x refl within is);
}

pub located-listed : (table : Sides) (edges : List Sided) (e : Edge) (i : ℕ) (x : Sided) → All (IsListed table) edges → StandsAt edges e i → x ≡ slice_index_or edges i x → IsLocated table edges e record { edge = x; place = Some i }
located-listed table edges e i x all stands is =
    let within = stands-within edges e i stands in
    let got = slice_get_read edges (length edges) i x refl within is in
    let same : sided_edge x ≡ e = some_same (sym (ap (option_map sided_edge) got) ∙ stands) in
    subst (λ f. IsLocated table edges f record { edge = x; place = Some i }) same (located-at table edges i x all within is)

-- what stands at a place
pub sided-at : (edges : List Sided) (i : ℕ) → i < length edges → (x : Sided) × (x ≡ slice_index_or edges i x) × (slice_get edges i ≡ Some x)
sided-at edges i within = go (slice_get edges i) refl
  where
    go : (o : Option Sided) → slice_get edges i ≡ o → (x : Sided) × (x ≡ slice_index_or edges i x) × (slice_get edges i ≡ Some x)
    go (Some x) h = (x, sym (get_or_from_slice_get edges i x x h), h)
    go None h = absurd (let none : Sided = record { span = record { lo = 0; hi = 0 }; edge_sides = record { left = None; right = None } } in none_some (sym h ∙ slice_get-get_or edges i none within))
