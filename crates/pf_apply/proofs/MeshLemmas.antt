-- A kept mesh: names of live nodes are within the table, and what is kept after an exchange.
use Rattle.std.proofs.Common.{◌≡◌, ℕ, ◌+◌, ◌<◌, ◌≤◌, List, [], ◌∷◌, length, get_or, refl, sym, ◌∙◌, ap, subst, Bool, true, false, cond, ◌||◌, ◌⊎◌, inl, inr, arith, Option, Some, None, is_some}
use Rattle.std.specs.Prelude.{Contains, All, nat_lt}
use Rattle.std.specs.List.{list_any}
use Rattle.std.specs.Map.{lookup}
use Rattle.indexmap.specs.IndexMap.{IsUnchanged}
use Rattle.std.proofs.lemmas.Bool.Decides.{nat_tests}
use Rattle.std.proofs.lemmas.List.{get_or_past}
use Rattle.std.proofs.lemmas.List.Elements.{Contains-get_or}
use Rattle.pf_geom.specs.declared.Point.{Point}
use Rattle.pf_model.specs.declared.Tri.{Tri}
use Rattle.pf_model.specs.Mesh.{Undivided, has_corner, point_of}
use Rattle.pf_model.specs.Conforming.{IsConforming, IsLive}
use Rattle.pf_model.proofs.Kept.{any-means}
use Rattle.pf_model.proofs.Triangles.{has_corner-means}
use Rattle.pf_edges.specs.declared.table.Node.{Node}
use Rattle.pf_edges.specs.Kept.{IsKept}
use Rattle.pf_edges.specs.Table.{Sides, edge_eq, no_node, place_at, triangles_at, site_at, ArePlacesInRange, HasNamedCorners, ShowsTriangles, Shows}
use Rattle.pf_model.specs.Exchange.{number_at}

apart : (b : Bool) → b ≡ true → b ≡ false → ⊥
apart b e f = let k : true ≡ false = sym e ∙ f in absurd (cc)

live_at : (nodes : List Node) (n : ℕ) → nat_lt 0 (triangles_at nodes n) ≡ true → n < length nodes
live_at nodes n e = elim (cases_of n (length nodes)) [ inl l ↦ l | inr l ↦ absurd (let k : triangles_at nodes n ≡ 0 = ap (λ x. x.triangles) (get_or_past nodes n no_node l) in apart _ e (ap (nat_lt 0) k)) ]
  where
    cases_of : (a b : ℕ) → (a < b) ⊎ (b ≤ a)
    cases_of a b = grind arith

some-site : (nodes : List Node) (n : ℕ) (p : Point) → site_at nodes n ≡ Some p → (nat_lt 0 (triangles_at nodes n) ≡ true) × (place_at nodes n ≡ p)
some-site nodes n p e = go (nat_lt 0 (triangles_at nodes n)) refl e
  where
    go : (b : Bool) → nat_lt 0 (triangles_at nodes n) ≡ b → cond b (Some (place_at nodes n)) None ≡ Some p → (nat_lt 0 (triangles_at nodes n) ≡ true) × (place_at nodes n ≡ p)
    go true e f = (e, (let k : Some (place_at nodes n) ≡ Some p = f in cc))
    go false e f = absurd (let k : None ≡ Some p = f in cc)

is_some-holds : (o : Option Point) → is_some o ≡ true → (p : Point) × (o ≡ Some p)
is_some-holds None e = absurd (let k : false ≡ true = e in cc)
is_some-holds (Some p) e = (p, refl)

pub live-within : (sides : Sides) (nodes : List Node) (m : Undivided) → Shows sides nodes m → (n : ℕ) → IsLive m n → n < length nodes
live-within sides nodes m s n live = let p = is_some-holds (point_of m.sites n) live in live_at nodes n (some-site nodes n p.0 (s.sites n ∙ p.1)).0

-- triangles of a conforming mesh whose live names are within
pub all-within : (nodes : List Node) (m : Undivided) → IsConforming m → ((n : ℕ) → IsLive m n → n < length nodes) → (ts : List Tri) → ((t : Tri) → Contains ts t → Contains m.tris t) → All (HasNamedCorners nodes) ts
all-within nodes m ok within ts stand k d l =
    let p = ok.proper (get_or ts k d) (stand (get_or ts k d) (Contains-get_or ts k d l)) in
    record { first = within _ p.first; second = within _ p.second; third = within _ p.third }

number-any : (n : ℕ) (ts : List Tri) → nat_lt 0 (number_at n ts) ≡ list_any (has_corner n) ts
number-any n [] = refl
number-any n (t ∷ ts) = go (has_corner n t) (number-any n ts)
  where
    more : (a b : ℕ) → a ≡ 1 → nat_lt 0 (a + b) ≡ true
    more a b e = grind (arith, nat_tests)

    same : (a b : ℕ) → a ≡ 0 → nat_lt 0 (a + b) ≡ nat_lt 0 b
    same a b e = grind (arith, nat_tests)

    go : (b : Bool) → nat_lt 0 (number_at n ts) ≡ list_any (has_corner n) ts → nat_lt 0 (cond b 1 0 + number_at n ts) ≡ (b || list_any (has_corner n) ts)
    go true ih = more 1 (number_at n ts) refl
    go false ih = same 0 (number_at n ts) refl ∙ ih

-- the names with triangles are the live ones
pub any-live : (m : Undivided) → IsConforming m → (n : ℕ) → list_any (has_corner n) m.tris ≡ is_some (point_of m.sites n)
any-live m ok n = go (is_some (point_of m.sites n)) refl (list_any (has_corner n) m.tris) refl
  where
    corner : (t : Tri) → Contains m.tris t → (t.a ≡ n) ⊎ ((t.b ≡ n) ⊎ (t.c ≡ n)) → IsLive m n
    corner t h (inl e) = subst (λ x. IsLive m x) e (ok.proper t h).first
    corner t h (inr (inl e)) = subst (λ x. IsLive m x) e (ok.proper t h).second
    corner t h (inr (inr e)) = subst (λ x. IsLive m x) e (ok.proper t h).third

    go : (b : Bool) → is_some (point_of m.sites n) ≡ b → (c : Bool) → list_any (has_corner n) m.tris ≡ c → c ≡ b
    go true e c f = sym f ∙ ok.used n e
    go false e false f = refl
    go false e true f = absurd (let t = any-means (has_corner n) m.tris f in apart _ (corner t.0 t.1 (has_corner-means n t.0 t.2)) e)

-- a table that shows a conforming mesh's triangles, and has its points, shows the mesh
pub shows-from : (sides : Sides) (nodes : List Node) (m : Undivided) → IsConforming m → ShowsTriangles sides nodes m.tris → ((n : ℕ) (p : Point) → point_of m.sites n ≡ Some p → place_at nodes n ≡ p) → Shows sides nodes m
shows-from sides nodes m ok s places = record { triangles = s; sites = λ n. go n (point_of m.sites n) refl }
  where
    test : (n : ℕ) → nat_lt 0 (triangles_at nodes n) ≡ is_some (point_of m.sites n)
    test n = ap (nat_lt 0) (s.counts n) ∙ (number-any n m.tris ∙ any-live m ok n)

    go : (n : ℕ) (o : Option Point) → point_of m.sites n ≡ o → site_at nodes n ≡ o
    go n None e = ap (λ b. cond b (Some (place_at nodes n)) None) (test n ∙ ap is_some e)
    go n (Some p) e = ap (λ b. cond b (Some (place_at nodes n)) None) (test n ∙ ap is_some e) ∙ ap (λ x. Some x) (places n p e)

-- the places of a mesh's live names
pub shown-point : (sides : Sides) (nodes : List Node) (m : Undivided) → Shows sides nodes m → (n : ℕ) (p : Point) → point_of m.sites n ≡ Some p → place_at nodes n ≡ p
shown-point sides nodes m s n p e = (some-site nodes n p (s.sites n ∙ e)).1

-- a table with the same entries and nodes shows the same
pub shows-unchanged : (sides new : Sides) (nodes after : List Node) (ts : List Tri) → IsUnchanged sides new → after ≡ nodes → ShowsTriangles sides nodes ts → ShowsTriangles new after ts
shows-unchanged sides new nodes after ts u e s =
    record {
      sides = λ p q. ap (λ es. (lookup (edge_eq record { from = p; to = q }) es)) u ∙ s.sides p q;
      counts = λ n. ap (λ ns. triangles_at ns n) e ∙ s.counts n;
      all = ap length u ∙ s.all;
    }

-- what is kept by a table with the same entries and nodes
pub kept-unchanged : (sides new : Sides) (nodes after : List Node) (m : Undivided) → IsUnchanged sides new → after ≡ nodes → IsKept sides nodes m → IsKept new after m
kept-unchanged sides new nodes after m u e k =
    record {
      conforming = k.conforming;
      shows = record { triangles = shows-unchanged sides new nodes after m.tris u e k.shows.triangles; sites = λ n. ap (λ ns. site_at ns n) e ∙ k.shows.sites n };
      in_range = subst (λ ns. ArePlacesInRange ns) (sym e) k.in_range;
    }
