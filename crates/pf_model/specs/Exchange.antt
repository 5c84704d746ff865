-- Some triangles of a list give way to others.
use Rattle.std.specs.Prelude.{◌≡◌, ◌≢◌, ℕ, ◌+◌, ◌<◌, List, [], ◌∷◌, true, false, not, filter, Contains, Option, Some, None, cond}
use Rattle.pf_model.specs.declared.Tri.{Tri}
use Rattle.pf_model.specs.Rising.{insert_all_by}
use Rattle.pf_model.specs.declared.Side.{Side}
use Rattle.pf_model.specs.Mesh.{tri_lt, tri_of, has_edge, has_corner}
use Rattle.pf_model.specs.Conforming.{HasEdgesOnce}

-- the corners are distinct, and the least stands first
pub record IsTurned (t : Tri) : Type 0 where
  pub least : t.a < t.b
  pub least' : t.a < t.c
  pub apart : t.b ≢ t.c

-- the sum over the triangles
abbrev pub tally : (Tri → ℕ) → List Tri → ℕ
tally f [] = 0
tally f (t ∷ ts) = f t + tally f ts

-- the triangle is none of these
abbrev pub IsNone : Tri → List Tri → Type 0
IsNone t ts = (s : Tri) → Contains ts s → t ≢ s

-- no triangle stands twice
abbrev pub AreOnce : List Tri → Type 0
AreOnce [] = Unit {0}
AreOnce (t ∷ ts) = IsNone t ts × AreOnce ts

-- the triangles that an edge table can show: each turned, none twice, and no directed edge in two
pub record AreSound (ts : List Tri) : Type 0 where
  pub turned : (t : Tri) → Contains ts t → IsTurned t
  pub once : AreOnce ts
  pub edges_once : HasEdgesOnce ts

-- the triangle has no directed edge that one of these has
abbrev pub SharesNoEdge : Tri → List Tri → Type 0
SharesNoEdge t ts = (s : Tri) (p q : ℕ) → Contains ts s → has_edge p q t ≡ true → has_edge p q s ≡ false

-- the triangles without that which has the first edge of g
abbrev pub without : Tri → List Tri → List Tri
without g ts = filter (λ t. not (has_edge g.a g.b t)) ts

-- the triangles without those of the first list
abbrev pub without_all : List Tri → List Tri → List Tri
without_all [] ts = ts
without_all (g ∷ gs) ts = without_all gs (without g ts)

-- the first list gives way to the second
abbrev pub exchanged : List Tri → List Tri → List Tri → List Tri
exchanged gone new ts = insert_all_by tri_lt new (without_all gone ts)

-- each triangle of the list is turned, and shares no edge with those after it or with these
abbrev pub AreFit : List Tri → List Tri → Type 0
AreFit [] ts = Unit {0}
AreFit (t ∷ new) ts = IsTurned t × SharesNoEdge t (insert_all_by tri_lt new ts) × AreFit new ts

-- the triangles of the first list can be taken out of the second
pub record CanTake (gone ts : List Tri) : Type 0 where
  pub sound : AreSound ts
  pub stand : (t : Tri) → Contains gone t → Contains ts t
  pub once : AreOnce gone

-- the first list can give way to the second
pub record CanExchange (gone new ts : List Tri) : Type 0 where
  pub take : CanTake gone ts
  pub fit : AreFit new (without_all gone ts)

-- the triangle left of the directed edge p to q, where there is one
abbrev pub whole_of : ℕ → ℕ → Option Side → List Tri
whole_of p q None = []
whole_of p q (Some s) = tri_of p q s.apex s.owner ∷ []

-- the two triangles of an edge
abbrev pub two_of : ℕ → ℕ → Side → Side → List Tri
two_of lo hi l r = tri_of lo hi l.apex l.owner ∷ tri_of hi lo r.apex r.owner ∷ []

-- the two that a flip makes of them
abbrev pub turned_of : ℕ → ℕ → Side → Side → List Tri
turned_of lo hi l r = tri_of lo r.apex l.apex l.owner ∷ tri_of hi l.apex r.apex r.owner ∷ []

-- the number of triangles at a name
abbrev pub number_at : ℕ → List Tri → ℕ
number_at n ts = tally (λ t. cond (has_corner n t) 1 0) ts
