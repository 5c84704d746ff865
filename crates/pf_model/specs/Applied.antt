-- What an operation does: triangles are removed, and others are added.
-- Says what an operation is that passes; of one that does not, it says nothing of use.
use Rattle.std.specs.Prelude.{ℕ, ◌+◌, ◌<◌, List, [], ◌∷◌, ◌++◌, Bool, cond, not, ◌&&◌, ◌||◌, ◌==◌, Option, Some, None, filter, flat_map, min, max}
use Rattle.pf_geom.specs.declared.Point.{Point}
use Rattle.pf_geom.specs.Plane.{middle_of}
use Rattle.pf_model.specs.declared.Tri.{Tri}
use Rattle.pf_model.specs.declared.Site.{Site}
use Rattle.pf_model.specs.declared.Op.{Op}
use Rattle.pf_model.specs.declared.Op.TheVariants.{Flip, Bisect, Contract}
use Rattle.pf_model.specs.declared.Entry.{Entry}
use Rattle.pf_model.specs.Rising.{insert_all_by}
use Rattle.pf_model.specs.declared.Side.{Side}
use Rattle.pf_model.specs.Mesh.{Undivided, tri_of, tri_lt, has_edge, has_corner, side_of, place_of}
use Rattle.pf_model.specs.Conforming.{IsLive}

-- the triangles without those that are removed, and with those that are added
abbrev pub replaced : (Tri → Bool) → List Tri → List Tri → List Tri
replaced removed added ts = insert_all_by tri_lt added (filter (λ t. not (removed t)) ts)

-- the triangle has the edge p, q, one way or the other
abbrev pub is_at_edge : ℕ → ℕ → Tri → Bool
is_at_edge p q t = has_edge p q t || has_edge q p t

-- what a flip adds, where the edge has two triangles: each takes the owner of the old one at its end
abbrev pub flip_added : ℕ → ℕ → Option Side → Option Side → List Tri
flip_added lo hi (Some l) (Some r) = tri_of lo r.apex l.apex l.owner ∷ tri_of hi l.apex r.apex r.owner ∷ []
flip_added lo hi None r = []
flip_added lo hi (Some l) None = []

-- the mesh after a flip of the edge lo, hi
abbrev pub flipped : Undivided → ℕ → ℕ → Undivided
flipped m lo hi = record m { tris = replaced (is_at_edge lo hi) (flip_added lo hi (side_of m.tris lo hi) (side_of m.tris hi lo)) m.tris }

-- the two halves of the triangle p, q, apex, cut at n between p and q; both take its owner
abbrev pub halves_of : ℕ → ℕ → ℕ → Option Side → List Tri
halves_of n p q None = []
halves_of n p q (Some s) = tri_of p n s.apex s.owner ∷ tri_of n q s.apex s.owner ∷ []

-- the node that a bisection makes
abbrev pub new_site : ℕ → Option Point → List Site
new_site n None = []
new_site n (Some at) = record { name = n; at = at } ∷ []

-- the mesh after the edge lo, hi is bisected by the new node n
abbrev pub bisected : Undivided → ℕ → ℕ → ℕ → Undivided
bisected m n lo hi =
    record m {
      sites = m.sites ++ new_site n (middle_of (place_of m lo) (place_of m hi));
      tris = replaced (is_at_edge lo hi) (halves_of n lo hi (side_of m.tris lo hi) ++ halves_of n hi lo (side_of m.tris hi lo)) m.tris;
    }

-- the triangle u, x, y as v, x, y, where it has u and not v; its owner stays
abbrev pub moved_of : ℕ → ℕ → Tri → List Tri
moved_of u v t =
    cond (has_corner u t && not (has_corner v t))
    (cond (t.a == u) (tri_of v t.b t.c t.owner) (cond (t.b == u) (tri_of v t.c t.a t.owner) (tri_of v t.a t.b t.owner)) ∷ [])
    []

-- the mesh after u is contracted onto v
abbrev pub contracted : Undivided → ℕ → ℕ → Undivided
contracted m u v =
    record m {
      sites = filter (λ s. not (s.name == u)) m.sites;
      tris = replaced (has_corner u) (flat_map (moved_of u v) m.tris) m.tris;
    }

-- the mesh after an operation with a ticket, which names a bisection's new node
abbrev pub op_applied : Undivided → ℕ → Op → Undivided
op_applied m ticket (Flip a b) = flipped m (min a b) (max a b)
op_applied m ticket (Bisect a b) = bisected m (m.first_new + ticket) (min a b) (max a b)
op_applied m ticket (Contract u v) = contracted m u v

-- the mesh after an entry
abbrev pub applied : Undivided → Entry → Undivided
applied m e = op_applied m e.ticket e.op

-- each live name is below the new name of this ticket
abbrev pub IsFresh : Undivided → ℕ → Type 0
IsFresh m ticket = (n : ℕ) → IsLive m n → n < m.first_new + ticket
