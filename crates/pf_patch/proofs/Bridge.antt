-- Triangles with points, and the triangles and points of the model.
use Rattle.std.proofs.Common.{◌≡◌, ℕ, List, [], ◌∷◌, refl, sym, ◌∙◌, ap, subst, Bool, true, false, cond, inl, inr, ◌||◌, ◌&&◌}
use Rattle.std.specs.Prelude.{Contains, All, Some, None, filter, filter_map, map, not, nat_lt, slice_index_or, ◌==◌}
use Rattle.std.specs.List.{cons_option}
use Rattle.std.proofs.lemmas.List.Elements.{Contains-get_or}
use Rattle.pf_model.specs.declared.Tri.{Tri}
use Rattle.pf_model.specs.declared.Spoke.{Spoke}
use Rattle.pf_model.specs.Rising.{insert_all_by}
use Rattle.pf_model.specs.Mesh.{Undivided, tri_of, has_corner}
use Rattle.pf_model.specs.Applied.{is_at_edge}
use Rattle.pf_model.specs.Stars.{Star, spoke_of, spoke_lt}
use Rattle.pf_model.proofs.Members.{here, there, filter-out, insert_all_by-cases}
use Rattle.pf_model.proofs.Spokes.{filter_map-out}
use Rattle.pf_star_model.specs.Patched.{star_after}
use Rattle.pf_star_model.proofs.Corners.{spoke_among, spoke_of-tri_of}
use Rattle.pf_spokes.specs.Spokes.{HasSpots}
use Rattle.pf_patch.specs.declared.tris.NewTri.{NewTri}
use Rattle.pf_patch.specs.declared.tris.Gone.{Gone}
use Rattle.pf_patch.specs.declared.tris.Gone.TheVariants.{AtEdge, AtNode}
use Rattle.pf_patch.specs.Tris.{HasCorners, IsStanding, between, spoke_in, gone_from, spokes_with, star_with, tri_value}

pub all-member : {X : Type 0} (P : X → Type 0) (xs : List X) → All P xs → (x : X) → Contains xs x → P x
all-member P xs a x h = subst P h.2 (a h.0 x h.1)

pub all-from : {X : Type 0} (P : X → Type 0) (xs : List X) → ((x : X) → Contains xs x → P x) → All P xs
all-from P xs f = λ k d within. f (slice_index_or xs k d) (Contains-get_or xs k d within)

spoke_in-spots : (n : ℕ) (t : NewTri) (s : Spoke) → HasCorners t → spoke_in n t ≡ Some s → HasSpots s
spoke_in-spots n t s h e = go (t.p.name == n) (t.q.name == n) (t.z.name == n) e
  where
    same : {a b : Spoke} → Some a ≡ Some b → a ≡ b
    same q = cc

    go : (a b c : Bool) → cond a (Some (between t.q t.z t.owner)) (cond b (Some (between t.z t.p t.owner)) (cond c (Some (between t.p t.q t.owner)) None)) ≡ Some s → HasSpots s
    go true b c k = subst HasSpots (same k) record { right = h.second; left = h.third }
    go false true c k = subst HasSpots (same k) record { right = h.third; left = h.first }
    go false false true k = subst HasSpots (same k) record { right = h.first; left = h.second }
    go false false false k = absurd (let z : None ≡ Some s = k in cc)

-- the points of the spokes after are in range
pub spots-after : (gone : Gone) (n : ℕ) (added : List NewTri) (ss : List Spoke) → All HasCorners added → All HasSpots ss → All HasSpots (spokes_with gone added n ss)
spots-after gone n added ss ha hs = all-from HasSpots (spokes_with gone added n ss) (λ s h. elim (insert_all_by-cases spoke_lt s (filter_map (spoke_in n) added) (filter (λ r. not (gone_from gone n r)) ss) h) [
  | inl a ↦ (let r = filter_map-out (spoke_in n) added s a in spoke_in-spots n r.0 s (all-member HasCorners added ha r.0 r.1) r.2)
  | inr a ↦ all-member HasSpots ss hs s (filter-out (λ r. not (gone_from gone n r)) s ss a).0
])

-- a triangle as a spoke
spoke_in-model : (w : Undivided) (n : ℕ) (t : NewTri) → IsStanding w t → spoke_in n t ≡ spoke_of w n (tri_value t)
spoke_in-model w n t d = places ∙ sym (spoke_of-tri_of w n t.p.name t.q.name t.z.name t.owner d.one d.two d.three)
  where
    places : spoke_in n t ≡ spoke_among w n t.p.name t.q.name t.z.name t.owner
    places = rw (d.first, d.second, d.third) refl

spokes_in-model : (w : Undivided) (n : ℕ) (ts : List NewTri) → ((t : NewTri) → Contains ts t → IsStanding w t) → filter_map (spoke_in n) ts ≡ filter_map (spoke_of w n) (map tri_value ts)
spokes_in-model w n [] h = refl
spokes_in-model w n (t ∷ ts) h = λ i. cons_option (spoke_in-model w n t (h t (here t ts)) i) (spokes_in-model w n ts (λ x k. h x (there x t ts k)) i)

-- which triangles go
abbrev removed_at : Gone → Tri → Bool
removed_at (AtEdge p q) t = is_at_edge p q t
removed_at (AtNode u) t = has_corner u t

or_turned : (a b c : Bool) → (a || (b || c)) ≡ (b || (c || a))
or_turned true true c = refl
or_turned true false true = refl
or_turned true false false = refl
or_turned false true c = refl
or_turned false false true = refl
or_turned false false false = refl

corner-of : (u n r l o : ℕ) → (n == u || (r == u || l == u)) ≡ has_corner u (tri_of n r l o)
corner-of u n r l o = go (nat_lt n r && nat_lt n l) (nat_lt r l && nat_lt r n)
  where
    one : Tri
    one = record { a = n; b = r; c = l; owner = o }

    two : Tri
    two = record { a = r; b = l; c = n; owner = o }

    three : Tri
    three = record { a = l; b = n; c = r; owner = o }

    go : (x y : Bool) → (n == u || (r == u || l == u)) ≡ has_corner u (cond x one (cond y two three))
    go true y = refl
    go false true = or_turned (n == u) (r == u) (l == u)
    go false false = or_turned (n == u) (r == u) (l == u) ∙ or_turned (r == u) (l == u) (n == u)

gone-model : (g : Gone) (n : ℕ) (s : Spoke) → gone_from g n s ≡ removed_at g (tri_of n s.right s.left s.owner)
gone-model (AtEdge p q) n s = refl
gone-model (AtNode u) n s = corner-of u n s.right s.left s.owner

-- a star after
pub star-model : (w : Undivided) (g : Gone) (added : List NewTri) (tris : List Tri) (s : Star) → map tri_value added ≡ tris → ((t : NewTri) → Contains added t → IsStanding w t) → star_with g added s ≡ star_after w (removed_at g) tris s
star-model w g added tris s e h =
    (λ i. record s { spokes = insert_all_by spoke_lt (spokes_in-model w s.node added h i) (filter (λ r. not (gone-model g s.node r i)) s.spokes) })
    ∙ ap (λ ts. star_after w (removed_at g) ts s) e
