-- The neighbours of the node that a bisection makes are its ends and apexes.
use Rattle.std.proofs.Common.{◌≡◌, ◌≢◌, ◌⊎◌, ℕ, ◌+◌, ◌<◌, Bool, true, false, cond, List, [], ◌∷◌, ◌++◌, map, refl, sym, ◌∙◌, subst, inl, inr, ⊎_elim, arith}
use Rattle.std.specs.Prelude.{Option, Some, None, is_some, is_none, Contains, min, max}
use Rattle.pf_model.specs.declared.Tri.{Tri}
use Rattle.pf_model.specs.declared.Spoke.{Spoke}
use Rattle.pf_model.specs.declared.Op.{Op}
use Rattle.pf_model.specs.declared.Cond.{Cond}
use Rattle.pf_model.specs.declared.Op.TheVariants.{Flip, Bisect, Contract}
use Rattle.pf_model.specs.declared.Side.{Side}
use Rattle.pf_model.specs.Mesh.{Undivided, tri_of, tri_lt, has_corner, side_of, point_of, place_of}
use Rattle.pf_model.specs.Conforming.{IsConforming, IsLive, IsProper}
use Rattle.pf_model.specs.Applied.{IsFresh, op_applied, is_at_edge, halves_of}
use Rattle.pf_model.specs.Conditions.{first_failing, neighbours}
use Rattle.pf_model.specs.Stars.{star_of, spokes_of}
use Rattle.std.proofs.lemmas.Bool.Decides.{nat_tests}
use mathlib.Core.Logic.{dite}
use native.Mathlib.Decide.{ℕ_discrete}
use Rattle.pf_model.proofs.Members.{nowhere, cases, here, there}
use Rattle.pf_model.proofs.Patch.{replaced-cases}
use Rattle.pf_model.proofs.Triangles.{tri_of-corners, tri_of-corner, has_corner-means}
use Rattle.pf_model.proofs.Spokes.{spokes-means}
use Rattle.pf_model.proofs.ReplayKeeps.{applied_conforms}
use Rattle.pf_core_model.specs.Lists.{In}
use Rattle.pf_star_model.specs.Cavity.{cavity_of}
use Rattle.pf_star_model.specs.Lent.{spokes_in}
use Rattle.pf_star_model.specs.Cavity.{apexes}
use Rattle.pf_core_model.specs.Cavity.{makes_node, neighbours_in}
use Rattle.pf_core_model.specs.Needs.{IsBornInside}
use Rattle.pf_core_model.proofs.Lists.{in_either, in_left, in_right, in_mapped}

pub in_contains : {A : Type 0} (x : A) (l : List A) → In x l → Contains l x
in_contains x [] h = absurd h
in_contains x (y ∷ ys) (inl e) = subst (λ z. Contains (z ∷ ys) x) e (here x ys)
in_contains x (y ∷ ys) (inr h) = there x y ys (in_contains x ys h)

pub contains_in : {A : Type 0} (x : A) (l : List A) → Contains l x → In x l
contains_in x [] h = absurd (nowhere x h)
contains_in x (y ∷ ys) h = ⊎_elim (λ (e : x ≡ y). inl e) (λ k. inr (contains_in x ys k)) (cases x y ys h)

-- the spokes in a star of the mesh are those of its node
pub spokes_from : (m : Undivided) (n : ℕ) (s : Spoke) → Contains (spokes_in (star_of m n)) s → Contains (spokes_of m n) s
spokes_from m n s h = go (is_some (point_of m.sites n)) h
  where
    go : (b : Bool) → Contains (spokes_in (cond b (Some record { node = n; at = place_of m n; spokes = spokes_of m n }) None)) s → Contains (spokes_of m n) s
    go true k = k
    go false k = absurd (nowhere s k)

-- a neighbour is an end of a spoke
pub neighbour_of : (x : ℕ) (ss : List Spoke) → In x (neighbours ss) → (s : Spoke) × Contains ss s × ((x ≡ s.right) ⊎ (x ≡ s.left))
neighbour_of x ss h = ⊎_elim
    (λ (k : In x (map (λ (s : Spoke). s.right) ss)). let r = in_mapped (λ (s : Spoke). s.right) x ss k in (r.0, in_contains r.0 ss r.1, inl r.2))
    (λ (k : In x (map (λ (s : Spoke). s.left) ss)). let r = in_mapped (λ (s : Spoke). s.left) x ss k in (r.0, in_contains r.0 ss r.1, inr r.2))
    (in_either x (map (λ (s : Spoke). s.right) ss) (map (λ (s : Spoke). s.left) ss) h)

-- a corner of one of the two halves is the new node, an end or the apex
half_corner : (new p q x : ℕ) (side : Option Side) (t : Tri) → Contains (halves_of new p q side) t → has_corner x t ≡ true → x ≢ new → In x (p ∷ q ∷ apexes side)
half_corner new p q x None t h k ne = absurd (nowhere t h)
half_corner new p q x (Some s) t h k ne = ⊎_elim
    (λ (e : t ≡ tri_of p new s.apex s.owner). ⊎_elim (λ (y : p ≡ x). inl (sym y)) (⊎_elim (λ (y : new ≡ x). absurd (ne (sym y))) (λ (y : s.apex ≡ x). inr (inr (inl (sym y))))) (tri_of-corners x p new s.apex s.owner (subst (λ (z : Tri). has_corner x z ≡ true) e k)))
    (λ (h2 : Contains (tri_of new q s.apex s.owner ∷ []) t). ⊎_elim
    (λ (e : t ≡ tri_of new q s.apex s.owner). ⊎_elim (λ (y : new ≡ x). absurd (ne (sym y))) (⊎_elim (λ (y : q ≡ x). inr (inl (sym y))) (λ (y : s.apex ≡ x). inr (inr (inl (sym y))))) (tri_of-corners x new q s.apex s.owner (subst (λ (z : Tri). has_corner x z ≡ true) e k)))
    (λ z. absurd (nowhere t z))
    (cases t (tri_of new q s.apex s.owner) [] h2))
    (cases t (tri_of p new s.apex s.owner) (tri_of new q s.apex s.owner ∷ []) h)

min_is : (a b : ℕ) → (min a b ≡ a) ⊎ (min a b ≡ b)
min_is a b = grind arith

max_is : (a b : ℕ) → (max a b ≡ a) ⊎ (max a b ≡ b)
max_is a b = grind arith

end_is : (a b y : ℕ) → (y ≡ min a b) ⊎ (y ≡ max a b) → (y ≡ a) ⊎ (y ≡ b)
end_is a b y (inl e) = ⊎_elim (λ (z : min a b ≡ a). inl (e ∙ z)) (λ (z : min a b ≡ b). inr (e ∙ z)) (min_is a b)
end_is a b y (inr e) = ⊎_elim (λ (z : max a b ≡ a). inl (e ∙ z)) (λ (z : max a b ≡ b). inr (e ∙ z)) (max_is a b)

either_end : (a b y : ℕ) (l : List ℕ) → In y (min a b ∷ max a b ∷ l) → ((y ≡ a) ⊎ (y ≡ b)) ⊎ In y l
either_end a b y l (inl e) = inl (end_is a b y (inl e))
either_end a b y l (inr (inl e)) = inl (end_is a b y (inr e))
either_end a b y l (inr (inr h)) = inr h

either_end_turned : (a b y : ℕ) (l : List ℕ) → In y (max a b ∷ min a b ∷ l) → ((y ≡ a) ⊎ (y ≡ b)) ⊎ In y l
either_end_turned a b y l (inl e) = inl (end_is a b y (inr e))
either_end_turned a b y l (inr (inl e)) = inl (end_is a b y (inl e))
either_end_turned a b y l (inr (inr h)) = inr h

among : (a b y : ℕ) (l all : List ℕ) → (In y l → In y all) → ((y ≡ a) ⊎ (y ≡ b)) ⊎ In y l → In y (a ∷ b ∷ all)
among a b y l all f (inl (inl e)) = inl e
among a b y l all f (inl (inr e)) = inr (inl e)
among a b y l all f (inr h) = inr (inr (f h))

contains_either : (t : Tri) (xs ys : List Tri) → Contains (xs ++ ys) t → Contains xs t ⊎ Contains ys t
contains_either t [] ys h = inr h
contains_either t (x ∷ xs) ys h = ⊎_elim (λ (e : t ≡ x). inl (subst (λ (z : Tri). Contains (z ∷ xs) t) e (here t xs))) (λ (k : Contains (xs ++ ys) t). ⊎_elim (λ (z : Contains xs t). inl (there t x xs z)) (λ (z : Contains ys t). inr z) (contains_either t xs ys k)) (cases t x (xs ++ ys) h)

-- a corner of a proper triangle is live
pub corner_live : (m : Undivided) (t : Tri) (n : ℕ) → IsProper m t → has_corner n t ≡ true → IsLive m n
corner_live m t n p h = ⊎_elim (λ (e : t.a ≡ n). subst (IsLive m) e p.first) (⊎_elim (λ (e : t.b ≡ n). subst (IsLive m) e p.second) (λ (e : t.c ≡ n). subst (IsLive m) e p.third)) (has_corner-means n t h)

first_apart : (n l o : ℕ) → (tri_of n n l o).a < (tri_of n n l o).b → (tri_of n n l o).b ≢ (tri_of n n l o).c → ⊥
first_apart n l o = grind (arith, nat_tests)

last_apart : (n r o : ℕ) → (tri_of n r n o).a < (tri_of n r n o).b → (tri_of n r n o).b ≢ (tri_of n r n o).c → ⊥
last_apart n r o = grind (arith, nat_tests)

twin_apart : (n r o : ℕ) → (tri_of n r r o).a < (tri_of n r r o).b → (tri_of n r r o).a < (tri_of n r r o).c → (tri_of n r r o).b ≢ (tri_of n r r o).c → ⊥
twin_apart n r o = grind (arith, nat_tests)

-- a node is no neighbour of itself
pub not_itself : (m : Undivided) → IsConforming m → (n : ℕ) (s : Spoke) → Contains m.tris (tri_of n s.right s.left s.owner) → (n ≡ s.right) ⊎ (n ≡ s.left) → ⊥
not_itself m ok n s h e = ⊎_elim
    (λ (x : n ≡ s.right). let p = ok.proper (tri_of n n s.left s.owner) (subst (λ (k : ℕ). Contains m.tris (tri_of n k s.left s.owner)) (sym x) h) in first_apart n s.left s.owner p.least p.apart)
    (λ (x : n ≡ s.left). let p = ok.proper (tri_of n s.right n s.owner) (subst (λ (k : ℕ). Contains m.tris (tri_of n s.right k s.owner)) (sym x) h) in last_apart n s.right s.owner p.least p.apart)
    e

-- the neighbours of a spoke are two
pub not_pinched : (m : Undivided) → IsConforming m → (n : ℕ) (s : Spoke) → Contains m.tris (tri_of n s.right s.left s.owner) → s.right ≡ s.left → ⊥
not_pinched m ok n s h e =
    let p = ok.proper (tri_of n s.right s.right s.owner) (subst (λ (k : ℕ). Contains m.tris (tri_of n s.right k s.owner)) (sym e) h) in
    twin_apart n s.right s.owner p.least p.least' p.apart

bisect_inside : (m : Undivided) (chunk ticket a b : ℕ) → IsConforming m → IsFresh m ticket → first_failing m chunk (Bisect a b) ≡ None → (x : ℕ) → In x (neighbours_in (star_of (op_applied m ticket (Bisect a b)) (m.first_new + ticket))) → In x (cavity_of m chunk (Bisect a b))
bisect_inside m chunk ticket a b ok fresh passes x h =
    let new : ℕ = m.first_new + ticket in
    let lo : ℕ = min a b in
    let hi : ℕ = max a b in
    let r : Undivided = op_applied m ticket (Bisect a b) in
    let good = applied_conforms m chunk ticket (Bisect a b) ok fresh passes in
    let s = neighbour_of x (spokes_in (star_of r new)) h in
    let tri : Contains r.tris (tri_of new s.0.right s.0.left s.0.owner) = spokes-means r good new s.0 (spokes_from r new s.0 s.1) in
    let t : Tri = tri_of new s.0.right s.0.left s.0.owner in
    let corner : has_corner x t ≡ true = tri_of-corner x new s.0.right s.0.left s.0.owner (⊎_elim (λ (e : x ≡ s.0.right). inr (inl (sym e))) (λ (e : x ≡ s.0.left). inr (inr (sym e))) s.2) in
    let mine : has_corner new t ≡ true = tri_of-corner new new s.0.right s.0.left s.0.owner (inl refl) in
    let left : Option Side = side_of m.tris lo hi in
    let right : Option Side = side_of m.tris hi lo in
    let inside : (y : ℕ) → In y (lo ∷ hi ∷ apexes left) ⊎ In y (hi ∷ lo ∷ apexes right) → In y (a ∷ b ∷ apexes left ++ apexes right)
    = λ y. ⊎_elim
    (λ (k : In y (lo ∷ hi ∷ apexes left)). among a b y (apexes left) (apexes left ++ apexes right) (λ z. in_left y (apexes left) (apexes right) z) (either_end a b y (apexes left) k))
    (λ (k : In y (hi ∷ lo ∷ apexes right)). among a b y (apexes right) (apexes left ++ apexes right) (λ z. in_right y (apexes left) (apexes right) z) (either_end_turned a b y (apexes right) k)) in
    whole (dite (ℕ_discrete x new)
    (λ e. absurd (not_itself r good new s.0 tri (subst (λ (k : ℕ). (k ≡ s.0.right) ⊎ (k ≡ s.0.left)) e s.2)))
    (λ ne. ⊎_elim
    (λ (z : Contains (halves_of new lo hi left ++ halves_of new hi lo right) t). inside x (⊎_elim
    (λ (w : Contains (halves_of new lo hi left) t). inl (half_corner new lo hi x left t w corner ne))
    (λ (w : Contains (halves_of new hi lo right) t). inr (half_corner new hi lo x right t w corner ne))
    (contains_either t (halves_of new lo hi left) (halves_of new hi lo right) z)))
    (λ (z : Contains m.tris t × (is_at_edge lo hi t ≡ false)). absurd (let l = corner_live m t new (ok.proper t z.0) mine in let w = fresh new l in omega arith))
    (replaced-cases tri_lt (is_at_edge lo hi) (halves_of new lo hi left ++ halves_of new hi lo right) m.tris t tri)))
  where
    whole : In x (a ∷ b ∷ apexes (side_of m.tris (min a b) (max a b)) ++ apexes (side_of m.tris (max a b) (min a b))) → In x (cavity_of m chunk (Bisect a b))
    whole = subst (λ (o : Option Cond). In x (a ∷ b ∷ cond (is_none o) (apexes (side_of m.tris (min a b) (max a b)) ++ apexes (side_of m.tris (max a b) (min a b))) [])) (sym passes)

pub born_in_cavity : IsBornInside
born_in_cavity m e ok bisects x h = go e.op refl bisects h
  where
    go : (op : Op) → e.op ≡ op → makes_node op ≡ true → In x (neighbours_in (star_of (op_applied m e.ticket op) (m.first_new + e.ticket))) → In x (cavity_of m e.chunk op)
    go (Flip a b) is no_it k = absurd (cc (no_it))
    go (Bisect a b) is _ k = bisect_inside m e.chunk e.ticket a b ok.conforming ok.fresh (subst (λ (op : Op). first_failing m e.chunk op ≡ None) is ok.passes) x k
    go (Contract a b) is no_it k = absurd (cc (no_it))
