-- One fan at a node, read off the mesh's triangles; how it is carried from one mesh to another.
-- Assumes `IsConforming` of the meshes.
use Rattle.std.proofs.Common.{◌≡◌, ℕ, sym, ◌∙◌, ap, subst, Bool, true, ◌⊎◌, inl, inr, arith}
use Rattle.std.specs.Prelude.{Contains}
use Rattle.pf_model.specs.Mesh.{Undivided, tri_of, has_edge, has_corner}
use Rattle.pf_model.specs.Conforming.{IsConforming, IsLive}
use Rattle.pf_model.specs.Stars.{spokes_of, is_one_fan}
use Rattle.pf_model.proofs.Triangles.{IsEdge, tri_of-edges, tri_of-edge_one, tri_of-edge_two, tri_of-turned}
use Rattle.pf_model.proofs.Turns.{AreDistinct}
use Rattle.pf_model.proofs.Kept.{any-means}
use Rattle.pf_model.proofs.Spokes.{spokes-means, spokes-has, spokes-simple}
use Rattle.pf_model.proofs.FlipKeeps.{corners_of}
use Rattle.pf_model.proofs.ContractKeeps.{corner_at}
use Rattle.pf_cover_model.proofs.Linked.{AreLinked, linked-from, linked-fan}
use Rattle.pf_model.proofs.Triangles.{least_first}

-- the test says the same of both other corners of each triangle at n
abbrev pub IsEvenAt : Undivided → ℕ → (ℕ → Bool) → Type 0
IsEvenAt m n test = (x y o : ℕ) → Contains m.tris (tri_of n x y o) → test x ≡ test y

-- such a test says the same of all right corners
abbrev pub IsLinkedAt : Undivided → ℕ → Type 0
IsLinkedAt m n = (test : ℕ → Bool) → IsEvenAt m n test → (x y o x' y' o' : ℕ) → Contains m.tris (tri_of n x y o) → Contains m.tris (tri_of n x' y' o') → test x ≡ test x'

pub linked_at-from : (m : Undivided) → IsConforming m → (n : ℕ) → is_one_fan (spokes_of m n) ≡ true → IsLinkedAt m n
linked_at-from m ok n fan test even x y o x' y' o' h h' =
    let s = spokes-has m ok n x y o h in
    let t = spokes-has m ok n x' y' o' h' in
    ap test (sym s.2) ∙ (linked-from (spokes_of m n) (spokes-simple m ok n) fan test (λ r i. even r.right r.left r.owner (spokes-means m ok n r i)) s.0 t.0 s.1 t.1 ∙ ap test t.2)

pub linked_at-fan : (m : Undivided) → IsConforming m → (n : ℕ) → IsLive m n → IsLinkedAt m n → is_one_fan (spokes_of m n) ≡ true
linked_at-fan m ok n live linked =
    let r = any-means (has_corner n) m.tris (ok.used n live) in
    let w = corner_at n n r.0 (least_first m ok r.0 r.1) r.2 in
    let s = spokes-has m ok n w.x w.y r.0.owner (subst (λ q. Contains m.tris q) (sym w.is) r.1) in
    linked-fan (spokes_of m n) (spokes-simple m ok n) s.0 s.1 all
  where
    all : AreLinked (spokes_of m n)
    all test even a b ha hb =
        linked test (λ x y o h. let s = spokes-has m ok n x y o h in ap test (sym s.2) ∙ (even s.0 s.1 ∙ ap test s.3)) a.right a.left a.owner b.right b.left b.owner (spokes-means m ok n a ha) (spokes-means m ok n b hb)

-- the corners of one triangle, written from another corner
pub rotations : (a b c o n x y o' : ℕ) → AreDistinct a b c → AreDistinct n x y → tri_of n x y o' ≡ tri_of a b c o → ((n ≡ a) × ((x ≡ b) × (y ≡ c))) ⊎ (((n ≡ b) × ((x ≡ c) × (y ≡ a))) ⊎ ((n ≡ c) × ((x ≡ a) × (y ≡ b))))
rotations a b c o n x y o' d d' e = go d d' (tri_of-edges n x a b c o (subst (λ w. has_edge n x w ≡ true) e (tri_of-edge_one n x y o'))) (tri_of-edges x y a b c o (subst (λ w. has_edge x y w ≡ true) e (tri_of-edge_two n x y o')))
  where
    go : AreDistinct a b c → AreDistinct n x y → IsEdge n x a b c → IsEdge x y a b c → ((n ≡ a) × ((x ≡ b) × (y ≡ c))) ⊎ (((n ≡ b) × ((x ≡ c) × (y ≡ a))) ⊎ ((n ≡ c) × ((x ≡ a) × (y ≡ b))))
    go d d' i j =
        let u = i.is in let v = j.is in
        let d1 = d.one in let d2 = d.two in let d3 = d.three in
        let e1 = d'.one in let e2 = d'.two in let e3 = d'.three in
        grind arith

-- a triangle, written from each corner
pub from_second : (m : Undivided) → IsConforming m → (a b c o : ℕ) → Contains m.tris (tri_of a b c o) → Contains m.tris (tri_of b c a o)
from_second m ok a b c o h = let d = (corners_of m ok a b c o h).distinct in subst (λ w. Contains m.tris w) (tri_of-turned a b c o d.one d.two d.three) h

pub from_third : (m : Undivided) → IsConforming m → (a b c o : ℕ) → Contains m.tris (tri_of a b c o) → Contains m.tris (tri_of c a b o)
from_third m ok a b c o h = from_second m ok b c a o (from_second m ok a b c o h)

-- what an even test says at each corner of a triangle
pub even_first : (m : Undivided) → IsConforming m → (n : ℕ) (test : ℕ → Bool) → IsEvenAt m n test → (a b c o : ℕ) → Contains m.tris (tri_of a b c o) → n ≡ a → test b ≡ test c
even_first m ok n test even a b c o h e = even b c o (subst (λ w. Contains m.tris (tri_of w b c o)) (sym e) h)

pub even_second : (m : Undivided) → IsConforming m → (n : ℕ) (test : ℕ → Bool) → IsEvenAt m n test → (a b c o : ℕ) → Contains m.tris (tri_of a b c o) → n ≡ b → test c ≡ test a
even_second m ok n test even a b c o h e = even_first m ok n test even b c a o (from_second m ok a b c o h) e

pub even_third : (m : Undivided) → IsConforming m → (n : ℕ) (test : ℕ → Bool) → IsEvenAt m n test → (a b c o : ℕ) → Contains m.tris (tri_of a b c o) → n ≡ c → test a ≡ test b
even_third m ok n test even a b c o h e = even_first m ok n test even c a b o (from_third m ok a b c o h) e

-- z is a neighbour of n, of which the test says this
pub record IsSaid (m : Undivided) (n : ℕ) (test : ℕ → Bool) (b : Bool) : Type 0 where
  pub x : ℕ
  pub y : ℕ
  pub o : ℕ
  pub stands : Contains m.tris (tri_of n x y o)
  pub says : test x ≡ b

-- a neighbour's corner, as the right corner of a triangle or the left of it
pub said : (m : Undivided) → IsConforming m → (n : ℕ) (test : ℕ → Bool) → IsEvenAt m n test → (a b c o : ℕ) → Contains m.tris (tri_of a b c o) → (w : Bool) → ((n ≡ a) × ((test b ≡ w) ⊎ (test c ≡ w))) ⊎ (((n ≡ b) × ((test c ≡ w) ⊎ (test a ≡ w))) ⊎ ((n ≡ c) × ((test a ≡ w) ⊎ (test b ≡ w)))) → IsSaid m n test w
said m ok n test even a b c o h w k = elim k [
  | inl i ↦ put a b c h i.0 i.1
  | inr j ↦ elim j [ inl i ↦ put b c a (from_second m ok a b c o h) i.0 i.1 | inr i ↦ put c a b (from_third m ok a b c o h) i.0 i.1 ]
]
  where
    put : (a b c : ℕ) → Contains m.tris (tri_of a b c o) → n ≡ a → (test b ≡ w) ⊎ (test c ≡ w) → IsSaid m n test w
    put a b c g e q =
        let st : Contains m.tris (tri_of n b c o) = subst (λ r. Contains m.tris (tri_of r b c o)) (sym e) g in
        record { x = b; y = c; o = o; stands = st; says = elim q [ inl r ↦ r | inr r ↦ even b c o st ∙ r ] }

-- linked before, and each even test after comes from one before: linked after
pub record IsCarried (m r : Undivided) (n : ℕ) (test : ℕ → Bool) : Type 0 where
  pub before : ℕ → Bool
  pub even : IsEvenAt m n before
  pub each : (x y o : ℕ) → Contains r.tris (tri_of n x y o) → IsSaid m n before (test x)

pub linked_at-carried : (m r : Undivided) (n : ℕ) → IsLinkedAt m n → ((test : ℕ → Bool) → IsEvenAt r n test → IsCarried m r n test) → IsLinkedAt r n
linked_at-carried m r n linked carried test even x y o x' y' o' h h' =
    let c = carried test even in
    let s = c.each x y o h in
    let t = c.each x' y' o' h' in
    sym s.says ∙ (linked c.before c.even s.x s.y s.o t.x t.y t.o s.stands t.stands ∙ t.says)

-- one value for all
pub linked_at-one : (r : Undivided) (n : ℕ) → ((test : ℕ → Bool) → IsEvenAt r n test → (w : Bool) × ((x y o : ℕ) → Contains r.tris (tri_of n x y o) → test x ≡ w)) → IsLinkedAt r n
linked_at-one r n one test even x y o x' y' o' h h' = let w = one test even in w.1 x y o h ∙ sym (w.1 x' y' o' h')
