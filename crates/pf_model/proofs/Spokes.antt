-- The spokes of a node are the triangles at it, both ways; no right and no left of them stands twice.
-- Assumes `IsConforming m`.
use Rattle.std.proofs.Common.{◌≡◌, ◌≢◌, ℕ, List, [], ◌∷◌, refl, sym, ◌∙◌, ap, subst, Bool, true, false, cond, ◌⊎◌, inl, inr, arith, ◌||◌}
use Rattle.std.specs.Prelude.{Contains, Option, Some, None, filter_map, ◌==◌, map}
use Rattle.std.specs.List.{cons_option}
use Rattle.std.proofs.lemmas.Bool.Decides.{nat_tests}
use Rattle.std.proofs.lemmas.Bool.{eqb-true}
use Rattle.pf_model.specs.declared.Tri.{Tri}
use Rattle.pf_model.specs.declared.Spoke.{Spoke}
use Rattle.pf_model.specs.Rising.{AreDifferent, insert_by, insert_all_by, IsRising}
use Rattle.pf_model.specs.Mesh.{Undivided, tri_of, tri_lt, has_edge, has_corner, place_of}
use Rattle.pf_model.specs.Conforming.{IsConforming}
use Rattle.pf_model.specs.Stars.{spoke_of, spoke_lt, spokes_of}
use Rattle.pf_model.proofs.Members.{nowhere, here, there, cases, insert_by-cases, insert_all_by-new, insert_all_by-cases}
use Rattle.pf_model.proofs.RisingLemmas.{rising-head, rising-tail}
use Rattle.pf_model.proofs.Totals.{map-in, map-means}
use Rattle.pf_model.proofs.Triangles.{IsLeastFirst, IsEdge, tri_of-edges, tri_of-edge_one, tri_of-edge_three, tri_of-owner, tri_of-corner, tri_lt-order, least_first}
use Rattle.pf_model.proofs.Turns.{AreDistinct}
use Rattle.pf_model.proofs.Fans.{IsSimple}
use Rattle.pf_model.proofs.FlipKeeps.{corners_of}

pub filter_map-out : {X Y : Type 0} (h : X → Option Y) (xs : List X) (y : Y) → Contains (filter_map h xs) y → (x : X) × Contains xs x × (h x ≡ Some y)
filter_map-out h [] y c = absurd (nowhere y c)
filter_map-out {X} {Y} h (x ∷ xs) y c = go (h x) refl c (λ k. filter_map-out h xs y k)
  where
    go : (o : Option Y) → h x ≡ o → Contains (cons_option o (filter_map h xs)) y → (Contains (filter_map h xs) y → (z : X) × Contains xs z × (h z ≡ Some y)) → (z : X) × Contains (x ∷ xs) z × (h z ≡ Some y)
    go None e k ih = let r = ih k in (r.0, there r.0 x xs r.1, r.2)
    go (Some w) e k ih = elim (cases y w (filter_map h xs) k) [ inl a ↦ (x, here x xs, e ∙ ap (λ v. Some v) (sym a)) | inr b ↦ (let r = ih b in (r.0, there r.0 x xs r.1, r.2)) ]

pub filter_map-in : {X Y : Type 0} (h : X → Option Y) (xs : List X) (x : X) (y : Y) → Contains xs x → h x ≡ Some y → Contains (filter_map h xs) y
filter_map-in h [] x y c e = absurd (nowhere x c)
filter_map-in {X} {Y} h (z ∷ zs) x y c e = go (h z) refl (cases x z zs c) (λ k. filter_map-in h zs x y k e)
  where
    some_same : {a b : Y} → Some a ≡ Some b → a ≡ b
    some_same q = cc

    go : (o : Option Y) → h z ≡ o → (x ≡ z) ⊎ Contains zs x → (Contains zs x → Contains (filter_map h zs) y) → Contains (cons_option o (filter_map h zs)) y
    go None f (inl a) ih = absurd (let k : Some y ≡ None = sym e ∙ ap h a ∙ f in cc)
    go None f (inr b) ih = ih b
    go (Some w) f (inl a) ih = let k : w ≡ y = some_same (sym f ∙ ap h (sym a) ∙ e) in subst (λ v. Contains (v ∷ filter_map h zs) y) (sym k) (here y (filter_map h zs))
    go (Some w) f (inr b) ih = there y w (filter_map h zs) (ih b)

tri_at_one : (t : Tri) (n : ℕ) → IsLeastFirst t → t.a ≡ n → tri_of n t.b t.c t.owner ≡ t
tri_at_one t n l e = let l1 = l.least in let l2 = l.least' in let l3 = l.apart in grind (arith, nat_tests)

tri_at_two : (t : Tri) (n : ℕ) → IsLeastFirst t → t.b ≡ n → tri_of n t.c t.a t.owner ≡ t
tri_at_two t n l e = let l1 = l.least in let l2 = l.least' in let l3 = l.apart in grind (arith, nat_tests)

tri_at_three : (t : Tri) (n : ℕ) → IsLeastFirst t → t.c ≡ n → tri_of n t.a t.b t.owner ≡ t
tri_at_three t n l e = let l1 = l.least in let l2 = l.least' in let l3 = l.apart in grind (arith, nat_tests)

some_same : {a b : Spoke} → Some a ≡ Some b → a ≡ b
some_same q = cc

pub spoke_of-some : (m : Undivided) (n : ℕ) (t : Tri) (s : Spoke) → IsLeastFirst t → spoke_of m n t ≡ Some s → tri_of n s.right s.left s.owner ≡ t
spoke_of-some m n t s l h = go (t.a == n) (t.b == n) (t.c == n) refl refl refl h
  where
    s1 : Spoke
    s1 = record { right = t.b; right_at = place_of m t.b; left = t.c; left_at = place_of m t.c; owner = t.owner }

    s2 : Spoke
    s2 = record { right = t.c; right_at = place_of m t.c; left = t.a; left_at = place_of m t.a; owner = t.owner }

    s3 : Spoke
    s3 = record { right = t.a; right_at = place_of m t.a; left = t.b; left_at = place_of m t.b; owner = t.owner }

    go : (a b c : Bool) → (t.a == n) ≡ a → (t.b == n) ≡ b → (t.c == n) ≡ c → cond a (Some s1) (cond b (Some s2) (cond c (Some s3) None)) ≡ Some s → tri_of n s.right s.left s.owner ≡ t
    go true b c ea eb ec k = subst (λ w. tri_of n w.right w.left w.owner ≡ t) (some_same k) (tri_at_one t n l (eqb-true t.a n ea))
    go false true c ea eb ec k = subst (λ w. tri_of n w.right w.left w.owner ≡ t) (some_same k) (tri_at_two t n l (eqb-true t.b n eb))
    go false false true ea eb ec k = subst (λ w. tri_of n w.right w.left w.owner ≡ t) (some_same k) (tri_at_three t n l (eqb-true t.c n ec))
    go false false false ea eb ec k = absurd (let z : None ≡ Some s = k in cc)

pub spoke_of-there : (m : Undivided) (n : ℕ) (t : Tri) → has_corner n t ≡ true → (s : Spoke) × (spoke_of m n t ≡ Some s)
spoke_of-there m n t h = go (t.a == n) (t.b == n) (t.c == n) refl refl refl h
  where
    s1 : Spoke
    s1 = record { right = t.b; right_at = place_of m t.b; left = t.c; left_at = place_of m t.c; owner = t.owner }

    s2 : Spoke
    s2 = record { right = t.c; right_at = place_of m t.c; left = t.a; left_at = place_of m t.a; owner = t.owner }

    s3 : Spoke
    s3 = record { right = t.a; right_at = place_of m t.a; left = t.b; left_at = place_of m t.b; owner = t.owner }

    go : (a b c : Bool) → (t.a == n) ≡ a → (t.b == n) ≡ b → (t.c == n) ≡ c → (a || (b || c)) ≡ true → (s : Spoke) × (cond a (Some s1) (cond b (Some s2) (cond c (Some s3) None)) ≡ Some s)
    go true b c ea eb ec k = (s1, refl)
    go false true c ea eb ec k = (s2, refl)
    go false false true ea eb ec k = (s3, refl)
    go false false false ea eb ec k = absurd (let z : false ≡ true = k in cc)

pub spokes-means : (m : Undivided) → IsConforming m → (n : ℕ) (s : Spoke) → Contains (spokes_of m n) s → Contains m.tris (tri_of n s.right s.left s.owner)
spokes-means m ok n s h = go (insert_all_by-cases spoke_lt s (filter_map (spoke_of m n) m.tris) [] h)
  where
    go : Contains (filter_map (spoke_of m n) m.tris) s ⊎ Contains [] s → Contains m.tris (tri_of n s.right s.left s.owner)
    go (inl a) = let r = filter_map-out (spoke_of m n) m.tris s a in subst (λ w. Contains m.tris w) (sym (spoke_of-some m n r.0 s (least_first m ok r.0 r.1) r.2)) r.1
    go (inr b) = absurd (nowhere s b)

-- the third corner by an edge
pub apex_same : (m : Undivided) → IsConforming m → (n x y o x' y' o' : ℕ) → Contains m.tris (tri_of n x y o) → Contains m.tris (tri_of n x' y' o') → tri_of n x y o ≡ tri_of n x' y' o' → (x ≡ x') × (y ≡ y') × (o ≡ o')
apex_same m ok n x y o x' y' o' h h' e =
    let c = (corners_of m ok n x y o h).distinct in
    let d = (corners_of m ok n x' y' o' h').distinct in
    let k = tri_of-edges n x n x' y' o' (subst (λ w. has_edge n x w ≡ true) e (tri_of-edge_one n x y o)) in
    let l = tri_of-edges y n n x' y' o' (subst (λ w. has_edge y n w ≡ true) e (tri_of-edge_three n x y o)) in
    (first c d k, second c d l, sym (tri_of-owner n x y o) ∙ ap (λ t. t.owner) e ∙ tri_of-owner n x' y' o')
  where
    first : AreDistinct n x y → AreDistinct n x' y' → IsEdge n x n x' y' → x ≡ x'
    first c d k = let i = k.is in let d1 = d.one in let d3 = d.three in let c1 = c.one in grind arith

    second : AreDistinct n x y → AreDistinct n x' y' → IsEdge y n n x' y' → y ≡ y'
    second c d k = let i = k.is in let d1 = d.one in let d3 = d.three in let c3 = c.three in grind arith

pub spokes-has : (m : Undivided) → IsConforming m → (n x y o : ℕ) → Contains m.tris (tri_of n x y o) → (s : Spoke) × Contains (spokes_of m n) s × (s.right ≡ x) × (s.left ≡ y) × (s.owner ≡ o)
spokes-has m ok n x y o h =
    let f = spoke_of-there m n (tri_of n x y o) (corner n x y o) in
    let e = spoke_of-some m n (tri_of n x y o) f.0 (least_first m ok _ h) f.1 in
    let i = insert_all_by-new spoke_lt f.0 (filter_map (spoke_of m n) m.tris) [] (filter_map-in (spoke_of m n) m.tris (tri_of n x y o) f.0 h f.1) in
    let same = apex_same m ok n f.0.right f.0.left f.0.owner x y o (subst (λ w. Contains m.tris w) (sym e) h) h e in
    (f.0, i, same.0, same.1, same.2)
  where
    corner : (a b c d : ℕ) → has_corner a (tri_of a b c d) ≡ true
    corner a b c d = tri_of-corner a a b c d (inl refl)

pub rising-different : (ts : List Tri) → IsRising tri_lt ts → AreDifferent ts
rising-different [] up = tt
rising-different (t ∷ ts) up = ((λ z h e. no z (rising-head tri_lt t z ts up h) e), rising-different ts (rising-tail tri_lt t ts up))
  where
    no : (z : Tri) → tri_lt t z ≡ true → t ≡ z → ⊥
    no z k e = let a : tri_lt t t ≡ false = tri_lt-order.irreflexive t in let b : true ≡ false = sym k ∙ (ap (tri_lt t) (sym e) ∙ a) in absurd (cc)

spokes-one_left : (m : Undivided) → IsConforming m → (n : ℕ) (s t : Spoke) → Contains m.tris (tri_of n s.right s.left s.owner) → Contains m.tris (tri_of n t.right t.left t.owner) → s.right ≡ t.right → tri_of n s.right s.left s.owner ≡ tri_of n t.right t.left t.owner
spokes-one_left m ok n s t a b e = ok.edges_once (tri_of n s.right s.left s.owner) (tri_of n t.right t.left t.owner) n s.right a b (tri_of-edge_one n s.right s.left s.owner) (subst (λ w. has_edge n w (tri_of n t.right t.left t.owner) ≡ true) (sym e) (tri_of-edge_one n t.right t.left t.owner))

spokes-one_right : (m : Undivided) → IsConforming m → (n : ℕ) (s t : Spoke) → Contains m.tris (tri_of n s.right s.left s.owner) → Contains m.tris (tri_of n t.right t.left t.owner) → s.left ≡ t.left → tri_of n s.right s.left s.owner ≡ tri_of n t.right t.left t.owner
spokes-one_right m ok n s t a b e = ok.edges_once (tri_of n s.right s.left s.owner) (tri_of n t.right t.left t.owner) s.left n a b (tri_of-edge_three n s.right s.left s.owner) (subst (λ w. has_edge w n (tri_of n t.right t.left t.owner) ≡ true) (sym e) (tri_of-edge_three n t.right t.left t.owner))

-- rights of spokes that are inserted in order
rights-insert_by : (s : Spoke) (ss : List Spoke) (w : ℕ) → Contains (map (λ t. t.right) (insert_by spoke_lt s ss)) w → (w ≡ s.right) ⊎ Contains (map (λ t. t.right) ss) w
rights-insert_by s ss w h = let r = map-means (λ t. t.right) (insert_by spoke_lt s ss) w h in elim (insert_by-cases spoke_lt s r.0 ss r.1) [ inl e ↦ inl (sym r.2 ∙ ap (λ t. t.right) e) | inr i ↦ inr (subst (λ k. Contains (map (λ t. t.right) ss) k) r.2 (map-in (λ t. t.right) ss r.0 i)) ]

different-insert_by : (s : Spoke) (ss : List Spoke) → ((w : ℕ) → Contains (map (λ t. t.right) ss) w → s.right ≢ w) → AreDifferent (map (λ t. t.right) ss) → AreDifferent (map (λ t. t.right) (insert_by spoke_lt s ss))
different-insert_by s [] n d = ((λ z h. absurd (nowhere z h)), tt)
different-insert_by s (r ∷ rs) n d = go (spoke_lt s r) (different-insert_by s rs (λ w h. n w (there w r.right (map (λ t. t.right) rs) h)) d.1)
  where
    go : (b : Bool) → AreDifferent (map (λ t. t.right) (insert_by spoke_lt s rs)) → AreDifferent (map (λ t. t.right) (cond b (s ∷ r ∷ rs) (r ∷ insert_by spoke_lt s rs)))
    go true ih = (n, d)
    go false ih = ((λ w h e. elim (rights-insert_by s rs w h) [ inl x ↦ n r.right (here r.right (map (λ t. t.right) rs)) (sym x ∙ sym e) | inr x ↦ d.0 w x e ]), ih)

different-insert_all_by : (ss : List Spoke) → AreDifferent (map (λ t. t.right) ss) → AreDifferent (map (λ t. t.right) (insert_all_by spoke_lt ss []))
different-insert_all_by [] d = tt
different-insert_all_by (s ∷ ss) d = different-insert_by s (insert_all_by spoke_lt ss []) (λ w h e. let r = map-means (λ t. t.right) (insert_all_by spoke_lt ss []) w h in elim (insert_all_by-cases spoke_lt r.0 ss [] r.1) [ inl i ↦ d.0 w (subst (λ k. Contains (map (λ t. t.right) ss) k) r.2 (map-in (λ t. t.right) ss r.0 i)) e | inr k ↦ nowhere r.0 k ]) (different-insert_all_by ss d.1)

-- the spokes in the triangles' order have different rights
pub different-raw : (m : Undivided) → IsConforming m → (n : ℕ) (ts : List Tri) → ((t : Tri) → Contains ts t → Contains m.tris t) → AreDifferent ts → AreDifferent (map (λ t. t.right) (filter_map (spoke_of m n) ts))
different-raw m ok n [] sub d = tt
different-raw m ok n (t ∷ ts) sub d = go (spoke_of m n t) refl (different-raw m ok n ts (λ z h. sub z (there z t ts h)) d.1)
  where
    go : (o : Option Spoke) → spoke_of m n t ≡ o → AreDifferent (map (λ t. t.right) (filter_map (spoke_of m n) ts)) → AreDifferent (map (λ t. t.right) (cons_option o (filter_map (spoke_of m n) ts)))
    go None e ih = ih
    go (Some s) e ih = (first, ih)
      where
        first : (w : ℕ) → Contains (map (λ t. t.right) (filter_map (spoke_of m n) ts)) w → s.right ≢ w
        first w h q =
            let r = map-means (λ t. t.right) (filter_map (spoke_of m n) ts) w h in
            let k = filter_map-out (spoke_of m n) ts r.0 r.1 in
            let ht = sub t (here t ts) in
            let hk = sub k.0 (there k.0 t ts k.1) in
            let a = spoke_of-some m n t s (least_first m ok t ht) e in
            let b = spoke_of-some m n k.0 r.0 (least_first m ok k.0 hk) k.2 in
            let same = spokes-one_left m ok n s r.0 (subst (λ x. Contains m.tris x) (sym a) ht) (subst (λ x. Contains m.tris x) (sym b) hk) (q ∙ sym r.2) in
            d.0 k.0 k.1 (sym a ∙ (same ∙ b))

pub spokes-simple : (m : Undivided) → IsConforming m → (n : ℕ) → IsSimple (spokes_of m n)
spokes-simple m ok n =
    record {
      one_left = λ s t hs ht e. (let a = spokes-means m ok n s hs in let b = spokes-means m ok n t ht in (apex_same m ok n s.right s.left s.owner t.right t.left t.owner a b (spokes-one_left m ok n s t a b e)).1);
      one_right = λ s t hs ht e. (let a = spokes-means m ok n s hs in let b = spokes-means m ok n t ht in (apex_same m ok n s.right s.left s.owner t.right t.left t.owner a b (spokes-one_right m ok n s t a b e)).0);
      different = different-insert_all_by (filter_map (spoke_of m n) m.tris) (different-raw m ok n m.tris (λ t h. h) (rising-different m.tris ok.tris_rise));
    }
