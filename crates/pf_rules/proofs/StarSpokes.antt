-- A node's spokes, by the sides that the edge table shows.
-- Assumes `IsConforming m`.
use Rattle.std.proofs.Common.{◌≡◌, ℕ, suc, ◌+◌, List, [], ◌∷◌, length, refl, sym, ◌∙◌, ap, subst, Bool, true, false, cond, ◌⊎◌, inl, inr, arith, ◌==◌, ◌||◌, Option, Some, None}
use Rattle.std.specs.Prelude.{Contains, filter_map, map, is_some}
use Rattle.std.specs.List.{cons_option}
use Rattle.pf_model.specs.declared.Tri.{Tri}
use Rattle.pf_model.specs.declared.Spoke.{Spoke}
use Rattle.pf_model.specs.Rising.{IsRising, insert_by, insert_all_by}
use Rattle.pf_model.specs.Mesh.{Undivided, tri_of, has_edge, side_of, is_edge, place_of}
use Rattle.pf_model.specs.declared.Side.{Side}
use Rattle.pf_model.specs.Conforming.{IsConforming}
use Rattle.pf_model.specs.Stars.{spoke_of, spoke_lt, spokes_of}
use Rattle.pf_model.proofs.Members.{nowhere, insert_all_by-cases}
use Rattle.pf_model.proofs.RisingLemmas.{rising-nil}
use Rattle.pf_model.proofs.Totals.{AreDifferent, map-in}
use Rattle.pf_model.proofs.Triangles.{IsLeastFirst, tri_of-edge_one, tri_of-edge_three, tri_of-turned, side_of-none}
use Rattle.pf_model.proofs.Kept.{side_of-stands}
use Rattle.pf_model.proofs.FlipKeeps.{corners_of}
use Rattle.pf_model.proofs.Spokes.{filter_map-out, spokes-means, spokes-has, different-raw, rising-different}
use Rattle.pf_model.specs.Exchange.{number_at}
use Rattle.pf_spokes.specs.Spokes.{has_right}
use Rattle.pf_rules.proofs.StarLists.{apart, right-means, rising-new}

least_first : (m : Undivided) → IsConforming m → (t : Tri) → Contains m.tris t → IsLeastFirst t
least_first m ok t h = let p = ok.proper t h in record { least = p.least; least' = p.least'; apart = p.apart }

-- the places of a spoke
pub spokes-placed : (m : Undivided) (n : ℕ) (s : Spoke) → Contains (spokes_of m n) s → (s.right_at ≡ place_of m s.right) × (s.left_at ≡ place_of m s.left)
spokes-placed m n s h = elim (insert_all_by-cases spoke_lt s (filter_map (spoke_of m n) m.tris) [] h) [ inl a ↦ (let r = filter_map-out (spoke_of m n) m.tris s a in from r.0 r.2) | inr b ↦ absurd (nowhere s b) ]
  where
    some_same : {a b : Spoke} → Some a ≡ Some b → a ≡ b
    some_same q = cc

    from : (t : Tri) → spoke_of m n t ≡ Some s → (s.right_at ≡ place_of m s.right) × (s.left_at ≡ place_of m s.left)
    from t e = go (t.a == n) (t.b == n) (t.c == n) e
      where
        go : (a b c : Bool) → cond a (Some record { right = t.b; right_at = place_of m t.b; left = t.c; left_at = place_of m t.c; owner = t.owner }) (cond b (Some record { right = t.c; right_at = place_of m t.c; left = t.a; left_at = place_of m t.a; owner = t.owner }) (cond c (Some record { right = t.a; right_at = place_of m t.a; left = t.b; left_at = place_of m t.b; owner = t.owner }) None)) ≡ Some s → (s.right_at ≡ place_of m s.right) × (s.left_at ≡ place_of m s.left)
        go true b c k = subst (λ w. (w.right_at ≡ place_of m w.right) × (w.left_at ≡ place_of m w.left)) (some_same k) (refl, refl)
        go false true c k = subst (λ w. (w.right_at ≡ place_of m w.right) × (w.left_at ≡ place_of m w.left)) (some_same k) (refl, refl)
        go false false true k = subst (λ w. (w.right_at ≡ place_of m w.right) × (w.left_at ≡ place_of m w.left)) (some_same k) (refl, refl)
        go false false false k = absurd (let z : None ≡ Some s = k in cc)

-- the spoke with these corners
abbrev pub spoke_with : Undivided → ℕ → ℕ → ℕ → Spoke
spoke_with m r l o = record { right = r; right_at = place_of m r; left = l; left_at = place_of m l; owner = o }

same_spoke : (m : Undivided) (s : Spoke) (r l o : ℕ) → s.right ≡ r → s.left ≡ l → s.owner ≡ o → (s.right_at ≡ place_of m s.right) → (s.left_at ≡ place_of m s.left) → s ≡ spoke_with m r l o
same_spoke m s r l o er el eo pr pl = λ i. record { right = er i; right_at = (pr ∙ ap (place_of m) er) i; left = el i; left_at = (pl ∙ ap (place_of m) el) i; owner = eo i }

pub spoke-there : (m : Undivided) → IsConforming m → (u r l o : ℕ) → Contains m.tris (tri_of u r l o) → Contains (spokes_of m u) (spoke_with m r l o)
spoke-there m ok u r l o h =
    let f = spokes-has m ok u r l o h in
    let p = spokes-placed m u f.0 f.1 in
    subst (λ w. Contains (spokes_of m u) w) (same_spoke m f.0 r l o f.2 f.3 f.4 p.0 p.1) f.1

pub spoke-on_some : (m : Undivided) → IsConforming m → (u r : ℕ) (side : Side) → side_of m.tris u r ≡ Some side → Contains (spokes_of m u) (spoke_with m r side.apex side.owner)
spoke-on_some m ok u r side e = spoke-there m ok u r side.apex side.owner (side_of-stands m.tris (least_first m ok) u r side e)

pub spoke-on_none : (m : Undivided) → IsConforming m → (u r : ℕ) → side_of m.tris u r ≡ None → (s : Spoke) → Contains (spokes_of m u) s → s.right ≡ r → ⊥
spoke-on_none m ok u r e s h q =
    let t = tri_of u s.right s.left s.owner in
    let k : has_edge u r t ≡ true = subst (λ w. has_edge u w t ≡ true) q (tri_of-edge_one u s.right s.left s.owner) in
    apart _ k (side_of-none m.tris u r e t (spokes-means m ok u s h))

pub spoke-before_some : (m : Undivided) → IsConforming m → (u l : ℕ) (side : Side) → side_of m.tris l u ≡ Some side → Contains (spokes_of m u) (spoke_with m side.apex l side.owner)
spoke-before_some m ok u l side e =
    let h = side_of-stands m.tris (least_first m ok) l u side e in
    let d = (corners_of m ok l u side.apex side.owner h).distinct in
    spoke-there m ok u side.apex l side.owner (subst (λ t. Contains m.tris t) (tri_of-turned l u side.apex side.owner d.one d.two d.three) h)

pub spoke-before_none : (m : Undivided) → IsConforming m → (u l : ℕ) → side_of m.tris l u ≡ None → (s : Spoke) → Contains (spokes_of m u) s → s.left ≡ l → ⊥
spoke-before_none m ok u l e s h q =
    let t = tri_of u s.right s.left s.owner in
    let k : has_edge l u t ≡ true = subst (λ w. has_edge w u t ≡ true) q (tri_of-edge_three u s.right s.left s.owner) in
    apart _ k (side_of-none m.tris l u e t (spokes-means m ok u s h))

-- spokes rise
rising-sorted : (ss : List Spoke) → AreDifferent (map (λ t. t.right) ss) → IsRising spoke_lt (insert_all_by spoke_lt ss [])
rising-sorted [] d = rising-nil spoke_lt
rising-sorted (s ∷ ss) d = rising-new s (insert_all_by spoke_lt ss []) (rising-sorted ss d.1) (go (has_right s.right (insert_all_by spoke_lt ss [])) refl)
  where
    go : (b : Bool) → has_right s.right (insert_all_by spoke_lt ss []) ≡ b → b ≡ false
    go false e = refl
    go true e = absurd (let r = right-means s.right (insert_all_by spoke_lt ss []) e in elim (insert_all_by-cases spoke_lt r.0 ss [] r.1) [ inl i ↦ d.0 r.0.right (map-in (λ t. t.right) ss r.0 i) (sym r.2) | inr k ↦ nowhere r.0 k ])

pub spokes-rise : (m : Undivided) → IsConforming m → (n : ℕ) → IsRising spoke_lt (spokes_of m n)
spokes-rise m ok n = rising-sorted (filter_map (spoke_of m n) m.tris) (different-raw m ok n m.tris (λ t h. h) (rising-different m.tris ok.tris_rise))

-- there are as many as triangles at the node
pub length-insert : (s : Spoke) (ss : List Spoke) → length (insert_by spoke_lt s ss) ≡ suc (length ss)
length-insert s [] = refl
length-insert s (r ∷ rs) = go (spoke_lt s r) (length-insert s rs)
  where
    go : (b : Bool) → length (insert_by spoke_lt s rs) ≡ suc (length rs) → length (cond b (s ∷ r ∷ rs) (r ∷ insert_by spoke_lt s rs)) ≡ suc (suc (length rs))
    go true ih = refl
    go false ih = ap suc ih

length-sorted : (ss : List Spoke) → length (insert_all_by spoke_lt ss []) ≡ length ss
length-sorted [] = refl
length-sorted (s ∷ ss) = length-insert s (insert_all_by spoke_lt ss []) ∙ ap suc (length-sorted ss)

length-raw : (m : Undivided) (n : ℕ) (ts : List Tri) → number_at n ts ≡ length (filter_map (spoke_of m n) ts)
length-raw m n [] = refl
length-raw m n (t ∷ ts) = go (t.a == n) (t.b == n) (t.c == n) (length-raw m n ts)
  where
    one : (a b : ℕ) → a ≡ b → 1 + a ≡ suc b
    one a b e = omega arith

    none : (a b : ℕ) → a ≡ b → 0 + a ≡ b
    none a b e = omega arith

    go : (a b c : Bool) → number_at n ts ≡ length (filter_map (spoke_of m n) ts)
        → cond (a || (b || c)) 1 0 + number_at n ts ≡ length (cons_option (cond a (Some record { right = t.b; right_at = place_of m t.b; left = t.c; left_at = place_of m t.c; owner = t.owner }) (cond b (Some record { right = t.c; right_at = place_of m t.c; left = t.a; left_at = place_of m t.a; owner = t.owner }) (cond c (Some record { right = t.a; right_at = place_of m t.a; left = t.b; left_at = place_of m t.b; owner = t.owner }) None))) (filter_map (spoke_of m n) ts))
    go true b c ih = one _ _ ih
    go false true c ih = one _ _ ih
    go false false true ih = one _ _ ih
    go false false false ih = none _ _ ih

pub spokes-counted : (m : Undivided) (n : ℕ) → number_at n m.tris ≡ length (spokes_of m n)
spokes-counted m n = length-raw m n m.tris ∙ sym (length-sorted (filter_map (spoke_of m n) m.tris))

-- an edge at the node is in one of its spokes
pub edge-spoke : (m : Undivided) → IsConforming m → (u v : ℕ) → is_edge m.tris u v ≡ true → (s : Spoke) × Contains (spokes_of m u) s × ((s.right ≡ v) ⊎ (s.left ≡ v))
edge-spoke m ok u v e = go (side_of m.tris u v) refl (side_of m.tris v u) refl e
  where
    go : (a : Option Side) → side_of m.tris u v ≡ a → (b : Option Side) → side_of m.tris v u ≡ b → (is_some a || is_some b) ≡ true → (s : Spoke) × Contains (spokes_of m u) s × ((s.right ≡ v) ⊎ (s.left ≡ v))
    go (Some a) ea b eb k = (spoke_with m v a.apex a.owner, spoke-on_some m ok u v a ea, inl refl)
    go None ea (Some b) eb k = (spoke_with m b.apex v b.owner, spoke-before_some m ok u v b eb, inr refl)
    go None ea None eb k = absurd (let z : false ≡ true = k in cc)

-- what the table's look-ups find
pub some_same : {a b : Spoke} → Some a ≡ Some b → a ≡ b
some_same q = cc
