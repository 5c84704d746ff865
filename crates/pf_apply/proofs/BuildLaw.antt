-- What build accepts is conforming.
use Rattle.std.proofs.Common.{◌≡◌, ℕ, zero, suc, ◌+◌, ◌<◌, List, [], ◌∷◌, length, refl, sym, ◌∙◌, ap, subst, Bool, true, false, cond, not, find, ◌⊎◌, inl, inr, arith, Option, Some, None, is_some, unwrap_or, pos, ℤ, ◌==◌}
use Rattle.std.specs.Prelude.{Contains, nat_lt, int_lt, ◌<ℤ◌, ◌+ℤ◌}
use Rattle.std.specs.Ordering.{int_eq}
use Rattle.std.proofs.lemmas.Bool.Decides.{nat_tests, Decides-int_eq}
use Rattle.std.proofs.lemmas.Int.{ints}
use Rattle.pf_geom.specs.declared.Point.{Point}
use Rattle.pf_geom.specs.Plane.{orient_of}
use Rattle.pf_geom.proofs.Orientations.{orient_of-turned, orient_of-swapped}
use Rattle.pf_model.specs.declared.Tri.{Tri}
use Rattle.pf_model.specs.declared.BuildErr.TheVariants.{BadNode, Flat, EdgeTwice}
use Rattle.pf_model.specs.Clauses.{when, when_some, first_of}
use Rattle.pf_model.specs.Mesh.{DirectedEdge, tri_of, has_edge, has_corner, side_of, point_of, place_of, turn_at, directed_edges_in}
use Rattle.pf_model.specs.Conforming.{HasEdgesOnce}
use Rattle.pf_model.specs.Build.{point_at, listed_turn, turned_left, build_clauses, sites_from}
use Rattle.pf_model.proofs.Members.{nowhere, cases}
use Rattle.pf_model.proofs.Triangles.{has_edge-means, side_of-none, tri_of-least_first, tri_of-owner, tri_of-corners}
use Rattle.pf_model.proofs.ReadClauses.{first_of-none, when-none}
use Rattle.pf_model.proofs.Turns.{distinct_from_turn, turn_at-tri_of}
use Rattle.pf_model.specs.Exchange.{IsTurned, SharesNoEdge}
use Rattle.pf_apply.specs.BuildSteps.{points_mesh, AreAccepted}
use Rattle.pf_edges.proofs.TableSteps.{edge_one}

apart : (b : Bool) → b ≡ true → b ≡ false → ⊥
apart b e f = let k : true ≡ false = sym e ∙ f in absurd (cc)

-- the name and its place in the list
found_at : (k : ℕ) (ps : List Point) (j : ℕ) → unwrap_or (point_of (sites_from k ps) (k + j)) record { x = pos 0; y = pos 0 } ≡ point_at ps j
found_at k [] j = refl
found_at k (p ∷ ps) zero = ap (λ b. unwrap_or (cond b (Some p) (point_of (sites_from (suc k) ps) (k + 0))) record { x = pos 0; y = pos 0 }) (same k)
  where
    same : (n : ℕ) → (n == n + 0) ≡ true
    same n = grind (arith, nat_tests)
found_at k (p ∷ ps) (suc j) = ap (λ b. unwrap_or (cond b (Some p) (point_of (sites_from (suc k) ps) (k + suc j))) record { x = pos 0; y = pos 0 }) (other k j) ∙ (ap (λ n. unwrap_or (point_of (sites_from (suc k) ps) n) record { x = pos 0; y = pos 0 }) (moved k j) ∙ found_at (suc k) ps j)
  where
    other : (n i : ℕ) → (n == n + suc i) ≡ false
    other n i = grind (arith, nat_tests)

    moved : (n i : ℕ) → n + suc i ≡ suc n + i
    moved n i = omega arith

pub place-points : (points : List Point) (n : ℕ) → place_of (points_mesh points) n ≡ point_at points n
place-points points n = ap (λ k. unwrap_or (point_of (sites_from 0 points) k) record { x = pos 0; y = pos 0 }) (start n) ∙ found_at 0 points n
  where
    start : (n : ℕ) → n ≡ 0 + n
    start n = omega arith

live_from : (k : ℕ) (ps : List Point) (j : ℕ) → j < length ps → is_some (point_of (sites_from k ps) (k + j)) ≡ true
live_from k [] j l = absurd (omega arith)
live_from k (p ∷ ps) zero l = ap (λ b. is_some (cond b (Some p) (point_of (sites_from (suc k) ps) (k + 0)))) (same k)
  where
    same : (n : ℕ) → (n == n + 0) ≡ true
    same n = grind (arith, nat_tests)
live_from k (p ∷ ps) (suc j) l = ap (λ b. is_some (cond b (Some p) (point_of (sites_from (suc k) ps) (k + suc j)))) (other k j) ∙ (ap (λ n. is_some (point_of (sites_from (suc k) ps) n)) (moved k j) ∙ live_from (suc k) ps j (let w : suc j < suc (length ps) = l in omega arith))
  where
    other : (n i : ℕ) → (n == n + suc i) ≡ false
    other n i = grind (arith, nat_tests)

    moved : (n i : ℕ) → n + suc i ≡ suc n + i
    moved n i = omega arith

pub live-points : (points : List Point) (n : ℕ) → n < length points → is_some (point_of (sites_from 0 points) n) ≡ true
live-points points n l = subst (λ k. is_some (point_of (sites_from 0 points) k) ≡ true) (start n) (live_from 0 points n l)
  where
    start : (n : ℕ) → 0 + n ≡ n
    start n = omega arith

find_none : {X : Type 0} (p : X → Bool) (a b c : X) → find p (a ∷ b ∷ c ∷ []) ≡ None → (p a ≡ false) × (p b ≡ false) × (p c ≡ false)
find_none {X} p a b c e = go (p a) (p b) (p c) refl refl refl e
  where
    go : (x y z : Bool) → p a ≡ x → p b ≡ y → p c ≡ z → cond x (Some a) (cond y (Some b) (cond z (Some c) None)) ≡ None → (p a ≡ false) × (p b ≡ false) × (p c ≡ false)
    go true y z ea eb ec f = absurd (let k : Some a ≡ None = f in cc)
    go false true z ea eb ec f = absurd (let k : Some b ≡ None = f in cc)
    go false false true ea eb ec f = absurd (let k : Some c ≡ None = f in cc)
    go false false false ea eb ec f = (ea, eb, ec)

when_some-none : {X Y : Type 0} (o : Option X) (f : X → Y) → when_some o f ≡ None → o ≡ None
when_some-none None f e = refl
when_some-none (Some x) f e = absurd (let k : Some (f x) ≡ None = e in cc)

below : (n k : ℕ) → not (nat_lt n k) ≡ false → n < k
below n k e = grind (arith, nat_tests)

is_some-none : {X : Type 0} (o : Option X) → is_some o ≡ false → o ≡ None
is_some-none None e = refl
is_some-none (Some x) e = absurd (let k : true ≡ false = e in cc)

-- a triangle of three corners that turns left
pub record IsLeft (points : List Point) (t : Tri) : Type 0 where
  pub p : ℕ
  pub q : ℕ
  pub z : ℕ
  pub is : t ≡ tri_of p q z 0
  pub left : pos 0 <ℤ turn_at (points_mesh points) p q z
  pub within : (p < length points) × (q < length points) × (z < length points)

int_lt-holds : (x : ℤ) → int_lt (pos 0) x ≡ true → pos 0 <ℤ x
int_lt-holds x h = grind (arith, ints)

turns_other : (x y : ℤ) → int_lt (pos 0) x ≡ false → (x ≡ pos 0 → ⊥) → x +ℤ y ≡ pos 0 → pos 0 <ℤ y
turns_other x y h n e = grind (arith, ints)

pub left-of : (points : List Point) (a b c : ℕ) → a < length points → b < length points → c < length points → (listed_turn points (a ∷ b ∷ c ∷ []) ≡ pos 0 → ⊥) → IsLeft points (turned_left points (a ∷ b ∷ c ∷ []))
left-of points a b c la lb lc n = go (int_lt (pos 0) (listed_turn points (a ∷ b ∷ c ∷ []))) refl
  where
    turn_is : (p q z : ℕ) → turn_at (points_mesh points) p q z ≡ orient_of (point_at points p) (point_at points q) (point_at points z)
    turn_is p q z = λ i. orient_of (place-points points p i) (place-points points q i) (place-points points z i)

    go : (x : Bool) → int_lt (pos 0) (listed_turn points (a ∷ b ∷ c ∷ [])) ≡ x → IsLeft points (cond x (tri_of a b c 0) (tri_of a c b 0))
    go true e = record { p = a; q = b; z = c; is = refl; left = subst (λ w. pos 0 <ℤ w) (sym (turn_is a b c)) (int_lt-holds _ e); within = (la, lb, lc) }
    go false e =
        record {
          p = a;
          q = c;
          z = b;
          is = refl;
          left = subst (λ w. pos 0 <ℤ w) (sym (turn_is a c b)) (turns_other (listed_turn points (a ∷ b ∷ c ∷ [])) (orient_of (point_at points a) (point_at points c) (point_at points b)) e n flipped);
          within = (la, lc, lb);
        }
      where
        flipped : orient_of (point_at points a) (point_at points b) (point_at points c) +ℤ orient_of (point_at points a) (point_at points c) (point_at points b) ≡ pos 0
        flipped = ap (λ w. orient_of (point_at points a) (point_at points b) (point_at points c) +ℤ w) (orient_of-turned (point_at points a) (point_at points c) (point_at points b) ∙ orient_of-turned (point_at points c) (point_at points b) (point_at points a)) ∙ orient_of-swapped (point_at points a) (point_at points b) (point_at points c)

-- what is known of a triangle that turns left
left-corners : (points : List Point) (t : Tri) → (l : IsLeft points t) → (t.a < length points) × (t.b < length points) × (t.c < length points)
left-corners points t l = (corner t.a (inl refl), corner t.b (inr (inl refl)), corner t.c (inr (inr refl)))
  where
    any : (n : ℕ) → (t.a ≡ n) ⊎ ((t.b ≡ n) ⊎ (t.c ≡ n)) → has_corner n t ≡ true
    any n (inl e) = grind (arith, nat_tests)
    any n (inr (inl e)) = grind (arith, nat_tests)
    any n (inr (inr e)) = grind (arith, nat_tests)

    corner : (n : ℕ) → (t.a ≡ n) ⊎ ((t.b ≡ n) ⊎ (t.c ≡ n)) → n < length points
    corner n h = elim (tri_of-corners n l.p l.q l.z 0 (subst (λ w. has_corner n w ≡ true) l.is (any n h))) [ inl e ↦ subst (λ w. w < length points) e l.within.0 | inr k ↦ elim k [ inl e ↦ subst (λ w. w < length points) e l.within.1 | inr e ↦ subst (λ w. w < length points) e l.within.2 ] ]

left-turned : (points : List Point) (t : Tri) → IsLeft points t → IsTurned t
left-turned points t l =
    let d = distinct_from_turn (points_mesh points) l.p l.q l.z l.left in
    let f = tri_of-least_first l.p l.q l.z 0 d.one d.two d.three in
    subst (λ w. IsTurned w) (sym l.is) record { least = f.least; least' = f.least'; apart = f.apart }

left-positive : (points : List Point) (t : Tri) → IsLeft points t → pos 0 <ℤ turn_at (points_mesh points) t.a t.b t.c
left-positive points t l = subst (λ w. pos 0 <ℤ turn_at (points_mesh points) w.a w.b w.c) (sym l.is) (subst (λ w. pos 0 <ℤ w) (sym (turn_at-tri_of (points_mesh points) l.p l.q l.z 0)) l.left)

-- a triangle whose three edges no earlier one has
shares_none : (t : Tri) (earlier : List Tri) → side_of earlier t.a t.b ≡ None → side_of earlier t.b t.c ≡ None → side_of earlier t.c t.a ≡ None → SharesNoEdge t earlier
shares_none t earlier e1 e2 e3 s p q h k = go (has_edge-means p q t k).is
  where
    go : ((t.a ≡ p) × (t.b ≡ q)) ⊎ (((t.b ≡ p) × (t.c ≡ q)) ⊎ ((t.c ≡ p) × (t.a ≡ q))) → has_edge p q s ≡ false
    go (inl x) = subst (λ w. has_edge w q s ≡ false) x.0 (subst (λ w. has_edge t.a w s ≡ false) x.1 (side_of-none earlier t.a t.b e1 s h))
    go (inr (inl x)) = subst (λ w. has_edge w q s ≡ false) x.0 (subst (λ w. has_edge t.b w s ≡ false) x.1 (side_of-none earlier t.b t.c e2 s h))
    go (inr (inr x)) = subst (λ w. has_edge w q s ≡ false) x.0 (subst (λ w. has_edge t.c w s ≡ false) x.1 (side_of-none earlier t.c t.a e3 s h))

pub record IsAccepted (points : List Point) (earlier : List Tri) (t : Tri) : Type 0 where
  pub part : AreAccepted points (t ∷ earlier)
  pub apart_from : SharesNoEdge t earlier
  pub turned : IsTurned t
  pub corners : (t.a < length points) × (t.b < length points) × (t.c < length points)

part-cons : (points : List Point) (earlier : List Tri) (t : Tri) → AreAccepted points earlier → IsLeft points t → SharesNoEdge t earlier → AreAccepted points (t ∷ earlier)
part-cons points earlier t part l bare =
    record {
      corners = λ s h. elim (cases s t earlier h) [ inl e ↦ subst (λ w. (w.a < length points) × (w.b < length points) × (w.c < length points)) (sym e) (left-corners points t l) | inr k ↦ part.corners s k ];
      positive = λ s h. elim (cases s t earlier h) [ inl e ↦ subst (λ w. pos 0 <ℤ turn_at (points_mesh points) w.a w.b w.c) (sym e) (left-positive points t l) | inr k ↦ part.positive s k ];
      owned = λ s h. elim (cases s t earlier h) [ inl e ↦ ap (λ w. w.owner) e ∙ (ap (λ w. w.owner) l.is ∙ tri_of-owner l.p l.q l.z 0) | inr k ↦ part.owned s k ];
      sound = record {
        turned = λ s h. elim (cases s t earlier h) [ inl e ↦ subst (λ w. IsTurned w) (sym e) (left-turned points t l) | inr k ↦ part.sound.turned s k ];
        once = ((λ s h e. apart _ (subst (λ w. has_edge t.a t.b w ≡ true) e (edge_one t)) (bare s t.a t.b h (edge_one t))), part.sound.once);
        edges_once = once;
      };
    }
  where
    once : HasEdgesOnce (t ∷ earlier)
    once r s p q hr hs er es = go (cases r t earlier hr) (cases s t earlier hs)
      where
        go : (r ≡ t) ⊎ Contains earlier r → (s ≡ t) ⊎ Contains earlier s → r ≡ s
        go (inl a) (inl b) = a ∙ sym b
        go (inl a) (inr b) = absurd (apart _ es (bare s p q b (subst (λ w. has_edge p q w ≡ true) a er)))
        go (inr a) (inl b) = absurd (apart _ er (bare r p q a (subst (λ w. has_edge p q w ≡ true) b es)))
        go (inr a) (inr b) = part.sound.edges_once r s p q a b er es

pub accepted : (points : List Point) (earlier : List Tri) (k a b c : ℕ) → AreAccepted points earlier → first_of (build_clauses points earlier k (a ∷ b ∷ c ∷ [])) ≡ None → IsAccepted points earlier (turned_left points (a ∷ b ∷ c ∷ []))
accepted points earlier k a b c part h =
    let t = turned_left points (a ∷ b ∷ c ∷ []) in
    let one = first_of-none (when_some (find (λ n. not (nat_lt n (length points))) (a ∷ b ∷ c ∷ [])) (λ n. BadNode k n)) _ h in
    let two = first_of-none (when (int_eq (listed_turn points (a ∷ b ∷ c ∷ [])) (pos 0)) (Flat k)) _ one.1 in
    let three = first_of-none (when_some (find (λ e. is_some (side_of earlier e.from e.to)) (directed_edges_in (turned_left points (a ∷ b ∷ c ∷ [])))) (λ e. EdgeTwice e.from e.to)) _ two.1 in
    let in_list = find_none (λ n. not (nat_lt n (length points))) a b c (when_some-none _ _ one.0) in
    let flat = when-none _ _ two.0 in
    let l = left-of points a b c (below a (length points) in_list.0) (below b (length points) in_list.1) (below c (length points) in_list.2) (λ e. apart _ ((Decides-int_eq (listed_turn points (a ∷ b ∷ c ∷ [])) (pos 0)).1 e) flat) in
    let none = find_none (λ (e : DirectedEdge). is_some (side_of earlier e.from e.to)) record { from = t.a; to = t.b } record { from = t.b; to = t.c } record { from = t.c; to = t.a } (when_some-none _ _ three.0) in
    let bare = shares_none t earlier (is_some-none _ none.0) (is_some-none _ none.1) (is_some-none _ none.2) in
    record { part = part-cons points earlier t part l bare; apart_from = bare; turned = left-turned points t l; corners = left-corners points t l }

pub part-none : (points : List Point) → AreAccepted points []
part-none points =
    record {
      corners = λ t h. absurd (nowhere t h);
      positive = λ t h. absurd (nowhere t h);
      owned = λ t h. absurd (nowhere t h);
      sound = record { turned = λ t h. absurd (nowhere t h); once = tt; edges_once = λ s t p q h k. absurd (nowhere s h) };
    }
