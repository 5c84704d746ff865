-- What is planned from the held stars is what the model patches.
use Rattle.std.proofs.Common.{◌≡◌, ◌≢◌, ℕ, ◌+◌, ◌-◌, ◌<◌, ◌≤◌, List, [], ◌++◌, refl, sym, ◌∙◌, ap, subst, Bool, true, false, cond, inl, arith, ◌||◌}
use Rattle.std.specs.Prelude.{Contains, Option, Some, None, is_some, min, max, map, unwrap_or, ◌==◌}
use Rattle.std.specs.Option.{option_map}
use Rattle.pf_geom.specs.declared.Point.{Point}
use Rattle.pf_geom.specs.Plane.{middle_of}
use Rattle.pf_model.specs.declared.Tri.{Tri}
use Rattle.pf_model.specs.declared.Side.{Side}
use Rattle.pf_model.specs.declared.Spoke.{Spoke}
use Rattle.pf_model.specs.declared.Op.{Op}
use Rattle.pf_model.specs.declared.Op.TheVariants.{Flip, Bisect, Contract}
use Rattle.pf_model.specs.Mesh.{Undivided, side_of, has_corner, place_of}
use Rattle.pf_model.specs.Conforming.{IsConforming, IsLive}
use Rattle.pf_model.specs.Applied.{is_at_edge, flip_added, halves_of, new_site}
use Rattle.pf_model.specs.Conditions.{first_failing}
use Rattle.pf_model.specs.Stars.{Star, star_of, spokes_of}
use Rattle.pf_model.proofs.ReadClauses.{FlipPasses, flip_passes, bisect_passes}
use Rattle.pf_model.proofs.ContractClauses.{contract_passes}
use Rattle.pf_model.proofs.FlipKeeps.{FlipFacts, flip_facts}
use Rattle.pf_model.proofs.Turns.{AreDistinct}
use Rattle.pf_star_model.specs.Lent.{IsShown, spokes_in, sites_in, side_to, side_from, sight_of}
use Rattle.pf_star_model.specs.Patched.{moved_seen, spokes_after, star_after, patched, patch_of, changed_by}
use Rattle.pf_star_model.specs.Laws.{CanApply, AreEndsShown}
use Rattle.pf_star_model.proofs.Shown.{IsSeen, place-shown, seen_live, side_to-shown, side_from-shown}
use Rattle.pf_star_model.proofs.Judging.{IsEdgeSeen, edge_seen, shown_sorted}
use Rattle.pf_star_model.proofs.BisectPatched.{sight_at_new, sight_at_old}
use Rattle.pf_rings.specs.Points.{first_to, first_from, left_side, right_side}
use Rattle.pf_patch.specs.declared.tris.Corner.{Corner}
use Rattle.pf_patch.specs.declared.tris.NewTri.{NewTri}
use Rattle.pf_patch.specs.declared.tris.Gone.TheVariants.{AtEdge, AtNode}
use Rattle.pf_patch.specs.Tris.{IsStanding, star_with, tri_value}
use Rattle.pf_patch.specs.Plans.{later, origin, corner, flip_triangles, flip_triangles_of, cut, cut_of, moved, moved_of, middle_or, spot_in, born_of, born_at, made_or, planned, planned_pair, gone_by, tris_by, dead_by, born_by}
use Rattle.pf_patch.specs.declared.plan.Plan.{Plan}
use Rattle.pf_patch.specs.Made.{IsPlan}
use Rattle.pf_patch.proofs.Bridge.{star-model}
use Rattle.pf_patch.proofs.Standing.{first_to-side, first_from-side, first_to-some, first_from-some, turned-tris, cut-tris, moved-tris, turned-stand, cut-stand, moved-stand, end-stands}

some_same : {X : Type 0} {a b : X} → Some a ≡ Some b → a ≡ b
some_same q = cc

-- the star of a live node
abbrev live_star : Undivided → ℕ → Star
live_star m n = record { node = n; at = place_of m n; spokes = spokes_of m n }

star-live : (m : Undivided) (n : ℕ) → IsLive m n → star_of m n ≡ Some (live_star m n)
star-live m n l = ap (λ c. cond c (Some (live_star m n)) None) l

mapped : (f g : Star → Star) → ((s : Star) → f s ≡ g s) → (o : Option Star) → option_map f o ≡ option_map g o
mapped f g h o = λ i. option_map (λ s. h s i) o

-- the sides that the first spokes show
left-is : (m : Undivided) → IsConforming m → (p q : ℕ) → option_map left_side (first_to q (spokes_of m p)) ≡ side_of m.tris p q
left-is m ok p q = first_to-side q (spokes_of m p) ∙ side_to-shown m ok p q

right-is : (m : Undivided) → IsConforming m → (p q : ℕ) → option_map right_side (first_from q (spokes_of m p)) ≡ side_of m.tris q p
right-is m ok p q = first_from-side q (spokes_of m p) ∙ side_from-shown m ok p q

module _ (m : Undivided) (ok : IsConforming m) (lent : ℕ → Option Star) (chunk a b : ℕ) (passes : first_failing m chunk (Flip a b) ≡ None) (shown : IsShown lent m (min a b)) where
  abbrev lo : ℕ
  lo = min a b

  abbrev hi : ℕ
  hi = max a b

  abbrev ss : List Spoke
  ss = spokes_of m lo

  sides : (l r : Side) × FlipPasses m lo hi l r
  sides = (flip_passes m chunk a b passes).1

  seen : IsEdgeSeen m lo hi
  seen = edge_seen m ok lo hi (ap (λ o. is_some o || is_some (side_of m.tris hi lo)) sides.2.left)

  facts : FlipFacts m lo hi sides.0.apex sides.1.apex sides.0.owner sides.1.owner
  facts = flip_facts m ok lo hi sides.0 sides.1 sides.2

  abbrev sight : Undivided
  sight = sight_of [] (Some (live_star m lo))

  shows : (x : ℕ) → IsSeen m lo x → place_of sight x ≡ place_of m x
  shows x i = subst (λ o. place_of (sight_of [] o) x ≡ place_of m x) (star-live m lo seen.live) (place-shown m [] lo x seen.live i)

  abbrev put : List NewTri
  put = flip_triangles (corner lo (place_of m lo)) (first_to hi ss) (first_from hi ss)

  apart : (x y : Spoke) → first_to hi ss ≡ Some x → first_from hi ss ≡ Some y → AreDistinct lo y.right x.left × AreDistinct hi x.left y.right
  apart x y e f =
      let l : x.left ≡ sides.0.apex = ap (λ s. s.apex) (some_same (ap (option_map left_side) (sym e) ∙ (left-is m ok lo hi ∙ sides.2.left))) in
      let r : y.right ≡ sides.1.apex = ap (λ s. s.apex) (some_same (ap (option_map right_side) (sym f) ∙ (right-is m ok lo hi ∙ sides.2.right))) in (
        subst (λ k. AreDistinct lo y.right k) (sym l) (subst (λ k. AreDistinct lo k sides.0.apex) (sym r) facts.distinct_lo),
        subst (λ k. AreDistinct hi k y.right) (sym l) (subst (λ k. AreDistinct hi sides.0.apex k) (sym r) facts.distinct_hi),
      )

  put-stand : (t : NewTri) → Contains put t → IsStanding sight t
  put-stand t h = turned-stand m ok lo sight shows hi (first_to hi ss) (first_from hi ss) (λ s e. first_to-some hi ss s e) (λ s e. first_from-some hi ss s e) apart t h

  put-tris : map tri_value put ≡ flip_added lo hi (side_to hi ss) (side_from hi ss)
  put-tris = turned-tris (corner lo (place_of m lo)) (corner hi origin) (first_to hi ss) (first_from hi ss) (λ s e. (first_to-some hi ss s e).1) ∙ (λ i. flip_added lo hi (first_to-side hi ss i) (first_from-side hi ss i))

  abbrev flip_f : ℕ → Option Star → Option Star
  flip_f n o = option_map (star_with (AtEdge lo hi) (flip_triangles_of lo hi o)) (lent n)

  abbrev flip_g : ℕ → Option Star → Option Star
  flip_g n o = option_map (star_after (sight_of [] o) (is_at_edge lo hi) (flip_added lo hi (side_to hi (spokes_in o)) (side_from hi (spokes_in o)))) (lent n)

  pub flip-planned : (n : ℕ) → planned lent (gone_by (Flip a b)) (tris_by lent (Flip a b)) (dead_by (Flip a b)) (born_by lent (Flip a b)) n ≡ patched lent later (Flip a b) n
  flip-planned n =
      let e : lent lo ≡ Some (live_star m lo) = shown ∙ star-live m lo seen.live in
      ap (flip_f n) e
      ∙ (mapped (star_with (AtEdge lo hi) put) (star_after sight (is_at_edge lo hi) (flip_added lo hi (side_to hi ss) (side_from hi ss))) (λ s. star-model sight (AtEdge lo hi) put (flip_added lo hi (side_to hi ss) (side_from hi ss)) s put-tris put-stand) (lent n)
      ∙ sym (ap (flip_g n) e))

module _ (m : Undivided) (ok : IsConforming m) (lent : ℕ → Option Star) (chunk u v : ℕ) (passes : first_failing m chunk (Contract u v) ≡ None) (shown : IsShown lent m u) where
  abbrev us : List Spoke
  us = spokes_of m u

  edge : (is_some (side_of m.tris u v) || is_some (side_of m.tris v u)) ≡ true
  edge = (contract_passes m chunk u v passes).edge

  seen_u : IsEdgeSeen m u v
  seen_u = edge_seen m ok u v edge

  abbrev sight_u : Undivided
  sight_u = sight_of [] (Some (live_star m u))

  shows_u : (x : ℕ) → IsSeen m u x → place_of sight_u x ≡ place_of m x
  shows_u x i = subst (λ o. place_of (sight_of [] o) x ≡ place_of m x) (star-live m u seen_u.live) (place-shown m [] u x seen_u.live i)

  spot-stands : spot_in v us ≡ place_of m v
  spot-stands = end-stands m ok u sight_u shows_u v edge

  abbrev put_u : List NewTri
  put_u = moved (corner v (spot_in v us)) us

  put_u-stand : (t : NewTri) → Contains put_u t → IsStanding sight_u t
  put_u-stand t h = moved-stand m ok u sight_u shows_u v (spot_in v us) record { at = spot-stands ∙ sym (shows_u v seen_u.other) } t h

  abbrev fan_f : ℕ → Option Star → Option Star
  fan_f n o = cond (n == u) None (option_map (star_with (AtNode u) (moved_of v o)) (lent n))

  abbrev fan_g : ℕ → Option Star → Option Star
  fan_g n o = cond (n == u) None (option_map (star_after (sight_of [] o) (has_corner u) (moved_seen v (spokes_in o))) (lent n))

  pub contract-planned : (n : ℕ) → planned lent (gone_by (Contract u v)) (tris_by lent (Contract u v)) (dead_by (Contract u v)) (born_by lent (Contract u v)) n ≡ patched lent later (Contract u v) n
  contract-planned n =
      let e : lent u ≡ Some (live_star m u) = shown ∙ star-live m u seen_u.live in
      ap (fan_f n) e
      ∙ (ap (λ o. cond (n == u) None o) (mapped (star_with (AtNode u) put_u) (star_after sight_u (has_corner u) (moved_seen v us)) (λ s. star-model sight_u (AtNode u) put_u (moved_seen v us) s (moved-tris (corner v (spot_in v us)) us) put_u-stand) (lent n))
      ∙ sym (ap (fan_g n) e))

module _ (m : Undivided) (ok : IsConforming m) (lent : ℕ → Option Star) (chunk a b : ℕ) (fresh : (x : ℕ) → IsLive m x → x < later) (few : m.first_new ≤ later) (passes : first_failing m chunk (Bisect a b) ≡ None) (shown : IsShown lent m (min a b)) where
  abbrev low : ℕ
  low = min a b

  abbrev high : ℕ
  high = max a b

  abbrev bs : List Spoke
  bs = spokes_of m low

  edge_b : (is_some (side_of m.tris low high) || is_some (side_of m.tris high low)) ≡ true
  edge_b = (bisect_passes m chunk a b passes).1.edge

  seen_b : IsEdgeSeen m low high
  seen_b = edge_seen m ok low high edge_b

  abbrev mid : Option Point
  mid = middle_of (place_of m low) (place_of m high)

  -- the name of the new node, as that of a ticket
  abbrev ticket : ℕ
  ticket = later - m.first_new

  named : m.first_new + ticket ≡ later
  named = omega (arith, few)

  fresh_named : (x : ℕ) → IsLive m x → x < m.first_new + ticket
  fresh_named x l = let f = fresh x l in let e = named in omega (arith, f, e)

  abbrev sight_at : ℕ → Option Star → Undivided
  sight_at k o = record (sight_of [] o) { sites = sites_in o ++ new_site k mid }

  abbrev sight_b : Undivided
  sight_b = sight_at later (Some (live_star m low))

  shows_b : (x : ℕ) → IsSeen m low x → place_of sight_b x ≡ place_of m x
  shows_b x i =
      subst (λ o. place_of (sight_at later o) x ≡ place_of m x) (star-live m low seen_b.live)
      (subst (λ k. place_of (sight_at k (star_of m low)) x ≡ place_of m x) named (sight_at_old m ok chunk a b ticket fresh_named passes x i))

  shows_new : place_of sight_b later ≡ unwrap_or mid origin
  shows_new =
      subst (λ o. place_of (sight_at later o) later ≡ unwrap_or mid origin) (star-live m low seen_b.live)
      (subst (λ k. place_of (sight_at k (star_of m low)) k ≡ unwrap_or mid origin) named (sight_at_new m ok chunk a b ticket fresh_named passes))

  apart_new : (x : ℕ) → IsSeen m low x → x ≢ later
  apart_new x i e = let f = fresh x (seen_live m ok low x seen_b.live i) in omega (arith, f, e)

  -- what is put in, where the other end stands at a point
  abbrev new_at : Point → Corner
  new_at p = corner later (middle_or (place_of m low) p)

  abbrev put_at : Point → List NewTri
  put_at p = cut (new_at p) (corner low (place_of m low)) (corner high p) (first_to high bs) (first_from high bs)

  abbrev put_b : List NewTri
  put_b = put_at (place_of m high)

  abbrev tris_b : List Tri
  tris_b = halves_of later low high (side_to high bs) ++ halves_of later high low (side_from high bs)

  put_b-stand : (t : NewTri) → Contains put_b t → IsStanding sight_b t
  put_b-stand t h = cut-stand m ok low sight_b shows_b (new_at (place_of m high)) high (place_of m high) (first_to high bs) (first_from high bs) record { at = sym shows_new } record { at = sym (shows_b high seen_b.other) } apart_new (λ s e. first_to-some high bs s e) (λ s e. first_from-some high bs s e) t h

  put_b-tris : map tri_value put_b ≡ tris_b
  put_b-tris = cut-tris (new_at (place_of m high)) (corner low (place_of m low)) (corner high (place_of m high)) (first_to high bs) (first_from high bs) ∙ (λ i. halves_of later low high (first_to-side high bs i) ++ halves_of later high low (first_from-side high bs i))

  star-b : (s : Star) → star_with (AtEdge low high) put_b s ≡ star_after sight_b (is_at_edge low high) tris_b s
  star-b s = star-model sight_b (AtEdge low high) put_b tris_b s put_b-tris put_b-stand

  -- by the points of the star
  abbrev cut_f : ℕ → Point → Option Star
  cut_f n p = made_or (AtEdge low high) (put_at p) (born_at n (Some (new_at p))) (option_map (star_with (AtEdge low high) (put_at p)) (lent n))

  abbrev cut_g : ℕ → Undivided → List Tri → Option Star
  cut_g n w ts = cond (n == later) (Some record { node = later; at = place_of w later; spokes = spokes_after w (is_at_edge low high) ts later [] }) (option_map (star_after w (is_at_edge low high) ts) (lent n))

  abbrev bisect_f : ℕ → Option Star → Option Star
  bisect_f n o = made_or (AtEdge low high) (cut_of low high o) (born_at n (Some (born_of high o))) (option_map (star_with (AtEdge low high) (cut_of low high o)) (lent n))

  abbrev mid_in : Option Star → Option Point
  mid_in o = middle_of (place_of (sight_of [] o) low) (place_of (sight_of [] o) high)

  abbrev bisect_g : ℕ → Option Star → Option Star
  bisect_g n o = cut_g n record (sight_of [] o) { sites = sites_in o ++ new_site later (mid_in o) } (halves_of later low high (side_to high (spokes_in o)) ++ halves_of later high low (side_from high (spokes_in o)))

  mid-is : mid_in (Some (live_star m low)) ≡ mid
  mid-is = λ i. middle_of (point low (inl refl) i) (point high seen_b.other i)
    where
      point : (x : ℕ) → IsSeen m low x → place_of (sight_of [] (Some (live_star m low))) x ≡ place_of m x
      point x i = subst (λ o. place_of (sight_of [] o) x ≡ place_of m x) (star-live m low seen_b.live) (place-shown m [] low x seen_b.live i)

  cut-planned : (n : ℕ) → cut_f n (place_of m high) ≡ cut_g n sight_b tris_b
  cut-planned n = go (n == later)
    where
      born : Star
      born = record { node = later; at = middle_or (place_of m low) (place_of m high); spokes = [] }

      made : Star → Point → Star
      made s p = record { node = later; at = p; spokes = s.spokes }

      go : (c : Bool) → made_or (AtEdge low high) put_b (cond c (Some (new_at (place_of m high))) None) (option_map (star_with (AtEdge low high) put_b) (lent n)) ≡ cond c (Some record { node = later; at = place_of sight_b later; spokes = spokes_after sight_b (is_at_edge low high) tris_b later [] }) (option_map (star_after sight_b (is_at_edge low high) tris_b) (lent n))
      go true = λ i. Some record { node = later; at = sym shows_new i; spokes = (star-b born i).spokes }
      go false = mapped (star_with (AtEdge low high) put_b) (star_after sight_b (is_at_edge low high) tris_b) star-b (lent n)

  pub bisect-planned : (n : ℕ) → planned lent (gone_by (Bisect a b)) (tris_by lent (Bisect a b)) (dead_by (Bisect a b)) (born_by lent (Bisect a b)) n ≡ patched lent later (Bisect a b) n
  bisect-planned n =
      let e : lent low ≡ Some (live_star m low) = shown ∙ star-live m low seen_b.live in
      ap (bisect_f n) e
      ∙ (ap (cut_f n) (end-stands m ok low sight_b shows_b high edge_b)
      ∙ (cut-planned n
      ∙ (ap (λ q. cut_g n record (sight_of [] (Some (live_star m low))) { sites = sites_in (Some (live_star m low)) ++ new_site later q } tris_b) (sym mid-is)
      ∙ sym (ap (bisect_g n) e))))

-- all operations
pub all-planned : (m : Undivided) (lent : ℕ → Option Star) (chunk ticket : ℕ) (op : Op) → CanApply m record { ticket = ticket; chunk = chunk; op = op } → AreEndsShown lent m op → m.first_new + ticket ≤ later → (n : ℕ) → planned lent (gone_by op) (tris_by lent op) (dead_by op) (born_by lent op) n ≡ patched lent later op n
all-planned m lent chunk ticket (Flip a b) c s few n = flip-planned m c.conforming lent chunk a b c.passes (shown_sorted m lent a b s.0 s.1).0 n
all-planned m lent chunk ticket (Bisect a b) c s few n = bisect-planned m c.conforming lent chunk a b (λ x l. let f : x < m.first_new + ticket = c.fresh x l in omega (arith, f, few)) (omega (arith, few)) c.passes (shown_sorted m lent a b s.0 s.1).0 n
all-planned m lent chunk ticket (Contract u v) c s few n = contract-planned m c.conforming lent chunk u v c.passes s.0 n

-- the pairs of a patch, by a plan
pub patch-by : (m : Undivided) (lent : ℕ → Option Star) (chunk ticket : ℕ) (op : Op) → CanApply m record { ticket = ticket; chunk = chunk; op = op } → AreEndsShown lent m op → m.first_new + ticket ≤ later → (p : Plan) → IsPlan lent op p → (names : List ℕ) → names ≡ changed_by lent later op → map (planned_pair lent p.gone p.added.items p.dead p.born) names ≡ patch_of lent later op
patch-by m lent chunk ticket op c s few p i names e =
    (λ j. map (planned_pair lent (i.gone j) (i.added j) (i.dead j) (i.born j)) (e j))
    ∙ (λ j. map (λ n. record { node = n; star = all-planned m lent chunk ticket op c s few n j }) (changed_by lent later op))
