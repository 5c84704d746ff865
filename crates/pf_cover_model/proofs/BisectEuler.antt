-- A bisection that passes keeps the Euler number: a node more, for each side a triangle and an edge more, and one edge cut in two.
-- Assumes `IsConforming m`, that `first_failing` is None, and that each live name is below the new one (`IsFresh`).
use Rattle.std.proofs.Common.{◌≡◌, ◌≢◌, ℕ, ◌<◌, List, [], ◌∷◌, ◌++◌, refl, sym, ◌∙◌, subst, Bool, true, false, ◌⊎◌, inl, inr, arith}
use Rattle.std.specs.Prelude.{Contains, not, map, Option, Some, None, min, max, pos, ◌+ℤ◌}
use Rattle.std.proofs.lemmas.Int.{ints}
use Rattle.std.proofs.lemmas.List.Elements.{Contains-append_cases, Contains-append_left, Contains-append_right}
use Rattle.pf_geom.specs.declared.Point.{Point}
use Rattle.pf_geom.specs.Plane.{middle_of}
use Rattle.pf_model.specs.declared.Tri.{Tri}
use Rattle.pf_model.specs.declared.Op.TheVariants.{Bisect}
use Rattle.pf_model.specs.Rising.{AreDifferent}
use Rattle.pf_model.specs.declared.Side.{Side}
use Rattle.pf_model.specs.Mesh.{Undivided, tri_of, tri_lt, has_edge, apex_in, side_of, place_of, is_edge}
use Rattle.pf_model.specs.Lengths.{Edge, edge_of}
use Rattle.pf_model.specs.Conforming.{IsConforming, IsLive}
use Rattle.pf_model.specs.Applied.{is_at_edge, halves_of, bisected}
use Rattle.pf_model.specs.Conditions.{first_failing}
use Rattle.pf_model.specs.Sums.{euler_of}
use Rattle.pf_model.proofs.Members.{nowhere, here, there, cases}
use Rattle.pf_model.proofs.Triangles.{IsEdge, has_edge-means, tri_of-apex}
use Rattle.pf_model.proofs.Patch.{replaced-cases, replaced-new, replaced-kept}
use Rattle.pf_model.proofs.Kept.{side_of-stands, side_of-found}
use Rattle.pf_model.proofs.Totals.{total-append, total-map, different-append, different-map, map-means, map-in}
use Rattle.pf_model.proofs.SitesAfter.{AreBelow}
use Rattle.pf_model.proofs.FlipKeeps.{AreCorners, corners_of, opposite_apexes}
use Rattle.pf_model.proofs.BisectKeeps.{added, after, bisect_conforms}
use Rattle.pf_model.proofs.EdgeSum.{conforming-sound}
use Rattle.pf_cover_model.proofs.EdgeNames.{AreSame, AreSides, same-turned, same-back, at_edge-sides, at_edge-same, at_edge-from, at_edge-cases, is_edge-means, is_edge-from, edge_of-ends, edge_of-rises, edge_of-is}
use Rattle.pf_cover_model.proofs.EdgeLists.{count, edge_list, edge_list-different, edge_list-from, euler_of-counts}
use Rattle.pf_cover_model.proofs.EdgePatch.{is_that, keeps-other, kept-other, no_same, ends-of, count-without, IsEdgePatch, count-patched}
use Rattle.pf_cover_model.proofs.AtEdge.{old_of}
use Rattle.pf_cover_model.proofs.BisectPatch.{bisect_total}
use Rattle.pf_cover_model.proofs.BisectRounds.{bisect_by}
use Rattle.pf_model.proofs.Triangles.{least_first}
use Rattle.pf_cover_model.proofs.EdgeNames.{not_both_values}

-- the apex of a side, where there is one
abbrev pub apex_list : Option Side → List ℕ
apex_list None = []
apex_list (Some s) = s.apex ∷ []

-- edges from one node differ where their other ends do
pub edge_of-one : (n a b : ℕ) → edge_of n a ≡ edge_of n b → a ≡ b
edge_of-one n a b e = other (edge_of n a).lo (edge_of n a).hi (edge_of-ends n a) (subst (λ w. AreSame w.lo w.hi n b) (sym e) (edge_of-ends n b))
  where
    other : (p q : ℕ) → AreSame p q n a → AreSame p q n b → a ≡ b
    other p q s t = let i = s.is in let j = t.is in grind arith

half_count : (n p q : ℕ) (s : Option Side) → count (halves_of n p q s) ≡ count (apex_list s) +ℤ count (apex_list s)
half_count n p q None = refl
half_count n p q (Some s) = refl

pub old_count : (p q : ℕ) (s : Option Side) → count (old_of p q s) ≡ count (apex_list s)
old_count p q None = refl
old_count p q (Some s) = refl

pub apex_list-different : (s : Option Side) → AreDifferent (apex_list s)
apex_list-different None = tt
apex_list-different (Some s) = ((λ z h. absurd (nowhere z h)), tt)

pub apex-means : (m : Undivided) → IsConforming m → (p q : ℕ) (s : Option Side) → side_of m.tris p q ≡ s → (x : ℕ) → Contains (apex_list s) x → (o : ℕ) × Contains m.tris (tri_of p q x o)
apex-means m ok p q None e x h = absurd (nowhere x h)
apex-means m ok p q (Some s) e x h = elim (cases x s.apex [] h) [ inl k ↦ (s.owner, subst (λ w. Contains m.tris (tri_of p q w s.owner)) (sym k) (side_of-stands m.tris (least_first m ok) p q s e)) | inr n ↦ absurd (nowhere x n) ]

-- an edge of a triangle that stands has live ends
pub ends_live : (m : Undivided) → IsConforming m → (p q : ℕ) (t : Tri) → Contains m.tris t → is_at_edge p q t ≡ true → IsLive m p × IsLive m q
ends_live m ok p q t h k = elim (at_edge-cases p q t k) [ inl x ↦ go p q (has_edge-means p q t x) | inr x ↦ (let r = go q p (has_edge-means q p t x) in (r.1, r.0)) ]
  where
    go : (p q : ℕ) → IsEdge p q t.a t.b t.c → IsLive m p × IsLive m q
    go p q e =
        let l = ok.proper t h in
        elim e.is [
          | inl x ↦ (subst (λ w. IsLive m w) x.0 l.first, subst (λ w. IsLive m w) x.1 l.second)
          | inr y ↦ elim y [ inl x ↦ (subst (λ w. IsLive m w) x.0 l.second, subst (λ w. IsLive m w) x.1 l.third) | inr x ↦ (subst (λ w. IsLive m w) x.0 l.third, subst (λ w. IsLive m w) x.1 l.first) ]
        ]

module _ (m : Undivided) (ok : IsConforming m) (n lo hi : ℕ) (mid : Point) (fresh : AreBelow m.sites n) (middle : middle_of (place_of m lo) (place_of m hi) ≡ Some mid) (edge : is_edge m.tris lo hi ≡ true) where
  abbrev mesh_then : Undivided
  mesh_then = after m ok n lo hi mid fresh middle edge

  abbrev keep : Edge → Bool
  keep z = not (is_that (edge_of lo hi) z)

  -- the ends of the new edges at the new node
  abbrev ends : List ℕ
  ends = lo ∷ hi ∷ (apex_list (side_of m.tris lo hi) ++ apex_list (side_of m.tris hi lo))

  abbrev new : List Edge
  new = map (edge_of n) ends

  -- what is common to both sides of the edge
  pub record IsCutSide (p q : ℕ) : Type 0 where
    into : (t : Tri) → Contains (halves_of n p q (side_of m.tris p q)) t → Contains mesh_then.tris t
    apexes : (x : ℕ) → Contains (apex_list (side_of m.tris p q)) x → Contains ends x
    p_in : Contains ends p
    q_in : Contains ends q
    edge_same : (z : Edge) → AreSame z.lo z.hi p q → AreSame z.lo z.hi lo hi
    apart : (b : ℕ) → b ≢ p → b ≢ q → (b ≢ lo) × (b ≢ hi)

  into_after : (t : Tri) → Contains (added m ok n lo hi mid fresh middle edge) t → Contains mesh_then.tris t
  into_after t h = replaced-new tri_lt (is_at_edge lo hi) (added m ok n lo hi mid fresh middle edge) m.tris t h

  apexes_in : (x : ℕ) → Contains (apex_list (side_of m.tris lo hi) ++ apex_list (side_of m.tris hi lo)) x → Contains ends x
  apexes_in x h = there x lo (hi ∷ (apex_list (side_of m.tris lo hi) ++ apex_list (side_of m.tris hi lo))) (there x hi (apex_list (side_of m.tris lo hi) ++ apex_list (side_of m.tris hi lo)) h)

  lo_in : Contains ends lo
  lo_in = here lo (hi ∷ (apex_list (side_of m.tris lo hi) ++ apex_list (side_of m.tris hi lo)))

  hi_in : Contains ends hi
  hi_in = there hi lo (hi ∷ (apex_list (side_of m.tris lo hi) ++ apex_list (side_of m.tris hi lo))) (here hi (apex_list (side_of m.tris lo hi) ++ apex_list (side_of m.tris hi lo)))

  pub left_side : IsCutSide lo hi
  left_side =
      record {
        into = λ t h. into_after t (Contains-append_left (halves_of n lo hi (side_of m.tris lo hi)) (halves_of n hi lo (side_of m.tris hi lo)) t h);
        apexes = λ x h. apexes_in x (Contains-append_left (apex_list (side_of m.tris lo hi)) (apex_list (side_of m.tris hi lo)) x h);
        p_in = lo_in;
        q_in = hi_in;
        edge_same = λ z s. s;
        apart = λ b x y. (x, y);
      }

  pub right_side : IsCutSide hi lo
  right_side =
      record {
        into = λ t h. into_after t (Contains-append_right (halves_of n lo hi (side_of m.tris lo hi)) (halves_of n hi lo (side_of m.tris hi lo)) t h);
        apexes = λ x h. apexes_in x (Contains-append_right (apex_list (side_of m.tris lo hi)) (apex_list (side_of m.tris hi lo)) x h);
        p_in = hi_in;
        q_in = lo_in;
        edge_same = λ z s. same-turned s;
        apart = λ b x y. (y, x);
      }

  is_new : (z : Edge) (x : ℕ) → z.lo < z.hi → AreSame z.lo z.hi n x → Contains ends x → Contains new z
  is_new z x l s h = subst (λ w. Contains new w) (sym (edge_of-is z n x l s)) (map-in (edge_of n) ends x h)

  old_edge : (z : Edge) (t : Tri) → Contains m.tris t → is_at_edge z.lo z.hi t ≡ true → (z ≢ edge_of lo hi) → ((is_edge m.tris z.lo z.hi ≡ true) × (keep z ≡ true)) ⊎ Contains new z
  old_edge z t h k d = inl (is_edge-from m.tris z.lo z.hi t h k, keeps-other (edge_of lo hi) z d)

  other : (z : Edge) (a b : ℕ) → AreSame z.lo z.hi a b → (b ≢ lo) × (b ≢ hi) → z ≢ edge_of lo hi
  other z a b s d e = no_same z.lo z.hi a b lo hi s (ends-of z lo hi e) d.0 d.1

  from_half : (p q : ℕ) → IsCutSide p q → (z : Edge) → z.lo < z.hi → (s : Option Side) → side_of m.tris p q ≡ s → (t : Tri) → Contains (halves_of n p q s) t → is_at_edge z.lo z.hi t ≡ true → ((is_edge m.tris z.lo z.hi ≡ true) × (keep z ≡ true)) ⊎ Contains new z
  from_half p q w z l None e t h k = absurd (nowhere t h)
  from_half p q w z l (Some s) e t h k =
      elim (cases t (tri_of p n s.apex s.owner) (tri_of n q s.apex s.owner ∷ []) h) [
        | inl x ↦ first (at_edge-sides z.lo z.hi p n s.apex s.owner (subst (λ v. is_at_edge z.lo z.hi v ≡ true) x k))
        | inr y ↦ elim (cases t (tri_of n q s.apex s.owner) [] y) [ inl x ↦ second (at_edge-sides z.lo z.hi n q s.apex s.owner (subst (λ v. is_at_edge z.lo z.hi v ≡ true) x k)) | inr v ↦ absurd (nowhere t v) ]
      ]
    where
      st : Contains m.tris (tri_of p q s.apex s.owner)
      st = side_of-stands m.tris (least_first m ok) p q s e

      c : AreCorners m p q s.apex
      c = corners_of m ok p q s.apex s.owner st

      apart : (s.apex ≢ lo) × (s.apex ≢ hi)
      apart = w.apart s.apex c.distinct.three (λ v. c.distinct.two (sym v))

      apex_in : Contains ends s.apex
      apex_in = w.apexes s.apex (subst (λ o. Contains (apex_list o) s.apex) (sym e) (here s.apex []))

      first : AreSides z.lo z.hi p n s.apex → ((is_edge m.tris z.lo z.hi ≡ true) × (keep z ≡ true)) ⊎ Contains new z
      first a = elim a.is [
        | inl x ↦ inr (is_new z p l (same-turned x) w.p_in)
        | inr y ↦ elim y [
          | inl x ↦ inr (is_new z s.apex l x apex_in)
          | inr x ↦ old_edge z (tri_of p q s.apex s.owner) st (at_edge-from z.lo z.hi p q s.apex s.owner record { is = inr (inr x) }) (other z p s.apex (same-turned x) apart)
        ]
      ]

      second : AreSides z.lo z.hi n q s.apex → ((is_edge m.tris z.lo z.hi ≡ true) × (keep z ≡ true)) ⊎ Contains new z
      second a = elim a.is [
        | inl x ↦ inr (is_new z q l x w.q_in)
        | inr y ↦ elim y [
          | inl x ↦ old_edge z (tri_of p q s.apex s.owner) st (at_edge-from z.lo z.hi p q s.apex s.owner record { is = inr (inl x) }) (other z q s.apex x apart)
          | inr x ↦ inr (is_new z s.apex l (same-turned x) apex_in)
        ]
      ]

  from : (z : Edge) → z.lo < z.hi → is_edge mesh_then.tris z.lo z.hi ≡ true → ((is_edge m.tris z.lo z.hi ≡ true) × (keep z ≡ true)) ⊎ Contains new z
  from z l h =
      let r = is_edge-means mesh_then.tris z.lo z.hi h in
      elim (replaced-cases tri_lt (is_at_edge lo hi) (added m ok n lo hi mid fresh middle edge) m.tris r.0 r.1) [
        | inl x ↦ elim (Contains-append_cases (halves_of n lo hi (side_of m.tris lo hi)) (halves_of n hi lo (side_of m.tris hi lo)) r.0 x) [
          | inl a ↦ from_half lo hi left_side z l (side_of m.tris lo hi) refl r.0 a r.2
          | inr b ↦ from_half hi lo right_side z l (side_of m.tris hi lo) refl r.0 b r.2
        ]
        | inr k ↦ old_edge z r.0 k.0 r.2 (λ e. not_both_values (is_at_edge lo hi r.0) (at_edge-same lo hi z.lo z.hi r.0 (same-back (ends-of z lo hi e)) r.2) k.1)
      ]

  by_tri : (z : Edge) (a b c o : ℕ) → Contains mesh_then.tris (tri_of a b c o) → AreSides z.lo z.hi a b c → is_edge mesh_then.tris z.lo z.hi ≡ true
  by_tri z a b c o h s = is_edge-from mesh_then.tris z.lo z.hi (tri_of a b c o) h (at_edge-from z.lo z.hi a b c o s)

  pub half_one : (p q : ℕ) → IsCutSide p q → (s : Side) → side_of m.tris p q ≡ Some s → Contains mesh_then.tris (tri_of p n s.apex s.owner)
  half_one p q w s e = w.into (tri_of p n s.apex s.owner) (subst (λ o. Contains (halves_of n p q o) (tri_of p n s.apex s.owner)) (sym e) (here (tri_of p n s.apex s.owner) (tri_of n q s.apex s.owner ∷ [])))

  pub half_two : (p q : ℕ) → IsCutSide p q → (s : Side) → side_of m.tris p q ≡ Some s → Contains mesh_then.tris (tri_of n q s.apex s.owner)
  half_two p q w s e = w.into (tri_of n q s.apex s.owner) (subst (λ o. Contains (halves_of n p q o) (tri_of n q s.apex s.owner)) (sym e) (there (tri_of n q s.apex s.owner) (tri_of p n s.apex s.owner) (tri_of n q s.apex s.owner ∷ []) (here (tri_of n q s.apex s.owner) [])))

  old_cut : (p q : ℕ) → IsCutSide p q → (z : Edge) → z.lo < z.hi → keep z ≡ true → (t : Tri) → Contains m.tris t → has_edge p q t ≡ true → is_at_edge z.lo z.hi t ≡ true → is_edge mesh_then.tris z.lo z.hi ≡ true
  old_cut p q w z l k t h e g =
      let f = side_of-found m.tris ok.edges_once p q t h e in
      let same = tri_of-apex p q t (least_first m ok t h) e in
      elim (at_edge-sides z.lo z.hi p q (apex_in p q t) t.owner (subst (λ v. is_at_edge z.lo z.hi v ≡ true) (sym same) g)).is [
        | inl x ↦ absurd (kept-other (edge_of lo hi) z k (edge_of-is z lo hi l (w.edge_same z x)))
        | inr y ↦ elim y [
          | inl x ↦ by_tri z n q (apex_in p q t) t.owner (half_two p q w _ f) record { is = inr (inl x) }
          | inr x ↦ by_tri z p n (apex_in p q t) t.owner (half_one p q w _ f) record { is = inr (inr x) }
        ]
      ]

  old : (z : Edge) → z.lo < z.hi → is_edge m.tris z.lo z.hi ≡ true → keep z ≡ true → is_edge mesh_then.tris z.lo z.hi ≡ true
  old z l h k = let r = is_edge-means m.tris z.lo z.hi h in go r.0 r.1 r.2 (is_at_edge lo hi r.0) refl
    where
      go : (t : Tri) → Contains m.tris t → is_at_edge z.lo z.hi t ≡ true → (b : Bool) → is_at_edge lo hi t ≡ b → is_edge mesh_then.tris z.lo z.hi ≡ true
      go t i e false g = is_edge-from mesh_then.tris z.lo z.hi t (replaced-kept tri_lt (is_at_edge lo hi) (added m ok n lo hi mid fresh middle edge) m.tris t i g) e
      go t i e true g = elim (at_edge-cases lo hi t g) [ inl x ↦ old_cut lo hi left_side z l k t i x e | inr x ↦ old_cut hi lo right_side z l k t i x e ]

  -- no old name is the new one
  not_new : (x : ℕ) → IsLive m x → x ≢ n
  not_new x live e = let k = fresh x live in omega (arith, k, e)

  -- the edge has a side
  record IsSome (p q : ℕ) : Type 0 where
    side : Side
    found : side_of m.tris p q ≡ Some side

  a_side : IsSome lo hi ⊎ IsSome hi lo
  a_side = go (is_edge-means m.tris lo hi edge)
    where
      go : (t : Tri) × Contains m.tris t × (is_at_edge lo hi t ≡ true) → IsSome lo hi ⊎ IsSome hi lo
      go r = elim (at_edge-cases lo hi r.0 r.2) [ inl x ↦ inl record { side = record { apex = apex_in lo hi r.0; owner = r.0.owner }; found = side_of-found m.tris ok.edges_once lo hi r.0 r.1 x } | inr x ↦ inr record { side = record { apex = apex_in hi lo r.0; owner = r.0.owner }; found = side_of-found m.tris ok.edges_once hi lo r.0 r.1 x } ]

  ends_differ : lo ≢ hi
  ends_differ = elim a_side [ inl s ↦ (corners_of m ok lo hi s.side.apex s.side.owner (side_of-stands m.tris (least_first m ok) lo hi s.side s.found)).distinct.one | inr s ↦ (λ e. (corners_of m ok hi lo s.side.apex s.side.owner (side_of-stands m.tris (least_first m ok) hi lo s.side s.found)).distinct.one (sym e)) ]

  lo_hi_live : IsLive m lo × IsLive m hi
  lo_hi_live = let r = is_edge-means m.tris lo hi edge in ends_live m ok lo hi r.0 r.1 r.2

  -- both halves of the cut edge stand
  cut_edges : (z : Edge) → AreSame z.lo z.hi n lo ⊎ AreSame z.lo z.hi n hi → is_edge mesh_then.tris z.lo z.hi ≡ true
  cut_edges z c = elim a_side [
    | inl s ↦ elim c [ inl x ↦ by_tri z lo n s.side.apex s.side.owner (half_one lo hi left_side s.side s.found) record { is = inl (same-turned x) } | inr x ↦ by_tri z n hi s.side.apex s.side.owner (half_two lo hi left_side s.side s.found) record { is = inl x } ]
    | inr s ↦ elim c [ inl x ↦ by_tri z n lo s.side.apex s.side.owner (half_two hi lo right_side s.side s.found) record { is = inl x } | inr x ↦ by_tri z hi n s.side.apex s.side.owner (half_one hi lo right_side s.side s.found) record { is = inl (same-turned x) } ]
  ]

  apex_edge : (p q : ℕ) → IsCutSide p q → (z : Edge) (x : ℕ) → AreSame z.lo z.hi n x → (s : Option Side) → side_of m.tris p q ≡ s → Contains (apex_list s) x → (is_edge mesh_then.tris z.lo z.hi ≡ true) × IsLive m x
  apex_edge p q w z x a None e h = absurd (nowhere x h)
  apex_edge p q w z x a (Some s) e h =
      elim (cases x s.apex [] h) [
        | inl k ↦ (by_tri z p n s.apex s.owner (half_one p q w s e) record { is = inr (inl (subst (λ v. AreSame z.lo z.hi n v) k a)) }, subst (λ v. IsLive m v) (sym k) (corners_of m ok p q s.apex s.owner (side_of-stands m.tris (least_first m ok) p q s e)).live_z)
        | inr v ↦ absurd (nowhere x v)
      ]

  end_edge : (x : ℕ) → Contains ends x → (z : Edge) → AreSame z.lo z.hi n x → (is_edge mesh_then.tris z.lo z.hi ≡ true) × IsLive m x
  end_edge x h z a =
      elim (cases x lo (hi ∷ (apex_list (side_of m.tris lo hi) ++ apex_list (side_of m.tris hi lo))) h) [
        | inl e ↦ (cut_edges z (inl (subst (λ v. AreSame z.lo z.hi n v) e a)), subst (λ v. IsLive m v) (sym e) lo_hi_live.0)
        | inr r ↦ elim (cases x hi (apex_list (side_of m.tris lo hi) ++ apex_list (side_of m.tris hi lo)) r) [
          | inl e ↦ (cut_edges z (inr (subst (λ v. AreSame z.lo z.hi n v) e a)), subst (λ v. IsLive m v) (sym e) lo_hi_live.1)
          | inr k ↦ elim (Contains-append_cases (apex_list (side_of m.tris lo hi)) (apex_list (side_of m.tris hi lo)) x k) [
            | inl i ↦ apex_edge lo hi left_side z x a (side_of m.tris lo hi) refl i
            | inr i ↦ apex_edge hi lo right_side z x a (side_of m.tris hi lo) refl i
          ]
        ]
      ]

  put : (z : Edge) → Contains new z → (z.lo < z.hi) × (is_edge mesh_then.tris z.lo z.hi ≡ true)
  put z h =
      let r = map-means (edge_of n) ends z h in
      let k = end_edge r.0 r.1 (edge_of n r.0) (edge_of-ends n r.0) in
      subst (λ w. (w.lo < w.hi) × (is_edge mesh_then.tris w.lo w.hi ≡ true)) r.2 (edge_of-rises n r.0 (λ e. not_new r.0 k.1 (sym e)), k.0)

  unheard : (z : Edge) → Contains new z → is_edge m.tris z.lo z.hi ≡ true → ⊥
  unheard z h k =
      let r = map-means (edge_of n) ends z h in
      let t = is_edge-means m.tris z.lo z.hi k in
      let l = ends_live m ok z.lo z.hi t.0 t.1 t.2 in
      no z.lo z.hi r.0 (ends-of z n r.0 (sym r.2)) (not_new z.lo l.0) (not_new z.hi l.1)
    where
      no : (p q x : ℕ) → AreSame p q n x → p ≢ n → q ≢ n → ⊥
      no p q x s a b = let i = s.is in grind arith

  apexes_apart : (z : ℕ) → Contains (apex_list (side_of m.tris lo hi)) z → Contains (apex_list (side_of m.tris hi lo)) z → ⊥
  apexes_apart z h k =
      let a = apex-means m ok lo hi (side_of m.tris lo hi) refl z h in
      let b = apex-means m ok hi lo (side_of m.tris hi lo) refl z k in
      opposite_apexes m lo hi z z (corners_of m ok lo hi z a.0 a.1).left (corners_of m ok hi lo z b.0 b.1).left refl

  apex_not_end : (z : ℕ) → Contains (apex_list (side_of m.tris lo hi) ++ apex_list (side_of m.tris hi lo)) z → (z ≢ lo) × (z ≢ hi)
  apex_not_end z h = elim (Contains-append_cases (apex_list (side_of m.tris lo hi)) (apex_list (side_of m.tris hi lo)) z h) [
    | inl i ↦ (let a = apex-means m ok lo hi (side_of m.tris lo hi) refl z i in let c = (corners_of m ok lo hi z a.0 a.1).distinct in (c.three, (λ e. c.two (sym e))))
    | inr i ↦ (let a = apex-means m ok hi lo (side_of m.tris hi lo) refl z i in let c = (corners_of m ok hi lo z a.0 a.1).distinct in ((λ e. c.two (sym e)), c.three))
  ]

  ends_different : AreDifferent ends
  ends_different = (
    (λ z h e. elim (cases z hi (apex_list (side_of m.tris lo hi) ++ apex_list (side_of m.tris hi lo)) h) [ inl k ↦ ends_differ (e ∙ k) | inr k ↦ (apex_not_end z k).0 (sym e) ]),
    ((λ z h e. (apex_not_end z h).1 (sym e)), different-append (apex_list (side_of m.tris lo hi)) (apex_list (side_of m.tris hi lo)) (apex_list-different (side_of m.tris lo hi)) (apex_list-different (side_of m.tris hi lo)) apexes_apart),
  )

  bisect_edge_patch : IsEdgePatch m.tris mesh_then.tris keep new
  bisect_edge_patch =
      record {
        sound = conforming-sound m ok;
        sound_after = conforming-sound mesh_then (bisect_conforms m ok n lo hi mid fresh middle edge);
        different = different-map (edge_of n) (λ a b e. edge_of-one n a b e) ends ends_different;
        unheard = unheard;
        from = from;
        old = old;
        put = put;
      }

  the_edge : Contains (edge_list m.tris) (edge_of lo hi)
  the_edge =
      let r = is_edge-means m.tris lo hi edge in
      edge_list-from m.tris (conforming-sound m ok) (edge_of lo hi) (edge_of-rises lo hi ends_differ) (is_edge-from m.tris (min lo hi) (max lo hi) r.0 r.1 (at_edge-same (min lo hi) (max lo hi) lo hi r.0 (edge_of-ends lo hi) r.2))

  pub bisect_euler : euler_of mesh_then ≡ euler_of m
  bisect_euler =
      let a = euler_of-counts m in
      let b = euler_of-counts mesh_then in
      let e = count-patched m.tris mesh_then.tris keep new bisect_edge_patch in
      let g = count-without (edge_of lo hi) (edge_list m.tris) (edge_list-different m.tris (conforming-sound m ok)) the_edge in
      let i : count new ≡ pos 1 +ℤ (pos 1 +ℤ count (apex_list (side_of m.tris lo hi) ++ apex_list (side_of m.tris hi lo))) = total-map (λ z. pos 1) (edge_of n) ends in
      let j = total-append (λ (z : ℕ). pos 1) (apex_list (side_of m.tris lo hi)) (apex_list (side_of m.tris hi lo)) in
      let h = bisect_total m ok n lo hi mid fresh middle edge (λ t. pos 1) in
      let k1 = half_count n lo hi (side_of m.tris lo hi) in
      let k2 = half_count n hi lo (side_of m.tris hi lo) in
      let l1 = old_count lo hi (side_of m.tris lo hi) in
      let l2 = old_count hi lo (side_of m.tris hi lo) in
      let s : count mesh_then.sites ≡ count m.sites +ℤ (pos 1 +ℤ pos 0) = total-append (λ z. pos 1) m.sites (record { name = n; at = mid } ∷ []) in
      omega (arith, ints, a, b, e, g, i, j, h, k1, k2, l1, l2, s)

pub bisect_keeps_euler : (m : Undivided) (chunk a b n : ℕ) → IsConforming m → AreBelow m.sites n → first_failing m chunk (Bisect a b) ≡ None → euler_of (bisected m n (min a b) (max a b)) ≡ euler_of m
bisect_keeps_euler m chunk a b n ok fresh h = bisect_by (λ k. euler_of k ≡ euler_of m) m chunk a b n ok fresh h (λ mid middle edge. bisect_euler m ok n (min a b) (max a b) mid fresh middle edge)
