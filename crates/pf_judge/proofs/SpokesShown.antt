-- A node's spokes, and the points of its neighbours, as the edge table shows them.
use Rattle.std.proofs.Common.{◌≡◌, ℕ, List, sym, ◌∙◌, ap, subst, Bool, true, false, cond, arith, ◌||◌, Some, None, pos, unwrap_or, rules}
use Rattle.std.specs.Prelude.{Contains, is_some, unwrap_or, pos, nat_lt}
use Rattle.pf_geom.specs.declared.Point.{Point}
use Rattle.pf_model.specs.Mesh.{Undivided, side_of, place_of}
use Rattle.pf_model.specs.Conforming.{IsConforming}
use Rattle.pf_model.specs.Stars.{spokes_of, is_neighbour}
use Rattle.pf_edges.specs.declared.table.Node.{Node}
use Rattle.pf_edges.specs.Table.{Sides, Shows, side_at, point_or_origin, ArePlacesInRange, place_at, triangles_at}
use Rattle.pf_rules.specs.Star.{IsSpokeOn, IsSpokeBefore}
use Rattle.pf_rules.proofs.StarSpokes.{spoke_with, some_same, spoke-on_some, spoke-on_none, spoke-before_some, spoke-before_none}
use Rattle.pf_rules.proofs.ContractReads.{or_swap, neighbour-edge}
use Rattle.pf_geom.specs.Plane.{IsInRange}

pub shown-point : (sides : Sides) (nodes : List Node) (m : Undivided) → Shows sides nodes m → (n : ℕ) → point_or_origin nodes n ≡ place_of m n
shown-point sides nodes m s n = ap (λ o. unwrap_or o record { x = pos 0; y = pos 0 }) (s.sites n)

pub spoke-on : (sides : Sides) (nodes : List Node) (m : Undivided) → IsConforming m → Shows sides nodes m → (u r apex owner : ℕ) (p q : Point) → Some record { apex = apex; owner = owner } ≡ side_at sides u r → p ≡ point_or_origin nodes r → q ≡ point_or_origin nodes apex
    → IsSpokeOn (spokes_of m u) r (Some record { right = r; right_at = p; left = apex; left_at = q; owner = owner })
spoke-on sides nodes m ok s u r apex owner p q e ep eq =
    record {
      there = λ x k. (let same : spoke_with m r apex owner ≡ x = (λ i. record { right = r; right_at = sym (ep ∙ shown-point sides nodes m s r) i; left = apex; left_at = sym (eq ∙ shown-point sides nodes m s apex) i; owner = owner }) ∙ some_same k in
          (subst (λ w. Contains (spokes_of m u) w) same (spoke-on_some m ok u r record { apex = apex; owner = owner } (sym (s.triangles.sides u r) ∙ sym e)), ap (λ w. w.right) (sym same)));
      absent = λ k. absurd (let z : Some record { right = r; right_at = p; left = apex; left_at = q; owner = owner } ≡ None = k in cc);
    }

pub spoke-on_not : (sides : Sides) (nodes : List Node) (m : Undivided) → IsConforming m → Shows sides nodes m → (u r : ℕ) → None ≡ side_at sides u r → IsSpokeOn (spokes_of m u) r None
spoke-on_not sides nodes m ok s u r e =
    record {
      there = λ x k. absurd (let z : None ≡ Some x = k in cc);
      absent = λ k. spoke-on_none m ok u r (sym (s.triangles.sides u r) ∙ sym e);
    }

pub spoke-before : (sides : Sides) (nodes : List Node) (m : Undivided) → IsConforming m → Shows sides nodes m → (u l apex owner : ℕ) (p q : Point) → Some record { apex = apex; owner = owner } ≡ side_at sides l u → p ≡ point_or_origin nodes apex → q ≡ point_or_origin nodes l
    → IsSpokeBefore (spokes_of m u) l (Some record { right = apex; right_at = p; left = l; left_at = q; owner = owner })
spoke-before sides nodes m ok s u l apex owner p q e ep eq =
    record {
      there = λ x k. (let same : spoke_with m apex l owner ≡ x = (λ i. record { right = apex; right_at = sym (ep ∙ shown-point sides nodes m s apex) i; left = l; left_at = sym (eq ∙ shown-point sides nodes m s l) i; owner = owner }) ∙ some_same k in
          (subst (λ w. Contains (spokes_of m u) w) same (spoke-before_some m ok u l record { apex = apex; owner = owner } (sym (s.triangles.sides l u) ∙ sym e)), ap (λ w. w.left) (sym same)));
      absent = λ k. absurd (let z : Some record { right = apex; right_at = p; left = l; left_at = q; owner = owner } ≡ None = k in cc);
    }

pub spoke-before_not : (sides : Sides) (nodes : List Node) (m : Undivided) → IsConforming m → Shows sides nodes m → (u l : ℕ) → None ≡ side_at sides l u → IsSpokeBefore (spokes_of m u) l None
spoke-before_not sides nodes m ok s u l e =
    record {
      there = λ x k. absurd (let z : None ≡ Some x = k in cc);
      absent = λ k. spoke-before_none m ok u l (sym (s.triangles.sides l u) ∙ sym e);
    }

-- a point that the table gives is in range
pub spot-in_range : (nodes : List Node) (n : ℕ) → ArePlacesInRange nodes → IsInRange (point_or_origin nodes n)
spot-in_range nodes n range = go (nat_lt 0 (triangles_at nodes n))
  where
    go : (b : Bool) → IsInRange (unwrap_or (cond b (Some (place_at nodes n)) None) record { x = pos 0; y = pos 0 })
    go true = range.each n
    go false = record { x = search (rules, arith); y = search (rules, arith) }

pub beside-shown : (sides : Sides) (nodes : List Node) (m : Undivided) → IsConforming m → Shows sides nodes m → (x v : ℕ) (b : Bool) → b ≡ (is_some (side_at sides x v) || is_some (side_at sides v x)) → b ≡ is_neighbour x (spokes_of m v)
beside-shown sides nodes m ok s x v b e =
    e ∙ ((λ i. is_some (s.triangles.sides x v i) || is_some (s.triangles.sides v x i))
    ∙ (or_swap (is_some (side_of m.tris x v)) (is_some (side_of m.tris v x)) ∙ sym (neighbour-edge m ok x v)))
