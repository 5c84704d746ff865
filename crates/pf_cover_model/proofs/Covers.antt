-- Cover as the crossing number of the boundary, and what operations and journals keep of it.
-- Assumes `IsConforming m`; for the cover, that q is above 0 and that the point is on no edge.
use Rattle.std.proofs.Common.{◌≡◌, ◌∙◌, ℕ, ◌+◌, List, [], ◌∷◌, refl, sym, ap, subst, Bool, true, false, cond, inl, inr, ◌&&◌, arith}
use Rattle.std.specs.Prelude.{ℤ, pos, ◌+ℤ◌, ◌-ℤ◌, ◌*ℤ◌, ◌<ℤ◌, filter, length, Contains, None}
use Rattle.std.proofs.lemmas.Int.{ints}
use Rattle.pf_geom.specs.declared.Point.{Point}
use Rattle.pf_geom.specs.Plane.{orient_of}
use Rattle.pf_geom.proofs.Polynomials.{Expression, of, ◌⊖◌, ◌⊗◌, same}
use Rattle.pf_geom.proofs.Orientations.{turn}
use Rattle.pf_model.specs.declared.Tri.{Tri}
use Rattle.pf_model.specs.declared.Op.{Op}
use Rattle.pf_model.specs.declared.Op.TheVariants.{Flip, Bisect, Contract}
use Rattle.pf_model.specs.declared.Entry.{Entry}
use Rattle.pf_model.specs.Mesh.{Undivided, place_of}
use Rattle.pf_model.specs.Conforming.{IsConforming}
use Rattle.pf_model.specs.Applied.{IsFresh, applied, op_applied}
use Rattle.pf_model.specs.Conditions.{first_failing}
use Rattle.pf_model.specs.Replay.{replayed, IsLegal}
use Rattle.pf_model.specs.Sums.{total, scaled, is_left_of, cover_of}
use Rattle.pf_model.proofs.Triangles.{has_edge-from}
use Rattle.pf_model.proofs.Totals.{total-agree}
use Rattle.pf_model.proofs.EdgeSum.{directed_edges_of-from}
use Rattle.pf_model.proofs.ReplayKeeps.{applied_conforms, legal_keeps}
use Rattle.pf_cover_model.specs.Alike.{CoversAlike}
use Rattle.pf_cover_model.specs.Crossings.{one_if, crossing_of, crossings_of, goes_up, IsOffEdges}
use Rattle.pf_cover_model.proofs.Signs.{product-positive}
use Rattle.pf_cover_model.proofs.Straight.{crossing-straight}
use Rattle.pf_cover_model.proofs.Inside.{crossing-triangle}
use Rattle.pf_cover_model.proofs.Weights.{IsWeight, round_in, rounds_of, rounds_of-boundary}
use Rattle.pf_cover_model.proofs.FlipRounds.{flip_keeps_rounds}
use Rattle.pf_cover_model.proofs.BisectRounds.{bisect_keeps_rounds}
use Rattle.pf_cover_model.proofs.ContractRounds.{contract_keeps_rounds}
use Rattle.pf_cover_model.proofs.Replays.{legal_keeps_number}

-- elements that pass, counted as a sum
pub count-total : {X : Type 0} (f : X → Bool) (xs : List X) → pos (length (filter f xs)) ≡ total (λ x. one_if (f x)) xs
count-total f [] = refl
count-total {X} f (x ∷ xs) = go (f x) (count-total f xs)
  where
    go : (b : Bool) → pos (length (filter f xs)) ≡ total (λ x. one_if (f x)) xs → pos (length (cond b (x ∷ filter f xs) (filter f xs))) ≡ one_if b +ℤ total (λ x. one_if (f x)) xs
    go true ih = omega (arith, ints, ih)
    go false ih = omega (arith, ints, ih)

-- the crossing of a path with its ends multiplied by q
abbrev pub crossing_from : Point → ℤ → Point → Point → ℤ
crossing_from p q a b = crossing_of p (scaled q a) (scaled q b)

abbrev scaled_turn : ℤ → Point → Point → Point → Expression
scaled_turn q a b c = (((of q ⊗ of b.x) ⊖ (of q ⊗ of a.x)) ⊗ ((of q ⊗ of c.y) ⊖ (of q ⊗ of a.y))) ⊖ (((of q ⊗ of b.y) ⊖ (of q ⊗ of a.y)) ⊗ ((of q ⊗ of c.x) ⊖ (of q ⊗ of a.x)))

orient_of-scaled : (q : ℤ) (a b c : Point) → orient_of (scaled q a) (scaled q b) (scaled q c) ≡ (q *ℤ q) *ℤ orient_of a b c
orient_of-scaled q a b c = same (scaled_turn q a b c) ((of q ⊗ of q) ⊗ turn a b c) (omega arith)

times_none : (x z : ℤ) → z ≡ pos 0 → x *ℤ z ≡ pos 0
times_none x z e = ap (λ w. x *ℤ w) e ∙ same (of x ⊗ of (pos 0)) (of (pos 0)) (omega arith)

pub crossing_from-weight : (p : Point) (q : ℤ) → IsWeight (crossing_from p q)
crossing_from-weight p q =
    record {
      opposite = λ a b. both (one_if (goes_up p (scaled q a) (scaled q b))) (one_if (goes_up p (scaled q b) (scaled q a)));
      straight = λ a b c flat. crossing-straight p (scaled q a) (scaled q b) (scaled q c) (orient_of-scaled q a b c ∙ times_none (q *ℤ q) (orient_of a b c) flat);
    }
  where
    both : (x y : ℤ) → (x -ℤ y) +ℤ (y -ℤ x) ≡ pos 0
    both x y = omega (arith, ints)

pub crossings_of-rounds : (m : Undivided) (p : Point) (q : ℤ) → IsConforming m → rounds_of (crossing_from p q) m ≡ crossings_of m p q
crossings_of-rounds m p q ok = rounds_of-boundary (crossing_from p q) (crossing_from-weight p q) m ok

pub cover_of-crossings : (m : Undivided) (p : Point) (q : ℤ) → IsConforming m → pos 0 <ℤ q → IsOffEdges m p q → pos (cover_of m p q) ≡ crossings_of m p q
cover_of-crossings m p q ok above off = count-total inside m.tris ∙ (total-agree (λ t. one_if (inside t)) (round_in (crossing_from p q) m) m.tris each ∙ crossings_of-rounds m p q ok)
  where
    inside : Tri → Bool
    inside t = is_left_of m q p t.a t.b && (is_left_of m q p t.b t.c && is_left_of m q p t.c t.a)

    at : ℕ → Point
    at n = scaled q (place_of m n)

    each : (t : Tri) → Contains m.tris t → one_if (inside t) ≡ round_in (crossing_from p q) m t
    each t h =
        sym (crossing-triangle p (at t.a) (at t.b) (at t.c)
        (subst (λ z. pos 0 <ℤ z) (sym (orient_of-scaled q (place_of m t.a) (place_of m t.b) (place_of m t.c))) (product-positive (q *ℤ q) (orient_of (place_of m t.a) (place_of m t.b) (place_of m t.c)) (product-positive q q above above) (ok.positive t h)))
        (off record { from = t.a; to = t.b } (directed_edges_of-from m.tris record { from = t.a; to = t.b } t h (has_edge-from t.a t.b t record { is = inl (refl, refl) })))
        (off record { from = t.b; to = t.c } (directed_edges_of-from m.tris record { from = t.b; to = t.c } t h (has_edge-from t.b t.c t record { is = inr (inl (refl, refl)) })))
        (off record { from = t.c; to = t.a } (directed_edges_of-from m.tris record { from = t.c; to = t.a } t h (has_edge-from t.c t.a t record { is = inr (inr (refl, refl)) }))))

-- an operation that passes keeps the sum of a weight over all triangles
pub op_rounds : (w : Point → Point → ℤ) → IsWeight w → (m : Undivided) (chunk ticket : ℕ) (op : Op) → IsConforming m → IsFresh m ticket → first_failing m chunk op ≡ None → rounds_of w (op_applied m ticket op) ≡ rounds_of w m
op_rounds w weight m chunk ticket (Flip a b) ok fresh h = flip_keeps_rounds w weight m chunk a b ok h
op_rounds w weight m chunk ticket (Bisect a b) ok fresh h = bisect_keeps_rounds w weight m chunk a b (m.first_new + ticket) ok fresh h
op_rounds w weight m chunk ticket (Contract u v) ok fresh h = contract_keeps_rounds w weight m chunk u v ok h

pub applied_crossings : (m : Undivided) (e : Entry) (p : Point) (q : ℤ) → IsConforming m → IsFresh m e.ticket → first_failing m e.chunk e.op ≡ None → crossings_of (applied m e) p q ≡ crossings_of m p q
applied_crossings m e p q ok fresh h =
    sym (crossings_of-rounds (applied m e) p q (applied_conforms m e.chunk e.ticket e.op ok fresh h))
    ∙ (op_rounds (crossing_from p q) (crossing_from-weight p q) m e.chunk e.ticket e.op ok fresh h ∙ crossings_of-rounds m p q ok)

pub replayed_crossings : (m : Undivided) (es : List Entry) (p : Point) (q : ℤ) → IsConforming m → IsFresh m 0 → IsLegal m es → crossings_of (replayed m es) p q ≡ crossings_of m p q
replayed_crossings m es p q ok fresh legal = legal_keeps_number (λ k. crossings_of k p q) (λ k e ok' fresh' h. applied_crossings k e p q ok' fresh' h) 0 m es ok fresh legal

same_count : (n k : ℕ) → pos n ≡ pos k → n ≡ k
same_count n k e = omega (arith, ints, e)

-- meshes with one crossing number have one cover
pub cover_of-same : (m r : Undivided) (p : Point) (q : ℤ) → IsConforming m → IsConforming r → crossings_of r p q ≡ crossings_of m p q → pos 0 <ℤ q → IsOffEdges m p q → IsOffEdges r p q → cover_of r p q ≡ cover_of m p q
cover_of-same m r p q ok ok' e above off off' = same_count (cover_of r p q) (cover_of m p q) (cover_of-crossings r p q ok' above off' ∙ (e ∙ sym (cover_of-crossings m p q ok above off)))

pub applied_cover : (m : Undivided) (e : Entry) → IsConforming m → IsFresh m e.ticket → first_failing m e.chunk e.op ≡ None → CoversAlike m (applied m e)
applied_cover m e ok fresh h p q above off off' = cover_of-same m (applied m e) p q ok (applied_conforms m e.chunk e.ticket e.op ok fresh h) (applied_crossings m e p q ok fresh h) above off off'

pub replayed_cover : (m : Undivided) (es : List Entry) → IsConforming m → IsFresh m 0 → IsLegal m es → CoversAlike m (replayed m es)
replayed_cover m es ok fresh legal p q above off off' = cover_of-same m (replayed m es) p q ok (legal_keeps m es ok fresh legal).conforming (replayed_crossings m es p q ok fresh legal) above off off'
