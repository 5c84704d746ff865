-- Walks that are known to end: each move keeps the end, and what is noted of it.
use Rattle.std.proofs.Common.{◌≡◌, ℕ, zero, suc, ◌*◌, refl, sym, ◌∙◌, ap, subst, Bool, true, false, arith}
use Rattle.std.specs.Prelude.{◌≤◌, Option, Some, None, is_some, length, min, max}
use Rattle.pf_model.specs.Mesh.{Undivided, side_of, is_edge}
use Rattle.pf_model.specs.Lengths.{Edge, edge_of}
use Rattle.pf_model.specs.Wishes.{longer_on, either_of, next_longer, walked, terminal_of}
use Rattle.pf_model.proofs.ReadClauses.{or-false, is_some-none}
use Rattle.pf_model.proofs.Walks.{walk_ends_at_terminal}
use Rattle.pf_rest.specs.Rest.{IsFinite}
use Rattle.pf_rest.proofs.WalkSteps.{walked-ends}

-- one move more changes nothing where the walk has ended
walked-more : (n : ℕ) (m : Undivided) (e : Edge) → next_longer m (walked n m e) ≡ None → walked (suc n) m e ≡ walked n m e
walked-more zero m e h = walked-ends 1 m e h
walked-more (suc n) m e h = go (next_longer m e) h (λ f k. walked-more n m f k)
  where
    step : ℕ → Option Edge → Edge
    step k None = e
    step k (Some f) = walked k m f

    go : (o : Option Edge) → next_longer m (step n o) ≡ None → ((f : Edge) → next_longer m (walked n m f) ≡ None → walked (suc n) m f ≡ walked n m f) → step (suc n) o ≡ step n o
    go None k ih = refl
    go (Some f) k ih = ih f k

-- a move keeps the end
pub terminal-on : (m : Undivided) (e f : Edge) → IsFinite m e → next_longer m e ≡ Some f → terminal_of m f ≡ terminal_of m e
terminal-on m e f finite h =
    let n : ℕ = 3 * length m.tris in
    sym (ap (λ o. elim o [ None ↦ e | Some g ↦ walked n m g ]) h) ∙ walked-more n m e finite

-- the same end is an end too
pub finite-same : (m : Undivided) (e f : Edge) → IsFinite m e → terminal_of m f ≡ terminal_of m e → IsFinite m f
finite-same m e f finite h = ap (next_longer m) h ∙ finite

-- the walk from an edge whose lower name stands first ends
finite-sorted : (m : Undivided) (e : Edge) → edge_of e.lo e.hi ≡ e → IsFinite m e
finite-sorted m e sorted = go (is_edge m.tris e.lo e.hi) refl
  where
    stays : is_edge m.tris e.lo e.hi ≡ false → next_longer m e ≡ None
    stays n =
        let sides = or-false (is_some (side_of m.tris e.lo e.hi)) (is_some (side_of m.tris e.hi e.lo)) n in
        let left = is_some-none (side_of m.tris e.lo e.hi) sides.0 in
        let right = is_some-none (side_of m.tris e.hi e.lo) sides.1 in
        λ i. either_of (longer_on m e (left i)) (longer_on m e (right i))

    go : (b : Bool) → is_edge m.tris e.lo e.hi ≡ b → IsFinite m e
    go true t = subst (λ w. IsFinite m w) sorted (walk_ends_at_terminal m e.lo e.hi t).ends
    go false t = let s = stays t in ap (next_longer m) (walked-ends (3 * length m.tris) m e s) ∙ s

-- the walk from an edge whose lower name stands first ends
pub finite-listed : (m : Undivided) (e : Edge) → e.lo ≤ e.hi → IsFinite m e
finite-listed m e l = finite-sorted m e (λ i. record { lo = low i; hi = high i })
  where
    low : min e.lo e.hi ≡ e.lo
    low = omega arith

    high : max e.lo e.hi ≡ e.hi
    high = omega arith
