-- The walk to longer edges as a loop: how many moves are left of it.
use Rattle.std.proofs.Common.{◌≡◌, ℕ, zero, suc, ◌*◌, ◌<◌, refl, sym, ◌∙◌, ap, subst, true, false, arith}
use Rattle.std.specs.Prelude.{Option, Some, None, length}
use Rattle.pf_model.specs.Mesh.{Undivided, is_edge}
use Rattle.pf_model.specs.Lengths.{Edge, edge_of}
use Rattle.pf_model.specs.Wishes.{next_longer, walked, terminal_of}
use Rattle.pf_rest.proofs.WalkEnds.{terminal-on, finite-listed}
use Rattle.pf_rest.proofs.WalkSteps.{walked-ends}
use Rattle.pf_finish.specs.declared.edges.EdgeSeen.{EdgeSeen}
use Rattle.pf_finish.specs.Seen.{IsSeenEdge, seen_longer}
use Rattle.pf_finish.proofs.Listed.{IsSorted, edge_of-same, next-sorted, end-edge, no-walk}

-- how many moves the walk makes, of at most so many
abbrev pub moves : ℕ → Undivided → Edge → ℕ
moves zero m e = 0
moves (suc most) m e = elim (next_longer m e) [ None ↦ 0 | Some f ↦ suc (moves most m f) ]

abbrev pub moves_left : Undivided → Edge → ℕ
moves_left m e = moves (3 * length m.tris) m e

-- one more changes nothing where the walk has ended
moves-more : (n : ℕ) (m : Undivided) (e : Edge) → next_longer m (walked n m e) ≡ None → moves (suc n) m e ≡ moves n m e
moves-more zero m e h = ap (λ (o : Option Edge). elim o [ None ↦ 0 | Some f ↦ suc (moves zero m f) ]) h
moves-more (suc n) m e h = go (next_longer m e) h (λ f k. moves-more n m f k)
  where
    step : ℕ → Option Edge → ℕ
    step k None = 0
    step k (Some f) = suc (moves k m f)

    end : Option Edge → Edge
    end None = e
    end (Some f) = walked n m f

    go : (o : Option Edge) → next_longer m (end o) ≡ None → ((f : Edge) → next_longer m (walked n m f) ≡ None → moves (suc n) m f ≡ moves n m f) → step (suc n) o ≡ step n o
    go None k ih = refl
    go (Some f) k ih = ap suc (ih f k)

moves-fall : (n : ℕ) (m : Undivided) (e f : Edge) → next_longer m (walked n m e) ≡ None → next_longer m e ≡ Some f → moves n m f < moves n m e
moves-fall zero m e f h k = absurd (let z : None ≡ Some f = sym h ∙ k in cc)
moves-fall (suc n) m e f h k =
    let on : moves (suc n) m e ≡ suc (moves n m f) = ap (λ (o : Option Edge). elim o [ None ↦ 0 | Some g ↦ suc (moves n m g) ]) k in
    let ends : next_longer m (walked n m f) ≡ None = sym (ap (λ (o : Option Edge). next_longer m (elim o [ None ↦ e | Some g ↦ walked n m g ])) k) ∙ h in
    let same = moves-more n m f ends in
    omega (arith, on, same)

-- where the loop stands: at an edge of the mesh, from which the walk ends at the same one
pub record IsAt (m : Undivided) (start at : Edge) (look : EdgeSeen) : Type 0 where
  pub sorted : IsSorted at
  pub seen : IsSeenEdge m at look
  pub end : terminal_of m at ≡ terminal_of m start

-- a move leaves fewer
pub at-falls : (m : Undivided) (start e f : Edge) (look : EdgeSeen) → IsAt m start e look → seen_longer look ≡ Some f → moves_left m f < moves_left m e
at-falls m start e f look a h = moves-fall (3 * length m.tris) m e f (finite-listed m e a.sorted) (sym a.seen.longer ∙ h)

-- it goes to an edge with the lower name first
pub at-sorted : (m : Undivided) (start e f : Edge) (look : EdgeSeen) → IsAt m start e look → seen_longer look ≡ Some f → edge_of f.lo f.hi ≡ f
at-sorted m start e f look a h = edge_of-same f (next-sorted m e f (sym a.seen.longer ∙ h))

-- of the mesh
pub at-edge : (m : Undivided) (start e f : Edge) (look : EdgeSeen) → IsAt m start e look → seen_longer look ≡ Some f → is_edge m.tris (edge_of f.lo f.hi).lo (edge_of f.lo f.hi).hi ≡ false → ⊥
at-edge m start e f look a h none =
    let next : next_longer m e ≡ Some f = sym a.seen.longer ∙ h in
    let sorted = next-sorted m e f next in
    let off : is_edge m.tris f.lo f.hi ≡ false = subst (λ (w : Edge). is_edge m.tris w.lo w.hi ≡ false) (edge_of-same f sorted) none in
    let same : terminal_of m f ≡ terminal_of m e = terminal-on m e f (finite-listed m e a.sorted) next in
    let ended : terminal_of m f ≡ f = walked-ends (3 * length m.tris) m f (no-walk m f off) in
    let on : is_edge m.tris f.lo f.hi ≡ true = subst (λ (w : Edge). is_edge m.tris w.lo w.hi ≡ true) (sym same ∙ ended) (end-edge m e a.sorted a.seen.edge) in
    absurd (let z : true ≡ false = sym on ∙ off in cc)

-- the walk from there ends where it began to end
pub at-next : (m : Undivided) (start e f : Edge) (look found : EdgeSeen) → IsAt m start e look → seen_longer look ≡ Some f → IsSeenEdge m (edge_of f.lo f.hi) found → IsAt m start f found
at-next m start e f look found a h seen =
    let next : next_longer m e ≡ Some f = sym a.seen.longer ∙ h in
    record {
      sorted = next-sorted m e f next;
      seen = subst (λ (w : Edge). IsSeenEdge m w found) (edge_of-same f (next-sorted m e f next)) seen;
      end = terminal-on m e f (finite-listed m e a.sorted) next ∙ a.end;
    }

-- where it goes no further it ends
pub at-end : (m : Undivided) (start e : Edge) (look : EdgeSeen) → IsAt m start e look → seen_longer look ≡ None → e ≡ terminal_of m start
at-end m start e look a h = sym (walked-ends (3 * length m.tris) m e (sym a.seen.longer ∙ h)) ∙ a.end
