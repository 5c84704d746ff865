-- What is seen of an edge in the star of an end is what the mesh has.
use Rattle.std.proofs.Common.{◌≡◌, ℕ, ◌≤◌, List, [], ◌∷◌, refl, sym, ◌∙◌, ap, subst, Bool, true, false, ◌||◌, ◌⊎◌, inl, inr, arith}
use Rattle.std.specs.Prelude.{Option, Some, None, IfSome, is_some, is_none, not, min, max}
use Rattle.std.proofs.Props.{props}
use Rattle.std.proofs.Math.Logic.{∥∥₁_elim}
use Rattle.pf_model.specs.declared.Band.{Band}
use Rattle.pf_model.specs.declared.Entry.{Entry}
use Rattle.pf_model.specs.Mesh.{Undivided, side_of, is_edge}
use Rattle.pf_model.specs.Lengths.{edge_of, is_long}
use Rattle.pf_model.specs.Conforming.{IsConforming}
use Rattle.pf_model.specs.Stars.{Star, star_of, is_neighbour}
use Rattle.pf_model.specs.Wishes.{acting_chunk, is_short, next_longer}
use Rattle.pf_model.proofs.ReadClauses.{is_edge-sorted}
use Rattle.pf_model.proofs.Replays.{edge-live}
use Rattle.pf_star_model.specs.Lent.{Held}
use Rattle.pf_core_model.specs.Lists.{In as ListIn}
use Rattle.pf_core_model.specs.Core.{Opening}
use Rattle.pf_core_model.proofs.Seats.{star_named}
use Rattle.pf_holder.specs.Facts.{won_pair, mesh_alone, KnowsAll, IsSeen}
use Rattle.pf_finish.specs.declared.edges.EdgeSeen.{EdgeSeen}
use Rattle.pf_wishes.specs.Looks.{is_long_shown, is_short_shown, is_shorter_shown}
use Rattle.pf_wishes.specs.Laws.{IsOfMesh, LookIsOfMesh, NeighboursHaveEdges, NoShorterNoFlip}
use Rattle.pf_finish.specs.Seen.{IsSeenIn, IsSeenEdge, LooksAt, IsFlipSettled, IsSettled, IsSettledEdge}
use Rattle.pf_finish.specs.Wished.{is_wished, HasWishes}
use Rattle.pf_finish.proofs.Tried.{live_star, live_clash}

-- the laws of what a star shows
pub record AreLaws : Type 0 where
  pub of_mesh : LookIsOfMesh
  pub edges : NeighboursHaveEdges
  pub no_flip : NoShorterNoFlip

is_edge-turned : (m : Undivided) (a b : ℕ) → is_edge m.tris a b ≡ false → is_edge m.tris (edge_of a b).lo (edge_of a b).hi ≡ false
is_edge-turned m a b h = go (order a b)
  where
    order : (a b : ℕ) → ((min a b ≡ a) × (max a b ≡ b)) ⊎ ((min a b ≡ b) × (max a b ≡ a))
    order a b = pick a b (cases a b)
      where
        cases : (a b : ℕ) → (a ≤ b) ⊎ (b ≤ a)
        cases a b = grind arith

        pick : (a b : ℕ) → (a ≤ b) ⊎ (b ≤ a) → ((min a b ≡ a) × (max a b ≡ b)) ⊎ ((min a b ≡ b) × (max a b ≡ a))
        pick a b (inl l) = inl (omega (arith, l), omega (arith, l))
        pick a b (inr l) = inr (omega (arith, l), omega (arith, l))

    swap : (p q : Bool) → (p || q) ≡ false → (q || p) ≡ false
    swap true q e = absurd (let k : true ≡ false = e in cc)
    swap false true e = absurd (let k : true ≡ false = e in cc)
    swap false false e = refl

    go : ((min a b ≡ a) × (max a b ≡ b)) ⊎ ((min a b ≡ b) × (max a b ≡ a)) → is_edge m.tris (min a b) (max a b) ≡ false
    go (inl e) = (λ i. is_edge m.tris (e.0 i) (e.1 i)) ∙ h
    go (inr e) = (λ i. is_edge m.tris (e.0 i) (e.1 i)) ∙ swap (is_some (side_of m.tris a b)) (is_some (side_of m.tris b a)) h

pub is_edge-back : (m : Undivided) (a b : ℕ) → is_edge m.tris (edge_of a b).lo (edge_of a b).hi ≡ true → is_edge m.tris a b ≡ true
is_edge-back m a b h = go (is_edge m.tris a b) refl
  where
    go : (t : Bool) → is_edge m.tris a b ≡ t → is_edge m.tris a b ≡ true
    go true e = e
    go false e = absurd (let k : false ≡ true = sym (is_edge-turned m a b e) ∙ h in cc)

-- what the star of the node shows of the edge to x
pub star_sight : AreLaws → (m : Undivided) (bands : List Band) (a b : ℕ) (s : Star) (o : Option EdgeSeen) → IsConforming m → m.bands ≡ bands → star_of m a ≡ Some s → is_none o ≡ not (is_neighbour b s.spokes) → IfSome o (IsSeenIn bands s b) → LooksAt m (edge_of a b) o
star_sight laws m bands a b s None ok e h none is = is_edge-turned m a b (sym (laws.edges m a b s ok h) ∙ flipped (is_neighbour b s.spokes) none)
  where
    flipped : (t : Bool) → true ≡ not t → t ≡ false
    flipped true k = absurd (let z : true ≡ false = k in cc)
    flipped false k = refl
star_sight laws m bands a b s (Some l) ok e h none is =
    let near : is_neighbour b s.spokes ≡ true = flipped (is_neighbour b s.spokes) none in
    let w : IsOfMesh m s b = laws.of_mesh m a b s ok h near in
    let name : s.node ≡ a = star_named m a s h in
    record {
      edge = is_edge-sorted m.tris a b (sym (laws.edges m a b s ok h) ∙ near);
      chunk = is.chunk ∙ w.chunk ∙ ap (λ (k : ℕ). acting_chunk m (edge_of k b)) name;
      long = is.long ∙ ap (λ (x : List Band). is_long_shown x s b) (sym e) ∙ w.long ∙ ap (λ (k : ℕ). is_long m (min k b) (max k b)) name;
      short = is.short ∙ ap (λ (x : List Band). is_short_shown x s b) (sym e) ∙ w.short ∙ ap (λ (k : ℕ). is_short m (min k b) (max k b)) name;
      longer = is.longer ∙ w.longer ∙ ap (λ (k : ℕ). next_longer m (edge_of k b)) name;
      flip = λ f. laws.no_flip m a b (acting_chunk m (edge_of a b)) s ok h near (sym is.shorter_flip ∙ f);
    }
  where
    flipped : (t : Bool) → false ≡ not t → t ≡ true
    flipped true k = refl
    flipped false k = absurd (let z : false ≡ true = k in cc)

-- the star that is won is the star of the node
pub won_star : (o : Opening) (ps : List Held) (rich : ℕ) (entries : List Entry) (a : ℕ) (s : Star) → ∥ KnowsAll o ps rich entries ∥₁ → ps ≡ won_pair a s ∷ [] → star_of (mesh_alone o entries) a ≡ Some s
won_star o ps rich entries a s k e = ∥∥₁_elim k (hlevel props) (λ (z : KnowsAll o ps rich entries). sym (z.seen.shown (won_pair a s) (subst (λ (l : List Held). ListIn (won_pair a s) l) (sym e) (inl refl))))

-- what is seen in the star that is won
pub won_sight : (o : Opening) (ps : List Held) (rich : ℕ) (entries : List Entry) (a b : ℕ) (s : Star) (l : Option EdgeSeen) → ∥ KnowsAll o ps rich entries ∥₁ → ps ≡ won_pair a s ∷ [] → (IsConforming (mesh_alone o entries) → (mesh_alone o entries).bands ≡ o.mesh.bands → star_of (mesh_alone o entries) a ≡ Some s → LooksAt (mesh_alone o entries) (edge_of a b) l) → LooksAt (mesh_alone o entries) (edge_of a b) l
won_sight o ps rich entries a b s None k e f = ∥∥₁_elim k (hlevel props) (λ (z : KnowsAll o ps rich entries). f z.seen.conforming z.seen.banded (won_star o ps rich entries a s k e))
won_sight o ps rich entries a b s (Some l) k e f =
    record {
      edge = ∥∥₁_elim k (hlevel props) (λ (z : KnowsAll o ps rich entries). (f z.seen.conforming z.seen.banded (won_star o ps rich entries a s k e)).edge);
      chunk = ∥∥₁_elim k (hlevel props) (λ (z : KnowsAll o ps rich entries). (f z.seen.conforming z.seen.banded (won_star o ps rich entries a s k e)).chunk);
      long = ∥∥₁_elim k (hlevel props) (λ (z : KnowsAll o ps rich entries). (f z.seen.conforming z.seen.banded (won_star o ps rich entries a s k e)).long);
      short = ∥∥₁_elim k (hlevel props) (λ (z : KnowsAll o ps rich entries). (f z.seen.conforming z.seen.banded (won_star o ps rich entries a s k e)).short);
      longer = ∥∥₁_elim k (hlevel props) (λ (z : KnowsAll o ps rich entries). (f z.seen.conforming z.seen.banded (won_star o ps rich entries a s k e)).longer);
      flip = λ q p. ∥∥₁_elim k (hlevel props) (λ (z : KnowsAll o ps rich entries). (f z.seen.conforming z.seen.banded (won_star o ps rich entries a s k e)).flip q p);
    }

-- where the node isn't live, there is no edge
pub no_star_sight : (o : Opening) (ps : List Held) (rich : ℕ) (entries : List Entry) (a b : ℕ) → ∥ KnowsAll o ps rich entries ∥₁ → star_of (mesh_alone o entries) a ≡ None → LooksAt (mesh_alone o entries) (edge_of a b) None
no_star_sight o ps rich entries a b k none = go (is_edge (mesh_alone o entries).tris (edge_of a b).lo (edge_of a b).hi) refl
  where
    go : (t : Bool) → is_edge (mesh_alone o entries).tris (edge_of a b).lo (edge_of a b).hi ≡ t → is_edge (mesh_alone o entries).tris (edge_of a b).lo (edge_of a b).hi ≡ false
    go false e = e
    go true e = ∥∥₁_elim k (hlevel props) (λ (z : KnowsAll o ps rich entries). absurd (live_clash (mesh_alone o entries) a (edge-live (mesh_alone o entries) z.seen.conforming a b (is_edge-back (mesh_alone o entries) a b e)).0 none))

-- a node's edge that isn't among its wishes is settled
pub unwished_settled : AreLaws → (m : Undivided) (n x : ℕ) (s : Star) → IsConforming m → star_of m n ≡ Some s → is_neighbour x s.spokes ≡ true → is_wished m.bands s x ≡ false → IsSettledEdge m (edge_of n x)
unwished_settled laws m n x s ok h near none =
    let w : IsOfMesh m s x = laws.of_mesh m n x s ok h near in
    let name : s.node ≡ n = star_named m n s h in
    let p = parts (is_long_shown m.bands s x) (is_short_shown m.bands s x) (is_shorter_shown s x) none in
    record {
      long = λ t. absurd (let k : false ≡ true = sym p.0 ∙ w.long ∙ ap (λ (k : ℕ). is_long m (min k x) (max k x)) name ∙ t in cc);
      short = λ t. absurd (let k : false ≡ true = sym p.1 ∙ w.short ∙ ap (λ (k : ℕ). is_short m (min k x) (max k x)) name ∙ t in cc);
      flip = laws.no_flip m n x (acting_chunk m (edge_of n x)) s ok h near p.2;
    }
  where
    parts : (a b c : Bool) → (a || (b || c)) ≡ false → (a ≡ false) × (b ≡ false) × (c ≡ false)
    parts true b c e = absurd (let k : true ≡ false = e in cc)
    parts false true c e = absurd (let k : true ≡ false = e in cc)
    parts false false true e = absurd (let k : true ≡ false = e in cc)
    parts false false false e = (refl, refl, refl)
