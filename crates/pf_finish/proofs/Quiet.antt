-- Where each node was looked at and nothing was done, no line passes.
use Rattle.std.proofs.Common.{◌≡◌, ℕ, ◌+◌, ◌<◌, ◌≤◌, List, refl, sym, ◌∙◌, ap, subst, Bool, true, false, ◌||◌, ◌&&◌, ◌⊎◌, inl, inr, length, get_or, arith}
use Rattle.std.specs.Prelude.{Contains, Some, not, ◌==◌, nat_lt}
use Rattle.std.specs.List.{list_any}
use Rattle.std.proofs.Props.{props}
use Rattle.std.proofs.Math.Logic.{∥∥₁_elim}
use Rattle.std.proofs.lemmas.Bool.Decides.{nat_tests}
use Rattle.std.proofs.lemmas.List.{get_or_default}
use Rattle.pf_model.specs.declared.Band.{Band}
use Rattle.pf_model.specs.declared.Entry.{Entry}
use Rattle.pf_model.specs.Mesh.{Undivided, is_edge, place_of}
use Rattle.pf_model.specs.Lengths.{Edge, edge_of}
use Rattle.pf_model.specs.Sums.{edges_of}
use Rattle.pf_model.specs.Stars.{Star, star_of, is_neighbour, spokes_of}
use Rattle.pf_model.specs.Conforming.{IsLive}
use Rattle.pf_model.proofs.Kept.{any-from, any-means}
use Rattle.pf_model.proofs.Replays.{edge-live}
use Rattle.pf_star_model.specs.Lent.{Held}
use Rattle.pf_core_model.specs.Core.{Opening}
use Rattle.pf_holder.specs.Facts.{mesh_alone, KnowsAll}
use Rattle.pf_finish.specs.Passing.{has_passing}
use Rattle.pf_finish.specs.Seen.{IsSettled, IsSettledEdge}
use Rattle.pf_finish.specs.Wished.{is_wished, HasWishes}
use Rattle.pf_finish.specs.Covers.{is_covered, Covers, IsSettledAt}
use Rattle.pf_finish.proofs.Listed.{edge_of-same, member-edge}
use Rattle.pf_finish.proofs.Lines.{all-settled}
use Rattle.pf_finish.proofs.Tried.{live_star}
use Rattle.pf_finish.proofs.Sights.{AreLaws, is_edge-back, unwished_settled}

-- what holds of each place of a list holds of each member
pub each-member : (P : ℕ → Type 0) (xs : List ℕ) → ((k d : ℕ) → k < length xs → P (get_or xs k d)) → (x : ℕ) → Contains xs x → P x
each-member P xs all x c = subst P c.2 (all c.0 x c.1)

-- the same place by place, with one place more
pub each-more : (P : ℕ → Type 0) (xs : List ℕ) (i : ℕ) → i < length xs → P (get_or xs i 0) → ((k d : ℕ) → k < i → P (get_or xs k d)) → (k d : ℕ) → k < i + 1 → P (get_or xs k d)
each-more P xs i within now old k d l = go (cases k i l)
  where
    cases : (k i : ℕ) → k < i + 1 → (k < i) ⊎ (k ≡ i)
    cases k i l = grind arith

    go : (k < i) ⊎ (k ≡ i) → P (get_or xs k d)
    go (inl low) = old k d low
    go (inr same) = subst P (get_or_default xs i 0 d within ∙ ap (λ (j : ℕ). get_or xs j d) (sym same)) now

-- the same for names one after another
pub name-more : (P : ℕ → Type 0) (first n : ℕ) → P n → ((k : ℕ) → first ≤ k → k < n → P k) → (k : ℕ) → first ≤ k → k < n + 1 → P k
name-more P first n now old k l u = go (cases k n u)
  where
    cases : (k n : ℕ) → k < n + 1 → (k < n) ⊎ (k ≡ n)
    cases k n l = grind arith

    go : (k < n) ⊎ (k ≡ n) → P k
    go (inl low) = old k l low
    go (inr same) = subst P (sym same) now

-- the edges at a node are settled: those that may have a line, by what was done, and the others, by the star
pub node_settled : AreLaws → (o : Opening) (ps : List Held) (rich : ℕ) (entries : List Entry) (n : ℕ) (found : List ℕ) → ∥ KnowsAll o ps rich entries ∥₁
    → ((s : Star) → star_of (mesh_alone o entries) n ≡ Some s → HasWishes o.mesh.bands s found) → ((x : ℕ) → Contains found x → IsSettled (mesh_alone o entries) (edge_of n x)) → IsSettledAt (mesh_alone o entries) n
node_settled laws o ps rich entries n found k wishes done x up edge =
    record {
      long = λ t p. ∥∥₁_elim k (hlevel props) (λ (z : KnowsAll o ps rich entries). (body z).long t p);
      short = λ t. (
        (λ p. ∥∥₁_elim k (hlevel props) (λ (z : KnowsAll o ps rich entries). ((body z).short t).0 p)),
        (λ p. ∥∥₁_elim k (hlevel props) (λ (z : KnowsAll o ps rich entries). ((body z).short t).1 p)),
      );
      flip = λ p. ∥∥₁_elim k (hlevel props) (λ (z : KnowsAll o ps rich entries). (body z).flip p);
    }
  where
    at : (m : Undivided) → m ≡ mesh_alone o entries → Star
    at m e = record { node = n; at = place_of m n; spokes = spokes_of m n }

    body : KnowsAll o ps rich entries → IsSettledEdge (mesh_alone o entries) (edge_of n x)
    body z =
        let m : Undivided = mesh_alone o entries in
        let star : Star = at m refl in
        let live = edge-live m z.seen.conforming n x (is_edge-back m n x edge) in
        let h : star_of m n ≡ Some star = live_star m n live.0 in
        let near : is_neighbour x star.spokes ≡ true = laws.edges m n x star z.seen.conforming h ∙ is_edge-back m n x edge in
        go z star h up near (is_wished m.bands star x) refl
      where
        go : KnowsAll o ps rich entries → (star : Star) → star_of (mesh_alone o entries) n ≡ Some star → star.node ≤ x → is_neighbour x star.spokes ≡ true → (b : Bool) → is_wished (mesh_alone o entries).bands star x ≡ b → IsSettledEdge (mesh_alone o entries) (edge_of n x)
        go z star h low near true e = done x (wishes star h x low near (ap (λ (l : List Band). is_wished l star x) (sym z.seen.banded) ∙ e)) edge
        go z star h low near false e = unwished_settled laws (mesh_alone o entries) n x star z.seen.conforming h near e

-- all names were looked at
pub all-quiet : (o : Opening) (ps : List Held) (rich : ℕ) (entries : List Entry) (live : List ℕ) (end : ℕ) → ∥ KnowsAll o ps rich entries ∥₁ → Covers o live entries end
    → ((n : ℕ) → Contains live n → IsSettledAt (mesh_alone o entries) n) → ((n : ℕ) → o.mesh.first_new ≤ n → n < end → IsSettledAt (mesh_alone o entries) n) → has_passing (mesh_alone o entries) ≡ false
all-quiet o ps rich entries live end k c given made = ∥∥₁_elim k (hlevel props) (λ (z : KnowsAll o ps rich entries). all-settled (mesh_alone o entries) (each z))
  where
    is_same : (a b : ℕ) → (a == b) ≡ true → a ≡ b
    is_same a b e = grind (arith, nat_tests)

    between : (a b c : ℕ) → (not (nat_lt b a) && nat_lt b c) ≡ true → (a ≤ b) × (b < c)
    between a b c e = (low a b c e, high a b c e)
      where
        low : (a b c : ℕ) → (not (nat_lt b a) && nat_lt b c) ≡ true → a ≤ b
        low a b c e = grind (arith, nat_tests)

        high : (a b c : ℕ) → (not (nat_lt b a) && nat_lt b c) ≡ true → b < c
        high a b c e = grind (arith, nat_tests)

    node : (n : ℕ) → is_covered o.mesh.first_new live end n ≡ true → IsSettledAt (mesh_alone o entries) n
    node n h = go (list_any (λ k. k == n) live) refl h
      where
        go : (b : Bool) → list_any (λ k. k == n) live ≡ b → (b || (not (nat_lt n o.mesh.first_new) && nat_lt n end)) ≡ true → IsSettledAt (mesh_alone o entries) n
        go true e h = let f = any-means (λ k. k == n) live e in given n (subst (λ (w : ℕ). Contains live w) (is_same f.0 n f.2) f.1)
        go false e h = let r = between o.mesh.first_new n end h in made n r.0 r.1

    each : KnowsAll o ps rich entries → (e : Edge) → Contains (edges_of (mesh_alone o entries)) e → IsSettledEdge (mesh_alone o entries) e
    each z e h =
        let m : Undivided = mesh_alone o entries in
        let r = member-edge m e h in
        let live = edge-live m z.seen.conforming e.lo e.hi r.0 in
        let same = edge_of-same e r.1 in
        subst (λ (w : Edge). IsSettledEdge m w) same (node e.lo (c.all e.lo live.0) e.hi r.1 (subst (λ (w : Edge). is_edge m.tris w.lo w.hi ≡ true) (sym same) r.0))

-- the names that are given are looked at
pub covers-given : (o : Opening) (live : List ℕ) (entries : List Entry) → ((n : ℕ) → IsLive (mesh_alone o entries) n → Contains live n) → Covers o live entries o.mesh.first_new
covers-given o live entries all = record { within = omega arith; all = λ n l. first (list_any (λ k. k == n) live) _ (any-from (λ k. k == n) n live (all n l) (itself n)) }
  where
    itself : (a : ℕ) → (a == a) ≡ true
    itself a = grind (arith, nat_tests)

    first : (a b : Bool) → a ≡ true → (a || b) ≡ true
    first a b h = ap (λ w. w || b) h
