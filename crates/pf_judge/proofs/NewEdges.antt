-- Which edges a contraction makes anew, once no neighbour of the node that goes is one of v but the apices of the edge.
-- Assumes `IsConforming m` where it speaks of neighbours.
use Rattle.std.proofs.Common.{◌≡◌, ℕ, ◌+◌, ◌<◌, List, ◌∷◌, drop, length, filter, refl, sym, ◌∙◌, ap, Bool, true, false, cond, not, ◌&&◌, ◌||◌, ◌==◌, ◌⊎◌, inl, inr, arith, Option, Some, None}
use Rattle.std.specs.Prelude.{fold, is_some, slice_index_or}
use Rattle.std.proofs.lemmas.List.{drop_more}
use Rattle.std.proofs.lemmas.List.Elements.{Contains-get_or}
use Rattle.std.proofs.lemmas.Bool.Decides.{nat_tests}
use Rattle.pf_model.specs.declared.Spoke.{Spoke}
use Rattle.pf_model.specs.Mesh.{Undivided, side_of, tri_of, has_edge}
use Rattle.pf_model.specs.declared.Side.{Side}
use Rattle.pf_model.specs.Lengths.{is_long}
use Rattle.pf_model.specs.Conforming.{IsConforming}
use Rattle.pf_model.specs.Stars.{spokes_of, is_neighbour}
use Rattle.pf_model.specs.Rows.{is_apex, lesser, least_that, is_too_long}
use Rattle.pf_model.proofs.ContractClauses.{least_that-none}
use Rattle.pf_model.proofs.EdgeSum.{conforming-sound}
use Rattle.pf_model.proofs.Kept.{side_of-found}
use Rattle.pf_model.proofs.Triangles.{side_of-some, tri_of-apex, tri_of-edge_two, tri_of-edge_three}
use Rattle.pf_rules.specs.Contract.{is_link_at}
use Rattle.pf_rules.proofs.ContractReads.{neighbour-edge}

or-cases : (a b : Bool) → (a || b) ≡ true → (a ≡ true) ⊎ (b ≡ true)
or-cases true b h = inl refl
or-cases false b h = inr h

or-left : (a b : Bool) → a ≡ true → (a || b) ≡ true
or-left true b e = refl
or-left false b e = absurd (let k : false ≡ true = e in cc)

or-right : (a b : Bool) → b ≡ true → (a || b) ≡ true
or-right true b e = refl
or-right false b e = e

and-false : (a : Bool) → (a && false) ≡ false
and-false true = refl
and-false false = refl

and-first : (a b : Bool) → (a && not b) ≡ false → b ≡ false → a ≡ false
and-first true false h e = absurd (let k : true ≡ false = h in cc)
and-first true true h e = absurd (let k : true ≡ false = e in cc)
and-first false b h e = refl

some-apex : (x : ℕ) (m : Undivided) (p q : ℕ) → IsConforming m → is_apex x (side_of m.tris p q) ≡ true
    → (is_some (side_of m.tris q x) ≡ true) × (is_some (side_of m.tris x p) ≡ true)
some-apex x m p q ok h = go (side_of m.tris p q) refl h
  where
    go : (o : Option Side) → side_of m.tris p q ≡ o → is_apex x o ≡ true → (is_some (side_of m.tris q x) ≡ true) × (is_some (side_of m.tris x p) ≡ true)
    go None e k = absurd (let z : false ≡ true = k in cc)
    go (Some s) e k =
        let t = side_of-some m.tris p q s e in
        let whole = tri_of-apex p q t.0 ((conforming-sound m ok).least t.0 t.1) t.2 in
        let apex = t.3 ∙ same s.apex x k in
        let two : has_edge q x t.0 ≡ true = ap (has_edge q x) (sym whole) ∙ (ap (λ z. has_edge q x (tri_of p q z t.0.owner)) apex ∙ tri_of-edge_two p q x t.0.owner) in
        let three : has_edge x p t.0 ≡ true = ap (has_edge x p) (sym whole) ∙ (ap (λ z. has_edge x p (tri_of p q z t.0.owner)) apex ∙ tri_of-edge_three p q x t.0.owner) in
        (ap is_some (side_of-found m.tris ok.edges_once q x t.0 t.1 two), ap is_some (side_of-found m.tris ok.edges_once x p t.0 t.1 three))
      where
        same : (a b : ℕ) → (a == b) ≡ true → a ≡ b
        same a b r = grind (arith, nat_tests)

-- an apex of the edge is a neighbour already
apex-beside : (m : Undivided) → IsConforming m → (u v x : ℕ) → (is_apex x (side_of m.tris u v) || is_apex x (side_of m.tris v u)) ≡ true → is_neighbour x (spokes_of m v) ≡ true
apex-beside m ok u v x h =
    neighbour-edge m ok x v ∙ elim (or-cases (is_apex x (side_of m.tris u v)) (is_apex x (side_of m.tris v u)) h) [
      | inl k ↦ or-left (is_some (side_of m.tris v x)) (is_some (side_of m.tris x v)) (some-apex x m u v ok k).0
      | inr k ↦ or-right (is_some (side_of m.tris v x)) (is_some (side_of m.tris x v)) (some-apex x m v u ok k).1
    ]

-- so the edge to it isn't new
pub apex-old : (m : Undivided) → IsConforming m → (u v x : ℕ) → (is_apex x (side_of m.tris u v) || is_apex x (side_of m.tris v u)) ≡ true → false ≡ is_too_long m v (spokes_of m v) x
apex-old m ok u v x h = sym ((λ i. not (x == v) && (not (apex-beside m ok u v x h i) && is_long m v x)) ∙ and-false (not (x == v)))

-- and to the others it is
pub other-new : (m : Undivided) (u v x : ℕ) (vs : List Spoke) → (x == v) ≡ false → (is_apex x (side_of m.tris u v) || is_apex x (side_of m.tris v u)) ≡ false → is_link_at m u v vs x ≡ false
    → is_long m v x ≡ is_too_long m v vs x
other-new m u v x vs apart other bare =
    let far = and-first (is_neighbour x vs) (is_apex x (side_of m.tris u v) || is_apex x (side_of m.tris v u)) bare other in
    sym (λ i. not (apart i) && (not (far i) && is_long m v x))

-- where no name passes, none at a place does
pub none-at : (p : ℕ → Bool) (ns : List ℕ) (i d : ℕ) → least_that p ns ≡ None → i < length ns → p (slice_index_or ns i d) ≡ false
none-at p ns i d none within = least_that-none p ns (slice_index_or ns i d) none (Contains-get_or ns i d within)

-- one name more
pub least-with : (p : ℕ → Bool) (ns : List ℕ) (i d : ℕ) (least : Option ℕ) → i < length ns → p (slice_index_or ns i d) ≡ true
    → fold lesser (lesser least (slice_index_or ns i d)) (filter p (drop (i + 1) ns)) ≡ fold lesser least (filter p (drop i ns))
least-with p ns i d least within h =
    let x = slice_index_or ns i d in
    sym (ap (λ l. fold lesser least (filter p l)) (drop_more ns i d within) ∙ ap (λ b. fold lesser least (cond b (x ∷ filter p (drop (i + 1) ns)) (filter p (drop (i + 1) ns)))) h)

pub least-without : (p : ℕ → Bool) (ns : List ℕ) (i d : ℕ) (least : Option ℕ) → i < length ns → p (slice_index_or ns i d) ≡ false
    → fold lesser least (filter p (drop (i + 1) ns)) ≡ fold lesser least (filter p (drop i ns))
least-without p ns i d least within h =
    let x = slice_index_or ns i d in
    sym (ap (λ l. fold lesser least (filter p l)) (drop_more ns i d within) ∙ ap (λ b. fold lesser least (cond b (x ∷ filter p (drop (i + 1) ns)) (filter p (drop (i + 1) ns)))) h)
