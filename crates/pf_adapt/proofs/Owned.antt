-- The chunk of an operation that passes owns a triangle at its edge.
use Rattle.std.proofs.Common.{◌≡◌, ℕ, suc, List, [], ◌∷◌, refl, ap, Bool, true, false, cond, not, ◌&&◌, ◌||◌, ◌==◌, inl, inr, Option, Some, None}
use Rattle.std.specs.Prelude.{min, max}
use Rattle.std.specs.List.{list_any}
use Rattle.std.proofs.lemmas.Bool.{or_cases}
use Rattle.pf_model.specs.declared.Tri.{Tri}
use Rattle.pf_model.specs.declared.Entry.{Entry}
use Rattle.pf_model.specs.declared.Op.{Op}
use Rattle.pf_model.specs.declared.Op.TheVariants.{Flip, Bisect, Contract}
use Rattle.pf_model.specs.declared.Cond.{Cond}
use Rattle.pf_model.specs.declared.Cond.TheVariants.{NoEdge, Foreign}
use Rattle.pf_model.specs.Applied.{applied}
use Rattle.pf_model.specs.Clauses.{when, first_of}
use Rattle.pf_model.specs.Conditions.{first_failing, is_owned, flip_clauses, bisect_clauses, contract_clauses}
use Rattle.pf_model.specs.Ends.{first_end, second_end}
use Rattle.pf_model.specs.Mesh.{Undivided, has_edge, side_of, is_edge, apex_in}
use Rattle.pf_model.specs.Replay.{IsLegalFrom}
use Rattle.pf_model.specs.Stars.{spokes_of}
use Rattle.pf_model.proofs.ReadClauses.{when-none, first_of-none, not-false}
use Rattle.pf_adapt.specs.Adapted.{owns_edge, OwnEdges}

-- a side that the chunk owns is that of a triangle that it owns
side-owned : (c a b : ℕ) (ts : List Tri) → is_owned c (side_of ts a b) ≡ true → list_any (λ (t : Tri). t.owner == c && has_edge a b t) ts ≡ true
side-owned c a b [] h = h
side-owned c a b (t ∷ ts) h = go (has_edge a b t) h (side-owned c a b ts)
  where
    go : (e : Bool) → is_owned c (cond e (Some record { apex = apex_in a b t; owner = t.owner }) (side_of ts a b)) ≡ true
        → (is_owned c (side_of ts a b) ≡ true → list_any (λ (t : Tri). t.owner == c && has_edge a b t) ts ≡ true)
        → ((t.owner == c && e) || list_any (λ (t : Tri). t.owner == c && has_edge a b t) ts) ≡ true
    go true h more = both (t.owner == c) _ h
      where
        both : (x y : Bool) → x ≡ true → ((x && true) || y) ≡ true
        both true y h = refl
        both false y h = absurd (let e : false ≡ true = h in cc)
    go false h more = none (t.owner == c) _ (more h)
      where
        none : (x y : Bool) → y ≡ true → ((x && false) || y) ≡ true
        none true y h = h
        none false y h = h

-- what a test finds, a weaker one finds
weaker : {X : Type 0} (p q : X → Bool) → ((x : X) → p x ≡ true → q x ≡ true) → (xs : List X) → list_any p xs ≡ true → list_any q xs ≡ true
weaker p q h [] e = e
weaker p q h (x ∷ xs) e = go (p x) (q x) (h x) (weaker p q h xs) e
  where
    go : (a b : Bool) → (a ≡ true → b ≡ true) → (list_any p xs ≡ true → list_any q xs ≡ true) → (a || list_any p xs) ≡ true → (b || list_any q xs) ≡ true
    go true b f more e = ap (λ y. y || list_any q xs) (f refl)
    go false true f more e = refl
    go false false f more e = more e

one-way : (x y z : Bool) → (x && y) ≡ true → (x && (y || z)) ≡ true
one-way true true z h = refl
one-way true false z h = absurd (let e : false ≡ true = h in cc)
one-way false y z h = h

other-way : (x y z : Bool) → (x && z) ≡ true → (x && (y || z)) ≡ true
other-way true true z h = refl
other-way true false z h = h
other-way false y z h = h

-- an edge that is not foreign
edge-owned : (m : Undivided) (c a b : ℕ) (others : List (Option Cond)) → first_of (when (a == b || not (is_edge m.tris a b)) NoEdge ∷ when (not (is_owned c (side_of m.tris a b) || is_owned c (side_of m.tris b a))) Foreign ∷ others) ≡ None → owns_edge c a b m.tris ≡ true
edge-owned m c a b others h =
    let one = first_of-none (when (a == b || not (is_edge m.tris a b)) NoEdge) _ h in
    let two = first_of-none (when (not (is_owned c (side_of m.tris a b) || is_owned c (side_of m.tris b a))) Foreign) _ one.1 in
    let owned : (is_owned c (side_of m.tris a b) || is_owned c (side_of m.tris b a)) ≡ true = not-false _ (when-none _ _ two.0) in
    elim (or_cases (is_owned c (side_of m.tris a b)) (is_owned c (side_of m.tris b a)) owned) [
      | inl l ↦ weaker (λ (t : Tri). t.owner == c && has_edge a b t) _ (λ t k. one-way (t.owner == c) (has_edge a b t) (has_edge b a t) k) m.tris (side-owned c a b m.tris l)
      | inr r ↦ weaker (λ (t : Tri). t.owner == c && has_edge b a t) _ (λ t k. other-way (t.owner == c) (has_edge a b t) (has_edge b a t) k) m.tris (side-owned c b a m.tris r)
    ]

-- the chunk of an operation that passes owns a triangle at its edge
pub passes-owned : (m : Undivided) (c : ℕ) (op : Op) → first_failing m c op ≡ None → owns_edge c (first_end op) (second_end op) m.tris ≡ true
passes-owned m c (Flip a b) h = edge-owned m c a b (flip_clauses m (min a b) (max a b)) h
passes-owned m c (Bisect a b) h = edge-owned m c a b (bisect_clauses m (min a b) (max a b)) h
passes-owned m c (Contract u v) h = edge-owned m c u v (contract_clauses m u v (spokes_of m u) (spokes_of m v)) h

-- so do those of a legal journal
pub legal-owned : (t : ℕ) (m : Undivided) (es : List Entry) → IsLegalFrom t m es → OwnEdges m es
legal-owned t m [] h = tt
legal-owned t m (e ∷ es) h = (passes-owned m e.chunk e.op h.1, legal-owned (suc t) (applied m e) es h.2)
