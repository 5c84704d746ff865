-- A contraction that passes, as one record of facts on spokes.
use Rattle.std.proofs.Common.{◌≡◌, ◌≢◌, ℕ, List, [], ◌∷◌, refl, sym, ◌∙◌, ap, subst, Bool, true, false, cond, ◌⊎◌, inl, inr, ◌&&◌, ◌||◌}
use Rattle.std.specs.Prelude.{pos, ◌<ℤ◌, not, Option, Some, None, min, ◌==◌, nat_lt, Contains, filter, fold, map, unwrap_or, length}
use Rattle.std.specs.Ordering.{int_eq}
use Rattle.std.proofs.lemmas.Bool.Decides.{Decides-int_eq}
use Rattle.std.proofs.lemmas.List.Elements.{Contains-append_left, Contains-append_right}
use Rattle.std.proofs.lemmas.Bool.{eqb-false, eqb-true, ne_eqb, or_cases}
use Rattle.pf_model.specs.declared.Spoke.{Spoke}
use Rattle.pf_model.specs.declared.Cond.{Cond}
use Rattle.pf_model.specs.declared.Cond.TheVariants.{NoEdge, Foreign, TooWide, Pinched, Corner, OffBoundary, LinkNode, Inverts}
use Rattle.pf_model.specs.declared.Op.TheVariants.{Contract}
use Rattle.pf_model.specs.Mesh.{Undivided, side_of, turn_at, is_edge}
use Rattle.pf_model.specs.Stars.{spokes_of, is_one_fan, is_on_boundary, path_start, path_end, is_neighbour}
use Rattle.pf_model.specs.Clauses.{when, when_some}
use Rattle.pf_model.specs.Conditions.{first_failing, is_owned, is_apex, is_positive, neighbours, lesser, least_that, inverted}
use Rattle.pf_model.proofs.Members.{nowhere, cases, filter-in}
use Rattle.pf_model.proofs.Totals.{map-in}
use Rattle.pf_model.proofs.ReadClauses.{when-none, first_of-none, not-false, or-false, is_positive-holds}

lesser_stays : (k : ℕ) (ns : List ℕ) → fold lesser (Some k) ns ≡ None → ⊥
lesser_stays k [] h = let e : Some k ≡ None = h in absurd (cc)
lesser_stays k (n ∷ ns) h = lesser_stays (min k n) ns h

pub least_that-none : (p : ℕ → Bool) (ns : List ℕ) (x : ℕ) → least_that p ns ≡ None → Contains ns x → p x ≡ false
least_that-none p ns x h c = go (p x) refl
  where
    no : (xs : List ℕ) → fold lesser None xs ≡ None → Contains xs x → ⊥
    no [] e k = nowhere x k
    no (y ∷ ys) e k = lesser_stays y ys e

    go : (b : Bool) → p x ≡ b → b ≡ false
    go true e = absurd (no (filter p ns) h (filter-in p x ns c e))
    go false e = refl

when_some-none : (o : Option ℕ) (f : ℕ → Cond) → when_some o f ≡ None → o ≡ None
when_some-none None f h = refl
when_some-none (Some x) f h = absurd (let e : Some (f x) ≡ None = h in cc)

pub inverted-none : (m : Undivided) (v : ℕ) (ss : List Spoke) → inverted m v ss ≡ None → (s : Spoke) → Contains ss s → s.right ≢ v → s.left ≢ v → pos 0 <ℤ turn_at m v s.right s.left
inverted-none m v [] h s c nr nl = absurd (nowhere s c)
inverted-none m v (r ∷ rs) h s c nr nl = go (not (r.right == v || r.left == v) && not (is_positive (turn_at m v r.right r.left))) refl h (cases s r rs c) (λ e k. inverted-none m v rs e s k nr nl)
  where
    test : (a b p : Bool) → (not (a || b) && not p) ≡ false → a ≡ false → b ≡ false → p ≡ true
    test true b p e f g = absurd (let z : true ≡ false = f in cc)
    test false true p e f g = absurd (let z : true ≡ false = g in cc)
    test false false true e f g = refl
    test false false false e f g = absurd (let z : true ≡ false = e in cc)

    go : (b : Bool) → (not (r.right == v || r.left == v) && not (is_positive (turn_at m v r.right r.left))) ≡ b → cond b (Some (Inverts r.right r.left)) (inverted m v rs) ≡ None → (s ≡ r) ⊎ Contains rs s → (inverted m v rs ≡ None → Contains rs s → pos 0 <ℤ turn_at m v s.right s.left) → pos 0 <ℤ turn_at m v s.right s.left
    go true e f k ih = absurd (let z : Some (Inverts r.right r.left) ≡ None = f in cc)
    go false e f (inl x) ih =
        let a : (r.right == v) ≡ false = ne_eqb r.right v (λ q. nr (ap (λ w. w.right) x ∙ q)) in
        let b : (r.left == v) ≡ false = ne_eqb r.left v (λ q. nl (ap (λ w. w.left) x ∙ q)) in
        let p = is_positive-holds (turn_at m v r.right r.left) (test (r.right == v) (r.left == v) _ e a b) in
        subst (λ w. pos 0 <ℤ turn_at m v w.right w.left) (sym x) p
    go false e f (inr x) ih = ih f x

-- a contraction of u onto v passes. Its other conditions speak of counts and lengths alone
pub record ContractPasses (m : Undivided) (u v : ℕ) : Type 0 where
  pub apart : u ≢ v
  pub edge : is_edge m.tris u v ≡ true
  pub fan : is_one_fan (spokes_of m u) ≡ true
  pub straight : is_on_boundary (spokes_of m u) ≡ true → turn_at m (unwrap_or (path_start (spokes_of m u) (spokes_of m u)) 0) u (unwrap_or (path_end (spokes_of m u) (spokes_of m u)) 0) ≡ pos 0
  pub onto : is_on_boundary (spokes_of m u) ≡ true → (unwrap_or (path_start (spokes_of m u) (spokes_of m u)) 0 ≡ v) ⊎ (unwrap_or (path_end (spokes_of m u) (spokes_of m u)) 0 ≡ v)
  pub link : (x : ℕ) → Contains (neighbours (spokes_of m u)) x → is_neighbour x (spokes_of m v) ≡ true → (is_apex x (side_of m.tris u v) || is_apex x (side_of m.tris v u)) ≡ true
  pub turns : (s : Spoke) → Contains (spokes_of m u) s → s.right ≢ v → s.left ≢ v → pos 0 <ℤ turn_at m v s.right s.left

implied : (a b : Bool) → (a && not b) ≡ false → a ≡ true → b ≡ true
implied true true h e = refl
implied true false h e = absurd (let z : true ≡ false = h in cc)
implied false b h e = absurd (let z : false ≡ true = e in cc)

pub contract_passes : (m : Undivided) (chunk u v : ℕ) → first_failing m chunk (Contract u v) ≡ None → ContractPasses m u v
contract_passes m chunk u v h =
    let us = spokes_of m u in
    let vs = spokes_of m v in
    let p = unwrap_or (path_start (spokes_of m u) (spokes_of m u)) 0 in
    let q = unwrap_or (path_end (spokes_of m u) (spokes_of m u)) 0 in
    let one = first_of-none (when (u == v || not (is_edge m.tris u v)) NoEdge) _ h in
    let two = first_of-none (when (not (is_owned chunk (side_of m.tris u v) || is_owned chunk (side_of m.tris v u))) Foreign) _ one.1 in
    let three = first_of-none (when (nat_lt 60 (length us)) TooWide) _ two.1 in
    let four = first_of-none (when (not (is_one_fan us)) Pinched) _ three.1 in
    let five = first_of-none (when (is_on_boundary us && not (int_eq (turn_at m p u q) (pos 0))) Corner) _ four.1 in
    let six = first_of-none (when (is_on_boundary us && not (p == v || q == v)) OffBoundary) _ five.1 in
    let seven = first_of-none (when_some (least_that (λ x. is_neighbour x vs && not (is_apex x (side_of m.tris u v) || is_apex x (side_of m.tris v u))) (neighbours us)) (λ x. LinkNode x)) _ six.1 in
    let eight = first_of-none (inverted m v us) _ seven.1 in
    let differ = or-false (u == v) _ (when-none _ _ one.0) in
    record {
      apart = eqb-false u v differ.0;
      edge = not-false _ differ.1;
      fan = not-false _ (when-none _ _ four.0);
      straight = λ b. (Decides-int_eq (turn_at m (unwrap_or (path_start (spokes_of m u) (spokes_of m u)) 0) u (unwrap_or (path_end (spokes_of m u) (spokes_of m u)) 0)) (pos 0)).0 (implied _ _ (when-none _ _ five.0) b);
      onto = λ b. elim (or_cases (p == v) (q == v) (implied _ _ (when-none _ _ six.0) b)) [ inl x ↦ inl (eqb-true _ v x) | inr x ↦ inr (eqb-true _ v x) ];
      link = λ x c n. implied (is_neighbour x (spokes_of m v)) _ (least_that-none (λ x. is_neighbour x (spokes_of m v) && not (is_apex x (side_of m.tris u v) || is_apex x (side_of m.tris v u))) (neighbours (spokes_of m u)) x (when_some-none _ _ seven.0) c) n;
      turns = inverted-none m v (spokes_of m u) eight.0;
    }

pub right_is_neighbour : (ss : List Spoke) (s : Spoke) → Contains ss s → Contains (neighbours ss) s.right
right_is_neighbour ss s c = Contains-append_left (map (λ s. s.right) ss) (map (λ s. s.left) ss) s.right (map-in (λ s. s.right) ss s c)

pub left_is_neighbour : (ss : List Spoke) (s : Spoke) → Contains ss s → Contains (neighbours ss) s.left
left_is_neighbour ss s c = Contains-append_right (map (λ s. s.right) ss) (map (λ s. s.left) ss) s.left (map-in (λ s. s.left) ss s c)
