-- The cavity as it is seen from the stars of the ends, what is needed of it, and its size.
-- Assumes `IsConforming m`.
use Rattle.std.proofs.Common.{◌≡◌, ℕ, suc, ◌≤◌, List, [], ◌∷◌, ◌++◌, length, sym, ◌∙◌, ap, subst, Bool, true, false, cond, ◌⊎◌, inl, inr, arith, ◌||◌}
use Rattle.std.specs.Prelude.{Contains, Option, Some, None, is_some, is_none, min, max, not, filter, fold, map, nat_lt, ◌==◌}
use Rattle.std.proofs.lemmas.Bool.Decides.{nat_tests}
use Rattle.std.proofs.lemmas.List.{length-map}
use Rattle.std.proofs.lemmas.List.Elements.{Contains-append_cases}
use Rattle.std.proofs.lemmas.Bool.{not-false, not-true, not_from_false}
use Rattle.pf_model.specs.declared.Op.{Op}
use Rattle.pf_model.specs.declared.Op.TheVariants.{Flip, Bisect, Contract}
use Rattle.pf_model.specs.declared.Spoke.{Spoke}
use Rattle.pf_model.specs.declared.Cond.TheVariants.{NoEdge, Foreign, TooWide}
use Rattle.pf_model.specs.Clauses.{when}
use Rattle.pf_model.specs.Mesh.{Undivided, side_of, is_edge}
use Rattle.pf_model.specs.Conforming.{IsConforming}
use Rattle.pf_model.specs.Conditions.{first_failing, neighbours, least_that, lesser, is_owned}
use Rattle.pf_model.specs.Stars.{Star, spokes_of, is_one_fan, run_start}
use Rattle.pf_model.proofs.Members.{nowhere, here, there, cases, filter-in, filter-out}
use Rattle.pf_model.proofs.ReadClauses.{when-none, first_of-none}
use Rattle.pf_model.proofs.Totals.{map-in, map-means}
use Rattle.pf_model.proofs.Fans.{IsRight, IsRun, one_fan-run}
use Rattle.pf_model.proofs.Spokes.{spokes-simple}
use Rattle.pf_model.proofs.ContractClauses.{ContractPasses, contract_passes, least_that-none, right_is_neighbour, left_is_neighbour}
use Rattle.pf_star_model.specs.Lent.{spokes_in}
use Rattle.pf_star_model.specs.Cavity.{apexes, cavity_of, cavity_seen, needed, PassesAtEnds}
use Rattle.pf_star_model.specs.Patched.{risen}
use Rattle.pf_star_model.specs.Laws.{AreEndsShown, IsLeastMissing}
use Rattle.pf_star_model.proofs.Shown.{spokes-shown}
use Rattle.pf_star_model.proofs.Judging.{edge_seen, shown_sorted, seen_is_shown}
use Rattle.pf_star_model.proofs.Names.{risen-rise, risen-means, rising_names-different, different-no_longer}

pub cavity_is_seen : (m : Undivided) (lent : ℕ → Option Star) (chunk : ℕ) (op : Op) → IsConforming m → AreEndsShown lent m op → PassesAtEnds m chunk op → cavity_seen lent op ≡ cavity_of m chunk op
cavity_is_seen m lent chunk (Flip a b) ok s p =
    seen_is_shown (λ o l r. a ∷ b ∷ apexes l ++ apexes r) m ok lent (min a b) (max a b) (shown_sorted m lent a b s.0 s.1).0
    ∙ ap (λ o. a ∷ b ∷ cond (is_none o) (apexes (side_of m.tris (min a b) (max a b)) ++ apexes (side_of m.tris (max a b) (min a b))) []) (sym p)
cavity_is_seen m lent chunk (Bisect a b) ok s p =
    seen_is_shown (λ o l r. a ∷ b ∷ apexes l ++ apexes r) m ok lent (min a b) (max a b) (shown_sorted m lent a b s.0 s.1).0
    ∙ ap (λ o. a ∷ b ∷ cond (is_none o) (apexes (side_of m.tris (min a b) (max a b)) ++ apexes (side_of m.tris (max a b) (min a b))) []) (sym p)
cavity_is_seen m lent chunk (Contract u v) ok s p =
    ap (λ us. u ∷ v ∷ neighbours us) (ap spokes_in s.0 ∙ spokes-shown m ok u)
    ∙ ap (λ o. u ∷ v ∷ cond (is_none o) (neighbours (spokes_of m u)) []) (sym p)

-- the least number that passes
abbrev IsLeastOf : List ℕ → ℕ → Type 0
IsLeastOf ns n = Contains ns n × ((k : ℕ) → Contains ns k → n ≤ k)

fold-least : (ns : List ℕ) (k n : ℕ) → fold lesser (Some k) ns ≡ Some n → ((n ≡ k) ⊎ Contains ns n) × (n ≤ k) × ((j : ℕ) → Contains ns j → n ≤ j)
fold-least [] k n h = let e : k ≡ n = some_same h in (inl (sym e), omega arith, λ j i. absurd (nowhere j i))
  where
    some_same : {a b : ℕ} → Some a ≡ Some b → a ≡ b
    some_same q = cc
fold-least (m ∷ ms) k n h = step (fold-least ms (min k m) n h)
  where
    step : ((n ≡ min k m) ⊎ Contains ms n) × (n ≤ min k m) × ((j : ℕ) → Contains ms j → n ≤ j) → ((n ≡ k) ⊎ Contains (m ∷ ms) n) × (n ≤ k) × ((j : ℕ) → Contains (m ∷ ms) j → n ≤ j)
    step r = (which r.0, (let l = r.1 in omega arith), λ j i. elim (cases j m ms i) [ inl e ↦ (let l = r.1 in omega arith) | inr c ↦ r.2 j c ])
      where
        is_min : (x y z : ℕ) → x ≡ min y z → (x ≡ y) ⊎ (x ≡ z)
        is_min x y z e = grind arith

        which : (n ≡ min k m) ⊎ Contains ms n → (n ≡ k) ⊎ Contains (m ∷ ms) n
        which (inr c) = inr (there n m ms c)
        which (inl e) = elim (is_min n k m e) [ inl x ↦ inl x | inr x ↦ inr (subst (λ w. Contains (w ∷ ms) n) x (here n ms)) ]

least-of : (ns : List ℕ) (n : ℕ) → fold lesser None ns ≡ Some n → IsLeastOf ns n
least-of [] n h = absurd (let e : None ≡ Some n = h in cc)
least-of (k ∷ ks) n h =
    let r = fold-least ks k n h in
    (elim r.0 [ inl e ↦ subst (λ w. Contains (w ∷ ks) n) e (here n ks) | inr c ↦ there n k ks c ], λ j i. elim (cases j k ks i) [ inl e ↦ (let l = r.1 in omega arith) | inr c ↦ r.2 j c ])

pub least_that-some : (p : ℕ → Bool) (ns : List ℕ) (n : ℕ) → least_that p ns ≡ Some n → Contains ns n × (p n ≡ true) × ((k : ℕ) → Contains ns k → p k ≡ true → n ≤ k)
least_that-some p ns n h =
    let r = least-of (filter p ns) n h in
    let o = filter-out p n ns r.0 in
    (o.0, o.1, λ k c e. r.1 k (filter-in p k ns c e))

pub needed_is_least_missing : (m : Undivided) (lent : ℕ → Option Star) (chunk : ℕ) (op : Op) → IsConforming m → AreEndsShown lent m op → PassesAtEnds m chunk op → (needed lent op ≡ None → (n : ℕ) → Contains (cavity_of m chunk op) n → is_some (lent n) ≡ true) × ((n : ℕ) → needed lent op ≡ Some n → IsLeastMissing (λ k. is_some (lent k)) (cavity_of m chunk op) n)
needed_is_least_missing m lent chunk op ok s p = (whole, hold)
  where
    same : cavity_seen lent op ≡ cavity_of m chunk op
    same = cavity_is_seen m lent chunk op ok s p

    whole : needed lent op ≡ None → (n : ℕ) → Contains (cavity_of m chunk op) n → is_some (lent n) ≡ true
    whole h n c = not-false (is_some (lent n)) (least_that-none (λ k. not (is_some (lent k))) (cavity_seen lent op) n h (subst (λ l. Contains l n) (sym same) c))

    hold : (n : ℕ) → needed lent op ≡ Some n → IsLeastMissing (λ k. is_some (lent k)) (cavity_of m chunk op) n
    hold n h =
        let r = least_that-some (λ k. not (is_some (lent k))) (cavity_seen lent op) n h in
        record {
          within = subst (λ l. Contains l n) same r.0;
          missing = not-true (is_some (lent n)) r.1;
          least = λ k c e. r.2 k (subst (λ l. Contains l k) (sym same) c) (not_from_false (is_some (lent k)) e);
        }

-- the neighbours of a node whose spokes are one fan are the rights, and the last left
few_neighbours : (m : Undivided) → IsConforming m → (u : ℕ) → is_one_fan (spokes_of m u) ≡ true → ((s : Spoke) × Contains (spokes_of m u) s) → (last : ℕ) × ((x : ℕ) → Contains (neighbours (spokes_of m u)) x → Contains (last ∷ map (λ s. s.right) (spokes_of m u)) x)
few_neighbours m ok u fan some = (run.last, each)
  where
    run : IsRun (spokes_of m u) (run_start (spokes_of m u))
    run = one_fan-run (spokes_of m u) (spokes-simple m ok u) some fan

    right : (x : ℕ) → IsRight (spokes_of m u) x → Contains (run.last ∷ map (λ s. s.right) (spokes_of m u)) x
    right x r = there x run.last (map (λ s. s.right) (spokes_of m u)) (subst (λ w. Contains (map (λ s. s.right) (spokes_of m u)) w) r.2 (map-in (λ s. s.right) (spokes_of m u) r.0 r.1))

    each : (x : ℕ) → Contains (neighbours (spokes_of m u)) x → Contains (run.last ∷ map (λ s. s.right) (spokes_of m u)) x
    each x h = elim (Contains-append_cases (map (λ s. s.right) (spokes_of m u)) (map (λ s. s.left) (spokes_of m u)) x h) [
      | inl a ↦ right x (map-means (λ s. s.right) (spokes_of m u) x a)
      | inr a ↦ elim (run.lefts x (map-means (λ s. s.left) (spokes_of m u) x a)) [ inl r ↦ right x r.0 | inr e ↦ subst (λ w. Contains (w ∷ map (λ s. s.right) (spokes_of m u)) x) e (here x (map (λ s. s.right) (spokes_of m u))) ]
    ]

-- a contraction that passes is of a node with at most 60 triangles
few_spokes : (m : Undivided) (chunk u v : ℕ) → first_failing m chunk (Contract u v) ≡ None → length (spokes_of m u) ≤ 60
few_spokes m chunk u v h =
    let one = first_of-none (when (u == v || not (is_edge m.tris u v)) NoEdge) _ h in
    let two = first_of-none (when (not (is_owned chunk (side_of m.tris u v) || is_owned chunk (side_of m.tris v u))) Foreign) _ one.1 in
    let three = first_of-none (when (nat_lt 60 (length (spokes_of m u))) TooWide) _ two.1 in
    not_above (length (spokes_of m u)) (when-none (nat_lt 60 (length (spokes_of m u))) TooWide three.0)
  where
    not_above : (k : ℕ) → nat_lt 60 k ≡ false → k ≤ 60
    not_above k e = grind (arith, nat_tests)

pub contraction_has_few_nodes : (m : Undivided) (chunk u v : ℕ) → IsConforming m → first_failing m chunk (Contract u v) ≡ None → length (risen (cavity_of m chunk (Contract u v))) ≤ 62
contraction_has_few_nodes m chunk u v ok h =
    let l = different-no_longer (risen (cavity_of m chunk (Contract u v))) (u ∷ few.0 ∷ rights) (rising_names-different (risen (cavity_of m chunk (Contract u v))) (risen-rise (cavity_of m chunk (Contract u v)))) (λ x i. within x (subst (λ w. Contains w x) cavity (risen-means (cavity_of m chunk (Contract u v)) x i))) in
    let k = few_spokes m chunk u v h in
    let j : length rights ≡ length (spokes_of m u) = length-map (spokes_of m u) (λ s. s.right) in
    bound (length (risen (cavity_of m chunk (Contract u v)))) (length rights) (length (spokes_of m u)) l j k
  where
    p : ContractPasses m u v
    p = contract_passes m chunk u v h

    rights : List ℕ
    rights = map (λ s. s.right) (spokes_of m u)

    seen : (s : Spoke) × Contains (spokes_of m u) s × ((s.right ≡ v) ⊎ (s.left ≡ v))
    seen = elim (edge_seen m ok u v p.edge).other [ inl e ↦ absurd (p.apart e) | inr r ↦ r ]

    few : (last : ℕ) × ((x : ℕ) → Contains (neighbours (spokes_of m u)) x → Contains (last ∷ rights) x)
    few = few_neighbours m ok u p.fan (seen.0, seen.1)

    cavity : cavity_of m chunk (Contract u v) ≡ u ∷ v ∷ neighbours (spokes_of m u)
    cavity = ap (λ o. u ∷ v ∷ cond (is_none o) (neighbours (spokes_of m u)) []) h

    v_near : Contains (neighbours (spokes_of m u)) v
    v_near = elim seen.2 [ inl e ↦ subst (λ w. Contains (neighbours (spokes_of m u)) w) e (right_is_neighbour (spokes_of m u) seen.0 seen.1) | inr e ↦ subst (λ w. Contains (neighbours (spokes_of m u)) w) e (left_is_neighbour (spokes_of m u) seen.0 seen.1) ]

    within : (x : ℕ) → Contains (u ∷ v ∷ neighbours (spokes_of m u)) x → Contains (u ∷ few.0 ∷ rights) x
    within x i = elim (cases x u (v ∷ neighbours (spokes_of m u)) i) [
      | inl e ↦ subst (λ w. Contains (w ∷ few.0 ∷ rights) x) e (here x (few.0 ∷ rights))
      | inr j ↦ there x u (few.0 ∷ rights) (few.1 x (elim (cases x v (neighbours (spokes_of m u)) j) [ inl e ↦ subst (λ w. Contains (neighbours (spokes_of m u)) w) (sym e) v_near | inr k ↦ k ]))
    ]

    bound : (a b c : ℕ) → a ≤ suc (suc b) → b ≡ c → c ≤ 60 → a ≤ 62
    bound a b c x y z = omega arith
