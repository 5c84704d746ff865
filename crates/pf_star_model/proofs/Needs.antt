-- The nodes of a cavity are live and few, so the one that is needed is the least that isn't held, and it is a neighbour of an end.
use Rattle.std.proofs.Common.{◌≡◌, ℕ, ◌≤◌, List, [], ◌∷◌, ◌++◌, length, refl, sym, ◌∙◌, ap, subst, Bool, true, false, cond, ◌⊎◌, inl, inr, arith, ◌||◌}
use Rattle.std.specs.Prelude.{Contains, Option, Some, None, is_some, is_none, min, max, not, ◌==◌, nat_lt, ◌<◌}
use Rattle.std.proofs.lemmas.Bool.Decides.{nat_tests}
use Rattle.std.proofs.lemmas.Bool.{eq-eqb, eqb-true, not-true, or_left, or_right}
use Rattle.std.proofs.lemmas.List.Elements.{Contains-append_cases}
use Rattle.pf_model.specs.declared.Spoke.{Spoke}
use Rattle.pf_model.specs.declared.Side.{Side}
use Rattle.pf_model.specs.declared.Op.{Op}
use Rattle.pf_model.specs.declared.Op.TheVariants.{Flip, Bisect, Contract}
use Rattle.pf_model.specs.Rising.{AreDifferent}
use Rattle.pf_model.specs.Ends.{first_end, second_end}
use Rattle.pf_model.specs.Mesh.{Undivided, side_of, place_of}
use Rattle.pf_model.specs.Conforming.{IsConforming, IsLive}
use Rattle.pf_model.specs.Rows.{edge_rows, flip_rows, neighbours}
use Rattle.pf_model.specs.Stars.{Star, star_of, spokes_of, is_neighbour}
use Rattle.pf_model.proofs.Members.{nowhere, here, there, cases}
use Rattle.pf_model.proofs.Totals.{map-means}
use Rattle.pf_model.proofs.Kept.{any-from}
use Rattle.pf_model.proofs.ReadClauses.{bisect_passes}
use Rattle.pf_model.proofs.ContractClauses.{contract_passes, least_that-none}
use Rattle.pf_star_model.specs.Lent.{Held, is_held, star_held, AgreesOn, spokes_in, side_to, side_from}
use Rattle.pf_star_model.specs.Rings.{next_neighbour}
use Rattle.pf_star_model.specs.Judged.{left_seen, right_seen}
use Rattle.pf_star_model.specs.Cavity.{apexes, cavity_of, cavity_seen, needed, PassesAtEnds}
use Rattle.pf_star_model.specs.Patched.{risen}
use Rattle.pf_star_model.specs.Laws.{AreEndsShown, IsLeastMissing}
use Rattle.pf_star_model.proofs.Shown.{IsSeen, seen_live, side_to-some, side_from-some}
use Rattle.pf_star_model.proofs.Judging.{IsEdgeSeen, edge_seen, edge_rows-none, first_of-front, neighbour_seen}
use Rattle.pf_star_model.proofs.Names.{risen-has, different-no_longer}
use Rattle.pf_star_model.proofs.Patching.{star_with}
use Rattle.pf_star_model.proofs.Cavities.{least_that-some, needed_is_least_missing, contraction_has_few_nodes}

-- the nodes at an edge are live
edge_nodes : (m : Undivided) → IsConforming m → (a b : ℕ) → IsEdgeSeen m (min a b) (max a b) → (n : ℕ) → Contains (a ∷ b ∷ apexes (side_of m.tris (min a b) (max a b)) ++ apexes (side_of m.tris (max a b) (min a b))) n → IsLive m n
edge_nodes m ok a b i n h = elim (cases n a (b ∷ more) h) [
  | inl e ↦ subst (λ k. IsLive m k) (sym e) (both.0)
  | inr j ↦ elim (cases n b more j) [
    | inl e ↦ subst (λ k. IsLive m k) (sym e) (both.1)
    | inr k ↦ elim (Contains-append_cases (apexes (side_of m.tris (min a b) (max a b))) (apexes (side_of m.tris (max a b) (min a b))) n k) [ inl x ↦ apex (side_of m.tris (min a b) (max a b)) i.left x | inr x ↦ apex (side_of m.tris (max a b) (min a b)) i.right x ]
  ]
]
  where
    more : List ℕ
    more = apexes (side_of m.tris (min a b) (max a b)) ++ apexes (side_of m.tris (max a b) (min a b))

    from : (x : ℕ) → IsSeen m (min a b) x → IsLive m x
    from x s = seen_live m ok (min a b) x i.live s

    apex : (o : Option Side) → ((s : Side) → o ≡ Some s → IsSeen m (min a b) s.apex) → Contains (apexes o) n → IsLive m n
    apex None f x = absurd (nowhere n x)
    apex (Some s) f x = elim (cases n s.apex [] x) [ inl e ↦ subst (λ k. IsLive m k) (sym e) (from s.apex (f s refl)) | inr z ↦ absurd (nowhere n z) ]

    both : IsLive m a × IsLive m b
    both = unsorted (order a b)
      where
        order : (x y : ℕ) → (x ≤ y) ⊎ (y ≤ x)
        order x y = grind arith

        unsorted : (a ≤ b) ⊎ (b ≤ a) → IsLive m a × IsLive m b
        unsorted (inl l) = let e : min a b ≡ a = omega arith in let f : max a b ≡ b = omega arith in (subst (λ k. IsLive m k) e i.live, subst (λ k. IsLive m k) f (from (max a b) i.other))
        unsorted (inr l) = let e : min a b ≡ b = omega arith in let f : max a b ≡ a = omega arith in (subst (λ k. IsLive m k) f (from (max a b) i.other), subst (λ k. IsLive m k) e i.live)

-- the nodes of a cavity are live, where each condition passes that is judged from the stars of the ends
pub cavity_live : (m : Undivided) → IsConforming m → (chunk : ℕ) (op : Op) → PassesAtEnds m chunk op → (n : ℕ) → Contains (cavity_of m chunk op) n → IsLive m n
cavity_live m ok chunk (Flip a b) p n h =
    let l = side_of m.tris (min a b) (max a b) in
    let r = side_of m.tris (max a b) (min a b) in
    let i = edge_seen m ok (min a b) (max a b) (edge_rows-none chunk a b l r (first_of-front (edge_rows chunk a b l r) (flip_rows m (min a b) (max a b) l r) p)) in
    edge_nodes m ok a b i n (subst (λ l. Contains l n) (ap (λ o. a ∷ b ∷ cond (is_none o) (apexes (side_of m.tris (min a b) (max a b)) ++ apexes (side_of m.tris (max a b) (min a b))) []) p) h)
cavity_live m ok chunk (Bisect a b) p n h =
    let i = edge_seen m ok (min a b) (max a b) (bisect_passes m chunk a b p).1.edge in
    edge_nodes m ok a b i n (subst (λ l. Contains l n) (ap (λ o. a ∷ b ∷ cond (is_none o) (apexes (side_of m.tris (min a b) (max a b)) ++ apexes (side_of m.tris (max a b) (min a b))) []) p) h)
cavity_live m ok chunk (Contract u v) p n h =
    let i = edge_seen m ok u v (contract_passes m chunk u v p).edge in
    elim (cases n u (v ∷ neighbours (spokes_of m u)) (subst (λ l. Contains l n) (ap (λ o. u ∷ v ∷ cond (is_none o) (neighbours (spokes_of m u)) []) p) h)) [
      | inl e ↦ subst (λ k. IsLive m k) (sym e) i.live
      | inr j ↦ elim (cases n v (neighbours (spokes_of m u)) j) [
        | inl e ↦ subst (λ k. IsLive m k) (sym e) (seen_live m ok u v i.live i.other)
        | inr k ↦ seen_live m ok u n i.live (neighbour_seen m ok [] u i.live n k)
      ]
    ]

-- and they are few
pub cavity_small : (m : Undivided) (chunk : ℕ) (op : Op) (names : List ℕ) → IsConforming m → PassesAtEnds m chunk op → AreDifferent names → ((n : ℕ) → Contains names n → Contains (cavity_of m chunk op) n) → length names ≤ 62
cavity_small m chunk op names ok p d within = bound op p within
  where
    two_sides : (b : Bool) (x y : ℕ) (l r : Option Side) → length (x ∷ y ∷ cond b (apexes l ++ apexes r) []) ≤ 62
    two_sides false x y l r = omega arith
    two_sides true x y None None = omega arith
    two_sides true x y None (Some r) = omega arith
    two_sides true x y (Some l) None = omega arith
    two_sides true x y (Some l) (Some r) = omega arith

    at_most : (xs : List ℕ) → ((n : ℕ) → Contains names n → Contains xs n) → length xs ≤ 62 → length names ≤ 62
    at_most xs sub few = let a = different-no_longer names xs d sub in omega (arith, a, few)

    bound : (o : Op) → PassesAtEnds m chunk o → ((n : ℕ) → Contains names n → Contains (cavity_of m chunk o) n) → length names ≤ 62
    bound (Flip a b) q sub = at_most (cavity_of m chunk (Flip a b)) sub (two_sides _ a b _ _)
    bound (Bisect a b) q sub = at_most (cavity_of m chunk (Bisect a b)) sub (two_sides _ a b _ _)
    bound (Contract u v) q sub =
        let cavity = cavity_of m chunk (Contract u v) in
        at_most (risen cavity) (λ n h. risen-has cavity n (sub n h)) (contraction_has_few_nodes m chunk u v ok q)

-- of a live node a star is held where the node is
star-live : (m : Undivided) (n : ℕ) → IsLive m n → is_some (star_of m n) ≡ true
star-live m n l = ap (λ b. is_some (cond b (star_with n (place_of m n) (spokes_of m n)) None)) l

pub held_lent : (hs : List Held) (m : Undivided) → AgreesOn hs m → (n : ℕ) → IsLive m n → is_some (star_held hs n) ≡ is_held hs n
held_lent [] m a n l = refl
held_lent (x ∷ xs) m a n l = go (x.node == n) refl (held_lent xs m (λ y i. a y (there y x xs i)) n l)
  where
    go : (b : Bool) → (x.node == n) ≡ b → is_some (star_held xs n) ≡ is_held xs n → is_some (cond b x.star (star_held xs n)) ≡ (b || is_held xs n)
    go true e ih = ap is_some (a x (here x xs)) ∙ (ap (λ k. is_some (star_of m k)) (eqb-true x.node n e) ∙ star-live m n l)
    go false e ih = ih

-- the node that is needed is the least that isn't held
pub needed_is_least_unheld : (m : Undivided) (held : List Held) (chunk : ℕ) (op : Op) → IsConforming m → AgreesOn held m → AreEndsShown (star_held held) m op → PassesAtEnds m chunk op → (needed (star_held held) op ≡ None → (n : ℕ) → Contains (cavity_of m chunk op) n → is_held held n ≡ true) × ((n : ℕ) → needed (star_held held) op ≡ Some n → IsLeastMissing (is_held held) (cavity_of m chunk op) n)
needed_is_least_unheld m held chunk op ok a s p = (λ h n c. sym (same n c) ∙ both.0 h n c, hold)
  where
    both : (needed (star_held held) op ≡ None → (n : ℕ) → Contains (cavity_of m chunk op) n → is_some (star_held held n) ≡ true) × ((n : ℕ) → needed (star_held held) op ≡ Some n → IsLeastMissing (λ k. is_some (star_held held k)) (cavity_of m chunk op) n)
    both = needed_is_least_missing m (star_held held) chunk op ok s p

    same : (n : ℕ) → Contains (cavity_of m chunk op) n → is_some (star_held held n) ≡ is_held held n
    same n c = held_lent held m a n (cavity_live m ok chunk op p n c)

    hold : (n : ℕ) → needed (star_held held) op ≡ Some n → IsLeastMissing (is_held held) (cavity_of m chunk op) n
    hold n h =
        let r = both.1 n h in
        record {
          within = r.within;
          missing = sym (same n r.within) ∙ r.missing;
          least = λ k c e. r.least k c (same k c ∙ e);
        }

-- the apex of a side that a star shows is a neighbour
near_left : (q n : ℕ) (ss : List Spoke) → Contains (apexes (side_to q ss)) n → is_neighbour n ss ≡ true
near_left q n ss h = go (side_to q ss) refl h
  where
    go : (o : Option Side) → side_to q ss ≡ o → Contains (apexes o) n → is_neighbour n ss ≡ true
    go None e c = absurd (nowhere n c)
    go (Some s) e c = elim (cases n s.apex [] c) [
      | inl x ↦ (let r = side_to-some q ss s e in any-from (λ k. k.right == n || k.left == n) r.0 ss r.1 (or_right (r.0.right == n) (r.0.left == n) (eq-eqb r.0.left n (sym (x ∙ ap (λ k. k.apex) r.3)))))
      | inr x ↦ absurd (nowhere n x)
    ]

near_right : (q n : ℕ) (ss : List Spoke) → Contains (apexes (side_from q ss)) n → is_neighbour n ss ≡ true
near_right q n ss h = go (side_from q ss) refl h
  where
    go : (o : Option Side) → side_from q ss ≡ o → Contains (apexes o) n → is_neighbour n ss ≡ true
    go None e c = absurd (nowhere n c)
    go (Some s) e c = elim (cases n s.apex [] c) [
      | inl x ↦ (let r = side_from-some q ss s e in any-from (λ k. k.right == n || k.left == n) r.0 ss r.1 (or_left (r.0.right == n) (r.0.left == n) (eq-eqb r.0.right n (sym (x ∙ ap (λ k. k.apex) r.3)))))
      | inr x ↦ absurd (nowhere n x)
    ]

-- so is a neighbour
near_listed : (n : ℕ) (ss : List Spoke) → Contains (neighbours ss) n → is_neighbour n ss ≡ true
near_listed n ss h = elim (Contains-append_cases _ _ n h) [
  | inl a ↦ (let r = map-means (λ s. s.right) ss n a in any-from (λ k. k.right == n || k.left == n) r.0 ss r.1 (or_left (r.0.right == n) (r.0.left == n) (eq-eqb r.0.right n r.2)))
  | inr a ↦ (let r = map-means (λ s. s.left) ss n a in any-from (λ k. k.right == n || k.left == n) r.0 ss r.1 (or_right (r.0.right == n) (r.0.left == n) (eq-eqb r.0.left n r.2)))
]

-- the node that is needed is a neighbour of an end, where both are lent
pub needed_is_near : (lent : ℕ → Option Star) (op : Op) (n : ℕ) → is_some (lent (first_end op)) ≡ true → is_some (lent (second_end op)) ≡ true → needed lent op ≡ Some n → (is_neighbour n (spokes_in (lent (first_end op))) ≡ true) ⊎ (is_neighbour n (spokes_in (lent (second_end op))) ≡ true)
needed_is_near lent op n one two h = near op one two (least_that-some (λ k. not (is_some (lent k))) (cavity_seen lent op) n h).0
  where
    missing : is_some (lent n) ≡ false
    missing = not-true (is_some (lent n)) (least_that-some (λ k. not (is_some (lent k))) (cavity_seen lent op) n h).1

    Near : ℕ → Type 0
    Near a = is_neighbour n (spokes_in (lent a)) ≡ true

    lower : (a b : ℕ) → Near (min a b) → Near a ⊎ Near b
    lower a b k = go (order a b)
      where
        order : (x y : ℕ) → (x ≤ y) ⊎ (y ≤ x)
        order x y = grind arith

        go : (a ≤ b) ⊎ (b ≤ a) → Near a ⊎ Near b
        go (inl l) = let e : min a b ≡ a = omega arith in inl (subst (λ x. Near x) e k)
        go (inr l) = let e : min a b ≡ b = omega arith in inr (subst (λ x. Near x) e k)

    not_end : (a : ℕ) → is_some (lent a) ≡ true → n ≡ a → Near a
    not_end a l e = absurd (let z : false ≡ true = sym missing ∙ (ap (λ k. is_some (lent k)) e ∙ l) in cc)

    -- past the two ends
    past : (a b : ℕ) (more : List ℕ) → is_some (lent a) ≡ true → is_some (lent b) ≡ true → (Contains more n → Near a ⊎ Near b) → Contains (a ∷ b ∷ more) n → Near a ⊎ Near b
    past a b more la lb then c = elim (cases n a (b ∷ more) c) [
      | inl e ↦ inl (not_end a la e)
      | inr j ↦ elim (cases n b more j) [ inl e ↦ inr (not_end b lb e) | inr k ↦ then k ]
    ]

    at_sides : (a b : ℕ) → Contains (apexes (left_seen lent (min a b) (max a b)) ++ apexes (right_seen lent (min a b) (max a b))) n → Near a ⊎ Near b
    at_sides a b c = lower a b (elim (Contains-append_cases (apexes (left_seen lent (min a b) (max a b))) (apexes (right_seen lent (min a b) (max a b))) n c) [
      | inl x ↦ near_left (max a b) n (spokes_in (lent (min a b))) x
      | inr x ↦ near_right (max a b) n (spokes_in (lent (min a b))) x
    ])

    near : (o : Op) → is_some (lent (first_end o)) ≡ true → is_some (lent (second_end o)) ≡ true → Contains (cavity_seen lent o) n → Near (first_end o) ⊎ Near (second_end o)
    near (Flip a b) la lb c = past a b _ la lb (at_sides a b) c
    near (Bisect a b) la lb c = past a b _ la lb (at_sides a b) c
    near (Contract u v) la lb c = past u v _ la lb (λ k. inl (near_listed n (spokes_in (lent u)) k)) c

-- the neighbours one after the other
pub next_is_least_above : (ss : List Spoke) (k : ℕ) → ((n : ℕ) → next_neighbour ss (Some k) ≡ Some n → (k < n) × Contains (neighbours ss) n × ((j : ℕ) → Contains (neighbours ss) j → k < j → n ≤ j)) × (next_neighbour ss (Some k) ≡ None → (j : ℕ) → Contains (neighbours ss) j → j ≤ k)
next_is_least_above ss k = (found, none)
  where
    means : (a b : ℕ) → nat_lt a b ≡ true → a < b
    means a b h = grind (arith, nat_tests)

    test : (a b : ℕ) → a < b → nat_lt a b ≡ true
    test a b l = grind (arith, nat_tests)

    not_above : (a b : ℕ) → nat_lt a b ≡ false → b ≤ a
    not_above a b h = grind (arith, nat_tests)

    found : (n : ℕ) → next_neighbour ss (Some k) ≡ Some n → (k < n) × Contains (neighbours ss) n × ((j : ℕ) → Contains (neighbours ss) j → k < j → n ≤ j)
    found n h = let r = least_that-some (λ j. nat_lt k j) (neighbours ss) n h in (means k n r.1, r.0, λ j c l. r.2 j c (test k j l))

    none : next_neighbour ss (Some k) ≡ None → (j : ℕ) → Contains (neighbours ss) j → j ≤ k
    none h j c = not_above k j (least_that-none (λ i. nat_lt k i) (neighbours ss) j h c)
