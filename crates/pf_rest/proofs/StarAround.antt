-- Spokes appended by rising right, and walks round a node by spokes that are at hand.
-- Walks assume `IsConforming m`.
use Rattle.std.proofs.Common.{◌≡◌, ◌≢◌, ℕ, suc, ◌+◌, ◌-◌, ◌<◌, ◌≤◌, ◌⊎◌, inl, inr, List, [], ◌∷◌, ◌++◌, length, get_or, refl, sym, subst, true, false, arith, Some, ◌==◌}
use Rattle.std.specs.Prelude.{Contains, nat_lt}
use Rattle.std.proofs.lemmas.Bool.Decides.{nat_tests}
use Rattle.std.proofs.lemmas.List.{get_or_default}
use Rattle.std.proofs.lemmas.List.Elements.{Contains-push_cases}
use Rattle.pf_model.specs.declared.Spoke.{Spoke}
use Rattle.pf_model.specs.Rising.{IsRising, insert_by}
use Rattle.pf_model.specs.Mesh.{Undivided}
use Rattle.pf_model.specs.Conforming.{IsConforming}
use Rattle.pf_model.specs.Stars.{spoke_lt, spokes_of, left_after, is_one_fan}
use Rattle.pf_model.proofs.Members.{nowhere, here, there}
use Rattle.pf_model.proofs.RisingLemmas.{rising-nil, rising-head, rising-tail, rising-cons}
use Rattle.pf_model.proofs.Fans.{IsSimple, left_after-some}
use Rattle.pf_model.proofs.Spokes.{spokes-simple}
use Rattle.pf_edge_list.specs.declared.edges.Sided.{Sided}
use Rattle.pf_edge_list.specs.Edges.{IsSided}
use Rattle.pf_rules.specs.Star.{AreSomeOf, IsChain}
use Rattle.pf_edges.specs.Table.{Sides, side_at}
use Rattle.pf_rest.specs.Around.{IsWalked}
use Rattle.pf_rules.proofs.StarLists.{spoke_order}
use Rattle.pf_judge.proofs.StarTurns.{chain-one, chain-left, bare-left, all-found, all-fan}
use Rattle.pf_rules.proofs.StarSpokes.{spokes-rise, length-insert}

-- what is below the last of a rising list is below all
all-below : (xs : List Spoke) (s : Spoke) → IsRising spoke_lt xs → ((d : Spoke) → spoke_lt (get_or xs (length xs - 1) d) s ≡ true) → (z : Spoke) → Contains xs z → spoke_lt z s ≡ true
all-below xs s up last z h = go (before h.0 (length xs) h.1)
  where
    before : (i n : ℕ) → i < n → (i < n - 1) ⊎ (i ≡ n - 1)
    before i n l = grind arith

    go : (h.0 < length xs - 1) ⊎ (h.0 ≡ length xs - 1) → spoke_lt z s ≡ true
    go (inl l) = spoke_order.transitive z (get_or xs (length xs - 1) z) s (subst (λ w. spoke_lt w (get_or xs (length xs - 1) z) ≡ true) h.2 (up h.0 (length xs - 1) z l (let k = h.1 in omega arith))) (last z)
    go (inr e) = subst (λ w. spoke_lt w s ≡ true) h.2 (subst (λ i. spoke_lt (get_or xs i z) s ≡ true) (sym e) (last z))

-- a spoke appended to a rising list that is below it
rising-push : (xs : List Spoke) (s : Spoke) → IsRising spoke_lt xs → ((z : Spoke) → Contains xs z → spoke_lt z s ≡ true) → IsRising spoke_lt (xs ++ s ∷ [])
rising-push [] s up below = rising-cons spoke_lt s [] (λ z h. absurd (nowhere z h)) (rising-nil spoke_lt)
rising-push (x ∷ xs) s up below =
    rising-cons spoke_lt x (xs ++ s ∷ [])
    (λ z h. elim (Contains-push_cases xs s z h) [ inl i ↦ rising-head spoke_lt x z xs up i | inr e ↦ subst (λ w. spoke_lt x w ≡ true) e (below x (here x xs)) ])
    (rising-push xs s (rising-tail spoke_lt x xs up) (λ z h. below z (there z x xs h)))

pub rising-after : (xs : List Spoke) (s blank : Spoke) (right : ℕ) → false ≡ (length xs == 0) → nat_lt (get_or xs (length xs - 1) blank).right right ≡ true → IsRising spoke_lt xs → s.right ≡ right → IsRising spoke_lt (xs ++ s ∷ [])
rising-after xs s blank right some below up e = rising-push xs s up (all-below xs s up last)
  where
    there_is : (n : ℕ) → false ≡ (n == 0) → n - 1 < n
    there_is n h = grind (arith, nat_tests)

    last : (d : Spoke) → spoke_lt (get_or xs (length xs - 1) d) s ≡ true
    last d =
        subst (λ r. spoke_lt r s ≡ true) (get_or_default xs (length xs - 1) blank d (there_is (length xs) some))
        (subst (λ n. nat_lt (get_or xs (length xs - 1) blank).right n ≡ true) (sym e) below)

-- none of the spokes
pub part-nil : (spokes : List Spoke) → AreSomeOf spokes []
part-nil spokes = record { rise = rising-nil spoke_lt; within = λ z h. absurd (nowhere z h) }

-- the sides of an edge, from one of its ends
pub arm-left : (table : Sides) (e : Sided) (u : ℕ) → IsSided table e → e.span.lo ≡ u → e.edge_sides.left ≡ side_at table u e.span.hi
arm-left table e u s q = subst (λ w. e.edge_sides.left ≡ side_at table w e.span.hi) q s.left

pub arm-right : (table : Sides) (e : Sided) (u : ℕ) → IsSided table e → e.span.hi ≡ u → e.edge_sides.right ≡ side_at table u e.span.lo
arm-right table e u s q = subst (λ w. e.edge_sides.right ≡ side_at table w e.span.lo) q s.right

module _ (m : Undivided) (ok : IsConforming m) (u : ℕ) where
  simple : IsSimple (spokes_of m u)
  simple = spokes-simple m ok u

  -- the first spoke of a walk
  pub walked-one : (star : List Spoke) (first left : ℕ) → star ≡ spokes_of m u → Some left ≡ left_after star first → IsWalked (spokes_of m u) 1 first left
  walked-one star first left e k =
      let r = left_after-some (spokes_of m u) first left (subst (λ l. left_after l first ≡ Some left) e (sym k)) in
      record {
        found = insert_by spoke_lt r.0 [];
        met = refl;
        chain = subst (λ l. IsChain (spokes_of m u) (insert_by spoke_lt r.0 []) first l) r.3 (subst (λ w. IsChain (spokes_of m u) (insert_by spoke_lt r.0 []) w r.0.left) r.2 (chain-one (spokes_of m u) simple r.0 r.1));
      }

  -- the next spoke
  pub walked-more : (star : List Spoke) (n first last left : ℕ) → star ≡ spokes_of m u → IsWalked (spokes_of m u) n first last → last ≢ first → Some left ≡ left_after star last → IsWalked (spokes_of m u) (n + 1) first left
  walked-more star n first last left e t apart k =
      let r = left_after-some (spokes_of m u) last left (subst (λ l. left_after l last ≡ Some left) e (sym k)) in
      let bare = bare-left (spokes_of m u) simple (spokes-rise m ok u) t.found first last r.0 t.chain r.1 r.2 apart in
      record {
        found = insert_by spoke_lt r.0 t.found;
        met = one_more (length (insert_by spoke_lt r.0 t.found)) (length t.found) (length-insert r.0 t.found) t.met;
        chain = subst (λ l. IsChain (spokes_of m u) (insert_by spoke_lt r.0 t.found) first l) r.3 (chain-left (spokes_of m u) simple t.found first last r.0 t.chain r.1 r.2 bare);
      }
    where
      one_more : (a b : ℕ) → a ≡ suc b → b ≡ n → a ≡ n + 1
      one_more a b p q = omega arith

  -- a walk that meets as many spokes as there are
  pub walked-all : (star : List Spoke) (n first last : ℕ) → star ≡ spokes_of m u → IsWalked (spokes_of m u) n first last → n ≡ length star → is_one_fan (spokes_of m u) ≡ true
  walked-all star n first last e t k = all-fan (spokes_of m u) simple (spokes-rise m ok u) t.found first last t.chain (subst (λ l. length l ≤ length t.found) e (let q = t.met in omega arith))

  -- as many as there are
  pub part-all : (found : List Spoke) → AreSomeOf (spokes_of m u) found → length (spokes_of m u) ≡ length found → found ≡ spokes_of m u
  part-all found p e = all-found (spokes_of m u) simple (spokes-rise m ok u) found p (omega arith)
