-- Turning round a node, spoke by spoke: what is known after each step, and that all spokes are one fan then, and fewer are none.
-- Assumes that no two spokes have the same right, and no two the same left (`IsSimple`).
use Rattle.std.proofs.Common.{◌≡◌, ◌≢◌, ℕ, zero, suc, ◌<◌, ◌≤◌, List, [], ◌∷◌, ◌++◌, length, refl, sym, ◌∙◌, ap, subst, Bool, true, false, not, ◌⊎◌, inl, inr, arith, ◌==◌, Option, Some, None}
use Rattle.std.specs.Prelude.{Contains, map, nat_lt}
use Rattle.std.proofs.lemmas.Bool.Decides.{nat_tests}
use Rattle.std.proofs.lemmas.List.Elements.{Contains-append_cases, Contains-append_left, Contains-append_right}
use Rattle.pf_model.specs.declared.Spoke.{Spoke}
use Rattle.pf_model.specs.Rising.{IsRising, AreDifferent, insert_by}
use Rattle.pf_model.specs.Stars.{spoke_lt, left_after, without_right, run_leaves, run_start, is_one_fan}
use Rattle.pf_model.specs.Fans.{AreBeside, IsOrderOf}
use Rattle.pf_model.proofs.Members.{nowhere, here, there, cases, filter-in, filter-out, insert_by-new, insert_by-old, insert_by-cases}
use Rattle.pf_model.proofs.RisingLemmas.{rising-nil, rising-same, rising-head, rising-tail}
use Rattle.pf_model.proofs.Totals.{different-append, map-means}
use Rattle.pf_model.proofs.Fans.{IsSimple, left_after-some}
use Rattle.pf_model.proofs.OneFan.{beside_next, beside_rights, beside_join, beside_last, beside_fan, cycle_closes, cycle_ends}
use Rattle.pf_rules.specs.Star.{AreSomeOf, IsChain, IsWholeTurn}
use Rattle.pf_spokes.specs.Spokes.{has_right}
use Rattle.pf_rules.proofs.StarLists.{eq_holds, apart, bool_cases, right-in, right-means, part-more, part-length, rising-one, spoke_order}

some_length : (ss : List Spoke) (s : Spoke) → Contains ss s → 0 < length ss
some_length [] s h = absurd (nowhere s h)
some_length (x ∷ xs) s h = omega arith

-- rights that rise are different
rising-rights : (ss : List Spoke) → IsRising spoke_lt ss → AreDifferent (map (λ s. s.right) ss)
rising-rights [] up = tt
rising-rights (x ∷ xs) up = ((λ w h e. (let r = map-means (λ s. s.right) xs w h in clash x.right r.0.right (rising-head spoke_lt x r.0 xs up r.1) (e ∙ sym r.2))), rising-rights xs (rising-tail spoke_lt x xs up))
  where
    clash : (a b : ℕ) → nat_lt a b ≡ true → a ≡ b → ⊥
    clash a b l q = grind (arith, nat_tests)

first_of_list : (ss : List Spoke) → 0 < length ss → (s : Spoke) × Contains ss s
first_of_list [] l = absurd (let k : 0 < 0 = l in omega arith)
first_of_list (s ∷ ss) l = (s, here s ss)

module _ (spokes : List Spoke) (o : IsSimple spokes) where
  part-simple : (found : List Spoke) → AreSomeOf spokes found → IsSimple found
  part-simple found p =
      record {
        one_left = λ s t hs ht e. o.one_left s t (p.within s hs) (p.within t ht) e;
        one_right = λ s t hs ht e. o.one_right s t (p.within s hs) (p.within t ht) e;
        different = rising-rights found p.rise;
      }

  -- one spoke alone
  pub chain-one : (s : Spoke) → Contains spokes s → IsChain spokes (insert_by spoke_lt s []) s.right s.left
  chain-one s h =
      record {
        part = part-more spokes [] s record { rise = rising-nil spoke_lt; within = λ r k. absurd (nowhere r k) } h refl;
        some = some_length (s ∷ []) s (here s []);
        order = s ∷ [];
        orders = record { all = λ r k. k; only = λ r k. k; once = ((λ r k e. nowhere r k), tt) };
        beside = (refl, refl);
      }

  -- one more on the left
  pub chain-left : (found : List Spoke) (first last : ℕ) (s : Spoke) → IsChain spokes found first last → Contains spokes s → s.right ≡ last → has_right s.right found ≡ false → IsChain spokes (insert_by spoke_lt s found) first s.left
  chain-left found first last s t h e bare =
      record {
        part = part-more spokes found s t.part h bare;
        some = some_length (insert_by spoke_lt s found) s (insert_by-new spoke_lt s found);
        order = t.order ++ s ∷ [];
        orders =
            record {
              all = λ r k. elim (insert_by-cases spoke_lt s r found k) [ inl q ↦ Contains-append_right t.order (s ∷ []) r (subst (λ w. Contains (w ∷ []) r) q (here r [])) | inr i ↦ Contains-append_left t.order (s ∷ []) r (t.orders.all r i) ];
              only = λ r k. elim (Contains-append_cases t.order (s ∷ []) r k) [ inl i ↦ insert_by-old spoke_lt s r found (t.orders.only r i) | inr i ↦ elim (cases r s [] i) [ inl q ↦ subst (λ w. Contains (insert_by spoke_lt s found) w) (sym q) (insert_by-new spoke_lt s found) | inr n ↦ absurd (nowhere r n) ] ];
              once = different-append t.order (s ∷ []) t.orders.once ((λ r k q. nowhere r k), tt) (λ r i j. elim (cases r s [] j) [ inl q ↦ apart _ (right-in s.right found r (t.orders.only r i) (ap (λ w. w.right) q)) bare | inr n ↦ nowhere r n ]);
            };
        beside = beside_join t.order (s ∷ []) first last s.left t.beside (e, refl);
      }

  -- one more on the right
  pub chain-right : (found : List Spoke) (first last : ℕ) (s : Spoke) → IsChain spokes found first last → Contains spokes s → s.left ≡ first → has_right s.right found ≡ false → IsChain spokes (insert_by spoke_lt s found) s.right last
  chain-right found first last s t h e bare =
      record {
        part = part-more spokes found s t.part h bare;
        some = some_length (insert_by spoke_lt s found) s (insert_by-new spoke_lt s found);
        order = s ∷ t.order;
        orders =
            record {
              all = λ r k. elim (insert_by-cases spoke_lt s r found k) [ inl q ↦ subst (λ w. Contains (w ∷ t.order) r) q (here r t.order) | inr i ↦ there r s t.order (t.orders.all r i) ];
              only = λ r k. elim (cases r s t.order k) [ inl q ↦ subst (λ w. Contains (insert_by spoke_lt s found) w) (sym q) (insert_by-new spoke_lt s found) | inr i ↦ insert_by-old spoke_lt s r found (t.orders.only r i) ];
              once = ((λ r k q. apart _ (right-in s.right found r (t.orders.only r k) (ap (λ w. w.right) (sym q))) bare), t.orders.once);
            };
        beside = (refl, subst (λ w. AreBeside w t.order last) (sym e) t.beside);
      }

  -- the spoke where they end is none of them, unless they end where they begin
  module _ (up : IsRising spoke_lt spokes) where
    one-of : (found : List Spoke) (s : Spoke) → AreSomeOf spokes found → Contains spokes s → has_right s.right found ≡ true → Contains found s
    one-of found s p h e = let r = right-means s.right found e in subst (λ w. Contains found w) (rising-one spokes up r.0 s (p.within r.0 r.1) h r.2) r.1

    pub bare-left : (found : List Spoke) (first last : ℕ) (s : Spoke) → IsChain spokes found first last → Contains spokes s → s.right ≡ last → last ≢ first → has_right s.right found ≡ false
    bare-left found first last s t h e n = elim (bool_cases (has_right s.right found)) [ inr x ↦ x | inl x ↦ absurd (n (cycle_ends t.order found first last (part-simple found t.part) t.orders t.beside s (t.orders.all s (one-of found s t.part h x)) e)) ]

    pub bare-right : (found : List Spoke) (first last : ℕ) (s : Spoke) → IsChain spokes found first last → Contains spokes s → s.left ≡ first → last ≢ first → has_right s.right found ≡ false
    bare-right found first last s t h e n = elim (bool_cases (has_right s.right found)) [ inr x ↦ x | inl x ↦ absurd (n (cycle_closes t.order found first last (part-simple found t.part) t.orders t.beside s (one-of found s t.part h x) e)) ]

  -- where they end where they begin, they have the spoke there
  pub round-left : (found : List Spoke) (first last : ℕ) → IsChain spokes found first last → last ≡ first → (s : Spoke) → Contains spokes s → s.right ≡ last → has_right s.right found ≡ true
  round-left found first last t q s h e = go t.order t.orders t.beside
    where
      go : (order : List Spoke) → IsOrderOf order found → AreBeside first order last → has_right s.right found ≡ true
      go [] a b = absurd (let f = first_of_list found t.some in nowhere f.0 (a.all f.0 f.1))
      go (c ∷ order) a b = right-in s.right found c (a.only c (here c order)) (b.0 ∙ (sym q ∙ sym e))

  pub round-right : (found : List Spoke) (first last : ℕ) → IsChain spokes found first last → last ≡ first → (s : Spoke) → Contains spokes s → s.left ≡ first → has_right s.right found ≡ true
  round-right found first last t q s h e = go t.order t.orders t.beside
    where
      go : (order : List Spoke) → IsOrderOf order found → AreBeside first order last → has_right s.right found ≡ true
      go [] a b = absurd (let f = first_of_list found t.some in nowhere f.0 (a.all f.0 f.1))
      go (c ∷ order) a b = let l = beside_last order first last c b in let k = a.only l.0 l.1 in right-in s.right found l.0 k (o.one_right l.0 s (t.part.within l.0 k) h (l.2 ∙ (q ∙ sym e)))

  -- as many as there are
  module _ (up : IsRising spoke_lt spokes) where
    pub all-found : (found : List Spoke) → AreSomeOf spokes found → length spokes ≤ length found → found ≡ spokes
    all-found found p l = elim (part-length found spokes p.rise up p.within) [ inl e ↦ e | inr k ↦ absurd (omega (arith, l, k)) ]

    pub all-there : (found : List Spoke) → AreSomeOf spokes found → length spokes ≤ length found → (s : Spoke) → Contains spokes s → has_right s.right found ≡ true
    all-there found p l s h = right-in s.right found s (subst (λ w. Contains w s) (sym (all-found found p l)) h) refl

    -- then they are one fan
    pub all-fan : (found : List Spoke) (first last : ℕ) → IsChain spokes found first last → length spokes ≤ length found → is_one_fan spokes ≡ true
    all-fan found first last t l = beside_fan t.order spokes first last o (subst (λ w. IsOrderOf t.order w) (all-found found t.part l) t.orders) t.beside

  -- the spoke that begins where one of these ends is one of these
  goes-on : (found : List Spoke) → IsWholeTurn spokes found → (r s : Spoke) → Contains found r → Contains spokes s → s.right ≡ r.left → has_right s.right found ≡ true
  goes-on found t r s h k e = go t.left.chain.order t.left.chain.orders t.left.chain.beside
    where
      go : (order : List Spoke) → IsOrderOf order found → AreBeside t.first order t.last → has_right s.right found ≡ true
      go [] a b = absurd (nowhere r (a.all r h))
      go (c ∷ order) a b = elim (beside_next order t.first t.last c b r (a.all r h)) [ inl q ↦ t.left.after s k (e ∙ q) | inr u ↦ right-in s.right found u.0 (a.only u.0 (there u.0 c order u.1)) (u.2 ∙ sym e) ]

  -- so is the spoke that ends where one of these begins
  comes-from : (found : List Spoke) → IsWholeTurn spokes found → (r s : Spoke) → Contains found r → Contains spokes s → s.left ≡ r.right → has_right s.right found ≡ true
  comes-from found t r s h k e =
      let c = t.left.chain in
      elim (beside_rights c.order t.first t.last c.beside r (c.orders.all r h)) [
        | inl q ↦ t.before s k (e ∙ q)
        | inr p ↦ (let i = c.orders.only p.0 p.1 in right-in s.right found p.0 i (o.one_right p.0 s (c.part.within p.0 i) k (p.2 ∙ sym e)))
      ]

-- a run stays among the spokes where it begins, if the test tells no two spokes apart that meet
pub run-stays : (p : ℕ → Bool) (b : Bool) (most : ℕ) (ss : List Spoke) (right : ℕ)
    → ((r s : Spoke) → Contains ss r → Contains ss s → s.right ≡ r.left → p s.right ≡ p r.right)
    → ((s : Spoke) → Contains ss s → s.right ≡ right → p s.right ≡ b)
    → (x : Spoke) → Contains ss x → p x.right ≡ not b → run_leaves most ss right ≡ [] → ⊥
run-stays p b zero ss right meets begins x h e q = nowhere x (subst (λ l. Contains l x) q h)
run-stays p b (suc most) ss right meets begins x h e q = go (left_after ss right) refl q (λ l m k c g. run-stays p b most (without_right right ss) l m k x c e g)
  where
    out : (s : Spoke) → Contains (without_right right ss) s → Contains ss s
    out s k = (filter-out (λ s. not (s.right == right)) s ss k).0

    other : (y z : Bool) → y ≡ z → y ≡ not z → ⊥
    other true true f g = absurd (let k : true ≡ false = g in cc)
    other true false f g = absurd (let k : true ≡ false = f in cc)
    other false true f g = absurd (let k : false ≡ true = f in cc)
    other false false f g = absurd (let k : false ≡ true = g in cc)

    stays : Contains (without_right right ss) x
    stays = filter-in (λ s. not (s.right == right)) x ss h (test (x.right == right) refl)
      where
        use_eq : (x.right == right) ≡ true → x.right ≡ right
        use_eq k = eq_holds x.right right k

        test : (c : Bool) → (x.right == right) ≡ c → not c ≡ true
        test true k = absurd (other (p x.right) b (begins x h (use_eq k)) e)
        test false k = refl

    go : (a : Option ℕ) → left_after ss right ≡ a → (let left : List Spoke = elim a [ None ↦ ss | Some next ↦ run_leaves most (without_right right ss) next ] in left ≡ [])
        → ((l : ℕ) → ((r s : Spoke) → Contains (without_right right ss) r → Contains (without_right right ss) s → s.right ≡ r.left → p s.right ≡ p r.right) → ((s : Spoke) → Contains (without_right right ss) s → s.right ≡ l → p s.right ≡ b) → Contains (without_right right ss) x → run_leaves most (without_right right ss) l ≡ [] → ⊥) → ⊥
    go None f g ih = nowhere x (subst (λ l. Contains l x) g h)
    go (Some l) f g ih =
        let first = left_after-some ss right l f in
        ih l (λ r s i j k. meets r s (out r i) (out s j) k) (λ s i k. meets first.0 s first.1 (out s i) (k ∙ sym first.3) ∙ begins first.0 first.1 first.2) stays g

-- each has the test, or one hasn't
each_or_one : (p : ℕ → Bool) (ss : List Spoke) → ((s : Spoke) → Contains ss s → p s.right ≡ true) ⊎ ((s : Spoke) × Contains ss s × (p s.right ≡ false))
each_or_one p [] = inl (λ s h. absurd (nowhere s h))
each_or_one p (x ∷ xs) = go (bool_cases (p x.right)) (each_or_one p xs)
  where
    go : (p x.right ≡ true) ⊎ (p x.right ≡ false) → ((s : Spoke) → Contains xs s → p s.right ≡ true) ⊎ ((s : Spoke) × Contains xs s × (p s.right ≡ false)) → ((s : Spoke) → Contains (x ∷ xs) s → p s.right ≡ true) ⊎ ((s : Spoke) × Contains (x ∷ xs) s × (p s.right ≡ false))
    go (inr e) r = inr (x, here x xs, e)
    go (inl e) (inr r) = inr (r.0, there r.0 x xs r.1, r.2)
    go (inl e) (inl r) = inl (λ s h. elim (cases s x xs h) [ inl q ↦ subst (λ w. p w.right ≡ true) (sym q) e | inr i ↦ r s i ])

-- fewer were found than there are: they are no one fan
pub torn-apart : (spokes found : List Spoke) → IsSimple spokes → IsRising spoke_lt spokes → IsWholeTurn spokes found → length found ≢ length spokes → is_one_fan spokes ≡ false
torn-apart spokes found o up t less = go (is_one_fan spokes) refl
  where
    p : ℕ → Bool
    p n = has_right n found

    meets : (r s : Spoke) → Contains spokes r → Contains spokes s → s.right ≡ r.left → has_right s.right found ≡ has_right r.right found
    meets r s h k e = elim (bool_cases (has_right r.right found)) [
      | inl x ↦ (let f = right-means r.right found x in goes-on spokes o found t f.0 s f.1 k (e ∙ o.one_left r f.0 h (t.left.chain.part.within f.0 f.1) (sym f.2))) ∙ sym x
      | inr x ↦ elim (bool_cases (has_right s.right found)) [
        | inr y ↦ y ∙ sym x
        | inl y ↦ absurd (let f = right-means s.right found y in apart _ (comes-from spokes o found t f.0 r f.1 h (sym e ∙ sym f.2)) x)
      ]
    ]

    outside : (s : Spoke) × Contains spokes s × (has_right s.right found ≡ false)
    outside = elim (each_or_one (λ n. has_right n found) spokes) [
      | inr r ↦ r
      | inl all ↦ absurd (less (ap length (rising-same spoke_lt spoke_order found spokes t.left.chain.part.rise up t.left.chain.part.within (λ s h. let f = right-means s.right found (all s h) in subst (λ w. Contains found w) (same f.0 s (t.left.chain.part.within f.0 f.1) h f.2) f.1))))
    ]
      where
        same : (a b : Spoke) → Contains spokes a → Contains spokes b → a.right ≡ b.right → a ≡ b
        same a b h k e = rising-one spokes up a b h k e

    left_over : (b : Bool) → has_right (run_start spokes) found ≡ b → run_leaves (length spokes) spokes (run_start spokes) ≡ [] → ⊥
    left_over true e q = run-stays (λ n. has_right n found) true (length spokes) spokes (run_start spokes) meets (λ s h k. ap (λ n. has_right n found) k ∙ e) outside.0 outside.1 outside.2 q
    left_over false e q = let f = first_of_list found t.left.chain.some in run-stays (λ n. has_right n found) false (length spokes) spokes (run_start spokes) meets (λ s h k. ap (λ n. has_right n found) k ∙ e) f.0 (t.left.chain.part.within f.0 f.1) (right-in f.0.right found f.0 f.1 refl) q

    none_left : (ss : List Spoke) → (length ss == 0) ≡ true → ss ≡ []
    none_left [] h = refl
    none_left (s ∷ ss) h = absurd (let e : suc (length ss) ≡ 0 = eq_holds (suc (length ss)) 0 h in omega arith)

    go : (b : Bool) → is_one_fan spokes ≡ b → b ≡ false
    go false e = refl
    go true e = absurd (left_over (has_right (run_start spokes) found) refl (none_left (run_leaves (length spokes) spokes (run_start spokes)) e))
