-- The steps of turning round a node of a conforming mesh, and whether its spokes are one fan.
-- Assumes `IsConforming m`.
use Rattle.std.proofs.Common.{◌≡◌, ◌≢◌, ℕ, ◌≤◌, ◌⊎◌, inl, inr, List, [], ◌∷◌, length, refl, sym, ◌∙◌, subst, Bool, true, false, ◌==◌, arith, Some, None}
use Rattle.std.specs.Prelude.{Contains}
use Rattle.std.proofs.lemmas.Bool.Decides.{nat_tests}
use Rattle.pf_model.specs.declared.Spoke.{Spoke}
use Rattle.pf_model.specs.Rising.{insert_by}
use Rattle.pf_model.specs.Mesh.{Undivided, is_edge}
use Rattle.pf_model.specs.Conforming.{IsConforming}
use Rattle.pf_model.specs.Stars.{spoke_lt, spokes_of}
use Rattle.pf_model.proofs.Fans.{IsSimple}
use Rattle.pf_model.proofs.FlipKeeps.{corners_of}
use Rattle.pf_model.proofs.Spokes.{spokes-simple, spokes-means}
use Rattle.pf_edges.specs.declared.table.Node.{Node}
use Rattle.pf_edges.specs.Table.{Sides, Shows, triangles_at}
use Rattle.pf_rules.specs.Star.{IsSpokeOn, IsSpokeBefore, IsChain, IsChainToLeft, IsWholeTurn, IsFan}
use Rattle.pf_rules.proofs.StarLists.{right-more}
use Rattle.pf_judge.proofs.StarTurns.{chain-one, chain-left, chain-right, bare-left, bare-right, round-left, round-right, all-found, all-there, all-fan, torn-apart}
use Rattle.pf_rules.proofs.StarSpokes.{spokes-rise, spokes-counted, edge-spoke}

module _ (m : Undivided) (ok : IsConforming m) (u : ℕ) where
  simple : IsSimple (spokes_of m u)
  simple = spokes-simple m ok u

  -- the triangles at the edge to `v`
  ends_differ : (s : Spoke) → Contains (spokes_of m u) s → s.left ≢ s.right
  ends_differ s h e = (corners_of m ok u s.right s.left s.owner (spokes-means m ok u s h)).distinct.two (sym e)

  pub flank-on : (found : List Spoke) (v : ℕ) (x : Spoke) → found ≡ insert_by spoke_lt x [] → IsSpokeOn (spokes_of m u) v (Some x) → IsChain (spokes_of m u) found v x.left
  flank-on found v x e s = let h = s.there x refl in subst (λ l. IsChain (spokes_of m u) l v x.left) (sym e) (subst (λ w. IsChain (spokes_of m u) (x ∷ []) w x.left) h.1 (chain-one (spokes_of m u) simple x h.0))

  pub flank-before : (found : List Spoke) (v : ℕ) (x : Spoke) → found ≡ insert_by spoke_lt x [] → IsSpokeBefore (spokes_of m u) v (Some x) → IsChain (spokes_of m u) found x.right v
  flank-before found v x e s = let h = s.there x refl in subst (λ l. IsChain (spokes_of m u) l x.right v) (sym e) (subst (λ w. IsChain (spokes_of m u) (x ∷ []) x.right w) h.1 (chain-one (spokes_of m u) simple x h.0))

  pub edge_sides-both : (found : List Spoke) (v : ℕ) (x y : Spoke) → found ≡ insert_by spoke_lt y (insert_by spoke_lt x []) → IsSpokeOn (spokes_of m u) v (Some x) → IsSpokeBefore (spokes_of m u) v (Some y) → IsChain (spokes_of m u) found y.right x.left
  edge_sides-both found v x y e s t =
      let h = s.there x refl in
      let k = t.there y refl in
      let one = flank-on (x ∷ []) v x refl s in
      subst (λ l. IsChain (spokes_of m u) l y.right x.left) (sym e) (chain-right (spokes_of m u) simple (x ∷ []) v x.left y one k.0 k.1 (bare-right (spokes_of m u) simple (spokes-rise m ok u) (x ∷ []) v x.left y one k.0 k.1 (λ q. ends_differ x h.0 (q ∙ sym h.1))))

  pub edge_sides-none : (v : ℕ) → is_edge m.tris u v ≡ true → IsSpokeOn (spokes_of m u) v None → IsSpokeBefore (spokes_of m u) v None → ⊥
  edge_sides-none v e s t = let x = edge-spoke m ok u v e in elim x.2 [ inl q ↦ s.absent refl x.0 x.1 q | inr q ↦ t.absent refl x.0 x.1 q ]

  -- turning left
  pub left-step : (found more : List Spoke) (first last : ℕ) (x : Spoke) → IsChain (spokes_of m u) found first last → last ≢ first → IsSpokeOn (spokes_of m u) last (Some x) → more ≡ insert_by spoke_lt x found → IsChain (spokes_of m u) more first x.left
  left-step found more first last x t n s e = let h = s.there x refl in subst (λ l. IsChain (spokes_of m u) l first x.left) (sym e) (chain-left (spokes_of m u) simple found first last x t h.0 h.1 (bare-left (spokes_of m u) simple (spokes-rise m ok u) found first last x t h.0 h.1 n))

  pub left-open : (found : List Spoke) (first last : ℕ) → IsChain (spokes_of m u) found first last → IsSpokeOn (spokes_of m u) last None → IsChainToLeft (spokes_of m u) found first last
  left-open found first last t s = record { chain = t; after = λ r h e. absurd (s.absent refl r h e) }

  pub left-ends : (found : List Spoke) (first last most : ℕ) → IsChain (spokes_of m u) found first last → length (spokes_of m u) ≡ most → (most ≤ length found) ⊎ (last ≡ first) → IsChainToLeft (spokes_of m u) found first last
  left-ends found first last most t e (inl l) = record { chain = t; after = λ s h q. all-there (spokes_of m u) simple (spokes-rise m ok u) found t.part (omega (arith, e, l)) s h }
  left-ends found first last most t e (inr q) = record { chain = t; after = round-left (spokes_of m u) simple found first last t q }

  -- turning right
  pub right-step : (found more : List Spoke) (first last : ℕ) (x : Spoke) → IsChainToLeft (spokes_of m u) found first last → last ≢ first → IsSpokeBefore (spokes_of m u) first (Some x) → more ≡ insert_by spoke_lt x found → IsChainToLeft (spokes_of m u) more x.right last
  right-step found more first last x t n s e =
      let h = s.there x refl in
      subst (λ l. IsChainToLeft (spokes_of m u) l x.right last) (sym e) record {
        chain = chain-right (spokes_of m u) simple found first last x t.chain h.0 h.1 (bare-right (spokes_of m u) simple (spokes-rise m ok u) found first last x t.chain h.0 h.1 n);
        after = λ r k q. right-more r.right x found (t.after r k q);
      }

  pub right-open : (found : List Spoke) (first last : ℕ) → IsChainToLeft (spokes_of m u) found first last → IsSpokeBefore (spokes_of m u) first None → IsWholeTurn (spokes_of m u) found
  right-open found first last t s = record { first = first; last = last; left = t; before = λ r h e. absurd (s.absent refl r h e) }

  pub right-ends : (found : List Spoke) (first last most : ℕ) → IsChainToLeft (spokes_of m u) found first last → length (spokes_of m u) ≡ most → (most ≤ length found) ⊎ (last ≡ first) → IsWholeTurn (spokes_of m u) found
  right-ends found first last most t e (inl l) = record { first = first; last = last; left = t; before = λ s h q. all-there (spokes_of m u) simple (spokes-rise m ok u) found t.chain.part (omega (arith, e, l)) s h }
  right-ends found first last most t e (inr q) = record { first = first; last = last; left = t; before = round-right (spokes_of m u) simple found first last t.chain q }

  -- what was found is all that there is, or no fan
  pub fan-found : (most n : ℕ) (found : List Spoke) → IsWholeTurn (spokes_of m u) found → length (spokes_of m u) ≡ most → n ≡ length found → IsFan (spokes_of m u) (n == most) found
  fan-found most n found t e q = go (n == most) refl
    where
      less : (a b : ℕ) → (a == b) ≡ false → a ≢ b
      less a b h = grind (arith, nat_tests)

      same : (a b : ℕ) → (a == b) ≡ true → a ≡ b
      same a b h = grind (arith, nat_tests)

      enough : (n ≡ most) → length (spokes_of m u) ≤ length found
      enough k = omega (arith, e, q, k)

      go : (b : Bool) → (n == most) ≡ b → IsFan (spokes_of m u) b found
      go true k = record { told = sym (all-fan (spokes_of m u) simple (spokes-rise m ok u) found t.first t.last t.left.chain (enough (same n most k))); whole = λ x. all-found (spokes_of m u) simple (spokes-rise m ok u) found t.left.chain.part (enough (same n most k)) }
      go false k = record { told = sym (torn-apart (spokes_of m u) found simple (spokes-rise m ok u) t (λ x. less n most k (q ∙ (x ∙ e)))); whole = λ x. absurd (let z : false ≡ true = x in cc) }

-- the table counts the spokes
pub counted : (sides : Sides) (nodes : List Node) (m : Undivided) → Shows sides nodes m → (u most : ℕ) → most ≡ triangles_at nodes u → length (spokes_of m u) ≡ most
counted sides nodes m s u most e = sym (spokes-counted m u) ∙ (sym (s.triangles.counts u) ∙ sym e)
