-- The nodes past the last live name add no site.
use Rattle.std.proofs.Common.{◌≡◌, ℕ, zero, suc, ◌<◌, ◌≤◌, List, [], ◌∷◌, length, take, refl, sym, ◌∙◌, ap, Bool, true, false, cond, arith, Some, None, is_some, ◌⊎◌, inl, inr}
use Rattle.std.specs.Prelude.{nat_lt}
use Rattle.std.proofs.lemmas.Bool.Decides.{nat_tests}
use Rattle.pf_model.specs.Mesh.{Undivided}
use Rattle.pf_model.specs.Conforming.{IsLive}
use Rattle.pf_edges.specs.declared.table.Node.{Node}
use Rattle.pf_edges.specs.Table.{Sides, triangles_at, place_at, Shows}
use Rattle.pf_apply.specs.BuildSteps.{live_sites}
use Rattle.pf_apply.proofs.MeshLemmas.{live-within}

none-live : (k : ℕ) (nodes : List Node) → ((j : ℕ) → triangles_at nodes j ≡ 0) → live_sites k nodes ≡ []
none-live k [] h = refl
none-live k (n ∷ ns) h = ap (λ x. cond (nat_lt 0 x) (record { name = k; at = n.at } ∷ live_sites (suc k) ns) (live_sites (suc k) ns)) (h 0) ∙ none-live (suc k) ns (λ j. h (suc j))

cut : (k end : ℕ) (nodes : List Node) → ((j : ℕ) → end ≤ j → triangles_at nodes j ≡ 0) → live_sites k (take end nodes) ≡ live_sites k nodes
cut k zero nodes h = sym (none-live k nodes (λ j. h j (omega arith)))
cut k (suc end) [] h = refl
cut k (suc end) (n ∷ ns) h = go (nat_lt 0 n.triangles) (cut (suc k) end ns (λ j l. h (suc j) (omega arith)))
  where
    go : (b : Bool) → live_sites (suc k) (take end ns) ≡ live_sites (suc k) ns → cond b (record { name = k; at = n.at } ∷ live_sites (suc k) (take end ns)) (live_sites (suc k) (take end ns)) ≡ cond b (record { name = k; at = n.at } ∷ live_sites (suc k) ns) (live_sites (suc k) ns)
    go true e = ap (λ ss. record { name = k; at = n.at } ∷ ss) e
    go false e = e

pub sites-cut : (sides : Sides) (nodes : List Node) (m : Undivided) (names end : ℕ) → Shows sides nodes m → ((n : ℕ) → IsLive m n → n < names) → ((n : ℕ) → n < length nodes → n < names → n < end) → live_sites 0 (take end nodes) ≡ live_sites 0 nodes
sites-cut sides nodes m names end s below within = cut 0 end nodes bare
  where
    zero_or : (a : ℕ) → (a ≡ 0) ⊎ (nat_lt 0 a ≡ true)
    zero_or a = grind (arith, nat_tests)

    bare : (j : ℕ) → end ≤ j → triangles_at nodes j ≡ 0
    bare j l = elim (zero_or (triangles_at nodes j)) [
      | inl e ↦ e
      | inr e ↦ absurd (let live : IsLive m j = ap is_some (sym (s.sites j)) ∙ ap (λ b. is_some (cond b (Some (place_at nodes j)) None)) e in let k = within j (live-within sides nodes m s j live) (below j live) in omega (arith, k, l))
    ]
