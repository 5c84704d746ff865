-- The nodes with triangles, listed by name, are the sites of the mesh that the table shows.
use Rattle.std.proofs.Common.{◌≡◌, ℕ, zero, suc, ◌+◌, ◌<◌, List, [], ◌∷◌, refl, sym, ◌∙◌, ap, subst, Bool, true, false, cond, ◌⊎◌, inl, inr, arith, Some, None, ◌==◌}
use Rattle.std.specs.Prelude.{Contains, nat_lt}
use Rattle.std.proofs.lemmas.Bool.Decides.{nat_tests}
use Rattle.pf_geom.specs.declared.Point.{Point}
use Rattle.pf_model.specs.declared.Site.{Site}
use Rattle.pf_model.specs.Rising.{IsRising}
use Rattle.pf_model.specs.Mesh.{Undivided, point_of}
use Rattle.pf_model.specs.Conforming.{IsConforming}
use Rattle.pf_model.proofs.Members.{nowhere, here, there, cases}
use Rattle.pf_model.proofs.RisingLemmas.{IsStrictOrder, rising-nil, rising-cons, rising-head, rising-tail, rising-same}
use Rattle.pf_edges.specs.declared.table.Node.{Node}
use Rattle.pf_edges.specs.Table.{Sides, site_at, Shows}
use Rattle.pf_apply.specs.BuildSteps.{live_sites}

-- the order of sites: by name
abbrev pub site_lt : Site → Site → Bool
site_lt r s = nat_lt r.name s.name

site_order : IsStrictOrder site_lt
site_order = record { irreflexive = λ x. not_below x.name; transitive = λ x y z h k. below x.name y.name z.name h k }
  where
    not_below : (a : ℕ) → nat_lt a a ≡ false
    not_below a = grind (arith, nat_tests)

    below : (a b c : ℕ) → nat_lt a b ≡ true → nat_lt b c ≡ true → nat_lt a c ≡ true
    below a b c h k = grind (arith, nat_tests)

-- what a listed site says of the table
listed_means : (k : ℕ) (nodes : List Node) (s : Site) → Contains (live_sites k nodes) s → (j : ℕ) × (s.name ≡ k + j) × (site_at nodes j ≡ Some s.at)
listed_means k [] s h = absurd (nowhere s h)
listed_means k (n ∷ ns) s h = go (nat_lt 0 n.triangles) refl h (λ i. listed_means (suc k) ns s i)
  where
    Found : Type 0
    Found = (j : ℕ) × (s.name ≡ k + j) × (site_at (n ∷ ns) j ≡ Some s.at)

    later : (j : ℕ) × (s.name ≡ suc k + j) × (site_at ns j ≡ Some s.at) → (j : ℕ) × (s.name ≡ k + j) × (site_at (n ∷ ns) j ≡ Some s.at)
    later r = (suc r.0, (let e = r.1 in omega arith), r.2)

    go : (b : Bool) → nat_lt 0 n.triangles ≡ b → Contains (cond b (record { name = k; at = n.at } ∷ live_sites (suc k) ns) (live_sites (suc k) ns)) s → (Contains (live_sites (suc k) ns) s → (j : ℕ) × (s.name ≡ suc k + j) × (site_at ns j ≡ Some s.at)) → (j : ℕ) × (s.name ≡ k + j) × (site_at (n ∷ ns) j ≡ Some s.at)
    go true e i ih = elim (cases s record { name = k; at = n.at } (live_sites (suc k) ns) i) [
      | inl q ↦ (0, (let x : s.name ≡ k = ap (λ w. w.name) q in omega arith), ap (λ b. cond b (Some n.at) None) e ∙ ap (λ w. Some w) (sym (ap (λ w. w.at) q)))
      | inr r ↦ later (ih r)
    ]
    go false e i ih = later (ih i)

listed_has : (k : ℕ) (nodes : List Node) (j : ℕ) (p : Point) → site_at nodes j ≡ Some p → (s : Site) × Contains (live_sites k nodes) s × (s.name ≡ k + j) × (s.at ≡ p)
listed_has k [] j p e = absurd (let x : None ≡ Some p = e in cc)
listed_has k (n ∷ ns) zero p e = go (nat_lt 0 n.triangles) refl e
  where
    go : (b : Bool) → nat_lt 0 n.triangles ≡ b → cond b (Some n.at) None ≡ Some p → (s : Site) × Contains (cond b (record { name = k; at = n.at } ∷ live_sites (suc k) ns) (live_sites (suc k) ns)) s × (s.name ≡ k + 0) × (s.at ≡ p)
    go true f q = (record { name = k; at = n.at }, here record { name = k; at = n.at } (live_sites (suc k) ns), omega arith, (let x : Some n.at ≡ Some p = q in cc))
    go false f q = absurd (let x : None ≡ Some p = q in cc)
listed_has k (n ∷ ns) (suc j) p e = go (nat_lt 0 n.triangles) (listed_has (suc k) ns j p e)
  where
    go : (b : Bool) → (s : Site) × Contains (live_sites (suc k) ns) s × (s.name ≡ suc k + j) × (s.at ≡ p) → (s : Site) × Contains (cond b (record { name = k; at = n.at } ∷ live_sites (suc k) ns) (live_sites (suc k) ns)) s × (s.name ≡ k + suc j) × (s.at ≡ p)
    go true r = (r.0, there r.0 record { name = k; at = n.at } (live_sites (suc k) ns) r.1, (let x = r.2 in omega arith), r.3)
    go false r = (r.0, r.1, (let x = r.2 in omega arith), r.3)

listed_rising : (k : ℕ) (nodes : List Node) → IsRising site_lt (live_sites k nodes)
listed_rising k [] = rising-nil site_lt
listed_rising k (n ∷ ns) = go (nat_lt 0 n.triangles) (listed_rising (suc k) ns)
  where
    above : (a b j : ℕ) → b ≡ suc a + j → nat_lt a b ≡ true
    above a b j e = grind (arith, nat_tests)

    go : (b : Bool) → IsRising site_lt (live_sites (suc k) ns) → IsRising site_lt (cond b (record { name = k; at = n.at } ∷ live_sites (suc k) ns) (live_sites (suc k) ns))
    go true ih = rising-cons site_lt record { name = k; at = n.at } (live_sites (suc k) ns) (λ z h. let m = listed_means (suc k) ns z h in above k z.name m.0 m.1) ih
    go false ih = ih

same_name : (a b : ℕ) → (a == b) ≡ true → a ≡ b
same_name a b e = grind (arith, nat_tests)

-- a point that is found is a site's
pub found-site : (ss : List Site) (k : ℕ) (p : Point) → point_of ss k ≡ Some p → (s : Site) × Contains ss s × (s.name ≡ k) × (s.at ≡ p)
found-site [] k p e = absurd (let x : None ≡ Some p = e in cc)
found-site (s ∷ ss) k p e = go (s.name == k) refl e (λ f. found-site ss k p f)
  where
    go : (b : Bool) → (s.name == k) ≡ b → cond b (Some s.at) (point_of ss k) ≡ Some p → (point_of ss k ≡ Some p → (r : Site) × Contains ss r × (r.name ≡ k) × (r.at ≡ p)) → (r : Site) × Contains (s ∷ ss) r × (r.name ≡ k) × (r.at ≡ p)
    go true f q ih = (s, here s ss, same_name s.name k f, (let x : Some s.at ≡ Some p = q in cc))
    go false f q ih = let r = ih q in (r.0, there r.0 s ss r.1, r.2, r.3)

-- a site's point is found by its name
pub site-found : (ss : List Site) → IsRising site_lt ss → (s : Site) → Contains ss s → point_of ss s.name ≡ Some s.at
site-found [] up s h = absurd (nowhere s h)
site-found (r ∷ rs) up s h = go (r.name == s.name) refl (cases s r rs h) (λ i. site-found rs (rising-tail site_lt r rs up) s i)
  where
    itself : (a : ℕ) → (a == a) ≡ true
    itself a = grind (arith, nat_tests)

    clash : (a b : ℕ) → (a == b) ≡ true → nat_lt a b ≡ true → ⊥
    clash a b e f = grind (arith, nat_tests)

    go : (b : Bool) → (r.name == s.name) ≡ b → (s ≡ r) ⊎ Contains rs s → (Contains rs s → point_of rs s.name ≡ Some s.at) → cond b (Some r.at) (point_of rs s.name) ≡ Some s.at
    go true e (inl q) ih = ap (λ w. Some w.at) (sym q)
    go true e (inr i) ih = absurd (clash r.name s.name e (rising-head site_lt r s rs up i))
    go false e (inl q) ih = absurd (let x : true ≡ false = sym (itself r.name) ∙ (ap (λ w. r.name == w.name) (sym q) ∙ e) in cc)
    go false e (inr i) ih = ih i

same_site : (s r : Site) → s.name ≡ r.name → s.at ≡ r.at → s ≡ r
same_site s r e f = λ i. record { name = e i; at = f i }

pub sites-listed : (sides : Sides) (nodes : List Node) (m : Undivided) → IsConforming m → Shows sides nodes m → live_sites 0 nodes ≡ m.sites
sites-listed sides nodes m ok s =
    rising-same site_lt site_order (live_sites 0 nodes) m.sites (listed_rising 0 nodes) up
    (λ z h. let r = listed_means 0 nodes z h in let n : r.0 ≡ z.name = (let x = r.1 in omega arith) in let f = found-site m.sites r.0 z.at (sym (s.sites r.0) ∙ r.2) in subst (λ w. Contains m.sites w) (same_site f.0 z (f.2 ∙ n) f.3) f.1)
    (λ z h. let r = listed_has 0 nodes z.name z.at (s.sites z.name ∙ site-found m.sites up z h) in let n : r.0.name ≡ z.name = (let x = r.2 in omega arith) in subst (λ w. Contains (live_sites 0 nodes) w) (same_site r.0 z n r.3) r.1)
  where
    test : (a b : ℕ) → a < b → nat_lt a b ≡ true
    test a b l = grind (arith, nat_tests)

    up : IsRising site_lt m.sites
    up i j d l k = test _ _ (ok.sites_rise i j d l k)
