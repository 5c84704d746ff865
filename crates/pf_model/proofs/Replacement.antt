-- One theorem for all operations: what has to be known of a replaced patch for the mesh to be conforming after.
-- Assumes `IsConforming` before, and `IsSoundPatch`, whose fields each speak of new or of kept triangles alone.
use Rattle.std.proofs.Common.{◌≡◌, ℕ, ◌<◌, List, [], ◌∷◌, ◌++◌, refl, sym, ◌∙◌, subst, Bool, true, false, ◌⊎◌, inl, inr}
use Rattle.std.specs.Prelude.{Contains, AllPairs, pos, ◌<ℤ◌}
use Rattle.std.specs.List.{list_any}
use Rattle.std.proofs.lemmas.List.Elements.{Contains-append_cases}
use Rattle.pf_geom.specs.Plane.{IsInRange}
use Rattle.pf_model.specs.declared.Tri.{Tri}
use Rattle.pf_model.specs.declared.Site.{Site}
use Rattle.pf_model.specs.Mesh.{Undivided, tri_lt, has_edge, has_corner, turn_at}
use Rattle.pf_model.specs.Conforming.{IsConforming, IsProper, IsLive, HasEdgesOnce}
use Rattle.pf_model.specs.Applied.{replaced}
use Rattle.pf_model.proofs.Members.{nowhere, here, there, cases}
use Rattle.pf_model.proofs.RisingLemmas.{AreApart}
use Rattle.pf_model.proofs.Patch.{replaced-cases, replaced-kept, replaced-new}
use Rattle.pf_model.proofs.Triangles.{tri_lt-apart}
use Rattle.pf_model.proofs.Kept.{Meets, any-from, replaced-edges_once, replaced-rising, has_edge-first}

-- the two have no directed edge in common
abbrev pub Parts : Tri → Tri → Type 0
Parts s t = (p q : ℕ) → has_edge p q s ≡ true → has_edge p q t ≡ true → ⊥

-- no two in the list have a directed edge in common
abbrev pub SharesNone : List Tri → Type 0
SharesNone [] = Unit {0}
SharesNone (x ∷ xs) = ((z : Tri) → Contains xs z → Parts x z) × SharesNone xs

pub shares_none-append : (xs ys : List Tri) → SharesNone xs → SharesNone ys → ((s t : Tri) → Contains xs s → Contains ys t → Parts s t) → SharesNone (xs ++ ys)
shares_none-append [] ys hx hy apart = hy
shares_none-append (x ∷ xs) ys hx hy apart = (first, shares_none-append xs ys hx.1 hy (λ s t h k. apart s t (there s x xs h) k))
  where
    first : (z : Tri) → Contains (xs ++ ys) z → Parts x z
    first z h = elim (Contains-append_cases xs ys z h) [ inl a ↦ hx.0 z a | inr b ↦ apart x z (here x xs) b ]

pub shares_none-once : (xs : List Tri) → SharesNone xs → HasEdgesOnce xs
shares_none-once [] h s t p q hs ht ks kt = absurd (nowhere s hs)
shares_none-once (x ∷ xs) h s t p q hs ht ks kt = go (cases s x xs hs) (cases t x xs ht) (λ a b. shares_none-once xs h.1 s t p q a b ks kt)
  where
    go : (s ≡ x) ⊎ Contains xs s → (t ≡ x) ⊎ Contains xs t → (Contains xs s → Contains xs t → s ≡ t) → s ≡ t
    go (inl a) (inl b) ih = a ∙ sym b
    go (inl a) (inr b) ih = absurd (h.0 t b p q (subst (λ w. has_edge p q w ≡ true) a ks) kt)
    go (inr a) (inl b) ih = absurd (h.0 s a p q (subst (λ w. has_edge p q w ≡ true) b kt) ks)
    go (inr a) (inr b) ih = ih a b

pub shares_none-apart : (xs : List Tri) → SharesNone xs → AreApart tri_lt xs
shares_none-apart [] h = tt
shares_none-apart (x ∷ xs) h = ((λ z k. tri_lt-apart x z (no z k (has_edge x.a x.b z) refl)), shares_none-apart xs h.1)
  where
    no : (z : Tri) → Contains xs z → (b : Bool) → has_edge x.a x.b z ≡ b → b ≡ false
    no z k false e = refl
    no z k true e = absurd (h.0 z k x.a x.b (has_edge-first x) e)

-- the mesh with other sites and a patch replaced
abbrev pub patched : Undivided → List Site → (Tri → Bool) → List Tri → Undivided
patched m sites removed added = record m { sites = sites; tris = replaced removed added m.tris }

-- a good triangle of a mesh
pub record IsGood (m : Undivided) (t : Tri) : Type 0 where
  pub proper : IsProper m t
  pub positive : pos 0 <ℤ turn_at m t.a t.b t.c
  pub owned : t.owner < m.chunks

-- a triangle with this corner that stands after
abbrev pub IsUsed : (Tri → Bool) → List Tri → List Tri → ℕ → Type 0
IsUsed removed added ts n = ((t : Tri) × Contains added t × (has_corner n t ≡ true)) ⊎ ((t : Tri) × Contains ts t × (removed t ≡ false) × (has_corner n t ≡ true))

pub record IsSoundPatch (m : Undivided) (sites : List Site) (removed : Tri → Bool) (added : List Tri) : Type 0 where
  pub new : (t : Tri) → Contains added t → IsGood (patched m sites removed added) t
  pub kept : (t : Tri) → Contains m.tris t → removed t ≡ false → IsGood (patched m sites removed added) t
  pub parts : SharesNone added
  pub meets : Meets removed added m.tris
  pub used : (n : ℕ) → IsLive (patched m sites removed added) n → IsUsed removed added m.tris n
  pub in_range : (s : Site) → Contains sites s → IsInRange s.at
  pub sites_rise : AllPairs (λ r s. r.name < s.name) sites

pub patched_conforms : (m : Undivided) (sites : List Site) (removed : Tri → Bool) (added : List Tri) → IsConforming m → IsSoundPatch m sites removed added → IsConforming (patched m sites removed added)
patched_conforms m sites removed added ok p =
    record {
      proper = λ t h. (good t h).proper;
      positive = λ t h. (good t h).positive;
      edges_once = replaced-edges_once removed added m.tris ok.edges_once (shares_none-once added p.parts) p.meets;
      used = used;
      owned = λ t h. (good t h).owned;
      in_range = p.in_range;
      default = ok.default;
      sites_rise = p.sites_rise;
      tris_rise = replaced-rising removed added m.tris ok.tris_rise (shares_none-apart added p.parts) p.meets;
    }
  where
    good : (t : Tri) → Contains (replaced removed added m.tris) t → IsGood (patched m sites removed added) t
    good t h = elim (replaced-cases tri_lt removed added m.tris t h) [ inl n ↦ p.new t n | inr o ↦ p.kept t o.0 o.1 ]

    used : (n : ℕ) → IsLive (patched m sites removed added) n → list_any (has_corner n) (replaced removed added m.tris) ≡ true
    used n live = elim (p.used n live) [
      | inl a ↦ any-from (has_corner n) a.0 (replaced removed added m.tris) (replaced-new tri_lt removed added m.tris a.0 a.1) a.2
      | inr b ↦ any-from (has_corner n) b.0 (replaced removed added m.tris) (replaced-kept tri_lt removed added m.tris b.0 b.1 b.2) b.3
    ]
