-- What a replaced patch of triangles keeps: edges once, and the list's order. Members by tests (`list_any`).
-- Assumes that an old triangle which shares an edge with a new one goes (`Meets`).
use Rattle.std.proofs.Common.{◌≡◌, ℕ, List, [], ◌∷◌, refl, sym, ◌∙◌, ap, subst, Bool, true, false, ◌⊎◌, inl, inr, arith, ◌||◌}
use Rattle.std.specs.Prelude.{Contains, filter, not, Option, Some, None}
use Rattle.std.specs.List.{list_any}
use Rattle.std.proofs.lemmas.Bool.Decides.{nat_tests}
use Rattle.std.proofs.lemmas.Bool.{cases_Bool}
use Rattle.pf_model.specs.declared.Tri.{Tri}
use Rattle.pf_model.specs.Rising.{IsRising}
use Rattle.pf_model.specs.declared.Side.{Side}
use Rattle.pf_model.specs.Mesh.{tri_of, tri_lt, has_edge, apex_in, side_of}
use Rattle.pf_model.specs.Conforming.{HasEdgesOnce}
use Rattle.pf_model.specs.Applied.{replaced}
use Rattle.pf_model.proofs.Members.{nowhere, here, there, cases, filter-out}
use Rattle.pf_model.proofs.RisingLemmas.{IsApart, AreApart, rising-insert_all_by, rising-filter}
use Rattle.pf_model.proofs.Patch.{replaced-once}
use Rattle.pf_model.proofs.Triangles.{IsLeastFirst, tri_of-apex, tri_lt-order, tri_lt-apart, side_of-some, side_of-none}

pub any-from : {X : Type 0} (p : X → Bool) (x : X) (xs : List X) → Contains xs x → p x ≡ true → list_any p xs ≡ true
any-from p x [] h e = absurd (nowhere x h)
any-from {X} p x (y ∷ ys) h e = go (p y) refl (cases x y ys h) (λ r. any-from p x ys r e)
  where
    go : (b : Bool) → p y ≡ b → (x ≡ y) ⊎ Contains ys x → (Contains ys x → list_any p ys ≡ true) → (b || list_any p ys) ≡ true
    go true q s ih = refl
    go false q (inl s) ih = absurd (let k : true ≡ false = sym e ∙ ap p s ∙ q in cc)
    go false q (inr r) ih = ih r

pub any-means : {X : Type 0} (p : X → Bool) (xs : List X) → list_any p xs ≡ true → (x : X) × Contains xs x × (p x ≡ true)
any-means p [] h = absurd (let e : false ≡ true = h in cc)
any-means {X} p (y ∷ ys) h = go (p y) refl h (λ e. any-means p ys e)
  where
    go : (b : Bool) → p y ≡ b → (b || list_any p ys) ≡ true → (list_any p ys ≡ true → (x : X) × Contains ys x × (p x ≡ true)) → (x : X) × Contains (y ∷ ys) x × (p x ≡ true)
    go true q e ih = (y, here y ys, q)
    go false q e ih = let r = ih e in (r.0, there r.0 y ys r.1, r.2)

-- an old triangle that shares an edge with a new one goes
abbrev pub Meets : (Tri → Bool) → List Tri → List Tri → Type 0
Meets removed added ts = (s t : Tri) (p q : ℕ) → Contains added s → Contains ts t → has_edge p q s ≡ true → has_edge p q t ≡ true → removed t ≡ true

pub replaced-edges_once : (removed : Tri → Bool) (added ts : List Tri) → HasEdgesOnce ts → HasEdgesOnce added → Meets removed added ts → HasEdgesOnce (replaced removed added ts)
replaced-edges_once removed added ts old new meets s t p q hs ht ks kt =
    replaced-once {X = Tri} {K = ℕ × ℕ} (λ x k. has_edge k.0 k.1 x ≡ true) tri_lt removed added ts
    (λ x y k a b c d. old x y k.0 k.1 a b c d)
    (λ x y k a b c d. new x y k.0 k.1 a b c d)
    (λ x y k a b c d. meets x y k.0 k.1 a b c d)
    s t (p, q) hs ht ks kt

-- each triangle has the edge of its first two corners
pub has_edge-first : (t : Tri) → has_edge t.a t.b t ≡ true
has_edge-first t = grind (arith, nat_tests)

pub replaced-rising : (removed : Tri → Bool) (added ts : List Tri) → IsRising tri_lt ts → AreApart tri_lt added → Meets removed added ts → IsRising tri_lt (replaced removed added ts)
replaced-rising removed added ts up apart meets = rising-insert_all_by tri_lt tri_lt-order added (filter (λ t. not (removed t)) ts) apart others (rising-filter tri_lt (λ t. not (removed t)) ts up)
  where
    others : (s : Tri) → Contains added s → IsApart tri_lt s (filter (λ t. not (removed t)) ts)
    others s hs z hz =
        let out : Contains ts z × (not (removed z) ≡ true) = filter-out (λ t. not (removed t)) z ts hz in
        elim (cases_Bool (has_edge s.a s.b z)) [
          | inl e ↦ absurd (let g : removed z ≡ true = meets s z s.a s.b hs out.0 (has_edge-first s) e in let k : false ≡ true = subst (λ b. not b ≡ true) g out.1 in cc)
          | inr e ↦ tri_lt-apart s z e
        ]

-- the triangle of a side that is found stands in the list
pub side_of-stands : (ts : List Tri) → ((t : Tri) → Contains ts t → IsLeastFirst t) → (p q : ℕ) (s : Side) → side_of ts p q ≡ Some s → Contains ts (tri_of p q s.apex s.owner)
side_of-stands ts least p q s h = go (side_of-some ts p q s h)
  where
    go : (t : Tri) × Contains ts t × (has_edge p q t ≡ true) × (apex_in p q t ≡ s.apex) × (t.owner ≡ s.owner) → Contains ts (tri_of p q s.apex s.owner)
    go f =
        let e : tri_of p q (apex_in p q f.0) f.0.owner ≡ f.0 = tri_of-apex p q f.0 (least f.0 f.1) f.2 in
        let e3 : tri_of p q s.apex s.owner ≡ f.0 = ap (λ o. tri_of p q s.apex o) (sym f.4) ∙ (ap (λ z. tri_of p q z f.0.owner) (sym f.3) ∙ e) in
        subst (λ t. Contains ts t) (sym e3) f.1

-- a triangle with the edge is found
pub side_of-found : (ts : List Tri) → HasEdgesOnce ts → (p q : ℕ) (t : Tri) → Contains ts t → has_edge p q t ≡ true → side_of ts p q ≡ Some record { apex = apex_in p q t; owner = t.owner }
side_of-found ts once p q t h e = go (side_of ts p q) refl
  where
    go : (o : Option Side) → side_of ts p q ≡ o → o ≡ Some record { apex = apex_in p q t; owner = t.owner }
    go None f = absurd (let k : true ≡ false = sym e ∙ side_of-none ts p q f t h in cc)
    go (Some s) f =
        let r = side_of-some ts p q s f in
        let same : r.0 ≡ t = once r.0 t p q r.1 h r.2 e in
        let a : s.apex ≡ apex_in p q t = sym r.3 ∙ ap (apex_in p q) same in
        let b : s.owner ≡ t.owner = sym r.4 ∙ ap (λ x. x.owner) same in
        side_same a b
      where
        side_same : s.apex ≡ apex_in p q t → s.owner ≡ t.owner → Some s ≡ Some record { apex = apex_in p q t; owner = t.owner }
        side_same a b = λ i. Some record { apex = a i; owner = b i }
