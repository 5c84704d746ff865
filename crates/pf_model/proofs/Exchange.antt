-- What sides, counts and lengths of a list of triangles are after one is put in or taken out.
-- Assumes `AreSound` where one is taken out, and `SharesNoEdge` where one is put in.
use Rattle.std.proofs.Common.{◌≡◌, ℕ, suc, ◌+◌, List, [], ◌∷◌, length, refl, sym, ◌∙◌, ap, Bool, true, false, cond, not, filter, ◌⊎◌, inl, inr, arith, Option, Some, None}
use Rattle.std.specs.Prelude.{Contains}
use Rattle.pf_model.specs.declared.Tri.{Tri}
use Rattle.pf_model.specs.Rising.{insert_by}
use Rattle.pf_model.specs.declared.Side.{Side}
use Rattle.pf_model.specs.Mesh.{tri_lt, has_edge, apex_in, side_of}
use Rattle.pf_model.specs.Conforming.{HasEdgesOnce}
use Rattle.pf_model.proofs.Members.{nowhere, here, there, cases, filter-in, filter-out}
use Rattle.pf_model.proofs.Triangles.{side_of-some, side_of-none}
use Rattle.pf_model.proofs.Kept.{side_of-found, has_edge-first}
use Rattle.pf_model.specs.Exchange.{tally, AreOnce, AreSound, SharesNoEdge, without}

-- the side of an edge that a triangle has
abbrev pub side_in : ℕ → ℕ → Tri → Side
side_in p q t = record { apex = apex_in p q t; owner = t.owner }

pub bool_cases : (b : Bool) → (b ≡ true) ⊎ (b ≡ false)
bool_cases true = inl refl
bool_cases false = inr refl

pub side_of-insert : (t : Tri) (ts : List Tri) (p q : ℕ) → SharesNoEdge t ts → side_of (insert_by tri_lt t ts) p q ≡ cond (has_edge p q t) (Some (side_in p q t)) (side_of ts p q)
side_of-insert t [] p q apart = refl
side_of-insert t (s ∷ ts) p q apart = go (tri_lt t s) (side_of-insert t ts p q (λ z a b h. apart z a b (there z s ts h)))
  where
    swap : (b c : Bool) → (b ≡ true → c ≡ false) → (x y z : Option Side) → cond c y (cond b x z) ≡ cond b x (cond c y z)
    swap true true f x y z = absurd (let e : true ≡ false = f refl in cc)
    swap true false f x y z = refl
    swap false c f x y z = refl

    go : (b : Bool) → side_of (insert_by tri_lt t ts) p q ≡ cond (has_edge p q t) (Some (side_in p q t)) (side_of ts p q) → side_of (cond b (t ∷ s ∷ ts) (s ∷ insert_by tri_lt t ts)) p q ≡ cond (has_edge p q t) (Some (side_in p q t)) (side_of (s ∷ ts) p q)
    go true ih = refl
    go false ih = ap (λ o. cond (has_edge p q s) (Some (side_in p q s)) o) ih ∙ swap (has_edge p q t) (has_edge p q s) (λ e. apart s p q (here s ts) e) (Some (side_in p q t)) (Some (side_in p q s)) (side_of ts p q)

pub tally-insert : (f : Tri → ℕ) (t : Tri) (ts : List Tri) → tally f (insert_by tri_lt t ts) ≡ f t + tally f ts
tally-insert f t [] = refl
tally-insert f t (s ∷ ts) = go (tri_lt t s) (tally-insert f t ts)
  where
    go : (b : Bool) → tally f (insert_by tri_lt t ts) ≡ f t + tally f ts → tally f (cond b (t ∷ s ∷ ts) (s ∷ insert_by tri_lt t ts)) ≡ f t + (f s + tally f ts)
    go true ih = refl
    go false ih = omega (arith, ih)

pub length-tally : (ts : List Tri) → length ts ≡ tally (λ t. 1) ts
length-tally [] = refl
length-tally (t ∷ ts) = let ih = length-tally ts in let a : suc (length ts) ≡ 1 + tally (λ s. 1) ts = omega (arith, ih) in a

-- a filter that all pass
pub filter-all : (p : Tri → Bool) (ts : List Tri) → ((t : Tri) → Contains ts t → p t ≡ true) → filter p ts ≡ ts
filter-all p [] h = refl
filter-all p (t ∷ ts) h = ap (λ b. cond b (t ∷ filter p ts) (filter p ts)) (h t (here t ts)) ∙ ap (λ l. t ∷ l) (filter-all p ts (λ s k. h s (there s t ts k)))

not_false : (b : Bool) → b ≡ false → not b ≡ true
not_false b e = ap not e

not_true : (b : Bool) → not b ≡ true → b ≡ false
not_true true e = absurd (let k : false ≡ true = e in cc)
not_true false e = refl

-- the sum over what is left, and what was taken out
pub tally-without : (f : Tri → ℕ) (g : Tri) (ts : List Tri) → HasEdgesOnce ts → AreOnce ts → Contains ts g → tally f (without g ts) + f g ≡ tally f ts
tally-without f g [] once different h = absurd (nowhere g h)
tally-without f g (t ∷ ts) once different h =
    go (has_edge g.a g.b t) refl (cases g t ts h) (λ k. tally-without f g ts (λ s r p q a b c d. once s r p q (there s t ts a) (there r t ts b) c d) different.1 k)
  where
    go : (b : Bool) → has_edge g.a g.b t ≡ b → (g ≡ t) ⊎ Contains ts g → (Contains ts g → tally f (without g ts) + f g ≡ tally f ts) → tally f (cond (not b) (t ∷ without g ts) (without g ts)) + f g ≡ f t + tally f ts
    go true e k ih =
        let same : t ≡ g = once t g g.a g.b (here t ts) h e (has_edge-first g) in
        let rest : without g ts ≡ ts = filter-all (λ s. not (has_edge g.a g.b s)) ts (λ s i. elim (bool_cases (has_edge g.a g.b s)) [ inl x ↦ absurd (different.0 s i (once t s g.a g.b (here t ts) (there s t ts i) e x)) | inr x ↦ not_false _ x ]) in
        let a : tally f (without g ts) ≡ tally f ts = ap (tally f) rest in
        let b : f t ≡ f g = ap f same in
        omega (arith, a, b)
    go false e (inl k) ih = absurd (let z : has_edge g.a g.b g ≡ false = ap (has_edge g.a g.b) k ∙ e in let w : true ≡ false = sym (has_edge-first g) ∙ z in cc)
    go false e (inr k) ih = let r = ih k in let a : f t + tally f (without g ts) + f g ≡ f t + tally f ts = omega (arith, r) in a

pub side_of-absent : (ts : List Tri) (p q : ℕ) → ((t : Tri) → Contains ts t → has_edge p q t ≡ false) → side_of ts p q ≡ None
side_of-absent [] p q h = refl
side_of-absent (t ∷ ts) p q h = ap (λ b. cond b (Some (side_in p q t)) (side_of ts p q)) (h t (here t ts)) ∙ side_of-absent ts p q (λ s k. h s (there s t ts k))

pub edges_once-filter : (p : Tri → Bool) (ts : List Tri) → HasEdgesOnce ts → HasEdgesOnce (filter p ts)
edges_once-filter p ts once s t a b hs ht ks kt = once s t a b (filter-out p s ts hs).0 (filter-out p t ts ht).0 ks kt

pub once-filter : (p : Tri → Bool) (ts : List Tri) → AreOnce ts → AreOnce (filter p ts)
once-filter p [] h = tt
once-filter p (t ∷ ts) h = go (p t) (once-filter p ts h.1)
  where
    go : (b : Bool) → AreOnce (filter p ts) → AreOnce (cond b (t ∷ filter p ts) (filter p ts))
    go true ih = ((λ s k. h.0 s (filter-out p s ts k).0), ih)
    go false ih = ih

pub sound-filter : (p : Tri → Bool) (ts : List Tri) → AreSound ts → AreSound (filter p ts)
sound-filter p ts s = record { turned = λ t h. s.turned t (filter-out p t ts h).0; once = once-filter p ts s.once; edges_once = edges_once-filter p ts s.edges_once }

pub side_of-without : (g : Tri) (ts : List Tri) (p q : ℕ) → AreSound ts → Contains ts g → side_of (without g ts) p q ≡ cond (has_edge p q g) None (side_of ts p q)
side_of-without g ts p q s h = go (has_edge p q g) refl (side_of ts p q) refl
  where
    passes : Tri → Bool
    passes t = not (has_edge g.a g.b t)

    gone : has_edge p q g ≡ true → (t : Tri) → Contains (without g ts) t → has_edge p q t ≡ false
    gone e t k = elim (bool_cases (has_edge p q t)) [
      | inl x ↦ absurd (let o = filter-out (λ t. not (has_edge g.a g.b t)) t ts k in let same : g ≡ t = s.edges_once g t p q h o.0 e x in let z : has_edge g.a g.b t ≡ false = not_true _ o.1 in let w : true ≡ false = sym (has_edge-first g) ∙ (ap (has_edge g.a g.b) same ∙ z) in cc)
      | inr x ↦ x
    ]

    go : (b : Bool) → has_edge p q g ≡ b → (o : Option Side) → side_of ts p q ≡ o → side_of (without g ts) p q ≡ cond b None o
    go true e o f = side_of-absent (without g ts) p q (gone e)
    go false e None f = side_of-absent (without g ts) p q (λ t k. side_of-none ts p q f t (filter-out (λ t. not (has_edge g.a g.b t)) t ts k).0)
    go false e (Some x) f =
        let r = side_of-some ts p q x f in
        let stays : has_edge g.a g.b r.0 ≡ false = elim (bool_cases (has_edge g.a g.b r.0)) [ inl y ↦ absurd (let same : g ≡ r.0 = s.edges_once g r.0 g.a g.b h r.1 (has_edge-first g) y in let w : true ≡ false = sym r.2 ∙ (ap (has_edge p q) (sym same) ∙ e) in cc) | inr y ↦ y ] in
        let there' : Contains (without g ts) r.0 = filter-in (λ t. not (has_edge g.a g.b t)) r.0 ts r.1 (not_false _ stays) in
        side_of-found (without g ts) (edges_once-filter (λ t. not (has_edge g.a g.b t)) ts s.edges_once) p q r.0 there' r.2 ∙ (sym (side_of-found ts s.edges_once p q r.0 r.1 r.2) ∙ f)
