-- Where an operation's triangles are removed and added as a list each, the exchange of the two lists is what the operation does.
-- Assumes that the mesh is conforming before and after.
use Rattle.std.proofs.Common.{◌≡◌, List, [], ◌∷◌, refl, sym, ◌∙◌, ap, subst, Bool, true, false, cond, not, filter, inl, inr, ◌&&◌, ◌||◌, arith}
use Rattle.std.specs.Prelude.{Contains}
use Rattle.std.specs.List.{list_any}
use Rattle.pf_model.specs.declared.Tri.{Tri}
use Rattle.pf_model.specs.Rising.{IsRising, insert_by, insert_all_by}
use Rattle.pf_model.specs.Mesh.{Undivided, tri_lt, has_edge}
use Rattle.pf_model.specs.Conforming.{IsConforming, HasEdgesOnce}
use Rattle.pf_model.specs.Applied.{replaced}
use Rattle.pf_model.proofs.Members.{nowhere, here, there, cases, insert_by-new, insert_by-old}
use Rattle.pf_model.proofs.RisingLemmas.{rising-head, rising-tail, rising-cons}
use Rattle.pf_model.proofs.Triangles.{tri_lt-order}
use Rattle.pf_model.proofs.Kept.{any-from, any-means, has_edge-first}
use Rattle.pf_model.specs.Exchange.{IsTurned, AreOnce, AreSound, SharesNoEdge, AreFit, CanExchange, without, without_all, exchanged}
use Rattle.pf_model.proofs.Exchange.{bool_cases}

-- one of these has its first edge in the triangle
abbrev pub is_listed : List Tri → Tri → Bool
is_listed removed t = list_any (λ g. has_edge g.a g.b t) removed

pub filter-filter : (p q : Tri → Bool) (ts : List Tri) → filter p (filter q ts) ≡ filter (λ t. q t && p t) ts
filter-filter p q [] = refl
filter-filter p q (t ∷ ts) = go (q t) (filter-filter p q ts)
  where
    go : (b : Bool) → filter p (filter q ts) ≡ filter (λ t. q t && p t) ts → filter p (cond b (t ∷ filter q ts) (filter q ts)) ≡ cond (b && p t) (t ∷ filter (λ t. q t && p t) ts) (filter (λ t. q t && p t) ts)
    go true ih = ap (λ l. cond (p t) (t ∷ l) l) ih
    go false ih = ih

pub filter-agree : (p q : Tri → Bool) (ts : List Tri) → ((t : Tri) → Contains ts t → p t ≡ q t) → filter p ts ≡ filter q ts
filter-agree p q [] h = refl
filter-agree p q (t ∷ ts) h = (λ i. cond (h t (here t ts) i) (t ∷ filter-agree p q ts (λ s k. h s (there s t ts k)) i) (filter-agree p q ts (λ s k. h s (there s t ts k)) i))

neither : (a b : Bool) → (not a && not b) ≡ not (a || b)
neither true b = refl
neither false b = refl

pub without_all-filter : (removed ts : List Tri) → without_all removed ts ≡ filter (λ t. not (is_listed removed t)) ts
without_all-filter [] ts = sym (all ts)
  where
    all : (xs : List Tri) → filter (λ t. true) xs ≡ xs
    all [] = refl
    all (x ∷ xs) = ap (λ l. x ∷ l) (all xs)
without_all-filter (g ∷ gs) ts =
    without_all-filter gs (without g ts)
    ∙ (filter-filter (λ t. not (is_listed gs t)) (λ t. not (has_edge g.a g.b t)) ts
    ∙ filter-agree (λ t. not (has_edge g.a g.b t) && not (is_listed gs t)) (λ t. not (is_listed (g ∷ gs) t)) ts (λ t h. neither (has_edge g.a g.b t) (is_listed gs t)))

apart : (b : Bool) → b ≡ true → b ≡ false → ⊥
apart b e f = let k : true ≡ false = sym e ∙ f in absurd (cc)

-- a list that rises with an element put in rose before, without the element
pub rising-before : (t : Tri) (ts : List Tri) → IsRising tri_lt (insert_by tri_lt t ts) → IsRising tri_lt ts × (Contains ts t → ⊥)
rising-before t [] up = ((λ i j d l k. absurd (omega arith)), λ h. nowhere t h)
rising-before t (s ∷ ts) up = go (tri_lt t s) refl up (λ u. rising-before t ts u)
  where
    go : (b : Bool) → tri_lt t s ≡ b → IsRising tri_lt (cond b (t ∷ s ∷ ts) (s ∷ insert_by tri_lt t ts)) → (IsRising tri_lt (insert_by tri_lt t ts) → IsRising tri_lt ts × (Contains ts t → ⊥)) → IsRising tri_lt (s ∷ ts) × (Contains (s ∷ ts) t → ⊥)
    go true e u ih = (rising-tail tri_lt t (s ∷ ts) u, λ h. apart _ (rising-head tri_lt t t (s ∷ ts) u h) (tri_lt-order.irreflexive t))
    go false e u ih =
        let r = ih (rising-tail tri_lt s (insert_by tri_lt t ts) u) in (
          rising-cons tri_lt s ts (λ z h. rising-head tri_lt s z (insert_by tri_lt t ts) u (insert_by-old tri_lt t z ts h)) r.0,
          λ h. elim (cases t s ts h) [ inl q ↦ apart _ (subst (λ w. tri_lt w t ≡ true) (sym q) (rising-head tri_lt s t (insert_by tri_lt t ts) u (insert_by-new tri_lt t ts))) (tri_lt-order.irreflexive t) | inr k ↦ r.1 k ],
        )

pub fit-from_rising : (new ts : List Tri) → IsRising tri_lt (insert_all_by tri_lt new ts) → HasEdgesOnce (insert_all_by tri_lt new ts) → ((t : Tri) → Contains (insert_all_by tri_lt new ts) t → IsTurned t) → AreFit new ts
fit-from_rising [] ts up once turned = tt
fit-from_rising (t ∷ new) ts up once turned =
    (turned t (insert_by-new tri_lt t rest), apart_from, fit-from_rising new ts before.0 (λ r s p q a b c d. once r s p q (insert_by-old tri_lt t r rest a) (insert_by-old tri_lt t s rest b) c d) (λ s h. turned s (insert_by-old tri_lt t s rest h)))
  where
    rest : List Tri
    rest = insert_all_by tri_lt new ts

    before : IsRising tri_lt (insert_all_by tri_lt new ts) × (Contains (insert_all_by tri_lt new ts) t → ⊥)
    before = rising-before t (insert_all_by tri_lt new ts) up

    apart_from : SharesNoEdge t (insert_all_by tri_lt new ts)
    apart_from s p q h e = elim (bool_cases (has_edge p q s)) [
      | inl x ↦ absurd (before.1 (let same = once t s p q (insert_by-new tri_lt t (insert_all_by tri_lt new ts)) (insert_by-old tri_lt t s (insert_all_by tri_lt new ts) h) e x in subst (λ w. Contains (insert_all_by tri_lt new ts) w) (sym same) h))
      | inr x ↦ x
    ]

pub once-rising : (ts : List Tri) → IsRising tri_lt ts → AreOnce ts
once-rising [] up = tt
once-rising (t ∷ ts) up = ((λ s h e. apart _ (subst (λ w. tri_lt t w ≡ true) (sym e) (rising-head tri_lt t s ts up h)) (tri_lt-order.irreflexive t)), once-rising ts (rising-tail tri_lt t ts up))

pub sound-conforming : (m : Undivided) → IsConforming m → AreSound m.tris
sound-conforming m ok =
    record {
      turned = λ t h. (let p = ok.proper t h in record { least = p.least; least' = p.least'; apart = p.apart });
      once = once-rising m.tris ok.tris_rise;
      edges_once = ok.edges_once;
    }

-- the list has just the triangles that are removed
pub record AreRemoved (leaves : Tri → Bool) (ts removed : List Tri) : Type 0 where
  pub stand : (t : Tri) → Contains removed t → Contains ts t
  pub passes : (t : Tri) → Contains removed t → leaves t ≡ true
  pub all : (t : Tri) → Contains ts t → leaves t ≡ true → Contains removed t
  pub once : AreOnce removed

pub record IsExchange (leaves : Tri → Bool) (ts removed new : List Tri) : Type 0 where
  pub can : CanExchange removed new ts
  pub same : exchanged removed new ts ≡ replaced leaves new ts

pub exchange-is : (leaves : Tri → Bool) (ts removed new : List Tri) → AreSound ts → AreRemoved leaves ts removed → AreSound (replaced leaves new ts) → IsRising tri_lt (replaced leaves new ts) → IsExchange leaves ts removed new
exchange-is leaves ts removed new sound out after up =
    record {
      can = record { take = record { sound = sound; stand = out.stand; once = out.once }; fit = subst (λ l. AreFit new l) (sym kept) (fit-from_rising new (filter (λ t. not (leaves t)) ts) up after.edges_once after.turned) };
      same = ap (insert_all_by tri_lt new) kept;
    }
  where
    agree : (t : Tri) → Contains ts t → is_listed removed t ≡ leaves t
    agree t h = go (leaves t) refl (is_listed removed t) refl
      where
        go : (b : Bool) → leaves t ≡ b → (c : Bool) → is_listed removed t ≡ c → is_listed removed t ≡ leaves t
        go true e c f = any-from (λ g. has_edge g.a g.b t) t removed (out.all t h e) (has_edge-first t) ∙ sym e
        go false e false f = f ∙ sym e
        go false e true f = absurd (let g = any-means (λ g. has_edge g.a g.b t) removed f in let same = sound.edges_once g.0 t g.0.a g.0.b (out.stand g.0 g.1) h (has_edge-first g.0) g.2 in apart _ (subst (λ w. leaves w ≡ true) same (out.passes g.0 g.1)) e)

    kept : without_all removed ts ≡ filter (λ t. not (leaves t)) ts
    kept = without_all-filter removed ts ∙ filter-agree (λ t. not (is_listed removed t)) (λ t. not (leaves t)) ts (λ t h. ap not (agree t h))
