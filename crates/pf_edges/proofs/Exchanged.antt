-- What the edge table shows after some triangles gave way to others.
use Rattle.std.proofs.Common.{◌≡◌, ℕ, ◌+◌, ◌-◌, ◌*◌, List, length, is_some, [], ◌∷◌, refl, sym, ◌∙◌, ap, subst, Bool, true, false, not, cond, ◌⊎◌, inl, inr, arith, Option, Some, None, ◌&&◌, ◌||◌}
use Rattle.std.specs.Prelude.{All, Contains}
use Rattle.std.specs.List.{list_any}
use Rattle.std.proofs.lemmas.List.Elements.{Contains-get_or}
use Rattle.indexmap.specs.IndexMap.{IsUnique, index_map_len}
use Rattle.pf_model.specs.declared.Tri.{Tri}
use Rattle.pf_model.specs.Rising.{insert_by, insert_all_by}
use Rattle.pf_model.specs.declared.Side.{Side}
use Rattle.pf_model.specs.Mesh.{tri_lt, has_edge, has_corner, side_of}
use Rattle.pf_model.proofs.Members.{nowhere, here, there, cases, insert_by-cases, insert_all_by-new}
use Rattle.pf_model.proofs.Kept.{any-means, has_edge-first}
use Rattle.pf_edges.specs.declared.table.Node.{Node}
use Rattle.pf_model.specs.Exchange.{IsTurned, IsNone, AreOnce, AreSound, SharesNoEdge, AreFit, CanTake, CanExchange, without, without_all, exchanged, tally, number_at}
use Rattle.pf_edges.specs.Table.{Sides, edge_eq, side_at, triangles_at, ShowsTriangles}
use Rattle.pf_edges.specs.TableSteps.{side_with, side_with_all, side_without, is_removed}
use Rattle.pf_model.proofs.Exchange.{side_in, side_of-insert, side_of-without, tally-insert, tally-without, length-tally}
use Rattle.pf_edges.proofs.TableSteps.{can_take-rest}
use Rattle.pf_edges.proofs.Entries.{entries-counted, no_others}

-- a triangle with the edge covers what was there
entered : (t : Tri) (p q : ℕ) (x y : Option Side) → has_edge p q t ≡ true → side_with t p q x ≡ side_with t p q y
entered t p q x y e = ap (λ b. cond b (Some (side_in p q t)) x) e ∙ sym (ap (λ b. cond b (Some (side_in p q t)) y) e)

-- and one without it leaves it
bare : (t : Tri) (p q : ℕ) (x : Option Side) → has_edge p q t ≡ false → side_with t p q x ≡ x
bare t p q x e = ap (λ b. cond b (Some (side_in p q t)) x) e

-- an edge that none of the triangles has is as it was
with_all-none : (new : List Tri) (p q : ℕ) (old : Option Side) → list_any (has_edge p q) new ≡ false → side_with_all new p q old ≡ old
with_all-none [] p q old e = refl
with_all-none (t ∷ new) p q old e = go (has_edge p q t) refl e (with_all-none new p q (side_with t p q old))
  where
    go : (b : Bool) → has_edge p q t ≡ b → (b || list_any (has_edge p q) new) ≡ false → (list_any (has_edge p q) new ≡ false → side_with_all new p q (side_with t p q old) ≡ side_with t p q old) → side_with_all new p q (side_with t p q old) ≡ old
    go true h e ih = absurd (let z : true ≡ false = e in cc)
    go false h e ih = ih e ∙ bare t p q old h

-- an edge that one of them has doesn't depend on what was there
with_all-some : (new : List Tri) (p q : ℕ) (x y : Option Side) → list_any (has_edge p q) new ≡ true → side_with_all new p q x ≡ side_with_all new p q y
with_all-some [] p q x y e = absurd (let z : false ≡ true = e in cc)
with_all-some (t ∷ new) p q x y e = go (has_edge p q t) refl e (with_all-some new p q (side_with t p q x) (side_with t p q y))
  where
    Same : Type 0
    Same = side_with_all new p q (side_with t p q x) ≡ side_with_all new p q (side_with t p q y)

    go : (b : Bool) → has_edge p q t ≡ b → (b || list_any (has_edge p q) new) ≡ true → (list_any (has_edge p q) new ≡ true → Same) → Same
    go true h e ih = ap (side_with_all new p q) (entered t p q x y h)
    go false h e ih = ih e

-- no triangle that comes in has an edge that none has in the end
none-insert_all : (new ts : List Tri) (p q : ℕ) → ((s : Tri) → Contains (insert_all_by tri_lt new ts) s → has_edge p q s ≡ false) → list_any (has_edge p q) new ≡ false
none-insert_all new ts p q h = go (list_any (has_edge p q) new) refl
  where
    go : (b : Bool) → list_any (has_edge p q) new ≡ b → b ≡ false
    go false e = refl
    go true e = absurd (let r = any-means (has_edge p q) new e in let z : true ≡ false = sym r.2 ∙ h r.0 (insert_all_by-new tri_lt r.0 new ts r.1) in cc)

-- the sides of the triangles that come in, over those that stand
side_of-insert_all : (new ts : List Tri) (p q : ℕ) → AreFit new ts → side_with_all new p q (side_of ts p q) ≡ side_of (insert_all_by tri_lt new ts) p q
side_of-insert_all [] ts p q fit = refl
side_of-insert_all (t ∷ new) ts p q fit = go (has_edge p q t) refl (side_of-insert_all new ts p q fit.2) ∙ sym (side_of-insert t (insert_all_by tri_lt new ts) p q fit.1)
  where
    last : Option Side
    last = side_of (insert_all_by tri_lt new ts) p q

    go : (b : Bool) → has_edge p q t ≡ b → side_with_all new p q (side_of ts p q) ≡ last → side_with_all new p q (side_with t p q (side_of ts p q)) ≡ side_with t p q last
    go true e ih =
        with_all-none new p q (side_with t p q (side_of ts p q)) (none-insert_all new ts p q (λ s h. fit.1 s p q h e))
        ∙ entered t p q (side_of ts p q) last e
    go false e ih = ap (side_with_all new p q) (bare t p q (side_of ts p q) e) ∙ (ih ∙ sym (bare t p q last e))

side_of-without_all : (removed ts : List Tri) (p q : ℕ) → CanTake removed ts → side_of (without_all removed ts) p q ≡ cond (list_any (has_edge p q) removed) None (side_of ts p q)
side_of-without_all [] ts p q can = refl
side_of-without_all (g ∷ removed) ts p q can =
    side_of-without_all removed (without g ts) p q (can_take-rest g removed ts can)
    ∙ (ap (λ o. cond (list_any (has_edge p q) removed) None o) (side_of-without g ts p q can.sound (can.stand g (here g removed)))
    ∙ twice (has_edge p q g) (list_any (has_edge p q) removed))
  where
    twice : (x y : Bool) → cond y None (cond x None (side_of ts p q)) ≡ cond (x || y) None (side_of ts p q)
    twice true true = refl
    twice true false = refl
    twice false y = refl

tally-insert_all : (f : Tri → ℕ) (new ts : List Tri) → tally f (insert_all_by tri_lt new ts) ≡ tally f new + tally f ts
tally-insert_all f [] ts = omega arith
tally-insert_all f (t ∷ new) ts = let a = tally-insert f t (insert_all_by tri_lt new ts) in let ih = tally-insert_all f new ts in omega (arith, a, ih)

tally-without_all : (f : Tri → ℕ) (removed ts : List Tri) → CanTake removed ts → tally f (without_all removed ts) + tally f removed ≡ tally f ts
tally-without_all f [] ts can = omega arith
tally-without_all f (g ∷ removed) ts can =
    let a = tally-without f g ts can.sound.edges_once can.sound.once (can.stand g (here g removed)) in
    let ih = tally-without_all f removed (without g ts) (can_take-rest g removed ts can) in
    omega (arith, a, ih)

sound-without_all : (removed ts : List Tri) → CanTake removed ts → AreSound (without_all removed ts)
sound-without_all [] ts can = can.sound
sound-without_all (g ∷ removed) ts can = sound-without_all removed (without g ts) (can_take-rest g removed ts can)

once-insert : (t : Tri) (ts : List Tri) → IsNone t ts → AreOnce ts → AreOnce (insert_by tri_lt t ts)
once-insert t [] bare once = (bare, tt)
once-insert t (s ∷ ts) bare once = go (tri_lt t s) (once-insert t ts (λ r h. bare r (there r s ts h)) once.1)
  where
    go : (b : Bool) → AreOnce (insert_by tri_lt t ts) → AreOnce (cond b (t ∷ s ∷ ts) (s ∷ insert_by tri_lt t ts))
    go true ih = (bare, once)
    go false ih = ((λ r h e. elim (insert_by-cases tri_lt t r ts h) [ inl q ↦ bare s (here s ts) (sym (e ∙ q)) | inr k ↦ once.0 r k e ]), ih)

sound-insert : (t : Tri) (ts : List Tri) → IsTurned t → SharesNoEdge t ts → AreSound ts → AreSound (insert_by tri_lt t ts)
sound-insert t ts turned bare s =
    record {
      turned = λ r h. (elim (insert_by-cases tri_lt t r ts h) [ inl q ↦ subst (λ x. IsTurned x) (sym q) turned | inr k ↦ s.turned r k ]);
      once = once-insert t ts (λ r h e. apart r h t.a t.b (has_edge-first t) (ap (has_edge t.a t.b) (sym e) ∙ has_edge-first t)) s.once;
      edges_once = λ x y p q hx hy ex ey. pair x y p q (insert_by-cases tri_lt t x ts hx) (insert_by-cases tri_lt t y ts hy) ex ey;
    }
  where
    apart : (r : Tri) → Contains ts r → (p q : ℕ) → has_edge p q t ≡ true → has_edge p q r ≡ true → ⊥
    apart r h p q e f = absurd (let z : true ≡ false = sym f ∙ bare r p q h e in cc)

    pair : (x y : Tri) (p q : ℕ) → (x ≡ t) ⊎ Contains ts x → (y ≡ t) ⊎ Contains ts y → has_edge p q x ≡ true → has_edge p q y ≡ true → x ≡ y
    pair x y p q (inl a) (inl b) ex ey = a ∙ sym b
    pair x y p q (inl a) (inr k) ex ey = absurd (apart y k p q (ap (has_edge p q) (sym a) ∙ ex) ey)
    pair x y p q (inr h) (inl b) ex ey = absurd (apart x h p q (ap (has_edge p q) (sym b) ∙ ey) ex)
    pair x y p q (inr h) (inr k) ex ey = s.edges_once x y p q h k ex ey

sound-insert_all : (new ts : List Tri) → AreFit new ts → AreSound ts → AreSound (insert_all_by tri_lt new ts)
sound-insert_all [] ts fit s = s
sound-insert_all (t ∷ new) ts fit s = sound-insert t (insert_all_by tri_lt new ts) fit.0 fit.1 (sound-insert_all new ts fit.2 s)

pub removed-turned : (removed ts : List Tri) → CanTake removed ts → All IsTurned removed
removed-turned removed ts can k d l = can.sound.turned _ (can.stand _ (Contains-get_or removed k d l))

pub new-turned : (new ts : List Tri) → AreFit new ts → All IsTurned new
new-turned new ts fit k d l = turned new fit _ (Contains-get_or new k d l)
  where
    turned : (new : List Tri) → AreFit new ts → (t : Tri) → Contains new t → IsTurned t
    turned [] fit t h = absurd (nowhere t h)
    turned (s ∷ new) fit t h = elim (cases t s new h) [ inl e ↦ subst (λ x. IsTurned x) (sym e) fit.0 | inr k ↦ turned new fit.2 t k ]

-- the sides after the second list is entered, and the edges removed that only the first has
sides-exchanged : (removed new ts : List Tri) (p q : ℕ) → CanExchange removed new ts → side_without (list_any (has_edge p q) removed) new p q (side_with_all new p q (side_of ts p q)) ≡ side_of (exchanged removed new ts) p q
sides-exchanged removed new ts p q can = go (list_any (has_edge p q) new) refl ∙ side_of-insert_all new (without_all removed ts) p q can.fit
  where
    taken : side_of (without_all removed ts) p q ≡ cond (list_any (has_edge p q) removed) None (side_of ts p q)
    taken = side_of-without_all removed ts p q can.take

    kept : (b : Bool) (x : Option Side) → cond (b && not true) None x ≡ x
    kept true x = refl
    kept false x = refl

    left : (b : Bool) (x : Option Side) → cond (b && not false) None x ≡ cond b None x
    left true x = refl
    left false x = refl

    go : (b : Bool) → list_any (has_edge p q) new ≡ b → side_without (list_any (has_edge p q) removed) new p q (side_with_all new p q (side_of ts p q)) ≡ side_with_all new p q (side_of (without_all removed ts) p q)
    go true e =
        ap (λ b. cond (list_any (has_edge p q) removed && not b) None (side_with_all new p q (side_of ts p q))) e
        ∙ (kept (list_any (has_edge p q) removed) (side_with_all new p q (side_of ts p q))
        ∙ with_all-some new p q (side_of ts p q) (side_of (without_all removed ts) p q) e)
    go false e =
        ap (λ b. cond (list_any (has_edge p q) removed && not b) None (side_with_all new p q (side_of ts p q))) e
        ∙ (left (list_any (has_edge p q) removed) (side_with_all new p q (side_of ts p q))
        ∙ (ap (λ o. cond (list_any (has_edge p q) removed) None o) (with_all-none new p q (side_of ts p q) e)
        ∙ (sym taken ∙ sym (with_all-none new p q (side_of (without_all removed ts) p q) e))))

-- how many triangles there are then
pub length-exchanged : (removed new ts : List Tri) → CanTake removed ts → length (exchanged removed new ts) + length removed ≡ length ts + length new
length-exchanged removed new ts can =
    let a = tally-insert_all (λ t. 1) new (without_all removed ts) in
    let b = tally-without_all (λ t. 1) removed ts can in
    let i = length-tally (exchanged removed new ts) in
    let g = length-tally removed in
    let n = length-tally new in
    let t = length-tally ts in
    omega (arith, a, b, i, g, n, t)

-- the sides after the second list is entered and edges are removed that only the first has: all of them, or as many as should go
pub sides-removed : (entered last : Sides) (removed new ts : List Tri) (left : ℕ) → ((p q : ℕ) → side_at entered p q ≡ side_with_all new p q (side_of ts p q))
    → ((p q : ℕ) → is_removed removed new p q ≡ false → side_at last p q ≡ side_at entered p q)
    → (index_map_len last ≡ left) ⊎ ((p q : ℕ) → is_removed removed new p q ≡ true → side_at last p q ≡ None)
    → left ≡ 3 * length (exchanged removed new ts) → IsUnique edge_eq last → CanExchange removed new ts → (p q : ℕ) → side_at last p q ≡ side_of (exchanged removed new ts) p q
sides-removed entered last removed new ts left sides kept out count unique can p q = go (is_removed removed new p q) refl
  where
    after : List Tri
    after = exchanged removed new ts

    stays : (p q : ℕ) → is_removed removed new p q ≡ false → side_at last p q ≡ side_of after p q
    stays p q e = kept p q e ∙ (sides p q ∙ (sym (ap (λ b. cond b None (side_with_all new p q (side_of ts p q))) e) ∙ sides-exchanged removed new ts p q can))

    goes : (p q : ℕ) → is_removed removed new p q ≡ true → side_of after p q ≡ None
    goes p q e = sym (sides-exchanged removed new ts p q can) ∙ ap (λ b. cond b None (side_with_all new p q (side_of ts p q))) e

    has : (p q : ℕ) (b : Bool) → is_removed removed new p q ≡ b → is_some (side_of after p q) ≡ true → is_some (side_at last p q) ≡ true
    has p q true e h = absurd (let z : false ≡ true = sym (ap is_some (goes p q e)) ∙ h in cc)
    has p q false e h = ap is_some (stays p q e) ∙ h

    sound : AreSound after
    sound = sound-insert_all new (without_all removed ts) can.fit (sound-without_all removed ts can.take)

    go : (b : Bool) → is_removed removed new p q ≡ b → side_at last p q ≡ side_of after p q
    go false e = stays p q e
    go true e = elim out [
      | inl few ↦ no_others last after unique sound (few ∙ count) (λ x y h. has x y (is_removed removed new x y) refl h) p q (goes p q e) ∙ sym (goes p q e)
      | inr all ↦ all p q e ∙ sym (goes p q e)
    ]

pub shows_exchange : (old new : Sides) (before after : List Node) (removed added ts : List Tri)
    → ((p q : ℕ) → side_at new p q ≡ side_of (exchanged removed added ts) p q)
    → ((n : ℕ) → triangles_at after n ≡ number_at n added + (triangles_at before n - number_at n removed))
    → IsUnique edge_eq new → ShowsTriangles old before ts → CanExchange removed added ts → ShowsTriangles new after (exchanged removed added ts)
shows_exchange old new before after removed added ts shown counts unique s can =
    record {
      sides = shown;
      counts = λ n. (let a = counts n in let b = s.counts n in let d = tally-insert_all (λ t. cond (has_corner n t) 1 0) added (without_all removed ts) in let e = tally-without_all (λ t. cond (has_corner n t) 1 0) removed ts can.take in omega (arith, a, b, d, e));
      all = entries-counted new (exchanged removed added ts) unique shown (sound-insert_all added (without_all removed ts) can.fit (sound-without_all removed ts can.take));
    }
