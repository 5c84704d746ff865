-- What the edge table shows after a triangle is put in, and the side of an edge after steps on it.
use Rattle.std.proofs.Common.{◌≡◌, ℕ, zero, suc, ◌+◌, ◌-◌, ◌<◌, ◌≤◌, List, [], ◌∷◌, length, drop, get_or, refl, sym, ◌∙◌, ap, Bool, true, false, cond, not, inl, inr, arith, Option, Some, None, ◌==◌, ◌&&◌, ◌||◌}
use Rattle.std.specs.Prelude.{Contains}
use Rattle.std.specs.List.{list_any}
use Rattle.std.proofs.lemmas.Bool.Decides.{nat_tests}
use Rattle.std.proofs.lemmas.List.{drop_more}
use Rattle.indexmap.specs.IndexMap.{index_map_len}
use Rattle.pf_model.specs.declared.Tri.{Tri}
use Rattle.pf_model.specs.Rising.{insert_by}
use Rattle.pf_model.specs.declared.Side.{Side}
use Rattle.pf_model.specs.Mesh.{tri_lt, has_edge, has_corner}
use Rattle.pf_model.proofs.Members.{here, there, filter-in}
use Rattle.pf_edges.specs.declared.table.Node.{Node}
use Rattle.pf_model.specs.Exchange.{AreFit, CanTake, SharesNoEdge, without, number_at}
use Rattle.pf_edges.specs.Table.{Sides, side_at, triangles_at, ShowsTriangles, HasSamePlaces}
use Rattle.pf_edges.specs.TableSteps.{side_with, side_without, side_bare, is_bare, AreBare}
use Rattle.pf_model.proofs.Exchange.{bool_cases, side_of-insert, tally-insert, length-tally, side_of-absent, sound-filter}
use Rattle.pf_edges.proofs.Sides.{same_ends}

-- what `enter` does to a side, edge by edge
pub side_with-is : (t : Tri) (p q : ℕ) (old : Option Side)
    → cond (t.a == p && t.b == q) (Some record { apex = t.c; owner = t.owner }) (cond (t.b == p && t.c == q) (Some record { apex = t.a; owner = t.owner }) (cond (t.c == p && t.a == q) (Some record { apex = t.b; owner = t.owner }) old))
    ≡ side_with t p q old
side_with-is t p q old = go (t.a == p && t.b == q) (t.b == p && t.c == q) (t.c == p && t.a == q)
  where
    left_of : ℕ → Option Side
    left_of apex = Some record { apex = apex; owner = t.owner }

    go : (x y z : Bool) → cond x (left_of t.c) (cond y (left_of t.a) (cond z (left_of t.b) old)) ≡ cond (x || (y || z)) (left_of (cond x t.c (cond y t.a t.b))) old
    go true y z = refl
    go false true z = refl
    go false false true = refl
    go false false false = refl

-- what `remove_edge` does to a side
pub removed : (p q a b : ℕ) (new : List Tri) (old : Option Side) → list_any (has_edge p q) new ≡ false → cond (p == a && q == b) None old ≡ side_without (p == a && q == b) new a b old
removed p q a b new old none = go (p == a && q == b) refl
  where
    go : (x : Bool) → (p == a && q == b) ≡ x → cond x None old ≡ side_without x new a b old
    go true e = let s = same_ends p q a b e in let h : list_any (has_edge a b) new ≡ false = (λ i. list_any (has_edge (sym s.0 i) (sym s.1 i)) new) ∙ none in ap (λ n. cond (not n) None old) (sym h)
    go false e = refl

-- what `remove_edges` does to a side, edge by edge
pub removed-three : (t : Tri) (new : List Tri) (p q : ℕ) (old : Option Side)
    → side_without (t.c == p && t.a == q) new p q (side_without (t.b == p && t.c == q) new p q (side_without (t.a == p && t.b == q) new p q old)) ≡ side_without (has_edge p q t) new p q old
removed-three t new p q old = go (t.a == p && t.b == q) (t.b == p && t.c == q) (t.c == p && t.a == q) (list_any (has_edge p q) new)
  where
    go : (x y z n : Bool) → cond (z && not n) None (cond (y && not n) None (cond (x && not n) None old)) ≡ cond ((x || (y || z)) && not n) None old
    go true true true true = refl
    go true true true false = refl
    go true true false true = refl
    go true true false false = refl
    go true false true true = refl
    go true false true false = refl
    go true false false true = refl
    go true false false false = refl
    go false true true true = refl
    go false true true false = refl
    go false true false true = refl
    go false true false false = refl
    go false false true true = refl
    go false false true false = refl
    go false false false true = refl
    go false false false false = refl

-- what `remove_bare_edges` does to a side, edge by edge
pub bare-three : (t : Tri) (p q : ℕ) (bare : Bool) (old : Option Side)
    → side_bare (t.c == p && t.a == q) bare (side_bare (t.b == p && t.c == q) bare (side_bare (t.a == p && t.b == q) bare old)) ≡ side_bare (has_edge p q t) bare old
bare-three t p q bare old = go (t.a == p && t.b == q) (t.b == p && t.c == q) (t.c == p && t.a == q) bare
  where
    go : (x y z n : Bool) → cond (z && n) None (cond (y && n) None (cond (x && n) None old)) ≡ cond ((x || (y || z)) && n) None old
    go true true true true = refl
    go true true true false = refl
    go true true false true = refl
    go true true false false = refl
    go true false true true = refl
    go true false true false = refl
    go true false false true = refl
    go true false false false = refl
    go false true true true = refl
    go false true true false = refl
    go false true false true = refl
    go false true false false = refl
    go false false true true = refl
    go false false true false = refl
    go false false false true = refl
    go false false false false = refl

-- what two steps of striking bare edges do
pub bare-cons : (x y bare : Bool) (old : Option Side) → side_bare y bare (side_bare x bare old) ≡ side_bare (x || y) bare old
bare-cons true true true old = refl
bare-cons true true false old = refl
bare-cons true false true old = refl
bare-cons true false false old = refl
bare-cons false true true old = refl
bare-cons false true false old = refl
bare-cons false false true old = refl
bare-cons false false false old = refl

-- a bare edge is at u
at_node : (u v : ℕ) (all : Bool) (p q : ℕ) → is_bare u v all p q ≡ true → (p == u || q == u) ≡ true
at_node u v all p q h = go (p == u) (q == u) (all || q == v) (all || p == v) h
  where
    go : (x y a b : Bool) → ((x && a) || (y && b)) ≡ true → (x || y) ≡ true
    go true y a b h = refl
    go false true a b h = refl
    go false false a b h = h

-- a triangle without a corner at a node has no edge there
no_edge : (t : Tri) (p q n : ℕ) → (p == n || q == n) ≡ true → has_corner n t ≡ false → has_edge p q t ≡ false
no_edge t p q n e h = grind (arith, nat_tests)

no_edges : (ts : List Tri) (p q n : ℕ) → (p == n || q == n) ≡ true → list_any (has_corner n) ts ≡ false → list_any (has_edge p q) ts ≡ false
no_edges [] p q n e h = refl
no_edges (t ∷ ts) p q n e h = go (has_corner n t) refl h (no_edges ts p q n e)
  where
    go : (b : Bool) → has_corner n t ≡ b → (b || list_any (has_corner n) ts) ≡ false → (list_any (has_corner n) ts ≡ false → list_any (has_edge p q) ts ≡ false)
        → (has_edge p q t || list_any (has_edge p q) ts) ≡ false
    go true i k rest = absurd (let z : true ≡ false = k in cc)
    go false i k rest = rw (no_edge t p q n e i) (rest k)

-- where none of the triangles has a corner at u, all edges there are bare
pub bare-all : (ts : List Tri) (u v : ℕ) (all : Bool) → list_any (has_corner u) ts ≡ false → AreBare u v all ts
bare-all ts u v all h p q b = no_edges ts p q u (at_node u v all p q b) h

-- a triangle without one of two corners has no edge between them
no_edge-both : (t : Tri) (u v p q : ℕ) → is_bare u v false p q ≡ true → (has_corner u t && has_corner v t) ≡ false → has_edge p q t ≡ false
no_edge-both t u v p q e h = grind (arith, nat_tests)

-- where none of the triangles has both corners, the edges between them are bare
pub bare-both : (ts : List Tri) (u v : ℕ) → list_any (λ t. has_corner u t && has_corner v t) ts ≡ false → AreBare u v false ts
bare-both [] u v h p q b = refl
bare-both (t ∷ ts) u v h p q b = go (has_corner u t && has_corner v t) refl h (λ k. bare-both ts u v k p q b)
  where
    go : (x : Bool) → (has_corner u t && has_corner v t) ≡ x → (x || list_any (λ s. has_corner u s && has_corner v s) ts) ≡ false → (list_any (λ s. has_corner u s && has_corner v s) ts ≡ false → list_any (has_edge p q) ts ≡ false)
        → (has_edge p q t || list_any (has_edge p q) ts) ≡ false
    go true i k rest = absurd (let z : true ≡ false = k in cc)
    go false i k rest = rw (no_edge-both t u v p q b i) (rest k)

pub tally-le : (n : ℕ) (ts : List Tri) → number_at n ts ≤ length ts
tally-le n [] = omega arith
tally-le n (t ∷ ts) = go (has_corner n t) (tally-le n ts)
  where
    go : (b : Bool) → number_at n ts ≤ length ts → cond b 1 0 + number_at n ts ≤ suc (length ts)
    go true ih = omega arith
    go false ih = omega arith

pub edge_one : (t : Tri) → has_edge t.a t.b t ≡ true
edge_one t = grind (arith, nat_tests)

pub edge_two : (t : Tri) → has_edge t.b t.c t ≡ true
edge_two t = grind (arith, nat_tests)

pub edge_three : (t : Tri) → has_edge t.c t.a t ≡ true
edge_three t = grind (arith, nat_tests)

pub shows_put : (old new : Sides) (before after : List Node) (t : Tri) (ts : List Tri) → ((p q : ℕ) → side_at new p q ≡ side_with t p q (side_at old p q))
    → (side_at old t.a t.b ≡ None → side_at old t.b t.c ≡ None → side_at old t.c t.a ≡ None → index_map_len new ≡ index_map_len old + 3)
    → ((n : ℕ) → triangles_at after n ≡ cond (has_corner n t) 1 0 + triangles_at before n)
    → ShowsTriangles old before ts → SharesNoEdge t ts → ShowsTriangles new after (insert_by tri_lt t ts)
shows_put old new before after t ts sides len counts s apart =
    record {
      sides = λ p q. sides p q ∙ (ap (side_with t p q) (s.sides p q) ∙ sym (side_of-insert t ts p q apart));
      counts = λ n. counts n ∙ (ap (λ x. cond (has_corner n t) 1 0 + x) (s.counts n) ∙ sym (tally-insert (λ r. cond (has_corner n r) 1 0) t ts));
      all = (let a = len (none t.a t.b (edge_one t)) (none t.b t.c (edge_two t)) (none t.c t.a (edge_three t)) in let b : length (insert_by tri_lt t ts) ≡ 1 + length ts = length-tally (insert_by tri_lt t ts) ∙ (tally-insert (λ r. 1) t ts ∙ ap (λ x. 1 + x) (sym (length-tally ts))) in let d = s.all in omega (arith, a, b, d));
    }
  where
    none : (p q : ℕ) → has_edge p q t ≡ true → side_at old p q ≡ None
    none p q e = s.sides p q ∙ side_of-absent ts p q (λ r k. apart r p q k e)

not_false : (b : Bool) → b ≡ false → not b ≡ true
not_false b e = ap not e

pub can_take-rest : (g : Tri) (gs ts : List Tri) → CanTake (g ∷ gs) ts → CanTake gs (without g ts)
can_take-rest g gs ts c =
    record {
      sound = sound-filter (λ t. not (has_edge g.a g.b t)) ts c.sound;
      stand = λ t h. filter-in (λ t. not (has_edge g.a g.b t)) t ts (c.stand t (there t g gs h)) (not_false _ (other t h));
      once = c.once.1;
    }
  where
    other : (t : Tri) → Contains gs t → has_edge g.a g.b t ≡ false
    other t h = elim (bool_cases (has_edge g.a g.b t)) [ inl e ↦ absurd (c.once.0 t h (c.sound.edges_once g t g.a g.b (c.stand g (here g gs)) (c.stand t (there t g gs h)) (edge_one g) e)) | inr e ↦ e ]

pub same_places : (old new newer : List Node) → HasSamePlaces old new → HasSamePlaces new newer → HasSamePlaces old newer
same_places old new newer a b = record { names = b.names ∙ a.names; places = λ n. b.places n ∙ a.places n }

pub fit-drop : (k : ℕ) (new ts : List Tri) → AreFit new ts → AreFit (drop k new) ts
fit-drop zero new ts f = f
fit-drop (suc k) [] ts f = f
fit-drop (suc k) (t ∷ new) ts f = fit-drop k new ts f.2

pub drop_last : (xs : List Tri) (k : ℕ) (d : Tri) → 0 < k → k ≤ length xs → drop (k - 1) xs ≡ get_or xs (k - 1) d ∷ drop k xs
drop_last xs k d some within =
    let e : (k - 1) + 1 ≡ k = omega arith in
    let l : k - 1 < length xs = omega arith in
    drop_more xs (k - 1) d l ∙ ap (λ n. get_or xs (k - 1) d ∷ drop n xs) e
