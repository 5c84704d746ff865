-- The walk to longer edges ends: each move goes to a longer edge of the mesh, so the number of longer edges falls.
-- Assumes nothing of the mesh.
use Rattle.std.proofs.Common.{◌≡◌, ℕ, zero, suc, ◌*◌, ◌<◌, ◌≤◌, List, [], ◌∷◌, refl, sym, ◌∙◌, ap, subst, Bool, true, false, cond, ◌⊎◌, inl, inr, arith, ◌&&◌, ◌||◌}
use Rattle.std.specs.Prelude.{ℤ, ◌<ℤ◌, ◌==◌, nat_lt, int_lt, Contains, Option, Some, None, is_some, min, max, length, filter, map}
use Rattle.std.specs.Ordering.{int_eq}
use Rattle.std.proofs.lemmas.Bool.Decides.{nat_tests, Decides-int_eq}
use Rattle.std.proofs.lemmas.Int.{ints}
use Rattle.pf_model.specs.declared.Tri.{Tri}
use Rattle.pf_model.specs.declared.Side.{Side}
use Rattle.pf_model.specs.Mesh.{Undivided, directed_edges_of, has_edge, apex_in, side_of, is_edge, len2_at}
use Rattle.pf_model.specs.Lengths.{Edge, edge_of, is_longer, longer_of, longest_of}
use Rattle.pf_model.specs.Wishes.{IsTerminal, longer_on, either_of, next_longer, walked, terminal_of}
use Rattle.pf_model.proofs.Counts.{count_lt, count_all}
use Rattle.pf_model.proofs.Totals.{map-in, map-means}
use Rattle.pf_model.proofs.Triangles.{side_of-some, side_of-none}
use Rattle.pf_model.proofs.EdgeSum.{directed_edges_of-from, directed_edges_of-means}
use Rattle.pf_model.proofs.ReadClauses.{and-true, int_lt-holds, is_edge-sorted}

-- the order of edges

abbrev longer_by : ℤ → ℕ → ℕ → ℤ → ℕ → ℕ → Bool
longer_by l a b k c d = int_lt l k || (int_eq l k && (nat_lt a c || (a == c && nat_lt b d)))

-- below by the number, or as far as it goes by the test
longer_by-means : (l k : ℤ) (n : Bool) → (int_lt l k || (int_eq l k && n)) ≡ true → (l <ℤ k) ⊎ ((l ≡ k) × (n ≡ true))
longer_by-means l k n h = go (int_lt l k) refl h
  where
    go : (b : Bool) → int_lt l k ≡ b → (b || (int_eq l k && n)) ≡ true → (l <ℤ k) ⊎ ((l ≡ k) × (n ≡ true))
    go true e x = inl (int_lt-holds l k e)
    go false e x = let a = and-true (int_eq l k) n x in inr ((Decides-int_eq l k).0 a.0, a.1)

longer_by-below : (l k : ℤ) (n : Bool) → l <ℤ k → (int_lt l k || (int_eq l k && n)) ≡ true
longer_by-below l k n h = let e : int_lt l k ≡ true = grind (arith, ints) in ap (λ b. b || (int_eq l k && n)) e

names-trans : (a b c d e f : ℕ) → (nat_lt a c || (a == c && nat_lt b d)) ≡ true → (nat_lt c e || (c == e && nat_lt d f)) ≡ true → (nat_lt a e || (a == e && nat_lt b f)) ≡ true
names-trans a b c d e f h i = grind (arith, nat_tests)

longer_by-trans : (l k j : ℤ) (a b c d e f : ℕ) → longer_by l a b k c d ≡ true → longer_by k c d j e f ≡ true → longer_by l a b j e f ≡ true
longer_by-trans l k j a b c d e f h i = go (longer_by-means l k _ h) (longer_by-means k j _ i)
  where
    go : (l <ℤ k) ⊎ ((l ≡ k) × ((nat_lt a c || (a == c && nat_lt b d)) ≡ true)) → (k <ℤ j) ⊎ ((k ≡ j) × ((nat_lt c e || (c == e && nat_lt d f)) ≡ true)) → longer_by l a b j e f ≡ true
    go (inl x) (inl y) = longer_by-below l j (nat_lt a e || (a == e && nat_lt b f)) (omega (arith, ints, x, y))
    go (inl x) (inr y) = longer_by-below l j (nat_lt a e || (a == e && nat_lt b f)) (subst (λ w. l <ℤ w) y.0 x)
    go (inr x) (inl y) = longer_by-below l j (nat_lt a e || (a == e && nat_lt b f)) (subst (λ w. w <ℤ j) (sym x.0) y)
    go (inr x) (inr y) = subst (λ w. longer_by l a b w e f ≡ true) y.0 (subst (λ w. longer_by w a b k e f ≡ true) (sym x.0) (at_same k (names-trans a b c d e f x.1 y.1)))
      where
        at_same : (w : ℤ) → (nat_lt a e || (a == e && nat_lt b f)) ≡ true → longer_by w a b w e f ≡ true
        at_same w n = let t : int_eq w w ≡ true = grind (arith, ints) in last (int_lt w w) (int_eq w w) (nat_lt a e || (a == e && nat_lt b f)) t n
          where
            last : (p q r : Bool) → q ≡ true → r ≡ true → (p || (q && r)) ≡ true
            last true q r x' y' = refl
            last false q r x' y' = ap (λ v. v && r) x' ∙ y'

longer_by-itself : (l : ℤ) (a b : ℕ) → longer_by l a b l a b ≡ false
longer_by-itself l a b = grind (arith, ints, nat_tests)

is_longer-trans : (m : Undivided) (e f g : Edge) → is_longer m e f ≡ true → is_longer m f g ≡ true → is_longer m e g ≡ true
is_longer-trans m e f g h i = longer_by-trans (len2_at m e.lo e.hi) (len2_at m f.lo f.hi) (len2_at m g.lo g.hi) e.lo e.hi f.lo f.hi g.lo g.hi h i

is_longer-itself : (m : Undivided) (e : Edge) → is_longer m e e ≡ false
is_longer-itself m e = longer_by-itself (len2_at m e.lo e.hi) e.lo e.hi

longer_of-cases : (m : Undivided) (e f : Edge) → (longer_of m e f ≡ e) ⊎ ((longer_of m e f ≡ f) × (is_longer m e f ≡ true))
longer_of-cases m e f = go (is_longer m e f) refl
  where
    go : (b : Bool) → is_longer m e f ≡ b → (cond b f e ≡ e) ⊎ ((cond b f e ≡ f) × (is_longer m e f ≡ true))
    go true h = inr (refl, h)
    go false h = inl refl

-- the longest edge of p, q, z: that of p and q, or a longer one
longest_of-cases : (m : Undivided) (p q z : ℕ) → (longest_of m p q z ≡ edge_of p q) ⊎ ((is_longer m (edge_of p q) (longest_of m p q z) ≡ true) × ((longest_of m p q z ≡ edge_of q z) ⊎ (longest_of m p q z ≡ edge_of z p)))
longest_of-cases m p q z = go (longer_of-cases m (edge_of p q) (edge_of q z)) (longer_of-cases m (longer_of m (edge_of p q) (edge_of q z)) (edge_of z p))
  where
    e : Edge
    e = edge_of p q

    g : Edge
    g = longer_of m (edge_of p q) (edge_of q z)

    l : Edge
    l = longest_of m p q z

    go : (g ≡ e) ⊎ ((g ≡ edge_of q z) × (is_longer m e (edge_of q z) ≡ true)) → (l ≡ g) ⊎ ((l ≡ edge_of z p) × (is_longer m g (edge_of z p) ≡ true)) → (l ≡ e) ⊎ ((is_longer m e l ≡ true) × ((l ≡ edge_of q z) ⊎ (l ≡ edge_of z p)))
    go (inl a) (inl b) = inl (b ∙ a)
    go (inl a) (inr b) = inr (subst (λ w. is_longer m e w ≡ true) (sym b.0) (subst (λ w. is_longer m w (edge_of z p) ≡ true) a b.1), inr b.0)
    go (inr a) (inl b) = inr (subst (λ w. is_longer m e w ≡ true) (sym (b ∙ a.0)) a.1, inl (b ∙ a.0))
    go (inr a) (inr b) = inr (subst (λ w. is_longer m e w ≡ true) (sym b.0) (is_longer-trans m e (edge_of q z) (edge_of z p) a.1 (subst (λ w. is_longer m w (edge_of z p) ≡ true) a.0 b.1)), inr b.0)

-- the edges of the triangles

abbrev all_edges : List Tri → List Edge
all_edges ts = map (λ e. edge_of e.from e.to) (directed_edges_of ts)

all_edges-length : (ts : List Tri) → length (all_edges ts) ≡ 3 * length ts
all_edges-length [] = refl
all_edges-length (t ∷ ts) = let h = all_edges-length ts in omega (arith, h)

edge_same : (e f : Edge) → e.lo ≡ f.lo → e.hi ≡ f.hi → e ≡ f
edge_same e f p q = λ i. record { lo = p i; hi = q i }

edge_of-swapped : (a b : ℕ) → edge_of a b ≡ edge_of b a
edge_of-swapped a b = edge_same (edge_of a b) (edge_of b a) (omega arith) (omega arith)

-- the lower name stands first
abbrev IsSorted : Edge → Type 0
IsSorted e = edge_of e.lo e.hi ≡ e

edge_of-sorted : (a b : ℕ) → IsSorted (edge_of a b)
edge_of-sorted a b = edge_same (edge_of (min a b) (max a b)) (edge_of a b) (omega arith) (omega arith)

apex-next : (p q : ℕ) (t : Tri) → has_edge p q t ≡ true → has_edge q (apex_in p q t) t ≡ true
apex-next p q t h = grind (arith, nat_tests)

apex-last : (p q : ℕ) (t : Tri) → has_edge p q t ≡ true → has_edge (apex_in p q t) p t ≡ true
apex-last p q t h = grind (arith, nat_tests)

all_edges-from : (ts : List Tri) (p q : ℕ) (t : Tri) → Contains ts t → has_edge p q t ≡ true → Contains (all_edges ts) (edge_of p q)
all_edges-from ts p q t h k = map-in (λ e. edge_of e.from e.to) (directed_edges_of ts) record { from = p; to = q } (directed_edges_of-from ts record { from = p; to = q } t h k)

-- the two other edges of the triangle on a side
record AreOthers (ts : List Tri) (p q z : ℕ) : Type 0 where
  next : Contains (all_edges ts) (edge_of q z)
  last : Contains (all_edges ts) (edge_of z p)

side_of-others : (ts : List Tri) (p q : ℕ) (s : Side) → side_of ts p q ≡ Some s → AreOthers ts p q s.apex
side_of-others ts p q s e =
    let r = side_of-some ts p q s e in
    record {
      next = subst (λ z. Contains (all_edges ts) (edge_of q z)) r.3 (all_edges-from ts q (apex_in p q r.0) r.0 r.1 (apex-next p q r.0 r.2));
      last = subst (λ z. Contains (all_edges ts) (edge_of z p)) r.3 (all_edges-from ts (apex_in p q r.0) p r.0 r.1 (apex-last p q r.0 r.2));
    }

others-swapped : (ts : List Tri) (p q z : ℕ) → AreOthers ts q p z → AreOthers ts p q z
others-swapped ts p q z o = record { next = subst (λ w. Contains (all_edges ts) w) (edge_of-swapped z q) o.last; last = subst (λ w. Contains (all_edges ts) w) (edge_of-swapped p z) o.next }

-- the edge is in the mesh
all_edges-is_edge : (ts : List Tri) (f : Edge) → Contains (all_edges ts) f → is_edge ts f.lo f.hi ≡ true
all_edges-is_edge ts f h =
    let r = map-means (λ e. edge_of e.from e.to) (directed_edges_of ts) f h in
    let t = directed_edges_of-means ts r.0 r.1 in
    subst (λ w. is_edge ts w.lo w.hi ≡ true) r.2 (is_edge-sorted ts r.0.from r.0.to (on_left r.0.from r.0.to t.0 t.1 t.2))
  where
    on_left : (p q : ℕ) (t : Tri) → Contains ts t → has_edge p q t ≡ true → is_edge ts p q ≡ true
    on_left p q t c k = go (side_of ts p q) refl
      where
        go : (o : Option Side) → side_of ts p q ≡ o → (is_some o || is_some (side_of ts q p)) ≡ true
        go (Some s) e = refl
        go None e = absurd (let n = side_of-none ts p q e t c in let z : true ≡ false = sym k ∙ n in cc)

all_edges-sorted : (ts : List Tri) (f : Edge) → Contains (all_edges ts) f → IsSorted f
all_edges-sorted ts f h = let r = map-means (λ e. edge_of e.from e.to) (directed_edges_of ts) f h in subst (λ w. IsSorted w) r.2 (edge_of-sorted r.0.from r.0.to)

-- moves

-- f is an edge of the triangles, and longer than e
record IsMove (m : Undivided) (e f : Edge) : Type 0 where
  longer : is_longer m e f ≡ true
  stands : Contains (all_edges m.tris) f

some_same : {e f : Edge} → Some e ≡ Some f → e ≡ f
some_same h = cc

longer_on-move : (m : Undivided) (e f : Edge) (s : Side) → IsSorted e → AreOthers m.tris e.lo e.hi s.apex → longer_on m e (Some s) ≡ Some f → IsMove m e f
longer_on-move m e f s sorted o h = go (l.lo == e.lo && l.hi == e.hi) refl h
  where
    l : Edge
    l = longest_of m e.lo e.hi s.apex

    itself : (g : Edge) → g ≡ e → (g.lo == e.lo && g.hi == e.hi) ≡ false → ⊥
    itself g p n = let a = ap (λ w. w.lo) p in let b = ap (λ w. w.hi) p in grind (arith, nat_tests)

    stands : (l ≡ edge_of e.hi s.apex) ⊎ (l ≡ edge_of s.apex e.lo) → Contains (all_edges m.tris) l
    stands (inl p) = subst (λ w. Contains (all_edges m.tris) w) (sym p) o.next
    stands (inr p) = subst (λ w. Contains (all_edges m.tris) w) (sym p) o.last

    go : (b : Bool) → (l.lo == e.lo && l.hi == e.hi) ≡ b → cond b None (Some l) ≡ Some f → IsMove m e f
    go true t k = absurd (let z : None ≡ Some f = k in cc)
    go false t k =
        subst (λ w. IsMove m e w) (some_same k)
        (elim (longest_of-cases m e.lo e.hi s.apex) [
          | inl p ↦ absurd (itself l (p ∙ sorted) t)
          | inr p ↦ record { longer = subst (λ w. is_longer m w l ≡ true) sorted p.0; stands = stands p.1 }
        ])

next_longer-move : (m : Undivided) (e f : Edge) → IsSorted e → next_longer m e ≡ Some f → IsMove m e f
next_longer-move m e f sorted h = go (side_of m.tris e.lo e.hi) (side_of m.tris e.hi e.lo) refl refl h
  where
    right : (o : Option Side) → side_of m.tris e.hi e.lo ≡ o → longer_on m e o ≡ Some f → IsMove m e f
    right None p k = absurd (let z : None ≡ Some f = k in cc)
    right (Some s) p k = longer_on-move m e f s sorted (others-swapped m.tris e.lo e.hi s.apex (side_of-others m.tris e.hi e.lo s p)) k

    left : (s : Side) (o : Option Side) → side_of m.tris e.lo e.hi ≡ Some s → side_of m.tris e.hi e.lo ≡ o → (r : Option Edge) → longer_on m e (Some s) ≡ r → either_of r (longer_on m e o) ≡ Some f → IsMove m e f
    left s o p q None x k = right o q k
    left s o p q (Some g) x k = longer_on-move m e f s sorted (side_of-others m.tris e.lo e.hi s p) (x ∙ k)

    go : (l o : Option Side) → side_of m.tris e.lo e.hi ≡ l → side_of m.tris e.hi e.lo ≡ o → either_of (longer_on m e l) (longer_on m e o) ≡ Some f → IsMove m e f
    go None o p q k = right o q k
    go (Some s) o p q k = left s o p q (longer_on m e (Some s)) refl k

-- the number of longer edges falls

abbrev longer_count : Undivided → Edge → ℕ
longer_count m e = length (filter (is_longer m e) (all_edges m.tris))

move_falls : (m : Undivided) (e f : Edge) → IsMove m e f → longer_count m f < longer_count m e
move_falls m e f mv = count_lt (is_longer m f) (is_longer m e) (λ g h. is_longer-trans m e f g mv.longer h) (all_edges m.tris) f mv.stands (is_longer-itself m f) mv.longer

-- where no edge is longer on a side, the edge is the longest there
longer_on-none : (m : Undivided) (e : Edge) (s : Side) → longer_on m e (Some s) ≡ None → longest_of m e.lo e.hi s.apex ≡ e
longer_on-none m e s h = go (l.lo == e.lo && l.hi == e.hi) refl h
  where
    l : Edge
    l = longest_of m e.lo e.hi s.apex

    go : (b : Bool) → (l.lo == e.lo && l.hi == e.hi) ≡ b → cond b None (Some l) ≡ None → l ≡ e
    go true t k = edge_same l e (first l.lo e.lo l.hi e.hi t) (second l.lo e.lo l.hi e.hi t)
      where
        first : (a b c d : ℕ) → (a == b && c == d) ≡ true → a ≡ b
        first a b c d x = grind (arith, nat_tests)

        second : (a b c d : ℕ) → (a == b && c == d) ≡ true → c ≡ d
        second a b c d x = grind (arith, nat_tests)
    go false t k = absurd (let z : Some l ≡ None = k in cc)

either_of-none : (a b : Option Edge) → either_of a b ≡ None → (a ≡ None) × (b ≡ None)
either_of-none None b h = (refl, h)
either_of-none (Some e) b h = absurd (let z : Some e ≡ None = h in cc)

terminal_where_none : (m : Undivided) (e : Edge) → is_edge m.tris e.lo e.hi ≡ true → next_longer m e ≡ None → IsTerminal m e
terminal_where_none m e edge h =
    let b = either_of-none (longer_on m e (side_of m.tris e.lo e.hi)) (longer_on m e (side_of m.tris e.hi e.lo)) h in
    record {
      edge = edge;
      left = λ s p. longer_on-none m e s (ap (longer_on m e) (sym p) ∙ b.0);
      right = λ s p. longer_on-none m e s (ap (longer_on m e) (sym p) ∙ b.1);
      ends = h;
    }

walk_ends : (most : ℕ) (m : Undivided) (e : Edge) → IsSorted e → is_edge m.tris e.lo e.hi ≡ true → longer_count m e ≤ most → IsTerminal m (walked most m e)
walk_ends zero m e sorted edge few = go (next_longer m e) refl
  where
    go : (o : Option Edge) → next_longer m e ≡ o → IsTerminal m e
    go None h = terminal_where_none m e edge h
    go (Some f) h = absurd (let k = move_falls m e f (next_longer-move m e f sorted h) in omega (arith, few, k))
walk_ends (suc most) m e sorted edge few = go (next_longer m e) refl (λ f mv. walk_ends most m f (all_edges-sorted m.tris f mv.stands) (all_edges-is_edge m.tris f mv.stands) (let k = move_falls m e f mv in omega (arith, few, k)))
  where
    go : (o : Option Edge) → next_longer m e ≡ o → ((f : Edge) → IsMove m e f → IsTerminal m (walked most m f)) → IsTerminal m (elim o [ None ↦ e | Some f ↦ walked most m f ])
    go None h ih = terminal_where_none m e edge h
    go (Some f) h ih = ih f (next_longer-move m e f sorted h)

-- the walk from an edge of the mesh ends at a terminal edge
pub walk_ends_at_terminal : (m : Undivided) (a b : ℕ) → is_edge m.tris a b ≡ true → IsTerminal m (terminal_of m (edge_of a b))
walk_ends_at_terminal m a b edge =
    let all = all_edges-length m.tris in
    let some = count_all (is_longer m (edge_of a b)) (all_edges m.tris) in
    walk_ends (3 * length m.tris) m (edge_of a b) (edge_of-sorted a b) (is_edge-sorted m.tris a b edge) (omega (arith, all, some))
