-- The copies of a mesh, by membership: a chunk has exactly the stars of the nodes that it shares, each once, rising.
-- Assumes `IsConforming m`.
use Rattle.std.proofs.Common.{◌≡◌, ℕ, zero, suc, ◌+◌, ◌≤◌, ◌<◌, List, [], ◌∷◌, ◌++◌, refl, sym, ◌∙◌, ap, subst, Bool, true, false, cond, inl, inr, arith, ◌&&◌, ◌||◌}
use Rattle.std.specs.Prelude.{Contains, Option, Some, None, flat_map, filter_map, nat_lt, ◌==◌}
use Rattle.std.specs.List.{range_with_len, cons_option}
use Rattle.std.specs.Option.{option_map}
use Rattle.std.proofs.lemmas.Bool.Decides.{nat_tests}
use Rattle.std.proofs.lemmas.List.Elements.{Contains-append_cases}
use Rattle.std.proofs.lemmas.List.FromFn.{length-range_with_len, get_or-range_with_len}
use Rattle.std.proofs.lemmas.Bool.{eqb-true}
use Rattle.std.proofs.Math.Bool.{or-true}
use Rattle.pf_model.specs.declared.Site.{Site}
use Rattle.pf_model.specs.Rising.{IsRising}
use Rattle.pf_model.specs.Mesh.{Undivided}
use Rattle.pf_model.specs.Conforming.{IsConforming}
use Rattle.pf_model.specs.Stars.{Star, star_of, spokes_of, is_sharer}
use Rattle.pf_model.proofs.Members.{nowhere, here, there, cases}
use Rattle.pf_model.proofs.RisingLemmas.{rising-nil, rising-head, rising-tail, rising-cons}
use Rattle.pf_model.proofs.Triangles.{tri_of-owner}
use Rattle.pf_model.proofs.Kept.{any-means}
use Rattle.pf_model.proofs.Spokes.{filter_map-in, filter_map-out, spokes-means}
use Rattle.pf_model.proofs.ContractKeeps.{flat_map-in, flat_map-out}
use Rattle.pf_star_model.specs.Copies.{Copy, due_copy, copy_of, copy_lt, copies_at, copies_of}
use Rattle.pf_star_model.specs.Laws.{AreCopies}
use Rattle.pf_star_model.proofs.Shown.{star_parts, point_of-name}

-- the copy is the star, and the chunk a sharer
pub record IsDue (c : ℕ) (o : Option Star) (s : Star) : Type 0 where
  pub star : o ≡ Some s
  pub shared : is_sharer c s.spokes ≡ true

pub due_copy-means : (c : ℕ) (o : Option Star) (s : Star) → due_copy c o ≡ Some s → IsDue c o s
due_copy-means c None s h = absurd (let e : None ≡ Some s = h in cc)
due_copy-means c (Some x) s h = go (is_sharer c x.spokes) refl h
  where
    some_same : Some x ≡ Some s → x ≡ s
    some_same e = cc

    go : (b : Bool) → is_sharer c x.spokes ≡ b → cond b (Some x) None ≡ Some s → IsDue c (Some x) s
    go true e f = record { star = f; shared = subst (λ w. is_sharer c w.spokes ≡ true) (some_same f) e }
    go false e f = absurd (let k : None ≡ Some s = f in cc)

copied-means : (c : ℕ) (o : Option Star) (x : Copy) → option_map (λ s. record { chunk = c; star = s }) o ≡ Some x → (o ≡ Some x.star) × (x.chunk ≡ c)
copied-means c None x h = absurd (let e : None ≡ Some x = h in cc)
copied-means c (Some s) x h = (ap (λ w. Some w.star) (some_same h), sym (ap (λ w. w.chunk) (some_same h)))
  where
    of : Copy
    of = record { chunk = c; star = s }

    some_same : Some of ≡ Some x → of ≡ x
    some_same e = cc

pub copies-means : (m : Undivided) (x : Copy) → Contains (copies_of m) x → copy_of m x.chunk x.star.node ≡ Some x.star
copies-means m x h =
    let r = flat_map-out (copies_at m) (range_with_len 0 m.chunks) x h in
    let s = filter_map-out (λ s. option_map (λ y. record { chunk = r.0; star = y }) (copy_of m r.0 s.name)) m.sites x r.2 in
    let e = copied-means r.0 (copy_of m r.0 s.0.name) x s.2 in
    let d = due_copy-means r.0 (star_of m s.0.name) x.star e.0 in
    let n = (star_parts m s.0.name x.star d.star).node in
    ap (λ k. copy_of m k x.star.node) e.1 ∙ (ap (copy_of m r.0) n ∙ e.0)

in_range : (n k : ℕ) → k < n → Contains (range_with_len 0 n) k
in_range n k l = (k, (let e = length-range_with_len 0 n in omega arith), get_or-range_with_len 0 n k k l ∙ zero_add k)
  where
    zero_add : (j : ℕ) → 0 + j ≡ j
    zero_add j = omega arith

-- a sharer is a chunk of the mesh
pub sharer_below : (m : Undivided) → IsConforming m → (c n : ℕ) → is_sharer c (spokes_of m n) ≡ true → c < m.chunks
sharer_below m ok c n h =
    let r = any-means (λ s. s.owner == c) (spokes_of m n) h in
    subst (λ k. k < m.chunks) (tri_of-owner n r.0.right r.0.left r.0.owner ∙ eqb-true r.0.owner c r.2) (ok.owned _ (spokes-means m ok n r.0 r.1))

pub copies-has : (m : Undivided) → IsConforming m → (c n : ℕ) (s : Star) → copy_of m c n ≡ Some s → Contains (copies_of m) record { chunk = c; star = s }
copies-has m ok c n s h =
    let d = due_copy-means c (star_of m n) s h in
    let p = star_parts m n s d.star in
    let site = point_of-name m.sites n p.live in
    let below = sharer_below m ok c n (subst (λ ss. is_sharer c ss ≡ true) p.spokes d.shared) in
    let e : option_map (λ x. record { chunk = c; star = x }) (copy_of m c site.0.name) ≡ Some record { chunk = c; star = s } = ap (λ k. option_map (copied c) (copy_of m c k)) site.2 ∙ ap (option_map (copied c)) h in
    flat_map-in (copies_at m) (range_with_len 0 m.chunks) c record { chunk = c; star = s } (in_range m.chunks c below) (filter_map-in (λ x. option_map (copied c) (copy_of m c x.name)) m.sites site.0 record { chunk = c; star = s } site.1 e)
  where
    copied : ℕ → Star → Copy
    copied k x = record { chunk = k; star = x }

-- rising lists, one after the other
rising-append : {X : Type 0} (lt : X → X → Bool) (xs ys : List X) → IsRising lt xs → IsRising lt ys → ((x y : X) → Contains xs x → Contains ys y → lt x y ≡ true) → IsRising lt (xs ++ ys)
rising-append lt [] ys ux uy h = uy
rising-append lt (x ∷ xs) ys ux uy h = rising-cons lt x (xs ++ ys) (λ z i. elim (Contains-append_cases xs ys z i) [ inl a ↦ rising-head lt x z xs ux a | inr b ↦ h x z (here x xs) b ]) (rising-append lt xs ys (rising-tail lt x xs ux) uy (λ u v a b. h u v (there u x xs a) b))

rising-filter_map : {X Y : Type 0} (lt : X → X → Bool) (lt' : Y → Y → Bool) (h : X → Option Y) → ((x z : X) (a b : Y) → lt x z ≡ true → h x ≡ Some a → h z ≡ Some b → lt' a b ≡ true) → (xs : List X) → IsRising lt xs → IsRising lt' (filter_map h xs)
rising-filter_map lt lt' h keeps [] up = rising-nil lt'
rising-filter_map {X} {Y} lt lt' h keeps (x ∷ xs) up = go (h x) refl (rising-filter_map lt lt' h keeps xs (rising-tail lt x xs up))
  where
    go : (o : Option Y) → h x ≡ o → IsRising lt' (filter_map h xs) → IsRising lt' (cons_option o (filter_map h xs))
    go None e ih = ih
    go (Some y) e ih = rising-cons lt' y (filter_map h xs) (λ z i. let r = filter_map-out h xs z i in keeps x r.0 y z (rising-head lt x r.0 xs up r.1) e r.2) ih

copies_at-chunk : (m : Undivided) (c : ℕ) (x : Copy) → Contains (copies_at m c) x → x.chunk ≡ c
copies_at-chunk m c x h = let r = filter_map-out (λ s. option_map (λ y. record { chunk = c; star = y }) (copy_of m c s.name)) m.sites x h in (copied-means c (copy_of m c r.0.name) x r.2).1

copies_at-rise : (m : Undivided) → IsConforming m → (c : ℕ) → IsRising copy_lt (copies_at m c)
copies_at-rise m ok c = rising-filter_map (λ r s. nat_lt r.name s.name) copy_lt (λ s. option_map (λ y. record { chunk = c; star = y }) (copy_of m c s.name)) keeps m.sites (λ i j d l k. test _ _ (ok.sites_rise i j d l k))
  where
    test : (a b : ℕ) → a < b → nat_lt a b ≡ true
    test a b h = grind (arith, nat_tests)

    copied : Star → Copy
    copied y = record { chunk = c; star = y }

    order : (p q k l : ℕ) → p ≡ k → q ≡ k → nat_lt l l ≡ nat_lt l l → (a b : ℕ) → nat_lt a b ≡ true → (nat_lt p q || (p == q && nat_lt a b)) ≡ true
    order p q k l e f z a b h = let i : (p == q) ≡ true = grind (arith, nat_tests) in rw (i, h) (or-true (nat_lt p q))

    node : (n : ℕ) (x : Copy) → option_map copied (copy_of m c n) ≡ Some x → x.star.node ≡ n
    node n x h = (star_parts m n x.star (due_copy-means c (star_of m n) x.star (copied-means c (copy_of m c n) x h).0).star).node

    keeps : (r s : Site) (x y : Copy) → nat_lt r.name s.name ≡ true → option_map copied (copy_of m c r.name) ≡ Some x → option_map copied (copy_of m c s.name) ≡ Some y → copy_lt x y ≡ true
    keeps r s x y l e f = order x.chunk y.chunk c 0 (copied-means c (copy_of m c r.name) x e).1 (copied-means c (copy_of m c s.name) y f).1 refl x.star.node y.star.node (rw (node r.name x e, node s.name y f) l)

range-from : (a n k : ℕ) → Contains (range_with_len a n) k → a ≤ k
range-from a zero k h = absurd (nowhere k h)
range-from a (suc n) k h = elim (cases k a (range_with_len (a + 1) n) h) [ inl e ↦ omega arith | inr i ↦ (let l = range-from (a + 1) n k i in omega arith) ]

copies_from-rise : (m : Undivided) → IsConforming m → (a n : ℕ) → IsRising copy_lt (flat_map (copies_at m) (range_with_len a n))
copies_from-rise m ok a zero = rising-nil copy_lt
copies_from-rise m ok a (suc n) = rising-append copy_lt (copies_at m a) (flat_map (copies_at m) (range_with_len (a + 1) n)) (copies_at-rise m ok a) (copies_from-rise m ok (a + 1) n) before
  where
    less : (p q : ℕ) → p < q → (z : Bool) → (nat_lt p q || z) ≡ true
    less p q l z = let e : nat_lt p q ≡ true = grind (arith, nat_tests) in rw e refl

    before : (x y : Copy) → Contains (copies_at m a) x → Contains (flat_map (copies_at m) (range_with_len (a + 1) n)) y → copy_lt x y ≡ true
    before x y hx hy =
        let r = flat_map-out (copies_at m) (range_with_len (a + 1) n) y hy in
        let l = range-from (a + 1) n r.0 r.1 in
        let e = copies_at-chunk m a x hx in
        let f = copies_at-chunk m r.0 y r.2 in
        less x.chunk y.chunk (omega arith) (x.chunk == y.chunk && nat_lt x.star.node y.star.node)

pub copies_are_shared : (m : Undivided) → IsConforming m → AreCopies m (copies_of m)
copies_are_shared m ok = record { only = λ x h. copies-means m x h; all = λ c n s h. copies-has m ok c n s h; rise = copies_from-rise m ok 0 m.chunks }
