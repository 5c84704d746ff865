-- The lists that the copies of a mesh give are its own.
-- Assumes `IsConforming m`.
use Rattle.std.proofs.Common.{◌≡◌, ℕ, ◌<◌, List, [], ◌∷◌, refl, sym, ◌∙◌, ap, subst, Bool, true, false, cond, ◌&&◌, ◌||◌, ◌==◌, flat_map, map, arith}
use Rattle.std.specs.Prelude.{filter, nat_lt}
use Rattle.std.proofs.lemmas.Bool.Decides.{nat_tests}
use Rattle.std.proofs.lemmas.List.Concat.{flat_map_single}
use Rattle.std.proofs.lemmas.List.Folds.{flat_map-map}
use Rattle.pf_model.specs.declared.Site.{Site}
use Rattle.pf_model.specs.declared.Spoke.{Spoke}
use Rattle.pf_model.specs.declared.Tri.{Tri}
use Rattle.pf_model.specs.Rising.{IsRising, sorted_by}
use Rattle.pf_model.specs.Mesh.{Undivided, tri_lt}
use Rattle.pf_model.specs.Conforming.{IsConforming}
use Rattle.pf_model.proofs.Triangles.{tri_lt-order}
use Rattle.pf_star_model.specs.Lent.{tri_at}
use Rattle.pf_star_model.specs.Copies.{Copy, copies_of}
use Rattle.pf_star_model.specs.Assembled.{is_kept, site_in, site_lt, least_tris}
use Rattle.pf_star_model.proofs.Assembled.{sites-same, tris-same}
use Rattle.pf_star.specs.declared.copies.ChunkCopy.{ChunkCopy}
use Rattle.pf_star.specs.declared.copies.Copies.{Copies}
use Rattle.pf_locks.specs.Closes.{AreCopiesOf, shown_copy}
use Rattle.pf_locks.specs.Ends.{is_least, tri_from, tris_from}
use Rattle.pf_assemble.specs.Whole.{kept_sites, kept_tris}
use Rattle.pf_assemble.proofs.Loops.{picked}
use Rattle.pf_assemble.proofs.Sorts.{AreTests}

-- sites by name, triangles by corners
abbrev pub same_name : Site → Site → Bool
same_name r s = r.name == s.name

abbrev pub same_corners : Tri → Tri → Bool
same_corners s t = s.a == t.a && (s.b == t.b && s.c == t.c)

pub site-tests : AreTests site_lt same_name
site-tests = record {
  order = record { irreflexive = λ x. itself x.name; transitive = λ x y z h k. step x.name y.name z.name h k };
  flips = λ x y. flipped x.name y.name;
  apart = λ x y h. differ x.name y.name h;
  total = λ x y h k. before x.name y.name h k;
}
  where
    itself : (a : ℕ) → nat_lt a a ≡ false
    itself a = grind (arith, nat_tests)

    step : (a b c : ℕ) → nat_lt a b ≡ true → nat_lt b c ≡ true → nat_lt a c ≡ true
    step a b c h k = grind (arith, nat_tests)

    flipped : (a b : ℕ) → (a == b) ≡ (b == a)
    flipped a b = grind (arith, nat_tests)

    differ : (a b : ℕ) → nat_lt a b ≡ true → (a == b) ≡ false
    differ a b h = grind (arith, nat_tests)

    before : (a b : ℕ) → nat_lt b a ≡ false → (a == b) ≡ false → nat_lt a b ≡ true
    before a b h k = grind (arith, nat_tests)

pub tri-tests : AreTests tri_lt same_corners
tri-tests = record {
  order = tri_lt-order;
  flips = λ x y. flipped x.a x.b x.c y.a y.b y.c;
  apart = λ x y h. differ x.a x.b x.c y.a y.b y.c h;
  total = λ x y h k. before x.a x.b x.c y.a y.b y.c h k;
}
  where
    flipped : (a b c x y z : ℕ) → (a == x && (b == y && c == z)) ≡ (x == a && (y == b && z == c))
    flipped a b c x y z = grind (arith, nat_tests)

    differ : (a b c x y z : ℕ) → (nat_lt a x || (a == x && (nat_lt b y || (b == y && nat_lt c z)))) ≡ true → (a == x && (b == y && c == z)) ≡ false
    differ a b c x y z h = grind (arith, nat_tests)

    before : (a b c x y z : ℕ) → (nat_lt x a || (x == a && (nat_lt y b || (y == b && nat_lt z c)))) ≡ false → (a == x && (b == y && c == z)) ≡ false → (nat_lt a x || (a == x && (nat_lt b y || (b == y && nat_lt c z)))) ≡ true
    before a b c x y z h k = grind (arith, nat_tests)

-- a triangle that begins with its least corner
starts : (n : ℕ) (s : Spoke) → is_least n s ≡ true → tri_at n s ≡ tri_from n s
starts n s h = ap (λ b. cond b (tri_from n s) other) h
  where
    other : Tri
    other = cond (nat_lt s.right s.left && nat_lt s.right n) record { a = s.right; b = s.left; c = n; owner = s.owner } record { a = s.left; b = n; c = s.right; owner = s.owner }

-- the triangles of a star that begin at its node
least-same : (n : ℕ) (ss : List Spoke) → tris_from n ss ≡ map (tri_at n) (filter (is_least n) ss)
least-same n [] = refl
least-same n (s ∷ ss) = go (is_least n s) refl (least-same n ss)
  where
    go : (b : Bool) → is_least n s ≡ b → tris_from n ss ≡ map (tri_at n) (filter (is_least n) ss) → cond b (tri_from n s ∷ tris_from n ss) (tris_from n ss) ≡ map (tri_at n) (cond b (s ∷ filter (is_least n) ss) (filter (is_least n) ss))
    go true e ih = λ i. sym (starts n s e) i ∷ ih i
    go false e ih = ih

-- what is picked of the copies that a list shows
shown : {Y : Type 0} (f : Copy → List Y) (xs : List ChunkCopy) → flat_map (λ x. cond (is_kept (shown_copy x)) (f (shown_copy x)) []) xs ≡ flat_map f (filter is_kept (map shown_copy xs))
shown f xs = sym (flat_map-map (λ x. cond (is_kept x) (f x) []) shown_copy xs) ∙ picked is_kept f (map shown_copy xs)

pub sites-shown : (xs : List ChunkCopy) → flat_map kept_sites xs ≡ map site_in (filter is_kept (map shown_copy xs))
sites-shown xs = shown (λ x. site_in x ∷ []) xs ∙ flat_map_single site_in (filter is_kept (map shown_copy xs))

pub tris-shown : (xs : List ChunkCopy) → flat_map kept_tris xs ≡ flat_map least_tris (filter is_kept (map shown_copy xs))
tris-shown xs = ap (λ (f : ChunkCopy → List Tri). flat_map f xs) (λ i x. cond (is_kept (shown_copy x)) (least-same x.star.node x.star.spokes i) []) ∙ shown least_tris xs

-- the lists of a conforming mesh are those that its copies give, sorted
module _ (m : Undivided) (ok : IsConforming m) (xs : List ChunkCopy) (divided : map shown_copy xs ≡ copies_of m) where
  pub sites-are : m.sites ≡ sorted_by site_lt (flat_map kept_sites xs)
  sites-are = sites-same m ok ∙ sym (ap (sorted_by site_lt) (sites-shown xs ∙ ap (λ l. map site_in (filter is_kept l)) divided))

  pub tris-are : m.tris ≡ sorted_by tri_lt (flat_map kept_tris xs)
  tris-are = tris-same m ok ∙ sym (ap (sorted_by tri_lt) (tris-shown xs ∙ ap (λ l. flat_map least_tris (filter is_kept l)) divided))

  pub sites-rise : IsRising site_lt (sorted_by site_lt (flat_map kept_sites xs))
  sites-rise = subst (IsRising site_lt) sites-are (λ i j d l k. test _ _ (ok.sites_rise i j d l k))
    where
      test : (a b : ℕ) → a < b → nat_lt a b ≡ true
      test a b h = grind (arith, nat_tests)

  pub tris-rise : IsRising tri_lt (sorted_by tri_lt (flat_map kept_tris xs))
  tris-rise = subst (IsRising tri_lt) tris-are ok.tris_rise

-- a mesh is that of its copies
pub whole-is : (m : Undivided) → IsConforming m → (copies : Copies) → AreCopiesOf m copies → (sites : List Site) (tris : List Tri)
    → (IsRising site_lt (sorted_by site_lt (flat_map kept_sites copies.list.items)) → sites ≡ sorted_by site_lt (flat_map kept_sites copies.list.items))
    → (IsRising tri_lt (sorted_by tri_lt (flat_map kept_tris copies.list.items)) → tris ≡ sorted_by tri_lt (flat_map kept_tris copies.list.items))
    → m ≡ record { first_new = copies.first_new; sites = sites; tris = tris; bands = copies.bands.items; chunks = copies.chunks }
whole-is m ok copies d sites tris s t =
    let xs = copies.list.items in
    let e : m.sites ≡ sites = sites-are m ok xs d.list ∙ sym (s (sites-rise m ok xs d.list)) in
    let f : m.tris ≡ tris = tris-are m ok xs d.list ∙ sym (t (tris-rise m ok xs d.list)) in
    λ i. record { first_new = sym d.first_new i; sites = e i; tris = f i; bands = sym d.bands i; chunks = sym d.chunks i }
