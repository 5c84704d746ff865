-- The triangles in the keepers' copies whose corners are all free are those of the mesh.
use Rattle.std.proofs.Common.{◌≡◌, ◌⊎◌, ℕ, zero, suc, ◌+◌, ◌<◌, ◌≤◌, Bool, true, false, cond, ◌==◌, ◌&&◌, ◌||◌, nat_lt, List, [], ◌∷◌, ◌++◌, map, filter, refl, sym, ap, ◌∙◌, subst, inl, inr, ⊎_elim, arith}
use Rattle.std.specs.Prelude.{slice_index, Some, Contains, filter_map}
use Rattle.std.proofs.lemmas.Bool.Decides.{nat_tests}
use mathlib.Core.Logic.{dite}
use native.Mathlib.Decide.{ℕ_discrete}
use Rattle.pf_model.specs.declared.Tri.{Tri}
use Rattle.pf_model.specs.declared.Spoke.{Spoke}
use Rattle.pf_model.specs.Rising.{IsRising, AreDifferent}
use Rattle.pf_model.specs.Mesh.{Undivided, tri_of, tri_lt}
use Rattle.pf_model.specs.Conforming.{IsConforming}
use Rattle.pf_model.specs.Stars.{star_of, spoke_of, spoke_lt, spokes_of}
use Rattle.pf_model.proofs.Members.{nowhere, here, there, cases, filter-in, filter-out}
use Rattle.pf_model.proofs.RisingLemmas.{IsStrictOrder, AreApart, rising-nil, rising-head, rising-tail, rising-cons, rising-filter, rising-insert_all_by, rising-same}
use Rattle.pf_model.proofs.Triangles.{tri_of-itself, tri_lt-order}
use Rattle.pf_model.proofs.Totals.{map-in}
use Rattle.pf_model.proofs.Spokes.{spokes-means, spokes-has, rising-different, different-raw}
use Rattle.pf_star_model.specs.Lent.{spokes_in}
use Rattle.pf_core_model.specs.Sharers.{kept_in}
use Rattle.pf_core_model.specs.declared.sharer.Sharer.{Sharer}
use Rattle.pf_core_model.specs.History.{is_free, free_tris_in}
use Rattle.pf_core_model.specs.Core.{Opening, names_of}
use Rattle.pf_core_model.specs.State.{CoreState, list_at, mesh_of, free_part_from, free_part_of, IsCore}
use Rattle.pf_core_model.specs.Shown.{has_free_corners}
use Rattle.pf_core_model.proofs.Replays.{and_left, and_right, star_after_is}
use Rattle.pf_core_model.proofs.Sharing.{spokes_are_of}
use Rattle.pf_core_model.proofs.StateLaws.{mesh_is, free_row}
use Rattle.pf_core_model.proofs.OneMesh.{shows_one_mesh}

spoke_lt-order : IsStrictOrder spoke_lt
spoke_lt-order = record { irreflexive = λ x. none x.right; transitive = λ x y z h k. on x.right y.right z.right h k }
  where
    none : (a : ℕ) → nat_lt a a ≡ false
    none a = grind (arith, nat_tests)

    on : (a b c : ℕ) → nat_lt a b ≡ true → nat_lt b c ≡ true → nat_lt a c ≡ true
    on a b c h k = grind (arith, nat_tests)

spoke_lt-apart : (s t : Spoke) → (s.right ≡ t.right → ⊥) → (spoke_lt s t ≡ true) ⊎ (spoke_lt t s ≡ true)
spoke_lt-apart s t n = either s.right t.right n
  where
    either : (a b : ℕ) → (a ≡ b → ⊥) → (nat_lt a b ≡ true) ⊎ (nat_lt b a ≡ true)
    either a b k = grind (arith, nat_tests)

rights-apart : (ss : List Spoke) → AreDifferent (map (λ s. s.right) ss) → AreApart spoke_lt ss
rights-apart [] d = tt
rights-apart (s ∷ ss) d = ((λ z h. spoke_lt-apart s z (d.0 z.right (map-in (λ t. t.right) ss z h))), rights-apart ss d.1)

-- the spokes of a node rise
spokes-rise : (m : Undivided) → IsConforming m → (n : ℕ) → IsRising spoke_lt (spokes_of m n)
spokes-rise m ok n = rising-insert_all_by spoke_lt spoke_lt-order (filter_map (spoke_of m n) m.tris) [] (rights-apart (filter_map (spoke_of m n) m.tris) (different-raw m ok n m.tris (λ t h. h) (rising-different m.tris ok.tris_rise))) (λ x h z k. absurd (nowhere z k)) (rising-nil spoke_lt)

contains_either : (t : Tri) (xs ys : List Tri) → Contains (xs ++ ys) t → Contains xs t ⊎ Contains ys t
contains_either t [] ys h = inr h
contains_either t (x ∷ xs) ys h = ⊎_elim (λ (e : t ≡ x). inl (subst (λ (z : Tri). Contains (z ∷ xs) t) e (here t xs))) (λ (k : Contains (xs ++ ys) t). ⊎_elim (λ (z : Contains xs t). inl (there t x xs z)) (λ (z : Contains ys t). inr z) (contains_either t xs ys k)) (cases t x (xs ++ ys) h)

contains_left : (t : Tri) (xs ys : List Tri) → Contains xs t → Contains (xs ++ ys) t
contains_left t [] ys h = absurd (nowhere t h)
contains_left t (x ∷ xs) ys h = ⊎_elim (λ (e : t ≡ x). subst (λ (z : Tri). Contains (z ∷ (xs ++ ys)) t) e (here t (xs ++ ys))) (λ (k : Contains xs t). there t x (xs ++ ys) (contains_left t xs ys k)) (cases t x xs h)

contains_right : (t : Tri) (xs ys : List Tri) → Contains ys t → Contains (xs ++ ys) t
contains_right t [] ys h = h
contains_right t (x ∷ xs) ys h = there t x (xs ++ ys) (contains_right t xs ys h)

rising-append : (xs ys : List Tri) → IsRising tri_lt xs → IsRising tri_lt ys → ((s t : Tri) → Contains xs s → Contains ys t → tri_lt s t ≡ true) → IsRising tri_lt (xs ++ ys)
rising-append [] ys up up' below = up'
rising-append (x ∷ xs) ys up up' below =
    rising-cons tri_lt x (xs ++ ys)
    (λ z h. ⊎_elim (λ (k : Contains xs z). rising-head tri_lt x z xs up k) (λ (k : Contains ys z). below x z (here x xs) k) (contains_either z xs ys h))
    (rising-append xs ys (rising-tail tri_lt x xs up) up' (λ s t h k. below s t (there s x xs h) k))

-- the four tests of a spoke
abbrev passes : ℕ → List ℕ → ℕ → Spoke → Bool
passes names words n s = (nat_lt n s.right && nat_lt n s.left) && (is_free names words s.right && is_free names words s.left)

abbrev tri_in : ℕ → Spoke → Tri
tri_in n s = record { a = n; b = s.right; c = s.left; owner = s.owner }

record IsFromSpoke (names : ℕ) (words : List ℕ) (n : ℕ) (ss : List Spoke) (t : Tri) : Type 0 where
  pub spoke : Spoke
  pub inside : Contains ss spoke
  pub is : t ≡ tri_in n spoke
  pub tests : passes names words n spoke ≡ true

from_spoke : (names : ℕ) (words : List ℕ) (n : ℕ) (ss : List Spoke) (t : Tri) → Contains (free_tris_in names words n ss) t → IsFromSpoke names words n ss t
from_spoke names words n [] t h = absurd (nowhere t h)
from_spoke names words n (s ∷ ss) t h = go (passes names words n s) refl h (λ k. from_spoke names words n ss t k)
  where
    further : IsFromSpoke names words n ss t → IsFromSpoke names words n (s ∷ ss) t
    further r = record { spoke = r.spoke; inside = there r.spoke s ss r.inside; is = r.is; tests = r.tests }

    go : (b : Bool) → passes names words n s ≡ b → Contains (cond b (tri_in n s ∷ free_tris_in names words n ss) (free_tris_in names words n ss)) t → (Contains (free_tris_in names words n ss) t → IsFromSpoke names words n ss t) → IsFromSpoke names words n (s ∷ ss) t
    go true e k f = ⊎_elim (λ (x : t ≡ tri_in n s). record { spoke = s; inside = here s ss; is = x; tests = e }) (λ (x : Contains (free_tris_in names words n ss) t). further (f x)) (cases t (tri_in n s) (free_tris_in names words n ss) k)
    go false e k f = further (f k)

spoke_in : (names : ℕ) (words : List ℕ) (n : ℕ) (ss : List Spoke) (s : Spoke) → Contains ss s → passes names words n s ≡ true → Contains (free_tris_in names words n ss) (tri_in n s)
spoke_in names words n [] s h e = absurd (nowhere s h)
spoke_in names words n (r ∷ rs) s h e = ⊎_elim
    (λ (x : s ≡ r). let e' : passes names words n r ≡ true = subst (λ (z : Spoke). passes names words n z ≡ true) x e in
    subst (λ (b : Bool). Contains (cond b (tri_in n r ∷ free_tris_in names words n rs) (free_tris_in names words n rs)) (tri_in n s)) (sym e')
    (subst (λ (z : Spoke). Contains (tri_in n z ∷ free_tris_in names words n rs) (tri_in n s)) x (here (tri_in n s) (free_tris_in names words n rs))))
    (λ (x : Contains rs s). go (passes names words n r) (spoke_in names words n rs s x e))
    (cases s r rs h)
  where
    go : (b : Bool) → Contains (free_tris_in names words n rs) (tri_in n s) → Contains (cond b (tri_in n r ∷ free_tris_in names words n rs) (free_tris_in names words n rs)) (tri_in n s)
    go true k = there (tri_in n s) (tri_in n r) (free_tris_in names words n rs) k
    go false k = k

same_first : (a b c d e f : ℕ) → nat_lt b c ≡ true → (nat_lt a a || (a == a && (nat_lt b c || (b == c && nat_lt d e)))) ≡ true
same_first a b c d e f h = grind (arith, nat_tests)

less_first : (a b : ℕ) (x : Bool) → a < b → (nat_lt a b || x) ≡ true
less_first a b x h = let z : nat_lt a b ≡ true = grind (arith, nat_tests) in ap (λ (y : Bool). y || x) z

part_rises : (names : ℕ) (words : List ℕ) (n : ℕ) (ss : List Spoke) → IsRising spoke_lt ss → IsRising tri_lt (free_tris_in names words n ss)
part_rises names words n [] up = rising-nil tri_lt
part_rises names words n (s ∷ ss) up = go (passes names words n s) (part_rises names words n ss (rising-tail spoke_lt s ss up))
  where
    go : (b : Bool) → IsRising tri_lt (free_tris_in names words n ss) → IsRising tri_lt (cond b (tri_in n s ∷ free_tris_in names words n ss) (free_tris_in names words n ss))
    go true k = rising-cons tri_lt (tri_in n s) (free_tris_in names words n ss)
        (λ z h. let r = from_spoke names words n ss z h in
        subst (λ (t : Tri). tri_lt (tri_in n s) t ≡ true) (sym r.is) (same_first n s.right r.spoke.right s.left r.spoke.left 0 (rising-head spoke_lt s r.spoke ss up r.inside)))
        k
    go false k = k

module _ (names : ℕ) (words : List ℕ) (lists : List (List Sharer)) (m : Undivided) (ok : IsConforming m)
    (shown : (n : ℕ) → is_free names words n ≡ true → spokes_in (kept_in (list_at lists n)) ≡ spokes_of m n) where
  abbrev part : ℕ → List Tri
  part n = cond (is_free names words n) (free_tris_in names words n (spokes_in (kept_in (list_at lists n)))) []

  record IsPart (n : ℕ) (t : Tri) : Type 0 where
    pub first : t.a ≡ n
    pub free : has_free_corners names words t ≡ true
    pub stands : Contains m.tris t

  tri_first : (p q z o : ℕ) → p < q → p < z → tri_of p q z o ≡ record { a = p; b = q; c = z; owner = o }
  tri_first p q z o h k = grind (arith, nat_tests)

  part_means : (n : ℕ) (t : Tri) → Contains (part n) t → IsPart n t
  part_means n t h = go (is_free names words n) refl h
    where
      go : (b : Bool) → is_free names words n ≡ b → Contains (cond b (free_tris_in names words n (spokes_in (kept_in (list_at lists n)))) []) t → IsPart n t
      go false e k = absurd (nowhere t k)
      go true e k =
          let r = from_spoke names words n (spokes_of m n) t (subst (λ (ss : List Spoke). Contains (free_tris_in names words n ss) t) (shown n e) k) in
          let s : Spoke = r.spoke in
          let low = and_left (nat_lt n s.right && nat_lt n s.left) (is_free names words s.right && is_free names words s.left) r.tests in
          let free = and_right (nat_lt n s.right && nat_lt n s.left) (is_free names words s.right && is_free names words s.left) r.tests in
          let one : nat_lt n s.right ≡ true = and_left (nat_lt n s.right) (nat_lt n s.left) low in
          let two : nat_lt n s.left ≡ true = and_right (nat_lt n s.right) (nat_lt n s.left) low in
          let p : n < s.right = grind (arith, nat_tests) in
          let q : n < s.left = grind (arith, nat_tests) in
          let tri : Contains m.tris (tri_in n s) = subst (Contains m.tris) (tri_first n s.right s.left s.owner p q) (spokes-means m ok n s r.inside) in
          let corners : has_free_corners names words (tri_in n s) ≡ true = ap (λ (b : Bool). b && (is_free names words s.right && is_free names words s.left)) e ∙ free in
          record { first = ap (λ (x : Tri). x.a) r.is; free = subst (λ (x : Tri). has_free_corners names words x ≡ true) (sym r.is) corners; stands = subst (Contains m.tris) (sym r.is) tri }

  part_has : (t : Tri) → Contains m.tris t → has_free_corners names words t ≡ true → Contains (part t.a) t
  part_has t h free =
      let p = ok.proper t h in
      let itself : tri_of t.a t.b t.c t.owner ≡ t = tri_of-itself t record { least = p.least; least' = p.least'; apart = p.apart } in
      let r = spokes-has m ok t.a t.b t.c t.owner (subst (Contains m.tris) (sym itself) h) in
      let s : Spoke = r.0 in
      let same : tri_in t.a s ≡ t = λ i. record { a = t.a; b = r.2 i; c = r.3 i; owner = r.4 i } in
      let a : is_free names words t.a ≡ true = and_left (is_free names words t.a) (is_free names words t.b && is_free names words t.c) free in
      let rest : (is_free names words t.b && is_free names words t.c) ≡ true = and_right (is_free names words t.a) (is_free names words t.b && is_free names words t.c) free in
      let low : (nat_lt t.a t.b && nat_lt t.a t.c) ≡ true = both t.a t.b t.c p.least p.least' in
      let tests : passes names words t.a s ≡ true
      = (λ i. (nat_lt t.a (r.2 i) && nat_lt t.a (r.3 i)) && (is_free names words (r.2 i) && is_free names words (r.3 i))) ∙ ap (λ (b : Bool). b && (is_free names words t.b && is_free names words t.c)) low ∙ rest in
      let inside : Contains (free_tris_in names words t.a (spokes_of m t.a)) (tri_in t.a s) = spoke_in names words t.a (spokes_of m t.a) s r.1 tests in
      subst (λ (b : Bool). Contains (cond b (free_tris_in names words t.a (spokes_in (kept_in (list_at lists t.a)))) []) t) (sym a)
      (subst (λ (ss : List Spoke). Contains (free_tris_in names words t.a ss) t) (sym (shown t.a a)) (subst (Contains (free_tris_in names words t.a (spokes_of m t.a))) same inside))
    where
      both : (x y z : ℕ) → x < y → x < z → (nat_lt x y && nat_lt x z) ≡ true
      both x y z h k = grind (arith, nat_tests)

  part_rising : (n : ℕ) → IsRising tri_lt (part n)
  part_rising n = go (is_free names words n) refl
    where
      go : (b : Bool) → is_free names words n ≡ b → IsRising tri_lt (cond b (free_tris_in names words n (spokes_in (kept_in (list_at lists n)))) [])
      go true e = subst (λ (ss : List Spoke). IsRising tri_lt (free_tris_in names words n ss)) (sym (shown n e)) (part_rises names words n (spokes_of m n) (spokes-rise m ok n))
      go false e = rising-nil tri_lt

  parts_mean : (n more : ℕ) (t : Tri) → Contains (free_part_from names words lists n more) t → IsPart t.a t × (n ≤ t.a)
  parts_mean n zero t h = absurd (nowhere t h)
  parts_mean n (suc more) t h = ⊎_elim
      (λ (k : Contains (part n) t). let r = part_means n t k in let z = r.first in (record { first = refl; free = r.free; stands = r.stands }, omega arith))
      (λ (k : Contains (free_part_from names words lists (suc n) more) t). let r = parts_mean (suc n) more t k in let z = r.1 in (r.0, omega arith))
      (contains_either t (part n) (free_part_from names words lists (suc n) more) h)

  parts_have : (n more : ℕ) (t : Tri) → n ≤ t.a → t.a < n + more → Contains (part t.a) t → Contains (free_part_from names words lists n more) t
  parts_have n zero t low high h = absurd (omega arith)
  parts_have n (suc more) t low high h = dite (ℕ_discrete n t.a)
      (λ e. contains_left t (part n) (free_part_from names words lists (suc n) more) (subst (λ (k : ℕ). Contains (part k) t) (sym e) h))
      (λ ne. contains_right t (part n) (free_part_from names words lists (suc n) more) (parts_have (suc n) more t (omega arith) (omega arith) h))

  parts_rise : (n more : ℕ) → IsRising tri_lt (free_part_from names words lists n more)
  parts_rise n zero = rising-nil tri_lt
  parts_rise n (suc more) =
      rising-append (part n) (free_part_from names words lists (suc n) more) (part_rising n) (parts_rise (suc n) more)
      (λ s t h k. let a = (part_means n s h).first in let b = (parts_mean (suc n) more t k).1 in less_first s.a t.a (s.a == t.a && (nat_lt s.b t.b || (s.b == t.b && nat_lt s.c t.c))) (omega arith))

  free_low : (n : ℕ) → is_free names words n ≡ true → n < names
  free_low n e = let z : nat_lt n names ≡ true = and_left (nat_lt n names) (slice_index words n == 0) e in grind (arith, nat_tests)

  part_is : free_part_from names words lists 0 names ≡ filter (has_free_corners names words) m.tris
  part_is = rising-same tri_lt tri_lt-order (free_part_from names words lists 0 names) (filter (has_free_corners names words) m.tris)
      (parts_rise 0 names)
      (rising-filter tri_lt (has_free_corners names words) m.tris ok.tris_rise)
      (λ t h. let r = (parts_mean 0 names t h).0 in filter-in (has_free_corners names words) t m.tris r.stands r.free)
      (λ t h. let r = filter-out (has_free_corners names words) t m.tris h in
      parts_have 0 names t (omega arith) (let z = free_low t.a (and_left (is_free names words t.a) (is_free names words t.b && is_free names words t.c) r.1) in omega arith) (part_has t r.0 r.1))

pub free_part_is : (o : Opening) (s : CoreState) → IsCore o s → free_part_of o s ≡ filter (has_free_corners (names_of o) s.words) (mesh_of o s).tris
free_part_is o s c =
    let one = shows_one_mesh o s c in
    part_is (names_of o) s.words s.lists (mesh_of o s) one.conforming
    (λ n e.
    let low : nat_lt n (names_of o) ≡ true = and_left (nat_lt n (names_of o)) (slice_index s.words n == 0) e in
    let test : (slice_index s.words n == 0) ≡ true = and_right (nat_lt n (names_of o)) (slice_index s.words n == 0) e in
    let near : n < names_of o = grind (arith, nat_tests) in
    let zero_word : slice_index s.words n ≡ 0 = grind (arith, nat_tests) in
    let r = free_row o s c n near zero_word in
    let live = one.free n near zero_word in
    let star : star_of (mesh_of o s) n ≡ Some r.star = ap (λ (m : Undivided). star_of m n) (mesh_is o s c) ∙ sym (star_after_is o c.sound.0 n) ∙ r.live in
    ap spokes_in r.kept ∙ ap spokes_in (sym star) ∙ spokes_are_of (mesh_of o s) n r.star star)
