-- A sound list in rising order is the model's sorted list.
use Rattle.std.proofs.Common.{◌≡◌, ◌≢◌, ℕ, zero, suc, ◌+◌, ◌<◌, ◌≤◌, List, [], ◌∷◌, length, get_or, sym, ◌∙◌, subst, Bool, true, false, ◌&&◌, ◌==◌, ◌⊎◌, inl, inr, arith}
use Rattle.std.specs.Prelude.{Contains}
use Rattle.std.specs.List.{IsDistinct}
use Rattle.std.specs.Ordering.{is_lt, nat_cmp, ordering_then}
use Rattle.std.specs.List.Sorted.{IsPermutation}
use Rattle.std.proofs.lemmas.Bool.Decides.{nat_tests}
use Rattle.std.proofs.lemmas.Map.Keys.{IsDistinct-from_apart, IsDistinct-IsPermutation, apart_from_distinct}
use Rattle.std.proofs.lemmas.List.Sorted.{Contains-permutation, IsPermutation-sym}
use Rattle.std.proofs.lemmas.List.Elements.{Contains-get_or}
use Rattle.pf_model.specs.declared.Tri.{Tri}
use Rattle.pf_model.specs.Rising.{IsRising, sorted_by}
use Rattle.pf_model.specs.Mesh.{tri_lt, has_edge}
use Rattle.pf_model.specs.Conforming.{HasEdgesOnce}
use Rattle.pf_model.proofs.Members.{nowhere, insert_all_by-new, insert_all_by-cases}
use Rattle.pf_model.proofs.RisingLemmas.{rising-same}
use Rattle.pf_model.proofs.Triangles.{tri_lt-order}
use Rattle.pf_model.proofs.Kept.{has_edge-first}
use Rattle.pf_model.specs.Exchange.{AreOnce, AreSound}
use Rattle.pf_model.proofs.Exchange.{bool_cases}
use Rattle.pf_apply.proofs.BuiltConforms.{sorted-rising}

apart : (b : Bool) → b ≡ true → b ≡ false → ⊥
apart b e f = let k : true ≡ false = sym e ∙ f in absurd (cc)

-- each stands before the next
abbrev pub Steps : List Tri → Type 0
Steps xs = (k : ℕ) (d : Tri) → k + 1 < length xs → tri_lt (get_or xs k d) (get_or xs (k + 1) d) ≡ true

pub rising-steps : (xs : List Tri) → Steps xs → IsRising tri_lt xs
rising-steps xs s i j d l k = go j l k
  where
    go : (n : ℕ) → i < n → n < length xs → tri_lt (get_or xs i d) (get_or xs n d) ≡ true
    go zero l' k' = absurd (omega arith)
    go (suc n) l' k' = elim (cases_of i n l') [
      | inl e ↦ subst (λ a. tri_lt (get_or xs a d) (get_or xs (suc n) d) ≡ true) (sym e) (last n k')
      | inr l'' ↦ tri_lt-order.transitive (get_or xs i d) (get_or xs n d) (get_or xs (suc n) d) (go n l'' (omega arith)) (last n k')
    ]
      where
        cases_of : (a b : ℕ) → a < suc b → (a ≡ b) ⊎ (a < b)
        cases_of a b h = grind arith

        last : (a : ℕ) → suc a < length xs → tri_lt (get_or xs a d) (get_or xs (suc a) d) ≡ true
        last a h = let e : a + 1 ≡ suc a = omega arith in subst (λ b. tri_lt (get_or xs a d) (get_or xs b d) ≡ true) e (s a d (omega arith))

-- the sorted list by members
pub sorted-is : (xs ys : List Tri) → AreSound xs → IsRising tri_lt ys → ((t : Tri) → Contains xs t → Contains ys t) → ((t : Tri) → Contains ys t → Contains xs t) → ys ≡ sorted_by tri_lt xs
sorted-is xs ys s up there' back =
    rising-same tri_lt tri_lt-order ys (sorted_by tri_lt xs) up (sorted-rising xs s)
    (λ z h. insert_all_by-new tri_lt z xs [] (back z h))
    (λ z h. elim (insert_all_by-cases tri_lt z xs [] h) [ inl a ↦ there' z a | inr b ↦ absurd (nowhere z b) ])

-- the two have the same corners
abbrev pub corners_eq : Tri → Tri → Bool
corners_eq s t = s.a == t.a && (s.b == t.b && s.c == t.c)

eq_flips : (s t : Tri) → corners_eq s t ≡ corners_eq t s
eq_flips s t = go (s.a == t.a) (s.b == t.b) (s.c == t.c) (t.a == s.a) (t.b == s.b) (t.c == s.c) (flip s.a t.a) (flip s.b t.b) (flip s.c t.c)
  where
    flip : (a b : ℕ) → (a == b) ≡ (b == a)
    flip a b = grind (arith, nat_tests)

    go : (a b c x y z : Bool) → a ≡ x → b ≡ y → c ≡ z → (a && (b && c)) ≡ (x && (y && z))
    go a b c x y z e f g = λ i. (e i && (f i && g i))

-- triangles with the same corners share an edge
eq_edge : (s t : Tri) → corners_eq s t ≡ true → has_edge s.a s.b t ≡ true
eq_edge s t e = grind (arith, nat_tests)

once-at : (xs : List Tri) → AreOnce xs → (i j : ℕ) (d : Tri) → i < j → j < length xs → get_or xs i d ≢ get_or xs j d
once-at [] o i j d l k e = absurd (omega arith)
once-at (x ∷ xs) o zero zero d l k e = absurd (omega arith)
once-at (x ∷ xs) o zero (suc j) d l k e = o.0 (get_or xs j d) (Contains-get_or xs j d (let w : suc j < suc (length xs) = k in omega arith)) e
once-at (x ∷ xs) o (suc i) zero d l k e = absurd (omega arith)
once-at (x ∷ xs) o (suc i) (suc j) d l k e = once-at xs o.1 i j d (omega arith) (let w : suc j < suc (length xs) = k in omega arith) e

distinct : (xs : List Tri) → AreOnce xs → HasEdgesOnce xs → IsDistinct corners_eq xs
distinct xs o once = IsDistinct-from_apart corners_eq xs (λ i j d l k. elim (bool_cases (corners_eq (get_or xs i d) (get_or xs j d))) [ inl e ↦ absurd (once-at xs o i j d l k (once (get_or xs i d) (get_or xs j d) (get_or xs i d).a (get_or xs i d).b (Contains-get_or xs i d (omega arith)) (Contains-get_or xs j d k) (has_edge-first (get_or xs i d)) (eq_edge (get_or xs i d) (get_or xs j d) e))) | inr e ↦ e ])

-- by the order of the corners, the second not before the first
abbrev pub NotBefore : Tri → Tri → Type 0
NotBefore y x = is_lt (ordering_then (ordering_then (nat_cmp y.a x.a) (nat_cmp y.b x.b)) (nat_cmp y.c x.c)) ≡ false

steps_up : (x y : Tri) → NotBefore y x → corners_eq x y ≡ false → tri_lt x y ≡ true
steps_up x y n e = grind (arith, nat_tests)

pub sorted-from : (xs ys : List Tri) → AreSound xs → IsPermutation xs ys → ((k : ℕ) (d : Tri) → 0 ≤ k → k + 1 < length ys → NotBefore (get_or ys (k + 1) d) (get_or ys k d)) → ys ≡ sorted_by tri_lt xs
sorted-from xs ys s p n =
    sorted-is xs ys s (rising-steps ys (λ k d l. steps_up (get_or ys k d) (get_or ys (k + 1) d) (n k d (omega arith) l) (apart_from_distinct corners_eq ys k (k + 1) d d' (omega arith) l)))
    (λ t h. Contains-permutation xs ys t p h)
    (λ t h. Contains-permutation ys xs t (IsPermutation-sym xs ys p) h)
  where
    d' : IsDistinct corners_eq ys
    d' = IsDistinct-IsPermutation corners_eq eq_flips xs ys p (distinct xs s.once s.edges_once)
