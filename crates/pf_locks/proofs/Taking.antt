-- The copies of all names, as they are taken out of their slots and sorted.
use Rattle.std.proofs.Common.{◌≡◌, ◌⊎◌, ℕ, zero, suc, ◌+◌, ◌<◌, ◌≤◌, Bool, true, false, ◌==◌, ◌&&◌, List, [], ◌∷◌, ◌++◌, length, map, get_or, refl, sym, ap, ◌∙◌, subst, inl, inr, ⊎_elim, arith, length-append}
use Rattle.std.specs.Prelude.{Option, Some, None, Contains}
use Rattle.std.specs.List.{IsDistinct}
use Rattle.std.specs.List.Sorted.{IsPermutation}
use Rattle.std.proofs.lemmas.Bool.Decides.{nat_tests}
use Rattle.std.proofs.lemmas.List.{get_or-map, length-map}
use Rattle.std.proofs.lemmas.List.Elements.{Contains-append_left, Contains-append_right, Contains-append_cases}
use Rattle.std.proofs.lemmas.List.Sorted.{Contains-permutation, IsPermutation-sym}
use Rattle.std.proofs.lemmas.Map.Keys.{IsDistinct-IsPermutation, apart_from_distinct}
use mathlib.Core.Option.{some, some-injective, some-ne-none}
use lib.ListN.{get_elem?}
use Rattle.pf_model.specs.Rising.{IsRising, AreDifferent}
use Rattle.pf_model.specs.Mesh.{Undivided}
use Rattle.pf_model.specs.Conforming.{IsConforming, IsLive}
use Rattle.pf_model.specs.Stars.{Star, star_of}
use Rattle.pf_model.proofs.Members.{nowhere, here, cases}
use Rattle.pf_model.proofs.RisingLemmas.{IsStrictOrder}
use Rattle.pf_model.proofs.Totals.{different-append, different-map, map-means, map-in}
use Rattle.pf_model.proofs.Sorted.{different-distinct, rising-steps}
use Rattle.pf_star_model.specs.Copies.{Copy, due_copy, copy_lt, copies_of}
use Rattle.pf_star_model.proofs.Copies.{due_copy-means}
use Rattle.pf_star.specs.declared.copies.ChunkCopy.{ChunkCopy}
use Rattle.pf_core_model.specs.declared.sharer.Sharer.{Sharer}
use Rattle.pf_core_model.specs.Lists.{In}
use Rattle.pf_core_model.specs.Sharers.{sharer_list, sharers_from, sharers_in}
use Rattle.pf_core_model.specs.Closing.{sharer_of}
use Rattle.pf_core_model.proofs.Closing.{closes}
use Rattle.pf_core_model.proofs.Lists.{in_either}
use Rattle.pf_core_model.proofs.Seats.{star_named}
use Rattle.pf_locks.specs.Closes.{shown_copy, shown_sharer, copies_back, copies_under, list_at, copies_below, IsNotAfter, AreCopiesInOrder}

-- one copy is moved from the end of a list to that of another
back_more : (xs : List Sharer) (s : Sharer) → copies_back (xs ++ s ∷ []) ≡ shown_sharer s ∷ copies_back xs
back_more [] s = refl
back_more (x ∷ xs) s = ap (λ (l : List Copy). l ++ shown_sharer x ∷ []) (back_more xs s)

shown_more : (xs : List ChunkCopy) (c : ChunkCopy) → map shown_copy (xs ++ c ∷ []) ≡ map shown_copy xs ++ shown_copy c ∷ []
shown_more [] c = refl
shown_more (x ∷ xs) c = ap (λ (l : List Copy). shown_copy x ∷ l) (shown_more xs c)

in_middle : (xs : List Copy) (c : Copy) (ys : List Copy) → (xs ++ c ∷ []) ++ ys ≡ xs ++ c ∷ ys
in_middle [] c ys = refl
in_middle (x ∷ xs) c ys = ap (λ (l : List Copy). x ∷ l) (in_middle xs c ys)

pub all_moved : (xs : List Copy) → xs ++ [] ≡ xs
all_moved [] = refl
all_moved (x ∷ xs) = ap (λ (l : List Copy). x ∷ l) (all_moved xs)

pub one_moved : (done next : List ChunkCopy) (left rest : List Sharer) (s : Sharer) (c : ChunkCopy) → left ≡ rest ++ s ∷ [] → next ≡ done ++ c ∷ [] → shown_copy c ≡ shown_sharer s
    → map shown_copy next ++ copies_back rest ≡ map shown_copy done ++ copies_back left
one_moved done next left rest s c left_is next_is same =
    ap (λ (l : List ChunkCopy). map shown_copy l ++ copies_back rest) next_is
    ∙ ap (λ (l : List Copy). l ++ copies_back rest) (shown_more done c ∙ ap (λ (x : Copy). map shown_copy done ++ x ∷ []) same)
    ∙ in_middle (map shown_copy done) (shown_sharer s) (copies_back rest)
    ∙ sym (ap (λ (l : List Sharer). map shown_copy done ++ copies_back l) left_is ∙ ap (λ (l : List Copy). map shown_copy done ++ l) (back_more rest s))

-- lengths
pub length_back : (ss : List Sharer) → length (copies_back ss) ≡ length ss
length_back [] = refl
length_back (s ∷ ss) = let a = length-append (copies_back ss) (shown_sharer s ∷ []) in let b = length_back ss in omega (arith, a, b)

pub under_step : (f : ℕ → List Sharer) (n : ℕ) → length (copies_under f (n + 1)) ≡ length (copies_under f n) + length (f n)
under_step f n =
    ap (λ (k : ℕ). length (copies_under f k)) (let z : n + 1 ≡ suc n = omega arith in z)
    ∙ length-append (copies_under f n) (copies_back (f n))
    ∙ ap (λ (k : ℕ). length (copies_under f n) + k) (length_back (f n))

pub length_step : (m : Undivided) (n : ℕ) → length (copies_below m (n + 1)) ≡ length (copies_below m n) + length (sharers_in m.chunks (star_of m n))
length_step m n = under_step (λ k. sharers_in m.chunks (star_of m k)) n

pub under_up : (f : ℕ → List Sharer) (names n : ℕ) → n ≤ names → length (copies_under f n) ≤ length (copies_under f names)
under_up f zero n h = let e : n ≡ 0 = omega arith in subst (λ (i : ℕ). length (copies_under f i) ≤ length (copies_under f zero)) (sym e) (omega arith)
under_up f (suc k) n h =
    ⊎_elim
    (λ (e : n ≡ suc k). subst (λ (i : ℕ). length (copies_under f i) ≤ length (copies_under f (suc k))) (sym e) (omega arith))
    (λ (l : n ≤ k). let a = under_up f k n l in let b = length-append (copies_under f k) (copies_back (f k)) in omega (arith, a, b))
    (near n k h)
  where
    near : (a b : ℕ) → a ≤ suc b → (a ≡ suc b) ⊎ (a ≤ b)
    near a b h = grind arith

-- lists at the same places
pub under_same : (f g : ℕ → List Sharer) (n : ℕ) → ((k : ℕ) → k < n → f k ≡ g k) → copies_under f n ≡ copies_under g n
under_same f g zero h = refl
under_same f g (suc n) h =
    ap (λ (l : List Copy). l ++ copies_back (f n)) (under_same f g n (λ k l. h k (omega arith))) ∙ ap (λ (l : List Sharer). copies_under g n ++ copies_back l) (h n (omega arith))

pub list_is : (ls : List (List Sharer)) (n : ℕ) (l : List Sharer) → get_elem? ls n ≡ some l → list_at ls n ≡ l
list_is [] n l h = absurd (some-ne-none l (sym h))
list_is (x ∷ xs) zero l h = some-injective x l h
list_is (x ∷ xs) (suc n) l h = list_is xs n l h

-- members of the list of a node
record IsListed (first : ℕ) (star : Option Star) (s : Sharer) : Type 0 where
  pub above : first ≤ s.chunk
  pub is : star ≡ Some s.star

in_listed : (first more : ℕ) (star : Option Star) (s : Sharer) → In s (sharers_from first more star) → IsListed first star s
in_listed first zero star s h = absurd h
in_listed first (suc more) star s h =
    ⊎_elim
    (λ (k : In s (sharer_list first (due_copy first star))). here_is (due_copy first star) refl k)
    (λ (k : In s (sharers_from (suc first) more star)). let r = in_listed (suc first) more star s k in record { above = let z = r.above in omega arith; is = r.is })
    (in_either s (sharer_list first (due_copy first star)) (sharers_from (suc first) more star) h)
  where
    here_is : (c : Option Star) → due_copy first star ≡ c → In s (sharer_list first c) → IsListed first star s
    here_is None e k = absurd k
    here_is (Some x) e (inr k) = absurd k
    here_is (Some x) e (inl k) =
        let at : s.chunk ≡ first = ap (λ (y : Sharer). y.chunk) k in
        record { above = omega arith; is = (due_copy-means first star x e).star ∙ ap (λ (y : Sharer). Some y.star) (sym k) }

-- members of a list turned round
back_means : (ss : List Sharer) (x : Copy) → Contains (copies_back ss) x → In (sharer_of x) ss
back_means [] x h = absurd (nowhere x h)
back_means (s ∷ ss) x h =
    ⊎_elim (λ (k : Contains (copies_back ss) x). inr (back_means ss x k)) (λ (k : Contains (shown_sharer s ∷ []) x). inl (ap sharer_of (alone k)))
    (Contains-append_cases (copies_back ss) (shown_sharer s ∷ []) x h)
  where
    alone : Contains (shown_sharer s ∷ []) x → x ≡ shown_sharer s
    alone k = ⊎_elim (λ (e : x ≡ shown_sharer s). e) (λ (n : Contains [] x). absurd (nowhere x n)) (cases x (shown_sharer s) [] k)

back_has : (ss : List Sharer) (x : Copy) → In (sharer_of x) ss → Contains (copies_back ss) x
back_has [] x h = absurd h
back_has (s ∷ ss) x (inl e) = Contains-append_right (copies_back ss) (shown_sharer s ∷ []) x (subst (λ (y : Copy). Contains (shown_sharer s ∷ []) y) (sym (ap shown_sharer e)) (here (shown_sharer s) []))
back_has (s ∷ ss) x (inr h) = Contains-append_left (copies_back ss) (shown_sharer s ∷ []) x (back_has ss x h)

below_means : (m : Undivided) (names : ℕ) (x : Copy) → Contains (copies_below m names) x → (n : ℕ) × (n < names) × In (sharer_of x) (sharers_in m.chunks (star_of m n))
below_means m zero x h = absurd (nowhere x h)
below_means m (suc n) x h =
    ⊎_elim (λ (k : Contains (copies_below m n) x). let r = below_means m n x k in (r.0, (let z = r.1 in omega arith), r.2))
    (λ (k : Contains (copies_back (sharers_in m.chunks (star_of m n))) x). (n, omega arith, back_means (sharers_in m.chunks (star_of m n)) x k))
    (Contains-append_cases (copies_below m n) (copies_back (sharers_in m.chunks (star_of m n))) x h)

below_has : (m : Undivided) (names n : ℕ) (x : Copy) → n < names → In (sharer_of x) (sharers_in m.chunks (star_of m n)) → Contains (copies_below m names) x
below_has m zero n x l h = absurd (omega arith)
below_has m (suc k) n x l h =
    ⊎_elim
    (λ (e : n ≡ k). Contains-append_right (copies_below m k) (copies_back (sharers_in m.chunks (star_of m k))) x (back_has (sharers_in m.chunks (star_of m k)) x (subst (λ (i : ℕ). In (sharer_of x) (sharers_in m.chunks (star_of m i))) e h)))
    (λ (b : n < k). Contains-append_left (copies_below m k) (copies_back (sharers_in m.chunks (star_of m k))) x (below_has m k n x b h))
    (near n k l)
  where
    near : (a b : ℕ) → a < suc b → (a ≡ b) ⊎ (a < b)
    near a b h = grind arith

-- each copy is its node's star
star_is : (m : Undivided) (n : ℕ) (x : Copy) → In (sharer_of x) (sharers_in m.chunks (star_of m n)) → (star_of m n ≡ Some x.star) × (x.star.node ≡ n)
star_is m n x h = let r = in_listed 0 m.chunks (star_of m n) (sharer_of x) h in (r.is, star_named m n x.star r.is)

-- no copy stands twice
back_different : (first more : ℕ) (star : Option Star) → AreDifferent (copies_back (sharers_from first more star))
back_different first zero star = tt
back_different first (suc more) star = go (due_copy first star) (back_different (suc first) more star)
  where
    go : (c : Option Star) → AreDifferent (copies_back (sharers_from (suc first) more star)) → AreDifferent (copies_back (sharer_list first c ++ sharers_from (suc first) more star))
    go None rest = rest
    go (Some x) rest =
        different-append (copies_back (sharers_from (suc first) more star)) (record { chunk = first; star = x } ∷ []) rest ((λ z h. absurd (nowhere z h)), tt)
        (λ z h k.
        let a = (in_listed (suc first) more star (sharer_of z) (back_means (sharers_from (suc first) more star) z h)).above in
        ⊎_elim (λ (e : z ≡ record { chunk = first; star = x }). let b : z.chunk ≡ first = ap (λ (y : Copy). y.chunk) e in absurd (omega (arith, a, b))) (λ (n : Contains [] z). nowhere z n)
        (cases z (record { chunk = first; star = x }) [] k))

below_different : (m : Undivided) (names : ℕ) → AreDifferent (copies_below m names)
below_different m zero = tt
below_different m (suc n) =
    different-append (copies_below m n) (copies_back (sharers_in m.chunks (star_of m n))) (below_different m n) (back_different 0 m.chunks (star_of m n))
    (λ z h k.
    let a = below_means m n z h in
    let b = (star_is m a.0 z a.2).1 in
    let c = (star_is m n z (back_means (sharers_in m.chunks (star_of m n)) z k)).1 in
    let l = a.1 in
    absurd (omega (arith, b, c, l)))

-- sorted by chunk and node they are those of the mesh
abbrev as_chunk_copy : Copy → ChunkCopy
as_chunk_copy x = record { chunk = x.chunk; star = x.star }

abbrev same_place : ChunkCopy → ChunkCopy → Bool
same_place x y = (x.chunk == y.chunk) && (x.star.node == y.star.node)

abbrev shown_lt : ChunkCopy → ChunkCopy → Bool
shown_lt x y = copy_lt (shown_copy x) (shown_copy y)

shown_order : IsStrictOrder shown_lt
shown_order = record { irreflexive = λ x. grind (arith, nat_tests); transitive = λ x y z h k. grind (arith, nat_tests) }

back_again : (xs : List ChunkCopy) → map as_chunk_copy (map shown_copy xs) ≡ xs
back_again [] = refl
back_again (x ∷ xs) = ap (λ (l : List ChunkCopy). x ∷ l) (back_again xs)

same_shown : (x y : Copy) → as_chunk_copy x ≡ as_chunk_copy y → x ≡ y
same_shown x y e = ap shown_copy e

and_first : (a b : Bool) → (a && b) ≡ true → a ≡ true
and_first true b h = refl
and_first false b h = h

and_second : (a b : Bool) → (a && b) ≡ true → b ≡ true
and_second true b h = h
and_second false b h = absurd (let z : false ≡ true = h in cc (z))

is_same : (a b : ℕ) → (a == b) ≡ true → a ≡ b
is_same a b h = grind (arith, nat_tests)

flips : (x y : ChunkCopy) → same_place x y ≡ same_place y x
flips x y = grind (arith, nat_tests)

next_is_above : (x y : ChunkCopy) → IsNotAfter x y → same_place x y ≡ false → shown_lt x y ≡ true
next_is_above x y (inl l) e = grind (arith, nat_tests)
next_is_above x y (inr h) e = let a = h.0 in let b = h.1 in grind (arith, nat_tests)

module _ (m : Undivided) (names : ℕ) (ok : IsConforming m) (near : (n : ℕ) → IsLive m n → n < names) (xs ys : List ChunkCopy) (are : map shown_copy xs ≡ copies_below m names) (p : IsPermutation xs ys) (order : AreCopiesInOrder ys) where
  among : (x : ChunkCopy) → Contains xs x → Contains (copies_below m names) (shown_copy x)
  among x h = subst (λ (l : List Copy). Contains l (shown_copy x)) are (map-in shown_copy xs x h)

  one_star : (x y : ChunkCopy) → Contains xs x → Contains xs y → same_place x y ≡ true → x ≡ y
  one_star x y h k e =
      let a = below_means m names (shown_copy x) (among x h) in
      let b = below_means m names (shown_copy y) (among y k) in
      let s = star_is m a.0 (shown_copy x) a.2 in
      let t = star_is m b.0 (shown_copy y) b.2 in
      let chunk : x.chunk ≡ y.chunk = is_same x.chunk y.chunk (and_first _ _ e) in
      let node : x.star.node ≡ y.star.node = is_same x.star.node y.star.node (and_second _ _ e) in
      let name : a.0 ≡ b.0 = sym s.1 ∙ node ∙ t.1 in
      let star : Some x.star ≡ Some y.star = sym s.0 ∙ ap (star_of m) name ∙ t.0 in
      let star_too : x.star ≡ y.star = cc (star) in
      ap (λ (c : ℕ). record { chunk = c; star = x.star }) chunk ∙ ap (λ (z : Star). record { chunk = y.chunk; star = z }) star_too

  distinct : IsDistinct same_place xs
  distinct = different-distinct same_place xs one_star (subst AreDifferent (ap (map as_chunk_copy) (sym are) ∙ back_again xs) (different-map as_chunk_copy same_shown (copies_below m names) (below_different m names)))

  rises : IsRising shown_lt ys
  rises = rising-steps shown_lt shown_order ys (λ k d l. next_is_above (get_or ys k d) (get_or ys (k + 1) d) (order k d l) (apart_from_distinct same_place ys k (k + 1) d (IsDistinct-IsPermutation same_place flips xs ys p distinct) (omega arith) l))

  mapped : IsRising copy_lt (map shown_copy ys)
  mapped i j d l h =
      let far : j < length ys = omega (arith, length-map ys shown_copy) in
      let a = get_or-map shown_copy ys i (as_chunk_copy d) d (omega arith) in
      let b = get_or-map shown_copy ys j (as_chunk_copy d) d far in
      rw (a, b) (rises i j (as_chunk_copy d) l far)

  pub sorted_copies : map shown_copy ys ≡ copies_of m
  sorted_copies = closes m names (map shown_copy ys) ok near record { rise = mapped; only = only; all = all }
    where
      only : (x : Copy) → Contains (map shown_copy ys) x → (n : ℕ) × (n < names) × In (sharer_of x) (sharers_in m.chunks (star_of m n))
      only x h =
          let k = map-means shown_copy ys x h in
          subst (λ (z : Copy). (n : ℕ) × (n < names) × In (sharer_of z) (sharers_in m.chunks (star_of m n))) k.2 (below_means m names (shown_copy k.0) (among k.0 (Contains-permutation ys xs k.0 (IsPermutation-sym xs ys p) k.1)))

      all : (n : ℕ) → n < names → (x : Copy) → In (sharer_of x) (sharers_in m.chunks (star_of m n)) → Contains (map shown_copy ys) x
      all n l x h =
          let k = map-means shown_copy xs x (subst (λ (z : List Copy). Contains z x) (sym are) (below_has m names n x l h)) in
          subst (λ (z : Copy). Contains (map shown_copy ys) z) k.2 (map-in shown_copy ys k.0 (Contains-permutation xs ys k.0 p k.1))
