-- A board at its start.
use Rattle.std.proofs.Common.{◌≡◌, ◌≢◌, ℕ, zero, suc, ◌+◌, ◌<◌, Bool, true, false, cond, ◌==◌, List, [], ◌∷◌, ◌++◌, length, map, set, refl, sym, ap, ◌∙◌, subst, ⊎_elim, arith}
use Rattle.std.specs.Prelude.{Option, Some, None, is_some, Contains}
use Rattle.std.proofs.lemmas.Bool.Decides.{nat_tests}
use Rattle.std.proofs.lemmas.List.{get_or-set_same, get_or-set_other}
use mathlib.Core.Logic.{dite}
use native.Mathlib.Decide.{ℕ_discrete}
use mathlib.Core.Option.{some}
use lib.ListN.{get_elem?}
use Rattle.atomic_table.specs.Table.{opening}
use Rattle.pf_model.specs.declared.Site.{Site}
use Rattle.pf_model.specs.Mesh.{Undivided, point_of, place_of}
use Rattle.pf_model.specs.Conforming.{IsLive}
use Rattle.pf_model.specs.Applied.{IsFresh}
use Rattle.pf_model.specs.Stars.{Star, star_of, spokes_of}
use Rattle.pf_model.proofs.Members.{nowhere, here, there, cases}
use Rattle.pf_star_model.proofs.Shown.{star_parts}
use Rattle.pf_core_model.specs.declared.sharer.Sharer.{Sharer}
use Rattle.pf_core_model.specs.Lists.{counting}
use Rattle.pf_core_model.specs.Sharers.{sharers_in}
use Rattle.pf_core_model.specs.Core.{Opening, names_of}
use Rattle.pf_core_model.specs.State.{first_view}
use Rattle.pf_core_model.specs.Shown.{CanOpen}
use Rattle.pf_core_model.proofs.Sharing.{none_due}
use Rattle.pf_board_steps.specs.Plays.{Holds}
use Rattle.pf_board_steps.proofs.Ends.{board_opens}
use Rattle.pf_locks.specs.Closes.{list_at}
use Rattle.pf_locks.specs.First.{start_word, placed_lists}

counting_more : (k n : ℕ) → counting k (suc n) ≡ counting k n ++ (k + n) ∷ []
counting_more k zero = ap (λ (x : ℕ). x ∷ []) (let z : k ≡ k + 0 = omega arith in z)
counting_more k (suc n) =
    let r = counting_more (suc k) n in
    let z : suc k + n ≡ k + suc n = omega arith in
    ap (λ (l : List ℕ). k ∷ l) (r ∙ ap (λ (x : ℕ). counting (suc k) n ++ x ∷ []) z)

map_split : {A : Type 0} (f : ℕ → A) (xs : List ℕ) (x : ℕ) → map f (xs ++ x ∷ []) ≡ map f xs ++ f x ∷ []
map_split f [] x = refl
map_split f (y ∷ ys) x = ap (λ l. f y ∷ l) (map_split f ys x)

pub mapped_more : {A : Type 0} (f : ℕ → A) (n : ℕ) → map f (counting 0 n) ++ f n ∷ [] ≡ map f (counting 0 (n + 1))
mapped_more f n =
    let z : 0 + n ≡ n = omega arith in
    let w : n + 1 ≡ suc n = omega arith in
    sym (ap (λ (k : ℕ). map f (counting 0 k)) w ∙ ap (map f) (counting_more 0 n) ∙ map_split f (counting 0 n) (0 + n) ∙ ap (λ (x : ℕ). map f (counting 0 n) ++ f x ∷ []) z)

eq_true : (a b : ℕ) → a ≡ b → (a == b) ≡ true
eq_true a b e = grind (arith, nat_tests)

eq_false : (a b : ℕ) → a ≢ b → (a == b) ≡ false
eq_false a b e = grind (arith, nat_tests)

-- a list that is put at its name
pub list_put : (ls : List (List Sharer)) (k : ℕ) (x : List Sharer) → k < length ls → (n : ℕ) → list_at (set ls k x) n ≡ cond (n == k) x (list_at ls n)
list_put ls k x low n = dite (ℕ_discrete n k)
    (λ e. ap (list_at (set ls k x)) e ∙ get_or-set_same ls k x [] low ∙ sym (ap (λ (b : Bool). cond b x (list_at ls n)) (eq_true n k e)))
    (λ ne. get_or-set_other ls k n x [] ne ∙ sym (ap (λ (b : Bool). cond b x (list_at ls n)) (eq_false n k ne)))

-- what is put over the same lists gives the same, and the last is put first
placed_last : (chunks : ℕ) (ss : List Star) (s : Star) (f g : ℕ → List Sharer) (n : ℕ) → g n ≡ cond (n == s.node) (sharers_in chunks (Some s)) (f n) → placed_lists chunks ss g n ≡ placed_lists chunks (ss ++ s ∷ []) f n
placed_last chunks [] s f g n e = e
placed_last chunks (x ∷ xs) s f g n e = ap (λ (y : List Sharer). cond (n == x.node) (sharers_in chunks (Some x)) y) (placed_last chunks xs s f g n e)

pub one_placed : (chunks : ℕ) (all ss : List Star) (s : Star) (f g whole : ℕ → List Sharer) → all ≡ ss ++ s ∷ [] → ((n : ℕ) → g n ≡ cond (n == s.node) (sharers_in chunks (Some s)) (f n)) → ((n : ℕ) → placed_lists chunks all f n ≡ whole n) → (n : ℕ) → placed_lists chunks ss g n ≡ whole n
one_placed chunks all ss s f g whole is put kept n = placed_last chunks ss s f g n (put n) ∙ ap (λ (x : List Star). placed_lists chunks x f n) (sym is) ∙ kept n

pub in_front : (l : Star) (ls : List Star) (k : Star) → Contains ls k → Contains (ls ++ l ∷ []) k
in_front l [] k h = absurd (nowhere k h)
in_front l (x ∷ xs) k h = ⊎_elim (λ (e : k ≡ x). subst (λ (z : Star). Contains (z ∷ (xs ++ l ∷ [])) k) e (here k (xs ++ l ∷ []))) (λ (j : Contains xs k). there k x (xs ++ l ∷ []) (in_front l xs k j)) (cases k x xs h)

pub at_end : (l : Star) (ls : List Star) → Contains (ls ++ l ∷ []) l
at_end l [] = here l []
at_end l (x ∷ xs) = there l x (xs ++ l ∷ []) (at_end l xs)

-- the stars of the sites of a mesh
abbrev AreStars : Undivided → List Star → List Site → Type 0
AreStars m v ss = map (λ (x : Star). Some x) v ≡ map (λ (s : Site). star_of m s.name) ss

stars_head : (m : Undivided) (y : Star) (ys : List Star) (s : Site) (ss : List Site) → AreStars m (y ∷ ys) (s ∷ ss) → Some y ≡ star_of m s.name
stars_head m y ys s ss e = cc

stars_rest : (m : Undivided) (y : Star) (ys : List Star) (s : Site) (ss : List Site) → AreStars m (y ∷ ys) (s ∷ ss) → AreStars m ys ss
stars_rest m y ys s ss e = cc

-- without stars there are no copies
list_is : (chunks : ℕ) (b : Bool) (star : Option Star) → cond b (sharers_in chunks star) [] ≡ sharers_in chunks (cond b star None)
list_is chunks true star = refl
list_is chunks false star = sym (none_due 0 chunks)

-- the copies of the stars of all sites, put at their names
placed_sites : (m : Undivided) (chunks : ℕ) (ss : List Site) (v : List Star) (f : ℕ → List Sharer) → ((n : ℕ) → f n ≡ []) → AreStars m v ss → (n : ℕ) → placed_lists chunks v f n ≡ cond (is_some (point_of ss n)) (sharers_in chunks (star_of m n)) []
placed_sites m chunks [] [] f none e n = none n
placed_sites m chunks [] (y ∷ ys) f none e n = absurd (let q : suc (length (map (λ (x : Star). Some x) ys)) ≡ 0 = ap (λ (l : List (Option Star)). length l) e in omega (arith, q))
placed_sites m chunks (s ∷ ss) [] f none e n = absurd (let q : 0 ≡ suc (length (map (λ (s : Site). star_of m s.name) ss)) = ap (λ (l : List (Option Star)). length l) e in omega (arith, q))
placed_sites m chunks (s ∷ ss) (y ∷ ys) f none e n = dite (ℕ_discrete n s.name)
    (λ q.
    ap (λ (b : Bool). cond b (sharers_in chunks (Some y)) (placed_lists chunks ys f n)) (eq_true n y.node (q ∙ sym node))
    ∙ ap (sharers_in chunks) (h ∙ ap (star_of m) (sym q))
    ∙ sym (ap (λ (b : Bool). cond (is_some (cond b (Some s.at) (point_of ss n))) (sharers_in chunks (star_of m n)) []) (eq_true s.name n (sym q))))
    (λ ne.
    ap (λ (b : Bool). cond b (sharers_in chunks (Some y)) (placed_lists chunks ys f n)) (eq_false n y.node (λ z. ne (z ∙ node)))
    ∙ placed_sites m chunks ss ys f none (stars_rest m y ys s ss e) n
    ∙ sym (ap (λ (b : Bool). cond (is_some (cond b (Some s.at) (point_of ss n))) (sharers_in chunks (star_of m n)) []) (eq_false s.name n (λ z. ne (sym z)))))
  where
    h : Some y ≡ star_of m s.name
    h = stars_head m y ys s ss e

    node : y.node ≡ s.name
    node = (star_parts m s.name y (sym h)).node

pub all_placed : (m : Undivided) (chunks : ℕ) (v : List Star) (f : ℕ → List Sharer) → ((n : ℕ) → f n ≡ []) → AreStars m v m.sites → (n : ℕ) → placed_lists chunks v f n ≡ sharers_in chunks (star_of m n)
all_placed m chunks v f none e n = placed_sites m chunks m.sites v f none e n ∙ list_is chunks (is_some (point_of m.sites n)) (star_of m n) ∙ ap (sharers_in chunks) (twice (is_some (point_of m.sites n)))
  where
    twice : (b : Bool) → cond b (cond {A = Option Star} b (Some record { node = n; at = place_of m n; spokes = spokes_of m n }) None) None ≡ cond {A = Option Star} b (Some record { node = n; at = place_of m n; spokes = spokes_of m n }) None
    twice true = refl
    twice false = refl

-- a star of these is that of its node, which is live
each_star : (m : Undivided) (ss : List Site) (v : List Star) → AreStars m v ss → (x : Star) → Contains v x → star_of m x.node ≡ Some x
each_star m ss [] e x i = absurd (nowhere x i)
each_star m [] (y ∷ ys) e x i = absurd (let q : suc (length (map (λ (x : Star). Some x) ys)) ≡ 0 = ap (λ (l : List (Option Star)). length l) e in omega (arith, q))
each_star m (s ∷ ss) (y ∷ ys) e x i =
    ⊎_elim
    (λ (q : x ≡ y).
    let h = stars_head m y ys s ss e in
    subst (λ (z : Star). star_of m z.node ≡ Some z) (sym q) (ap (star_of m) (star_parts m s.name y (sym h)).node ∙ sym h))
    (λ (j : Contains ys x). each_star m ss ys (stars_rest m y ys s ss e) x j)
    (cases x y ys i)

star_live : (m : Undivided) (n : ℕ) (x : Star) → star_of m n ≡ Some x → IsLive m n
star_live m n x e = go (is_some (point_of m.sites n)) e
  where
    go : (b : Bool) → cond {A = Option Star} b (Some record { node = n; at = place_of m n; spokes = spokes_of m n }) None ≡ Some x → b ≡ true
    go true h = refl
    go false h = absurd (let z : None ≡ Some x = h in cc)

-- the node of each is below the first new name
pub each_below : (m : Undivided) (v : List Star) → IsFresh m 0 → AreStars m v m.sites → (x : Star) → Contains v x → x.node < m.first_new
each_below m v fresh e x i = let low = fresh x.node (star_live m x.node x (each_star m m.sites v e x i)) in omega (arith, low)

pub long_map : {A : Type 0} (f : ℕ → A) (k n : ℕ) → length (map f (counting k n)) ≡ n
long_map f k zero = refl
long_map f k (suc n) = ap suc (long_map f (suc k) n)

-- the element at a place
at_place : (ls : List (List Sharer)) (n : ℕ) → n < length ls → get_elem? ls n ≡ some (list_at ls n)
at_place [] n h = absurd (omega arith)
at_place (l ∷ ls) zero h = refl
at_place (l ∷ ls) (suc n) h = at_place ls n (omega arith)

pub opens : (o : Opening) (words : List ℕ) (lists : List (List Sharer)) → CanOpen o → words ≡ map (start_word o.mesh) (counting 0 (names_of o)) ++ 0 ∷ [] → length lists ≡ names_of o
    → ((n : ℕ) → list_at lists n ≡ sharers_in o.mesh.chunks (star_of o.mesh n))
    → Holds o (opening words lists (first_view o))
opens o words lists can words_are long lists_are =
    subst (λ (l : List ℕ). Holds o (opening l lists (first_view o))) (sym words_are)
    (board_opens o lists can long (λ n near. at_place lists n (omega (arith, near, long)) ∙ ap (λ (l : List Sharer). some l) (lists_are n)))
