-- The copies of a star, owner by owner.
use Rattle.std.proofs.Common.{◌≡◌, ℕ, zero, suc, ◌+◌, ◌-◌, ◌<◌, ◌≤◌, Bool, true, false, cond, ◌==◌, List, [], ◌∷◌, ◌++◌, length, refl, sym, ap, ◌∙◌, subst, arith, append_assoc}
use Rattle.std.specs.Prelude.{All, Option, Some, None, map, not, nat_lt, Contains}
use Rattle.std.proofs.lemmas.Bool.Decides.{nat_tests}
use Rattle.pf_model.specs.declared.Spoke.{Spoke}
use Rattle.pf_model.specs.Conditions.{least_that}
use Rattle.pf_model.specs.Stars.{Star, is_sharer}
use Rattle.pf_model.proofs.ContractClauses.{least_that-none}
use Rattle.pf_model.proofs.Kept.{any-from, any-means}
use Rattle.pf_model.proofs.Totals.{map-in, map-means}
use Rattle.pf_model.proofs.Members.{here}
use Rattle.pf_rings.proofs.Renamed.{all-member}
use Rattle.pf_star_model.proofs.Cavities.{least_that-some}
use Rattle.pf_core_model.specs.declared.sharer.Sharer.{Sharer}
use Rattle.pf_core_model.proofs.Slots.{sharers_listed}
use Rattle.pf_ghost.specs.Renamed.{renamed_sharer}
use Rattle.pf_core_model.specs.Sharers.{sharer_list, sharers_from, sharers_in, IsListFrom}

abbrev pub owners : List Spoke → List ℕ
owners ss = map (λ (s : Spoke). s.owner) ss

abbrev pub from : ℕ → ℕ → Bool
from first k = not (nat_lt k first)

owns : (k : ℕ) (ss : List Spoke) → is_sharer k ss ≡ true → Contains (owners ss) k
owns k ss h =
    let r = any-means (λ (s : Spoke). s.owner == k) ss h in
    let e : r.0.owner ≡ k = let z : (r.0.owner == k) ≡ true = r.2 in grind (arith, nat_tests) in
    subst (Contains (owners ss)) e (map-in (λ (s : Spoke). s.owner) ss r.0 r.1)

owned : (k : ℕ) (ss : List Spoke) → Contains (owners ss) k → is_sharer k ss ≡ true
owned k ss h =
    let r = map-means (λ (s : Spoke). s.owner) ss k h in
    any-from (λ (s : Spoke). s.owner == k) r.0 ss r.1 (let e : r.0.owner ≡ k = r.2 in let z : (r.0.owner == k) ≡ true = grind (arith, nat_tests) in z)

up : (first k : ℕ) → first ≤ k → from first k ≡ true
up first k h = grind (arith, nat_tests)

down : (first k : ℕ) → from first k ≡ true → first ≤ k
down first k h = grind (arith, nat_tests)

by_test : (b : Bool) → (b ≡ true → ⊥) → b ≡ false
by_test true h = absurd (h refl)
by_test false h = refl

-- chunks that own nothing have no copy
skip : (c n more : ℕ) (s : Star) → ((i : ℕ) → c ≤ i → i < c + n → is_sharer i s.spokes ≡ false) → sharers_from c (n + more) (Some s) ≡ sharers_from (c + n) more (Some s)
skip c zero more s out = λ i. sharers_from ((let z : c ≡ c + 0 = omega arith in z) i) ((let z : 0 + more ≡ more = omega arith in z) i) (Some s)
skip c (suc n) more s out =
    ap (λ (k : ℕ). sharers_from c k (Some s)) (let z : suc n + more ≡ suc (n + more) = omega arith in z)
    ∙ ap (λ (b : Bool). sharer_list c (cond b (Some s) None) ++ sharers_from (suc c) (n + more) (Some s)) (out c (omega arith) (omega arith))
    ∙ skip (suc c) n more s (λ i low high. out i (omega arith) (omega arith))
    ∙ ap (λ (k : ℕ). sharers_from k more (Some s)) (let z : suc c + n ≡ c + suc n = omega arith in z)

nothing : (c n : ℕ) (s : Star) → ((i : ℕ) → c ≤ i → is_sharer i s.spokes ≡ false) → sharers_from c n (Some s) ≡ []
nothing c zero s out = refl
nothing c (suc n) s out = ap (λ (b : Bool). sharer_list c (cond b (Some s) None) ++ sharers_from (suc c) n (Some s)) (out c (omega arith)) ∙ nothing (suc c) n s (λ i low. out i (omega arith))

append_none : {A : Type 0} (xs : List A) → xs ++ [] ≡ xs
append_none [] = refl
append_none (x ∷ xs) = ap (λ l. x ∷ l) (append_none xs)

-- where no owner is left, the list is whole
pub last_owner : (first chunks : ℕ) (s : Star) (list : List Sharer) → least_that (from first) (owners s.spokes) ≡ None → list ++ sharers_from first (chunks - first) (Some s) ≡ sharers_in chunks (Some s) → list ≡ sharers_in chunks (Some s)
last_owner first chunks s list none whole =
    let out : (i : ℕ) → first ≤ i → is_sharer i s.spokes ≡ false = λ i low. by_test (is_sharer i s.spokes) (λ yes_it. true_not_false (up first i low) (least_that-none (from first) (owners s.spokes) i none (owns i s.spokes yes_it))) in
    sym (append_none list) ∙ ap (λ (l : List Sharer). list ++ l) (sym (nothing first (chunks - first) s out)) ∙ whole
  where
    true_not_false : {b : Bool} → b ≡ true → b ≡ false → ⊥
    true_not_false p q = let z : true ≡ false = sym p ∙ q in absurd (cc (z))

-- no owner stands between this one and the next
between : (first k : ℕ) (ss : List Spoke) → least_that (from first) (owners ss) ≡ Some k → (i : ℕ) → first ≤ i → i < k → is_sharer i ss ≡ false
between first k ss next i low high = by_test (is_sharer i ss) (λ yes_it. let z = (least_that-some (from first) (owners ss) k next).2 i (owns i ss yes_it) (up first i low) in omega arith)

pub next_from : (first k : ℕ) (ss : List Spoke) → least_that (from first) (owners ss) ≡ Some k → first ≤ k
next_from first k ss next = down first k (least_that-some (from first) (owners ss) k next).1

-- an owner past the chunks ends the list, too
pub past_owner : (first k chunks : ℕ) (s : Star) (list : List Sharer) → least_that (from first) (owners s.spokes) ≡ Some k → chunks ≤ k → list ++ sharers_from first (chunks - first) (Some s) ≡ sharers_in chunks (Some s) → list ≡ sharers_in chunks (Some s)
past_owner first k chunks s list next past whole =
    let n : ℕ = chunks - first in
    let none : sharers_from first (n + 0) (Some s) ≡ [] = skip first n 0 s (λ i low high. between first k s.spokes next i low (let z = next_from first k s.spokes next in omega arith)) in
    let none' : sharers_from first n (Some s) ≡ [] = ap (λ (j : ℕ). sharers_from first j (Some s)) (let z : n ≡ n + 0 = omega arith in z) ∙ none in
    sym (append_none list) ∙ ap (λ (l : List Sharer). list ++ l) (sym none') ∙ whole

-- the copy of the next owner
pub one_owner : (first k chunks : ℕ) (s : Star) (list : List Sharer) → least_that (from first) (owners s.spokes) ≡ Some k → k < chunks → list ++ sharers_from first (chunks - first) (Some s) ≡ sharers_in chunks (Some s)
    → (list ++ record { chunk = k; star = s } ∷ []) ++ sharers_from (k + 1) (chunks - (k + 1)) (Some s) ≡ sharers_in chunks (Some s)
one_owner first k chunks s list next low whole =
    let up_to = next_from first k s.spokes next in
    let n : ℕ = k - first in
    let more : ℕ = chunks - (k + 1) in
    let long : chunks - first ≡ n + suc more = omega arith in
    let at : first + n ≡ k = omega arith in
    let shares : is_sharer k s.spokes ≡ true = owned k s.spokes (least_that-some (from first) (owners s.spokes) k next).0 in
    let rest : sharers_from first (chunks - first) (Some s) ≡ record { chunk = k; star = s } ∷ sharers_from (k + 1) more (Some s)
    = ap (λ (j : ℕ). sharers_from first j (Some s)) long
    ∙ skip first n (suc more) s (λ i lower high. between first k s.spokes next i lower (omega arith))
    ∙ ap (λ (j : ℕ). sharers_from j (suc more) (Some s)) at
    ∙ ap (λ (b : Bool). sharer_list k (cond b (Some s) None) ++ sharers_from (suc k) more (Some s)) shares
    ∙ ap (λ (j : ℕ). record { chunk = k; star = s } ∷ sharers_from j more (Some s)) (let z : suc k ≡ k + 1 = omega arith in z) in
    append_assoc list (record { chunk = k; star = s } ∷ []) (sharers_from (k + 1) more (Some s)) ∙ ap (λ (l : List Sharer). list ++ l) (sym rest) ∙ whole

-- the one copy of a star with one owner
pub sole_copy : (k chunks : ℕ) (s : Star) → (k < chunks) × (0 < length s.spokes) × All (λ (x : Spoke). x.owner ≡ k) s.spokes → record { chunk = k; star = s } ∷ [] ≡ sharers_in chunks (Some s)
sole_copy k chunks s (low, some, all) =
    let more : ℕ = chunks - (k + 1) in
    let long : chunks ≡ k + suc more = omega arith in
    let other : (i : ℕ) → (i ≡ k → ⊥) → is_sharer i s.spokes ≡ false = λ i apart. by_test (is_sharer i s.spokes) (λ yes_it.
    let r = any-means (λ (x : Spoke). x.owner == i) s.spokes yes_it in
    let e : r.0.owner ≡ i = let z : (r.0.owner == i) ≡ true = r.2 in grind (arith, nat_tests) in
    apart (sym e ∙ all-member (λ (x : Spoke). x.owner ≡ k) s.spokes all r.0 r.1)) in
    let own : is_sharer k s.spokes ≡ true = shares s.spokes some all in
    sym (ap (λ (j : ℕ). sharers_from 0 j (Some s)) long
    ∙ skip 0 k (suc more) s (λ i lower high. other i (λ e. absurd (let z : k < k = subst (λ (j : ℕ). j < k) e (omega (arith, high)) in omega (arith, z))))
    ∙ ap (λ (j : ℕ). sharers_from j (suc more) (Some s)) (let z : 0 + k ≡ k = omega arith in z)
    ∙ ap (λ (b : Bool). sharer_list k (cond b (Some s) None) ++ sharers_from (suc k) more (Some s)) own
    ∙ ap (λ (l : List Sharer). record { chunk = k; star = s } ∷ l) (nothing (suc k) more s (λ i lower. other i (λ e. absurd (let z : suc k ≤ k = subst (λ (j : ℕ). suc k ≤ j) e lower in omega (arith, z))))))
  where
    shares : (ss : List Spoke) → 0 < length ss → All (λ (x : Spoke). x.owner ≡ k) ss → is_sharer k ss ≡ true
    shares [] h a = absurd (omega (arith, h))
    shares (x ∷ xs) h a = let e : x.owner ≡ k = all-member (λ (y : Spoke). y.owner ≡ k) (x ∷ xs) a x (here x xs) in any-from (λ (y : Spoke). y.owner == k) x (x ∷ xs) (here x xs) (let z : (x.owner == k) ≡ true = grind (arith, nat_tests) in z)

-- the beginning of a rising list rises
pub list_begins : (first bound : ℕ) (l m : List Sharer) → IsListFrom first bound (l ++ m) → IsListFrom first bound l
list_begins first bound [] m h = tt
list_begins first bound (s ∷ ss) m h = (h.0, h.1, list_begins (suc s.chunk) bound ss m h.2)

pub list_wider : (first bound more : ℕ) (l : List Sharer) → bound ≤ more → IsListFrom first bound l → IsListFrom first more l
list_wider first bound more [] le h = tt
list_wider first bound more (s ∷ ss) le h = (h.0, let z = h.1 in omega arith, list_wider (suc s.chunk) bound more ss le h.2)

pub list_renamed : (old new first bound : ℕ) (l : List Sharer) → IsListFrom first bound l → IsListFrom first bound (map (renamed_sharer old new) l)
list_renamed old new first bound [] h = tt
list_renamed old new first bound (s ∷ ss) h = (h.0, h.1, list_renamed old new (suc s.chunk) bound ss h.2)

-- the copies of a star for chunks of 16 bits
pub sharers_narrow : (chunks : ℕ) (star : Option Star) → chunks < 65536 → IsListFrom 0 65536 (sharers_in chunks star)
sharers_narrow chunks star h = list_wider 0 chunks 65536 (sharers_in chunks star) (omega arith) (sharers_listed chunks star)
