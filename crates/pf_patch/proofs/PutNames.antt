-- Names put among rising ones.
use Rattle.std.proofs.Common.{◌≡◌, ℕ, zero, suc, ◌<◌, ◌≤◌, List, [], ◌∷◌, ◌++◌, length, get_or, refl, sym, ◌∙◌, ap, true, false, cond, ◌⊎◌, inl, inr, arith}
use Rattle.std.specs.Prelude.{Option, Some, None, min, max, insert, nat_lt, ◌==◌}
use Rattle.std.specs.Option.{option_map}
use Rattle.std.proofs.lemmas.Bool.Decides.{nat_tests}
use Rattle.pf_model.specs.declared.Op.{Op}
use Rattle.pf_model.specs.Stars.{Star}
use Rattle.pf_star_model.specs.Lent.{side_to, side_from, spokes_in}
use Rattle.pf_star_model.specs.Judged.{left_seen, right_seen}
use Rattle.pf_star_model.specs.Cavity.{apexes, cavity_seen}
use Rattle.pf_star_model.specs.Patched.{put_name, risen, made_by, changed_by}
use Rattle.pf_patch.specs.declared.edge.Edge.{Edge}
use Rattle.pf_patch.specs.Plans.{edge_in, left_on, put_names, right_on}
use Rattle.pf_patch.proofs.Standing.{first_to-side, first_from-side}

lt_holds : (a b : ℕ) → a < b → nat_lt a b ≡ true
lt_holds a b h = grind (arith, nat_tests)

lt_fails : (a b : ℕ) → b ≤ a → nat_lt a b ≡ false
lt_fails a b h = grind (arith, nat_tests)

same : (a b : ℕ) → a ≡ b → (a == b) ≡ true
same a b e = grind (arith, nat_tests)

not_same : (a b : ℕ) → b < a → (a == b) ≡ false
not_same a b h = grind (arith, nat_tests)

-- past a lesser name
past : (n k : ℕ) (ks : List ℕ) → k < n → put_name n (k ∷ ks) ≡ k ∷ put_name n ks
past n k ks h =
    ap (λ b. cond b (n ∷ k ∷ ks) (cond (n == k) (k ∷ ks) (k ∷ put_name n ks))) (lt_fails n k (omega (arith, h)))
    ∙ ap (λ b. cond b (k ∷ ks) (k ∷ put_name n ks)) (not_same n k h)

-- a name that isn't among them
pub put-place : (n : ℕ) (ks : List ℕ) (r : ℕ) → r ≤ length ks → ((k d : ℕ) → k < r → get_or ks k d < n) → (r ≡ length ks) ⊎ ((d : ℕ) → n < get_or ks r d) → insert ks r n ≡ put_name n ks
put-place n [] r within before at = let e : r ≡ 0 = omega (arith, within) in rw e refl
put-place n (k ∷ ks) zero within before (inl e) = absurd (let z : 0 ≡ suc (length ks) = e in omega (arith, z))
put-place n (k ∷ ks) zero within before (inr f) = sym (ap (λ b. cond b (n ∷ k ∷ ks) (cond (n == k) (k ∷ ks) (k ∷ put_name n ks))) (lt_holds n k (f 0)))
put-place n (k ∷ ks) (suc r) within before at =
    ap (λ l. k ∷ l) (put-place n ks r (let w : suc r ≤ suc (length ks) = within in omega (arith, w)) (λ i d l. before (suc i) d (omega (arith, l))) (next at))
    ∙ sym (past n k ks (before 0 0 (omega arith)))
  where
    next : (suc r ≡ suc (length ks)) ⊎ ((d : ℕ) → n < get_or ks r d) → (r ≡ length ks) ⊎ ((d : ℕ) → n < get_or ks r d)
    next (inl e) = inl (omega (arith, e))
    next (inr f) = inr f

-- a name that is one of them
pub put-there : (n : ℕ) (ks : List ℕ) (r : ℕ) → r < length ks → ((k d : ℕ) → k < r → get_or ks k d < n) → ((d : ℕ) → n ≡ get_or ks r d) → put_name n ks ≡ ks
put-there n [] r within before at = absurd (omega (arith, within))
put-there n (k ∷ ks) zero within before at =
    let e = at 0 in
    ap (λ b. cond b (n ∷ k ∷ ks) (cond (n == k) (k ∷ ks) (k ∷ put_name n ks))) (lt_fails n k (omega (arith, e)))
    ∙ ap (λ b. cond b (k ∷ ks) (k ∷ put_name n ks)) (same n k e)
put-there n (k ∷ ks) (suc r) within before at =
    past n k ks (before 0 0 (omega arith))
    ∙ ap (λ l. k ∷ l) (put-there n ks r (let w : suc r < suc (length ks) = within in omega (arith, w)) (λ i d l. before (suc i) d (omega (arith, l))) (λ d. at d))

pub put_names-append : (xs ys ks : List ℕ) → put_names (xs ++ ys) ks ≡ put_names xs (put_names ys ks)
put_names-append [] ys ks = refl
put_names-append (x ∷ xs) ys ks = ap (put_name x) (put_names-append xs ys ks)

pub risen-is : (xs : List ℕ) → risen xs ≡ put_names xs []
risen-is [] = refl
risen-is (x ∷ xs) = ap (put_name x) (risen-is xs)

-- the nodes whose stars change
pub changed-is : (lent : ℕ → Option Star) (new : ℕ) (op : Op) → changed_by lent new op ≡ put_names (cavity_seen lent op) (put_names (made_by new op) [])
changed-is lent new op = risen-is (cavity_seen lent op ++ made_by new op) ∙ put_names-append (cavity_seen lent op) (made_by new op) []

left_on-is : (hi : ℕ) (o : Option Star) → left_on (option_map (edge_in hi) o) ≡ side_to hi (spokes_in o)
left_on-is hi None = refl
left_on-is hi (Some s) = first_to-side hi s.spokes

right_on-is : (hi : ℕ) (o : Option Star) → right_on (option_map (edge_in hi) o) ≡ side_from hi (spokes_in o)
right_on-is hi None = refl
right_on-is hi (Some s) = first_from-side hi s.spokes

-- the ends and the apexes of an edge
pub edge-names : (lent : ℕ → Option Star) (a b : ℕ) (e : Option Edge) → e ≡ option_map (edge_in (max a b)) (lent (min a b))
    → a ∷ b ∷ apexes (left_on e) ++ apexes (right_on e) ≡ a ∷ b ∷ apexes (left_seen lent (min a b) (max a b)) ++ apexes (right_seen lent (min a b) (max a b))
edge-names lent a b e is =
    ap (λ o. a ∷ b ∷ apexes (left_on o) ++ apexes (right_on o)) is
    ∙ (λ i. a ∷ b ∷ apexes (left_on-is (max a b) (lent (min a b)) i) ++ apexes (right_on-is (max a b) (lent (min a b)) i))
