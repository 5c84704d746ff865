-- The keeper of a node, gathered triangle by triangle.
use Rattle.std.proofs.Common.{◌≡◌, ◌⊎◌, ℕ, ◌+◌, ◌<◌, ◌≤◌, Bool, true, false, cond, ◌==◌, ◌||◌, List, [], ◌∷◌, length, drop, get_or, refl, sym, ap, ◌∙◌, inl, inr, ⊎_elim, arith, add-one}
use Rattle.std.specs.Prelude.{Option, Some, None, nat_lt, filter_map}
use Rattle.std.specs.List.{cons_option}
use Rattle.std.proofs.Math.Seq.{drop-cons}
use Rattle.std.proofs.lemmas.Bool.Decides.{nat_tests}
use Rattle.std.proofs.lemmas.List.{drop_all}
use Rattle.pf_model.specs.declared.Tri.{Tri}
use Rattle.pf_model.specs.declared.Spoke.{Spoke}
use Rattle.pf_model.specs.Rising.{insert_by, insert_all_by}
use Rattle.pf_model.specs.Mesh.{Undivided, place_of}
use Rattle.pf_model.specs.Stars.{spoke_of, spoke_lt, keeper_in, keeper_of}
use Rattle.pf_rings.specs.Least.{keeper_with}
use Rattle.pf_workers.specs.Keepers.{seen, gathered}

abbrev lower : ℕ → ℕ → ℕ
lower a k = cond (nat_lt a k) a k

below : (a k : ℕ) → nat_lt a k ≡ true → a < k
below a k e = grind (arith, nat_tests)

not_below : (a k : ℕ) → nat_lt a k ≡ false → k ≤ a
not_below a k e = grind (arith, nat_tests)

record IsLower (a k x : ℕ) : Type 0 where
  first : x ≤ a
  second : x ≤ k
  is : (x ≡ a) ⊎ (x ≡ k)

lower_is : (a k : ℕ) → IsLower a k (lower a k)
lower_is a k = go (nat_lt a k) refl
  where
    go : (b : Bool) → nat_lt a k ≡ b → IsLower a k (cond b a k)
    go true e = let l = below a k e in record { first = omega arith; second = omega (arith, l); is = inl refl }
    go false e = let l = not_below a k e in record { first = l; second = omega arith; is = inr refl }

same_lower : (x y : ℕ) → x ≤ y → y ≤ x → x ≡ y
same_lower x y l m = omega (arith, l, m)

-- of three, in any order
under : (x a b k y z : ℕ) → x ≤ a → x ≤ b → x ≤ k → IsLower a z y → (z ≡ b) ⊎ (z ≡ k) → x ≤ y
under x a b k y z p q r l w =
    ⊎_elim (λ (e : y ≡ a). (let g : x ≤ y = omega (arith, p, e) in g)) (λ (e : y ≡ z). ⊎_elim (λ (f : z ≡ b). (let g : x ≤ y = omega (arith, q, e, f) in g)) (λ (f : z ≡ k). (let g : x ≤ y = omega (arith, r, e, f) in g)) w) l.is

turned_lower : (a b k : ℕ) → lower a (lower b k) ≤ lower b (lower a k)
turned_lower a b k =
    let x = lower_is a (lower b k) in
    let y = lower_is b k in
    let l = x.first in
    let m = x.second in
    let p = y.first in
    let q = y.second in
    under (lower a (lower b k)) b a k (lower b (lower a k)) (lower a k) (omega (arith, m, p)) l (omega (arith, m, q)) (lower_is b (lower a k)) (lower_is a k).is

keep_two : (a b : ℕ) (x : Option ℕ) → keeper_with a (keeper_with b x) ≡ keeper_with b (keeper_with a x)
keep_two a b None = ap (λ (k : ℕ). Some k) (swapped a b)
  where
    swapped : (a b : ℕ) → lower a b ≡ lower b a
    swapped a b =
        let x = lower_is a b in
        let y = lower_is b a in
        same_lower (lower a b) (lower b a)
        (⊎_elim (λ (e : lower b a ≡ b). (let l = x.second in let g : lower a b ≤ lower b a = omega (arith, l, e) in g)) (λ (e : lower b a ≡ a). (let l = x.first in let g : lower a b ≤ lower b a = omega (arith, l, e) in g)) y.is)
        (⊎_elim (λ (e : lower a b ≡ a). (let l = y.second in let g : lower b a ≤ lower a b = omega (arith, l, e) in g)) (λ (e : lower a b ≡ b). (let l = y.first in let g : lower b a ≤ lower a b = omega (arith, l, e) in g)) x.is)
keep_two a b (Some k) = ap (λ (j : ℕ). Some j) (same_lower (lower a (lower b k)) (lower b (lower a k)) (turned_lower a b k) (turned_lower b a k))

-- once more is nothing new
keep_again : (a : ℕ) (x : Option ℕ) → keeper_with a (keeper_with a x) ≡ keeper_with a x
keep_again a None = ap (λ (k : ℕ). Some k) (⊎_elim (λ (e : lower a a ≡ a). e) (λ (e : lower a a ≡ a). e) (lower_is a a).is)
keep_again a (Some k) =
    let x = lower_is a k in
    let y = lower_is a (lower a k) in
    let m = y.second in
    ap (λ (j : ℕ). Some j)
    (⊎_elim (λ (e : lower a (lower a k) ≡ a). same_lower (lower a (lower a k)) (lower a k) m (let l = x.first in let g : lower a k ≤ lower a (lower a k) = omega (arith, l, e) in g)) (λ (e : lower a (lower a k) ≡ lower a k). e) y.is)

first_keeper : (s : Spoke) (ss : List Spoke) → keeper_in (s ∷ ss) ≡ keeper_with s.owner (keeper_in ss)
first_keeper s ss = go (keeper_in ss)
  where
    go : (x : Option ℕ) → elim x as (λ _. Option ℕ) [ None ↦ Some s.owner | Some k ↦ Some (cond (nat_lt s.owner k) s.owner k) ] ≡ keeper_with s.owner x
    go None = refl
    go (Some k) = refl

put_keeper : (s : Spoke) (ss : List Spoke) → keeper_in (insert_by spoke_lt s ss) ≡ keeper_with s.owner (keeper_in ss)
put_keeper s [] = refl
put_keeper s (r ∷ rs) = go (spoke_lt s r) (put_keeper s rs)
  where
    go : (b : Bool) → keeper_in (insert_by spoke_lt s rs) ≡ keeper_with s.owner (keeper_in rs) → keeper_in (cond b (s ∷ r ∷ rs) (r ∷ insert_by spoke_lt s rs)) ≡ keeper_with s.owner (keeper_in (r ∷ rs))
    go true ih = first_keeper s (r ∷ rs)
    go false ih =
        first_keeper r (insert_by spoke_lt s rs)
        ∙ ap (λ (x : Option ℕ). keeper_with r.owner x) ih
        ∙ keep_two r.owner s.owner (keeper_in rs)
        ∙ ap (λ (x : Option ℕ). keeper_with s.owner x) (sym (first_keeper r rs))

sorted_keeper : (ss : List Spoke) → keeper_in (insert_all_by spoke_lt ss []) ≡ keeper_in ss
sorted_keeper [] = refl
sorted_keeper (s ∷ ss) = put_keeper s (insert_all_by spoke_lt ss []) ∙ ap (λ (x : Option ℕ). keeper_with s.owner x) (sorted_keeper ss) ∙ sym (first_keeper s ss)

-- the lesser of what was kept and what is to come
abbrev both : Option ℕ → Option ℕ → Option ℕ
both None x = x
both (Some k) x = keeper_with k x

both_with : (o : ℕ) (kept x : Option ℕ) → both (keeper_with o kept) x ≡ both kept (keeper_with o x)
both_with o None x = refl
both_with o (Some k) x = lower_with x
  where
    lower_with : (x : Option ℕ) → keeper_with (lower o k) x ≡ keeper_with k (keeper_with o x)
    lower_with None = keep_two o k None
    lower_with (Some j) = ap (λ (i : ℕ). Some i) (three o k j)
      where
        three : (o k j : ℕ) → lower (lower o k) j ≡ lower k (lower o j)
        three o k j =
            let a = lower_is o k in
            let b = lower_is (lower o k) j in
            let c = lower_is o j in
            let d = lower_is k (lower o j) in
            let p = a.first in
            let q = a.second in
            let r = b.first in
            let s = b.second in
            let t = c.first in
            let u = c.second in
            let v = d.first in
            let w = d.second in
            same_lower (lower (lower o k) j) (lower k (lower o j))
            (under (lower (lower o k) j) k o j (lower k (lower o j)) (lower o j) (omega (arith, q, r)) (omega (arith, p, r)) s d c.is)
            (⊎_elim (λ (e : lower (lower o k) j ≡ lower o k). ⊎_elim (λ (f : lower o k ≡ o). (let g : lower k (lower o j) ≤ lower (lower o k) j = omega (arith, e, f, t, w) in g)) (λ (f : lower o k ≡ k). (let g : lower k (lower o j) ≤ lower (lower o k) j = omega (arith, e, f, v) in g)) a.is) (λ (e : lower (lower o k) j ≡ j). (let g : lower k (lower o j) ≤ lower (lower o k) j = omega (arith, e, u, w) in g)) b.is)

-- what is kept of a name after a triangle
seen_once : (a b c : Bool) (o : ℕ) (kept : Option ℕ) → cond c (keeper_with o (cond b (keeper_with o (cond a (keeper_with o kept) kept)) (cond a (keeper_with o kept) kept))) (cond b (keeper_with o (cond a (keeper_with o kept) kept)) (cond a (keeper_with o kept) kept)) ≡ cond (a || (b || c)) (keeper_with o kept) kept
seen_once false false false o kept = refl
seen_once false false true o kept = refl
seen_once false true false o kept = refl
seen_once false true true o kept = keep_again o kept
seen_once true false false o kept = refl
seen_once true false true o kept = keep_again o kept
seen_once true true false o kept = keep_again o kept
seen_once true true true o kept = ap (λ (x : Option ℕ). keeper_with o x) (keep_again o kept) ∙ keep_again o kept

one_more : (a b c : Bool) (r s t : Spoke) (o : ℕ) (kept : Option ℕ) (ss : List Spoke) → r.owner ≡ o → s.owner ≡ o → t.owner ≡ o → both (cond (a || (b || c)) (keeper_with o kept) kept) (keeper_in ss) ≡ both kept (keeper_in (cons_option (cond a (Some r) (cond b (Some s) (cond c (Some t) None))) ss))
one_more true b c r s t o kept ss e f g = both_with o kept (keeper_in ss) ∙ ap (λ (x : ℕ). both kept (keeper_with x (keeper_in ss))) (sym e) ∙ ap (λ (x : Option ℕ). both kept x) (sym (first_keeper r ss))
one_more false true c r s t o kept ss e f g = both_with o kept (keeper_in ss) ∙ ap (λ (x : ℕ). both kept (keeper_with x (keeper_in ss))) (sym f) ∙ ap (λ (x : Option ℕ). both kept x) (sym (first_keeper s ss))
one_more false false true r s t o kept ss e f g = both_with o kept (keeper_in ss) ∙ ap (λ (x : ℕ). both kept (keeper_with x (keeper_in ss))) (sym g) ∙ ap (λ (x : Option ℕ). both kept x) (sym (first_keeper t ss))
one_more false false false r s t o kept ss e f g = refl

gathered_is : (m : Undivided) (n : ℕ) (kept : Option ℕ) (ts : List Tri) → gathered n kept ts ≡ both kept (keeper_in (filter_map (spoke_of m n) ts))
gathered_is m n None [] = refl
gathered_is m n (Some k) [] = refl
gathered_is m n kept (t ∷ ts) =
    gathered_is m n (seen t n kept) ts
    ∙ ap (λ (x : Option ℕ). both x (keeper_in (filter_map (spoke_of m n) ts))) (seen_once (t.a == n) (t.b == n) (t.c == n) t.owner kept)
    ∙ one_more (t.a == n) (t.b == n) (t.c == n)
    (record { right = t.b; right_at = place_of m t.b; left = t.c; left_at = place_of m t.c; owner = t.owner })
    (record { right = t.c; right_at = place_of m t.c; left = t.a; left_at = place_of m t.a; owner = t.owner })
    (record { right = t.a; right_at = place_of m t.a; left = t.b; left_at = place_of m t.b; owner = t.owner })
    t.owner kept (filter_map (spoke_of m n) ts) refl refl refl

-- what is gathered of all triangles is the keeper
pub gathered_keeper : (m : Undivided) (n : ℕ) → gathered n None m.tris ≡ keeper_of m n
gathered_keeper m n = gathered_is m n None m.tris ∙ sym (sorted_keeper (filter_map (spoke_of m n) m.tris))

-- one triangle more
pub gathered_more : (n : ℕ) (kept : Option ℕ) (ts : List Tri) (i : ℕ) (d : Tri) → i < length ts → gathered n kept (drop i ts) ≡ gathered n (seen (get_or ts i d) n kept) (drop (i + 1) ts)
gathered_more n kept ts i d within =
    let e : drop i ts ≡ get_or ts i d ∷ drop (i + 1) ts = rw add-one (drop-cons ts i d within) in
    ap (λ (l : List Tri). gathered n kept l) e

-- all triangles
pub gathered_all : (n : ℕ) (kept : Option ℕ) (ts : List Tri) (i : ℕ) → length ts ≤ i → gathered n kept (drop i ts) ≡ kept
gathered_all n kept ts i past = ap (λ (l : List Tri). gathered n kept l) (drop_all i ts past)
