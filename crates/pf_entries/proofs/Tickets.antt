-- Maps of entries by ticket: what they hold, and that the order of a list makes no difference.
use Rattle.std.proofs.Common.{◌≡◌, ◌≢◌, ◌∙◌, ℕ, zero, suc, ◌+◌, ◌<◌, ◌≤◌, List, [], ◌∷◌, ◌++◌, true, false, cond, Option, Some, None, ⊎_elim, length, map, refl, sym, ap, subst, arith, get_or}
use Rattle.std.specs.Prelude.{T}
use Rattle.std.specs.Cmp.{nat_cmp_is}
use Rattle.std.specs.declared.cmp.Ordering.TheVariants.{Less, Equal, Greater}
use Rattle.std.specs.List.{Contains}
use Rattle.std.specs.List.Sorted.{IsPermutation, IsNonDecreasingBy}
use Rattle.std.specs.Ordering.{nat_cmp, eq_by_cmp, is_eq}
use Rattle.std.specs.FinMap as fin
use Rattle.std.specs.FinMap.{nat_cmp-IsAntisymmetric}
use Rattle.std.specs.FinMap.Entries.{find, is_sorted, below_all}
use Rattle.std.proofs.lemmas.Cmp.{nat_cmp_total, eq_by_cmp_equiv}
use Rattle.std.proofs.lemmas.List.Sums.{sum_by-cons, sum_by-append}
use Rattle.std.proofs.lemmas.List.Sorted.{Contains-permutation, sum_by-IsPermutation}
use Rattle.pf_model.specs.declared.Entry.{Entry}
use Rattle.pf_entries.specs.Maps.{tickets_of, keyed, map_of, joined, AreDisjoint}
use Rattle.pf_entries.specs.Inside.{times, AreApart}

-- the first entry of the list with the ticket
abbrev found : ℕ → List Entry → Option Entry
found q es = find nat_cmp q (keyed es)

-- a test that passes means equal numbers
same_ticket : (a b : ℕ) → eq_by_cmp nat_cmp a b ≡ true → a ≡ b
same_ticket a b h =
    elim (nat_cmp a b) as (λ r. nat_cmp a b ≡ r → is_eq r ≡ true → a ≡ b) [
      | Less ↦ λ e k. cc
      | Equal ↦ λ e k. nat_cmp-IsAntisymmetric a b e
      | Greater ↦ λ e k. cc
    ] refl h

itself : (a : ℕ) → eq_by_cmp nat_cmp a a ≡ true
itself a = (eq_by_cmp_equiv nat_cmp_total).refl a

times-cons : (q : ℕ) (e : Entry) (es : List Entry) → times q (e ∷ es) ≡ cond (eq_by_cmp nat_cmp q e.ticket) 1 0 + times q es
times-cons q e es = sum_by-cons (λ (d : Entry). cond (eq_by_cmp nat_cmp q d.ticket) 1 0) e es

-- no entry with a ticket is found exactly where none has it
none_from_times : (q : ℕ) (es : List Entry) → times q es ≡ 0 → found q es ≡ None
none_from_times q [] h = refl
none_from_times q (e ∷ es) h =
    elim (eq_by_cmp nat_cmp q e.ticket) as (λ b. cond b 1 0 + times q es ≡ 0 → cond b (Some e) (found q es) ≡ None) [
      | true ↦ λ k. absurd (omega arith)
      | false ↦ λ k. none_from_times q es (omega arith)
    ] (sym (times-cons q e es) ∙ h)

times_from_none : (q : ℕ) (es : List Entry) → found q es ≡ None → times q es ≡ 0
times_from_none q [] h = refl
times_from_none q (e ∷ es) h =
    times-cons q e es ∙ elim (eq_by_cmp nat_cmp q e.ticket) as (λ b. cond b (Some e) (found q es) ≡ None → cond b 1 0 + times q es ≡ 0) [
      | true ↦ λ k. cc
      | false ↦ λ k. let z = times_from_none q es k in omega arith
    ] h

-- the entry that is found stands in the list, and has the ticket
found_has_ticket : (q : ℕ) (es : List Entry) (e : Entry) → found q es ≡ Some e → e.ticket ≡ q
found_has_ticket q [] e h = cc
found_has_ticket q (d ∷ ds) e h =
    elim (eq_by_cmp nat_cmp q d.ticket) as (λ b. eq_by_cmp nat_cmp q d.ticket ≡ b → cond b (Some d) (found q ds) ≡ Some e → e.ticket ≡ q) [
      | true ↦ λ t k. let same : d ≡ e = cc in sym (same_ticket q d.ticket t ∙ ap (λ (x : Entry). x.ticket) same)
      | false ↦ λ t k. found_has_ticket q ds e k
    ] refl h

found_is_in : (q : ℕ) (es : List Entry) (e : Entry) → found q es ≡ Some e → Contains es e
found_is_in q [] e h = cc
found_is_in q (d ∷ ds) e h =
    elim (eq_by_cmp nat_cmp q d.ticket) as (λ b. cond b (Some d) (found q ds) ≡ Some e → Contains (d ∷ ds) e) [
      | true ↦ λ k. let same : d ≡ e = cc in (0, omega arith, same)
      | false ↦ λ k. let c = found_is_in q ds e k in (suc c.0, omega arith, c.2)
    ] h

-- an entry that stands in the list is counted
counted_first : (e d : Entry) (ds : List Entry) → eq_by_cmp nat_cmp e.ticket d.ticket ≡ true → times e.ticket (d ∷ ds) ≡ 1 + times e.ticket ds
counted_first e d ds same = times-cons e.ticket d ds ∙ ap (λ b. cond b 1 0 + times e.ticket ds) same

rest_is_none : (e : Entry) (es : List Entry) → eq_by_cmp nat_cmp e.ticket e.ticket ≡ true → times e.ticket (e ∷ es) ≤ 1 → times e.ticket es ≡ 0
rest_is_none e es own most = let one = counted_first e e es own in omega arith

counted_at : (es : List Entry) (e : Entry) (k : ℕ) → k < length es → get_or es k e ≡ e → 1 ≤ times e.ticket es
counted_at [] e k h is = absurd (omega arith)
counted_at (d ∷ ds) e zero h is = let one = counted_first e d ds (ap (λ (x : Entry). eq_by_cmp nat_cmp e.ticket x.ticket) is ∙ itself e.ticket) in omega arith
counted_at (d ∷ ds) e (suc k) h is = let more = counted_at ds e k (omega arith) is in omega (arith, times-cons e.ticket d ds)

-- and it is the one that is found, where no other has its ticket
found_at : (es : List Entry) (e : Entry) (k : ℕ) → k < length es → get_or es k e ≡ e → times e.ticket es ≤ 1 → found e.ticket es ≡ Some e
found_at [] e k h is once = absurd (omega arith)
found_at (d ∷ ds) e zero h is once = ap (λ b. cond b (Some d) (found e.ticket ds)) (ap (λ (x : Entry). eq_by_cmp nat_cmp e.ticket x.ticket) is ∙ itself e.ticket) ∙ ap (λ x. Some x) is
found_at (d ∷ ds) e (suc k) h is once =
    elim (eq_by_cmp nat_cmp e.ticket d.ticket) as (λ b. cond b 1 0 + times e.ticket ds ≤ 1 → cond b (Some d) (found e.ticket ds) ≡ Some e) [
      | true ↦ λ most. let more = counted_at ds e k (omega arith) is in absurd (omega arith)
      | false ↦ λ most. found_at ds e k (omega arith) is (omega arith)
    ] (subst (λ n. n ≤ 1) (times-cons e.ticket d ds) once)

-- a list in another order
times_kept : (t : ℕ) (xs ys : List Entry) → IsPermutation xs ys → times t ys ≡ times t xs
times_kept t xs ys p = sum_by-IsPermutation (λ (e : Entry). cond (eq_by_cmp nat_cmp t e.ticket) 1 0) xs ys p

pub apart_kept : (xs ys : List Entry) → IsPermutation xs ys → AreApart xs → AreApart ys
apart_kept xs ys p apart t = let same = times_kept t xs ys p in let most = apart t in omega arith

found_kept : (xs ys : List Entry) → IsPermutation xs ys → AreApart xs → (q : ℕ) → found q xs ≡ found q ys
found_kept xs ys p apart q =
    elim (found q xs) as (λ r. found q xs ≡ r → r ≡ found q ys) [
      | None ↦ λ e. sym (none_from_times q ys (times_kept q xs ys p ∙ times_from_none q xs e))
      | Some d ↦ λ e.
          let there = Contains-permutation xs ys d p (found_is_in q xs d e) in
          sym (subst (λ t. found t ys ≡ Some d) (found_has_ticket q xs d e) (found_at ys d there.0 there.1 there.2 (apart_kept xs ys p apart d.ticket)))
    ] refl

pub map_kept : (xs ys : List Entry) → IsPermutation xs ys → AreApart xs → map_of xs ≡ map_of ys
map_kept xs ys p apart =
    fin.same_map nat_cmp_total nat_cmp-IsAntisymmetric _ _ (λ q. fin.get-from_entries nat_cmp_total (keyed xs) q ∙ found_kept xs ys p apart q ∙ sym (fin.get-from_entries nat_cmp_total (keyed ys) q))

-- an entry more
absent : (t : ℕ) (es : List Entry) → fin.get (map_of es) t ≡ None → times t es ≡ 0
absent t es h = times_from_none t es (sym (fin.get-from_entries nat_cmp_total (keyed es) t) ∙ h)

pub apart_more : (e : Entry) (es : List Entry) → fin.get (map_of es) e.ticket ≡ None → AreApart es → AreApart (e ∷ es)
apart_more e es h apart t =
    elim (eq_by_cmp nat_cmp t e.ticket) as (λ b. eq_by_cmp nat_cmp t e.ticket ≡ b → times t (e ∷ es) ≡ cond b 1 0 + times t es → times t (e ∷ es) ≤ 1) [
      | true ↦ λ s k. let none : times t es ≡ 0 = subst (λ n. times n es ≡ 0) (sym (same_ticket t e.ticket s)) (absent e.ticket es h) in omega arith
      | false ↦ λ s k. let most = apart t in omega arith
    ] refl (times-cons t e es)

-- two lists joined
either : Option Entry → Option Entry → Option Entry
either None b = b
either (Some e) b = Some e

find_joined : (q : ℕ) (xs ys : List (ℕ × Entry)) → find nat_cmp q (xs ++ ys) ≡ either (find nat_cmp q xs) (find nat_cmp q ys)
unfolding either
find_joined q [] ys = refl
find_joined q (x ∷ xs) ys =
    elim (eq_by_cmp nat_cmp q x.0) as (λ b. cond b (Some x.1) (find nat_cmp q (xs ++ ys)) ≡ either (cond b (Some x.1) (find nat_cmp q xs)) (find nat_cmp q ys)) [
      | true ↦ refl
      | false ↦ find_joined q xs ys
    ]

keyed-append : (xs ys : List Entry) → keyed (xs ++ ys) ≡ keyed xs ++ keyed ys
keyed-append [] ys = refl
keyed-append (x ∷ xs) ys = ap (λ l. (x.ticket, x) ∷ l) (keyed-append xs ys)

-- the map of two lists joined is the maps joined
pub map_joined : (xs ys : List Entry) → map_of (xs ++ ys) ≡ joined (map_of xs) (map_of ys)
map_joined xs ys =
    fin.same_map nat_cmp_total nat_cmp-IsAntisymmetric _ _
    (λ q. fin.get-from_entries nat_cmp_total (keyed (xs ++ ys)) q
    ∙ ap (find nat_cmp q) (keyed-append xs ys)
    ∙ find_joined q (keyed xs) (keyed ys)
    ∙ ap (λ a. either a (found q ys)) (sym (fin.get-from_entries nat_cmp_total (keyed xs) q) ∙ fin.get-entries (map_of xs) q)
    ∙ ap (λ b. either (find nat_cmp q (fin.entries (map_of xs))) b) (sym (fin.get-from_entries nat_cmp_total (keyed ys) q) ∙ fin.get-entries (map_of ys) q)
    ∙ sym (find_joined q (fin.entries (map_of xs)) (fin.entries (map_of ys)))
    ∙ sym (fin.get-from_entries nat_cmp_total (fin.entries (map_of xs) ++ fin.entries (map_of ys)) q))

pub apart_joined : (xs ys : List Entry) → AreDisjoint (map_of xs) (map_of ys) → AreApart xs → AreApart ys → AreApart (xs ++ ys)
apart_joined xs ys none a b t =
    let both : times t (xs ++ ys) ≡ times t xs + times t ys = sum_by-append (λ (e : Entry). cond (eq_by_cmp nat_cmp t e.ticket) 1 0) xs ys in
    let p = a t in
    let q = b t in
    ⊎_elim (λ (h : fin.get (map_of xs) t ≡ None). let z = absent t xs h in omega arith) (λ (h : fin.get (map_of ys) t ≡ None). let z = absent t ys h in omega arith) (none t)

-- a list that rises
rises_above : (n : ℕ) (es : List Entry) → ((k : ℕ) (d : Entry) → k < length es → n ≤ (get_or es k d).ticket) → times n es ≡ 0 → below_all nat_cmp n (keyed es) ≡ true
rises_above n [] up none = refl
rises_above n (e ∷ es) up none =
    let most : n ≤ e.ticket = up 0 e (omega arith) in
    let other : n ≢ e.ticket = λ same. (let once = counted_at (e ∷ es) e 0 (omega arith) refl in let zeroed = subst (λ k. times k (e ∷ es) ≡ 0) same none in omega arith) in
    let below : nat_cmp n e.ticket ≡ Less = sym (nat_cmp_is n e.ticket Less (omega arith)) in
    rw below (rises_above n es (λ k d h. up (suc k) d (omega arith)) (omega (arith, times-cons n e es)))

rises : (es : List Entry) → IsNonDecreasingBy (λ (e : Entry). e.ticket) es → AreApart es → is_sorted nat_cmp (keyed es) ≡ true
rises [] up apart = refl
rises (e ∷ es) up apart =
    let once = counted_at (e ∷ es) e 0 (omega arith) refl in
    let own : eq_by_cmp nat_cmp e.ticket e.ticket ≡ true = itself e.ticket in
    let most = apart e.ticket in
    let none : times e.ticket es ≡ 0 = rest_is_none e es own most in
    rw (rises_above e.ticket es (λ k d h. up 0 (suc k) d (omega arith) (omega arith)) none)
    (rises es (λ i j d h k. up (suc i) (suc j) d (omega arith) (omega arith)) (λ t. let all = apart t in omega (arith, times-cons t e es)))

values-keyed : (es : List Entry) → map (λ (x : ℕ × Entry). x.1) (keyed es) ≡ es
values-keyed [] = refl
values-keyed (e ∷ es) = ap (λ l. e ∷ l) (values-keyed es)

keys-keyed : (es : List Entry) → map (λ (x : ℕ × Entry). x.0) (keyed es) ≡ tickets_of es
keys-keyed [] = refl
keys-keyed (e ∷ es) = ap (λ l. e.ticket ∷ l) (keys-keyed es)

entries-map_of : (es : List Entry) → is_sorted nat_cmp (keyed es) ≡ true → fin.entries (map_of es) ≡ keyed es
entries-map_of es up =
    let sorted : T (is_sorted nat_cmp (keyed es)) = subst T (sym up) tt in
    ap fin.entries (fin.same_map nat_cmp_total nat_cmp-IsAntisymmetric (map_of es) (fin.from_sorted (keyed es)) (λ q. fin.get-from_entries nat_cmp_total (keyed es) q ∙ sym (fin.get-from_sorted nat_cmp (keyed es) q sorted)))
    ∙ fin.entries-from_sorted nat_cmp (keyed es) sorted

-- the list of a map's entries by rising ticket is the map's values
pub rising_are_values : (xs ys : List Entry) → IsPermutation xs ys → AreApart xs → IsNonDecreasingBy (λ (e : Entry). e.ticket) ys → ys ≡ fin.values (map_of xs)
rising_are_values xs ys p apart up =
    sym
    (ap fin.values (map_kept xs ys p apart)
    ∙ ap (map (λ (x : ℕ × Entry). x.1)) (entries-map_of ys (rises ys up (apart_kept xs ys p apart)))
    ∙ values-keyed ys)

-- and its tickets are the map's keys
pub tickets_are_keys : (xs ys : List Entry) → IsPermutation xs ys → AreApart xs → IsNonDecreasingBy (λ (e : Entry). e.ticket) ys → tickets_of ys ≡ fin.keys (map_of xs)
tickets_are_keys xs ys p apart up =
    sym
    (ap fin.keys (map_kept xs ys p apart)
    ∙ ap (map (λ (x : ℕ × Entry). x.0)) (entries-map_of ys (rises ys up (apart_kept xs ys p apart)))
    ∙ keys-keyed ys)
