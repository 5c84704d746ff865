-- The history of a seat that has seen all of it: its own entries, by rising ticket.
use Rattle.std.proofs.Common.{◌≡◌, ◌≢◌, ℕ, zero, suc, ◌+◌, ◌<◌, ◌≤◌, Bool, true, false, cond, ◌==◌, nat_lt, List, [], ◌∷◌, ◌++◌, map, refl, sym, ap, ◌∙◌, subst, arith}
use Rattle.std.specs.Prelude.{T, Option, Some, None}
use Rattle.std.specs.Cmp.{nat_cmp_is}
use Rattle.std.specs.FinMap as fin
use Rattle.std.specs.FinMap.{nat_cmp-IsAntisymmetric}
use Rattle.std.specs.FinMap.Entries.{find, is_sorted, below_all}
use Rattle.std.specs.Ordering.{nat_cmp, eq_by_cmp, is_eq}
use Rattle.std.specs.declared.cmp.Ordering.TheVariants.{Less, Equal, Greater}
use Rattle.std.proofs.lemmas.Cmp.{nat_cmp_total, eq_by_cmp_equiv}
use Rattle.std.proofs.lemmas.Bool.Decides.{nat_tests}
use mathlib.Core.Logic.{dite}
use native.Mathlib.Decide.{ℕ_discrete}
use Rattle.pf_model.specs.declared.Entry.{Entry}
use Rattle.pf_entries.specs.Maps.{keyed, map_of}
use Rattle.pf_core_model.specs.Lists.{In}
use Rattle.pf_core_model.specs.History.{with_ticket, history_from}
use Rattle.pf_locks.proofs.Keeping.{by_test}
use Rattle.pf_locks.proofs.Seating.{is_absent}

-- the first entry of the list with the ticket
abbrev found : ℕ → List Entry → Option Entry
found q es = find nat_cmp q (keyed es)

same_ticket : (a b : ℕ) → eq_by_cmp nat_cmp a b ≡ true → a ≡ b
same_ticket a b h =
    elim (nat_cmp a b) as (λ r. nat_cmp a b ≡ r → is_eq r ≡ true → a ≡ b) [
      | Less ↦ λ e k. cc
      | Equal ↦ λ e k. nat_cmp-IsAntisymmetric a b e
      | Greater ↦ λ e k. cc
    ] refl h

one : (a b : ℕ) → a ≡ b → eq_by_cmp nat_cmp a b ≡ true
one a b e = ap (λ (k : ℕ). eq_by_cmp nat_cmp a k) (sym e) ∙ (eq_by_cmp_equiv nat_cmp_total).refl a

two : (a b : ℕ) → a ≢ b → eq_by_cmp nat_cmp a b ≡ false
two a b h = by_test (eq_by_cmp nat_cmp a b) (eq_by_cmp nat_cmp a b ≡ false) (λ e. absurd (h (same_ticket a b e))) (λ e. e)

yes : (a b : ℕ) → a ≡ b → (a == b) ≡ true
yes a b e = grind (arith, nat_tests)

no : (a b : ℕ) → a ≢ b → (a == b) ≡ false
no a b e = grind (arith, nat_tests)

-- what is found of a ticket where those with it alone are looked at, and of another
in_own : (t : ℕ) (es : List Entry) → found t (with_ticket t es) ≡ found t es
in_own t [] = refl
in_own t (e ∷ es) = dite (ℕ_discrete e.ticket t)
    (λ same. let hit = one t e.ticket (sym same) in
    ap (λ (b : Bool). found t (cond b (e ∷ []) (with_ticket t es))) (yes e.ticket t same)
    ∙ ap (λ (b : Bool). cond {A = Option Entry} b (Some e) None) hit
    ∙ sym (ap (λ (b : Bool). cond {A = Option Entry} b (Some e) (found t es)) hit))
    (λ ne. ap (λ (b : Bool). found t (cond b (e ∷ []) (with_ticket t es))) (no e.ticket t ne)
    ∙ in_own t es
    ∙ sym (ap (λ (b : Bool). cond {A = Option Entry} b (Some e) (found t es)) (two t e.ticket (λ x. ne (sym x)))))

out_own : (q t : ℕ) (es : List Entry) → q ≢ t → found q (with_ticket t es) ≡ None
out_own q t [] h = refl
out_own q t (e ∷ es) h = dite (ℕ_discrete e.ticket t)
    (λ same. ap (λ (b : Bool). found q (cond b (e ∷ []) (with_ticket t es))) (yes e.ticket t same)
    ∙ ap (λ (b : Bool). cond {A = Option Entry} b (Some e) None) (two q e.ticket (λ x. h (x ∙ same))))
    (λ ne. ap (λ (b : Bool). found q (cond b (e ∷ []) (with_ticket t es))) (no e.ticket t ne) ∙ out_own q t es h)

either : Option Entry → Option Entry → Option Entry
either None b = b
either (Some e) b = Some e

either_none : (a : Option Entry) → either a None ≡ a
unfolding either
either_none None = refl
either_none (Some e) = refl

found_joined : (q : ℕ) (xs ys : List Entry) → found q (xs ++ ys) ≡ either (found q xs) (found q ys)
unfolding either
found_joined q [] ys = refl
found_joined q (x ∷ xs) ys =
    elim (eq_by_cmp nat_cmp q x.ticket) as (λ b. cond b (Some x) (found q (xs ++ ys)) ≡ either (cond b (Some x) (found q xs)) (found q ys)) [
      | true ↦ refl
      | false ↦ found_joined q xs ys
    ]

-- the other part alone tells
later : (q : ℕ) (xs ys : List Entry) → found q xs ≡ None → found q (xs ++ ys) ≡ found q ys
unfolding either
later q xs ys h = found_joined q xs ys ∙ ap (λ (a : Option Entry). either a (found q ys)) h

sooner : (q : ℕ) (xs ys : List Entry) → found q ys ≡ None → found q (xs ++ ys) ≡ found q xs
sooner q xs ys h = found_joined q xs ys ∙ ap (λ (b : Option Entry). either (found q xs) b) h ∙ either_none (found q xs)

outside : (q t n : ℕ) (es : List Entry) → ((k : ℕ) → k < n → q ≢ t + k) → found q (history_from t n es) ≡ None
outside q t zero es h = refl
outside q t (suc n) es h =
    later q (with_ticket t es) (history_from (suc t) n es) (out_own q t es (λ e. h 0 (omega arith) (omega arith)))
    ∙ outside q (suc t) n es (λ k l e. h (suc k) (omega arith) (omega arith))

within : (q t n : ℕ) (es : List Entry) → t ≤ q → q < t + n → found q (history_from t n es) ≡ found q es
within q t zero es a b = absurd (omega arith)
within q t (suc n) es a b = dite (ℕ_discrete q t)
    (λ same. sooner q (with_ticket t es) (history_from (suc t) n es) (outside q (suc t) n es (λ k l e. absurd (omega arith)))
    ∙ subst (λ (k : ℕ). found q (with_ticket k es) ≡ found q es) same (in_own q es))
    (λ ne. later q (with_ticket t es) (history_from (suc t) n es) (out_own q t es ne) ∙ within q (suc t) n es (omega arith) (omega arith))

-- the history rises
above_first : (n t : ℕ) (rest ds : List Entry) → n < t → below_all nat_cmp n (keyed rest) ≡ true → below_all nat_cmp n (keyed (with_ticket t ds ++ rest)) ≡ true
above_first n t rest [] h up = up
above_first n t rest (d ∷ ds) h up = dite (ℕ_discrete d.ticket t)
    (λ same. let less : nat_cmp n d.ticket ≡ Less = sym (nat_cmp_is n d.ticket Less (omega arith)) in
    ap (λ (b : Bool). below_all nat_cmp n (keyed (cond b (d ∷ []) (with_ticket t ds) ++ rest))) (yes d.ticket t same) ∙ rw less up)
    (λ ne. ap (λ (b : Bool). below_all nat_cmp n (keyed (cond b (d ∷ []) (with_ticket t ds) ++ rest))) (no d.ticket t ne) ∙ above_first n t rest ds h up)

above : (n t k : ℕ) (es : List Entry) → n < t → below_all nat_cmp n (keyed (history_from t k es)) ≡ true
above n t zero es h = refl
above n t (suc k) es h = above_first n t (history_from (suc t) k es) es h (above n (suc t) k es (omega arith))

rises_first : (t : ℕ) (rest ds : List Entry) → ((n : ℕ) → n < suc t → below_all nat_cmp n (keyed rest) ≡ true) → is_sorted nat_cmp (keyed rest) ≡ true → is_sorted nat_cmp (keyed (with_ticket t ds ++ rest)) ≡ true
rises_first t rest [] low up = up
rises_first t rest (d ∷ ds) low up = dite (ℕ_discrete d.ticket t)
    (λ same. let less : below_all nat_cmp d.ticket (keyed rest) ≡ true = low d.ticket (omega arith) in
    ap (λ (b : Bool). is_sorted nat_cmp (keyed (cond b (d ∷ []) (with_ticket t ds) ++ rest))) (yes d.ticket t same) ∙ rw less up)
    (λ ne. ap (λ (b : Bool). is_sorted nat_cmp (keyed (cond b (d ∷ []) (with_ticket t ds) ++ rest))) (no d.ticket t ne) ∙ rises_first t rest ds low up)

rises : (t k : ℕ) (es : List Entry) → is_sorted nat_cmp (keyed (history_from t k es)) ≡ true
rises t zero es = refl
rises t (suc k) es = rises_first t (history_from (suc t) k es) es (λ n h. above n (suc t) k es h) (rises (suc t) k es)

values-keyed : (es : List Entry) → map (λ (x : ℕ × Entry). x.1) (keyed es) ≡ es
values-keyed [] = refl
values-keyed (e ∷ es) = ap (λ l. e ∷ l) (values-keyed es)

-- the values of the map of entries whose tickets are below n are those entries by rising ticket
pub values_are_history : (n : ℕ) (es : List Entry) → ((e : Entry) → In e es → e.ticket < n) → fin.values (map_of es) ≡ history_from 0 n es
values_are_history n es all =
    let log : List Entry = history_from 0 n es in
    let up = rises 0 n es in
    let sorted : T (is_sorted nat_cmp (keyed log)) = subst T (sym up) tt in
    let same : (q : ℕ) → found q es ≡ found q log
    = λ q. by_test (nat_lt q n) (found q es ≡ found q log)
    (λ l. sym (within q 0 n es (omega arith) (grind (arith, nat_tests))))
    (λ g. let far : n ≤ q = grind (arith, nat_tests) in
    sym (fin.get-from_entries nat_cmp_total (keyed es) q) ∙ is_absent q es (λ e h k. let z = all e h in absurd (omega arith)) ∙ sym (outside q 0 n es (λ k l e. absurd (omega arith)))) in
    ap fin.values (fin.same_map nat_cmp_total nat_cmp-IsAntisymmetric (map_of es) (fin.from_sorted (keyed log)) (λ q. fin.get-from_entries nat_cmp_total (keyed es) q ∙ same q ∙ sym (fin.get-from_sorted nat_cmp (keyed log) q sorted)))
    ∙ ap (map (λ (x : ℕ × Entry). x.1)) (fin.entries-from_sorted nat_cmp (keyed log) sorted)
    ∙ values-keyed log
