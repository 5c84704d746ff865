-- A seat that is split, joined or made.
use Rattle.std.proofs.Common.{◌≡◌, ◌≢◌, ◌⊎◌, ℕ, zero, suc, ◌+◌, ◌-◌, ◌<◌, ◌≤◌, max, Bool, true, false, cond, ◌==◌, ◌||◌, nat_lt, List, [], ◌∷◌, ◌++◌, length, set, map, replicate, refl, sym, ap, ◌∙◌, subst, inl, inr, ⊎_elim, arith}
use Rattle.std.specs.Prelude.{slice_index, None}
use Rattle.std.specs.FinMap as fin
use Rattle.std.proofs.lemmas.Bool.{eqb-true, eqb-false}
use Rattle.std.proofs.lemmas.Bool.Decides.{nat_tests}
use Rattle.std.proofs.lemmas.List.{get_or-set_same}
use Rattle.std.proofs.Math.Decide.{dec_lt}
use mathlib.Core.Logic.{dite}
use native.Mathlib.Decide.{ℕ_discrete}
use Rattle.pf_model.specs.declared.Entry.{Entry}
use Rattle.pf_entries.specs.Maps.{EntryMap, map_of, joined, AreDisjoint}
use Rattle.pf_entries.proofs.Tickets.{map_joined}
use Rattle.pf_core_model.specs.declared.view.View.{View}
use Rattle.pf_core_model.specs.Lists.{In, times, counting, without_number}
use Rattle.pf_core_model.specs.Moves.{spares_in, but_spare, left_of, right_of, both_of}
use Rattle.pf_core_model.specs.Core.{Opening}
use Rattle.pf_core_model.specs.Seats.{Knows}
use Rattle.pf_core_model.specs.State.{first_view}
use Rattle.pf_core_model.proofs.Lists.{in_none, in_either, in_left, in_right, in_map, times_in, in_times, times_without, times_gone, in_without_number, in_but_spare, first_stays, some_stay, first_of_both}
use Rattle.pf_core_model.proofs.Views.{first_in}
use Rattle.pf_core_model.proofs.Seats.{split_knows}
use Rattle.pf_locks.specs.declared.kept.Kept.{Kept}
use Rattle.pf_locks.specs.Lists.{names_in, slots_of}
use Rattle.pf_locks.specs.Seats.{flag_at, IsShaped, IsCounted, IsLeastSpare}
use Rattle.pf_locks.proofs.Keeping.{by_test}
use Rattle.pf_locks.proofs.Seating.{is_absent}
use Rattle.pf_locks.proofs.Flags.{set_flag, none_set, no_flag}

pub empty_shape : (ks : List Kept) (cap : ℕ) → ks ≡ [] → 66 ≤ cap → IsShaped [] [] ks cap
empty_shape ks cap e room =
    record {
      slots = ap slots_of (sym e);
      names = λ n. ap (λ (l : List Kept). times n (names_in l)) e;
      once = λ n. omega arith;
      long = ap (λ (l : List Kept). length l) e;
      room = room;
    }

-- numbers
spare_of : (b : ℕ) (l : List ℕ) → In b l → b ≢ slice_index l 0 → In b (spares_in l)
spare_of b [] h ne = absurd h
spare_of b (x ∷ xs) (inl e) ne = absurd (ne e)
spare_of b (x ∷ xs) (inr h) ne = h

stays_without : (k b : ℕ) (l : List ℕ) → k ≢ b → In k l → In k (without_number b l)
stays_without k b l ne h = let a = times_in k l h in let e = times_without k b l ne in in_times k (without_number b l) (omega arith)

stays_but : (k b : ℕ) (l : List ℕ) → k ≢ b → In k l → In k (but_spare b l)
stays_but k b [] ne h = absurd h
stays_but k b (x ∷ xs) ne (inl e) = inl e
stays_but k b (x ∷ xs) ne (inr h) = inr (stays_without k b xs ne h)

not_but : (b : ℕ) (l : List ℕ) → b ≢ slice_index l 0 → In b (but_spare b l) → ⊥
not_but b [] ne h = h
not_but b (x ∷ xs) ne (inl e) = ne e
not_but b (x ∷ xs) ne (inr h) = let a = times_in b (without_number b xs) h in let e = times_gone b xs in absurd (omega arith)

spares_but : (k b : ℕ) (l : List ℕ) → In k (spares_in (but_spare b l)) → In k (spares_in l)
spares_but k b [] h = h
spares_but k b (x ∷ xs) h = in_without_number k b xs h

not_first : (k : ℕ) (l : List ℕ) → times k l ≤ 1 → In k (spares_in l) → k ≢ slice_index l 0
not_first k [] h i = absurd i
not_first k (x ∷ xs) h i = λ e.
    let a = times_in k xs i in
    let is : x == k ≡ true = grind (arith, nat_tests) in
    let u : cond (x == k) 1 0 + times k xs ≡ 1 + times k xs = ap (λ (b : Bool). cond b 1 0 + times k xs) is in
    absurd (let w : cond (x == k) 1 0 + times k xs ≤ 1 = h in omega arith)

module _ (v : View) (own many : ℕ) (flags : List Bool) (left t : ℕ) (es : EntryMap) (c : IsCounted v own many flags left t es) (b : ℕ) (spare : IsLeastSpare flags own b) where
  pub is_spare : In b (spares_in v.numbers)
  is_spare = spare_of b v.numbers (c.set b spare.is) (λ e. spare.other (e ∙ sym c.number))

  pub near_flag : b < length flags
  near_flag = dite (dec_lt b (length flags)) (λ h. h) (λ h. absurd (let z : true ≡ false = sym spare.is ∙ no_flag flags b (omega arith) in cc (z)))

  pub left_counts : (share : ℕ) (flags' : List Bool) → share ≤ v.allowance → flags' ≡ set flags b false → IsCounted (left_of b share v) own many flags' (left - share) t es
  left_counts share flags' rich put =
      record {
        acts = some_stay b v.numbers is_spare;
        number = c.number ∙ sym (first_stays b v.numbers);
        workers = c.workers;
        below = λ k h. c.below k (in_but_spare k b v.numbers h);
        set = λ k f.
            let g : cond (k == b) false (flag_at flags k) ≡ true = sym (set_flag flags b k false near_flag) ∙ ap (λ (l : List Bool). flag_at l k) (sym put) ∙ f in
            by_test (k == b) (In k (but_spare b v.numbers))
            (λ e. absurd (let z : false ≡ true = sym (ap (λ (x : Bool). cond x false (flag_at flags k)) e) ∙ g in cc (z)))
            (λ e. stays_but k b v.numbers (eqb-false k b e) (c.set k (sym (ap (λ (x : Bool). cond x false (flag_at flags k)) e) ∙ g)));
        unset = λ k h.
            ap (λ (l : List Bool). flag_at l k) put ∙ set_flag flags b k false near_flag
            ∙ by_test (k == b) (cond (k == b) false (flag_at flags k) ≡ true)
            (λ e. absurd (not_but b v.numbers (λ x. spare.other (x ∙ sym c.number)) (subst (λ (y : ℕ). In y (but_spare b v.numbers)) (eqb-true k b e) h)))
            (λ e. ap (λ (x : Bool). cond x false (flag_at flags k)) e ∙ c.unset k (in_but_spare k b v.numbers h));
        spares = λ k h. c.spares k (spares_but k b v.numbers h);
        allowance = ap (λ (k : ℕ). k - share) c.allowance;
        seen = c.seen;
        entries = c.entries;
        tickets = c.tickets;
        room = let z = c.room in omega arith;
      }

  pub right_counts : (share : ℕ) (flags' : List Bool) (es' : EntryMap) → b < 64 → flags' ≡ set (replicate 64 false) b true → es'.entries ≡ fin.empty → share ≤ es'.spare → IsCounted (right_of b share v) b many flags' share t es'
  right_counts share flags' es' low put none room =
      record {
        acts = λ e. absurd (cc (e));
        number = refl;
        workers = c.workers;
        below = λ k h. ⊎_elim (λ (e : k ≡ b). subst (λ (y : ℕ). y < many) (sym e) (c.below b (c.set b spare.is))) (λ (z : ⊥). absurd z) h;
        set = λ k f.
            let g : cond (k == b) true (flag_at (replicate 64 false) k) ≡ true = sym (set_flag (replicate 64 false) b k true low) ∙ ap (λ (l : List Bool). flag_at l k) (sym put) ∙ f in
            by_test (k == b) (In k (b ∷ []))
            (λ e. inl (eqb-true k b e))
            (λ e. absurd (let z : false ≡ true = sym (none_set 64 k) ∙ sym (ap (λ (x : Bool). cond x true (flag_at (replicate 64 false) k)) e) ∙ g in cc (z)));
        unset = λ k h. ⊎_elim (λ (e : k ≡ b). ap (λ (y : ℕ). flag_at flags' y) e ∙ ap (λ (l : List Bool). flag_at l b) put ∙ get_or-set_same (replicate 64 false) b true false low) (λ (z : ⊥). absurd z) h;
        spares = λ k h. absurd h;
        allowance = refl;
        seen = c.seen;
        entries = none;
        tickets = λ e h. absurd h;
        room = room;
      }

  pub left_knows : (o : Opening) (share : ℕ) → v.held ≡ [] → Knows o v → Knows o (left_of b share v)
  left_knows o share empty k = (
    (split_knows o b share v empty k.0).0,
    (λ alone. absurd (not_but b v.numbers (λ x. spare.other (x ∙ sym c.number)) (alone b (let z = c.below b (c.set b spare.is) in let w = c.workers.0 in omega arith)))),
  )

  pub right_knows : (o : Opening) (share : ℕ) → v.held ≡ [] → Knows o v → Knows o (right_of b share v)
  right_knows o share empty k = (
    (split_knows o b share v empty k.0).1,
    (λ alone.
        let mine : In own v.numbers = subst (λ (y : ℕ). In y v.numbers) (sym c.number) (first_in v.numbers c.acts) in
        let z = c.below own mine in
        let w = c.workers.0 in
        ⊎_elim (λ (e : own ≡ b). absurd (spare.other (sym e))) (λ (y : ⊥). absurd y) (alone own (omega arith))),
  )

-- tickets of two seats
times_both : (t : ℕ) (xs ys : List Entry) → times t (map (λ (e : Entry). e.ticket) (xs ++ ys)) ≡ times t (map (λ (e : Entry). e.ticket) xs) + times t (map (λ (e : Entry). e.ticket) ys)
times_both t [] ys = let w : times t (map (λ (e : Entry). e.ticket) ys) ≡ 0 + times t (map (λ (e : Entry). e.ticket) ys) = omega arith in w
times_both t (x ∷ xs) ys =
    let r = times_both t xs ys in
    let w : cond (x.ticket == t) 1 0 + times t (map (λ (e : Entry). e.ticket) (xs ++ ys)) ≡ cond (x.ticket == t) 1 0 + times t (map (λ (e : Entry). e.ticket) xs) + times t (map (λ (e : Entry). e.ticket) ys) = omega arith in
    w

none_has : (t : ℕ) (es : List Entry) → times t (map (λ (e : Entry). e.ticket) es) ≡ 0 → fin.get (map_of es) t ≡ None
none_has t es none = is_absent t es (λ e h k. let a = times_in t (map (λ (d : Entry). d.ticket) es) (subst (λ (y : ℕ). In y (map (λ (d : Entry). d.ticket) es)) k (in_map (λ (d : Entry). d.ticket) e es h)) in absurd (omega arith))

pub are_disjoint : (xs ys : List Entry) → ((t : ℕ) → times t (map (λ (e : Entry). e.ticket) (xs ++ ys)) ≤ 1) → AreDisjoint (map_of xs) (map_of ys)
are_disjoint xs ys once t =
    let a = once t in
    let b = times_both t xs ys in
    dite (ℕ_discrete (times t (map (λ (e : Entry). e.ticket) xs)) 0)
    (λ e. inl (none_has t xs e))
    (λ ne. inr (none_has t ys (omega arith)))

or_left : (a b : Bool) → a ≡ true → (a || b) ≡ true
or_left true b e = refl
or_left false b e = absurd (cc (e))

or_right : (a b : Bool) → b ≡ true → (a || b) ≡ true
or_right true b e = refl
or_right false b e = e

or_cases : (a b : Bool) → (a || b) ≡ true → (a ≡ true) ⊎ (b ≡ true)
or_cases true b e = inl refl
or_cases false b e = inr e

module _ (v u : View) (own many own2 many2 : ℕ) (flags flags2 : List Bool) (left t left2 t2 : ℕ) (es es2 : EntryMap)
    (c : IsCounted v own many flags left t es) (d : IsCounted u own2 many2 flags2 left2 t2 es2) where
  pub joined_counts : (flags' : List Bool) (t' : ℕ) (es' : EntryMap) → u.workers ≡ v.workers → ((k : ℕ) → flag_at flags' k ≡ (flag_at flags k || flag_at flags2 k)) → ((k : ℕ) → times k (v.numbers ++ u.numbers) ≤ 1)
      → t ≤ t' → t2 ≤ t' → t' ≡ max v.seen u.seen → es'.entries ≡ joined es.entries es2.entries → es'.spare ≡ es.spare + es2.spare
      → IsCounted (both_of v u) own many flags' (left + left2) t' es'
  joined_counts flags' t' es' same both once low low2 seen entries spare =
      let some_number : v.numbers ++ u.numbers ≢ [] = in_none (slice_index v.numbers 0) (v.numbers ++ u.numbers) (in_left (slice_index v.numbers 0) v.numbers u.numbers (first_in v.numbers c.acts)) in
      let first : own ≡ slice_index (v.numbers ++ u.numbers) 0 = c.number ∙ sym (first_of_both v.numbers u.numbers c.acts) in
      record {
        acts = some_number;
        number = first;
        workers = c.workers;
        below = λ k h. ⊎_elim (λ (x : In k v.numbers). c.below k x) (λ (x : In k u.numbers). let z = d.below k x in let w = d.workers.0 in let y = c.workers.0 in omega arith) (in_either k v.numbers u.numbers h);
        set = λ k f. ⊎_elim (λ (x : flag_at flags k ≡ true). in_left k v.numbers u.numbers (c.set k x)) (λ (x : flag_at flags2 k ≡ true). in_right k v.numbers u.numbers (d.set k x)) (or_cases (flag_at flags k) (flag_at flags2 k) (sym (both k) ∙ f));
        unset = λ k h. both k ∙ ⊎_elim (λ (x : In k v.numbers). or_left (flag_at flags k) (flag_at flags2 k) (c.unset k x)) (λ (x : In k u.numbers). or_right (flag_at flags k) (flag_at flags2 k) (d.unset k x)) (in_either k v.numbers u.numbers h);
        spares = λ k h e. not_first k (v.numbers ++ u.numbers) (once k) h (e ∙ first);
        allowance = (λ i. c.allowance i + d.allowance i);
        seen = seen;
        entries = entries ∙ (λ i. joined (c.entries i) (d.entries i)) ∙ sym (map_joined v.entries u.entries);
        tickets = λ e h. ⊎_elim (λ (x : In e v.entries). let z = c.tickets e x in omega arith) (λ (x : In e u.entries). let z = d.tickets e x in omega arith) (in_either e v.entries u.entries h);
        room = let a = c.room in let b = d.room in omega arith;
      }

-- the first seat
in_counting : (k n x : ℕ) → In x (counting k n) → (k ≤ x) × (x < k + n)
in_counting k zero x h = absurd h
in_counting k (suc n) x (inl e) = (omega arith, omega arith)
in_counting k (suc n) x (inr h) = let r = in_counting (suc k) n x h in (omega (arith, r.0), omega (arith, r.1))

counting_in : (k n x : ℕ) → k ≤ x → x < k + n → In x (counting k n)
counting_in k zero x a b = absurd (omega arith)
counting_in k (suc n) x a b = dite (ℕ_discrete x k) (λ e. inl e) (λ ne. inr (counting_in (suc k) n x (omega arith) (omega arith)))

first_counting : (n : ℕ) → 1 ≤ n → 0 ≡ slice_index (counting 0 n) 0
first_counting zero h = absurd (omega arith)
first_counting (suc n) h = refl

spares_counting : (n k : ℕ) → In k (spares_in (counting 0 n)) → k ≢ 0
spares_counting zero k h = absurd h
spares_counting (suc n) k h = let r = in_counting 1 n k h in λ e. absurd (omega (arith, r.0, e))

pub first_counts : (o : Opening) (flags : List Bool) (es : EntryMap) → 1 ≤ o.workers → o.workers ≤ 64 → ((k : ℕ) → flag_at flags k ≡ nat_lt k o.workers) → es.entries ≡ fin.empty → o.budget ≤ es.spare
    → IsCounted (first_view o) 0 o.workers flags o.budget 0 es
first_counts o flags es some_worker few all none room =
    record {
      acts = in_none 0 (counting 0 o.workers) (counting_in 0 o.workers 0 (omega arith) (omega arith));
      number = first_counting o.workers some_worker;
      workers = (refl, few);
      below = λ k h. let r = in_counting 0 o.workers k h in omega (arith, r.1);
      set = λ k f. let low : nat_lt k o.workers ≡ true = sym (all k) ∙ f in let w : k < o.workers = grind (arith, nat_tests) in counting_in 0 o.workers k (omega arith) (omega arith);
      unset = λ k h. let r = in_counting 0 o.workers k h in let w : k < o.workers = omega (arith, r.1) in let low : nat_lt k o.workers ≡ true = grind (arith, nat_tests) in all k ∙ low;
      spares = λ k h. spares_counting o.workers k h;
      allowance = refl;
      seen = refl;
      entries = none;
      tickets = λ e h. absurd h;
      room = room;
    }
