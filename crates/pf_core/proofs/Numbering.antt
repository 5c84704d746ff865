-- A spare number that becomes an actor, and an actor that is joined to another.
use Rattle.std.proofs.Common.{◌≡◌, ◌≢◌, ℕ, zero, suc, ◌+◌, ◌-◌, ◌<◌, ◌≤◌, Bool, true, false, cond, not, ◌==◌, ◌&&◌, ◌||◌, nat_lt, List, [], ◌∷◌, ◌++◌, length, map, set, refl, sym, ap, ◌∙◌, subst, inl, inr, ⊎_elim, arith, length-append}
use Rattle.std.specs.Prelude.{Option, Some, None, is_some, slice_index}
use Rattle.std.specs.List.{list_any}
use Rattle.std.proofs.lemmas.Bool.Decides.{nat_tests}
use Rattle.std.proofs.lemmas.List.{get_or-set_other, get_or-set_same, length-set, length-map}
use mathlib.Core.Option.{some, some-injective}
use mathlib.Core.Logic.{dite}
use native.Mathlib.Decide.{ℕ_discrete}
use lib.ListN.{get_elem?}
use Rattle.pf_model.specs.Stars.{Star}
use Rattle.pf_star_model.specs.Lent.{Held as Pair}
use Rattle.pf_core_model.specs.declared.event.Event.TheVariants.{Split, Join}
use Rattle.pf_core_model.specs.declared.event.Owed.{Owed}
use Rattle.pf_core_model.specs.declared.event.Verdict.{Verdict}
use Rattle.pf_core_model.specs.declared.event.Verdict.TheVariants.{Taken, Ignored}
use Rattle.pf_core_model.specs.declared.view.View.{View}
use Rattle.pf_core_model.specs.Lists.{In, times, total, Each}
use Rattle.pf_core_model.specs.Moves.{spares_in, but_spare, left_of, right_of, both_of, spent_view}
use Rattle.pf_core_model.specs.Core.{Opening, names_of, number_of, Sound}
use Rattle.pf_core_model.specs.State.{Actor, CoreState, Found, found_from, views_of, homes_of, log_of, is_nil, is_number_in, is_clear, has_nothing, guarded, split_state, join_state, join_step, IsCore}
use Rattle.pf_core_model.specs.Shown.{IsExtended}
use Rattle.pf_core_model.proofs.Lists.{at_set, at_snoc, each_set, total_some, total_at, total_two, times_in, times_here, in_times, in_either, in_spares, in_but_spare, spare_counts, first_stays, some_stay, first_of_both}
use Rattle.pf_core_model.proofs.Replays.{and_left, and_right, or_cases}
use Rattle.pf_core_model.proofs.Views.{first_in}
use Rattle.pf_core_model.proofs.StateLaws.{fits_in, view_at}
use Rattle.pf_core.specs.declared.state.State.{State}
use Rattle.pf_core.specs.declared.tables.Node.{Node}
use Rattle.pf_core.specs.declared.tables.Seat.{Seat}
use Rattle.pf_core.specs.Tables.{no_seat, node_at, seat_at, code_in, list_in, is_lead, is_clear_seat, with_allowance, first_seat, led_by}
use Rattle.pf_core.specs.Gates.{is_spare, can_split, has_none, can_join}
use Rattle.pf_core.specs.Shown.{ShowsSeat, ShowsActor, ShowsState, IsShownState, IsAct}
use Rattle.pf_core.proofs.Kept.{IsActor, actor_of_lead, sound, names, at, acts, own, has_number, near, seat, lead_is, mine, fits, clear_is, nothing_is, none_found, some_found, view_back, acted_core, acted_grows, lead_near, eq_is, eq_true, eq_false, lt_is, lt_true, both_ways}
use Rattle.pf_core.proofs.Moves.{IsOf, refused, taken, core_taken, grows_taken, log_stays, other_number, other_numbers}

nil_length : {A : Type 0} (xs : List A) → is_nil xs ≡ (length xs == 0)
nil_length [] = sym (eq_true 0 0 refl)
nil_length (x ∷ xs) = sym (eq_false (suc (length xs)) 0 (λ e. omega arith))

number_in : (k : ℕ) (ks : List ℕ) → is_number_in k ks ≡ true → In k ks
number_in k [] h = absurd (let z : false ≡ true = h in cc)
number_in k (x ∷ xs) h = ⊎_elim (λ (e : (x == k) ≡ true). inl (sym (eq_is x k e))) (λ (e : is_number_in k xs ≡ true). inr (number_in k xs e)) (or_cases (x == k) (is_number_in k xs) h)

in_number : (k : ℕ) (ks : List ℕ) → In k ks → is_number_in k ks ≡ true
in_number k [] h = absurd h
in_number k (x ∷ xs) (inl e) = ap (λ (b : Bool). b || is_number_in k xs) (eq_true x k (sym e))
in_number k (x ∷ xs) (inr h) = right (x == k) (is_number_in k xs) (in_number k xs h)
  where
    right : (a b : Bool) → b ≡ true → (a || b) ≡ true
    right true b e = refl
    right false b e = e

not_first : (a b : ℕ) (l : List ℕ) → slice_index l 0 ≡ a → times b l ≤ 1 → In b (spares_in l) → b ≢ a
not_first a b [] e one h same = absurd h
not_first a b (k ∷ ks) e one h same =
    let z : times b (k ∷ ks) ≡ times b ks + 1 = ap (λ (j : ℕ). times b (j ∷ ks)) (e ∙ sym same) ∙ times_here b ks in
    let y = times_in b ks h in
    absurd (omega arith)

spare_rest : (a b : ℕ) (l : List ℕ) → slice_index l 0 ≡ a → b ≢ a → In b l → In b (spares_in l)
spare_rest a b [] e ne h = absurd h
spare_rest a b (k ∷ ks) e ne (inl is) = absurd (ne (is ∙ e))
spare_rest a b (k ∷ ks) e ne (inr h) = h

and_assoc : (a b c : Bool) → (a && (b && c)) ≡ ((a && b) && c)
and_assoc true b c = refl
and_assoc false b c = refl

all_three : (a b c : Bool) → a ≡ true → b ≡ true → c ≡ true → ((a && b) && c) ≡ true
all_three a b c p q r = λ i. (p i && q i) && r i

not_true : (b : Bool) → not b ≡ true → b ≡ false
not_true true h = absurd (let z : false ≡ true = h in cc)
not_true false h = refl

not_false : (b : Bool) → b ≡ false → not b ≡ true
not_false b e = ap not e

nil_is : {A : Type 0} (l : List A) → is_nil l ≡ true → l ≡ []
nil_is [] h = refl
nil_is (x ∷ xs) h = absurd (let z : false ≡ true = h in cc)

module _ (o : Opening) (c : CoreState) (s : State) (sh : ShowsState o c s) (a : ℕ) (f : Found) (found : found_from a 0 c.actors ≡ Some f) where
  once : (k : ℕ) → In k f.actor.view.numbers → times k f.actor.view.numbers ≤ 1
  once k h =
      let sum = (sound o c s sh).numbers k ((fits o c s sh a f found).below k h) in
      let r = total_at (λ (v : View). times k v.numbers) (views_of c.actors) f.place f.actor.view (view_at o c sh.core f.place f.actor (at o c s sh a f found)) in
      omega arith

  -- a number that the actor leads is one of its own
  led_number : (b : ℕ) → b < length s.seats.items → (seat_at s.seats.items b).lead ≡ a → In b f.actor.view.numbers
  led_number b low led =
      let sum = (sound o c s sh).numbers b (let z = sh.workers in omega arith) in
      let r = total_some (λ (v : View). times b v.numbers) (views_of c.actors) (omega arith) in
      let x = view_back c.actors r.0 r.1 r.2 in
      let inside : In b x.0.view.numbers = subst (λ (v : View). In b v.numbers) x.2 (in_times b r.1.numbers r.3) in
      let some_number : x.0.view.numbers ≢ [] = λ e. subst (λ (l : List ℕ). In b l) e inside in
      let num : number_of x.0.view ≡ a = sym ((sh.actors r.0 x.0 x.1 some_number).leads b inside) ∙ led in
      dite (ℕ_discrete r.0 f.place)
      (λ e. subst (λ (y : Actor). In b y.view.numbers) (some-injective x.0 f.actor (sym x.1 ∙ ap (λ (j : ℕ). get_elem? c.actors j) e ∙ at o c s sh a f found)) inside)
      (λ ne. absurd (other_number o c s sh a f found r.0 x.0 a ne x.1 (subst (λ (k : ℕ). In k x.0.view.numbers) num (first_in x.0.view.numbers some_number)) refl))

  spare_in : (b : ℕ) → is_spare s.seats.items a b ≡ true → In b (spares_in f.actor.view.numbers)
  spare_in b h =
      let led = and_left (nat_lt b (length s.seats.items) && ((seat_at s.seats.items b).lead == a)) (not (b == a)) h in
      let low : b < length s.seats.items = lt_is b (length s.seats.items) (and_left (nat_lt b (length s.seats.items)) ((seat_at s.seats.items b).lead == a) led) in
      let lead : (seat_at s.seats.items b).lead ≡ a = eq_is (seat_at s.seats.items b).lead a (and_right (nat_lt b (length s.seats.items)) ((seat_at s.seats.items b).lead == a) led) in
      let far : (b == a) ≡ false = not_true (b == a) (and_right (nat_lt b (length s.seats.items) && ((seat_at s.seats.items b).lead == a)) (not (b == a)) h) in
      let ne : b ≢ a = λ e. let z : true ≡ false = sym (eq_true b a e) ∙ far in cc (z) in
      spare_rest a b f.actor.view.numbers (own o c s sh a f found) ne (led_number b low lead)

  in_spare : (b : ℕ) → In b (spares_in f.actor.view.numbers) → is_spare s.seats.items a b ≡ true
  in_spare b h =
      let inside : In b f.actor.view.numbers = in_spares b f.actor.view.numbers h in
      let low : b < length s.seats.items = let z = (fits o c s sh a f found).below b inside in let y = sh.workers in omega arith in
      all_three (nat_lt b (length s.seats.items)) ((seat_at s.seats.items b).lead == a) (not (b == a))
      (lt_true b (length s.seats.items) low)
      (eq_true (seat_at s.seats.items b).lead a ((mine o c s sh a f found).leads b inside ∙ own o c s sh a f found))
      (not_false (b == a) (eq_false b a (not_first a b f.actor.view.numbers (own o c s sh a f found) (once b inside) h)))

  idle_is : is_nil f.actor.view.held ≡ ((seat_at s.seats.items a).held == 0)
  idle_is = nil_length f.actor.view.held ∙ ap (λ (k : ℕ). k == 0) (sym (seat o c s sh a f found).held)

  split_is : (b share : ℕ) → (is_clear f.actor && (is_nil f.actor.view.held && (is_number_in b (spares_in f.actor.view.numbers) && not (nat_lt f.actor.view.allowance share)))) ≡ can_split s.seats.items a b share
  split_is b share =
      let spare : is_number_in b (spares_in f.actor.view.numbers) ≡ is_spare s.seats.items a b
      = both_ways (is_number_in b (spares_in f.actor.view.numbers)) (is_spare s.seats.items a b) (λ e. in_spare b (number_in b (spares_in f.actor.view.numbers) e)) (λ e. in_number b (spares_in f.actor.view.numbers) (spare_in b e)) in
      (λ i. clear_is o c s sh a f found i && (idle_is i && (spare i && not (nat_lt (sym (seat o c s sh a f found).allowance i) share))))
      ∙ and_assoc (is_clear_seat (seat_at s.seats.items a)) ((seat_at s.seats.items a).held == 0) (is_spare s.seats.items a b && not (nat_lt (seat_at s.seats.items a).allowance share))

pub split_near : (seats : List Seat) (a b share : ℕ) → can_split seats a b share ≡ true → b < length seats
split_near seats a b share h =
    let spare = and_left (is_spare seats a b) (not (nat_lt (seat_at seats a).allowance share)) (and_right (is_clear_seat (seat_at seats a) && ((seat_at seats a).held == 0)) (is_spare seats a b && not (nat_lt (seat_at seats a).allowance share)) h) in
    lt_is b (length seats) (and_left (nat_lt b (length seats)) ((seat_at seats b).lead == a) (and_left (nat_lt b (length seats) && ((seat_at seats b).lead == a)) (not (b == a)) spare))

pub split_ignored : (s : State) (a b share : ℕ) → can_split s.seats.items a b share ≡ false → IsAct (Split a b share) s Ignored s
split_ignored s a b share no_gate o c f sh found =
    refused o c s sh (is_clear f.actor && (is_nil f.actor.view.held && (is_number_in b (spares_in f.actor.view.numbers) && not (nat_lt f.actor.view.allowance share)))) (split_state c f b share) None
    (split_is o c s sh a f found b share ∙ no_gate)

pub split_taken : (s t : State) (a b share : ℕ) → can_split s.seats.items a b share ≡ true → IsOf s t → t.log.items ≡ s.log.items → t.nodes.items ≡ s.nodes.items
    → t.seats.items ≡ set (set s.seats.items a (with_allowance ((seat_at s.seats.items a).allowance - share) (seat_at s.seats.items a))) b (first_seat b share)
    → IsAct (Split a b share) s (Taken None) t
split_taken s t a b share able of log nodes seats o c f sh found =
    let old : List Seat = s.seats.items in
    let ta : Seat = seat_at old a in
    let v : View = f.actor.view in
    let g : Bool = is_clear f.actor && (is_nil v.held && (is_number_in b (spares_in v.numbers) && not (nat_lt v.allowance share))) in
    let gate : g ≡ true = split_is o c s sh a f found b share ∙ able in
    let spare : is_spare old a b ≡ true = and_left (is_spare old a b) (not (nat_lt ta.allowance share)) (and_right (is_clear_seat ta && (ta.held == 0)) (is_spare old a b && not (nat_lt ta.allowance share)) able) in
    let inside : In b (spares_in v.numbers) = spare_in o c s sh a f found b spare in
    let among : In b v.numbers = in_spares b v.numbers inside in
    let one : times b v.numbers ≤ 1 = once o c s sh a f found b among in
    let ne : b ≢ a = not_first a b v.numbers (own o c s sh a f found) one inside in
    let low_a : a < length old = near o c s sh a f found in
    let low_b : b < length old = split_near old a b share able in
    let first : List Seat = set old a (with_allowance (ta.allowance - share) ta) in
    let long : length first ≡ length old = length-set old a (with_allowance (ta.allowance - share) ta) in
    let core' : IsCore o (split_state c f b share) = core_taken o c g (split_state c f b share) None gate (acted_core o c s sh a f found (Split a b share) refl) in
    let grown = grows_taken o c g (split_state c f b share) None gate (acted_grows o c s sh a f found (Split a b share) refl) in
    let kept : ShowsSeat ta f.actor = seat o c s sh a f found in
    let at_b : seat_at t.seats.items b ≡ first_seat b share = ap (λ (l : List Seat). seat_at l b) seats ∙ get_or-set_same first b (first_seat b share) no_seat (omega arith) in
    let not_b : (k : ℕ) → k ≢ b → seat_at t.seats.items k ≡ seat_at first k = λ k x. ap (λ (l : List Seat). seat_at l k) seats ∙ get_or-set_other first b k (first_seat b share) no_seat x in
    let at_a : seat_at t.seats.items a ≡ with_allowance (ta.allowance - share) ta = not_b a (λ e. ne (sym e)) ∙ get_or-set_same old a (with_allowance (ta.allowance - share) ta) no_seat low_a in
    let far : (k : ℕ) → k ≢ a → k ≢ b → seat_at t.seats.items k ≡ seat_at old k = λ k x y. not_b k y ∙ get_or-set_other old a k (with_allowance (ta.allowance - share) ta) no_seat x in
    let left : Actor = record { view = left_of b share v; owed = f.actor.owed } in
    let right : Actor = record { view = right_of b share v; owed = [] } in
    let num : number_of left.view ≡ a = first_stays b v.numbers ∙ own o c s sh a f found in
    let other : (k : ℕ) → In k (but_spare b v.numbers) → k ≢ b = λ k h e.
    let z = spare_counts b b v.numbers inside one in
    let y : times b (b ∷ []) ≡ times b [] + 1 = times_here b [] in
    let x = times_in b (but_spare b v.numbers) (subst (λ (j : ℕ). In j (but_spare b v.numbers)) e h) in
    absurd (omega arith) in
    let star_of_node : (n : ℕ) → (node_at t.nodes.items n).star ≡ (node_at s.nodes.items n).star = λ n. ap (λ (l : List Node). (node_at l n).star) nodes in
    taken o c t g (split_state c f b share) None gate record {
      core = core';
      first_new = of.first_new ∙ sh.first_new;
      chunks = of.chunks ∙ sh.chunks;
      bands = of.bands ∙ sh.bands;
      words = sh.words ∙ (λ i. map code_in (sym nodes i) ++ length (sym log i) ∷ []);
      lists = sh.lists ∙ ap (map list_in) (sym nodes);
      log = log_stays o c (split_state c f b share) sh.core core' grown refl ∙ sh.log ∙ sym log;
      workers = ap length seats ∙ length-set first b (first_seat b share) ∙ long ∙ sh.workers;
      actors = λ j u e some_number. ⊎_elim
          (λ (there : get_elem? (set c.actors f.place left) j ≡ some u).
          each_set (λ (y : Actor). y.view.numbers ≢ [] → ShowsActor t.seats.items t.nodes.items y) c.actors f.place left
          (λ _. record {
            leads = λ k h. dite (ℕ_discrete k a)
                (λ is. ap (λ (i : ℕ). (seat_at t.seats.items i).lead) is ∙ ap (λ (y : Seat). y.lead) at_a ∙ lead_is o c s sh a f found ∙ sym num)
                (λ no_a. ap (λ (y : Seat). y.lead) (far k no_a (other k h)) ∙ (mine o c s sh a f found).leads k (in_but_spare k b v.numbers h) ∙ own o c s sh a f found ∙ sym num);
            seat = subst (λ (i : ℕ). ShowsSeat (seat_at t.seats.items i) left) (sym num) (subst (λ (y : Seat). ShowsSeat y left) (sym at_a)
                record { allowance = ap (λ (k : ℕ). k - share) kept.allowance; held = kept.held; unborn = kept.unborn; absent = kept.absent; absences = kept.absences; owed = kept.owed; debts = kept.debts });
            stars = λ p h. star_of_node p.node ∙ (mine o c s sh a f found).stars p h;
          })
          (λ i y out here some_y.
          let before = sh.actors i y here some_y in
          let no_a : (k : ℕ) → In k y.view.numbers → k ≢ a = λ k h. other_number o c s sh a f found i y k out here h in
          let no_b : (k : ℕ) → In k y.view.numbers → k ≢ b = λ k h. other_numbers o c s sh a f found i y b k out here among h in
          record {
            leads = λ k h. ap (λ (z : Seat). z.lead) (far k (no_a k h) (no_b k h)) ∙ before.leads k h;
            seat = subst (λ (z : Seat). ShowsSeat z y) (sym (far (number_of y.view) (no_a (number_of y.view) (first_in y.view.numbers some_y)) (no_b (number_of y.view) (first_in y.view.numbers some_y)))) before.seat;
            stars = λ p h. star_of_node p.node ∙ before.stars p h;
          })
          j u there some_number)
          (λ (last : right ≡ u). subst (λ (y : Actor). ShowsActor t.seats.items t.nodes.items y) last
          record {
            leads = λ k h. ⊎_elim (λ (is : k ≡ b). ap (λ (i : ℕ). (seat_at t.seats.items i).lead) is ∙ ap (λ (y : Seat). y.lead) at_b) (λ (x : In k []). absurd x) h;
            seat = subst (λ (y : Seat). ShowsSeat y right) (sym at_b)
                record { allowance = refl; held = refl; unborn = refl; absent = λ n x. absurd (cc (x)); absences = λ p x. absurd x; owed = λ d x. x; debts = λ d x. x };
            stars = λ p x. absurd x;
          })
          (at_snoc (set c.actors f.place left) right u j e);
    }

-- a seat among those that are led anew
led_at : (b a : ℕ) (xs : List Seat) (k : ℕ) → k < length xs → seat_at (map (led_by b a) xs) k ≡ led_by b a (seat_at xs k)
led_at b a [] k h = absurd (omega arith)
led_at b a (x ∷ xs) zero h = refl
led_at b a (x ∷ xs) (suc k) h = led_at b a xs k (omega arith)

led_here : (b a : ℕ) (t : Seat) → t.lead ≡ b → (led_by b a t).lead ≡ a
led_here b a t e = ap (λ (x : Bool). (cond {A = Seat} x record { lead = a; allowance = t.allowance; held = t.held; absent = t.absent; unborn = t.unborn; owed = t.owed } t).lead) (eq_true t.lead b e)

led_else : (b a : ℕ) (t : Seat) → t.lead ≢ b → led_by b a t ≡ t
led_else b a t ne = ap (λ (x : Bool). cond {A = Seat} x record { lead = a; allowance = t.allowance; held = t.held; absent = t.absent; unborn = t.unborn; owed = t.owed } t) (eq_false t.lead b ne)

module _ (o : Opening) (c : CoreState) (s : State) (sh : ShowsState o c s) (a b : ℕ) (f g : Found) (found : found_from a 0 c.actors ≡ Some f) (other : found_from b 0 c.actors ≡ Some g) where
  none_is : (x : ℕ) (h : Found) → found_from x 0 c.actors ≡ Some h → has_nothing h.actor ≡ has_none (seat_at s.seats.items x)
  none_is x h e = λ i. idle_is o c s sh x h e i && nothing_is o c s sh x h e i

  place_is : (f.place == g.place) ≡ (a == b)
  place_is = both_ways (f.place == g.place) (a == b)
      (λ e. let same : f.place ≡ g.place = eq_is f.place g.place e in
      let actors : f.actor ≡ g.actor = some-injective f.actor g.actor (sym (at o c s sh a f found) ∙ ap (λ (j : ℕ). get_elem? c.actors j) same ∙ at o c s sh b g other) in
      eq_true a b (sym (own o c s sh a f found) ∙ ap (λ (x : Actor). number_of x.view) actors ∙ own o c s sh b g other))
      (λ e. let same : a ≡ b = eq_is a b e in
      let founds : Some f ≡ Some g = sym found ∙ ap (λ (k : ℕ). found_from k 0 c.actors) same ∙ other in
      eq_true f.place g.place (ap (λ (x : Option Found). place_in x) founds))
    where
      place_in : Option Found → ℕ
      place_in None = 0
      place_in (Some x) = x.place

  join_is : (not (f.place == g.place) && (has_nothing f.actor && has_nothing g.actor)) ≡ (not (a == b) && (has_none (seat_at s.seats.items a) && has_none (seat_at s.seats.items b)))
  join_is = λ i. not (place_is i) && (none_is a f found i && none_is b g other i)

pub join_ignored : (s : State) (a b : ℕ) → can_join s.seats.items a b ≡ false → IsAct (Join a b) s Ignored s
join_ignored s a b no_gate o c f sh found = go (found_from b 0 c.actors) refl
  where
    go : (x : Option Found) → found_from b 0 c.actors ≡ x → ShowsState o (join_step c f x).state s × (Ignored ≡ (join_step c f x).verdict)
    go None e = (sh, refl)
    go (Some g) e =
        let lead : is_lead s.seats.items b ≡ true = (λ i. lt_true b (length s.seats.items) (near o c s sh b g e) i && eq_true (seat_at s.seats.items b).lead b (lead_is o c s sh b g e) i) in
        refused o c s sh (not (f.place == g.place) && (has_nothing f.actor && has_nothing g.actor)) (join_state c f g) None
        (join_is o c s sh a b f g found e ∙ ap (λ (y : Bool). y && (not (a == b) && (has_none (seat_at s.seats.items a) && has_none (seat_at s.seats.items b)))) (sym lead) ∙ no_gate)

-- two allowances fit together
pub few_sum : (s : State) (a b : ℕ) → IsShownState s → is_lead s.seats.items a ≡ true → can_join s.seats.items a b ≡ true → (seat_at s.seats.items a).allowance + (seat_at s.seats.items b).allowance ≤ 1048576
few_sum s a b shown lead able =
    let r = actor_of_lead s a shown lead in
    let o : Opening = r.opening in
    let c : CoreState = r.state in
    let sh : ShowsState o c s = r.shown in
    let f : Found = r.place in
    let rest = and_right (is_lead s.seats.items b) (not (a == b) && (has_none (seat_at s.seats.items a) && has_none (seat_at s.seats.items b))) able in
    let lead_b = and_left (is_lead s.seats.items b) (not (a == b) && (has_none (seat_at s.seats.items a) && has_none (seat_at s.seats.items b))) able in
    let far : (a == b) ≡ false = not_true (a == b) (and_left (not (a == b)) (has_none (seat_at s.seats.items a) && has_none (seat_at s.seats.items b)) rest) in
    go o c sh f r.found lead_b far (found_from b 0 c.actors) refl
  where
    go : (o : Opening) (c : CoreState) (sh : ShowsState o c s) (f : Found) → found_from a 0 c.actors ≡ Some f → is_lead s.seats.items b ≡ true → (a == b) ≡ false
        → (x : Option Found) → found_from b 0 c.actors ≡ x → (seat_at s.seats.items a).allowance + (seat_at s.seats.items b).allowance ≤ 1048576
    go o c sh f found lead_b far None e = absurd (some_found o c s sh b (lead_near s.seats.items b lead_b)
        (eq_is (seat_at s.seats.items b).lead b (and_right (nat_lt b (length s.seats.items)) ((seat_at s.seats.items b).lead == b) lead_b)) e)
    go o c sh f found lead_b far (Some g) e =
        let places : f.place ≢ g.place = λ x. let z : true ≡ false = sym (eq_true f.place g.place x) ∙ place_is o c s sh a b f g found e ∙ far in cc (z) in
        let sum = total_two (λ (v : View). v.allowance) (views_of c.actors) f.place g.place f.actor.view g.actor.view places (view_at o c sh.core f.place f.actor (at o c s sh a f found)) (view_at o c sh.core g.place g.actor (at o c s sh b g e)) in
        let all = (sound o c s sh).budget in
        let small = (sound o c s sh).small in
        let one = (seat o c s sh a f found).allowance in
        let two = (seat o c s sh b g e).allowance in
        omega arith

pub join_taken : (s t : State) (a b : ℕ) → can_join s.seats.items a b ≡ true → IsOf s t → t.log.items ≡ s.log.items → t.nodes.items ≡ s.nodes.items
    → t.seats.items ≡ set (map (led_by b a) s.seats.items) a (with_allowance ((seat_at s.seats.items a).allowance + (seat_at s.seats.items b).allowance) (seat_at (map (led_by b a) s.seats.items) a))
    → IsAct (Join a b) s (Taken None) t
join_taken s t a b able of log nodes seats o c f sh found = go (found_from b 0 c.actors) refl
  where
    go : (x : Option Found) → found_from b 0 c.actors ≡ x → ShowsState o (join_step c f x).state t × (Taken None ≡ (join_step c f x).verdict)
    go None e =
        let lead_b = and_left (is_lead s.seats.items b) (not (a == b) && (has_none (seat_at s.seats.items a) && has_none (seat_at s.seats.items b))) able in
        absurd (some_found o c s sh b (lead_near s.seats.items b lead_b) (eq_is (seat_at s.seats.items b).lead b (and_right (nat_lt b (length s.seats.items)) ((seat_at s.seats.items b).lead == b) lead_b)) e)
    go (Some h) e =
        let old : List Seat = s.seats.items in
        let ta : Seat = seat_at old a in
        let tb : Seat = seat_at old b in
        let rest = and_right (is_lead old b) (not (a == b) && (has_none ta && has_none tb)) able in
        let g : Bool = not (f.place == h.place) && (has_nothing f.actor && has_nothing h.actor) in
        let gate : g ≡ true = join_is o c s sh a b f h found e ∙ rest in
        let d : CoreState = join_state c f h in
        let step_is : guarded g c d None ≡ join_step c f (found_from b 0 c.actors) = ap (λ (x : Option Found). join_step c f x) (sym e) in
        let core' : IsCore o d = core_taken o c g d None gate (subst (λ y. IsCore o y.state) (sym step_is) (acted_core o c s sh a f found (Join a b) refl)) in
        let grown : IsExtended (log_of o c) (log_of o d) = grows_taken o c g d None gate (subst (λ y. IsExtended (log_of o c) (log_of o y.state)) (sym step_is) (acted_grows o c s sh a f found (Join a b) refl)) in
        let ne : a ≢ b = λ x. let z : true ≡ false = sym (eq_true a b x) ∙ not_true (a == b) (and_left (not (a == b)) (has_none ta && has_none tb) rest) in cc (z) in
        let places : h.place ≢ f.place = λ x. let z : true ≡ false = sym (eq_true f.place h.place (sym x)) ∙ place_is o c s sh a b f h found e ∙ eq_false a b ne in cc (z) in
        let led : List Seat = map (led_by b a) old in
        let new : Seat = with_allowance (ta.allowance + tb.allowance) (seat_at led a) in
        let low_a : a < length old = near o c s sh a f found in
        let long : length led ≡ length old = length-map old (led_by b a) in
        let lead_a : ta.lead ≡ a = lead_is o c s sh a f found in
        let same_a : seat_at led a ≡ ta = led_at b a old a low_a ∙ led_else b a ta (λ x. ne (sym lead_a ∙ x)) in
        let at_a : seat_at t.seats.items a ≡ with_allowance (ta.allowance + tb.allowance) ta = ap (λ (l : List Seat). seat_at l a) seats ∙ get_or-set_same led a new no_seat (omega arith) ∙ ap (with_allowance (ta.allowance + tb.allowance)) same_a in
        let elsewhere : (k : ℕ) → k ≢ a → k < length old → seat_at t.seats.items k ≡ led_by b a (seat_at old k) = λ k x low. ap (λ (l : List Seat). seat_at l k) seats ∙ get_or-set_other led a k new no_seat x ∙ led_at b a old k low in
        let kept : ShowsSeat ta f.actor = seat o c s sh a f found in
        let gone : ShowsSeat tb h.actor = seat o c s sh b h e in
        let both : Actor = record { view = both_of f.actor.view h.actor.view; owed = [] } in
        let num : number_of both.view ≡ a = first_of_both f.actor.view.numbers h.actor.view.numbers (acts o c s sh a f found) ∙ own o c s sh a f found in
        let bare : ta.owed ≡ [] = nil_is ta.owed (and_right (ta.held == 0) (is_nil ta.owed) (and_left (has_none ta) (has_none tb) (and_right (not (a == b)) (has_none ta && has_none tb) rest))) in
        let star_of_node : (n : ℕ) → (node_at t.nodes.items n).star ≡ (node_at s.nodes.items n).star = λ n. ap (λ (l : List Node). (node_at l n).star) nodes in
        let own_b : number_of h.actor.view ≡ b = own o c s sh b h e in
        let P : Actor → Type 0 = λ (y : Actor). y.view.numbers ≢ [] → ShowsActor t.seats.items t.nodes.items y in
        taken o c t g d None gate record {
          core = core';
          first_new = of.first_new ∙ sh.first_new;
          chunks = of.chunks ∙ sh.chunks;
          bands = of.bands ∙ sh.bands;
          words = sh.words ∙ (λ i. map code_in (sym nodes i) ++ length (sym log i) ∷ []);
          lists = sh.lists ∙ ap (map list_in) (sym nodes);
          log = log_stays o c d sh.core core' grown refl ∙ sh.log ∙ sym log;
          workers = ap length seats ∙ length-set led a new ∙ long ∙ sh.workers;
          actors = each_set P (set c.actors f.place both) h.place (record { view = spent_view; owed = [] }) (λ some_number. absurd (some_number refl))
              (λ j u out there. each_two P j u out
              (λ _. record {
                leads = λ k k_in. ⊎_elim
                    (λ (x : In k f.actor.view.numbers).
                    let before : (seat_at old k).lead ≡ a = (mine o c s sh a f found).leads k x ∙ own o c s sh a f found in
                    let low : k < length old = let z = (fits o c s sh a f found).below k x in let y = sh.workers in omega arith in
                    dite (ℕ_discrete k a)
                    (λ is. ap (λ (i : ℕ). (seat_at t.seats.items i).lead) is ∙ ap (λ (y : Seat). y.lead) at_a ∙ lead_a ∙ sym num)
                    (λ no_a. ap (λ (y : Seat). y.lead) (elsewhere k no_a low ∙ led_else b a (seat_at old k) (λ z. ne (sym before ∙ z))) ∙ before ∙ sym num))
                    (λ (x : In k h.actor.view.numbers).
                    let before : (seat_at old k).lead ≡ b = (mine o c s sh b h e).leads k x ∙ own_b in
                    let low : k < length old = let z = (fits o c s sh b h e).below k x in let y = sh.workers in omega arith in
                    let no_a : k ≢ a = λ is. ne (sym lead_a ∙ ap (λ (i : ℕ). (seat_at old i).lead) (sym is) ∙ before) in
                    ap (λ (y : Seat). y.lead) (elsewhere k no_a low) ∙ led_here b a (seat_at old k) before ∙ sym num)
                    (in_either k f.actor.view.numbers h.actor.view.numbers k_in);
                seat = subst (λ (i : ℕ). ShowsSeat (seat_at t.seats.items i) both) (sym num) (subst (λ (y : Seat). ShowsSeat y both) (sym at_a)
                    record {
                      allowance = λ i. kept.allowance i + gone.allowance i;
                      held = kept.held;
                      unborn = kept.unborn;
                      absent = kept.absent;
                      absences = kept.absences;
                      owed = λ x y. subst (λ (l : List Owed). In x l) bare y;
                      debts = λ x y. absurd y;
                    });
                stars = λ p y. star_of_node p.node ∙ (mine o c s sh a f found).stars p y;
              })
              (λ i y away here some_y.
              let before = sh.actors i y here some_y in
              let no_a : (k : ℕ) → In k y.view.numbers → k ≢ a = λ k z. other_number o c s sh a f found i y k away.0 here z in
              let lead_far : (k : ℕ) → In k y.view.numbers → (seat_at old k).lead ≢ b = λ k z is.
              other_number o c s sh b h e i y b away.1 here (subst (λ (m : ℕ). In m y.view.numbers) (sym (before.leads k z) ∙ is) (first_in y.view.numbers some_y)) refl in
              let low : (k : ℕ) → In k y.view.numbers → k < length old = λ k z. let q = (fits_in o c sh.core i y here).below k z in let w = sh.workers in omega arith in
              let same : (k : ℕ) → In k y.view.numbers → seat_at t.seats.items k ≡ seat_at old k = λ k z. elsewhere k (no_a k z) (low k z) ∙ led_else b a (seat_at old k) (lead_far k z) in
              record {
                leads = λ k z. ap (λ (q : Seat). q.lead) (same k z) ∙ before.leads k z;
                seat = subst (λ (q : Seat). ShowsSeat q y) (sym (same (number_of y.view) (first_in y.view.numbers some_y))) before.seat;
                stars = λ p z. star_of_node p.node ∙ before.stars p z;
              })
              there);
        }
      where
        each_two : (P : Actor → Type 0) (j : ℕ) (u : Actor) → j ≢ h.place → P (record { view = both_of f.actor.view h.actor.view; owed = [] })
            → ((i : ℕ) (y : Actor) → (i ≢ f.place) × (i ≢ h.place) → get_elem? c.actors i ≡ some y → P y)
            → get_elem? (set c.actors f.place (record { view = both_of f.actor.view h.actor.view; owed = [] })) j ≡ some u → P u
        each_two P j u out one others there =
            ⊎_elim (λ (x : (j ≡ f.place) × (record { view = both_of f.actor.view h.actor.view; owed = [] } ≡ u)). subst P x.1 one)
            (λ (x : (j ≢ f.place) × (get_elem? c.actors j ≡ some u)). others j u (x.0, out) x.1)
            (at_set c.actors f.place j (record { view = both_of f.actor.view h.actor.view; owed = [] }) u there)
