-- What a state shows of words, copies and actors.
use Rattle.std.proofs.Common.{◌≡◌, ◌≢◌, ℕ, zero, suc, ◌+◌, ◌<◌, ◌≤◌, Bool, true, false, cond, not, ◌==◌, ◌&&◌, ◌||◌, nat_lt, eqb, List, [], ◌∷◌, ◌++◌, length, map, set, refl, sym, ap, ◌∙◌, subst, inl, inr, ⊎_elim, arith, length-append}
use Rattle.std.specs.Prelude.{Option, Some, None, is_some, slice_index, slice_index_or}
use Rattle.std.specs.List.{list_all, list_any, AllByRecursion, IsDistinct}
use Rattle.std.proofs.lemmas.Map.Steps.{length-le_from_distinct_below}
use Rattle.std.proofs.lemmas.Bool.Decides.{nat_tests}
use Rattle.std.proofs.lemmas.List.{length-map, get_or-set_other, get_or-set_same, length-set}
use mathlib.Core.Option.{some, some-injective}
use mathlib.Core.Logic.{dite}
use native.Mathlib.Decide.{dec_le, ℕ_discrete}
use lib.ListN.{get_elem?}
use Rattle.pf_model.specs.declared.Entry.{Entry}
use Rattle.pf_model.specs.Stars.{Star}
use Rattle.pf_star_model.specs.Lent.{Held as Pair, is_held, star_held}
use Rattle.pf_core_model.specs.declared.event.Event.{Event}
use Rattle.pf_core_model.specs.declared.event.Owed.{Owed}
use Rattle.pf_core_model.specs.declared.sharer.Sharer.{Sharer}
use Rattle.pf_core_model.specs.declared.view.View.{View}
use Rattle.pf_core_model.specs.Lists.{In, times, total, Each}
use Rattle.pf_core_model.specs.Core.{Opening, names_of, held_by, number_of, nodes_in, nodes_of, Fits, Sound}
use Rattle.pf_core_model.specs.Shown.{IsExtended}
use Rattle.pf_core_model.specs.State.{Actor, CoreState, Found, leads, found_from, view_in, views_of, homes_of, list_at, tickets_in, word_of, log_of, is_nil, is_clear, owes_of, is_owed, acted, actor_of, by_actor, stepped, Stepped, IsCore}
use Rattle.pf_core_model.proofs.Lists.{at_map, at_index, total_some, in_times, in_map, times_in, times_here}
use Rattle.pf_core_model.proofs.Views.{apart, holder_of, one_number, first_in, node_in}
use Rattle.pf_core_model.proofs.Owing.{star_in_is, star_in_none}
use Rattle.pf_core_model.proofs.StateLaws.{sound_in, fits_in, view_at}
use Rattle.pf_core_model.proofs.Steps.{IsFound, found_is, step_core}
use Rattle.pf_core_model.proofs.Outside.{keeps_outside}
use Rattle.pf_core_model.proofs.OneMesh.{shows_one_mesh}
use Rattle.pf_core_model.proofs.Grows.{step_grows}
use Rattle.pf_core_model.proofs.Judged.{held_in}
use Rattle.pf_core_model.proofs.Replays.{and_left, and_right, or_cases}
use Rattle.pf_core.specs.declared.state.State.{State}
use Rattle.pf_core.specs.declared.word.Word.{Word}
use Rattle.pf_core.specs.declared.word.Word.TheVariants.{Never}
use Rattle.pf_core.specs.declared.tables.Node.{Node}
use Rattle.pf_core.specs.declared.tables.Seat.{Seat}
use Rattle.pf_core.specs.Tables.{word_code, no_node, node_at, seat_at, word_seen, code_seen, code_in, list_in, is_clear_seat, is_lead, is_this, holds, star_seen}
use Rattle.pf_core.specs.Shown.{ShowsSeat, ShowsActor, ShowsState, IsShownState}

-- tests
pub lt_true : (a b : ℕ) → a < b → nat_lt a b ≡ true
lt_true a b h = grind (arith, nat_tests)

pub lt_false : (a b : ℕ) → b ≤ a → nat_lt a b ≡ false
lt_false a b h = grind (arith, nat_tests)

pub eq_true : (a b : ℕ) → a ≡ b → (a == b) ≡ true
eq_true a b h = grind (arith, nat_tests)

pub eq_false : (a b : ℕ) → a ≢ b → (a == b) ≡ false
eq_false a b h = grind (arith, nat_tests)

pub eq_is : (a b : ℕ) → (a == b) ≡ true → a ≡ b
eq_is a b h = grind (arith, nat_tests)

pub lt_is : (a b : ℕ) → nat_lt a b ≡ true → a < b
lt_is a b h = grind (arith, nat_tests)

pub leads_is : (a : ℕ) (ks : List ℕ) → leads a ks ≡ true → slice_index ks 0 ≡ a
leads_is a [] h = absurd (let z : false ≡ true = h in cc)
leads_is a (k ∷ ks) h = eq_is k a h

pub leads_some : (a : ℕ) (ks : List ℕ) → leads a ks ≡ true → ks ≢ []
leads_some a [] h e = absurd (let z : false ≡ true = h in cc)
leads_some a (k ∷ ks) h e = absurd (cc (e))

-- words in their list
code_at : (xs : List Node) (rest : List ℕ) (n : ℕ) → n < length xs → slice_index (map code_in xs ++ rest) n ≡ code_in (node_at xs n)
code_at [] rest n h = absurd (omega arith)
code_at (x ∷ xs) rest zero h = refl
code_at (x ∷ xs) rest (suc n) h = code_at xs rest n (omega arith)

pub last_at : (xs : List Node) (t n : ℕ) → n ≡ length xs → slice_index (map code_in xs ++ t ∷ []) n ≡ t
last_at [] t zero e = refl
last_at [] t (suc n) e = absurd (omega arith)
last_at (x ∷ xs) t zero e = absurd (omega arith)
last_at (x ∷ xs) t (suc n) e = last_at xs t n (omega arith)

pub codes_set : (xs : List Node) (rest : List ℕ) (n : ℕ) (x : Node) → n < length xs → set (map code_in xs ++ rest) n (code_in x) ≡ map code_in (set xs n x) ++ rest
codes_set [] rest n x h = absurd (omega arith)
codes_set (y ∷ ys) rest zero x h = refl
codes_set (y ∷ ys) rest (suc n) x h = ap (λ (l : List ℕ). code_in y ∷ l) (codes_set ys rest n x (omega arith))

pub codes_next : (xs : List Node) (t u n : ℕ) → n ≡ length xs → set (map code_in xs ++ t ∷ []) n u ≡ map code_in xs ++ u ∷ []
codes_next [] t u zero e = refl
codes_next [] t u (suc n) e = absurd (omega arith)
codes_next (x ∷ xs) t u zero e = absurd (omega arith)
codes_next (x ∷ xs) t u (suc n) e = ap (λ (l : List ℕ). code_in x ∷ l) (codes_next xs t u n (omega arith))

-- the same codes and lists, where a node's word or list stays
pub codes_same : (xs : List Node) (n : ℕ) (x : Node) → code_in x ≡ code_in (node_at xs n) → map code_in (set xs n x) ≡ map code_in xs
codes_same [] n x e = refl
codes_same (y ∷ ys) zero x e = ap (λ (k : ℕ). k ∷ map code_in ys) e
codes_same (y ∷ ys) (suc n) x e = ap (λ (l : List ℕ). code_in y ∷ l) (codes_same ys n x e)

pub lists_same : (xs : List Node) (n : ℕ) (x : Node) → list_in x ≡ list_in (node_at xs n) → map list_in (set xs n x) ≡ map list_in xs
lists_same [] n x e = refl
lists_same (y ∷ ys) zero x e = ap (λ (k : List Sharer). k ∷ map list_in ys) e
lists_same (y ∷ ys) (suc n) x e = ap (λ (l : List (List Sharer)). list_in y ∷ l) (lists_same ys n x e)

pub lists_set : (xs : List Node) (n : ℕ) (x : Node) → set (map list_in xs) n (list_in x) ≡ map list_in (set xs n x)
lists_set [] n x = refl
lists_set (y ∷ ys) zero x = refl
lists_set (y ∷ ys) (suc n) x = ap (λ (l : List (List Sharer)). list_in y ∷ l) (lists_set ys n x)

lists_at : (xs : List Node) (n : ℕ) → slice_index_or (map list_in xs) n [] ≡ list_in (node_at xs n)
lists_at [] n = refl
lists_at (x ∷ xs) zero = refl
lists_at (x ∷ xs) (suc n) = lists_at xs n

-- a name whose word isn't Never stands in the table
pub code_near : (nodes : List Node) (n : ℕ) → code_seen nodes n ≢ 2 → n < length nodes
code_near nodes n ne = dite (dec_le (suc n) (length nodes))
    (λ (low : n < length nodes). low)
    (λ high. absurd (ne (ap (λ (b : Bool). word_code (cond b (node_at nodes n).word Never)) (lt_false n (length nodes) (omega arith)))))

pub code_here : (nodes : List Node) (n : ℕ) → n < length nodes → code_seen nodes n ≡ code_in (node_at nodes n)
code_here nodes n low = ap (λ (b : Bool). word_code (cond b (node_at nodes n).word Never)) (lt_true n (length nodes) low)

-- an actor that is found somewhere
found_some : (a i id : ℕ) (actors : List Actor) (x : Actor) → get_elem? actors id ≡ some x → leads a x.view.numbers ≡ true → found_from a i actors ≡ None → ⊥
found_some a i id [] x at named e = absurd (cc (at))
found_some a i zero (y ∷ ys) x at named e =
    let same : y ≡ x = some-injective y x at in
    let is : leads a y.view.numbers ≡ true = ap (λ (u : Actor). leads a u.view.numbers) same ∙ named in
    absurd (let z : Some record { place = i; actor = y } ≡ None = sym (ap (λ (b : Bool). cond {A = Option Found} b (Some record { place = i; actor = y }) (found_from a (suc i) ys)) is) ∙ e in cc (z))
found_some a i (suc id) (y ∷ ys) x at named e = go (leads a y.view.numbers) e (λ k. found_some a (suc i) id ys x at named k)
  where
    go : (b : Bool) → cond {A = Option Found} b (Some record { place = i; actor = y }) (found_from a (suc i) ys) ≡ None → (found_from a (suc i) ys ≡ None → ⊥) → ⊥
    go true k rest = absurd (cc (k))
    go false k rest = rest k

-- the actor of a view
pub view_back : (xs : List Actor) (i : ℕ) (v : View) → get_elem? (views_of xs) i ≡ some v → (x : Actor) × (get_elem? xs i ≡ some x) × (v ≡ x.view)
view_back [] i v e = absurd (cc (e))
view_back (x ∷ xs) zero v e = (x, refl, sym (some-injective x.view v e))
view_back (x ∷ xs) (suc i) v e = view_back xs i v e

-- owed pairs, by their members
nil_same : (xs ys : List Owed) → ((d : Owed) → In d xs → In d ys) → ((d : Owed) → In d ys → In d xs) → is_nil xs ≡ is_nil ys
nil_same [] [] f g = refl
nil_same [] (y ∷ ys) f g = absurd (g y (inl refl))
nil_same (x ∷ xs) [] f g = absurd (f x (inl refl))
nil_same (x ∷ xs) (y ∷ ys) f g = refl

pub any_in : (p : Owed → Bool) (d : Owed) (xs : List Owed) → In d xs → p d ≡ true → list_any p xs ≡ true
any_in p d [] h e = absurd h
any_in p d (x ∷ xs) (inl k) e = ap (λ (b : Bool). b || list_any p xs) (ap p (sym k) ∙ e)
any_in p d (x ∷ xs) (inr h) e = right (p x) (list_any p xs) (any_in p d xs h e)
  where
    right : (a b : Bool) → b ≡ true → (a || b) ≡ true
    right true b k = refl
    right false b k = k

pub in_any : (p : Owed → Bool) (xs : List Owed) → list_any p xs ≡ true → (d : Owed) × In d xs × (p d ≡ true)
in_any p [] h = absurd (let z : false ≡ true = h in cc)
in_any p (x ∷ xs) h = ⊎_elim (λ (e : p x ≡ true). (x, inl refl, e)) (λ (e : list_any p xs ≡ true). let r = in_any p xs e in (r.0, inr r.1, r.2)) (or_cases (p x) (list_any p xs) h)

pub both_ways : (a b : Bool) → (a ≡ true → b ≡ true) → (b ≡ true → a ≡ true) → a ≡ b
both_ways true b f g = sym (f refl)
both_ways false true f g = g refl
both_ways false false f g = refl

any_same : (p : Owed → Bool) (xs ys : List Owed) → ((d : Owed) → In d xs → In d ys) → ((d : Owed) → In d ys → In d xs) → list_any p xs ≡ list_any p ys
any_same p xs ys f g = both_ways (list_any p xs) (list_any p ys)
    (λ e. let r = in_any p xs e in any_in p r.0 ys (f r.0 r.1) r.2)
    (λ e. let r = in_any p ys e in any_in p r.0 xs (g r.0 r.1) r.2)

-- no pair is an absence
all_stars : (ps : List Pair) → ((p : Pair) → In p ps → p.star ≡ None → ⊥) → list_all (λ (p : Pair). is_some p.star) ps ≡ true
all_stars [] f = refl
all_stars (p ∷ ps) f = go p.star refl (all_stars ps (λ q h. f q (inr h)))
  where
    go : (x : Option Star) → p.star ≡ x → list_all (λ (q : Pair). is_some q.star) ps ≡ true → (is_some x && list_all (λ (q : Pair). is_some q.star) ps) ≡ true
    go None e rest = absurd (f p (inl refl) e)
    go (Some t) e rest = rest

not_all : (p : Pair) (ps : List Pair) → In p ps → p.star ≡ None → list_all (λ (q : Pair). is_some q.star) ps ≡ false
not_all p [] h e = absurd h
not_all p (q ∷ ps) (inl is) e = ap (λ (x : Option Star). is_some x && list_all (λ (r : Pair). is_some r.star) ps) (ap (λ (r : Pair). r.star) (sym is) ∙ e)
not_all p (q ∷ ps) (inr h) e = ap (λ (b : Bool). is_some q.star && b) (not_all p ps h e) ∙ miss (is_some q.star)
  where
    miss : (b : Bool) → (b && false) ≡ false
    miss true = refl
    miss false = refl

in_held : (n : ℕ) (ps : List Pair) → In n (nodes_in ps) → is_held ps n ≡ true
in_held n [] h = absurd h
in_held n (p ∷ ps) (inl e) = ap (λ (b : Bool). b || is_held ps n) (eq_true p.node n (sym e))
in_held n (p ∷ ps) (inr h) = right (p.node == n) (is_held ps n) (in_held n ps h)
  where
    right : (a b : Bool) → b ≡ true → (a || b) ≡ true
    right true b k = refl
    right false b k = k

-- the pair of a held node
pub pair_of : (n : ℕ) (ps : List Pair) → In n (nodes_in ps) → (p : Pair) × In p ps × (p.node ≡ n)
pair_of n [] h = absurd h
pair_of n (p ∷ ps) (inl e) = (p, inl refl, sym e)
pair_of n (p ∷ ps) (inr h) = let r = pair_of n ps h in (r.0, inr r.1, r.2)

module _ (o : Opening) (c : CoreState) (s : State) (sh : ShowsState o c s) where
  abbrev pub nodes : List Node
  nodes = s.nodes.items

  abbrev pub seats : List Seat
  seats = s.seats.items

  pub sound : Sound o c.words (homes_of c.words c.lists) (views_of c.actors) sh.core.sound.0
  sound = sound_in o c sh.core

  pub names : length nodes ≡ names_of o
  names =
      let wide = sound.words_long in
      let is : length c.words ≡ length (map code_in nodes ++ length s.log.items ∷ []) = ap length sh.words in
      let two = length-append (map code_in nodes) (length s.log.items ∷ []) in
      let one = length-map nodes code_in in
      omega arith

  pub few_names : length nodes ≤ 1048576
  few_names = let z = sound.small in let y = names in omega arith

  -- the count of tickets
  pub tickets_are : tickets_in o c ≡ length s.log.items
  tickets_are = ap (λ (l : List ℕ). slice_index l (names_of o)) sh.words ∙ last_at nodes (length s.log.items) (names_of o) (sym names)

  pub few_tickets : length s.log.items ≤ 1048576
  few_tickets = let z = sound.small in let y = (shows_one_mesh o c sh.core).within in let x = tickets_are in omega arith

  -- the word of a name
  pub word_is : (n : ℕ) → word_of o c n ≡ code_seen nodes n
  word_is n = dite (dec_le (suc n) (names_of o))
      (λ (low : n < names_of o).
      let near : n < length nodes = let z = names in omega arith in
      ap (λ (b : Bool). cond b (slice_index c.words n) 2) (lt_true n (names_of o) low)
      ∙ ap (λ (l : List ℕ). slice_index l n) sh.words ∙ code_at nodes (length s.log.items ∷ []) n near ∙ sym (code_here nodes n near))
      (λ high.
      let far : length nodes ≤ n = let z = names in omega arith in
      ap (λ (b : Bool). cond b (slice_index c.words n) 2) (lt_false n (names_of o) (omega arith))
      ∙ sym (ap (λ (b : Bool). word_code (cond b (node_at nodes n).word Never)) (lt_false n (length nodes) far)))

  pub word_at : (n : ℕ) → n < length nodes → slice_index c.words n ≡ code_in (node_at nodes n)
  word_at n near = ap (λ (l : List ℕ). slice_index l n) sh.words ∙ code_at nodes (length s.log.items ∷ []) n near

  -- the copies of a name
  pub list_is : (n : ℕ) → list_at c.lists n ≡ (node_at nodes n).list
  list_is n = ap (λ (l : List (List Sharer)). slice_index_or l n []) sh.lists ∙ lists_at nodes n

  -- a number is that of an actor exactly where one is found
  pub none_found : (a : ℕ) → is_lead seats a ≡ false → found_from a 0 c.actors ≡ None
  none_found a no_lead = go (found_from a 0 c.actors) refl
    where
      go : (x : Option Found) → found_from a 0 c.actors ≡ x → x ≡ None
      go None e = refl
      go (Some f) e =
          let r = found_is a c.actors f e in
          let view : View = f.actor.view in
          let some_number : view.numbers ≢ [] = leads_some a view.numbers r.named in
          let own : number_of view ≡ a = leads_is a view.numbers r.named in
          let mine : In a view.numbers = subst (λ (k : ℕ). In k view.numbers) own (first_in view.numbers some_number) in
          let fit = fits_in o c sh.core f.place f.actor r.at in
          let low : a < length seats = let z = fit.below a mine in let y = sh.workers in omega arith in
          let led : (seat_at seats a).lead ≡ a = (sh.actors f.place f.actor r.at some_number).leads a mine ∙ own in
          absurd (let z : true ≡ false = sym ((λ i. lt_true a (length seats) low i && eq_true (seat_at seats a).lead a led i)) ∙ no_lead in cc (z))

  pub some_found : (a : ℕ) → a < length seats → (seat_at seats a).lead ≡ a → found_from a 0 c.actors ≡ None → ⊥
  some_found a low led =
      let sum = sound.numbers a (let z = sh.workers in omega arith) in
      let r = total_some (λ (v : View). times a v.numbers) (views_of c.actors) (omega arith) in
      let inside : In a r.1.numbers = in_times a r.1.numbers r.3 in
      let x = view_back c.actors r.0 r.1 r.2 in
      let numbers : x.0.view.numbers ≢ [] = λ e. subst (λ (l : List ℕ). In a l) (ap (λ (v : View). v.numbers) x.2 ∙ e) inside in
      let mine : In a x.0.view.numbers = subst (λ (v : View). In a v.numbers) x.2 inside in
      let own : number_of x.0.view ≡ a = sym ((sh.actors r.0 x.0 x.1 numbers).leads a mine) ∙ led in
      found_some a 0 r.0 c.actors x.0 x.1 (led_first a x.0.view.numbers numbers own)
    where
      led_first : (k : ℕ) (ks : List ℕ) → ks ≢ [] → slice_index ks 0 ≡ k → leads k ks ≡ true
      led_first k [] ne e = absurd (ne refl)
      led_first k (j ∷ js) ne e = eq_true j k e

  -- an actor that is found
  module _ (a : ℕ) (f : Found) (found : found_from a 0 c.actors ≡ Some f) where
    abbrev pub actor : Actor
    actor = f.actor

    pub at : get_elem? c.actors f.place ≡ some f.actor
    at = (found_is a c.actors f found).at

    pub acts : f.actor.view.numbers ≢ []
    acts = leads_some a f.actor.view.numbers (found_is a c.actors f found).named

    pub own : number_of f.actor.view ≡ a
    own = leads_is a f.actor.view.numbers (found_is a c.actors f found).named

    pub has_number : In a f.actor.view.numbers
    has_number = subst (λ (k : ℕ). In k f.actor.view.numbers) own (first_in f.actor.view.numbers acts)

    pub fits : Fits o c.words sh.core.sound.0 f.actor.view
    fits = fits_in o c sh.core f.place f.actor at

    pub near : a < length seats
    near = let z = fits.below a has_number in let y = sh.workers in omega arith

    pub mine : ShowsActor seats nodes f.actor
    mine = sh.actors f.place f.actor at acts

    pub seat : ShowsSeat (seat_at seats a) f.actor
    seat = subst (λ (k : ℕ). ShowsSeat (seat_at seats k) f.actor) own mine.seat

    pub lead_is : (seat_at seats a).lead ≡ a
    lead_is = mine.leads a has_number ∙ own

    pub clear_is : is_clear f.actor ≡ is_clear_seat (seat_at seats a)
    clear_is = (λ i. nil_same f.actor.owed (seat_at seats a).owed seat.debts seat.owed i && (absences (seat_at seats a).absent refl i && not (is_some (sym seat.unborn i))))
      where
        absences : (x : Option ℕ) → (seat_at seats a).absent ≡ x → list_all (λ (p : Pair). is_some p.star) f.actor.view.held ≡ not (is_some x)
        absences None e = all_stars f.actor.view.held (λ p h gone. absurd (let z : None ≡ Some p.node = sym e ∙ seat.absences p h gone in cc (z)))
        absences (Some n) e = not_all (record { node = n; star = None }) f.actor.view.held (seat.absent n e) refl

    pub owes_is : (n : ℕ) → owes_of n f.actor.owed ≡ owes_of n (seat_at seats a).owed
    owes_is n = any_same (λ (d : Owed). d.node == n) f.actor.owed (seat_at seats a).owed seat.debts seat.owed

    pub is_owed_is : (chunk n : ℕ) → list_any (is_owed chunk n) f.actor.owed ≡ list_any (is_owed chunk n) (seat_at seats a).owed
    is_owed_is chunk n = any_same (is_owed chunk n) f.actor.owed (seat_at seats a).owed seat.debts seat.owed

    pub nothing_is : is_nil f.actor.owed ≡ is_nil (seat_at seats a).owed
    nothing_is = nil_same f.actor.owed (seat_at seats a).owed seat.debts seat.owed

    -- the nodes that it holds
    pub held_near : (n : ℕ) → In n (nodes_of f.actor.view) → n < length nodes
    held_near n h = let z = fits.near n h in let y = names in omega arith

    held_seen : (n : ℕ) → In n (nodes_of f.actor.view) → holds nodes seats a n ≡ true
    held_seen n h = ⊎_elim
        (λ (w : slice_index c.words n ≡ held_by (number_of f.actor.view)).
        ap (λ (b : Bool). b || is_this (seat_at seats a).unborn n) (eq_true (code_seen nodes n) (held_by a) (code_here nodes n (held_near n h) ∙ sym (word_at n (held_near n h)) ∙ w ∙ ap held_by own)))
        (λ (w : (f.actor.view.unborn ≡ Some n) × (slice_index c.words n ≡ 2)).
        ap (λ (x : Option ℕ). (code_seen nodes n == held_by a) || is_this x n) (seat.unborn ∙ w.0) ∙ right (code_seen nodes n == held_by a) (n == n) (eq_true n n refl))
        (fits.own n h)
      where
        right : (x y : Bool) → y ≡ true → (x || y) ≡ true
        right true y k = refl
        right false y k = k

    pub seen_held : (n : ℕ) → holds nodes seats a n ≡ true → In n (nodes_of f.actor.view)
    seen_held n h = ⊎_elim
        (λ (e : (code_seen nodes n == held_by a) ≡ true).
        let by : code_seen nodes n ≡ held_by a = eq_is (code_seen nodes n) (held_by a) e in
        let low : n < length nodes = code_near nodes n (λ two. omega arith) in
        let here : n < names_of o = let z = names in omega arith in
        holder_of o c.words (homes_of c.words c.lists) (views_of c.actors) sh.core.sound.0 sound f.place n f.actor.view (view_at o c sh.core f.place f.actor at) acts here
        (word_at n low ∙ sym (code_here nodes n low) ∙ by ∙ ap held_by (sym own)))
        (λ (e : is_this (seat_at seats a).unborn n ≡ true).
        (fits.unborn n (sym seat.unborn ∙ this_is (seat_at seats a).unborn e)).held)
        (or_cases (code_seen nodes n == held_by a) (is_this (seat_at seats a).unborn n) h)
      where
        this_is : (x : Option ℕ) → is_this x n ≡ true → x ≡ Some n
        this_is None k = absurd (let z : false ≡ true = k in cc)
        this_is (Some m) k = ap (λ (j : ℕ). Some j) (eq_is m n k)

    pub holds_is : (n : ℕ) → is_held f.actor.view.held n ≡ holds nodes seats a n
    holds_is n = both_ways (is_held f.actor.view.held n) (holds nodes seats a n)
        (λ e. held_seen n (held_in n f.actor.view.held e))
        (λ e. in_held n f.actor.view.held (seen_held n e))

    -- and the stars that it holds
    pub star_is : (n : ℕ) → star_held f.actor.view.held n ≡ star_seen nodes seats a n
    star_is n = go (holds nodes seats a n) refl
      where
        go : (b : Bool) → holds nodes seats a n ≡ b → star_held f.actor.view.held n ≡ cond b (node_at nodes n).star None
        go true e = star_in_is (λ m. (node_at nodes m).star) n f.actor.view.held (λ p h. sym (mine.stars p h)) (seen_held n e)
        go false e = star_in_none n f.actor.view.held (λ h. absurd (let z : true ≡ false = sym (held_seen n h) ∙ e in cc (z)))

    -- what the event makes of the state is sound, and its history goes on
    pub acted_is : (e : Event) → actor_of e ≡ a → stepped o c e ≡ acted o c e f
    acted_is e is = ap (λ (x : Option Found). by_actor c x (acted o c e)) (ap (λ (k : ℕ). found_from k 0 c.actors) is ∙ found)

    pub acted_core : (e : Event) → actor_of e ≡ a → IsCore o (acted o c e f).state
    acted_core e is = subst (λ (x : Stepped). IsCore o x.state) (acted_is e is) (step_core keeps_outside o c sh.core e)

    pub acted_grows : (e : Event) → actor_of e ≡ a → IsExtended (log_of o c) (log_of o (acted o c e f).state)
    acted_grows e is = subst (λ (x : Stepped). IsExtended (log_of o c) (log_of o x.state)) (acted_is e is) (step_grows keeps_outside o c e sh.core)

-- an actor that is found, of a number that is an actor's
pub record IsActor (s : State) (a : ℕ) : Type 0 where
  pub opening : Opening
  pub state : CoreState
  pub shown : ShowsState opening state s
  pub place : Found
  pub found : found_from a 0 state.actors ≡ Some place

pub lead_near : (seats : List Seat) (a : ℕ) → is_lead seats a ≡ true → a < length seats
lead_near seats a h = lt_is a (length seats) (and_left (nat_lt a (length seats)) ((seat_at seats a).lead == a) h)

pub actor_of_lead : (s : State) (a : ℕ) → IsShownState s → is_lead s.seats.items a ≡ true → IsActor s a
actor_of_lead s a shown h = go (found_from a 0 shown.state.actors) refl
  where
    go : (x : Option Found) → found_from a 0 shown.state.actors ≡ x → IsActor s a
    go (Some f) e = record { opening = shown.opening; state = shown.state; shown = shown.shown; place = f; found = e }
    go None e = absurd (some_found shown.opening shown.state s shown.shown a (lead_near s.seats.items a h)
        (eq_is (seat_at s.seats.items a).lead a (and_right (nat_lt a (length s.seats.items)) ((seat_at s.seats.items a).lead == a) h)) e)

-- an actor holds no more nodes than there are names
absent : (y : ℕ) (ys : List ℕ) → (In y ys → ⊥) → AllByRecursion (λ (z : ℕ). eqb y z ≡ false) ys
absent y [] out = tt
absent y (z ∷ zs) out = (eq_false y z (λ e. out (inl e)), absent y zs (λ h. out (inr h)))

distinct : (xs : List ℕ) → ((n : ℕ) → times n xs ≤ 1) → IsDistinct eqb xs
unfolding IsDistinct
distinct [] one = tt
distinct (x ∷ xs) one = (
  absent x xs (λ h. let z = one x in let y = times_here x xs in let w = times_in x xs h in absurd (omega arith)),
  distinct xs (λ n. let z = one n in let y : times n (x ∷ xs) ≡ cond (x == n) 1 0 + times n xs = refl in omega arith),
)

member : (q : ℕ) (xs : List ℕ) → list_any (eqb q) xs ≡ true → In q xs
member q [] h = absurd (let z : false ≡ true = h in cc)
member q (x ∷ xs) h = ⊎_elim (λ (e : (q == x) ≡ true). inl (eq_is q x e)) (λ (e : list_any (eqb q) xs ≡ true). inr (member q xs e)) (or_cases (q == x) (list_any (eqb q) xs) h)

pub few_held : (s : State) (a : ℕ) → IsShownState s → is_lead s.seats.items a ≡ true → (seat_at s.seats.items a).held ≤ 1048576
few_held s a shown h =
    let r = actor_of_lead s a shown h in
    let sh : ShowsState r.opening r.state s = r.shown in
    let v : View = r.place.actor.view in
    let fit = fits r.opening r.state s sh a r.place r.found in
    let many : length (nodes_of v) ≤ names_of r.opening = length-le_from_distinct_below (nodes_of v) (names_of r.opening) (distinct (nodes_of v) fit.once) (λ q e. fit.near q (member q (nodes_of v) e)) in
    let long : length (nodes_of v) ≡ length v.held = length-map v.held (λ (p : Pair). p.node) in
    let is = (seat r.opening r.state s sh a r.place r.found).held in
    let few = few_names r.opening r.state s sh in
    let same = names r.opening r.state s sh in
    omega arith
