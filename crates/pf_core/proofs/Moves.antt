-- What a state shows after a change of one actor.
use Rattle.std.proofs.Common.{◌≡◌, ◌≢◌, ℕ, zero, suc, ◌+◌, ◌<◌, ◌≤◌, Bool, true, false, cond, List, [], ◌∷◌, ◌++◌, length, map, set, refl, sym, ap, ◌∙◌, subst, inl, inr, ⊎_elim, arith, length-append, append-nil}
use Rattle.std.specs.Prelude.{Option, Some, None, slice_index}
use Rattle.std.proofs.lemmas.List.{get_or-set_other, get_or-set_same, length-set}
use mathlib.Core.Option.{some}
use mathlib.Core.Logic.{dite}
use native.Mathlib.Decide.{ℕ_discrete}
use lib.ListN.{get_elem?}
use Rattle.pf_model.specs.declared.Entry.{Entry}
use Rattle.pf_model.specs.Stars.{Star}
use Rattle.pf_star_model.specs.Lent.{Held as Pair}
use Rattle.pf_core_model.specs.declared.event.Owed.{Owed}
use Rattle.pf_core_model.specs.declared.event.Verdict.{Verdict}
use Rattle.pf_core_model.specs.declared.event.Verdict.TheVariants.{Taken, Ignored}
use Rattle.pf_core_model.specs.declared.sharer.Sharer.{Sharer}
use Rattle.pf_core_model.specs.declared.view.View.{View}
use Rattle.pf_core_model.specs.Lists.{In, Each}
use Rattle.pf_core_model.specs.Core.{Opening, names_of, held_by, number_of, nodes_in, nodes_of}
use Rattle.pf_core_model.specs.Shown.{IsExtended}
use Rattle.pf_core_model.specs.State.{Actor, CoreState, Found, found_from, views_of, homes_of, view_in, tickets_in, log_of, guarded, put, IsCore}
use Rattle.pf_core_model.proofs.Lists.{at_map, at_index, set_again, each_set}
use Rattle.pf_core_model.proofs.Views.{apart, one_number, first_in, node_in}
use Rattle.pf_core_model.proofs.StateLaws.{fits_in, view_at}
use Rattle.pf_core_model.proofs.OneMesh.{shows_one_mesh}
use Rattle.pf_core.specs.declared.state.State.{State}
use Rattle.pf_core.specs.declared.tables.Node.{Node}
use Rattle.pf_core.specs.declared.tables.Seat.{Seat}
use Rattle.pf_core.specs.Tables.{no_node, no_seat, node_at, seat_at, code_seen, code_in, list_in}
use Rattle.pf_core.specs.Shown.{ShowsSeat, ShowsActor, ShowsState, Stays}
use Rattle.pf_core.proofs.Kept.{sound, names, code_near, code_here, word_at, tickets_are, at, acts, own, has_number, near, mine, seat, lead_is, lt_true}

-- what no event changes
pub record IsOf (s t : State) : Type 0 where
  pub first_new : t.first_new ≡ s.first_new
  pub chunks : t.chunks ≡ s.chunks
  pub bands : t.bands.items ≡ s.bands.items

-- a star after a change of one node
pub star_else : (nodes : List Node) (n m : ℕ) (x : Node) → m ≢ n → (node_at (set nodes n x) m).star ≡ (node_at nodes m).star
star_else nodes n m x ne = ap (λ (y : Node). y.star) (get_or-set_other nodes n m x no_node ne)

pub star_here : (nodes : List Node) (n : ℕ) (x : Node) → n < length nodes → (node_at (set nodes n x) n).star ≡ x.star
star_here nodes n x low = ap (λ (y : Node). y.star) (get_or-set_same nodes n x no_node low)

pub star_same : (nodes : List Node) (n m : ℕ) (x : Node) → n < length nodes → x.star ≡ (node_at nodes n).star → (node_at (set nodes n x) m).star ≡ (node_at nodes m).star
star_same nodes n m x low e = dite (ℕ_discrete m n)
    (λ is. ap (λ (k : ℕ). (node_at (set nodes n x) k).star) is ∙ star_here nodes n x low ∙ e ∙ ap (λ (k : ℕ). (node_at nodes k).star) (sym is))
    (λ ne. star_else nodes n m x ne)

-- a guard that fails, and one that holds
pub refused : (o : Opening) (c : CoreState) (s : State) → ShowsState o c s → (g : Bool) (t : CoreState) (v : Option ℕ) → g ≡ false → ShowsState o (guarded g c t v).state s × (Ignored ≡ (guarded g c t v).verdict)
refused o c s sh true t v e = absurd (cc (e))
refused o c s sh false t v e = (sh, refl)

pub taken : (o : Opening) (c : CoreState) (s' : State) (g : Bool) (t : CoreState) (v : Option ℕ) → g ≡ true → ShowsState o t s' → ShowsState o (guarded g c t v).state s' × (Taken v ≡ (guarded g c t v).verdict)
taken o c s' true t v e sh = (sh, refl)
taken o c s' false t v e sh = absurd (cc (e))

pub core_taken : (o : Opening) (c : CoreState) (g : Bool) (t : CoreState) (v : Option ℕ) → g ≡ true → IsCore o (guarded g c t v).state → IsCore o t
core_taken o c true t v e k = k
core_taken o c false t v e k = absurd (cc (e))

pub grows_taken : (o : Opening) (c : CoreState) (g : Bool) (t : CoreState) (v : Option ℕ) → g ≡ true → IsExtended (log_of o c) (log_of o (guarded g c t v).state) → IsExtended (log_of o c) (log_of o t)
grows_taken o c true t v e k = k
grows_taken o c false t v e k = absurd (cc (e))

-- a state with the same tables shows the same
pub stays_as : (s t : State) → IsOf s t → t.log.items ≡ s.log.items → t.nodes.items ≡ s.nodes.items → t.seats.items ≡ s.seats.items → Stays s t
stays_as s t of log nodes seats o c sh =
    record {
      core = sh.core;
      first_new = of.first_new ∙ sh.first_new;
      chunks = of.chunks ∙ sh.chunks;
      bands = of.bands ∙ sh.bands;
      words = sh.words ∙ (λ i. map code_in (sym nodes i) ++ length (sym log i) ∷ []);
      lists = sh.lists ∙ ap (map list_in) (sym nodes);
      log = sh.log ∙ sym log;
      workers = ap length seats ∙ sh.workers;
      actors = λ j x e some_number.
          subst (λ (l : List Node). ShowsActor t.seats.items l x) (sym nodes) (subst (λ (l : List Seat). ShowsActor l s.nodes.items x) (sym seats) (sh.actors j x e some_number));
    }

-- a history as long as before
no_more : (xs : List Entry) → length xs ≡ 0 → xs ≡ []
no_more [] e = refl
no_more (x ∷ xs) e = absurd (omega arith)

pub log_stays : (o : Opening) (c d : CoreState) → IsCore o c → IsCore o d → IsExtended (log_of o c) (log_of o d) → tickets_in o d ≡ tickets_in o c → log_of o d ≡ log_of o c
log_stays o c d k l grown same =
    let one = (shows_one_mesh o c k).long in
    let two = (shows_one_mesh o d l).long in
    let sum = ap length grown.1 ∙ length-append (log_of o c) grown.0 in
    let none : length grown.0 ≡ 0 = omega arith in
    grown.1 ∙ ap (λ (x : List Entry). log_of o c ++ x) (no_more grown.0 none) ∙ append-nil (log_of o c)

module _ (o : Opening) (c : CoreState) (s : State) (sh : ShowsState o c s) (a : ℕ) (f : Found) (found : found_from a 0 c.actors ≡ Some f) where
  abbrev place : ℕ
  place = f.place

  -- another actor has other numbers, and holds other nodes
  pub other_numbers : (j : ℕ) (u : Actor) (m k : ℕ) → j ≢ f.place → get_elem? c.actors j ≡ some u → In m f.actor.view.numbers → In k u.view.numbers → k ≢ m
  other_numbers j u m k ne there own_too h e =
      one_number o c.words (homes_of c.words c.lists) (views_of c.actors) sh.core.sound.0 (sound o c s sh) f.place j f.actor.view u.view m
      (view_at o c sh.core f.place f.actor (at o c s sh a f found)) (view_at o c sh.core j u there) ne own_too (subst (λ (i : ℕ). In i u.view.numbers) e h)

  pub other_number : (j : ℕ) (u : Actor) (k : ℕ) → j ≢ f.place → get_elem? c.actors j ≡ some u → In k u.view.numbers → k ≢ a
  other_number j u k ne there h = other_numbers j u a k ne there (has_number o c s sh a f found) h

  pub other_node : (j : ℕ) (u : Actor) (n : ℕ) → j ≢ f.place → get_elem? c.actors j ≡ some u → In n (nodes_of f.actor.view) → (p : Pair) → In p u.view.held → p.node ≢ n
  other_node j u n ne there mine_too p h e =
      apart o c.words (homes_of c.words c.lists) (views_of c.actors) sh.core.sound.0 (sound o c s sh) f.place j f.actor.view u.view n
      (view_at o c sh.core f.place f.actor (at o c s sh a f found)) (view_at o c sh.core j u there) ne mine_too (subst (λ (k : ℕ). In k (nodes_of u.view)) e (node_in p u.view.held h))

  -- a node that is free is held by no actor
  pub free_node : (j : ℕ) (u : Actor) (n : ℕ) → get_elem? c.actors j ≡ some u → code_seen s.nodes.items n ≡ 0 → (p : Pair) → In p u.view.held → p.node ≢ n
  free_node j u n there free p h e =
      let low : n < length s.nodes.items = code_near s.nodes.items n (λ two. omega arith) in
      let word : slice_index c.words n ≡ 0 = word_at o c s sh n low ∙ sym (code_here s.nodes.items n low) ∙ free in
      ⊎_elim
      (λ (w : slice_index c.words n ≡ held_by (number_of u.view)). absurd (omega arith))
      (λ (w : (u.view.unborn ≡ Some n) × (slice_index c.words n ≡ 2)). let two = w.1 in absurd (omega arith))
      ((fits_in o c sh.core j u there).own n (subst (λ (k : ℕ). In k (nodes_of u.view)) e (node_in p u.view.held h)))

  -- one actor changes, and its seat
  pub put_shows : (t : State) (words' : List ℕ) (lists' : List (List Sharer)) (b : Actor) (seat' : Seat) → IsOf s t
      → IsCore o (record { words = words'; lists = lists'; actors = set c.actors f.place b })
      → words' ≡ map code_in t.nodes.items ++ length t.log.items ∷ [] → lists' ≡ map list_in t.nodes.items
      → log_of o (record { words = words'; lists = lists'; actors = set c.actors f.place b }) ≡ t.log.items
      → t.seats.items ≡ set s.seats.items a seat' → seat'.lead ≡ a → b.view.numbers ≡ f.actor.view.numbers → ShowsSeat seat' b
      → ((p : Pair) → In p b.view.held → (node_at t.nodes.items p.node).star ≡ p.star)
      → ((j : ℕ) (u : Actor) → j ≢ f.place → get_elem? c.actors j ≡ some u → (p : Pair) → In p u.view.held → (node_at t.nodes.items p.node).star ≡ (node_at s.nodes.items p.node).star)
      → ShowsState o (record { words = words'; lists = lists'; actors = set c.actors f.place b }) t
  put_shows t words' lists' b seat' of core' words lists log seats lead numbers shows stars others =
      let low : a < length s.seats.items = near o c s sh a f found in
      let here : seat_at t.seats.items a ≡ seat' = ap (λ (l : List Seat). seat_at l a) seats ∙ get_or-set_same s.seats.items a seat' no_seat low in
      let elsewhere : (k : ℕ) → k ≢ a → seat_at t.seats.items k ≡ seat_at s.seats.items k = λ k ne. ap (λ (l : List Seat). seat_at l k) seats ∙ get_or-set_other s.seats.items a k seat' no_seat ne in
      let num : number_of b.view ≡ a = ap (λ (l : List ℕ). slice_index l 0) numbers ∙ own o c s sh a f found in
      record {
        core = core';
        first_new = of.first_new ∙ sh.first_new;
        chunks = of.chunks ∙ sh.chunks;
        bands = of.bands ∙ sh.bands;
        words = words;
        lists = lists;
        log = log;
        workers = ap length seats ∙ length-set s.seats.items a seat' ∙ sh.workers;
        actors = each_set (λ (x : Actor). x.view.numbers ≢ [] → ShowsActor t.seats.items t.nodes.items x) c.actors f.place b
            (λ _. record {
              leads = λ k h. dite (ℕ_discrete k a)
                  (λ e. ap (λ (j : ℕ). (seat_at t.seats.items j).lead) e ∙ ap (λ (y : Seat). y.lead) here ∙ lead ∙ sym num)
                  (λ ne. ap (λ (y : Seat). y.lead) (elsewhere k ne) ∙ (mine o c s sh a f found).leads k (subst (λ (l : List ℕ). In k l) numbers h) ∙ own o c s sh a f found ∙ sym num);
              seat = subst (λ (j : ℕ). ShowsSeat (seat_at t.seats.items j) b) (sym num) (subst (λ (y : Seat). ShowsSeat y b) (sym here) shows);
              stars = stars;
            })
            (λ j u ne there some_number.
            let old = sh.actors j u there some_number in
            let far : number_of u.view ≢ a = other_number j u (number_of u.view) ne there (first_in u.view.numbers some_number) in
            record {
              leads = λ k h. ap (λ (y : Seat). y.lead) (elsewhere k (other_number j u k ne there h)) ∙ old.leads k h;
              seat = subst (λ (y : Seat). ShowsSeat y u) (sym (elsewhere (number_of u.view) far)) old.seat;
              stars = λ p h. others j u ne there p h ∙ old.stars p h;
            });
      }

  -- a view that learns something, and changes nothing that is kept
  pub learn_shows : (w : View) → IsCore o (put c f.place record { view = w; owed = f.actor.owed }) → IsExtended (log_of o c) (log_of o (put c f.place record { view = w; owed = f.actor.owed }))
      → w.numbers ≡ f.actor.view.numbers → w.allowance ≡ f.actor.view.allowance → w.held ≡ f.actor.view.held → w.unborn ≡ f.actor.view.unborn
      → ShowsState o (put c f.place record { view = w; owed = f.actor.owed }) s
  learn_shows w core' grown numbers allowance held unborn =
      let low : a < length s.seats.items = near o c s sh a f found in
      let t : Seat = seat_at s.seats.items a in
      let old : ShowsSeat t f.actor = seat o c s sh a f found in
      put_shows s c.words c.lists (record { view = w; owed = f.actor.owed }) t (record { first_new = refl; chunks = refl; bands = refl }) core' sh.words sh.lists
      (log_stays o c (put c f.place record { view = w; owed = f.actor.owed }) sh.core core' grown refl ∙ sh.log)
      (sym (set_again s.seats.items a t (at_index s.seats.items a no_seat low)))
      (lead_is o c s sh a f found) numbers
      (record {
        allowance = old.allowance ∙ sym allowance;
        held = old.held ∙ ap (λ (l : List Pair). length l) (sym held);
        unborn = old.unborn ∙ sym unborn;
        absent = λ n e. subst (λ (l : List Pair). In (record { node = n; star = None }) l) (sym held) (old.absent n e);
        absences = λ p h. old.absences p (subst (λ (l : List Pair). In p l) held h);
        owed = old.owed;
        debts = old.debts;
      })
      (λ p h. (mine o c s sh a f found).stars p (subst (λ (l : List Pair). In p l) held h))
      (λ j u ne there p h. refl)
