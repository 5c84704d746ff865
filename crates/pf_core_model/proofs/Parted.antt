-- An actor is split off, or joined to another: the state stays sound.
use Rattle.std.proofs.Common.{◌≡◌, ◌≢◌, ℕ, ◌+◌, ◌<◌, ◌≤◌, List, [], ◌∷◌, ◌++◌, set, refl, sym, ap, ◌∙◌, subst, inl, inr, ⊎_elim, arith}
use Rattle.std.specs.Prelude.{slice_index, Some}
use Rattle.std.proofs.lemmas.List.{map-append}
use mathlib.Core.Option.{some, some-injective}
use lib.ListN.{get_elem?}
use Rattle.pf_model.specs.declared.Entry.{Entry}
use Rattle.pf_core_model.specs.declared.view.View.{View}
use Rattle.pf_core_model.specs.Lists.{In, times, total}
use Rattle.pf_core_model.specs.Moves.{spares_in, left_of, right_of, both_of, spent_view}
use Rattle.pf_core_model.specs.Core.{Opening, held_by, number_of, nodes_in, nodes_of, tickets_of, Fits, Homes, Sound}
use Rattle.pf_core_model.proofs.Lists.{set_else, at_longer, at_snoc, total_set, total_snoc, total_at, each_set, in_none, in_either, in_left, not_none, times-append, spare_counts, in_but_spare, in_spares, first_stays, some_stay, first_of_both}
use Rattle.pf_core_model.proofs.Views.{some_not_none, held_set, unborn_set}

module _ (o : Opening) (words : List ℕ) (homes : Homes) (views : List View) (log : List Entry) (s : Sound o words homes views log) where
  -- a spare number and a share of the allowance are split off
  pub splits : (id b share : ℕ) (v : View) → get_elem? views id ≡ some v → In b (spares_in v.numbers) → v.held ≡ [] → share ≤ v.allowance
      → Sound o words homes (set views id (left_of b share v) ++ right_of b share v ∷ []) log
  splits id b share v at spare empty rich =
      let l : View = left_of b share v in
      let r : View = right_of b share v in
      let views' : List View = set views id l in
      let f = s.fits id v at in
      let inside : In b v.numbers = in_spares b v.numbers spare in
      let actor : v.numbers ≢ [] = in_none b v.numbers inside in
      let low : b < o.workers = f.below b inside in
      let one : times b v.numbers ≤ 1 = let x = total_at (λ (u : View). times b u.numbers) views id v at in let y = s.numbers b low in omega arith in
      let sums : (g : View → ℕ) → total g (views' ++ r ∷ []) + g v ≡ total g views + g l + g r = λ g. let x = total_snoc g views' r in let y = total_set g views id v l at in omega arith in
      let nums : (k : ℕ) → total (λ (u : View). times k u.numbers) (views' ++ r ∷ []) ≡ total (λ (u : View). times k u.numbers) views
      = λ k. let x = sums (λ (u : View). times k u.numbers) in let y = spare_counts k b v.numbers spare one in omega arith in
      let ones : (t : ℕ) → total (λ (u : View). times t (tickets_of u)) (views' ++ r ∷ []) ≡ total (λ (u : View). times t (tickets_of u)) views
      = λ t. let x = sums (λ (u : View). times t (tickets_of u)) in omega arith in
      let clear : (m : ℕ) → v.unborn ≡ Some m → ⊥ = λ m e. in_none m (nodes_of v) (f.unborn m e).held (ap nodes_in empty) in
      let fits : (j : ℕ) (u : View) → get_elem? (views' ++ r ∷ []) j ≡ some u → Fits o words log u = λ j u e. ⊎_elim
      (λ (x : get_elem? views' j ≡ some u). each_set (Fits o words log) views id l
      record {
        knows = λ _. f.knows actor;
        below = λ k h. f.below k (in_but_spare k b v.numbers h);
        spent = λ x. absurd (some_stay b v.numbers spare x);
        near = f.near;
        own = λ m h. absurd (in_none m (nodes_of v) h (ap nodes_in empty));
        pairs = f.pairs;
        once = f.once;
        unborn = λ m e. absurd (clear m e);
        done = f.done;
        seen = f.seen;
        dead = f.dead;
        refusals = f.refusals;
        marks = f.marks;
      }
      (λ i y _ z. s.fits i y z) j u x)
      (λ (x : r ≡ u). subst (Fits o words log) x
      record {
        knows = λ _. f.knows actor;
        below = λ k. ⊎_elim (λ (e : k ≡ b). subst (λ (m : ℕ). m < o.workers) (sym e) low) (λ h. absurd h);
        spent = λ x. absurd (cc (x));
        near = λ m h. absurd h;
        own = λ m h. absurd h;
        pairs = λ p h. absurd h;
        once = λ m. omega arith;
        unborn = λ m e. absurd (some_not_none m (sym e));
        done = λ d h. absurd h;
        seen = f.seen;
        dead = λ m h. absurd h;
        refusals = λ m h. absurd h;
        marks = λ m h. absurd h;
      })
      (at_snoc views' r u j e) in
      record {
        words_long = s.words_long;
        homes_long = s.homes_long;
        tickets = s.tickets;
        budget = let x = sums (λ (u : View). u.allowance) in let y = s.budget in omega arith;
        numbers = λ k h. nums k ∙ s.numbers k h;
        once = λ t h. ones t ∙ s.once t h;
        no_more = λ t h. ones t ∙ s.no_more t h;
        small = s.small;
        conforming = s.conforming;
        fresh = s.fresh;
        legal = s.legal;
        fits = fits;
        free = s.free;
        dead = s.dead;
        held = λ m close two. let h = held_set views id v l (slice_index words m) m at (first_stays b v.numbers) (λ k. k) (s.held m close two) in
            record { place = h.place; view = h.view; at = at_longer views' (r ∷ []) h.place h.view h.at; named = h.named; holds = h.holds };
        read = s.read;
        unmade = s.unmade;
        unborn = λ m close two is. let h = unborn_set views id v l m at (λ e. e) (s.unborn m close two is) in
            record { place = h.place; view = h.view; at = at_longer views' (r ∷ []) h.place h.view h.at; holds = h.holds };
      }

  -- what another actor has is joined to this one
  pub joins : (id other : ℕ) (v u : View) → get_elem? views id ≡ some v → other ≢ id → get_elem? views other ≡ some u → v.numbers ≢ [] → u.held ≡ []
      → Sound o words homes (set (set views id (both_of v u)) other spent_view) log
  joins id other v u at ne there actor empty =
      let b : View = both_of v u in
      let views' : List View = set views id b in
      let there' : get_elem? views' other ≡ some u = set_else views id other b ne ∙ there in
      let f = s.fits id v at in
      let g = s.fits other u there in
      let sums : (h : View → ℕ) → total h (set views' other spent_view) + h u + h v ≡ total h views + h b + h spent_view = λ h. let x = total_set h views' other u spent_view there' in let y = total_set h views id v b at in omega arith in
      let ones : (t : ℕ) → total (λ (y : View). times t (tickets_of y)) (set views' other spent_view) ≡ total (λ (y : View). times t (tickets_of y)) views
      = λ t. let x = sums (λ (y : View). times t (tickets_of y)) in
      let y : times t (tickets_of b) ≡ times t (tickets_of v) + times t (tickets_of u) = ap (times t) (map-append (λ (e : Entry). e.ticket) v.entries u.entries) ∙ times-append t (tickets_of v) (tickets_of u) in omega arith in
      let nums : (k : ℕ) → total (λ (y : View). times k y.numbers) (set views' other spent_view) ≡ total (λ (y : View). times k y.numbers) views
      = λ k. let x = sums (λ (y : View). times k y.numbers) in let y = times-append k v.numbers u.numbers in omega arith in
      let num : number_of b ≡ number_of v = first_of_both v.numbers u.numbers actor in
      let fits : (j : ℕ) (y : View) → get_elem? (set views' other spent_view) j ≡ some y → Fits o words log y = each_set (Fits o words log) views' other spent_view
      record { knows = λ x. absurd (x refl); below = λ k h. absurd h; spent = λ _. (refl, refl, refl); near = λ m h. absurd h; own = λ m h. absurd h; pairs = λ p h. absurd h; once = λ m. omega arith; unborn = λ m e. absurd (some_not_none m (sym e)); done = λ d h. absurd h; seen = omega arith; dead = λ m h. absurd h; refusals = λ r h. absurd h; marks = λ m h. absurd h }
      (λ j y _ e. each_set (Fits o words log) views id b
      record {
        knows = λ _. f.knows actor;
        below = λ k h. ⊎_elim (λ (x : In k v.numbers). f.below k x) (λ (x : In k u.numbers). g.below k x) (in_either k v.numbers u.numbers h);
        spent = λ x. absurd (not_none v.numbers u.numbers actor x);
        near = f.near;
        own = λ m h. ⊎_elim (λ (x : slice_index words m ≡ held_by (number_of v)). inl (x ∙ ap held_by (sym num))) (λ (x : (v.unborn ≡ Some m) × (slice_index words m ≡ 2)). inr x) (f.own m h);
        pairs = f.pairs;
        once = f.once;
        unborn = λ m x. let z = f.unborn m x in record { held = z.held; never = z.never; entry = z.entry; entered = in_more z.entry v.entries u.entries z.entered; made = z.made; neighbours = z.neighbours };
        done = λ d h. ⊎_elim (λ (x : In d v.entries). let z = f.done d x in (z.0, let q : d.ticket < v.seen = z.1 in omega arith)) (λ (x : In d u.entries). let z = g.done d x in (z.0, let q : d.ticket < u.seen = z.1 in omega arith)) (in_either d v.entries u.entries h);
        seen = let x = f.seen in let z = g.seen in omega arith;
        dead = λ m h. ⊎_elim (λ (x : In m v.dead). f.dead m x) (λ (x : In m u.dead). g.dead m x) (in_either m v.dead u.dead h);
        refusals = λ m h. ⊎_elim (λ (x : In m v.refusals). f.refusals m x) (λ (x : In m u.refusals). g.refusals m x) (in_either m v.refusals u.refusals h);
        marks = λ m h. ⊎_elim (λ (x : In m v.marks). f.marks m x) (λ (x : In m u.marks). g.marks m x) (in_either m v.marks u.marks h);
      }
      (λ i z _ x. s.fits i z x) j y e) in
      record {
        words_long = s.words_long;
        homes_long = s.homes_long;
        tickets = s.tickets;
        budget = let x = sums (λ (y : View). y.allowance) in let y = s.budget in omega arith;
        numbers = λ k h. nums k ∙ s.numbers k h;
        once = λ t h. ones t ∙ s.once t h;
        no_more = λ t h. ones t ∙ s.no_more t h;
        small = s.small;
        conforming = s.conforming;
        fresh = s.fresh;
        legal = s.legal;
        fits = fits;
        free = s.free;
        dead = s.dead;
        held = λ m close two.
            let h = held_set views id v b (slice_index words m) m at num (λ k. k) (s.held m close two) in
            let far : h.place ≢ other = λ e. absurd (in_none m (nodes_of h.view) h.holds (ap nodes_of (some-injective h.view u (sym h.at ∙ ap (λ (k : ℕ). get_elem? views' k) e ∙ there')) ∙ ap nodes_in empty)) in
            record { place = h.place; view = h.view; at = set_else views' other h.place spent_view far ∙ h.at; named = h.named; holds = h.holds };
        read = s.read;
        unmade = s.unmade;
        unborn = λ m close two is.
            let h = unborn_set views id v b m at (λ e. e) (s.unborn m close two is) in
            let far : h.place ≢ other = λ e.
            let z : u.unborn ≡ Some m = ap (λ (y : View). y.unborn) (sym (some-injective h.view u (sym h.at ∙ ap (λ (k : ℕ). get_elem? views' k) e ∙ there'))) ∙ h.holds in
            absurd (in_none m (nodes_of u) (g.unborn m z).held (ap nodes_in empty)) in
            record { place = h.place; view = h.view; at = set_else views' other h.place spent_view far ∙ h.at; holds = h.holds };
      }
    where
      in_more : (d : Entry) (xs ys : List Entry) → In d xs → In d (xs ++ ys)
      in_more d xs ys h = in_left d xs ys h
