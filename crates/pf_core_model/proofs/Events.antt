-- A node is held, born, or put back: the state stays sound.
use Rattle.std.proofs.Common.{◌≡◌, ◌≢◌, ℕ, ◌<◌, ◌≤◌, Bool, true, false, cond, ◌==◌, List, [], ◌∷◌, length, set, refl, sym, ap, ◌∙◌, subst, inl, inr, ⊎_elim, arith}
use Rattle.std.specs.Prelude.{slice_index, Some, None}
use Rattle.std.proofs.lemmas.List.{get_or-set_other, get_or-set_same, length-set}
use Rattle.std.proofs.lemmas.Bool.Decides.{nat_tests}
use mathlib.Core.Option.{Option as Place, none, some}
use mathlib.Core.Logic.{dite}
use native.Mathlib.Decide.{ℕ_discrete}
use lib.ListN.{get_elem?}
use Rattle.pf_model.specs.declared.Entry.{Entry}
use Rattle.pf_model.specs.Stars.{Star}
use Rattle.pf_core_model.specs.declared.sharer.Sharer.{Sharer}
use Rattle.pf_core_model.specs.declared.view.View.{View}
use Rattle.pf_star_model.specs.Lent.{Held}
use Rattle.pf_core_model.specs.Lists.{In, times}
use Rattle.pf_core_model.specs.Cavity.{is_made}
use Rattle.pf_core_model.specs.Sharers.{sharers_in}
use Rattle.pf_core_model.specs.Moves.{locked, born, without, released}
use Rattle.pf_core_model.specs.Core.{Opening, names_of, star_after, held_by, number_of, nodes_in, nodes_of, Fits, Homes, IsFree, IsDead, Sound}
use Rattle.pf_core_model.proofs.Lists.{set_here, set_else, at_set_here, times_out, times_here, times_else}
use Rattle.pf_core_model.proofs.Replays.{made_in}
use Rattle.pf_core_model.proofs.Views.{some_is, some_not_none, node_in, fits_words, acts, apart, at_name}

pub in_without : (n : ℕ) (p : Held) (ps : List Held) → In p (without n ps) → In p ps
in_without n p [] h = absurd h
in_without n p (q ∷ qs) h = go (q.node == n) (λ k. in_without n p qs k) h
  where
    go : (t : Bool) → (In p (without n qs) → In p qs) → In p (cond t (without n qs) (q ∷ without n qs)) → In p (q ∷ qs)
    go true f k = inr (f k)
    go false f (inl e) = inl e
    go false f (inr k) = inr (f k)

pub node_in_without : (n m : ℕ) (ps : List Held) → In m (nodes_in (without n ps)) → In m (nodes_in ps) × (m ≢ n)
node_in_without n m [] h = absurd h
node_in_without n m (q ∷ qs) h = dite (ℕ_discrete q.node n)
    (λ e. let is : (q.node == n) ≡ true = grind (arith, nat_tests) in
    let r = node_in_without n m qs (subst (λ (b : Bool). In m (nodes_in (cond b (without n qs) (q ∷ without n qs)))) is h) in (inr r.0, r.1))
    (λ ne. let is : (q.node == n) ≡ false = grind (arith, nat_tests) in
    ⊎_elim (λ (e : m ≡ q.node). (inl e, λ x. ne (sym e ∙ x))) (λ (k : In m (nodes_in (without n qs))). let r = node_in_without n m qs k in (inr r.0, r.1))
    (subst (λ (b : Bool). In m (nodes_in (cond b (without n qs) (q ∷ without n qs)))) is h))

pub node_stays : (n m : ℕ) (ps : List Held) → In m (nodes_in ps) → m ≢ n → In m (nodes_in (without n ps))
node_stays n m [] h ne = absurd h
node_stays n m (q ∷ qs) (inl e) ne =
    let far : q.node ≢ n = λ x. ne (e ∙ x) in
    let is : (q.node == n) ≡ false = grind (arith, nat_tests) in
    subst (λ (b : Bool). In m (nodes_in (cond b (without n qs) (q ∷ without n qs)))) (sym is) (inl e)
node_stays n m (q ∷ qs) (inr h) ne = go (q.node == n) (node_stays n m qs h ne)
  where
    go : (t : Bool) → In m (nodes_in (without n qs)) → In m (nodes_in (cond t (without n qs) (q ∷ without n qs)))
    go true k = k
    go false k = inr k

times_less : (n m : ℕ) (ps : List Held) → times m (nodes_in (without n ps)) ≤ times m (nodes_in ps)
times_less n m [] = omega arith
times_less n m (q ∷ qs) = go (q.node == n) (times_less n m qs)
  where
    go : (t : Bool) → times m (nodes_in (without n qs)) ≤ times m (nodes_in qs) → times m (nodes_in (cond t (without n qs) (q ∷ without n qs))) ≤ times m (nodes_in (q ∷ qs))
    go true k = omega arith
    go false k = omega arith

module _ (o : Opening) (words : List ℕ) (homes : Homes) (views : List View) (log : List Entry) (s : Sound o words homes views log) where
  -- a free node is held; its home may become anything
  pub locks_in : (homes' : Homes) (id n : ℕ) (v : View) → length homes' ≡ length homes → ((m : ℕ) → m ≢ n → get_elem? homes' m ≡ get_elem? homes m)
      → get_elem? views id ≡ some v → v.numbers ≢ [] → n < names_of o → slice_index words n ≡ 0
      → Sound o (set words n (held_by (number_of v))) homes' (set views id (locked v n (star_after o log n))) log
  locks_in homes' id n v full home_else at actor near free =
      let w : View = locked v n (star_after o log n) in
      let x : ℕ = held_by (number_of v) in
      let words' : List ℕ = set words n x in
      let wide = s.words_long in
      let f = s.fits id v at in
      let here : slice_index words' n ≡ x = get_or-set_same words n x 0 (omega arith) in
      let same : (m : ℕ) → m ≢ n → slice_index words' m ≡ slice_index words m = λ m ne. get_or-set_other words n m x 0 ne in
      let away : (u : View) → Fits o words log u → In n (nodes_of u) → ⊥
      = λ u g h. ⊎_elim (λ (y : slice_index words n ≡ held_by (number_of u)). absurd (omega arith)) (λ (y : (u.unborn ≡ Some n) × (slice_index words n ≡ 2)). let z = y.1 in absurd (omega arith)) (g.own n h) in
      let base = fits_words o words words' log v n same (away v f) (λ d. let z = (f.dead n d).1 in absurd (omega arith)) f in
      at_name o words homes views log s n x homes' id v w full home_else at near refl refl refl
      (λ m _ h. inr h) (λ m _ e. e)
      record {
        knows = base.knows;
        below = base.below;
        spent = λ e. absurd (actor e);
        near = λ m. ⊎_elim (λ (e : m ≡ n). subst (λ (k : ℕ). k < names_of o) (sym e) near) (base.near m);
        own = λ m. ⊎_elim (λ (e : m ≡ n). inl (ap (λ (k : ℕ). slice_index words' k) e ∙ here)) (base.own m);
        pairs = λ p. ⊎_elim (λ (e : p ≡ record { node = n; star = star_after o log n }). ap (λ (q : Held). q.star) e ∙ ap (λ (q : Held). star_after o log q.node) (sym e)) (base.pairs p);
        once = λ m. dite (ℕ_discrete n m)
            (λ e. let z = times_out n (nodes_of v) (away v f) in subst (λ (k : ℕ). times k (n ∷ nodes_of v) ≤ 1) e (let r = times_here n (nodes_of v) in omega arith))
            (λ ne. let z = base.once m in let r = times_else m n (nodes_of v) ne in omega arith);
        unborn = λ m e. let y = base.unborn m e in record { held = inr y.held; never = y.never; entry = y.entry; entered = y.entered; made = y.made; neighbours = λ k h. inr (y.neighbours k h) };
        done = base.done;
        seen = base.seen;
        dead = base.dead;
        refusals = base.refusals;
        marks = base.marks;
      }
      (λ j u e ne. away u (s.fits j u e)) (λ e. omega arith) (λ e. omega arith)
      (λ up is. let r = (s.unmade n near up is).0 in absurd (omega arith))
      (λ e. absurd (omega arith)) (λ e. absurd (omega arith))
      (λ _. record { place = id; view = w; at = at_set_here views id v w at; named = refl; holds = inl refl })

  -- the unborn node is held as any other
  pub births_in : (homes' : Homes) (id n : ℕ) (v : View) → length homes' ≡ length homes → ((m : ℕ) → m ≢ n → get_elem? homes' m ≡ get_elem? homes m)
      → get_elem? views id ≡ some v → v.unborn ≡ Some n → Sound o (set words n (held_by (number_of v))) homes' (set views id (born v)) log
  births_in homes' id n v full home_else at is =
      let w : View = born v in
      let x : ℕ = held_by (number_of v) in
      let words' : List ℕ = set words n x in
      let wide = s.words_long in
      let f = s.fits id v at in
      let y = f.unborn n is in
      let near = f.near n y.held in
      let was = y.never in
      let here : slice_index words' n ≡ x = get_or-set_same words n x 0 (omega arith) in
      let same : (m : ℕ) → m ≢ n → slice_index words' m ≡ slice_index words m = λ m ne. get_or-set_other words n m x 0 ne in
      at_name o words homes views log s n x homes' id v w full home_else at near refl refl refl
      (λ m _ h. h) (λ m ne e. absurd (ne (some_is m n (sym e ∙ is))))
      record {
        knows = f.knows;
        below = f.below;
        spent = f.spent;
        near = f.near;
        own = λ m h. dite (ℕ_discrete m n)
            (λ e. inl (ap (λ (k : ℕ). slice_index words' k) e ∙ here))
            (λ ne. ⊎_elim (λ (z : slice_index words m ≡ held_by (number_of v)). inl (same m ne ∙ z)) (λ (z : (v.unborn ≡ Some m) × (slice_index words m ≡ 2)). absurd (ne (some_is m n (sym z.0 ∙ is)))) (f.own m h));
        pairs = f.pairs;
        once = f.once;
        unborn = λ m e. absurd (some_not_none m (sym e));
        done = f.done;
        seen = f.seen;
        dead = λ m h. let z = f.dead m h in (z.0, same m (λ e. let a : slice_index words m ≡ slice_index words n = ap (λ (k : ℕ). slice_index words k) e in let b = z.1 in omega arith) ∙ z.1);
        refusals = f.refusals;
        marks = f.marks;
      }
      (λ j u e ne h. apart o words homes views log s id j v u n at e ne y.held h) (λ e. omega arith) (λ e. omega arith)
      (λ up no. let z : true ≡ false = sym (made_in o.mesh.first_new n log y.entry.ticket y.entry (f.done y.entry y.entered).0 y.made) ∙ no in absurd (cc (z)))
      (λ e. absurd (omega arith)) (λ e. absurd (omega arith))
      (λ _. record { place = id; view = w; at = at_set_here views id v w at; named = refl; holds = y.held })

  -- a held node is put back, under the word x
  puts_back : (homes' : Homes) (id n x : ℕ) (v : View) → length homes' ≡ length homes → ((m : ℕ) → m ≢ n → get_elem? homes' m ≡ get_elem? homes m)
      → get_elem? views id ≡ some v → In n (nodes_of v) → v.unborn ≡ None → x < 2
      → (x ≡ 0 → IsFree o homes' log n) → (x ≡ 1 → IsDead o homes' log n) → Sound o (set words n x) homes' (set views id (released v n)) log
  puts_back homes' id n x v full home_else at mine clear low free dead =
      let w : View = released v n in
      let words' : List ℕ = set words n x in
      let wide = s.words_long in
      let f = s.fits id v at in
      let near = f.near n mine in
      let own : (m : ℕ) → In m (nodes_of v) → slice_index words m ≡ held_by (number_of v)
      = λ m k. ⊎_elim (λ (z : slice_index words m ≡ held_by (number_of v)). z) (λ (z : (v.unborn ≡ Some m) × (slice_index words m ≡ 2)). absurd (some_not_none m (sym z.0 ∙ clear))) (f.own m k) in
      let was = own n mine in
      let same : (m : ℕ) → m ≢ n → slice_index words' m ≡ slice_index words m = λ m ne. get_or-set_other words n m x 0 ne in
      at_name o words homes views log s n x homes' id v w full home_else at near refl refl refl
      (λ m ne k. node_stays n m v.held k ne) (λ m _ e. e)
      record {
        knows = f.knows;
        below = f.below;
        spent = λ e. absurd (acts o words homes views log s v f n mine e);
        near = λ m k. f.near m (node_in_without n m v.held k).0;
        own = λ m k. let r = node_in_without n m v.held k in inl (same m r.1 ∙ own m r.0);
        pairs = λ p k. f.pairs p (in_without n p v.held k);
        once = λ m. let a = times_less n m v.held in let b = f.once m in omega arith;
        unborn = λ m e. absurd (some_not_none m (sym e ∙ clear));
        done = f.done;
        seen = f.seen;
        dead = λ m k. let z = f.dead m k in (z.0, same m (λ e. let a : slice_index words m ≡ slice_index words n = ap (λ (j : ℕ). slice_index words j) e in let b = z.1 in omega arith) ∙ z.1);
        refusals = f.refusals;
        marks = f.marks;
      }
      (λ j u e ne k. apart o words homes views log s id j v u n at e ne mine k) (λ e. omega arith) (λ e. omega arith)
      (λ up no. let z = (s.unmade n near up no).0 in absurd (omega arith))
      free dead (λ b. absurd (omega arith))

  -- a node whose star is held is free again, where its copies at home are the due ones of that star
  pub releases_in : (homes' : Homes) (id n : ℕ) (star : Star) (v : View) → length homes' ≡ length homes → ((m : ℕ) → m ≢ n → get_elem? homes' m ≡ get_elem? homes m)
      → get_elem? views id ≡ some v → In (record { node = n; star = Some star }) v.held → v.unborn ≡ None → get_elem? homes' n ≡ some (some (sharers_in o.mesh.chunks (Some star)))
      → Sound o (set words n 0) homes' (set views id (released v n)) log
  releases_in homes' id n star v full home_else at mine clear copies =
      let f = s.fits id v at in
      let held : In n (nodes_of v) = node_in (record { node = n; star = Some star }) v.held mine in
      puts_back homes' id n 0 v full home_else at held clear (omega arith)
      (λ _. record { star = star; live = sym (f.pairs (record { node = n; star = Some star }) mine); copies = copies })
      (λ e. absurd (omega arith))

  -- a node whose absence is held is dead, where it has no copy at home
  pub buries_in : (homes' : Homes) (id n : ℕ) (v : View) → length homes' ≡ length homes → ((m : ℕ) → m ≢ n → get_elem? homes' m ≡ get_elem? homes m)
      → get_elem? views id ≡ some v → In (record { node = n; star = None }) v.held → v.unborn ≡ None → get_elem? homes' n ≡ some (some [])
      → Sound o (set words n 1) homes' (set views id (released v n)) log
  buries_in homes' id n v full home_else at mine clear copies =
      let f = s.fits id v at in
      let held : In n (nodes_of v) = node_in (record { node = n; star = None }) v.held mine in
      puts_back homes' id n 1 v full home_else at held clear (omega arith)
      (λ e. absurd (omega arith))
      (λ _. record { gone = sym (f.pairs (record { node = n; star = None }) mine); copies = copies })

  -- the same with the homes of a table: a slot is taken, or given back
  pub locks : (id n : ℕ) (v : View) → get_elem? views id ≡ some v → v.numbers ≢ [] → n < names_of o → slice_index words n ≡ 0
      → Sound o (set words n (held_by (number_of v))) (set homes n none) (set views id (locked v n (star_after o log n))) log
  locks id n v at actor near free = locks_in (set homes n none) id n v (length-set homes n none) (λ m ne. set_else homes n m none ne) at actor near free

  pub births : (id n : ℕ) (v : View) → get_elem? views id ≡ some v → v.unborn ≡ Some n → Sound o (set words n (held_by (number_of v))) homes (set views id (born v)) log
  births id n v at is = births_in homes id n v refl (λ m _. refl) at is

  pub releases : (id n : ℕ) (star : Star) (v : View) → get_elem? views id ≡ some v → In (record { node = n; star = Some star }) v.held → v.unborn ≡ None
      → Sound o (set words n 0) (set homes n (some (sharers_in o.mesh.chunks (Some star)))) (set views id (released v n)) log
  releases id n star v at mine clear =
      let h : Place (List Sharer) = some (sharers_in o.mesh.chunks (Some star)) in
      let full = s.homes_long in
      let near = (s.fits id v at).near n (node_in (record { node = n; star = Some star }) v.held mine) in
      releases_in (set homes n h) id n star v (length-set homes n h) (λ m ne. set_else homes n m h ne) at mine clear (set_here homes n h (omega arith))

  pub buries : (id n : ℕ) (v : View) → get_elem? views id ≡ some v → In (record { node = n; star = None }) v.held → v.unborn ≡ None
      → Sound o (set words n 1) (set homes n (some [])) (set views id (released v n)) log
  buries id n v at mine clear =
      let full = s.homes_long in
      let near = (s.fits id v at).near n (node_in (record { node = n; star = None }) v.held mine) in
      buries_in (set homes n (some [])) id n v (length-set homes n (some [])) (λ m ne. set_else homes n m (some []) ne) at mine clear (set_here homes n (some []) (omega arith))

  -- the copies of a node that is held, unborn or not, may be anything
  pub in_hands : (homes' : Homes) (n : ℕ) → length homes' ≡ length homes → ((m : ℕ) → m ≢ n → get_elem? homes' m ≡ get_elem? homes m)
      → 2 ≤ slice_index words n → (slice_index words n ≡ 2 → is_made o.mesh.first_new log n ≡ true) → Sound o words homes' views log
  in_hands homes' n full home_else two made =
      record {
        words_long = s.words_long;
        homes_long = full ∙ s.homes_long;
        tickets = s.tickets;
        budget = s.budget;
        numbers = s.numbers;
        once = s.once;
        no_more = s.no_more;
        small = s.small;
        conforming = s.conforming;
        fresh = s.fresh;
        legal = s.legal;
        fits = s.fits;
        free = λ m b is. let ne : m ≢ n = λ e. let z : slice_index words m ≡ slice_index words n = ap (λ (k : ℕ). slice_index words k) e in omega arith in
            let r = s.free m b is in record { star = r.star; live = r.live; copies = home_else m ne ∙ r.copies };
        dead = λ m b is. let ne : m ≢ n = λ e. let z : slice_index words m ≡ slice_index words n = ap (λ (k : ℕ). slice_index words k) e in omega arith in
            let r = s.dead m b is in record { gone = r.gone; copies = home_else m ne ∙ r.copies };
        held = s.held;
        read = s.read;
        unmade = λ m b up is. let r = s.unmade m b up is in
            let ne : m ≢ n = λ e. let w : slice_index words n ≡ 2 = ap (λ (k : ℕ). slice_index words k) (sym e) ∙ r.0 in
            let z : true ≡ false = sym (made w) ∙ ap (λ (k : ℕ). is_made o.mesh.first_new log k) (sym e) ∙ is in absurd (cc (z)) in
            (r.0, home_else m ne ∙ r.1);
        unborn = s.unborn;
      }
