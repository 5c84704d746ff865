-- What is common to the events: no two views hold one node, a view whose node is not concerned, and a step at one name.
use Rattle.std.proofs.Common.{◌≡◌, ◌≢◌, ℕ, ◌+◌, ◌<◌, ◌≤◌, true, false, List, [], ◌∷◌, length, set, map, refl, sym, ap, ◌∙◌, subst, inl, ⊎_elim, arith}
use Rattle.std.specs.Prelude.{slice_index, Option, Some, None, is_some, unwrap_or}
use Rattle.std.proofs.lemmas.List.{get_or-set_other, get_or-set_same, length-set}
use mathlib.Core.Option.{some, some-injective}
use mathlib.Core.Logic.{dite}
use native.Mathlib.Decide.{ℕ_discrete}
use lib.ListN.{get_elem?}
use Rattle.pf_model.specs.declared.Entry.{Entry}
use Rattle.pf_core_model.specs.declared.view.View.{View}
use Rattle.pf_star_model.specs.Lent.{Held}
use Rattle.pf_core_model.specs.Lists.{In, times, total}
use Rattle.pf_core_model.specs.Cavity.{is_made}
use Rattle.pf_core_model.specs.Core.{Opening, names_of, held_by, number_of, nodes_in, nodes_of, tickets_of, IsOwnWord, Fits, IsHeldIn, IsUnbornIn, Homes, IsFree, IsDead, Sound}
use Rattle.pf_core_model.proofs.Lists.{set_else, at_set_here, total_two, total_same, each_set, in_none, in_map, times_in}
use Rattle.pf_core_model.proofs.Replays.{made_name}

pub some_is : (n m : ℕ) → Some n ≡ Some m → n ≡ m
some_is n m e = ap (λ (x : Option ℕ). unwrap_or x 0) e

pub some_not_none : {A : Type 0} (x : A) → Some x ≡ None → ⊥
some_not_none x e = let z : true ≡ false = ap is_some e in cc

pub first_in : (l : List ℕ) → l ≢ [] → In (slice_index l 0) l
first_in [] n = absurd (n refl)
first_in (x ∷ xs) n = inl refl

-- the node of a held pair
pub node_in : (p : Held) (ps : List Held) → In p ps → In p.node (nodes_in ps)
node_in p ps h = in_map (λ (q : Held). q.node) p ps h

pub held_set : (views : List View) (id : ℕ) (v w : View) (word n : ℕ) → get_elem? views id ≡ some v → number_of w ≡ number_of v → (In n (nodes_of v) → In n (nodes_of w)) → IsHeldIn views word n → IsHeldIn (set views id w) word n
held_set views id v w word n at num keeps h = dite (ℕ_discrete h.place id)
    (λ e. let same : h.view ≡ v = some-injective h.view v (sym h.at ∙ ap (λ (k : ℕ). get_elem? views k) e ∙ at) in
    record { place = id; view = w; at = at_set_here views id v w at; named = h.named ∙ ap held_by (ap number_of same ∙ sym num); holds = keeps (subst (λ (y : View). In n (nodes_of y)) same h.holds) })
    (λ ne. record { place = h.place; view = h.view; at = set_else views id h.place w ne ∙ h.at; named = h.named; holds = h.holds })

pub unborn_set : (views : List View) (id : ℕ) (v w : View) (n : ℕ) → get_elem? views id ≡ some v → (v.unborn ≡ Some n → w.unborn ≡ Some n) → IsUnbornIn views n → IsUnbornIn (set views id w) n
unborn_set views id v w n at keeps h = dite (ℕ_discrete h.place id)
    (λ e. let same : h.view ≡ v = some-injective h.view v (sym h.at ∙ ap (λ (k : ℕ). get_elem? views k) e ∙ at) in
    record { place = id; view = w; at = at_set_here views id v w at; holds = keeps (subst (λ (y : View). y.unborn ≡ Some n) same h.holds) })
    (λ ne. record { place = h.place; view = h.view; at = set_else views id h.place w ne ∙ h.at; holds = h.holds })

module _ (o : Opening) where
  -- a word that changes is no word of what the view holds or found dead
  pub fits_words : (words words' : List ℕ) (log : List Entry) (v : View) (n : ℕ) → ((m : ℕ) → m ≢ n → slice_index words' m ≡ slice_index words m) → (In n (nodes_of v) → ⊥) → (In n v.dead → ⊥) → Fits o words log v → Fits o words' log v
  fits_words words words' log v n same away alive f =
      let far : (m : ℕ) → In m (nodes_of v) → m ≢ n = λ m h e. away (subst (λ (k : ℕ). In k (nodes_of v)) e h) in
      record {
        knows = f.knows;
        below = f.below;
        spent = f.spent;
        near = f.near;
        own = λ m h. subst (IsOwnWord v m) (sym (same m (far m h))) (f.own m h);
        pairs = f.pairs;
        once = f.once;
        unborn = λ m e. let x = f.unborn m e in record { held = x.held; never = same m (far m x.held) ∙ x.never; entry = x.entry; entered = x.entered; made = x.made; neighbours = x.neighbours };
        done = f.done;
        seen = f.seen;
        dead = λ m h. let x = f.dead m h in (x.0, same m (λ e. alive (subst (λ (k : ℕ). In k v.dead) e h)) ∙ x.1);
        refusals = f.refusals;
        marks = f.marks;
      }

  module _ (words : List ℕ) (homes : Homes) (views : List View) (log : List Entry) (s : Sound o words homes views log) where
    -- who holds something is an actor
    pub acts : (v : View) → Fits o words log v → (n : ℕ) → In n (nodes_of v) → v.numbers ≢ []
    acts v f n h e = in_none n (nodes_of v) h (ap nodes_in (f.spent e).0)

    -- one number is that of one view
    pub one_number : (i j : ℕ) (v u : View) (k : ℕ) → get_elem? views i ≡ some v → get_elem? views j ≡ some u → j ≢ i → In k v.numbers → In k u.numbers → ⊥
    one_number i j v u k a b ne one two =
        let sum = total_two (λ (z : View). times k z.numbers) views i j v u (λ z. ne (sym z)) a b in
        let c = s.numbers k ((s.fits i v a).below k one) in
        absurd (omega (arith, times_in k v.numbers one, times_in k u.numbers two, sum, c))

    one_holder : (i j : ℕ) (v u : View) (n : ℕ) → get_elem? views i ≡ some v → get_elem? views j ≡ some u → j ≢ i → In n (nodes_of v) → In n (nodes_of u) → slice_index words n ≡ held_by (number_of v) → slice_index words n ≡ held_by (number_of u) → ⊥
    one_holder i j v u n a b ne h k x y =
        let same : number_of u ≡ number_of v = omega (arith, x, y) in
        one_number i j v u (number_of v) a b ne (first_in v.numbers (acts v (s.fits i v a) n h)) (subst (λ (m : ℕ). In m u.numbers) same (first_in u.numbers (acts u (s.fits j u b) n k)))

    -- one ticket is that of one view
    pub one_ticket : (i j : ℕ) (v u : View) (d e : Entry) → get_elem? views i ≡ some v → get_elem? views j ≡ some u → j ≢ i → In d v.entries → In e u.entries → d.ticket ≡ e.ticket → ⊥
    one_ticket i j v u d e a b ne one two same =
        let t : ℕ = d.ticket in
        let f = s.fits i v a in
        let x = f.done d one in
        let below : d.ticket < v.seen = x.1 in
        let seen = f.seen in
        let h : In t (tickets_of v) = in_map (λ (y : Entry). y.ticket) d v.entries one in
        let k : In t (tickets_of u) = subst (λ (m : ℕ). In m (tickets_of u)) (sym same) (in_map (λ (y : Entry). y.ticket) e u.entries two) in
        let sum = total_two (λ (z : View). times t (tickets_of z)) views i j v u (λ z. ne (sym z)) a b in
        let c = s.once t (omega arith) in
        absurd (omega (arith, times_in t (tickets_of v) h, times_in t (tickets_of u) k, sum, c))

    -- no two views hold one node
    pub apart : (i j : ℕ) (v u : View) (n : ℕ) → get_elem? views i ≡ some v → get_elem? views j ≡ some u → j ≢ i → In n (nodes_of v) → In n (nodes_of u) → ⊥
    apart i j v u n a b ne h k =
        let f = s.fits i v a in
        let g = s.fits j u b in
        ⊎_elim
        (λ (x : slice_index words n ≡ held_by (number_of v)). ⊎_elim
        (λ (y : slice_index words n ≡ held_by (number_of u)). one_holder i j v u n a b ne h k x y)
        (λ (y : (u.unborn ≡ Some n) × (slice_index words n ≡ 2)). let z = y.1 in absurd (omega (arith, x, z)))
        (g.own n k))
        (λ (x : (v.unborn ≡ Some n) × (slice_index words n ≡ 2)). ⊎_elim
        (λ (y : slice_index words n ≡ held_by (number_of u)). let z = x.1 in absurd (omega (arith, y, z)))
        (λ (y : (u.unborn ≡ Some n) × (slice_index words n ≡ 2)).
        let p = f.unborn n x.0 in
        let q = g.unborn n y.0 in
        let np = made_name o.mesh.first_new n p.entry p.made in
        let nq = made_name o.mesh.first_new n q.entry q.made in
        let same : p.entry.ticket ≡ q.entry.ticket = omega (arith, np, nq) in
        one_ticket i j v u p.entry q.entry a b ne p.entered q.entered same)
        (g.own n k))
        (f.own n h)

    -- the node whose word names an actor is held by it
    pub holder_of : (id n : ℕ) (v : View) → get_elem? views id ≡ some v → v.numbers ≢ [] → n < names_of o → slice_index words n ≡ held_by (number_of v) → In n (nodes_of v)
    holder_of id n v at actor near by =
        let h = s.held n near (omega arith) in
        let u : View = h.view in
        let g = s.fits h.place u h.at in
        let same : number_of u ≡ number_of v = let e = h.named in omega arith in
        dite (ℕ_discrete h.place id)
        (λ e. subst (λ (y : View). In n (nodes_of y)) (some-injective u v (sym h.at ∙ ap (λ (j : ℕ). get_elem? views j) e ∙ at)) h.holds)
        (λ ne. absurd (one_number id h.place v u (number_of v) at h.at ne (first_in v.numbers actor) (subst (λ (m : ℕ). In m u.numbers) same (first_in u.numbers (acts u g n h.holds)))))

    -- a step at one name n, whose word becomes x and whose home may change, and which changes one view
    pub at_name : (n x : ℕ) (homes' : Homes) (id : ℕ) (v w : View) → length homes' ≡ length homes → ((m : ℕ) → m ≢ n → get_elem? homes' m ≡ get_elem? homes m) → get_elem? views id ≡ some v → n < names_of o → w.numbers ≡ v.numbers → w.allowance ≡ v.allowance → w.entries ≡ v.entries
        → ((m : ℕ) → m ≢ n → In m (nodes_of v) → In m (nodes_of w)) → ((m : ℕ) → m ≢ n → v.unborn ≡ Some m → w.unborn ≡ Some m)
        → Fits o (set words n x) log w → ((j : ℕ) (u : View) → get_elem? views j ≡ some u → j ≢ id → In n (nodes_of u) → ⊥) → slice_index words n ≢ 1
        → x ≢ 2 → (o.mesh.first_new ≤ n → is_made o.mesh.first_new log n ≡ false → ⊥)
        → (x ≡ 0 → IsFree o homes' log n) → (x ≡ 1 → IsDead o homes' log n) → (3 ≤ x → IsHeldIn (set views id w) x n)
        → Sound o (set words n x) homes' (set views id w) log
    at_name n x homes' id v w full home_else at near numbers allowance entries keeps unborn fits others alive not_never made free dead held =
        let words' : List ℕ = set words n x in
        let views' : List View = set views id w in
        let wide = s.words_long in
        let here : slice_index words' n ≡ x = get_or-set_same words n x 0 (omega arith) in
        let same : (m : ℕ) → m ≢ n → slice_index words' m ≡ slice_index words m = λ m ne. get_or-set_other words n m x 0 ne in
        let num : number_of w ≡ number_of v = ap (λ (l : List ℕ). slice_index l 0) numbers in
        let ones : (t : ℕ) → total (λ (u : View). times t (tickets_of u)) views' ≡ total (λ (u : View). times t (tickets_of u)) views
        = λ t. total_same (λ (u : View). times t (tickets_of u)) views id v w at (ap (λ (l : List Entry). times t (map (λ (e : Entry). e.ticket) l)) entries) in
        record {
          words_long = length-set words n x ∙ s.words_long;
          homes_long = full ∙ s.homes_long;
          tickets = same (names_of o) (λ e. omega arith) ∙ s.tickets;
          budget = ap (λ (k : ℕ). k + length log) (total_same (λ (u : View). u.allowance) views id v w at allowance) ∙ s.budget;
          numbers = λ k b. total_same (λ (u : View). times k u.numbers) views id v w at (ap (times k) numbers) ∙ s.numbers k b;
          once = λ t b. ones t ∙ s.once t b;
          no_more = λ t b. ones t ∙ s.no_more t b;
          small = s.small;
          conforming = s.conforming;
          fresh = s.fresh;
          legal = s.legal;
          fits = each_set (Fits o words' log) views id w fits (λ j u ne e. let g = s.fits j u e in
              fits_words words words' log u n same (others j u e ne) (λ d. alive (g.dead n d).1) g);
          free = λ m b is. dite (ℕ_discrete m n)
              (λ e. subst (IsFree o homes' log) (sym e) (free (sym here ∙ ap (λ (k : ℕ). slice_index words' k) (sym e) ∙ is)))
              (λ ne. let r = s.free m b (sym (same m ne) ∙ is) in record { star = r.star; live = r.live; copies = home_else m ne ∙ r.copies });
          dead = λ m b is. dite (ℕ_discrete m n)
              (λ e. subst (IsDead o homes' log) (sym e) (dead (sym here ∙ ap (λ (k : ℕ). slice_index words' k) (sym e) ∙ is)))
              (λ ne. let r = s.dead m b (sym (same m ne) ∙ is) in record { gone = r.gone; copies = home_else m ne ∙ r.copies });
          held = λ m b is. dite (ℕ_discrete m n)
              (λ e. let z : slice_index words' m ≡ x = ap (λ (k : ℕ). slice_index words' k) e ∙ here in
              subst (λ (k : ℕ). IsHeldIn views' (slice_index words' m) k) (sym e) (subst (λ (y : ℕ). IsHeldIn views' y n) (sym z) (held (subst (λ (y : ℕ). 3 ≤ y) z is))))
              (λ ne. subst (λ (y : ℕ). IsHeldIn views' y m) (sym (same m ne)) (held_set views id v w (slice_index words m) m at num (keeps m ne) (s.held m b (subst (λ (y : ℕ). 3 ≤ y) (same m ne) is))));
          read = λ m b is. dite (ℕ_discrete m n)
              (λ e. not_never (sym here ∙ ap (λ (k : ℕ). slice_index words' k) (sym e) ∙ is))
              (λ ne. s.read m b (sym (same m ne) ∙ is));
          unmade = λ m b up is. dite (ℕ_discrete m n)
              (λ e. absurd (made (subst (λ (k : ℕ). o.mesh.first_new ≤ k) e up) (ap (λ (k : ℕ). is_made o.mesh.first_new log k) (sym e) ∙ is)))
              (λ ne. let r = s.unmade m b up is in (same m ne ∙ r.0, home_else m ne ∙ r.1));
          unborn = λ m b two is. dite (ℕ_discrete m n)
              (λ e. absurd (not_never (sym here ∙ ap (λ (k : ℕ). slice_index words' k) (sym e) ∙ two)))
              (λ ne. unborn_set views id v w m at (unborn m ne) (s.unborn m b (sym (same m ne) ∙ two) is));
        }

    -- a view that learns something, and changes nothing else
    pub learns : (id : ℕ) (v w : View) → get_elem? views id ≡ some v → w.numbers ≡ v.numbers → w.allowance ≡ v.allowance → w.entries ≡ v.entries → w.held ≡ v.held → w.unborn ≡ v.unborn → Fits o words log w → Sound o words homes (set views id w) log
    learns id v w at numbers allowance entries held unborn fits =
        let ones : (t : ℕ) → total (λ (u : View). times t (tickets_of u)) (set views id w) ≡ total (λ (u : View). times t (tickets_of u)) views
        = λ t. total_same (λ (u : View). times t (tickets_of u)) views id v w at (ap (λ (l : List Entry). times t (map (λ (e : Entry). e.ticket) l)) entries) in
        record {
          words_long = s.words_long;
          homes_long = s.homes_long;
          tickets = s.tickets;
          budget = ap (λ (k : ℕ). k + length log) (total_same (λ (u : View). u.allowance) views id v w at allowance) ∙ s.budget;
          numbers = λ k b. total_same (λ (u : View). times k u.numbers) views id v w at (ap (times k) numbers) ∙ s.numbers k b;
          once = λ t b. ones t ∙ s.once t b;
          no_more = λ t b. ones t ∙ s.no_more t b;
          small = s.small;
          conforming = s.conforming;
          fresh = s.fresh;
          legal = s.legal;
          fits = each_set (Fits o words log) views id w fits (λ j u _ e. s.fits j u e);
          free = s.free;
          dead = s.dead;
          held = λ m b is. held_set views id v w (slice_index words m) m at (ap (λ (l : List ℕ). slice_index l 0) numbers) (subst (λ (l : List Held). In m (nodes_in l)) (sym held)) (s.held m b is);
          read = s.read;
          unmade = s.unmade;
          unborn = λ m b two is. unborn_set views id v w m at (λ e. unborn ∙ e) (s.unborn m b two is);
        }
