-- A commit keeps the state sound: nobody else's pair changes, because each star that the operation changes is that of a node of the
-- cavity, which its actor holds, or of the new node.
use Rattle.std.proofs.Common.{◌≡◌, ◌≢◌, ◌⊎◌, ℕ, ◌+◌, ◌<◌, ◌≤◌, Bool, true, false, cond, ◌==◌, List, [], ◌∷◌, ◌++◌, length, set, take, refl, sym, ap, ◌∙◌, subst, inl, inr, ⊎_elim, arith, length-append}
use Rattle.std.specs.Prelude.{slice_index, Option, Some, None}
use Rattle.std.proofs.lemmas.List.{get_or-set_other, get_or-set_same, length-set, take-append-le}
use Rattle.std.proofs.lemmas.Bool.Decides.{nat_tests}
use mathlib.Core.Option.{some}
use mathlib.Core.Logic.{dite}
use native.Mathlib.Decide.{ℕ_discrete}
use lib.ListN.{get_elem?}
use Rattle.pf_model.specs.declared.Op.{Op}
use Rattle.pf_model.specs.declared.Op.TheVariants.{Flip, Bisect, Contract}
use Rattle.pf_model.specs.declared.Entry.{Entry}
use Rattle.pf_model.specs.Conditions.{first_failing}
use Rattle.pf_model.specs.Stars.{Star}
use Rattle.pf_core_model.specs.declared.view.View.{View}
use Rattle.pf_star_model.specs.Lent.{Held}
use Rattle.pf_core_model.specs.declared.view.Mark.{Mark}
use Rattle.pf_core_model.specs.declared.view.Refusal.{Refusal}
use Rattle.pf_core_model.specs.Lists.{In, times, total}
use Rattle.pf_star_model.specs.Cavity.{cavity_of}
use Rattle.pf_star_model.specs.Patched.{made_by}
use Rattle.pf_core_model.specs.Cavity.{makes_node, makes, is_made, neighbours_in}
use Rattle.pf_core_model.specs.Moves.{unborn_by, made_list, committed}
use Rattle.pf_core_model.specs.Needs.{KeepsOutside}
use Rattle.pf_core_model.specs.Core.{Opening, names_of, mesh_after, star_after, held_by, number_of, nodes_in, nodes_of, tickets_of, IsPairOf, IsTrueMark, IsTrueRefusal, ArePatched, IsOwnWord, Fits, IsHeldIn, IsUnbornIn, Homes, Sound}
use Rattle.pf_core_model.proofs.Lists.{at_set_here, at_longer, at_last, total_set, total_at, total_same, each_set, in_either, in_left, in_right, in_times, times_out, times-append, times_here, times_else}
use Rattle.pf_core_model.proofs.Replays.{legal_more, made_name, made_by_bisection, makes_here, makes_not, made_below, made_here, made_else, star_stays, born_inside}
use Rattle.pf_core_model.proofs.Views.{some_is, some_not_none, node_in, held_set, unborn_set, apart}

abbrev unit : Bool → ℕ
unit b = cond b 1 0

-- what an entry makes
pub in_made : (f n : ℕ) (e : Entry) → In n (made_list f e) → makes f n e ≡ true
in_made f n e h = go e.op refl h
  where
    go : (op : Op) → e.op ≡ op → In n (made_by (f + e.ticket) op) → makes f n e ≡ true
    go (Flip a b) is x = absurd x
    go (Bisect a b) is (inl x) = makes_here f n e (ap makes_node is) x
    go (Bisect a b) is (inr x) = absurd x
    go (Contract u v) is x = absurd x

pub made_is : (f n : ℕ) (e : Entry) → unborn_by f e ≡ Some n → In n (made_list f e)
made_is f n e h = go e.op h
  where
    go : (op : Op) → cond (makes_node op) (Some (f + e.ticket)) None ≡ Some n → In n (made_by (f + e.ticket) op)
    go (Flip a b) x = absurd (some_not_none n (sym x))
    go (Bisect a b) x = inl (sym (some_is (f + e.ticket) n x))
    go (Contract u v) x = absurd (some_not_none n (sym x))

pub made_some : (f n : ℕ) (e : Entry) → makes f n e ≡ true → makes_node e.op ≡ true → unborn_by f e ≡ Some n
made_some f n e h b = ap (λ (x : Bool). cond x (Some (f + e.ticket)) None) b ∙ ap (λ (k : ℕ). Some k) (sym (made_name f n e h))

made_once : (f n : ℕ) (e : Entry) → times n (made_list f e) ≤ 1
made_once f n e = go e.op
  where
    go : (op : Op) → times n (made_by (f + e.ticket) op) ≤ 1
    go (Flip a b) = omega arith
    go (Bisect a b) = dite (ℕ_discrete (f + e.ticket) n) (λ x. let r = times_here n [] in subst (λ (k : ℕ). times n (k ∷ []) ≤ 1) (sym x) (omega arith)) (λ ne. let r = times_else n (f + e.ticket) [] ne in omega arith)
    go (Contract u v) = omega arith

pub mark_more : (o : Opening) (log : List Entry) (e : Entry) (m : Mark) → IsTrueMark o log m → IsTrueMark o (log ++ e ∷ []) m
mark_more o log e m t =
    let low : m.at ≤ length log = t.at in
    let same : take m.at (log ++ e ∷ []) ≡ take m.at log = take-append-le m.at log (e ∷ []) low in
    record {
      at = let z = length-append log (e ∷ []) in omega arith;
      pairs = λ p h. subst (λ (l : List Entry). IsPairOf o l p) (sym same) (t.pairs p h);
      gone = λ n h. ap (λ (l : List Entry). star_after o l n) same ∙ t.gone n h;
    }

pub refusal_more : (o : Opening) (log : List Entry) (e : Entry) (r : Refusal) → IsTrueRefusal o log r → IsTrueRefusal o (log ++ e ∷ []) r
refusal_more o log e r t =
    let low : r.at ≤ length log = t.at in
    let same : take r.at (log ++ e ∷ []) ≡ take r.at log = take-append-le r.at log (e ∷ []) low in
    record {
      at = let z = length-append log (e ∷ []) in omega arith;
      fails = ap (λ (l : List Entry). first_failing (mesh_after o l) r.chunk r.op) same ∙ t.fails;
    }

module _ (outside : KeepsOutside) (o : Opening) (words : List ℕ) (homes : Homes) (views : List View) (log : List Entry) (s : Sound o words homes views log) where
  pub commits : (homes' : Homes) (id : ℕ) (v : View) (e : Entry) (fresh : List Held)
      → length homes' ≡ length homes → ((n : ℕ) → makes o.mesh.first_new n e ≡ false → get_elem? homes' n ≡ get_elem? homes n)
      → get_elem? views id ≡ some v → v.numbers ≢ [] → v.unborn ≡ None → 0 < v.allowance → e.ticket ≡ length log
      → first_failing (mesh_after o log) e.chunk e.op ≡ None → ((n : ℕ) → In n (cavity_of (mesh_after o log) e.chunk e.op) → In n (nodes_of v)) → ArePatched o log v e fresh
      → Sound o (set words (names_of o) (length log + 1)) homes' (set views id (committed v e fresh (unborn_by o.mesh.first_new e))) (log ++ e ∷ [])
  commits homes' id v e fresh full home_else at actor clear rich ticket passes cavity patched =
      let f0 : ℕ = o.mesh.first_new in
      let w : View = committed v e fresh (unborn_by f0 e) in
      let log' : List Entry = log ++ e ∷ [] in
      let words' : List ℕ = set words (names_of o) (length log + 1) in
      let views' : List View = set views id w in
      let long : length log' ≡ length log + 1 = length-append log (e ∷ []) in
      let f = s.fits id v at in
      let wide = s.words_long in
      let room : length log < o.budget = let a = total_at (λ (u : View). u.allowance) views id v at in let b = s.budget in omega arith in
      let same : (m : ℕ) → m < names_of o → slice_index words' m ≡ slice_index words m = λ m near. get_or-set_other words (names_of o) m _ 0 (λ x. omega arith) in
      let own : (m : ℕ) → In m (nodes_of v) → slice_index words m ≡ held_by (number_of v)
      = λ m k. ⊎_elim (λ (z : slice_index words m ≡ held_by (number_of v)). z) (λ (z : (v.unborn ≡ Some m) × (slice_index words m ≡ 2)). absurd (some_not_none m (sym z.0 ∙ clear))) (f.own m k) in
      -- the name of the ticket was never live
      let named : (m : ℕ) → m ≡ f0 + e.ticket → (m < names_of o) × (slice_index words m ≡ 2)
      = λ m name. let r = s.unmade m (omega arith) (omega arith) (before m name) in (omega arith, r.0) in
      let unmade : (m : ℕ) → makes f0 m e ≡ true → (m < names_of o) × (slice_index words m ≡ 2) = λ m made. named m (made_name f0 m e made) in
      let far_by : (m : ℕ) → (slice_index words m ≡ 2 → ⊥) → m ≢ f0 + e.ticket = λ m no_two x. no_two (named m x).1 in
      let stays : (m : ℕ) → (In m (nodes_of v) → ⊥) → m ≢ f0 + e.ticket → star_after o log' m ≡ star_after o log m
      = λ m away far. star_stays o log s.conforming s.fresh s.legal outside e ticket passes m (λ k. away (cavity m k)) far in
      let in_fresh : (m : ℕ) → In m (nodes_in fresh) → In m (made_list f0 e) ⊎ In m (nodes_of v)
      = λ m h. in_either m (made_list f0 e) (nodes_of v) (subst (λ (l : List ℕ). In m l) patched.nodes h) in
      let kept : (m : ℕ) → In m (nodes_of v) → In m (nodes_in fresh) = λ m h. subst (λ (l : List ℕ). In m l) (sym patched.nodes) (in_right m (made_list f0 e) (nodes_of v) h) in
      let added : (m : ℕ) → In m (made_list f0 e) → In m (nodes_in fresh) = λ m h. subst (λ (l : List ℕ). In m l) (sym patched.nodes) (in_left m (made_list f0 e) (nodes_of v) h) in
      let one : (t : ℕ) → total (λ (u : View). times t (tickets_of u)) views' ≡ total (λ (u : View). times t (tickets_of u)) views + unit (e.ticket == t)
      = λ t. let r = total_set (λ (u : View). times t (tickets_of u)) views id v w at in omega arith in
      -- a node that another view holds isn't the new one
      let others_old : (j : ℕ) (u : View) → get_elem? views j ≡ some u → (m : ℕ) → In m (nodes_of u) → m ≢ f0 + e.ticket
      = λ j u x m h. let g = s.fits j u x in ⊎_elim
      (λ (z : slice_index words m ≡ held_by (number_of u)). far_by m (λ two. omega arith))
      (λ (z : (u.unborn ≡ Some m) × (slice_index words m ≡ 2)).
      let y = g.unborn m z.0 in
      let name = made_name f0 m y.entry y.made in
      let d = (g.done y.entry y.entered).1 in
      let seen = g.seen in
      λ k. omega arith)
      (g.own m h) in
      let mine : Fits o words' log' w =
      record {
        knows = f.knows;
        below = f.below;
        spent = λ x. absurd (actor x);
        near = λ m h. ⊎_elim (λ (k : In m (made_list f0 e)). (unmade m (in_made f0 m e k)).0) (λ (k : In m (nodes_of v)). f.near m k) (in_fresh m h);
        own = λ m h. ⊎_elim
            (λ (k : In m (made_list f0 e)). let made = in_made f0 m e k in let r = unmade m made in inr (made_some f0 m e made (bisects m made), same m r.0 ∙ r.1))
            (λ (k : In m (nodes_of v)). inl (same m (f.near m k) ∙ own m k))
            (in_fresh m h);
        pairs = patched.pairs;
        once = λ m.
            let sum : times m (nodes_in fresh) ≡ times m (made_list f0 e) + times m (nodes_of v) = ap (times m) patched.nodes ∙ times-append m (made_list f0 e) (nodes_of v) in
            let a = made_once f0 m e in
            let b = f.once m in
            dite (ℕ_discrete (times m (made_list f0 e)) 0)
            (λ z. omega arith)
            (λ ne. let k : In m (made_list f0 e) = in_times m (made_list f0 e) (omega arith) in
            let two = (unmade m (in_made f0 m e k)).1 in
            let z = times_out m (nodes_of v) (λ h. let x = own m h in absurd (omega arith)) in omega arith);
        unborn = λ m is.
            let k = made_is f0 m e is in
            let made = in_made f0 m e k in
            let r = unmade m made in
            record {
              held = added m k;
              never = same m r.0 ∙ r.1;
              entry = e;
              entered = inl refl;
              made = made;
              neighbours = λ x h. kept x (cavity x (born_inside o log s.conforming s.fresh s.legal outside e ticket passes m made x h));
            };
        done = λ d. ⊎_elim
            (λ (is : d ≡ e). subst (λ (z : Entry). (get_elem? log' z.ticket ≡ some z) × (z.ticket < e.ticket + 1)) (sym is) (at_last log e e.ticket (sym ticket), omega arith))
            (λ (h : In d v.entries). let y = f.done d h in let z = f.seen in let q = y.1 in (at_longer log (e ∷ []) d.ticket d y.0, omega arith));
        seen = omega arith;
        dead = λ m h. let y = f.dead m h in (y.0, same m y.0 ∙ y.1);
        refusals = λ r h. refusal_more o log e r (f.refusals r h);
        marks = λ m h. mark_more o log e m (f.marks m h);
      } in
      let others : (j : ℕ) (u : View) → j ≢ id → get_elem? views j ≡ some u → Fits o words' log' u = λ j u ne x.
      let g = s.fits j u x in
      let still : (m : ℕ) → In m (nodes_of u) → star_after o log' m ≡ star_after o log m = λ m h. stays m (λ k. apart o words homes views log s id j v u m at x ne k h) (others_old j u x m h) in
      record {
        knows = g.knows;
        below = g.below;
        spent = g.spent;
        near = g.near;
        own = λ m h. subst (IsOwnWord u m) (sym (same m (g.near m h))) (g.own m h);
        pairs = λ p h. g.pairs p h ∙ sym (still p.node (node_in p u.held h));
        once = g.once;
        unborn = λ m is. let y = g.unborn m is in
            record {
              held = y.held;
              never = same m (g.near m y.held) ∙ y.never;
              entry = y.entry;
              entered = y.entered;
              made = y.made;
              neighbours = λ k h. y.neighbours k (subst (λ (st : Option Star). In k (neighbours_in st)) (still m y.held) h);
            };
        done = λ d h. let y = g.done d h in (at_longer log (e ∷ []) d.ticket d y.0, y.1);
        seen = let y = g.seen in omega arith;
        dead = λ m h. let y = g.dead m h in (y.0, same m y.0 ∙ y.1);
        refusals = λ r h. refusal_more o log e r (g.refusals r h);
        marks = λ m h. mark_more o log e m (g.marks m h);
      } in
      record {
        words_long = length-set words (names_of o) _ ∙ s.words_long;
        homes_long = full ∙ s.homes_long;
        tickets = get_or-set_same words (names_of o) _ 0 (omega arith) ∙ sym long;
        budget = let r = total_set (λ (u : View). u.allowance) views id v w at in let b = s.budget in omega arith;
        numbers = λ k h. total_same (λ (u : View). times k u.numbers) views id v w at refl ∙ s.numbers k h;
        once = λ t h. dite (ℕ_discrete t (length log))
            (λ is. let z = s.no_more t (omega arith) in let hit : (e.ticket == t) ≡ true = grind (arith, nat_tests) in let r = one t in let c : unit (e.ticket == t) ≡ 1 = ap unit hit in omega arith)
            (λ ne. let z = s.once t (omega arith) in let miss : (e.ticket == t) ≡ false = grind (arith, nat_tests) in let r = one t in let c : unit (e.ticket == t) ≡ 0 = ap unit miss in omega arith);
        no_more = λ t h. let z = s.no_more t (omega arith) in let miss : (e.ticket == t) ≡ false = grind (arith, nat_tests) in let r = one t in let c : unit (e.ticket == t) ≡ 0 = ap unit miss in omega arith;
        small = s.small;
        conforming = s.conforming;
        fresh = s.fresh;
        legal = legal_more 0 o.mesh log e s.legal (omega arith) passes;
        fits = each_set (Fits o words' log') views id w mine others;
        free = λ m close is.
            let was : slice_index words m ≡ 0 = sym (same m close) ∙ is in
            let r = s.free m close was in
            let far = far_by m (λ two. omega arith) in
            record { star = r.star; live = stays m (λ k. let x = own m k in absurd (omega arith)) far ∙ r.live; copies = home_else m (makes_not f0 m e far) ∙ r.copies };
        dead = λ m close is.
            let was : slice_index words m ≡ 1 = sym (same m close) ∙ is in
            let r = s.dead m close was in
            let far = far_by m (λ two. omega arith) in
            record { gone = stays m (λ k. let x = own m k in absurd (omega arith)) far ∙ r.gone; copies = home_else m (makes_not f0 m e far) ∙ r.copies };
        held = λ m close two. subst (λ (x : ℕ). IsHeldIn views' x m) (sym (same m close)) (held_set views id v w (slice_index words m) m at refl (kept m) (s.held m close (subst (λ (x : ℕ). 3 ≤ x) (same m close) two)));
        read = λ m low is. let near : m < names_of o = omega arith in s.read m low (sym (same m near) ∙ is);
        unmade = λ m close up is.
            let old : makes f0 m e ≡ false = by_test (makes f0 m e) (λ made. absurd (let z : true ≡ false = sym (made_here f0 m log e made) ∙ is in cc (z))) in
            let r = s.unmade m close up (sym (made_else f0 m log e old) ∙ is) in (same m close ∙ r.0, home_else m old ∙ r.1);
        unborn = λ m close two is. by_cases (makes f0 m e) (IsUnbornIn views' m)
            (λ made. record { place = id; view = w; at = at_set_here views id v w at; holds = made_some f0 m e made (bisects m made) })
            (λ old. unborn_set views id v w m at (λ x. absurd (some_not_none m (sym x ∙ clear))) (s.unborn m close (sym (same m close) ∙ two) (sym (made_else f0 m log e old) ∙ is)));
      }
    where
      by_test : (b : Bool) → (b ≡ true → ⊥) → b ≡ false
      by_test true h = absurd (h refl)
      by_test false h = refl

      by_cases : (b : Bool) (P : Type 0) → (b ≡ true → P) → (b ≡ false → P) → P
      by_cases true P yes_it no_it = yes_it refl
      by_cases false P yes_it no_it = no_it refl

      bisects : (m : ℕ) → makes o.mesh.first_new m e ≡ true → makes_node e.op ≡ true
      bisects m made = made_by_bisection o.mesh.first_new m e made

      before : (m : ℕ) → m ≡ o.mesh.first_new + e.ticket → is_made o.mesh.first_new log m ≡ false
      before m name = by_test (is_made o.mesh.first_new log m) (λ x. let r = (made_below 0 o.mesh.first_new m o.mesh log s.legal x).1 in omega arith)
