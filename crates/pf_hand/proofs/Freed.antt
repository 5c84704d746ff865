-- What is held is given back, node by node.
use Rattle.std.proofs.Common.{◌≡◌, ◌≢◌, ◌⊎◌, ℕ, suc, ◌<◌, ◌≤◌, Bool, true, false, cond, ◌==◌, List, [], ◌∷◌, length, refl, sym, ap, ◌∙◌, subst, inl, inr, arith}
use Rattle.std.specs.Prelude.{Option, Some, None, is_some}
use Rattle.std.proofs.lemmas.List.{length-map}
use Rattle.pf_model.specs.Stars.{Star}
use Rattle.pf_star_model.specs.Lent.{Held, star_held}
use Rattle.pf_core_model.specs.declared.view.View.{View}
use Rattle.pf_core_model.specs.Lists.{In}
use Rattle.pf_core_model.specs.Sharers.{kept_in, sharers_in}
use Rattle.pf_core_model.specs.Moves.{without, released}
use Rattle.pf_core_model.specs.Core.{Opening, nodes_in, nodes_of}
use Rattle.pf_core_model.specs.Seats.{KnowsMesh}
use Rattle.pf_core_model.proofs.Lists.{times_in, in_times}
use Rattle.pf_core_model.proofs.Sharing.{none_due}
use Rattle.pf_locks.specs.declared.seat.BoardSeat.{BoardSeat}
use Rattle.pf_locks.specs.declared.kept.Kept.{Kept}
use Rattle.pf_locks.specs.Lists.{names_in, list_in, lent_in}
use Rattle.pf_locks.specs.Seats.{IsSeat, DropsList}
use Rattle.pf_hand.specs.declared.next.Next.{Next}
use Rattle.pf_hand.specs.Hands.{AreDue, IsHand}
use Rattle.pf_hand.specs.Next.{first_kept, next_of}
use Rattle.pf_hand.specs.Later.{IsLater}
use Rattle.pf_hand.proofs.Due.{eq_true, paid}

some_of : (x : Option Star) → is_some x ≡ true → (s : Star) × (x ≡ Some s)
some_of None e = absurd (let q : false ≡ true = e in cc)
some_of (Some s) e = (s, refl)

none_of : (x : Option Star) → is_some x ≡ false → x ≡ None
none_of None e = refl
none_of (Some s) e = absurd (let q : true ≡ false = e in cc)

-- a node that has a copy may be freed
pub may_free : (o : Opening) (v : View) (ks : List Kept) (n : ℕ) → KnowsMesh o v → AreDue v.chunks v.held ks → In n (nodes_of v) → is_some (kept_in (list_in ks n)) ≡ true → (star : Star) × In (record { node = n; star = Some star }) v.held × (list_in ks n ≡ sharers_in v.chunks (Some star))
may_free o v ks n k due h e =
    let p = paid o v ks n k due h in
    let s = some_of p.star (ap is_some (sym p.first) ∙ e) in
    (s.0, subst (λ (x : Option Star). In (record { node = n; star = x }) v.held) s.1 p.holds, p.due ∙ ap (λ (x : Option Star). sharers_in v.chunks x) s.1)

-- one that has none may be buried
pub may_bury : (o : Opening) (v : View) (ks : List Kept) (n : ℕ) → KnowsMesh o v → AreDue v.chunks v.held ks → In n (nodes_of v) → is_some (kept_in (list_in ks n)) ≡ false → In (record { node = n; star = None }) v.held × (list_in ks n ≡ [])
may_bury o v ks n k due h e =
    let p = paid o v ks n k due h in
    let s : p.star ≡ None = none_of p.star (ap is_some (sym p.first) ∙ e) in
    (subst (λ (x : Option Star). In (record { node = n; star = x }) v.held) s p.holds, p.due ∙ ap (λ (x : Option Star). sharers_in v.chunks x) s ∙ none_due 0 v.chunks)

-- the first that is kept
pub record IsFirst (ks : List Kept) (x : Next) : Type 0 where
  pub named : In x.node (names_in ks)
  pub live : x.live ≡ is_some (kept_in (list_in ks x.node))

pub first_is : (ks : List Kept) (x : Next) → first_kept ks ≡ Some x → IsFirst ks x
first_is [] x e = absurd (let q : None ≡ Some x = e in cc)
first_is (k ∷ ks) x e =
    subst (λ (y : Next). IsFirst (k ∷ ks) y) (let q : Some (next_of k) ≡ Some x = e in injected (next_of k) x q)
    (record { named = inl refl; live = ap (λ (b : Bool). is_some (kept_in (cond b k.list (list_in ks k.node)))) (sym (eq_true k.node k.node refl)) })
  where
    injected : (a b : Next) → Some a ≡ Some b → a ≡ b
    injected a b q = cc

pub none_kept : (ks : List Kept) → first_kept ks ≡ None → ks ≡ []
none_kept [] e = refl
none_kept (k ∷ ks) e = absurd (let q : Some (next_of k) ≡ None = e in cc)

pub is_held_node : (o : Opening) (s : BoardSeat) (n : ℕ) → IsSeat o s → In n (names_in s.kept.items) → In n (nodes_of s.seat.me.0)
is_held_node o s n seat i = in_times n (nodes_of s.seat.me.0) (let a = times_in n (names_in s.kept.items) i in let b = seat.shape.names n in omega (arith, a, b))

-- what is kept and what is held are as many
pub as_many : (o : Opening) (s : BoardSeat) → IsSeat o s → length s.kept.items ≡ length s.seat.me.0.held
as_many o s seat = seat.shape.long ∙ length-map s.seat.me.0.held (λ (p : Held). p.node)

no_more : (n : ℕ) (ps : List Held) → length (without n ps) ≤ length ps
no_more n [] = omega arith
no_more n (p ∷ ps) = go (p.node == n) (no_more n ps)
  where
    go : (b : Bool) → length (without n ps) ≤ length ps → length (cond b (without n ps) (p ∷ without n ps)) ≤ suc (length ps)
    go true ih = omega (arith, ih)
    go false ih = omega (arith, ih)

pub one_fewer : (n : ℕ) (ps : List Held) → In n (nodes_in ps) → length (without n ps) < length ps
one_fewer n [] h = absurd h
one_fewer n (p ∷ ps) h = go (p.node == n) refl h (one_fewer n ps)
  where
    go : (b : Bool) → (p.node == n) ≡ b → (n ≡ p.node) ⊎ In n (nodes_in ps) → (In n (nodes_in ps) → length (without n ps) < length ps) → length (cond b (without n ps) (p ∷ without n ps)) < suc (length ps)
    go true e k ih = let z = no_more n ps in omega (arith, z)
    go false e (inl f) ih = absurd (let q : false ≡ true = sym e ∙ eq_true p.node n (sym f) in cc)
    go false e (inr i) ih = let z = ih i in omega (arith, z)

stays_in : (n : ℕ) (p : Held) (ps : List Held) → In p (without n ps) → In p ps × (p.node ≢ n)
stays_in n p [] h = absurd h
stays_in n p (q ∷ qs) h = go (q.node == n) refl h (stays_in n p qs)
  where
    go : (b : Bool) → (q.node == n) ≡ b → In p (cond b (without n qs) (q ∷ without n qs)) → (In p (without n qs) → In p qs × (p.node ≢ n)) → In p (q ∷ qs) × (p.node ≢ n)
    go true e k ih = let r = ih k in (inr r.0, r.1)
    go false e (inl f) ih = (inl f, λ (z : p.node ≡ n). absurd (let w : false ≡ true = sym e ∙ eq_true q.node n (sym (ap (λ (x : Held). x.node) f) ∙ z) in cc))
    go false e (inr i) ih = let r = ih i in (inr r.0, r.1)

-- the other lists stay due
pub freed_due : (s t : BoardSeat) (n : ℕ) → AreDue s.seat.me.0.chunks s.seat.me.0.held s.kept.items → t.seat.me.0 ≡ released s.seat.me.0 n → DropsList n s t → AreDue t.seat.me.0.chunks t.seat.me.0.held t.kept.items
freed_due s t n due e drops =
    subst (λ (u : View). AreDue u.chunks u.held t.kept.items) (sym e) (λ p i. let r = stays_in n p s.seat.me.0.held i in (drops p.node r.1).0 ∙ due p r.0)

pub fewer_kept : (o : Opening) (s t : BoardSeat) (n : ℕ) → IsSeat o s → IsSeat o t → In n (nodes_of s.seat.me.0) → t.seat.me.0 ≡ released s.seat.me.0 n → length t.kept.items < length s.kept.items
fewer_kept o s t n seat seat' i e =
    let a = as_many o s seat in
    let b = as_many o t seat' in
    let c = ap (λ (u : View). length u.held) e in
    let d = one_fewer n s.seat.me.0.held i in
    omega (arith, a, b, c, d)

nothing : (ps : List Held) → length ps ≡ 0 → ps ≡ []
nothing [] e = refl
nothing (p ∷ ps) e = absurd (omega (arith, e))

no_kept : (ks : List Kept) → length ks ≡ 0 → ks ≡ []
no_kept [] e = refl
no_kept (k ∷ ks) e = absurd (omega (arith, e))

-- where nothing is kept, nothing is held
pub none_held : (o : Opening) (s : BoardSeat) → IsSeat o s → s.kept.items ≡ [] → s.seat.me.0.held ≡ []
none_held o s seat e = nothing s.seat.me.0.held (sym (as_many o s seat) ∙ ap (λ (l : List Kept). length l) e)

-- a seat that holds nothing in a hand
pub idle_hand : (o : Opening) (s : BoardSeat) → IsSeat o s → s.seat.me.0.held ≡ [] → s.seat.me.0.unborn ≡ None → IsHand o s false
idle_hand o s seat nil clear =
    let none : s.kept.items ≡ [] = no_kept s.kept.items (as_many o s seat ∙ ap (λ (l : List Held). length l) nil) in
    record {
      seat = seat;
      clear = clear;
      due = subst (λ (l : List Held). AreDue s.seat.me.0.chunks l s.kept.items) (sym nil) (λ p i. absurd i);
      before = λ _.
          record {
            live = λ p i. absurd (subst (λ (l : List Held). In p l) nil i);
            few = subst (λ (l : List Held). length l ≤ 65) (sym nil) (omega arith);
            lends = λ n. ap (λ (l : List Kept). lent_in l n) none ∙ ap (λ (l : List Held). star_held l n) (sym nil);
          };
      after = λ e. absurd (let q : false ≡ true = e in cc);
    }

-- the view that holds nothing is a later one
pub freed_later : (v w : View) → w ≡ record v { held = [] } → IsLater v w
freed_later v w e = subst (λ (x : View). IsLater v x) (sym e) (record { numbers = refl; workers = refl; entries = ([], refl); refusals = ([], refl); lost = ([], refl); dead = ([], refl); never = ([], refl); marks = ([], refl) })

-- the view after one node more was given back, in terms of that at the start
pub freed_view : (v u w : View) (n : ℕ) → u ≡ record v { held = u.held } → w ≡ released u n → w ≡ record v { held = w.held }
freed_view v u w n e f =
    let held : w.held ≡ without n u.held = ap (λ (x : View). x.held) f in
    f ∙ ap (λ (x : View). record x { held = without n u.held }) e ∙ ap (λ (l : List Held). record v { held = l }) (sym held)

pub view_free : (v u : View) → u ≡ record v { held = u.held } → u.held ≡ [] → u ≡ record v { held = [] }
view_free v u e nil = e ∙ ap (λ (l : List Held). record v { held = l }) nil
