-- What a try and a note tell of a hand.
use Rattle.std.proofs.Common.{◌≡◌, ◌≢◌, ℕ, ◌<◌, ◌≤◌, Bool, true, false, cond, ◌==◌, List, [], ◌∷◌, ◌++◌, length, refl, sym, ap, ◌∙◌, subst, inl, inr, ⊎_elim}
use Rattle.std.specs.Prelude.{Option, Some, None}
use mathlib.Core.Option.{some}
use lib.ListN.{get_elem?}
use Rattle.pf_model.specs.declared.Op.{Op}
use Rattle.pf_model.specs.declared.Cond.{Cond}
use Rattle.pf_model.specs.declared.Entry.{Entry}
use Rattle.pf_model.specs.Conditions.{neighbours}
use Rattle.pf_model.specs.Stars.{Star, star_of}
use Rattle.pf_star_model.specs.Lent.{Held, star_held}
use Rattle.pf_core_model.specs.declared.event.Asked.{Asked}
use Rattle.pf_core_model.specs.declared.answer.Answer.{Answer}
use Rattle.pf_core_model.specs.declared.answer.Answer.TheVariants.{Done, Refused, Busy, Gone, Unborn, Spent, Memory}
use Rattle.pf_core_model.specs.declared.view.View.{View}
use Rattle.pf_core_model.specs.declared.view.Mark.{Mark}
use Rattle.pf_core_model.specs.Lists.{In}
use Rattle.pf_core_model.specs.Cavity.{neighbours_in}
use Rattle.pf_core_model.specs.Sharers.{sharers_in}
use Rattle.pf_core_model.specs.Moves.{locked, lost_to, found_dead, found_never, noted, refused}
use Rattle.pf_core_model.specs.Core.{Opening, names_of, nodes_in, nodes_of, mesh_after, number_of, Homes, Sound}
use Rattle.pf_core_model.specs.Guards.{IsAlone}
use Rattle.pf_core_model.specs.Seats.{KnowsMesh, own_log}
use Rattle.pf_core_model.specs.Right.{Gain, Call, IsTold, IsRight, HasGained}
use Rattle.pf_core_model.proofs.Right.{answers_right}
use Rattle.pf_board_steps.specs.Plays.{IsHeldNeighbour}
use Rattle.pf_holder.specs.declared.holder.Hold.{Hold}
use Rattle.pf_holder.specs.declared.holder.Hold.TheVariants.{Won, Lost, Dead, Never}
use Rattle.pf_holder.specs.Facts as facts
use Rattle.pf_holder.specs.Facts.{LendsAll, TellsHold, IsNearLent, IsFoundLive, IsMarked, IsSeen, history_in, mesh_alone}
use Rattle.pf_holder.specs.Answers.{IsBacked, IsEntered}
use Rattle.pf_holder.proofs.Held.{in_has}
use Rattle.pf_holder.proofs.Told.{backed_told}
use Rattle.pf_locks.specs.declared.seat.BoardSeat.{BoardSeat}
use Rattle.pf_locks.specs.declared.kept.Kept.{Kept}
use Rattle.pf_locks.specs.Lists.{list_in, lent_in}
use Rattle.pf_locks.specs.Seats as locks
use Rattle.pf_locks.specs.Seats.{IsSeat, TellsTry, TellsNote, PutsList}
use Rattle.pf_hand.specs.Hands.{AreDue, IsLending, HasSome, IsHand, lent_pairs}
use Rattle.pf_hand.specs.HandLaws.{own_history}
use Rattle.pf_hand.specs.Later.{IsLater, GainedIn, later_self, gained_has}
use Rattle.pf_hand.proofs.Due.{eq_true, eq_false, not_live}
use Rattle.pf_hand.proofs.Made.{seen_mesh}

-- what was told by less is told by more
told_moved : (o : Opening) (G G' : Gain → Type 0) (entries : List Entry) (c : Call) (a : Answer) → ((x : Gain) → G x → G' x) → IsTold o G entries c a → IsTold o G' entries c a
told_moved o G G' entries c (Done t) f r = r
told_moved o G G' entries c (Refused t why) f r = (r.0, r.1, f _ r.2, (r.3.0, r.3.1, f _ r.3.2, r.3.3))
told_moved o G G' entries c (Busy t n k) f r = (r.0, r.1, f _ r.2, r.3, (r.4.0, r.4.1, f _ r.4.2, r.4.3))
told_moved o G G' entries c (Gone t n) f r = (r.0, r.1, r.2, f _ r.3, (r.4.0, r.4.1, f _ r.4.2, r.4.3))
told_moved o G G' entries c (Unborn n) f r = (r.0, r.1, elim r.2 [ inl x ↦ inl (f _ x) | inr x ↦ inr x ])
told_moved o G G' entries c Spent f r = r
told_moved o G G' entries c Memory f r = (r.0, r.1, (r.2.0, r.2.1, f _ r.2.2, r.2.3))

-- what was gained stands in the later list
pub in_gained : {A : Type 0} (x : A) (zs xs ys : List A) → ys ≡ zs ++ xs → In x zs → In x ys
in_gained {A} x zs xs ys e h = subst (λ (l : List A). In x l) (sym e) (front zs h)
  where
    front : (l : List A) → In x l → In x (l ++ xs)
    front [] i = absurd i
    front (y ∷ l) (inl q) = inl q
    front (y ∷ l) (inr i) = inr (front l i)

-- an answer that a hand's view backs is right of the one history
pub told_right : (o : Opening) (words : List ℕ) (homes : Homes) (views : List View) (log : List Entry) (id : ℕ) (w : View) → Sound o words homes views log → get_elem? views id ≡ some w → (v : View) (chunk : ℕ) (op : Op) (a : Answer) → IsBacked o chunk op v.seen (GainedIn v w) a
    → IsEntered chunk op v.allowance v.entries w.allowance w.entries a → IsRight o log (record { number = number_of v; seen = v.seen; allowance = v.allowance; chunk = chunk; op = op }) a
told_right o words homes views log id w s at v chunk op a backed entered =
    let call : Call = record { number = number_of v; seen = v.seen; allowance = v.allowance; chunk = chunk; op = op } in
    answers_right o words homes views log s id w at call a
    (told_moved o (GainedIn v w) (HasGained w) w.entries call a (gained_has v w)
    (backed_told o (number_of v) v.seen v.allowance chunk op (GainedIn v w) v.entries w.entries w.allowance a backed entered (λ n k g. g.1)))

-- a hand by its parts, where its view is known
pub hand_of : (o : Opening) (t : BoardSeat) (w : View) (changed : Bool) → t.seat.me.0 ≡ w → IsSeat o t → w.unborn ≡ None → AreDue w.chunks w.held t.kept.items → (changed ≡ false → IsLending w.held t.kept.items) → (changed ≡ true → HasSome w.held) → IsHand o t changed
hand_of o t w changed e seat clear due before after =
    record {
      seat = seat;
      clear = subst (λ (u : View). u.unborn ≡ None) (sym e) clear;
      due = subst (λ (u : View). AreDue u.chunks u.held t.kept.items) (sym e) due;
      before = λ b. subst (λ (u : View). IsLending u.held t.kept.items) (sym e) (before b);
      after = λ b. subst (λ (u : View). HasSome u.held) (sym e) (after b);
    }

-- a move that leaves what is held and kept
pub kept_hand : (o : Opening) (s t : BoardSeat) (w : View) (changed : Bool) → IsHand o s changed → IsSeat o t → t.seat.me.0 ≡ w → w.unborn ≡ s.seat.me.0.unborn → w.chunks ≡ s.seat.me.0.chunks → w.held ≡ s.seat.me.0.held → t.kept.items ≡ s.kept.items → IsHand o t changed
kept_hand o s t w changed h seat e u c p k =
    hand_of o t w changed e seat (u ∙ h.clear)
    (λ q i. ap (λ (l : List Kept). list_in l q.node) k ∙ h.due q (subst (λ (l : List Held). In q l) p i) ∙ ap (λ (n : ℕ). sharers_in n q.star) (sym c))
    (λ b.
    let z = h.before b in
    record {
      live = λ q i. z.live q (subst (λ (l : List Held). In q l) p i);
      few = subst (λ (l : List Held). length l ≤ 65) (sym p) z.few;
      lends = λ n. ap (λ (l : List Kept). lent_in l n) k ∙ z.lends n ∙ ap (λ (l : List Held). star_held l n) (sym p);
    })
    (λ b. subst (λ (l : List Held). HasSome l) (sym p) (h.after b))

-- while all is lent, nothing was committed
pub is_before : (o : Opening) (s : BoardSeat) (changed : Bool) → IsHand o s changed → LendsAll (star_held (lent_pairs changed s.seat.me.0.held)) s.seat.me.0.held → changed ≡ false
is_before o s false h e = refl
is_before o s true h e =
    let x = h.after refl in
    absurd (let q : None ≡ Some x.star = ap (λ (f : ℕ → Option Star). f x.node) e ∙ x.holds in cc)

pub hand_before : (o : Opening) (s : BoardSeat) (changed : Bool) → IsHand o s changed → changed ≡ false → IsHand o s false
hand_before o s changed h e = subst (λ (b : Bool). IsHand o s b) e h

not_among : (n : ℕ) (ps : List Held) (p : Held) → (In n (nodes_in ps) → ⊥) → In p ps → n ≡ p.node → ⊥
not_among n [] p away h e = h
not_among n (q ∷ qs) p away (inl f) e = away (inl (e ∙ ap (λ (x : Held). x.node) f))
not_among n (q ∷ qs) p away (inr i) e = not_among n qs p (λ j. away (inr j)) i e

-- a node was won
won_hand : (o : Opening) (s t : BoardSeat) (n : ℕ) (star : Star) (changed : Bool) → IsHand o s changed → changed ≡ false → (In n (nodes_of s.seat.me.0) → ⊥) → length s.seat.me.0.held < 65 → IsSeat o t → t.seat.me.0 ≡ locked s.seat.me.0 n (Some star) → PutsList n (sharers_in s.seat.me.0.chunks (Some star)) (Some star) s t
    → IsHand o t changed
won_hand o s t n star changed h b away few seat e put =
    hand_of o t (locked s.seat.me.0 n (Some star)) changed e seat h.clear due
    (λ _. record { live = live; few = few; lends = λ k. (put k).1 ∙ ap (λ (x : Option Star). cond (n == k) (Some star) x) ((h.before b).lends k) })
    (λ a. absurd (let q : false ≡ true = sym b ∙ a in cc))
  where
    due : (p : Held) → In p (record { node = n; star = Some star } ∷ s.seat.me.0.held) → list_in t.kept.items p.node ≡ sharers_in s.seat.me.0.chunks p.star
    due p (inl f) =
        subst (λ (q : Held). list_in t.kept.items q.node ≡ sharers_in s.seat.me.0.chunks q.star) (sym f)
        ((put n).0 ∙ ap (λ (x : Bool). cond x (sharers_in s.seat.me.0.chunks (Some star)) (list_in s.kept.items n)) (eq_true n n refl))
    due p (inr i) =
        (put p.node).0 ∙ ap (λ (x : Bool). cond x (sharers_in s.seat.me.0.chunks (Some star)) (list_in s.kept.items p.node)) (eq_false n p.node (not_among n s.seat.me.0.held p away i)) ∙ h.due p i

    live : (p : Held) → In p (record { node = n; star = Some star } ∷ s.seat.me.0.held) → p.star ≢ None
    live p (inl f) q = absurd (let z : Some star ≡ None = sym (ap (λ (x : Held). x.star) f) ∙ q in cc)
    live p (inr i) q = (h.before b).live p i q

-- after a try
pub tried_hand : (o : Opening) (s t : BoardSeat) (n : ℕ) (changed : Bool) (found : Hold) → IsHand o s changed → changed ≡ false → (In n (nodes_of s.seat.me.0) → ⊥) → length s.seat.me.0.held < 65 → IsSeat o t → TellsTry o n s t found → IsHand o t changed
tried_hand o s t n changed Won h b away few seat told = won_hand o s t n told.1.0 changed h b away few seat told.1.2 told.1.3
tried_hand o s t n changed (Lost k) h b away few seat told = kept_hand o s t (lost_to s.seat.me.0 n k) changed h seat told.0.4 refl refl refl told.1
tried_hand o s t n changed Dead h b away few seat told = kept_hand o s t (found_dead s.seat.me.0 n) changed h seat told.0.2 refl refl refl told.1
tried_hand o s t n changed Never h b away few seat told =
    ⊎_elim
    (λ (x : (n < names_of o) × (t.seat.me.0 ≡ found_never s.seat.me.0 n)). kept_hand o s t (found_never s.seat.me.0 n) changed h seat x.1 refl refl refl told.1)
    (λ (x : (names_of o ≤ n) × (t.seat.me.0 ≡ s.seat.me.0)). kept_hand o s t s.seat.me.0 changed h seat x.1 refl refl refl told.1)
    told.0.1

-- a later view whose entries, numbers and what was found grew by these
later_by : (v w : View) → w.numbers ≡ v.numbers → w.workers ≡ v.workers → w.entries ≡ v.entries → w.refusals ≡ v.refusals → w.lost ≡ v.lost → w.dead ≡ v.dead → w.never ≡ v.never → w.marks ≡ v.marks → IsLater v w
later_by v w a b c d e f g h = record { numbers = a; workers = b; entries = ([], c); refusals = ([], d); lost = ([], e); dead = ([], f); never = ([], g); marks = ([], h) }

later_lost : (v : View) (n k : ℕ) → IsLater v (lost_to v n k)
later_lost v n k = record { numbers = refl; workers = refl; entries = ([], refl); refusals = ([], refl); lost = (record { node = n; holder = k } ∷ [], refl); dead = ([], refl); never = ([], refl); marks = ([], refl) }

later_dead : (v : View) (n : ℕ) → IsLater v (found_dead v n)
later_dead v n = record { numbers = refl; workers = refl; entries = ([], refl); refusals = ([], refl); lost = ([], refl); dead = (n ∷ [], refl); never = ([], refl); marks = ([], refl) }

later_never : (v : View) (n : ℕ) → IsLater v (found_never v n)
later_never v n = record { numbers = refl; workers = refl; entries = ([], refl); refusals = ([], refl); lost = ([], refl); dead = ([], refl); never = (n ∷ [], refl); marks = ([], refl) }

later_as : (v w u : View) → w ≡ u → IsLater v u → IsLater v w
later_as v w u e l = subst (λ (x : View). IsLater v x) (sym e) l

-- the view after a try is a later one
pub tried_later : (o : Opening) (s t : BoardSeat) (n : ℕ) (found : Hold) → TellsTry o n s t found → IsLater s.seat.me.0 t.seat.me.0
tried_later o s t n Won told = later_as s.seat.me.0 t.seat.me.0 (locked s.seat.me.0 n (Some told.1.0)) told.1.2 (later_by s.seat.me.0 (locked s.seat.me.0 n (Some told.1.0)) refl refl refl refl refl refl refl refl)
tried_later o s t n (Lost k) told = later_as s.seat.me.0 t.seat.me.0 (lost_to s.seat.me.0 n k) told.0.4 (later_lost s.seat.me.0 n k)
tried_later o s t n Dead told = later_as s.seat.me.0 t.seat.me.0 (found_dead s.seat.me.0 n) told.0.2 (later_dead s.seat.me.0 n)
tried_later o s t n Never told =
    ⊎_elim
    (λ (x : (n < names_of o) × (t.seat.me.0 ≡ found_never s.seat.me.0 n)). later_as s.seat.me.0 t.seat.me.0 (found_never s.seat.me.0 n) x.1 (later_never s.seat.me.0 n))
    (λ (x : (names_of o ≤ n) × (t.seat.me.0 ≡ s.seat.me.0)). later_as s.seat.me.0 t.seat.me.0 s.seat.me.0 x.1 (later_self s.seat.me.0))
    told.0.1

-- what a try tells a holder
pub tried_tells : (o : Opening) (s t : BoardSeat) (n : ℕ) (found : Hold) → s.number ≡ number_of s.seat.me.0 → TellsTry o n s t found → TellsHold (names_of o) n s.seat.me.0.held t.seat.me.0.held (GainedIn s.seat.me.0 t.seat.me.0) found
tried_tells o s t n Won own told = (told.0, (told.1.0, ap (λ (u : View). u.held) told.1.2))
tried_tells o s t n (Lost k) own told = (ap (λ (u : View). u.held) told.0.4, ((record { node = n; holder = k } ∷ [], ap (λ (u : View). u.lost) told.0.4, inl refl), λ (q : k ≡ number_of s.seat.me.0). told.0.1 (q ∙ sym own)))
tried_tells o s t n Dead own told = (ap (λ (u : View). u.held) told.0.2, (n ∷ [], ap (λ (u : View). u.dead) told.0.2, inl refl))
tried_tells o s t n Never own told =
    ⊎_elim
    (λ (x : (n < names_of o) × (t.seat.me.0 ≡ found_never s.seat.me.0 n)). (ap (λ (u : View). u.held) x.1, inl (n ∷ [], ap (λ (u : View). u.never) x.1, inl refl)))
    (λ (x : (names_of o ≤ n) × (t.seat.me.0 ≡ s.seat.me.0)). (ap (λ (u : View). u.held) x.1, inr x.0))
    told.0.1

-- what a try leaves
pub record IsLeft (v w : View) : Type 0 where
  pub entries : w.entries ≡ v.entries
  pub allowance : w.allowance ≡ v.allowance
  pub seen : w.seen ≡ v.seen
  pub unborn : w.unborn ≡ v.unborn

left_as : (v w u : View) → w ≡ u → u.entries ≡ v.entries → u.allowance ≡ v.allowance → u.seen ≡ v.seen → u.unborn ≡ v.unborn → IsLeft v w
left_as v w u e a b c d = record { entries = ap (λ (x : View). x.entries) e ∙ a; allowance = ap (λ (x : View). x.allowance) e ∙ b; seen = ap (λ (x : View). x.seen) e ∙ c; unborn = ap (λ (x : View). x.unborn) e ∙ d }

pub tried_leaves : (o : Opening) (s t : BoardSeat) (n : ℕ) (found : Hold) → TellsTry o n s t found → IsLeft s.seat.me.0 t.seat.me.0
tried_leaves o s t n Won told = left_as s.seat.me.0 t.seat.me.0 (locked s.seat.me.0 n (Some told.1.0)) told.1.2 refl refl refl refl
tried_leaves o s t n (Lost k) told = left_as s.seat.me.0 t.seat.me.0 (lost_to s.seat.me.0 n k) told.0.4 refl refl refl refl
tried_leaves o s t n Dead told = left_as s.seat.me.0 t.seat.me.0 (found_dead s.seat.me.0 n) told.0.2 refl refl refl refl
tried_leaves o s t n Never told =
    ⊎_elim
    (λ (x : (n < names_of o) × (t.seat.me.0 ≡ found_never s.seat.me.0 n)). left_as s.seat.me.0 t.seat.me.0 (found_never s.seat.me.0 n) x.1 refl refl refl refl)
    (λ (x : (names_of o ≤ n) × (t.seat.me.0 ≡ s.seat.me.0)). left_as s.seat.me.0 t.seat.me.0 s.seat.me.0 x.1 refl refl refl refl)
    told.0.1

-- a star that is held is that of a pair
star_pair : (ps : List Held) (n : ℕ) (star : Star) → star_held ps n ≡ Some star → (p : Held) × In p ps × (p.star ≡ Some star)
star_pair [] n star e = absurd (let q : None ≡ Some star = e in cc)
star_pair (p ∷ ps) n star e = go (p.node == n) e (star_pair ps n star)
  where
    go : (b : Bool) → cond b p.star (star_held ps n) ≡ Some star → (star_held ps n ≡ Some star → (q : Held) × In q ps × (q.star ≡ Some star)) → (q : Held) × In q (p ∷ ps) × (q.star ≡ Some star)
    go true f ih = (p, inl refl, f)
    go false f ih = let r = ih f in (r.0, inr r.1, r.2)

near_held : (v : View) (n : ℕ) → IsNearLent (star_held v.held) n → IsHeldNeighbour v n
near_held v n k =
    let r = star_pair v.held k.at k.star k.lends in
    (r.0, r.1, subst (λ (x : Option Star). In n (neighbours_in x)) (sym r.2) (in_has n (neighbours k.star.spokes) k.near))

-- a neighbour in a star that is lent is found live
pub tried_near : (o : Opening) (s t : BoardSeat) (n : ℕ) (changed : Bool) (found : Hold) → LendsAll (star_held (lent_pairs changed s.seat.me.0.held)) s.seat.me.0.held → TellsTry o n s t found → IsNearLent (star_held (lent_pairs changed s.seat.me.0.held)) n → IsFoundLive found
tried_near o s t n changed Won all told k = tt
tried_near o s t n changed (Lost j) all told k = tt
tried_near o s t n changed Dead all told k = told.0.1 (near_held s.seat.me.0 n (subst (λ (f : ℕ → Option Star). IsNearLent f n) all k))
tried_near o s t n changed Never all told k = told.0.0 (near_held s.seat.me.0 n (subst (λ (f : ℕ → Option Star). IsNearLent f n) all k))

-- to a hand that is alone, a node is lost to nobody, and not found where it is live
pub tried_alone : (o : Opening) (s t : BoardSeat) (n : ℕ) (found : Hold) → IsSeat o s → IsAlone s.seat.me.0 → TellsTry o n s t found → locks.TellsAlone o n s.seat.me.0 found → facts.TellsAlone (star_of (mesh_alone o s.seat.me.0.entries) n) found
tried_alone o s t n Won seat alone told a = tt
tried_alone o s t n (Lost k) seat alone told a = told.0.3 alone
tried_alone o s t n Dead seat alone told a = subst (λ (l : List Entry). star_of (mesh_after o l) n ≡ None) (sym (own_history o s seat alone)) (not_live (mesh_after o (own_log s.seat.me.0)) n a)
tried_alone o s t n Never seat alone told a = subst (λ (l : List Entry). star_of (mesh_after o l) n ≡ None) (sym (own_history o s seat alone)) (not_live (mesh_after o (own_log s.seat.me.0)) n a)

-- what a holder may ask, the board may
pub can_ask : (o : Opening) (v : View) (asked : Option Asked) → KnowsMesh o v → facts.IsAskable o.mesh.bands v.held asked → locks.IsAskable v asked
can_ask o v None k a = tt
can_ask o v (Some q) k a = (a.0, λ m is. a.1 m (seen_mesh o v m k.opening.3 is))

abbrev mark_of : View → ℕ → Mark
mark_of v t = record { at = t; pairs = v.held; gone = v.dead }

-- the view after a note
pub record IsNoted (v w : View) (t : ℕ) : Type 0 where
  pub later : IsLater v w
  pub seen : w.seen ≡ t
  pub entries : w.entries ≡ v.entries
  pub allowance : w.allowance ≡ v.allowance
  pub held : w.held ≡ v.held
  pub unborn : w.unborn ≡ v.unborn
  pub marks : w.marks ≡ mark_of v t ∷ v.marks

pub note_is : (v w : View) (t : ℕ) (asked : Option Asked) → TellsNote t v w asked → IsNoted v w t
note_is v w t None e =
    record {
      later = later_as v w (noted v t) e (record { numbers = refl; workers = refl; entries = ([], refl); refusals = ([], refl); lost = ([], refl); dead = ([], refl); never = ([], refl); marks = (mark_of v t ∷ [], refl) });
      seen = ap (λ (u : View). u.seen) e;
      entries = ap (λ (u : View). u.entries) e;
      allowance = ap (λ (u : View). u.allowance) e;
      held = ap (λ (u : View). u.held) e;
      unborn = ap (λ (u : View). u.unborn) e;
      marks = ap (λ (u : View). u.marks) e;
    }
note_is v w t (Some q) e =
    record {
      later = later_as v w (refused v t q.chunk q.op e.0) e.2 (record { numbers = refl; workers = refl; entries = ([], refl); refusals = (record { at = t; chunk = q.chunk; op = q.op; cond = e.0 } ∷ [], refl); lost = ([], refl); dead = ([], refl); never = ([], refl); marks = (mark_of v t ∷ [], refl) });
      seen = ap (λ (u : View). u.seen) e.2;
      entries = ap (λ (u : View). u.entries) e.2;
      allowance = ap (λ (u : View). u.allowance) e.2;
      held = ap (λ (u : View). u.held) e.2;
      unborn = ap (λ (u : View). u.unborn) e.2;
      marks = ap (λ (u : View). u.marks) e.2;
    }

pub noted_hand : (o : Opening) (s t : BoardSeat) (k : ℕ) (changed : Bool) (asked : Option Asked) → IsHand o s changed → IsSeat o t → TellsNote k s.seat.me.0 t.seat.me.0 asked → t.kept.items ≡ s.kept.items → IsHand o t changed
noted_hand o s t k changed None h seat e same = kept_hand o s t (noted s.seat.me.0 k) changed h seat e refl refl refl same
noted_hand o s t k changed (Some q) h seat e same = kept_hand o s t (refused s.seat.me.0 k q.chunk q.op e.0) changed h seat e.2 refl refl refl same

-- the mark of a note has what was found dead before
pub note_marks : (v w : View) (t : ℕ) (asked : Option Asked) (found : ℕ → Type 0) → TellsNote t v w asked → ((n : ℕ) → found n → In n v.dead) → IsMarked t v.held (GainedIn v w) found
note_marks v w t asked found e had =
    record {
      it = mark_of v t;
      at = refl;
      holds = refl;
      known = (mark_of v t ∷ [], (note_is v w t asked e).marks, inl refl);
      gone = had;
    }

some_same : (x y : Cond) → Some x ≡ Some y → x ≡ y
some_same x y e = cc

-- the refusal of what was asked is known
pub note_told : (o : Opening) (v w : View) (t : ℕ) (asked : Option Asked) → KnowsMesh o v → TellsNote t v w asked → facts.TellsAsked t o.mesh.bands v.held (GainedIn v w) asked
note_told o v w t None k e = tt
note_told o v w t (Some q) k e = λ why fails.
    let seen = seen_mesh o v k.mesh k.opening.3 k.shown in
    let same : e.0 ≡ why = some_same e.0 why (sym (e.1 k.mesh k.shown) ∙ fails k.mesh seen) in
    (record { at = t; chunk = q.chunk; op = q.op; cond = why } ∷ [], ap (λ (u : View). u.refusals) e.2 ∙ ap (λ (c : Cond). record { at = t; chunk = q.chunk; op = q.op; cond = c } ∷ v.refusals) same, inl refl)
