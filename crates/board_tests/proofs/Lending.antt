-- What a seat lends while it takes nodes.
use Rattle.std.proofs.Common.{◌≡◌, ◌≢◌, ℕ, Bool, true, false, cond, ◌==◌, List, [], ◌∷◌, length, refl, sym, ap, ◌∙◌, subst, ◌⊎◌, inl, inr, ⊎_elim, arith}
use Rattle.std.specs.Prelude.{Option, Some, None, is_some, ◌||◌, slice_index}
use Rattle.std.proofs.lemmas.Bool.Decides.{nat_tests}
use Rattle.pf_model.specs.Stars.{Star}
use Rattle.pf_star_model.specs.Lent.{Held, star_held}
use Rattle.pf_core_model.specs.declared.sharer.Sharer.{Sharer}
use Rattle.pf_core_model.specs.declared.event.Asked.{Asked}
use Rattle.pf_core_model.specs.declared.view.View.{View}
use Rattle.pf_core_model.specs.Lists.{In}
use Rattle.pf_core_model.specs.Sharers.{sharers_in}
use Rattle.pf_core_model.specs.Moves.{locked, lost_to, found_dead, found_never, noted, refused, spares_in}
use Rattle.pf_core_model.specs.Core.{Opening, nodes_in, nodes_of}
use Rattle.pf_core_model.proofs.Lists.{in_map}
use Rattle.pf_holder.specs.declared.holder.Hold.{Hold}
use Rattle.pf_holder.specs.declared.holder.Hold.TheVariants.{Won, Lost, Dead, Never}
use Rattle.pf_locks.specs.declared.kept.Kept.{Kept}
use Rattle.pf_locks.specs.declared.seat.BoardSeat.{BoardSeat}
use Rattle.pf_locks.specs.Lists.{list_in, lent_in, names_in}
use Rattle.pf_locks.specs.Seats.{TellsTry, TellsNote, KeepsLists, IsShaped, IsSeat}
use Rattle.board_tests.specs.Holding.{LentBy, IsLending, is_kept}

pub same : (n : ℕ) → (n == n) ≡ true
same n = grind (arith, nat_tests)

pub apart : (a b : ℕ) → (a ≡ b → ⊥) → (a == b) ≡ false
apart a b h = let k : a ≢ b = h in grind (arith, nat_tests)

pub met : (a b : ℕ) → (a == b) ≡ true → a ≡ b
met a b h = grind (arith, nat_tests)

pub unmet : (a b : ℕ) → (a == b) ≡ false → a ≡ b → ⊥
unmet a b e f = grind (arith, nat_tests)

-- a node of which no star is held isn't held, where each that is held is live
pub out : (n : ℕ) (ps : List Held) → ((p : Held) → In p ps → p.star ≢ None) → star_held ps n ≡ None → In n (nodes_in ps) → ⊥
out n [] live e h = absurd h
out n (p ∷ ps) live e h = go (p.node == n) refl e h (λ z. out n ps (λ q j. live q (inr j)) z)
  where
    go : (b : Bool) → (p.node == n) ≡ b → cond b p.star (star_held ps n) ≡ None → (n ≡ p.node) ⊎ In n (nodes_in ps) → (star_held ps n ≡ None → In n (nodes_in ps) → ⊥) → ⊥
    go true f z k ih = live p (inl refl) z
    go false f z (inl g) ih = unmet p.node n f (sym g)
    go false f z (inr i) ih = ih z i

won : (n : ℕ) (star : Star) (v : View) (ks js : List Kept) → (In n (nodes_of v) → ⊥) → LentBy v ks
    → ((k : ℕ) → (list_in js k ≡ cond (n == k) (sharers_in v.chunks (Some star)) (list_in ks k)) × (lent_in js k ≡ cond (n == k) (Some star) (lent_in ks k)))
    → LentBy (locked v n (Some star)) js
won n star v ks js away l put = record {
  paid = record { clear = l.paid.clear; due = due };
  live = live;
  lends = λ k. (put k).1 ∙ ap (λ (x : Option Star). cond (n == k) (Some star) x) (l.lends k);
}
  where
    pair : Held
    pair = record { node = n; star = Some star }

    due : (p : Held) → In p (pair ∷ v.held) → list_in js p.node ≡ sharers_in v.chunks p.star
    due p (inl e) = subst (λ (q : Held). list_in js q.node ≡ sharers_in v.chunks q.star) (sym e) ((put n).0 ∙ ap (λ (b : Bool). cond b (sharers_in v.chunks (Some star)) (list_in ks n)) (same n))
    due p (inr i) =
        let far : (n == p.node) ≡ false = apart n p.node (λ e. away (subst (λ (k : ℕ). In k (nodes_of v)) (sym e) (in_map (λ (q : Held). q.node) p v.held i))) in
        (put p.node).0 ∙ ap (λ (b : Bool). cond b (sharers_in v.chunks (Some star)) (list_in ks p.node)) far ∙ l.paid.due p i

    live : (p : Held) → In p (pair ∷ v.held) → p.star ≢ None
    live p (inl e) = subst (λ (q : Held). q.star ≢ None) (sym e) (λ z. absurd (cc (z)))
    live p (inr i) = l.live p i

-- the same with the same lists
pub kept_same : (v : View) (ks js : List Kept) → js ≡ ks → LentBy v ks → LentBy v js
kept_same v ks js e l = subst (λ (x : List Kept). LentBy v x) (sym e) l

pub tried : (o : Opening) (n : ℕ) (s t : BoardSeat) (h : Hold) → TellsTry o n s t h → (In n (nodes_of s.seat.me.0) → ⊥) → IsLending s → IsLending t
tried o n s t Won told away l = subst (λ (u : View). LentBy u t.kept.items) (sym told.1.2) (won n told.1.0 s.seat.me.0 s.kept.items t.kept.items away l told.1.3)
tried o n s t (Lost k) told away l = subst (λ (u : View). LentBy u t.kept.items) (sym told.0.4) (kept_same (lost_to s.seat.me.0 n k) s.kept.items t.kept.items told.1 (record { paid = record { clear = l.paid.clear; due = l.paid.due }; live = l.live; lends = l.lends }))
tried o n s t Dead told away l = subst (λ (u : View). LentBy u t.kept.items) (sym told.0.2) (kept_same (found_dead s.seat.me.0 n) s.kept.items t.kept.items told.1 (record { paid = record { clear = l.paid.clear; due = l.paid.due }; live = l.live; lends = l.lends }))
tried o n s t Never told away l = ⊎_elim
    (λ k. subst (λ (u : View). LentBy u t.kept.items) (sym k.1) (kept_same (found_never s.seat.me.0 n) s.kept.items t.kept.items told.1 (record { paid = record { clear = l.paid.clear; due = l.paid.due }; live = l.live; lends = l.lends })))
    (λ k. subst (λ (u : View). LentBy u t.kept.items) (sym k.1) (kept_same s.seat.me.0 s.kept.items t.kept.items told.1 l))
    told.0.1

pub noted_lends : (at : ℕ) (s t : BoardSeat) (q : Option Asked) → TellsNote at s.seat.me.0 t.seat.me.0 q → KeepsLists s t → IsLending s → IsLending t
noted_lends at s t None told kept l = subst (λ (u : View). LentBy u t.kept.items) (sym told) (kept_same (noted s.seat.me.0 at) s.kept.items t.kept.items kept (record { paid = record { clear = l.paid.clear; due = l.paid.due }; live = l.live; lends = l.lends }))
noted_lends at s t (Some q) told kept l = subst (λ (u : View). LentBy u t.kept.items) (sym told.2) (kept_same (refused s.seat.me.0 at q.chunk q.op told.0) s.kept.items t.kept.items kept (record { paid = record { clear = l.paid.clear; due = l.paid.due }; live = l.live; lends = l.lends }))

-- nothing is held, where nothing is kept
pub none_held : (hand : List (ℕ × List Sharer)) (ps : List Held) (ks : List Kept) (cap : ℕ) → IsShaped hand (nodes_in ps) ks cap → length ks ≡ 0 → ps ≡ []
none_held hand [] ks cap h e = refl
none_held hand (p ∷ ps) ks cap h e = let l = h.long in absurd (omega (arith, l, e))

no_kept : (ks : List Kept) → length ks ≡ 0 → ks ≡ []
no_kept [] e = refl
no_kept (k ∷ ks) e = absurd (omega (arith, e))

-- a seat that holds nothing lends all of it
pub none_lent : (v : View) (ks : List Kept) → v.unborn ≡ None → v.held ≡ [] → length ks ≡ 0 → LentBy v ks
none_lent v ks c h e = record {
  paid = record { clear = c; due = λ p i. absurd (subst (λ (l : List Held). In p l) h i) };
  live = λ p i. absurd (subst (λ (l : List Held). In p l) h i);
  lends = λ n. ap (λ (l : List Kept). lent_in l n) (no_kept ks e) ∙ sym (ap (λ (l : List Held). star_held l n) h);
}

-- a node of which no star is lent isn't held
pub away : (n : ℕ) (v : View) (ks : List Kept) → LentBy v ks → is_some (lent_in ks n) ≡ false → In n (nodes_of v) → ⊥
away n v ks l e = out n v.held l.live (go (star_held v.held n) (sym (ap (λ (x : Option Star). is_some x) (l.lends n)) ∙ e))
  where
    go : (x : Option Star) → is_some x ≡ false → x ≡ None
    go None f = refl
    go (Some s) f = absurd (let z : true ≡ false = f in cc (z))

pub kept_name : (n : ℕ) (ks : List Kept) → is_kept ks n ≡ true → In n (names_in ks)
kept_name n [] e = absurd (let z : false ≡ true = e in cc (z))
kept_name n (k ∷ ks) e = go (k.node == n) refl e (kept_name n ks)
  where
    go : (b : Bool) → (k.node == n) ≡ b → (b || is_kept ks n) ≡ true → (is_kept ks n ≡ true → In n (names_in ks)) → (n ≡ k.node) ⊎ In n (names_in ks)
    go true f z ih = inl (sym (met k.node n f))
    go false f z ih = inr (ih z)

pub free_lends : (o : Opening) (t : BoardSeat) → IsSeat o t → t.seat.me.0.held ≡ [] → t.seat.me.0.unborn ≡ None → IsLending t
free_lends o t s h c = none_lent t.seat.me.0 t.kept.items c h (s.shape.long ∙ ap (λ (l : List Held). length (nodes_in l)) h)

-- a number of the seat that isn't its own is spare
pub spare_there : (numbers : List ℕ) (own k : ℕ) → own ≡ slice_index numbers 0 → In k numbers → k ≢ own → (x : ℕ) × In x (spares_in numbers)
spare_there [] own k e i ne = absurd i
spare_there (x ∷ xs) own k e (inl f) ne = absurd (ne (f ∙ sym e))
spare_there (x ∷ xs) own k e (inr i) ne = (k, i)
