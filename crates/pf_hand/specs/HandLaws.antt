-- The laws by which a hand meets the trait of a holder.
use Rattle.std.proofs.Common.{◌≡◌, ℕ, zero, suc, ◌+◌, ◌-◌, ◌<◌, ◌≤◌, Bool, true, false, cond, ◌==◌, List, [], ◌∷◌, ◌++◌, length, refl, sym, ap, ◌∙◌, subst, inl, inr, arith, length-append, append_assoc}
use Rattle.std.proofs.Props.{props}
use Rattle.std.proofs.Math.Logic.{∥∥₁_elim, ∥∥₁_map}
use Rattle.std.proofs.lemmas.Bool.{eqb-true}
use Rattle.pf_model.specs.declared.Entry.{Entry}
use Rattle.pf_model.specs.Replay.{IsLegal}
use Rattle.pf_core_model.specs.Lists.{In}
use Rattle.pf_core_model.specs.History.{with_ticket, history_from}
use Rattle.pf_core_model.specs.Core.{Opening, names_of, mesh_after, nodes_in}
use Rattle.pf_core_model.specs.Guards.{IsAlone}
use Rattle.pf_core_model.specs.Seats.{own_log}
use Rattle.pf_core_model.proofs.Replays.{conforms_after, replayed_bands}
use Rattle.pf_holder.specs.Facts.{AreSeen, IsSeen, KnowsAll, history_in}
use Rattle.pf_locks.specs.declared.seat.BoardSeat.{BoardSeat}
use Rattle.pf_locks.specs.Seats.{IsSeat}
use Rattle.pf_hand.specs.Hands.{IsHand}

-- a history in two parts
joined : (t a b : ℕ) (es : List Entry) → history_from t (a + b) es ≡ history_from t a es ++ history_from (t + a) b es
joined t zero b es = (λ i. history_from (let z : t ≡ t + 0 = omega arith in z i) (let z : 0 + b ≡ b = omega arith in z i) es)
joined t (suc a) b es =
    (let z : suc a + b ≡ suc (a + b) = omega arith in ap (λ (k : ℕ). history_from t k es) z)
    ∙ ap (λ (l : List Entry). with_ticket t es ++ l) (joined (suc t) a b es ∙ (let z : suc t + a ≡ t + suc a = omega arith in ap (λ (k : ℕ). history_from (suc t) a es ++ history_from k b es) z))
    ∙ sym (append_assoc (with_ticket t es) (history_from (suc t) a es) (history_from (t + suc a) b es))

-- no entry has a ticket from t on
none_at : (t : ℕ) (es : List Entry) → ((e : Entry) → In e es → e.ticket < t) → (k : ℕ) → t ≤ k → with_ticket k es ≡ []
none_at t [] low k far = refl
none_at t (e ∷ es) low k far = go (e.ticket == k) refl (none_at t es (λ d i. low d (inr i)) k far)
  where
    go : (b : Bool) → (e.ticket == k) ≡ b → with_ticket k es ≡ [] → cond b (e ∷ []) (with_ticket k es) ≡ []
    go true q ih = let f = eqb-true e.ticket k q in let l = low e (inl refl) in absurd (omega (arith, f, l, far))
    go false q ih = ih

none_from : (t : ℕ) (es : List Entry) → ((e : Entry) → In e es → e.ticket < t) → (k n : ℕ) → t ≤ k → history_from k n es ≡ []
none_from t es low k zero far = refl
none_from t es low k (suc n) far = (λ i. none_at t es low k far i ++ none_from t es low (suc k) n (omega (arith, far)) i)

-- an entry with an earlier ticket adds nothing
earlier : (e : Entry) (es : List Entry) (t n : ℕ) → e.ticket < t → history_from t n (e ∷ es) ≡ history_from t n es
earlier e es t zero low = refl
earlier e es t (suc n) low = (λ i. cond (differs i) (e ∷ []) (with_ticket t es) ++ earlier e es (suc t) n (omega (arith, low)) i)
  where
    differs : (e.ticket == t) ≡ false
    differs = go (e.ticket == t) refl
      where
        go : (b : Bool) → (e.ticket == t) ≡ b → b ≡ false
        go true q = let f = eqb-true e.ticket t q in absurd (omega (arith, f, low))
        go false q = refl

-- one entry more adds one at most
one_more : (e : Entry) (es : List Entry) (t n : ℕ) → length (history_from t n (e ∷ es)) ≤ suc (length (history_from t n es))
one_more e es t zero = omega arith
one_more e es t (suc n) = go (e.ticket == t) refl (one_more e es (suc t) n)
  where
    go : (b : Bool) → (e.ticket == t) ≡ b → length (history_from (suc t) n (e ∷ es)) ≤ suc (length (history_from (suc t) n es)) → length (cond b (e ∷ []) (with_ticket t es) ++ history_from (suc t) n (e ∷ es)) ≤ suc (length (with_ticket t es ++ history_from (suc t) n es))
    go true q ih =
        let f = eqb-true e.ticket t q in
        let same = ap (λ (l : List Entry). length l) (earlier e es (suc t) n (omega (arith, f))) in
        let sum = length-append (with_ticket t es) (history_from (suc t) n es) in
        let w : suc (length (history_from (suc t) n (e ∷ es))) ≤ suc (length (with_ticket t es ++ history_from (suc t) n es)) = omega (arith, same, sum) in
        w
    go false q ih =
        let a = length-append (with_ticket t es) (history_from (suc t) n (e ∷ es)) in
        let b = length-append (with_ticket t es) (history_from (suc t) n es) in
        let w : length (with_ticket t es ++ history_from (suc t) n (e ∷ es)) ≤ suc (length (with_ticket t es ++ history_from (suc t) n es)) = omega (arith, a, b, ih) in
        w

no_longer : (es : List Entry) (t n : ℕ) → length (history_from t n es) ≤ length es
no_longer [] t zero = omega arith
no_longer [] t (suc n) = no_longer [] (suc t) n
no_longer (e ∷ es) t n = let a = one_more e es t n in let b = no_longer es t n in omega (arith, a, b)

-- where the entries have all tickets below those seen, and no other, as many as there are entries show all of them
pub whole_history : (seen : ℕ) (es : List Entry) → ((e : Entry) → In e es → e.ticket < seen) → length (history_from 0 seen es) ≡ seen → history_in es ≡ history_from 0 seen es
whole_history seen es low long =
    let few = no_longer es 0 seen in
    let rest : length es ≡ seen + (length es - seen) = omega (arith, few, long) in
    ap (λ (k : ℕ). history_from 0 k es) rest
    ∙ joined 0 seen (length es - seen) es
    ∙ ap (λ (l : List Entry). history_from 0 seen es ++ l) (none_from seen es low (0 + seen) (length es - seen) (omega arith))
    ∙ nothing_more (history_from 0 seen es)
  where
    nothing_more : (l : List Entry) → l ++ [] ≡ l
    nothing_more [] = refl
    nothing_more (x ∷ xs) = ap (λ (l : List Entry). x ∷ l) (nothing_more xs)

-- the history of an actor that is alone, by its entries, is that by the tickets that it has seen
pub own_history : (o : Opening) (s : BoardSeat) → IsSeat o s → IsAlone s.seat.me.0 → history_in s.seat.me.0.entries ≡ own_log s.seat.me.0
own_history o s seat alone =
    whole_history s.seat.me.0.seen s.seat.me.0.entries
    (λ e i. let l = seat.counts.tickets e i in let q = seat.counts.seen in omega (arith, l, q))
    (seat.knows.1 alone).long

agrees : (o : Opening) (s : BoardSeat) (changed : Bool) → IsHand o s changed → AreSeen o s.seat.me.0.held
agrees o s changed h =
    let k = h.seat.knows.0 in
    record {
      mesh = k.mesh;
      seen = record { conforming = k.shown.conforming; banded = k.shown.bands ∙ k.opening.3; shown = k.shown.pairs };
      first_new = k.shown.first_new ∙ k.opening.1;
      chunks = k.shown.chunks ∙ k.opening.2;
      live = k.live;
      small = k.small;
    }

knows : (o : Opening) (s : BoardSeat) (changed : Bool) → IsHand o s changed → IsAlone s.seat.me.0 → KnowsAll o s.seat.me.0.held s.seat.me.0.allowance s.seat.me.0.entries
knows o s changed h alone =
    let v = s.seat.me.0 in
    let w = h.seat.knows.1 alone in
    let same = own_history o s h.seat alone in
    let long = ap (λ (l : List Entry). length l) same in
    let all = w.long in
    let budget = w.budget in
    record {
      conforming = w.conforming;
      fresh = w.fresh;
      legal = subst (λ (l : List Entry). IsLegal o.mesh l) (sym same) w.legal;
      seen = subst (λ (l : List Entry). IsSeen o.mesh.bands v.held (mesh_after o l)) (sym same) (record { conforming = conforms_after o (own_log v) w.conforming w.fresh w.legal; banded = replayed_bands o.mesh (own_log v); shown = w.pairs });
      budget = omega (arith, long, all, budget);
    }

pub agrees_merely : (o : Opening) (s : BoardSeat) (changed : Bool) → ∥ IsHand o s changed ∥₁ → ∥ AreSeen o s.seat.me.0.held ∥₁
agrees_merely o s changed h = ∥∥₁_map h (agrees o s changed)

pub near_merely : (o : Opening) (s : BoardSeat) (changed : Bool) → ∥ IsHand o s changed ∥₁ → (n : ℕ) → In n (nodes_in s.seat.me.0.held) → n < names_of o
near_merely o s changed h n i = ∥∥₁_elim h (hlevel props) (λ (k : IsHand o s changed). k.seat.knows.0.near n i)

pub knows_merely : (o : Opening) (s : BoardSeat) (changed : Bool) → ∥ IsHand o s changed ∥₁ → IsAlone s.seat.me.0 → ∥ KnowsAll o s.seat.me.0.held s.seat.me.0.allowance s.seat.me.0.entries ∥₁
knows_merely o s changed h alone = ∥∥₁_map h (λ (k : IsHand o s changed). knows o s changed k alone)
