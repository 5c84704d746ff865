-- A seat after each call.
use Rattle.std.proofs.Common.{◌≡◌, ◌≢◌, ℕ, zero, suc, ◌+◌, ◌-◌, ◌<◌, ◌≤◌, Bool, true, false, cond, ◌==◌, List, [], ◌∷◌, ◌++◌, length, set, take, drop, refl, sym, ap, ◌∙◌, subst, inl, inr, ⊎_elim, arith, length-append}
use Rattle.std.specs.Prelude.{slice_index, slice_index_or, remove, Option, Some, None, vec_capacity}
use Rattle.std.specs.FinMap as fin
use Rattle.std.specs.Ordering.{nat_cmp, eq_by_cmp, is_eq}
use Rattle.std.specs.declared.cmp.Ordering.TheVariants.{Less, Equal, Greater}
use Rattle.std.specs.FinMap.{nat_cmp-IsAntisymmetric}
use Rattle.std.specs.FinMap.Entries.{find}
use Rattle.std.proofs.lemmas.Cmp.{nat_cmp_total}
use Rattle.std.proofs.lemmas.Bool.{eqb-true, eqb-false}
use Rattle.std.proofs.lemmas.List.{length-set}
use Rattle.pf_model.specs.declared.Op.{Op}
use Rattle.pf_model.specs.declared.Op.TheVariants.{Flip, Bisect, Contract}
use Rattle.pf_model.specs.declared.Entry.{Entry}
use Rattle.pf_model.specs.Mesh.{Undivided}
use Rattle.pf_model.specs.Conforming.{IsLive}
use Rattle.pf_model.specs.Stars.{Star, star_of}
use Rattle.pf_star_model.specs.Lent.{Held}
use Rattle.pf_star_model.specs.Patched.{made_by}
use Rattle.pf_entries.specs.Maps.{EntryMap, keyed, map_of}
use Rattle.pf_core_model.specs.declared.sharer.Sharer.{Sharer}
use Rattle.pf_core_model.specs.declared.view.View.{View}
use Rattle.pf_core_model.specs.Lists.{In, times}
use Rattle.pf_core_model.specs.Cavity.{makes_node}
use Rattle.pf_core_model.specs.declared.event.Asked.{Asked}
use Rattle.pf_core_model.specs.Moves.{committed, noted, refused, released, without, spares_in}
use Rattle.pf_core_model.specs.Core.{Opening, names_of, mesh_after, nodes_in, nodes_of}
use Rattle.pf_core_model.specs.Guards.{IsMeshOf}
use Rattle.pf_core_model.specs.Seats.{own_log, IsWhole, Knows}
use Rattle.pf_core_model.proofs.Lists.{times_in, in_times, times_out}
use Rattle.pf_core_model.proofs.Replays.{fresh_after, replayed_first_new}
use Rattle.pf_core_model.proofs.Seats.{star_some}
use Rattle.pf_board_steps.specs.Plays.{Mine}
use Rattle.pf_locks.specs.declared.kept.Kept.{Kept}
use Rattle.pf_locks.specs.declared.seat.BoardSeat.{BoardSeat}
use Rattle.pf_locks.specs.Lists.{names_in, first_place, slot_of, slots_of}
use Rattle.pf_locks.specs.Turned.{rotated}
use Rattle.pf_locks.specs.Seats.{IsShaped, IsCounted, IsSeat, IsSameBeside, TellsNote}
use Rattle.pf_locks.proofs.Turning.{Hand, comes_first, goes_back}
use Rattle.pf_locks.proofs.Keeping.{by_test, unit, names_set, slots_by_names, place_near, names_snoc, slots_snoc, slots_less, slot_at}

-- a seat by its parts, where its view and its hands are known
pub seated : (o : Opening) (s : BoardSeat) (w : View) (hand : Hand) → s.seat.me ≡ (w, hand) → IsShaped hand (nodes_of w) s.kept.items (vec_capacity s.kept)
    → IsCounted w s.number s.workers s.numbers s.allowance s.seen s.entries → Knows o w → IsSeat o s
seated o s w hand e shape counts knows =
    record {
      shape = subst (λ (m : Mine). IsShaped m.1 (nodes_of m.0) s.kept.items (vec_capacity s.kept)) (sym e) shape;
      counts = subst (λ (m : Mine). IsCounted m.0 s.number s.workers s.numbers s.allowance s.seen s.entries) (sym e) counts;
      knows = subst (λ (m : Mine). Knows o m.0) (sym e) knows;
    }

pub knows_as : (o : Opening) (me : Mine) (w : View) (hand : Hand) → me ≡ (w, hand) → Knows o me.0 → Knows o w
knows_as o me w hand e k = subst (λ (m : Mine). Knows o m.0) e k

-- a move that leaves numbers, allowance, entries and what was seen
pub counts_as : (v w : View) (own many : ℕ) (flags : List Bool) (left t : ℕ) (es : EntryMap) → IsCounted v own many flags left t es
    → w.numbers ≡ v.numbers → w.workers ≡ v.workers → w.allowance ≡ v.allowance → w.entries ≡ v.entries → (t' : ℕ) → t' ≡ w.seen → v.seen ≤ w.seen → IsCounted w own many flags left t' es
counts_as v w own many flags left t es c p q a e t' seen more =
    record {
      acts = λ n. c.acts (sym p ∙ n);
      number = c.number ∙ ap (λ (l : List ℕ). slice_index l 0) (sym p);
      workers = (c.workers.0 ∙ sym q, c.workers.1);
      below = λ k h. c.below k (subst (λ (l : List ℕ). In k l) p h);
      set = λ k f. subst (λ (l : List ℕ). In k l) (sym p) (c.set k f);
      unset = λ k h. c.unset k (subst (λ (l : List ℕ). In k l) p h);
      spares = λ k h. c.spares k (subst (λ (l : List ℕ). In k (spares_in l)) p h);
      allowance = c.allowance ∙ sym a;
      seen = seen;
      entries = c.entries ∙ ap map_of (sym e);
      tickets = λ x h. let z = c.tickets x (subst (λ (l : List Entry). In x l) e h) in let y = c.seen in omega arith;
      room = c.room;
    }

-- an entry more
pub counts_more : (v : View) (d : Entry) (held : List Held) (unborn : Option ℕ) (own many : ℕ) (flags : List Bool) (left t : ℕ) (es es' : EntryMap) → IsCounted v own many flags left t es
    → 0 < v.allowance → v.seen ≤ d.ticket → es'.entries ≡ fin.insert es.entries d.ticket d → es'.spare + 1 ≡ es.spare → IsCounted (committed v d held unborn) own many flags (left - 1) (d.ticket + 1) es'
counts_more v d held unborn own many flags left t es es' c rich seen more spare =
    record {
      acts = c.acts;
      number = c.number;
      workers = c.workers;
      below = c.below;
      set = c.set;
      unset = c.unset;
      spares = c.spares;
      allowance = ap (λ (k : ℕ). k - 1) c.allowance;
      seen = refl;
      entries = more ∙ ap (λ (m : fin.FinMap nat_cmp Entry). fin.insert m d.ticket d) c.entries;
      tickets = λ x h. ⊎_elim (λ (y : x ≡ d). let z : x.ticket ≡ d.ticket = ap (λ (u : Entry). u.ticket) y in omega arith) (λ (y : In x v.entries). let z = c.tickets x y in let s = c.seen in omega arith) h;
      room = let z = c.room in omega arith;
    }

-- no entry has a ticket that was not seen
same_ticket : (a b : ℕ) → eq_by_cmp nat_cmp a b ≡ true → a ≡ b
same_ticket a b h =
    elim (nat_cmp a b) as (λ r. nat_cmp a b ≡ r → is_eq r ≡ true → a ≡ b) [
      | Less ↦ λ e k. cc
      | Equal ↦ λ e k. nat_cmp-IsAntisymmetric a b e
      | Greater ↦ λ e k. cc
    ] refl h

none_found : (t : ℕ) (es : List Entry) → ((e : Entry) → In e es → e.ticket ≢ t) → find nat_cmp t (keyed es) ≡ None
none_found t [] away = refl
none_found t (e ∷ es) away = by_test (eq_by_cmp nat_cmp t e.ticket) (cond (eq_by_cmp nat_cmp t e.ticket) (Some e) (find nat_cmp t (keyed es)) ≡ None)
    (λ h. absurd (away e (inl refl) (sym (same_ticket t e.ticket h))))
    (λ h. ap (λ (b : Bool). cond b (Some e) (find nat_cmp t (keyed es))) h ∙ none_found t es (λ d k. away d (inr k)))

pub is_absent : (t : ℕ) (es : List Entry) → ((e : Entry) → In e es → e.ticket ≢ t) → fin.get (map_of es) t ≡ None
is_absent t es away = fin.get-from_entries nat_cmp_total (keyed es) t ∙ none_found t es away

-- a node more
pub won : (n : ℕ) (hand : Hand) (held : List ℕ) (ks js : List Kept) (cap cap' : ℕ) (x : Kept) → IsShaped hand held ks cap → x.node ≡ n → (In n held → ⊥) → js ≡ ks ++ x ∷ [] → cap' ≡ cap
    → IsShaped (hand ++ (n, []) ∷ []) (n ∷ held) js cap'
won n hand held ks js cap cap' x s is away items room =
    record {
      slots = ap (λ (h : Hand). h ++ (n, []) ∷ []) s.slots ∙ ap (λ (m : ℕ). slots_of ks ++ (m, []) ∷ []) (sym is) ∙ sym (slots_snoc ks x) ∙ ap slots_of (sym items);
      names = λ q.
          let a = names_snoc ks x q in
          let b = s.names q in
          let c : unit (x.node == q) ≡ unit (n == q) = ap (λ (y : ℕ). unit (y == q)) is in
          let d : times q (names_in js) ≡ times q (names_in (ks ++ x ∷ [])) = ap (λ (l : List Kept). times q (names_in l)) items in
          let w : times q (names_in js) ≡ unit (n == q) + times q held = omega arith in
          w;
      once = λ q. by_test (n == q) (times q (n ∷ held) ≤ 1)
          (λ e.
          let u : unit (n == q) ≡ 1 = ap unit e in
          let z = times_out q held (λ h. away (subst (λ (y : ℕ). In y held) (sym (eqb-true n q e)) h)) in
          let w : unit (n == q) + times q held ≤ 1 = omega arith in
          w)
          (λ e. let u : unit (n == q) ≡ 0 = ap unit e in let z = s.once q in let w : unit (n == q) + times q held ≤ 1 = omega arith in w);
      long = ap (λ (l : List Kept). length l) items ∙ length-append ks (x ∷ []) ∙ (let z = s.long in omega arith);
      room = let z = s.room in omega arith;
    }

-- the place of a kept node, and its slot, which comes to the front
some_kept : Kept
some_kept = record { node = 0; list = []; lent = false }

look_name : (n : ℕ) (ks : List Kept) → In n (names_in ks) → (slice_index_or ks (first_place ks n) some_kept).node ≡ n
look_name n [] h = absurd h
look_name n (k ∷ ks) h = by_test (k.node == n) ((slice_index_or (k ∷ ks) (first_place (k ∷ ks) n) some_kept).node ≡ n)
    (λ e. subst (λ (b : Bool). (slice_index_or (k ∷ ks) (cond b zero (suc (first_place ks n))) some_kept).node ≡ n) (sym e) (eqb-true k.node n e))
    (λ e. subst (λ (b : Bool). (slice_index_or (k ∷ ks) (cond b zero (suc (first_place ks n))) some_kept).node ≡ n) (sym e) (look_name n ks (later e h)))
  where
    later : k.node == n ≡ false → In n (names_in (k ∷ ks)) → In n (names_in ks)
    later e (inl x) = absurd (eqb-false k.node n e (sym x))
    later e (inr y) = y

slots_long : (ks : List Kept) → length (slots_of ks) ≡ length ks
slots_long [] = refl
slots_long (k ∷ ks) = ap suc (slots_long ks)

pub front_of : (n : ℕ) (ks : List Kept) → In n (names_in ks) → rotated (first_place ks n) (slots_of ks) ≡ (n, []) ∷ (drop (suc (first_place ks n)) (slots_of ks) ++ take (first_place ks n) (slots_of ks))
front_of n ks h =
    let i : ℕ = first_place ks n in
    let near : i < length (slots_of ks) = let a = place_near n ks h in let b = slots_long ks in omega arith in
    let tail : Hand = drop (suc i) (slots_of ks) ++ take i (slots_of ks) in
    comes_first (slots_of ks) i (slot_of some_kept) near
    ∙ ap (λ (p : ℕ × List Sharer). p ∷ tail) (slot_at ks i some_kept)
    ∙ ap (λ (m : ℕ). (m, []) ∷ tail) (look_name n ks h)

pub back_of : (n : ℕ) (ks : List Kept) (k : ℕ) → In n (names_in ks) → k + 1 + first_place ks n ≡ length ks → rotated k (drop (suc (first_place ks n)) (slots_of ks) ++ take (first_place ks n) (slots_of ks)) ≡ slots_of (remove ks (first_place ks n))
back_of n ks k h long =
    let i : ℕ = first_place ks n in
    let near : i < length (slots_of ks) = let a = place_near n ks h in let b = slots_long ks in omega arith in
    let turns : k ≡ length (slots_of ks) - 1 - i = let b = slots_long ks in omega arith in
    ap (λ (j : ℕ). rotated j (drop (suc i) (slots_of ks) ++ take i (slots_of ks))) turns ∙ goes_back (slots_of ks) i near ∙ sym (slots_less ks i)

-- a node less
without_else : (n q : ℕ) (ps : List Held) → n == q ≡ false → times q (nodes_in (without n ps)) ≡ times q (nodes_in ps)
without_else n q [] ne = refl
without_else n q (p ∷ ps) ne =
    let r = without_else n q ps ne in
    by_test (p.node == n) (times q (nodes_in (without n (p ∷ ps))) ≡ times q (nodes_in (p ∷ ps)))
    (λ e.
    let u : unit (p.node == q) ≡ 0 = ap (λ (y : ℕ). unit (y == q)) (eqb-true p.node n e) ∙ ap unit ne in
    let w : times q (nodes_in (without n ps)) ≡ unit (p.node == q) + times q (nodes_in ps) = omega arith in
    subst (λ (b : Bool). times q (nodes_in (cond b (without n ps) (p ∷ without n ps))) ≡ times q (nodes_in (p ∷ ps))) (sym e) w)
    (λ e. subst (λ (b : Bool). times q (nodes_in (cond b (without n ps) (p ∷ without n ps))) ≡ times q (nodes_in (p ∷ ps))) (sym e) (ap (λ (k : ℕ). unit (p.node == q) + k) r))

without_all : (n : ℕ) (ps : List Held) → times n (nodes_in (without n ps)) ≡ 0
without_all n [] = refl
without_all n (p ∷ ps) =
    let r = without_all n ps in
    by_test (p.node == n) (times n (nodes_in (without n (p ∷ ps))) ≡ 0)
    (λ e. subst (λ (b : Bool). times n (nodes_in (cond b (without n ps) (p ∷ without n ps))) ≡ 0) (sym e) r)
    (λ e.
    let u : unit (p.node == n) ≡ 0 = ap unit e in
    let w : unit (p.node == n) + times n (nodes_in (without n ps)) ≡ 0 = omega arith in
    subst (λ (b : Bool). times n (nodes_in (cond b (without n ps) (p ∷ without n ps))) ≡ 0) (sym e) w)

without_long : (n : ℕ) (ps : List Held) → length (nodes_in (without n ps)) + times n (nodes_in ps) ≡ length (nodes_in ps)
without_long n [] = refl
without_long n (p ∷ ps) =
    let r = without_long n ps in
    by_test (p.node == n) (length (nodes_in (without n (p ∷ ps))) + times n (nodes_in (p ∷ ps)) ≡ length (nodes_in (p ∷ ps)))
    (λ e.
    let u : unit (p.node == n) ≡ 1 = ap unit e in
    let w : length (nodes_in (without n ps)) + (unit (p.node == n) + times n (nodes_in ps)) ≡ suc (length (nodes_in ps)) = omega arith in
    subst (λ (b : Bool). length (nodes_in (cond b (without n ps) (p ∷ without n ps))) + times n (nodes_in (p ∷ ps)) ≡ length (nodes_in (p ∷ ps))) (sym e) w)
    (λ e.
    let u : unit (p.node == n) ≡ 0 = ap unit e in
    let w : suc (length (nodes_in (without n ps))) + (unit (p.node == n) + times n (nodes_in ps)) ≡ suc (length (nodes_in ps)) = omega arith in
    subst (λ (b : Bool). length (nodes_in (cond b (without n ps) (p ∷ without n ps))) + times n (nodes_in (p ∷ ps)) ≡ length (nodes_in (p ∷ ps))) (sym e) w)

pub gone : (n : ℕ) (v : View) (before hand : Hand) (ks js : List Kept) (cap cap' : ℕ) → In n (nodes_of v) → IsShaped before (nodes_of v) ks cap
    → ((k : ℕ) → times k (names_in js) + unit (n == k) ≡ times k (names_in ks)) → length js + 1 ≡ length ks → cap' ≡ cap → hand ≡ slots_of js
    → IsShaped hand (nodes_of (released v n)) js cap'
gone n v before hand ks js cap cap' here s less shorter room slots =
    let one : times n (nodes_of v) ≡ 1 = let a = times_in n (nodes_of v) here in let b = s.once n in omega arith in
    let counted : (q : ℕ) → times q (nodes_of (released v n)) + unit (n == q) ≡ times q (nodes_of v)
    = λ q. by_test (n == q) (times q (nodes_of (released v n)) + unit (n == q) ≡ times q (nodes_of v))
    (λ e. subst (λ (m : ℕ). times m (nodes_of (released v n)) + unit (n == q) ≡ times m (nodes_of v)) (eqb-true n q e)
    (let u : unit (n == q) ≡ 1 = ap unit e in let z = without_all n v.held in omega arith))
    (λ e. let u : unit (n == q) ≡ 0 = ap unit e in let z = without_else n q v.held e in omega arith) in
    record {
      slots = slots;
      names = λ q. let a = less q in let b = s.names q in let c = counted q in omega arith;
      once = λ q. let a = s.once q in let c = counted q in omega arith;
      long = let a = s.long in let b = without_long n v.held in omega arith;
      room = let z = s.room in omega arith;
    }

-- to a seat that is alone, no name past the board's is live
pub none_past : (o : Opening) (v : View) (n : ℕ) → IsWhole o v → names_of o ≤ n → IsLive (mesh_after o (own_log v)) n → ⊥
none_past o v n k past live =
    let z = fresh_after o (own_log v) k.conforming k.fresh k.legal n live in
    let y = replayed_first_new o.mesh (own_log v) in
    let l = k.long in
    let b = k.budget in
    absurd (omega arith)

-- the first of two equal lists of slots
abbrev first_list : Hand → List Sharer
first_list [] = []
first_list (x ∷ xs) = x.1

pub same_front : (n : ℕ) (a b : List Sharer) (xs ys : Hand) → (n, a) ∷ xs ≡ (n, b) ∷ ys → a ≡ b
same_front n a b xs ys e = ap first_list e

-- a new node is none of those that are held, where each has a star
pub made_away : (v : View) (m : Undivided) (t : ℕ) → IsMeshOf v m → ((n : ℕ) → IsLive m n → n < m.first_new + t) → ((p : Held) → In p v.held → p.star ≢ None) → In (v.first_new + t) (nodes_of v) → ⊥
made_away v m t is fresh live h = go v.held (λ p k. (is.pairs p k, live p k)) h
  where
    some_star : (r s : Option Star) → r ≡ s → r ≢ None → (star : Star) × (s ≡ Some star)
    some_star r None e ne = absurd (ne e)
    some_star r (Some star) e ne = (star, refl)

    go : (ps : List Held) → ((p : Held) → In p ps → (p.star ≡ star_of m p.node) × (p.star ≢ None)) → In (v.first_new + t) (nodes_in ps) → ⊥
    go [] all k = absurd k
    go (p ∷ ps) all (inl e) =
        let a = all p (inl refl) in
        let s = some_star p.star (star_of m p.node) a.0 a.1 in
        let z = fresh p.node (star_some m p.node s.0 s.1) in
        let f = is.first_new in
        absurd (omega arith)
    go (p ∷ ps) all (inr k) = go ps (λ q j. all q (inr j)) k

-- a note leaves what is held
pub noted_shape : (t : ℕ) (v u : View) (asked : Option Asked) (hand : Hand) (ks : List Kept) (cap : ℕ) → TellsNote t v u asked → IsShaped hand (nodes_of v) ks cap → IsShaped hand (nodes_of u) ks cap
noted_shape t v u None hand ks cap told s = subst (λ (w : View). IsShaped hand (nodes_of w) ks cap) (sym told) s
noted_shape t v u (Some q) hand ks cap told s = subst (λ (w : View). IsShaped hand (nodes_of w) ks cap) (sym told.2) s

pub noted_counts : (t : ℕ) (v u : View) (asked : Option Asked) (own many : ℕ) (flags : List Bool) (left before : ℕ) (es : EntryMap) → TellsNote t v u asked → v.seen ≤ t → IsCounted v own many flags left before es → IsCounted u own many flags left t es
noted_counts t v u None own many flags left before es told more c =
    subst (λ (w : View). IsCounted w own many flags left t es) (sym told) (counts_as v (noted v t) own many flags left before es c refl refl refl refl t refl more)
noted_counts t v u (Some q) own many flags left before es told more c =
    subst (λ (w : View). IsCounted w own many flags left t es) (sym told.2) (counts_as v (refused v t q.chunk q.op told.0) own many flags left before es c refl refl refl refl t refl more)

-- a list in the place of another
pub put_shape : (n : ℕ) (hand : Hand) (held : List ℕ) (ks js : List Kept) (cap cap' : ℕ) (x : Kept) → IsShaped hand held ks cap → x.node ≡ n → js ≡ set ks (first_place ks n) x → cap' ≡ cap → IsShaped hand held js cap'
put_shape n hand held ks js cap cap' x s is items room =
    let same : names_in js ≡ names_in ks = ap names_in items ∙ names_set n ks x is in
    record {
      slots = s.slots ∙ sym (slots_by_names js ks same);
      names = λ q. ap (λ (l : List ℕ). times q l) same ∙ s.names q;
      once = s.once;
      long = ap (λ (l : List Kept). length l) items ∙ length-set ks (first_place ks n) x ∙ s.long;
      room = let z = s.room in omega arith;
    }

pub kept_name : (n : ℕ) (hand : Hand) (held : List ℕ) (ks : List Kept) (cap : ℕ) → IsShaped hand held ks cap → In n held → In n (names_in ks)
kept_name n hand held ks cap s h = let a = times_in n held h in let b = s.names n in in_times n (names_in ks) (omega arith)

pub counts_beside : (w : View) (s t : BoardSeat) → IsSameBeside s t → IsCounted w s.number s.workers s.numbers s.allowance s.seen s.entries → IsCounted w t.number t.workers t.numbers t.allowance t.seen t.entries
counts_beside w s t b c =
    subst (λ (k : ℕ). IsCounted w k t.workers t.numbers t.allowance t.seen t.entries) (sym b.number)
    (subst (λ (k : ℕ). IsCounted w s.number k t.numbers t.allowance t.seen t.entries) (sym b.workers)
    (subst (λ (l : List Bool). IsCounted w s.number s.workers l t.allowance t.seen t.entries) (sym b.numbers)
    (subst (λ (k : ℕ). IsCounted w s.number s.workers s.numbers k t.seen t.entries) (sym b.allowance)
    (subst (λ (k : ℕ). IsCounted w s.number s.workers s.numbers s.allowance k t.entries) (sym b.seen)
    (subst (λ (e : EntryMap). IsCounted w s.number s.workers s.numbers s.allowance s.seen e) (sym b.entries) c)))))

pub made_none : (new : ℕ) (op : Op) → makes_node op ≡ false → made_by new op ≡ []
made_none new (Flip a b) e = refl
made_none new (Bisect a b) e = absurd (cc (e))
made_none new (Contract u v) e = refl

pub made_one : (new : ℕ) (op : Op) → makes_node op ≡ true → made_by new op ≡ new ∷ []
made_one new (Flip a b) e = absurd (cc (e))
made_one new (Bisect a b) e = refl
made_one new (Contract u v) e = absurd (cc (e))
