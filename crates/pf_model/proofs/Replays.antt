-- The replay of a journal: which entry is refused first, which journals are legal, and that new names stay new.
use Rattle.std.proofs.Common.{◌≡◌, ℕ, zero, suc, ◌+◌, ◌<◌, List, [], ◌∷◌, ◌++◌, length, take, drop, get_or, take-append-drop, refl, sym, ◌∙◌, ap, subst, Bool, true, false, cond, arith, ◌||◌, ◌==◌}
use Rattle.std.specs.Prelude.{Option, Some, None, is_some, not}
use Rattle.std.proofs.lemmas.List.{drop_more}
use Rattle.pf_model.specs.declared.Op.{Op}
use Rattle.pf_model.specs.declared.Op.TheVariants.{Flip, Bisect, Contract}
use Rattle.pf_model.specs.declared.Cond.{Cond}
use Rattle.pf_model.specs.declared.Cond.TheVariants.{NoEdge}
use Rattle.pf_model.specs.declared.Entry.{Entry}
use Rattle.pf_model.specs.declared.Refusal.{Refusal}
use Rattle.pf_model.specs.declared.FirstRefusal.{FirstRefusal}
use Rattle.pf_model.specs.Mesh.{Undivided, is_edge, side_of}
use Rattle.pf_model.specs.Conforming.{IsConforming, IsLive}
use Rattle.pf_model.specs.Ends.{first_end, second_end, AreEndsLive, gone_name, gone_end}
use Rattle.pf_model.specs.Applied.{IsFresh, applied}
use Rattle.pf_model.specs.Clauses.{when, first_of}
use Rattle.pf_model.specs.Conditions.{edge_clauses, first_failing}
use Rattle.pf_model.specs.Replay.{replayed, IsLegalFrom, HasTicketsFrom, HasTickets, refusal_by, refusal_of, refusal_or, first_refusal}
use Rattle.pf_model.proofs.Triangles.{least_first}
use Rattle.pf_model.proofs.Kept.{side_of-stands}
use Rattle.pf_model.proofs.FlipKeeps.{corners_of}
use Rattle.pf_model.proofs.ReadClauses.{when-none, first_of-none, is_some-holds, not-false, or-false}
use Rattle.pf_model.proofs.ReplayKeeps.{applied_conforms, applied_fresh}

-- an entry that isn't refused has live ends and passes
pub refusal-none : (gone : Option ℕ) (failing : Option Cond) → refusal_by gone failing ≡ None → (gone ≡ None) × (failing ≡ None)
refusal-none (Some n) failing e = absurd (let x = e in cc)
refusal-none None (Some cond) e = absurd (let x = e in cc)
refusal-none None None e = (refl, refl)

-- where no entry is refused, the first isn't, and none of the others is
pub or-none : (ticket : ℕ) (why : Option Refusal) (later : Option FirstRefusal) → refusal_or ticket why later ≡ None → (why ≡ None) × (later ≡ None)
or-none ticket (Some w) later e = absurd (let x = e in cc)
or-none ticket None later e = (refl, e)

pub unrefused-legal : (t : ℕ) (m : Undivided) (es : List Entry) → HasTicketsFrom t es → first_refusal m es ≡ None → IsLegalFrom t m es
unrefused-legal t m [] h e = tt
unrefused-legal t m (x ∷ es) h e =
    let both = or-none x.ticket (refusal_of m x) (first_refusal (applied m x) es) e in
    (h.0, (refusal-none (gone_end m x.op) (first_failing m x.chunk x.op) both.0).1, unrefused-legal (suc t) (applied m x) es h.1 both.1)

-- tickets of a legal journal
pub legal-tickets : (t : ℕ) (m : Undivided) (es : List Entry) → IsLegalFrom t m es → HasTicketsFrom t es
legal-tickets t m [] l = tt
legal-tickets t m (e ∷ es) l = (l.0, legal-tickets (suc t) (applied m e) es l.2)

pub legal-take : (t : ℕ) (m : Undivided) (es : List Entry) (n : ℕ) → IsLegalFrom t m es → IsLegalFrom t m (take n es)
legal-take t m es zero l = tt
legal-take t m [] (suc n) l = tt
legal-take t m (e ∷ es) (suc n) l = (l.0, l.1, legal-take (suc t) (applied m e) es n l.2)

-- the live names of a replay are below the next new one
pub replayed-fresh : (t : ℕ) (m : Undivided) (es : List Entry) → IsFresh m t → HasTicketsFrom t es → IsFresh (replayed m es) (t + length es)
replayed-fresh t m [] f h = subst (λ k. IsFresh m k) (plus t) f
  where
    plus : (a : ℕ) → a ≡ a + 0
    plus a = omega arith
replayed-fresh t m (e ∷ es) f h =
    let now : IsFresh m e.ticket = subst (λ w. IsFresh m w) (sym h.0) f in
    let next : IsFresh (applied m e) (suc t) = subst (λ w. IsFresh (applied m e) (suc w)) h.0 (applied_fresh m e.ticket e.op now) in
    subst (λ k. IsFresh (replayed (applied m e) es) k) (plus t (length es)) (replayed-fresh (suc t) (applied m e) es next h.1)
  where
    plus : (a b : ℕ) → suc a + b ≡ a + suc b
    plus a b = omega arith

-- the ends of an edge of a conforming mesh are live
pub edge-live : (m : Undivided) → IsConforming m → (a b : ℕ) → is_edge m.tris a b ≡ true → IsLive m a × IsLive m b
edge-live m ok a b h = go (is_some (side_of m.tris a b)) refl h
  where
    at : (p q : ℕ) → is_some (side_of m.tris p q) ≡ true → IsLive m p × IsLive m q
    at p q e = let s = is_some-holds (side_of m.tris p q) e in let c = corners_of m ok p q s.0.apex s.0.owner (side_of-stands m.tris (least_first m ok) p q s.0 s.1) in (c.live_p, c.live_q)

    go : (b' : Bool) → is_some (side_of m.tris a b) ≡ b' → (b' || is_some (side_of m.tris b a)) ≡ true → IsLive m a × IsLive m b
    go true e f = at a b e
    go false e f = let back = at b a f in (back.1, back.0)

-- an operation that passes has an edge between its ends
passes-edge : (m : Undivided) (chunk a b : ℕ) (rows : List (Option Cond)) → first_of (edge_clauses m chunk a b ++ rows) ≡ None → is_edge m.tris a b ≡ true
passes-edge m chunk a b rows h =
    let one = first_of-none (when (a == b || not (is_edge m.tris a b)) NoEdge) _ h in
    not-false _ (or-false (a == b) _ (when-none _ _ one.0)).1

-- so its ends are live
pub passes-live : (m : Undivided) → IsConforming m → (chunk : ℕ) (op : Op) → first_failing m chunk op ≡ None → AreEndsLive m op
passes-live m ok chunk (Flip a b) h = edge-live m ok a b (passes-edge m chunk a b _ h)
passes-live m ok chunk (Bisect a b) h = edge-live m ok a b (passes-edge m chunk a b _ h)
passes-live m ok chunk (Contract u v) h = edge-live m ok u v (passes-edge m chunk u v _ h)

-- and neither end is gone
pub live-not_gone : (m : Undivided) (op : Op) → AreEndsLive m op → gone_end m op ≡ None
live-not_gone m op l = ap (λ b. cond b (gone_name m (second_end op)) (Some (first_end op))) l.0 ∙ ap (λ b. cond b None (Some (second_end op))) l.1

-- an entry that passes isn't refused
pub passes-unrefused : (m : Undivided) → IsConforming m → (e : Entry) → first_failing m e.chunk e.op ≡ None → refusal_of m e ≡ None
passes-unrefused m ok e h = ap (λ o. refusal_by o (first_failing m e.chunk e.op)) (live-not_gone m e.op (passes-live m ok e.chunk e.op h)) ∙ ap (refusal_by None) h

pub legal-unrefused : (t : ℕ) (m : Undivided) (es : List Entry) → IsConforming m → IsFresh m t → IsLegalFrom t m es → first_refusal m es ≡ None
legal-unrefused t m [] ok f l = refl
legal-unrefused t m (e ∷ es) ok f l =
    let now : IsFresh m e.ticket = subst (λ w. IsFresh m w) (sym l.0) f in
    let next : IsFresh (applied m e) (suc t) = subst (λ w. IsFresh (applied m e) (suc w)) l.0 (applied_fresh m e.ticket e.op now) in
    ap (λ o. refusal_or e.ticket o (first_refusal (applied m e) es)) (passes-unrefused m ok e l.1) ∙ legal-unrefused (suc t) (applied m e) es (applied_conforms m e.chunk e.ticket e.op ok now l.1) next l.2

-- after entries that aren't refused the next may be
pub unrefused-then : (m : Undivided) (xs ys : List Entry) → first_refusal m xs ≡ None → first_refusal m (xs ++ ys) ≡ first_refusal (replayed m xs) ys
unrefused-then m [] ys e = refl
unrefused-then m (x ∷ xs) ys e =
    let both = or-none x.ticket (refusal_of m x) (first_refusal (applied m x) xs) e in
    ap (λ o. refusal_or x.ticket o (first_refusal (applied m x) (xs ++ ys))) both.0 ∙ unrefused-then (applied m x) xs ys both.1

-- entries that aren't refused, and one more
pub unrefused-push : (m : Undivided) (es : List Entry) (e : Entry) → first_refusal m es ≡ None → refusal_of (replayed m es) e ≡ None → first_refusal m (es ++ e ∷ []) ≡ None
unrefused-push m es e a b = unrefused-then m es (e ∷ []) a ∙ ap (λ o. refusal_or e.ticket o None) b

pub replayed-push : (m : Undivided) (es : List Entry) (e : Entry) → replayed m (es ++ e ∷ []) ≡ applied (replayed m es) e
replayed-push m [] e = refl
replayed-push m (f ∷ es) e = replayed-push (applied m f) es e

-- the tickets of the entries from the k-th on, and of those before it
pub tickets-drop : (t k : ℕ) (es : List Entry) → HasTicketsFrom t es → HasTicketsFrom (t + k) (drop k es)
tickets-drop t zero es h = subst (λ n. HasTicketsFrom n es) (plus t) h
  where
    plus : (a : ℕ) → a ≡ a + 0
    plus a = omega arith
tickets-drop t (suc k) [] h = tt
tickets-drop t (suc k) (e ∷ es) h = subst (λ n. HasTicketsFrom n (drop k es)) (plus t k) (tickets-drop (suc t) k es h.1)
  where
    plus : (a b : ℕ) → suc a + b ≡ a + suc b
    plus a b = omega arith

pub tickets-take : (t k : ℕ) (es : List Entry) → HasTicketsFrom t es → HasTicketsFrom t (take k es)
tickets-take t zero es h = tt
tickets-take t (suc k) [] h = tt
tickets-take t (suc k) (e ∷ es) h = (h.0, tickets-take (suc t) k es h.1)

-- the k-th entry, from 0 on, has the ticket k
pub tickets-at : (es : List Entry) (k : ℕ) (d : Entry) → k < length es → HasTickets es → (get_or es k d).ticket ≡ k
tickets-at es k d l h =
    let from : HasTicketsFrom (0 + k) (get_or es k d ∷ drop (k + 1) es) = subst (λ (xs : List Entry). HasTicketsFrom (0 + k) xs) (drop_more es k d l) (tickets-drop 0 k es h) in
    let t = from.0 in
    omega (arith, t)

-- where the entries before the k-th aren't refused and the k-th is, it is the first that is
pub refused-first : (m : Undivided) (es : List Entry) (k : ℕ) (d : Entry) (why : Refusal) → k < length es → HasTickets es → first_refusal m (take k es) ≡ None → refusal_of (replayed m (take k es)) (get_or es k d) ≡ Some why → first_refusal m es ≡ Some record { ticket = k; why = why }
refused-first m es k d why l h none is =
    let entry = get_or es k d in
    let front : es ≡ take k es ++ (entry ∷ drop (k + 1) es) = sym (take-append-drop k es) ∙ ap (λ (xs : List Entry). take k es ++ xs) (drop_more es k d l) in
    ap (first_refusal m) front
    ∙ (unrefused-then m (take k es) (entry ∷ drop (k + 1) es) none
    ∙ (ap (λ o. refusal_or entry.ticket o (first_refusal (applied (replayed m (take k es)) entry) (drop (k + 1) es))) is
    ∙ ap (λ (t : ℕ). refusal_or t (Some why) None) (tickets-at es k d l h)))

-- those of a replay whose tickets count up from 0
pub names-fresh : (m : Undivided) (es : List Entry) → IsFresh m 0 → HasTickets es → IsFresh (replayed m es) (length es)
names-fresh m es f h = subst (λ k. IsFresh (replayed m es) k) (plus (length es)) (replayed-fresh 0 m es f h)
  where
    plus : (a : ℕ) → 0 + a ≡ a
    plus a = omega arith
