-- A holder over one mesh meets the trait.
use Rattle.std.proofs.Common.{◌≡◌, ℕ, zero, suc, ◌+◌, ◌<◌, ◌≤◌, Bool, true, false, cond, ◌||◌, List, [], ◌∷◌, ◌++◌, length, take, reverse, refl, sym, ap, ◌∙◌, subst, inl, inr, ⊎_elim, arith, append_assoc, length-append, append-nil}
use Rattle.std.specs.Prelude.{Option, Some, None, is_some, Contains, ◌==◌, drop, nat_lt}
use Rattle.std.proofs.lemmas.Bool.Decides.{nat_tests}
use Rattle.std.proofs.lemmas.List.{take-append-le, take-append-drop, reverse-append, length-reverse}
use mathlib.Core.Option.{some, some-injective, some-ne-none}
use mathlib.Core.Logic.{dite}
use native.Mathlib.Decide.{ℕ_discrete}
use lib.ListN.{get_elem?}
use Rattle.pf_model.specs.declared.Op.{Op}
use Rattle.pf_model.specs.declared.Entry.{Entry}
use Rattle.pf_model.specs.Mesh.{Undivided, point_of, place_of}
use Rattle.pf_model.specs.Conforming.{IsLive}
use Rattle.pf_model.specs.Applied.{applied}
use Rattle.pf_model.specs.Conditions.{first_failing, neighbours}
use Rattle.pf_model.specs.Replay.{replayed, IsLegal, IsLegalFrom}
use Rattle.pf_model.specs.Stars.{Star, star_of, spokes_of}
use Rattle.pf_star_model.specs.Lent.{Held, star_held}
use Rattle.pf_core_model.specs.declared.view.Mark.{Mark}
use Rattle.pf_core_model.specs.declared.event.Asked.{Asked}
use Rattle.pf_core_model.specs.Lists.{In}
use Rattle.pf_core_model.specs.Cavity.{makes, is_made, neighbours_in}
use Rattle.pf_core_model.specs.History.{with_ticket, history_from}
use Rattle.pf_core_model.specs.Core.{Opening, names_of, mesh_after, star_after, nodes_in, IsPairOf, IsTrueMark}
use Rattle.pf_core_model.proofs.Lists.{in_either, in_left, in_right}
use Rattle.pf_core_model.proofs.Replays.{star_after_is, conforms_after, fresh_after, replayed_first_new, replayed_chunks, replayed_bands, legal_more, ticket_at, made_below}
use Rattle.pf_core_model.proofs.Told.{live_known, are_neighbours}
use Rattle.pf_core_model.proofs.Histories.{history_is, found_here}
use Rattle.pf_core_model.specs.Right.{Gain, lost, dead, never, mark, refusal}
use Rattle.pf_holder.specs.Facts.{AreSeen, IsSeen, IsJudged, IsNearLent, KnowsAll, history_in, mesh_alone, won_pair, IsMarked, TellsAsked}
use Rattle.pf_plain.specs.Plains.{has_node, pairs_at, IsPlain, Follows, IsNeverLive, IsTrue}
use Rattle.pf_model.proofs.Members.{nowhere, cases}
use Rattle.std.proofs.Props.{props}
use Rattle.std.proofs.lemmas.Grind.{merely}
use Rattle.std.proofs.Math.Logic.{∥∥₁_elim, ∥∥₁_map}

in_has : (x : ℕ) (xs : List ℕ) → Contains xs x → In x xs
in_has x [] h = nowhere x h
in_has x (y ∷ ys) h = elim (cases x y ys h) [ inl e ↦ inl e | inr i ↦ inr (in_has x ys i) ]

-- a star is there exactly where the name is live
pub star_live : (m : Undivided) (n : ℕ) (s : Star) → star_of m n ≡ Some s → IsLive m n
star_live m n s h = go (is_some (point_of m.sites n)) h
  where
    go : (b : Bool) → cond {A = Option Star} b (Some record { node = n; at = place_of m n; spokes = spokes_of m n }) None ≡ Some s → b ≡ true
    go true e = refl
    go false e = absurd (let k : None ≡ Some s = e in cc)

pub live_not : (m : Undivided) (n : ℕ) → star_of m n ≡ None → IsLive m n → ⊥
live_not m n h l = absurd (let k : Some whole ≡ None = sym (ap (λ (b : Bool). cond {A = Option Star} b (Some whole) None) l) ∙ h in cc)
  where
    whole : Star
    whole = record { node = n; at = place_of m n; spokes = spokes_of m n }

pub not_live : (m : Undivided) (n : ℕ) → (IsLive m n → ⊥) → star_of m n ≡ None
not_live m n out = go (is_some (point_of m.sites n)) refl
  where
    go : (b : Bool) → is_some (point_of m.sites n) ≡ b → cond {A = Option Star} b (Some record { node = n; at = place_of m n; spokes = spokes_of m n }) None ≡ None
    go true e = absurd (out e)
    go false e = refl

replayed_on : (m : Undivided) (a b : List Entry) → replayed m (a ++ b) ≡ replayed (replayed m a) b
replayed_on m [] b = refl
replayed_on m (e ∷ es) b = replayed_on (applied m e) es b

legal_left : (t : ℕ) (m : Undivided) (a b : List Entry) → IsLegalFrom t m (a ++ b) → IsLegalFrom t m a
legal_left t m [] b l = tt
legal_left t m (e ∷ es) b l = (l.0, l.1, legal_left (suc t) (applied m e) es b l.2)

legal_right : (t : ℕ) (m : Undivided) (a b : List Entry) → IsLegalFrom t m (a ++ b) → IsLegalFrom (t + length a) (replayed m a) b
legal_right t m [] b l = subst (λ (k : ℕ). IsLegalFrom k m b) (let z : t ≡ t + 0 = omega arith in z) l
legal_right t m (e ∷ es) b l = subst (λ (k : ℕ). IsLegalFrom k (replayed (applied m e) es) b) (let z : suc t + length es ≡ t + suc (length es) = omega arith in z) (legal_right (suc t) (applied m e) es b l.2)

-- a name that isn't live, and is below the next new one, stays so
dead_stays : (o : Opening) (log more : List Entry) (n : ℕ) → IsLegal o.mesh (log ++ more) → n < o.mesh.first_new + length log → star_of (mesh_after o log) n ≡ None → star_of (mesh_after o (log ++ more)) n ≡ None
dead_stays o log more n legal low gone = not_live (mesh_after o (log ++ more)) n (λ l.
    ⊎_elim (λ (x : IsLive (replayed o.mesh log) n). live_not (replayed o.mesh log) n gone x)
    (λ (x : is_made (replayed o.mesh log).first_new more n ≡ true).
    let r = (made_below (0 + length log) (replayed o.mesh log).first_new n (replayed o.mesh log) more (legal_right 0 o.mesh log more legal) x).0 in
    let f : (replayed o.mesh log).first_new ≡ o.mesh.first_new = replayed_first_new o.mesh log in
    absurd (omega (arith, r, f, low)))
    (live_known (replayed o.mesh log) more n (subst (λ (m : Undivided). IsLive m n) (replayed_on o.mesh log more) l)))

pub follows_self : (o : Opening) (log : List Entry) → Follows o o log log
follows_self o log = (refl, ([], sym (append-nil log)))

pub follows_then : (oa ob oc : Opening) (a b c : List Entry) → Follows oa ob a b → Follows ob oc b c → Follows oa oc a c
follows_then oa ob oc a b c p q = (q.0 ∙ p.0, (p.1.0 ++ q.1.0, q.1.1 ∙ ap (λ (l : List Entry). l ++ q.1.0) p.1.1 ∙ append_assoc a p.1.0 q.1.0))

mark_stays : (o : Opening) (log more : List Entry) (m : Mark) → IsTrueMark o log m → IsTrueMark o (log ++ more) m
mark_stays o log more m t =
    let at : m.at ≤ length log = t.at in
    let l = length-append log more in
    let same : take m.at (log ++ more) ≡ take m.at log = take-append-le m.at log more at in
    record {
      at = omega (arith, at, l);
      pairs = λ p i. subst (λ (x : List Entry). IsPairOf o x p) (sym same) (t.pairs p i);
      gone = λ n i. subst (λ (x : List Entry). star_after o x n ≡ None) (sym same) (t.gone n i);
    }

stays_in : (o : Opening) (a b more : List Entry) (x : Gain) → ∥ IsLegal o.mesh (b ++ more) ∥₁ → IsTrue o a b x → IsTrue o a (b ++ more) x
stays_in o a b more (lost l) legal t = t
stays_in o a b more (dead n) legal t = ((let k = t.0 in let l = length-append b more in omega (arith, k, l)), ∥∥₁_elim legal (hlevel props) (λ (y : IsLegal o.mesh (b ++ more)). dead_stays o b more n y t.0 t.1))
stays_in o a b more (never n) legal t = t
stays_in o a b more (mark m) legal t = mark_stays o b more m t
stays_in o a b more (refusal r) legal t =
    let at : r.at ≤ length b = t.at in
    let l = length-append b more in
    record {
      at = omega (arith, at, l);
      fails = subst (λ (x : List Entry). first_failing (mesh_after o x) r.chunk r.op ≡ Some r.cond) (sym (take-append-le r.at b more at)) t.fails;
    }

pub stays : (o o' : Opening) (a b c : List Entry) (nodes : List ℕ) (allowance : ℕ) (x : Gain) → ∥ IsPlain o' c nodes allowance ∥₁ → IsTrue o a b x → Follows o o' b c → IsTrue o' a c x
stays o o' a b c nodes allowance x p t s =
    subst (λ (z : List Entry). IsTrue o' a z x) (sym s.1.1)
    (stays_in o' a b s.1.0 x (∥∥₁_map p (λ (y : IsPlain o' c nodes allowance). subst (λ (z : List Entry). IsLegal o'.mesh z) s.1.1 y.legal)) (subst (λ (y : Opening). IsTrue y a b x) (sym s.0) t))

since : (o : Opening) (a b c : List Entry) (x : Gain) → ((more : List Entry) × (b ≡ a ++ more)) → IsTrue o b c x → IsTrue o a c x
since o a b c (lost l) s t = t
since o a b c (dead n) s t = t
since o a b c (never n) s t = λ k low.
    let same : take k b ≡ take k a = ap (λ (l : List Entry). take k l) s.1 ∙ take-append-le k a s.0 low in
    let l : length b ≡ length (a ++ s.0) = ap length s.1 in
    let j = length-append a s.0 in
    subst (λ (z : List Entry). star_of (mesh_after o z) n ≡ None) same (t k (omega (arith, low, l, j)))
since o a b c (mark m) s t = t
since o a b c (refusal r) s t = t

-- each pair is its node's star
pub pairs_true : (m : Undivided) (nodes : List ℕ) (p : Held) → In p (pairs_at m nodes) → p.star ≡ star_of m p.node
pairs_true m [] p h = absurd h
pairs_true m (n ∷ ns) p (inl e) = subst (λ (q : Held). q.star ≡ star_of m q.node) (sym e) refl
pairs_true m (n ∷ ns) p (inr h) = pairs_true m ns p h

pub nodes_same : (m : Undivided) (nodes : List ℕ) → nodes_in (pairs_at m nodes) ≡ nodes
nodes_same m [] = refl
nodes_same m (n ∷ ns) = ap (λ (l : List ℕ). n ∷ l) (nodes_same m ns)

lent_true : (m : Undivided) (nodes : List ℕ) (k : ℕ) (s : Star) → star_held (pairs_at m nodes) k ≡ Some s → star_of m k ≡ Some s
lent_true m [] k s h = absurd (let e : None ≡ Some s = h in cc)
lent_true m (n ∷ ns) k s h = go (n == k) refl h (lent_true m ns k s)
  where
    same : (a b : ℕ) → (a == b) ≡ true → a ≡ b
    same a b e = grind (arith, nat_tests)

    go : (b : Bool) → (n == k) ≡ b → cond b (star_of m n) (star_held (pairs_at m ns) k) ≡ Some s → (star_held (pairs_at m ns) k ≡ Some s → star_of m k ≡ Some s) → star_of m k ≡ Some s
    go true e f ih = ap (star_of m) (sym (same n k e)) ∙ f
    go false e f ih = ih f

pub seen_now : (o : Opening) (log : List Entry) (nodes : List ℕ) (allowance : ℕ) → IsPlain o log nodes allowance → IsSeen o.mesh.bands (pairs_at (mesh_after o log) nodes) (mesh_after o log)
seen_now o log nodes allowance p = record { conforming = conforms_after o log p.conforming p.fresh p.legal; banded = replayed_bands o.mesh log; shown = pairs_true (mesh_after o log) nodes }

-- a list turned round has the same elements
turned_in : (d : Entry) (l : List Entry) → In d l → In d (reverse l)
turned_in d [] h = absurd h
turned_in d (x ∷ xs) h = subst (In d) (sym (reverse-append (x ∷ []) xs)) (⊎_elim (λ (e : d ≡ x). in_right d (reverse xs) (x ∷ []) (inl e)) (λ (i : In d xs). in_left d (reverse xs) (x ∷ []) (turned_in d xs i)) h)

in_turned : (d : Entry) (l : List Entry) → In d (reverse l) → In d l
in_turned d [] h = absurd h
in_turned d (x ∷ xs) h = ⊎_elim (λ (i : In d (reverse xs)). inr (in_turned d xs i)) (λ (i : In d (x ∷ [])). ⊎_elim (λ (e : d ≡ x). inl e) (λ (z : ⊥). absurd z) i) (in_either d (reverse xs) (x ∷ []) (subst (In d) (reverse-append (x ∷ []) xs) h))

in_at : (d : Entry) (l : List Entry) → In d l → (i : ℕ) × (get_elem? l i ≡ some d)
in_at d [] h = absurd h
in_at d (x ∷ xs) (inl e) = (zero, ap some (sym e))
in_at d (x ∷ xs) (inr h) = let r = in_at d xs h in (suc r.0, r.1)

at_in : (l : List Entry) (i : ℕ) (d : Entry) → get_elem? l i ≡ some d → In d l
at_in [] i d e = absurd (some-ne-none d (sym e))
at_in (x ∷ xs) zero d e = inl (sym (some-injective x d e))
at_in (x ∷ xs) (suc i) d e = inr (at_in xs i d e)

pub history_turned : (m : Undivided) (log : List Entry) → IsLegal m log → history_in (reverse log) ≡ log
history_turned m log legal =
    ap (λ (k : ℕ). history_from 0 k (reverse log)) (length-reverse log)
    ∙ history_is 0 (length log) (reverse log) log refl (λ i e at.
    let t : e.ticket ≡ 0 + i = ticket_at 0 m log i e legal at in
    let t' : e.ticket ≡ i = omega (arith, t) in
    ap (λ (k : ℕ). with_ticket k (reverse log)) (let z : 0 + i ≡ i = omega arith in z)
    ∙ found_here log (reverse log) i e (λ d k.
    let w = in_at d log (in_turned d log k) in
    let q : d.ticket ≡ 0 + w.0 = ticket_at 0 m log w.0 d legal w.1 in
    let q' : d.ticket ≡ w.0 = omega (arith, q) in
    subst (λ (j : ℕ). get_elem? log j ≡ some d) (sym q') w.1) at e (turned_in e log (at_in log i e at)) t')

whole_taken : (l : List Entry) → take (length l) l ≡ l
whole_taken [] = refl
whole_taken (x ∷ xs) = ap (λ (r : List Entry). x ∷ r) (whole_taken xs)

knows : (o : Opening) (log : List Entry) (nodes : List ℕ) (allowance : ℕ) → IsPlain o log nodes allowance → KnowsAll o (pairs_at (mesh_after o log) nodes) allowance (reverse log)
knows o log nodes allowance p =
    let h = history_turned o.mesh log p.legal in
    record {
      conforming = p.conforming;
      fresh = p.fresh;
      legal = subst (λ (l : List Entry). IsLegal o.mesh l) (sym h) p.legal;
      seen = subst (λ (l : List Entry). IsSeen o.mesh.bands (pairs_at (mesh_after o log) nodes) (mesh_after o l)) (sym h) (seen_now o log nodes allowance p);
      budget = ap (λ (l : List Entry). allowance + length l) h ∙ p.budget;
    }

-- a node that is not read and not made was never live
unmade_left : (f n : ℕ) (a b : List Entry) → is_made f (a ++ b) n ≡ false → is_made f a n ≡ true → ⊥
unmade_left f n [] b h e = absurd (let z : false ≡ true = e in cc)
unmade_left f n (x ∷ xs) b h e = go (makes f n x) h e (unmade_left f n xs b)
  where
    go : (c : Bool) → (c || is_made f (xs ++ b) n) ≡ false → (c || is_made f xs n) ≡ true → (is_made f (xs ++ b) n ≡ false → is_made f xs n ≡ true → ⊥) → ⊥
    go true h e ih = absurd (let z : true ≡ false = h in cc)
    go false h e ih = ih h e

never_now : (o : Opening) (log : List Entry) (nodes : List ℕ) (allowance n : ℕ) → IsPlain o log nodes allowance → o.mesh.first_new ≤ n → is_made o.mesh.first_new log n ≡ false → IsNeverLive o log n
never_now o log nodes allowance n p above unmade t low = not_live (mesh_after o (take t log)) n (λ l.
    ⊎_elim (λ (x : IsLive o.mesh n). let r = p.fresh n x in absurd (omega (arith, r, above)))
    (λ (x : is_made o.mesh.first_new (take t log) n ≡ true). unmade_left o.mesh.first_new n (take t log) (drop t log) (ap (λ (k : List Entry). is_made o.mesh.first_new k n) (take-append-drop t log) ∙ unmade) x)
    (live_known o.mesh (take t log) n l))

live_near : (o : Opening) (log : List Entry) (nodes : List ℕ) (allowance n : ℕ) → IsPlain o log nodes allowance → IsLive (mesh_after o log) n → n < names_of o
live_near o log nodes allowance n p l =
    let r = fresh_after o log p.conforming p.fresh p.legal n l in
    let f : (mesh_after o log).first_new ≡ o.mesh.first_new = replayed_first_new o.mesh log in
    let b = p.budget in
    omega (arith, r, f, b)

near_live : (o : Opening) (log : List Entry) (nodes : List ℕ) (allowance n : ℕ) → IsPlain o log nodes allowance → IsNearLent (star_held (pairs_at (mesh_after o log) nodes)) n → star_of (mesh_after o log) n ≡ None → ⊥
near_live o log nodes allowance n p k gone =
    let m : Undivided = mesh_after o log in
    let s : star_of m k.at ≡ Some k.star = lent_true m nodes k.at k.star k.lends in
    let i : In n (neighbours_in (star_of m k.at)) = subst (λ (x : Option Star). In n (neighbours_in x)) (sym s) (in_has n (neighbours k.star.spokes) k.near) in
    live_not m n gone (are_neighbours m (conforms_after o log p.conforming p.fresh p.legal) k.at n i).live

mark_now : (o : Opening) (log : List Entry) (nodes : List ℕ) (gone : List ℕ) → ((n : ℕ) → In n gone → star_of (mesh_after o log) n ≡ None) → IsTrueMark o log record { at = length log; pairs = pairs_at (mesh_after o log) nodes; gone = gone }
mark_now o log nodes gone dead_ones =
    record {
      at = omega arith;
      pairs = λ p i. pairs_true (mesh_after o log) nodes p i ∙ sym (star_after_is o log p.node) ∙ ap (λ (l : List Entry). star_after o l p.node) (sym (whole_taken log));
      gone = λ n i. ap (λ (l : List Entry). star_after o l n) (whole_taken log) ∙ star_after_is o log n ∙ dead_ones n i;
    }

pub agrees_now : (o : Opening) (log : List Entry) (nodes : List ℕ) (allowance : ℕ) → IsPlain o log nodes allowance → AreSeen o (pairs_at (mesh_after o log) nodes)
agrees_now o log nodes allowance p = record { mesh = mesh_after o log; seen = seen_now o log nodes allowance p; first_new = replayed_first_new o.mesh log; chunks = replayed_chunks o.mesh log; live = λ n l. live_near o log nodes allowance n p l; small = p.small }

near_now : (o : Opening) (log : List Entry) (nodes : List ℕ) (allowance : ℕ) → IsPlain o log nodes allowance → (n : ℕ) → In n (nodes_in (pairs_at (mesh_after o log) nodes)) → n < names_of o
near_now o log nodes allowance p n i = p.near n (subst (λ (l : List ℕ). In n l) (nodes_same (mesh_after o log) nodes) i)

pub gained_before : (o o' p : Opening) (a b c : List Entry) (x : Gain) → Follows o o' a b → IsTrue p b c x → IsTrue p a c x
gained_before o o' p a b c x s t = since p a b c x s.1 t

-- the laws of the trait, from the invariant as a struct keeps it
pub agrees_merely : (o : Opening) (log : List Entry) (nodes : List ℕ) (allowance : ℕ) → ∥ IsPlain o log nodes allowance ∥₁ → ∥ AreSeen o (pairs_at (mesh_after o log) nodes) ∥₁
agrees_merely o log nodes allowance p = ∥∥₁_map p (λ (y : IsPlain o log nodes allowance). agrees_now o log nodes allowance y)

pub near_merely : (o : Opening) (log : List Entry) (nodes : List ℕ) (allowance : ℕ) → ∥ IsPlain o log nodes allowance ∥₁ → (n : ℕ) → In n (nodes_in (pairs_at (mesh_after o log) nodes)) → n < names_of o
near_merely o log nodes allowance p n i = ∥∥₁_elim p (hlevel props) (λ (y : IsPlain o log nodes allowance). near_now o log nodes allowance y n i)

pub knows_merely : (o : Opening) (log : List Entry) (nodes : List ℕ) (allowance : ℕ) → ∥ IsPlain o log nodes allowance ∥₁ → ∥ KnowsAll o (pairs_at (mesh_after o log) nodes) allowance (reverse log) ∥₁
knows_merely o log nodes allowance p = ∥∥₁_map p (λ (y : IsPlain o log nodes allowance). knows o log nodes allowance y)

held_live : (o : Opening) (log : List Entry) (nodes : List ℕ) (allowance n : ℕ) (s : Star) → IsPlain o log nodes allowance → star_of (mesh_after o log) n ≡ Some s → IsPlain o log (n ∷ nodes) allowance
held_live o log nodes allowance n s p e =
    record {
      conforming = p.conforming;
      fresh = p.fresh;
      legal = p.legal;
      budget = p.budget;
      near = λ k i. elim i [ inl q ↦ subst (λ (x : ℕ). x < names_of o) (sym q) (live_near o log nodes allowance n p (star_live (mesh_after o log) n s e)) | inr j ↦ p.near k j ];
      small = p.small;
    }

pub commit_made : (o : Opening) (log : List Entry) (nodes : List ℕ) (allowance chunk : ℕ) (op : Op) → IsPlain o log nodes (suc allowance) → IsJudged o.mesh.bands (pairs_at (mesh_after o log) nodes) chunk op None → IsPlain o (log ++ record { ticket = length log; chunk = chunk; op = op } ∷ []) nodes allowance
commit_made o log nodes allowance chunk op p j =
    record {
      conforming = p.conforming;
      fresh = p.fresh;
      legal = legal_more 0 o.mesh log record { ticket = length log; chunk = chunk; op = op } p.legal (omega arith) (j (mesh_after o log) (seen_now o log nodes (suc allowance) p));
      budget = (let l = length-append log (record { ticket = length log; chunk = chunk; op = op } ∷ []) in let b = p.budget in omega (arith, l, b));
      near = p.near;
      small = p.small;
    }

-- the facts of each call, from the invariant as a struct keeps it
pub some_star : (o : Option Star) → is_some o ≡ true → (s : Star) × (o ≡ Some s)
some_star None e = absurd (let k : false ≡ true = e in cc)
some_star (Some s) e = (s, refl)

pub none_star : (o : Option Star) → is_some o ≡ false → o ≡ None
none_star None e = refl
none_star (Some s) e = absurd (let k : true ≡ false = e in cc)

pub won_pairs : (m : Undivided) (items nodes : List ℕ) (n : ℕ) (s : Star) → items ≡ n ∷ nodes → star_of m n ≡ Some s → pairs_at m items ≡ won_pair n s ∷ pairs_at m nodes
won_pairs m items nodes n s e f = ap (pairs_at m) e ∙ ap (λ (o : Option Star). record { node = n; star = o } ∷ pairs_at m nodes) f

pub won_near : (o : Opening) (log : List Entry) (nodes : List ℕ) (allowance n : ℕ) (s : Star) → ∥ IsPlain o log nodes allowance ∥₁ → star_of (mesh_after o log) n ≡ Some s → n < names_of o
won_near o log nodes allowance n s p e = ∥∥₁_elim p (hlevel props) (λ (y : IsPlain o log nodes allowance). live_near o log nodes allowance n y (star_live (mesh_after o log) n s e))

pub won_plain : (o : Opening) (log : List Entry) (nodes items : List ℕ) (allowance n : ℕ) (s : Star) → items ≡ n ∷ nodes → star_of (mesh_after o log) n ≡ Some s → ∥ IsPlain o log nodes allowance ∥₁ → ∥ IsPlain o log items allowance ∥₁
won_plain o log nodes items allowance n s e f p = ∥∥₁_map p (λ (y : IsPlain o log nodes allowance). subst (λ (l : List ℕ). IsPlain o log l allowance) (sym e) (held_live o log nodes allowance n s y f))

pub known_below : (o : Opening) (log : List Entry) (nodes : List ℕ) (allowance n : ℕ) → ∥ IsPlain o log nodes allowance ∥₁ → (nat_lt n o.mesh.first_new || is_made o.mesh.first_new log n) ≡ true → n < o.mesh.first_new + length log
known_below o log nodes allowance n p h = ∥∥₁_elim p (hlevel props) (λ (y : IsPlain o log nodes allowance). go (nat_lt n o.mesh.first_new) refl h y)
  where
    lower : (a b c : ℕ) → nat_lt a b ≡ true → a < b + c
    lower a b c e = grind (arith, nat_tests)

    go : (b : Bool) → nat_lt n o.mesh.first_new ≡ b → (b || is_made o.mesh.first_new log n) ≡ true → IsPlain o log nodes allowance → n < o.mesh.first_new + length log
    go true e f y = lower n o.mesh.first_new (length log) e
    go false e f y = (let r = (made_below 0 o.mesh.first_new n o.mesh log y.legal f).1 in omega (arith, r))

pub unknown_never : (o : Opening) (log : List Entry) (nodes : List ℕ) (allowance n : ℕ) → ∥ IsPlain o log nodes allowance ∥₁ → (nat_lt n o.mesh.first_new || is_made o.mesh.first_new log n) ≡ false → IsNeverLive o log n
unknown_never o log nodes allowance n p h t low = ∥∥₁_elim p (hlevel props) (λ (y : IsPlain o log nodes allowance). go (nat_lt n o.mesh.first_new) refl h y)
  where
    above : (a b : ℕ) → nat_lt a b ≡ false → b ≤ a
    above a b e = grind (arith, nat_tests)

    go : (b : Bool) → nat_lt n o.mesh.first_new ≡ b → (b || is_made o.mesh.first_new log n) ≡ false → IsPlain o log nodes allowance → star_of (mesh_after o (take t log)) n ≡ None
    go true e f y = absurd (let k : true ≡ false = f in cc)
    go false e f y = never_now o log nodes allowance n y (above n o.mesh.first_new e) f t low

pub near_not_none : (o : Opening) (log : List Entry) (nodes : List ℕ) (allowance n : ℕ) → ∥ IsPlain o log nodes allowance ∥₁ → star_of (mesh_after o log) n ≡ None → IsNearLent (star_held (pairs_at (mesh_after o log) nodes)) n → ⊥
near_not_none o log nodes allowance n p gone k = ∥∥₁_elim p (hlevel props) (λ (y : IsPlain o log nodes allowance). near_live o log nodes allowance n y k gone)

pub alone_none : (o : Opening) (log : List Entry) (nodes : List ℕ) (allowance n : ℕ) → ∥ IsPlain o log nodes allowance ∥₁ → star_of (mesh_after o log) n ≡ None → star_of (mesh_alone o (reverse log)) n ≡ None
alone_none o log nodes allowance n p gone = ∥∥₁_elim p (hlevel props) (λ (y : IsPlain o log nodes allowance). ap (λ (l : List Entry). star_of (mesh_after o l) n) (history_turned o.mesh log y.legal) ∙ gone)

-- the names below k that aren't live
abbrev pub gone_below : Undivided → ℕ → List ℕ
gone_below m zero = []
gone_below m (suc k) = cond (is_some (star_of m k)) (gone_below m k) (k ∷ gone_below m k)

gone_in : (m : Undivided) (k n : ℕ) → In n (gone_below m k) → star_of m n ≡ None
gone_in m zero n h = absurd h
gone_in m (suc k) n h = go (is_some (star_of m k)) refl h (gone_in m k n)
  where
    go : (b : Bool) → is_some (star_of m k) ≡ b → In n (cond b (gone_below m k) (k ∷ gone_below m k)) → (In n (gone_below m k) → star_of m n ≡ None) → star_of m n ≡ None
    go true e i ih = ih i
    go false e (inl f) ih = ap (star_of m) f ∙ none_star (star_of m k) e
    go false e (inr i) ih = ih i

in_gone : (m : Undivided) (k n : ℕ) → n < k → star_of m n ≡ None → In n (gone_below m k)
in_gone m zero n l h = absurd (omega (arith, l))
in_gone m (suc k) n l h = dite (ℕ_discrete n k)
    (λ e. subst (λ (b : Bool). In n (cond b (gone_below m k) (k ∷ gone_below m k))) (sym (ap is_some (ap (star_of m) (sym e) ∙ h))) (inl e))
    (λ ne. go (is_some (star_of m k)) (in_gone m k n (omega (arith, l, ne)) h))
  where
    go : (b : Bool) → In n (gone_below m k) → In n (cond b (gone_below m k) (k ∷ gone_below m k))
    go true i = i
    go false i = inr i

-- a mark of now has all that was found dead
pub mark_noted : (o : Opening) (log : List Entry) (nodes : List ℕ) (t : ℕ) → t ≡ length log → (found : ℕ → Type 0) → ((n : ℕ) → found n → (n < o.mesh.first_new + length log) × (star_of (mesh_after o log) n ≡ None)) → IsMarked t (pairs_at (mesh_after o log) nodes) (λ x. IsTrue o log log x) found
mark_noted o log nodes t e found means =
    record {
      it = record { at = t; pairs = pairs_at (mesh_after o log) nodes; gone = gone_below (mesh_after o log) (o.mesh.first_new + length log) };
      at = refl;
      holds = refl;
      known = subst (λ (k : ℕ). IsTrueMark o log record { at = k; pairs = pairs_at (mesh_after o log) nodes; gone = gone_below (mesh_after o log) (o.mesh.first_new + length log) }) (sym e) (mark_now o log nodes (gone_below (mesh_after o log) (o.mesh.first_new + length log)) (gone_in (mesh_after o log) (o.mesh.first_new + length log)));
      gone = λ n f. in_gone (mesh_after o log) (o.mesh.first_new + length log) n (means n f).0 (means n f).1;
    }

pub asked_told : (o : Opening) (log : List Entry) (nodes : List ℕ) (allowance t : ℕ) → t ≡ length log → ∥ IsPlain o log nodes allowance ∥₁ → (q : Option Asked) → TellsAsked t o.mesh.bands (pairs_at (mesh_after o log) nodes) (λ x. IsTrue o log log x) q
asked_told o log nodes allowance t e p None = tt
asked_told o log nodes allowance t e p (Some q) = λ why j. record {
  at = omega (arith, e);
  fails = ∥∥₁_elim p (hlevel props) (λ (y : IsPlain o log nodes allowance). ap (λ (k : ℕ). first_failing (mesh_after o (take k log)) q.chunk q.op) e ∙ ap (λ (l : List Entry). first_failing (mesh_after o l) q.chunk q.op) (whole_taken log) ∙ j (mesh_after o log) (seen_now o log nodes allowance y));
}

pub passes_now : (o : Opening) (log : List Entry) (nodes : List ℕ) (allowance chunk : ℕ) (op : Op) → ∥ IsPlain o log nodes allowance ∥₁ → IsJudged o.mesh.bands (pairs_at (mesh_after o log) nodes) chunk op None → first_failing (mesh_after o log) chunk op ≡ None
passes_now o log nodes allowance chunk op p j = ∥∥₁_elim p (hlevel props) (λ (y : IsPlain o log nodes allowance). j (mesh_after o log) (seen_now o log nodes allowance y))

pub made_plain : (o o' : Opening) (log log' : List Entry) (nodes : List ℕ) (allowance left chunk : ℕ) (op : Op) → o' ≡ o → log' ≡ log ++ record { ticket = length log; chunk = chunk; op = op } ∷ [] → allowance ≡ suc left → IsJudged o.mesh.bands (pairs_at (mesh_after o log) nodes) chunk op None → ∥ IsPlain o log nodes allowance ∥₁ → ∥ IsPlain o' log' nodes left ∥₁
made_plain o o' log log' nodes allowance left chunk op e f g j p = ∥∥₁_map p (λ (y : IsPlain o log nodes allowance).
    subst (λ (x : Opening). IsPlain x log' nodes left) (sym e) (subst (λ (l : List Entry). IsPlain o l nodes left) (sym f)
    (commit_made o log nodes left chunk op (subst (λ (k : ℕ). IsPlain o log nodes k) g y) j)))

pub back_plain : (o : Opening) (log : List Entry) (nodes items : List ℕ) (allowance : ℕ) → items ≡ [] → ∥ IsPlain o log nodes allowance ∥₁ → ∥ IsPlain o log items allowance ∥₁
back_plain o log nodes items allowance e p = ∥∥₁_map p (λ (y : IsPlain o log nodes allowance). subst (λ (l : List ℕ). IsPlain o log l allowance) (sym e) ((record { conforming = y.conforming; fresh = y.fresh; legal = y.legal; budget = y.budget; near = λ n i. absurd i; small = y.small })))

-- what is lent of a node: its star, where it is held
pub lent_held : (m : Undivided) (nodes : List ℕ) (n : ℕ) → has_node nodes n ≡ true → star_held (pairs_at m nodes) n ≡ star_of m n
lent_held m [] n h = absurd (let e : false ≡ true = h in cc)
lent_held m (k ∷ ks) n h = go (k == n) refl h (lent_held m ks n)
  where
    same : (a b : ℕ) → (a == b) ≡ true → a ≡ b
    same a b e = grind (arith, nat_tests)

    go : (b : Bool) → (k == n) ≡ b → (b || has_node ks n) ≡ true → (has_node ks n ≡ true → star_held (pairs_at m ks) n ≡ star_of m n) → cond b (star_of m k) (star_held (pairs_at m ks) n) ≡ star_of m n
    go true e f ih = ap (star_of m) (same k n e)
    go false e f ih = ih f

pub lent_not : (m : Undivided) (nodes : List ℕ) (n : ℕ) → has_node nodes n ≡ false → star_held (pairs_at m nodes) n ≡ None
lent_not m [] n h = refl
lent_not m (k ∷ ks) n h = go (k == n) h (lent_not m ks n)
  where
    go : (b : Bool) → (b || has_node ks n) ≡ false → (has_node ks n ≡ false → star_held (pairs_at m ks) n ≡ None) → cond b (star_of m k) (star_held (pairs_at m ks) n) ≡ None
    go true f ih = absurd (let e : true ≡ false = f in cc)
    go false f ih = ih f

pub start_plain : (o : Opening) (log : List Entry) (nodes items : List ℕ) (allowance : ℕ) → items ≡ nodes → IsPlain o log nodes allowance → ∥ IsPlain o log items allowance ∥₁
start_plain o log nodes items allowance e y = merely (subst (λ (l : List ℕ). IsPlain o log l allowance) (sym e) y)
