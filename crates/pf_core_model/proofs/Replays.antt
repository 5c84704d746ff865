-- The replay of a history that is one entry longer, and what stays along a replay.
use Rattle.std.proofs.Common.{◌≡◌, ◌≢◌, ◌⊎◌, ℕ, zero, suc, ◌+◌, ◌<◌, ◌≤◌, Bool, true, false, ◌==◌, ◌&&◌, ◌||◌, List, [], ◌∷◌, ◌++◌, length, refl, sym, ap, ◌∙◌, subst, inl, inr, ⊎_elim, arith}
use Rattle.std.specs.Prelude.{None}
use Rattle.std.proofs.lemmas.List.Folds.{list_any-append}
use Rattle.std.proofs.lemmas.Bool.Decides.{nat_tests}
use mathlib.Core.Option.{some, some-injective, some-ne-none}
use lib.ListN.{get_elem?}
use Rattle.pf_model.specs.declared.Op.{Op}
use Rattle.pf_model.specs.declared.Op.TheVariants.{Flip, Bisect, Contract}
use Rattle.pf_model.specs.declared.Entry.{Entry}
use Rattle.pf_model.specs.Mesh.{Undivided}
use Rattle.pf_model.specs.Conforming.{IsConforming}
use Rattle.pf_model.specs.Applied.{IsFresh, applied, op_applied}
use Rattle.pf_model.specs.Conditions.{first_failing}
use Rattle.pf_model.specs.Replay.{replayed, IsLegalFrom, IsLegal}
use Rattle.pf_model.specs.Stars.{star_of}
use Rattle.pf_model.proofs.ReplayKeeps.{legal_keeps, applied_fresh}
use Rattle.pf_core_model.specs.Lists.{In}
use Rattle.pf_star_model.specs.Cavity.{cavity_of}
use Rattle.pf_core_model.specs.Cavity.{makes_node, makes, is_made, neighbours_in}
use Rattle.pf_core_model.specs.Core.{Opening, mesh_after, star_after}
use Rattle.pf_core_model.specs.Needs.{Passes, KeepsOutside}
use Rattle.pf_core_model.proofs.Born.{born_in_cavity}

pub replayed_more : (m : Undivided) (log : List Entry) (e : Entry) → replayed m (log ++ e ∷ []) ≡ applied (replayed m log) e
replayed_more m [] e = refl
replayed_more m (d ∷ ds) e = replayed_more (applied m d) ds e

pub legal_more : (t : ℕ) (m : Undivided) (log : List Entry) (e : Entry) → IsLegalFrom t m log → e.ticket ≡ t + length log → first_failing (replayed m log) e.chunk e.op ≡ None → IsLegalFrom t m (log ++ e ∷ [])
legal_more t m [] e l ticket passes = (let z : e.ticket ≡ t = omega arith in z, passes, tt)
legal_more t m (d ∷ ds) e l ticket passes = (l.0, l.1, legal_more (suc t) (applied m d) ds e l.2 (omega arith) passes)

op_first_new : (m : Undivided) (t : ℕ) (op : Op) → (op_applied m t op).first_new ≡ m.first_new
op_first_new m t (Flip a b) = refl
op_first_new m t (Bisect a b) = refl
op_first_new m t (Contract u v) = refl

op_chunks : (m : Undivided) (t : ℕ) (op : Op) → (op_applied m t op).chunks ≡ m.chunks
op_chunks m t (Flip a b) = refl
op_chunks m t (Bisect a b) = refl
op_chunks m t (Contract u v) = refl

op_bands : (m : Undivided) (t : ℕ) (op : Op) → (op_applied m t op).bands ≡ m.bands
op_bands m t (Flip a b) = refl
op_bands m t (Bisect a b) = refl
op_bands m t (Contract u v) = refl

pub replayed_first_new : (m : Undivided) (log : List Entry) → (replayed m log).first_new ≡ m.first_new
replayed_first_new m [] = refl
replayed_first_new m (e ∷ es) = replayed_first_new (applied m e) es ∙ op_first_new m e.ticket e.op

pub replayed_chunks : (m : Undivided) (log : List Entry) → (replayed m log).chunks ≡ m.chunks
replayed_chunks m [] = refl
replayed_chunks m (e ∷ es) = replayed_chunks (applied m e) es ∙ op_chunks m e.ticket e.op

pub replayed_bands : (m : Undivided) (log : List Entry) → (replayed m log).bands ≡ m.bands
replayed_bands m [] = refl
replayed_bands m (e ∷ es) = replayed_bands (applied m e) es ∙ op_bands m e.ticket e.op

fresh_from : (t : ℕ) (m : Undivided) (log : List Entry) → IsFresh m t → IsLegalFrom t m log → IsFresh (replayed m log) (t + length log)
fresh_from t m [] f l n live = let x = f n live in omega arith
fresh_from t m (e ∷ es) f l n live =
    let next : IsFresh (applied m e) (suc t) = subst (λ w. IsFresh (applied m e) (suc w)) l.0 (applied_fresh m e.ticket e.op (subst (λ w. IsFresh m w) (sym l.0) f)) in
    let r = fresh_from (suc t) (applied m e) es next l.2 n live in omega arith

-- the entry at a place of a legal history has the ticket of its place
pub ticket_at : (t : ℕ) (m : Undivided) (log : List Entry) (i : ℕ) (e : Entry) → IsLegalFrom t m log → get_elem? log i ≡ some e → e.ticket ≡ t + i
ticket_at t m [] i e l h = absurd (some-ne-none e (sym h))
ticket_at t m (d ∷ ds) zero e l h = let q : d.ticket ≡ e.ticket = ap (λ (x : Entry). x.ticket) (some-injective d e h) in let z : d.ticket ≡ t = l.0 in omega arith
ticket_at t m (d ∷ ds) (suc i) e l h = let r = ticket_at (suc t) (applied m d) ds i e l.2 h in omega arith

pub and_left : (a b : Bool) → (a && b) ≡ true → a ≡ true
and_left true b h = refl
and_left false b h = h

pub and_right : (a b : Bool) → (a && b) ≡ true → b ≡ true
and_right true b h = h
and_right false b h = absurd (cc (h))

pub or_cases : (a b : Bool) → (a || b) ≡ true → (a ≡ true) ⊎ (b ≡ true)
or_cases true b h = inl refl
or_cases false b h = inr h

pub or_right : (a b : Bool) → b ≡ true → (a || b) ≡ true
or_right true b h = refl
or_right false b h = h

pub made_name : (f n : ℕ) (e : Entry) → makes f n e ≡ true → n ≡ f + e.ticket
made_name f n e h = let z : (f + e.ticket == n) ≡ true = and_right (makes_node e.op) (f + e.ticket == n) h in grind (arith, nat_tests)

pub made_by_bisection : (f n : ℕ) (e : Entry) → makes f n e ≡ true → makes_node e.op ≡ true
made_by_bisection f n e h = and_left (makes_node e.op) (f + e.ticket == n) h

pub makes_here : (f n : ℕ) (e : Entry) → makes_node e.op ≡ true → n ≡ f + e.ticket → makes f n e ≡ true
makes_here f n e b is = let z : (f + e.ticket == n) ≡ true = grind (arith, nat_tests) in ap (λ (x : Bool). x && (f + e.ticket == n)) b ∙ z

pub makes_not : (f n : ℕ) (e : Entry) → n ≢ f + e.ticket → makes f n e ≡ false
makes_not f n e ne = go (makes_node e.op)
  where
    go : (b : Bool) → (b && (f + e.ticket == n)) ≡ false
    go true = grind (arith, nat_tests)
    go false = refl

pub makes_none : (f n : ℕ) (e : Entry) → makes_node e.op ≡ false → makes f n e ≡ false
makes_none f n e b = ap (λ (x : Bool). x && (f + e.ticket == n)) b

-- what a legal history makes has a name below the next
pub made_below : (t f n : ℕ) (m : Undivided) (log : List Entry) → IsLegalFrom t m log → is_made f log n ≡ true → (f + t ≤ n) × (n < f + (t + length log))
made_below t f n m [] l h = absurd (cc (h))
made_below t f n m (e ∷ es) l h = ⊎_elim
    (λ (x : makes f n e ≡ true). let q = made_name f n e x in let z : e.ticket ≡ t = l.0 in (omega arith, omega arith))
    (λ (x : is_made f es n ≡ true). let r = made_below (suc t) f n (applied m e) es l.2 x in let a = r.0 in let b = r.1 in (omega arith, omega arith))
    (or_cases (makes f n e) (is_made f es n) h)

pub made_more : (f n : ℕ) (log : List Entry) (e : Entry) → is_made f (log ++ e ∷ []) n ≡ (is_made f log n || makes f n e)
made_more f n log e = list_any-append (makes f n) log (e ∷ []) ∙ ap (λ (x : Bool). is_made f log n || x) (end (makes f n e))
  where
    end : (b : Bool) → (b || false) ≡ b
    end true = refl
    end false = refl

pub made_here : (f n : ℕ) (log : List Entry) (e : Entry) → makes f n e ≡ true → is_made f (log ++ e ∷ []) n ≡ true
made_here f n log e h = made_more f n log e ∙ or_right (is_made f log n) (makes f n e) h

pub made_else : (f n : ℕ) (log : List Entry) (e : Entry) → makes f n e ≡ false → is_made f (log ++ e ∷ []) n ≡ is_made f log n
made_else f n log e h = made_more f n log e ∙ ap (λ (x : Bool). is_made f log n || x) h ∙ end (is_made f log n)
  where
    end : (b : Bool) → (b || false) ≡ b
    end true = refl
    end false = refl

pub made_in : (f n : ℕ) (log : List Entry) (i : ℕ) (e : Entry) → get_elem? log i ≡ some e → makes f n e ≡ true → is_made f log n ≡ true
made_in f n [] i e h m = absurd (some-ne-none e (sym h))
made_in f n (d ∷ ds) zero e h m = ap (λ (x : Bool). x || is_made f ds n) (subst (λ (y : Entry). makes f n y ≡ true) (sym (some-injective d e h)) m)
made_in f n (d ∷ ds) (suc i) e h m = or_right (makes f n d) (is_made f ds n) (made_in f n ds i e h m)

-- the star after a history, as one of a mesh
pub star_after_is : (o : Opening) (log : List Entry) (n : ℕ) → star_after o log n ≡ star_of (mesh_after o log) n
unfolding star_after
star_after_is o log n = refl

pub star_applied : (o : Opening) (log : List Entry) (e : Entry) (n : ℕ) → star_of (applied (mesh_after o log) e) n ≡ star_after o (log ++ e ∷ []) n
unfolding star_after
star_applied o log e n = ap (λ (m : Undivided). star_of m n) (sym (replayed_more o.mesh log e))

module _ (o : Opening) (log : List Entry) (conforming : IsConforming o.mesh) (fresh : IsFresh o.mesh 0) (legal : IsLegal o.mesh log) where
  pub conforms_after : IsConforming (mesh_after o log)
  conforms_after = (legal_keeps o.mesh log conforming fresh legal).conforming

  pub fresh_after : IsFresh (mesh_after o log) (length log)
  fresh_after n live = let r = fresh_from 0 o.mesh log fresh legal n live in let z = replayed_first_new o.mesh log in omega arith

  pub passes_after : (e : Entry) → e.ticket ≡ length log → first_failing (mesh_after o log) e.chunk e.op ≡ None → Passes (mesh_after o log) e
  passes_after e ticket passes = record { conforming = conforms_after; fresh = subst (λ (t : ℕ). IsFresh (mesh_after o log) t) (sym ticket) fresh_after; passes = passes }

  module _ (outside : KeepsOutside) (e : Entry) (ticket : e.ticket ≡ length log) (passes : first_failing (mesh_after o log) e.chunk e.op ≡ None) where
    -- a node outside the cavity, that isn't named by the ticket, keeps its star
    pub star_stays : (n : ℕ) → (In n (cavity_of (mesh_after o log) e.chunk e.op) → ⊥) → n ≢ o.mesh.first_new + e.ticket → star_after o (log ++ e ∷ []) n ≡ star_after o log n
    unfolding star_after
    star_stays n out far =
        let far' : n ≢ (mesh_after o log).first_new + e.ticket = λ x. far (x ∙ ap (λ (f : ℕ). f + e.ticket) (replayed_first_new o.mesh log)) in
        ap (λ (m : Undivided). star_of m n) (replayed_more o.mesh log e) ∙ outside (mesh_after o log) e (passes_after e ticket passes) n out far'

    -- the neighbours of the new node are in the cavity
    pub born_inside : (n : ℕ) → makes o.mesh.first_new n e ≡ true → (x : ℕ) → In x (neighbours_in (star_after o (log ++ e ∷ []) n)) → In x (cavity_of (mesh_after o log) e.chunk e.op)
    unfolding star_after
    born_inside n made x h =
        let name : n ≡ (mesh_after o log).first_new + e.ticket = made_name o.mesh.first_new n e made ∙ ap (λ (f : ℕ). f + e.ticket) (sym (replayed_first_new o.mesh log)) in
        born_in_cavity (mesh_after o log) e (passes_after e ticket passes) (made_by_bisection o.mesh.first_new n e made) x
        (subst (λ (k : ℕ). In x (neighbours_in (star_of (applied (mesh_after o log) e) k))) name (subst (λ (m : Undivided). In x (neighbours_in (star_of m n))) (replayed_more o.mesh log e) h))
