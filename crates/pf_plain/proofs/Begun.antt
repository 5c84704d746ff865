-- The stars of a mesh, put at their names.
use Rattle.std.proofs.Common.{◌≡◌, ℕ, suc, ◌+◌, ◌<◌, ◌≤◌, Bool, true, false, cond, List, [], ◌∷◌, length, map, reverse, refl, sym, ap, ◌∙◌, subst, ⊎_elim, arith}
use Rattle.std.specs.Prelude.{Option, Some, None, is_some, Contains}
use mathlib.Core.Logic.{dite}
use native.Mathlib.Decide.{ℕ_discrete}
use Rattle.std.proofs.Props.{props}
use Rattle.std.proofs.Math.Logic.{∥∥₁_elim}
use Rattle.std.proofs.lemmas.Grind.{merely}
use Rattle.pf_model.specs.declared.Site.{Site}
use Rattle.pf_model.specs.declared.Entry.{Entry}
use Rattle.pf_model.specs.Mesh.{Undivided, point_of, place_of}
use Rattle.pf_model.specs.Conforming.{IsConforming, IsLive}
use Rattle.pf_model.specs.Applied.{IsFresh}
use Rattle.pf_model.specs.Replay.{HasTicketsFrom, HasTickets}
use Rattle.pf_model.specs.Stars.{Star, star_of, spokes_of}
use Rattle.pf_model.proofs.Members.{nowhere, cases}
use Rattle.pf_model.proofs.Replays.{legal-tickets}
use Rattle.pf_core_model.specs.Core.{Opening, mesh_after}
use Rattle.pf_holder.specs.Facts.{history_in}
use Rattle.pf_plain.specs.Stars.{placed}
use Rattle.pf_plain.specs.Plains.{IsPlain, AreStars, opening_of}
use Rattle.pf_plain.specs.PlainLaws.{star_live, history_turned}
use Rattle.pf_plain.proofs.Placed.{eq_true, eq_false}

abbrev head_of : List (Option Star) → Option Star
head_of [] = None
head_of (x ∷ xs) = x

abbrev rest_of : List (Option Star) → List (Option Star)
rest_of [] = []
rest_of (x ∷ xs) = xs

-- a star's node is its name
pub node_is : (m : Undivided) (k : ℕ) (x : Star) → star_of m k ≡ Some x → x.node ≡ k
node_is m k x h = go (is_some (point_of m.sites k)) h
  where
    node_of : Option Star → ℕ
    node_of None = 0
    node_of (Some y) = y.node

    go : (b : Bool) → cond {A = Option Star} b (Some record { node = k; at = place_of m k; spokes = spokes_of m k }) None ≡ Some x → x.node ≡ k
    go true e = sym (ap node_of e)
    go false e = absurd (let q : None ≡ Some x = e in cc)

abbrev stars_for : Undivided → List Site → List (Option Star)
stars_for m ss = map (λ (s : Site). star_of m s.name) ss

-- each of these stars is that of its node
pub each_star : (m : Undivided) (ss : List Site) (v : List Star) → map (λ (x : Star). Some x) v ≡ map (λ (s : Site). star_of m s.name) ss → (x : Star) → Contains v x → star_of m x.node ≡ Some x
each_star m ss [] e x i = absurd (nowhere x i)
each_star m [] (y ∷ ys) e x i = absurd (let q : suc (length (map (λ (x : Star). Some x) ys)) ≡ 0 = ap length e in omega (arith, q))
each_star m (s ∷ ss) (y ∷ ys) e x i = ⊎_elim
    (λ (q : x ≡ y).
    let h : Some y ≡ star_of m s.name = ap head_of e in
    subst (λ (z : Star). star_of m z.node ≡ Some z) (sym q) (ap (star_of m) (node_is m s.name y (sym h)) ∙ sym h))
    (λ (j : Contains ys x). each_star m ss ys (ap rest_of e) x j)
    (cases x y ys i)

-- the stars of all sites, put at their names
placed_sites : (m : Undivided) (ss : List Site) (v : List Star) (f : ℕ → Option Star) → ((n : ℕ) → f n ≡ None) → map (λ (x : Star). Some x) v ≡ map (λ (s : Site). star_of m s.name) ss → (n : ℕ) → placed v f n ≡ cond (is_some (point_of ss n)) (star_of m n) None
placed_sites m [] [] f none e n = none n
placed_sites m [] (y ∷ ys) f none e n = absurd (let q : suc (length (map (λ (x : Star). Some x) ys)) ≡ 0 = ap length e in omega (arith, q))
placed_sites m (s ∷ ss) [] f none e n = absurd (let q : 0 ≡ suc (length (map (λ (s : Site). star_of m s.name) ss)) = ap length e in omega (arith, q))
placed_sites m (s ∷ ss) (y ∷ ys) f none e n = dite (ℕ_discrete n s.name)
    (λ q.
    ap (λ (b : Bool). cond b (Some y) (placed ys f n)) (eq_true n y.node (q ∙ sym node))
    ∙ (h ∙ ap (star_of m) (sym q))
    ∙ sym (ap (λ (b : Bool). cond (is_some (cond b (Some s.at) (point_of ss n))) (star_of m n) None) (eq_true s.name n (sym q))))
    (λ ne.
    ap (λ (b : Bool). cond b (Some y) (placed ys f n)) (eq_false n y.node (λ z. ne (z ∙ node)))
    ∙ placed_sites m ss ys f none (ap rest_of e) n
    ∙ sym (ap (λ (b : Bool). cond (is_some (cond b (Some s.at) (point_of ss n))) (star_of m n) None) (eq_false s.name n (λ z. ne (sym z)))))
  where
    h : Some y ≡ star_of m s.name
    h = ap head_of e

    node : y.node ≡ s.name
    node = node_is m s.name y (sym h)

pub all_placed : (m : Undivided) (v : List Star) (f : ℕ → Option Star) → ((n : ℕ) → f n ≡ None) → map (λ (x : Star). Some x) v ≡ map (λ (s : Site). star_of m s.name) m.sites → (n : ℕ) → placed v f n ≡ star_of m n
all_placed m v f none e n = placed_sites m m.sites v f none e n ∙ go (is_some (point_of m.sites n))
  where
    go : (b : Bool) → cond b (cond {A = Option Star} b (Some record { node = n; at = place_of m n; spokes = spokes_of m n }) None) None ≡ cond {A = Option Star} b (Some record { node = n; at = place_of m n; spokes = spokes_of m n }) None
    go true = refl
    go false = refl

-- the node of each is below the first new name
pub each_below : (m : Undivided) (v : List Star) → ((n : ℕ) → IsLive m n → n < m.first_new) → map (λ (x : Star). Some x) v ≡ map (λ (s : Site). star_of m s.name) m.sites → (x : Star) → Contains v x → x.node < m.first_new
each_below m v live e x i = live x.node (star_live m x.node x (each_star m m.sites v e x i))

-- what holds at the start
pub plain_begun : (m : Undivided) (budget : ℕ) (log : List Entry) (nodes : List ℕ) → log ≡ [] → nodes ≡ [] → IsConforming m → IsFresh m 0 → m.first_new + budget ≤ 1048576 → ∥ IsPlain (opening_of m budget) log nodes budget ∥₁
plain_begun m budget log nodes e f c fresh small = merely (subst (λ (l : List Entry). IsPlain (opening_of m budget) l nodes budget) (sym e) (subst (λ (l : List ℕ). IsPlain (opening_of m budget) [] l budget) (sym f) start))
  where
    start : IsPlain (opening_of m budget) [] [] budget
    start = record { conforming = c; fresh = fresh; legal = tt; budget = omega arith; near = λ n i. absurd i; small = small }

pub stars_begun : (m : Undivided) (budget : ℕ) (log : List Entry) (stars : List (Option Star)) → log ≡ [] → AreStars stars m → ∥ AreStars stars (mesh_after (opening_of m budget) log) ∥₁
stars_begun m budget log stars e a = merely (subst (λ (l : List Entry). AreStars stars (mesh_after (opening_of m budget) l)) (sym e) a)

-- that the tickets count up has one proof at most
tickets_prop : (t : ℕ) (es : List Entry) → IsProp (HasTicketsFrom t es)
tickets_prop t [] = hlevel props
tickets_prop t (e ∷ es) = let p : IsProp (HasTicketsFrom (suc t) es) = tickets_prop (suc t) es in hlevel (props, p)

pub tickets_now : (o : Opening) (log : List Entry) (nodes : List ℕ) (allowance : ℕ) → ∥ IsPlain o log nodes allowance ∥₁ → HasTickets log
tickets_now o log nodes allowance p = ∥∥₁_elim p (tickets_prop 0 log) (λ (y : IsPlain o log nodes allowance). legal-tickets 0 o.mesh log y.legal)

pub fresh_now : (o : Opening) (log : List Entry) (nodes : List ℕ) (allowance : ℕ) → ∥ IsPlain o log nodes allowance ∥₁ → IsFresh o.mesh 0
fresh_now o log nodes allowance p n l = ∥∥₁_elim p (hlevel props) (λ (y : IsPlain o log nodes allowance). y.fresh n l)

pub history_now : (o : Opening) (log : List Entry) (nodes : List ℕ) (allowance : ℕ) → ∥ IsPlain o log nodes allowance ∥₁ → history_in (reverse log) ≡ log
history_now o log nodes allowance p = ∥∥₁_elim p (hlevel props) (λ (y : IsPlain o log nodes allowance). history_turned o.mesh log y.legal)
