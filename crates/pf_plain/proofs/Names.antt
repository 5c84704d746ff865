-- Which names were made, by the places of the entries.
use Rattle.std.proofs.Common.{◌≡◌, ℕ, zero, suc, ◌+◌, ◌-◌, ◌<◌, ◌≤◌, Bool, true, false, ◌==◌, ◌||◌, ◌&&◌, List, [], ◌∷◌, refl, sym, ap, ◌∙◌, arith}
use Rattle.std.specs.Prelude.{nat_lt, Option}
use Rattle.std.proofs.lemmas.Bool.Decides.{nat_tests}
use Rattle.std.proofs.Props.{props}
use Rattle.std.proofs.Math.Logic.{∥∥₁_elim}
use Rattle.pf_model.specs.declared.Entry.{Entry}
use Rattle.pf_model.specs.Mesh.{Undivided}
use Rattle.pf_model.specs.Replay.{HasTicketsFrom}
use Rattle.pf_model.specs.Stars.{Star, star_of}
use Rattle.pf_model.proofs.Replays.{legal-tickets}
use Rattle.pf_core_model.specs.Cavity.{makes_node, is_made}
use Rattle.pf_core_model.specs.Core.{Opening}
use Rattle.pf_plain.specs.Stars.{star_by}
use Rattle.pf_plain.specs.Plains.{IsPlain, AreStars, makes_at}
use Rattle.pf_plain.proofs.Placed.{eq_true, eq_false}

and_false : (b : Bool) → (b && false) ≡ false
and_false true = refl
and_false false = refl

and_true : (b : Bool) → (b && true) ≡ b
and_true true = refl
and_true false = refl

or_false : (b : Bool) → (b || false) ≡ b
or_false true = refl
or_false false = refl

-- no entry makes a name below its ticket's
none_before : (f n t : ℕ) (log : List Entry) → HasTicketsFrom t log → n < f + t → is_made f log n ≡ false
none_before f n t [] h low = refl
none_before f n t (e ∷ es) h low =
    let far : (f + e.ticket == n) ≡ false = eq_false (f + e.ticket) n (λ q. let k = h.0 in absurd (omega (arith, q, k, low))) in
    (λ i. (makes_node e.op && far i) || is_made f es n) ∙ ap (λ (b : Bool). b || is_made f es n) (and_false (makes_node e.op)) ∙ none_before f n (suc t) es h.1 (omega (arith, low))

made_from : (f n k t : ℕ) (log : List Entry) → HasTicketsFrom t log → n ≡ f + (t + k) → makes_at log k ≡ is_made f log n
made_from f n k t [] h e = refl
made_from f n zero t (x ∷ xs) h e =
    let here : (f + x.ticket == n) ≡ true = eq_true (f + x.ticket) n (let k = h.0 in omega (arith, k, e)) in
    sym ((λ i. (makes_node x.op && here i) || is_made f xs n) ∙ ap (λ (b : Bool). (makes_node x.op && true) || b) (none_before f n (suc t) xs h.1 (omega (arith, e))) ∙ or_false (makes_node x.op && true) ∙ and_true (makes_node x.op))
made_from f n (suc k) t (x ∷ xs) h e =
    let far : (f + x.ticket == n) ≡ false = eq_false (f + x.ticket) n (λ q. let j = h.0 in absurd (omega (arith, q, j, e))) in
    sym ((λ i. (makes_node x.op && far i) || is_made f xs n) ∙ ap (λ (b : Bool). b || is_made f xs n) (and_false (makes_node x.op)) ∙ sym (made_from f n k (suc t) xs h.1 (omega (arith, e))))

-- a name from the first new one on was made where the entry at its place makes a node
pub made_by_place : (o : Opening) (log : List Entry) (nodes : List ℕ) (allowance n : ℕ) → ∥ IsPlain o log nodes allowance ∥₁ → o.mesh.first_new ≤ n → makes_at log (n - o.mesh.first_new) ≡ is_made o.mesh.first_new log n
made_by_place o log nodes allowance n p low = ∥∥₁_elim p (hlevel props) (λ (y : IsPlain o log nodes allowance). made_from o.mesh.first_new n (n - o.mesh.first_new) 0 log (legal-tickets 0 o.mesh log y.legal) (omega (arith, low)))

-- a star that stands at a name is that of the mesh
pub star_now : (m : Undivided) (stars : List (Option Star)) (n : ℕ) → ∥ AreStars stars m ∥₁ → star_by stars n ≡ star_of m n
star_now m stars n a = ∥∥₁_elim a (hlevel props) (λ (y : AreStars stars m). y n)

pub not_below : (a b : ℕ) → b ≤ a → nat_lt a b ≡ false
not_below a b l = grind (arith, nat_tests)
