-- What a seat sees on its held stars is so on each mesh that its view may be of.
use Rattle.std.proofs.Common.{◌≡◌, ℕ, ◌+◌, Bool, true, not, ◌&&◌, List, [], ◌∷◌, sym, ap, ◌∙◌, subst, refl, inl, inr}
use Rattle.std.specs.Prelude.{Option, None, is_some}
use Rattle.std.specs.List.{list_all}
use Rattle.pf_model.specs.declared.Op.{Op}
use Rattle.pf_model.specs.declared.Band.{Band}
use Rattle.pf_model.specs.declared.Cond.{Cond}
use Rattle.pf_model.specs.declared.Entry.{Entry}
use Rattle.pf_model.specs.Mesh.{Undivided}
use Rattle.pf_model.specs.Ends.{first_end, second_end}
use Rattle.pf_model.specs.Applied.{IsFresh}
use Rattle.pf_model.specs.Conditions.{first_failing}
use Rattle.pf_star_model.specs.Lent.{Held, is_held, star_held, IsShown}
use Rattle.pf_star_model.specs.Judged.{judged}
use Rattle.pf_star_model.specs.Cavity.{cavity_of, cavity_seen}
use Rattle.pf_star_model.specs.Laws.{AreEndsShown}
use Rattle.pf_star_model.proofs.Cavities.{cavity_is_seen}
use Rattle.pf_star_model.proofs.Operations.{held_shown, passes_at_ends}
use Rattle.pf_core_model.specs.declared.view.View.{View}
use Rattle.pf_core_model.specs.Lists.{In}
use Rattle.pf_core_model.specs.Needs.{Passes}
use Rattle.pf_core_model.specs.Core.{Opening, nodes_of}
use Rattle.pf_core_model.specs.Guards.{IsMeshOf, IsViewJudged, ViewHoldsCavity, IsViewPatch}
use Rattle.pf_core_model.specs.State.{is_apex_held, can_judge, can_make, fresh_pairs}
use Rattle.pf_core_model.proofs.Replays.{and_left, and_right}
use Rattle.pf_core_model.proofs.Born.{contains_in}
use Rattle.pf_core_model.proofs.Judged.{held_in, judged_is, can_judge_held, Made, made_is_of}
use Rattle.pf_core_model.proofs.Owing.{fresh_nodes}
use Rattle.pf_board_steps.specs.Plays.{at_ticket, IsJudgedByStars, CanCommit, fresh_at}

pub seen_judged : (v : View) (chunk : ℕ) (op : Op) (x : Option Cond) → IsJudgedByStars v chunk op x → IsViewJudged v chunk op x
seen_judged v chunk op x seen m is =
    sym (judged_is m is.conforming v.held is.pairs chunk op seen.0) ∙ ap (λ (l : List Band). judged (star_held v.held) l chunk op) is.bands ∙ seen.1

both_true : (a b : Bool) → a ≡ true → b ≡ true → (a && b) ≡ true
both_true a b p q = λ i. p i && q i

-- a mesh that the view may be of, as an opening
abbrev opened : Undivided → Opening
opened m = record { mesh = m; budget = 0; workers = 0 }

all_held : (ps : List Held) (ns : List ℕ) → list_all (is_held ps) ns ≡ true → (n : ℕ) → In n ns → is_held ps n ≡ true
all_held ps [] h n k = absurd k
all_held ps (m ∷ ms) h n (inl e) = ap (λ (x : ℕ). is_held ps x) e ∙ and_left (is_held ps m) (list_all (is_held ps) ms) h
all_held ps (m ∷ ms) h n (inr k) = all_held ps ms (and_right (is_held ps m) (list_all (is_held ps) ms) h) n k

module _ (v : View) (e : Entry) (can : CanCommit v e.chunk e.op) (m : Undivided) (is : IsMeshOf v m) where
  able : can_judge v.held e.chunk e.op ≡ true
  able = can_judge_held m is.conforming v.held is.pairs e.chunk e.op can.0

  passes_on : first_failing m e.chunk e.op ≡ None
  passes_on = seen_judged v e.chunk e.op None (able, can.1) m is

  end_shown : (n : ℕ) → is_held v.held n ≡ true → IsShown (star_held v.held) m n
  end_shown n h = held_shown v.held m (λ p k. is.pairs p (contains_in p v.held k)) n h

  ends_shown : AreEndsShown (star_held v.held) m e.op
  ends_shown =
      let first : Bool = is_held v.held (first_end e.op) in
      let second : Bool = is_held v.held (second_end e.op) in
      let rest = and_right first (second && is_apex_held v.held e.chunk e.op) able in
      (end_shown (first_end e.op) (and_left first (second && is_apex_held v.held e.chunk e.op) able), end_shown (second_end e.op) (and_left second (is_apex_held v.held e.chunk e.op) rest))

  cavity_on : (n : ℕ) → In n (cavity_of m e.chunk e.op) → In n (nodes_of v)
  cavity_on n k =
      let seen : cavity_seen (star_held v.held) e.op ≡ cavity_of m e.chunk e.op = cavity_is_seen m (star_held v.held) e.chunk e.op is.conforming ends_shown (passes_at_ends m e.chunk e.op passes_on) in
      held_in n v.held (all_held v.held (cavity_seen (star_held v.held) e.op) can.0 n (subst (λ (l : List ℕ). In n l) (sym seen) k))

  makes_on : can_make (opened m) v.held e ≡ true
  makes_on =
      let none : judged (star_held v.held) m.bands e.chunk e.op ≡ None = ap (λ (l : List Band). judged (star_held v.held) l e.chunk e.op) is.bands ∙ can.1 in
      both_true (list_all (is_held v.held) (cavity_seen (star_held v.held) e.op)) (not (is_some (judged (star_held v.held) m.bands e.chunk e.op))) can.0 (ap (λ (y : Option Cond). not (is_some y)) none)

  made_on : (t : ℕ) → IsFresh m t → Made m is.conforming v.held is.pairs m.first_new (at_ticket e t)
  made_on t fresh = made_is_of m is.conforming v.held is.pairs (opened m) (at_ticket e t) refl refl (λ passes. record { conforming = is.conforming; fresh = fresh; passes = passes }) makes_on

pub made_patch : (v : View) (e : Entry) → CanCommit v e.chunk e.op → IsViewJudged v e.chunk e.op None × ViewHoldsCavity v e.chunk e.op × ((t : ℕ) → IsViewPatch v (at_ticket e t) (fresh_at v e t))
made_patch v e can = (
  (λ m is. passes_on v e can m is),
  (λ m is. cavity_on v e can m is),
  (λ t.
      record {
        nodes = fresh_nodes v.first_new (at_ticket e t) v.held;
        pairs = λ m is fresh passing p h. (made_on v e can m is t fresh).pairs p (subst (λ (f : ℕ). In p (fresh_pairs f (at_ticket e t) v.held)) (sym is.first_new) h);
      }),
)
