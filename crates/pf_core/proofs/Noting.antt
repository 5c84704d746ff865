-- A look at the count of tickets, maybe with an operation that fails.
use Rattle.std.proofs.Common.{◌≡◌, ◌≢◌, ℕ, ◌<◌, ◌≤◌, Bool, true, false, cond, ◌&&◌, ◌||◌, List, length, refl, sym, ap, ◌∙◌, subst, arith}
use Rattle.std.specs.Prelude.{Option, Some, None, is_some, min, max}
use Rattle.pf_model.specs.declared.Band.{Band}
use Rattle.pf_model.specs.declared.Op.{Op}
use Rattle.pf_model.specs.declared.Op.TheVariants.{Flip, Bisect, Contract}
use Rattle.pf_model.specs.declared.Cond.{Cond}
use Rattle.pf_model.specs.Mesh.{Undivided}
use Rattle.pf_model.specs.Conforming.{IsConforming}
use Rattle.pf_model.specs.Ends.{first_end, second_end}
use Rattle.pf_model.specs.Stars.{Star, star_of}
use Rattle.pf_star_model.specs.Lent.{Held as Pair, is_held, star_held}
use Rattle.pf_star_model.specs.Judged.{judged}
use Rattle.pf_core_model.specs.declared.event.Asked.{Asked}
use Rattle.pf_core_model.specs.declared.event.Event.TheVariants.{Note}
use Rattle.pf_core_model.specs.declared.event.Verdict.{Verdict}
use Rattle.pf_core_model.specs.declared.event.Verdict.TheVariants.{Taken, Ignored}
use Rattle.pf_core_model.specs.Lists.{In}
use Rattle.pf_core_model.specs.Moves.{seen_at, failed_at}
use Rattle.pf_core_model.specs.Core.{Opening}
use Rattle.pf_core_model.specs.Shown.{IsExtended}
use Rattle.pf_core_model.specs.State.{Actor, CoreState, Found, Stepped, found_from, tickets_in, log_of, mesh_of, can_judge, judge_step, note_state, refuse_state, IsCore}
use Rattle.pf_core_model.proofs.Replays.{star_after_is}
use Rattle.pf_core_model.proofs.StateLaws.{mesh_is}
use Rattle.pf_core_model.proofs.OneMesh.{shows_one_mesh}
use Rattle.pf_core.specs.declared.state.State.{State}
use Rattle.pf_core.specs.Tables.{node_at, holds, star_seen}
use Rattle.pf_core.specs.Gates.{can_judge_by, can_judge_at, IsShownTo}
use Rattle.pf_core.specs.Shown.{ShowsState, IsAct}
use Rattle.pf_core.proofs.Kept.{tickets_are, few_tickets, fits, mine, holds_is, star_is, seen_held, pair_of, acted_core, acted_grows}
use Rattle.pf_core.proofs.Moves.{refused, taken, core_taken, grows_taken, learn_shows}

pub judge_is_by : (held : List Pair) (chunk : ℕ) (op : Op) → can_judge held chunk op ≡ can_judge_by (is_held held) (star_held held) chunk op
judge_is_by held chunk (Flip a b) = refl
judge_is_by held chunk (Bisect a b) = refl
judge_is_by held chunk (Contract u v) = refl

module _ (o : Opening) (c : CoreState) (s : State) (sh : ShowsState o c s) (a : ℕ) (f : Found) (found : found_from a 0 c.actors ≡ Some f) where
  -- what it holds, as functions
  pub held_fun : is_held f.actor.view.held ≡ holds s.nodes.items s.seats.items a
  held_fun = λ i n. holds_is o c s sh a f found n i

  pub star_fun : star_held f.actor.view.held ≡ star_seen s.nodes.items s.seats.items a
  star_fun = λ i n. star_is o c s sh a f found n i

  pub can_judge_is : (chunk : ℕ) (op : Op) → can_judge f.actor.view.held chunk op ≡ can_judge_at s.nodes.items s.seats.items a chunk op
  can_judge_is chunk op = judge_is_by f.actor.view.held chunk op ∙ (λ i. can_judge_by (held_fun i) (star_fun i) chunk op)

  -- it is that of the mesh after the history
  pub held_of : (p : Pair) → In p f.actor.view.held → p.star ≡ star_of (mesh_of o c) p.node
  held_of p h = (fits o c s sh a f found).pairs p h ∙ star_after_is o sh.core.sound.0 p.node ∙ ap (λ (m : Undivided). star_of m p.node) (sym (mesh_is o c sh.core))

  pub seen_of : (n : ℕ) → holds s.nodes.items s.seats.items a n ≡ true → star_seen s.nodes.items s.seats.items a n ≡ star_of (mesh_of o c) n
  seen_of n h =
      let r = pair_of n f.actor.view.held (seen_held o c s sh a f found n h) in
      ap (λ (b : Bool). cond b (node_at s.nodes.items n).star None) h
      ∙ ap (λ (k : ℕ). (node_at s.nodes.items k).star) (sym r.2) ∙ (mine o c s sh a f found).stars r.0 r.1 ∙ held_of r.0 r.1 ∙ ap (star_of (mesh_of o c)) r.2

  pub shown_to : (op : Op) → IsShownTo s.nodes.items s.seats.items a op (mesh_of o c)
  shown_to op = record { conforming = (shows_one_mesh o c sh.core).conforming; first = seen_of (first_end op) }

  pub judged_is : (chunk : ℕ) (op : Op) → judged (star_held f.actor.view.held) o.mesh.bands chunk op ≡ judged (star_seen s.nodes.items s.seats.items a) s.bands.items chunk op
  judged_is chunk op = λ i. judged (star_fun i) (sym sh.bands i) chunk op

pub look_taken : (s : State) (a t : ℕ) → t ≡ length s.log.items → IsAct (Note a None) s (Taken (Some t)) s
look_taken s a t is o c f sh found = (
  learn_shows o c s sh a f found (seen_at f.actor.view (tickets_in o c)) (acted_core o c s sh a f found (Note a None) refl) (acted_grows o c s sh a f found (Note a None) refl) refl refl refl refl,
  ap (λ (k : ℕ). Taken (Some k)) (is ∙ sym (tickets_are o c s sh)),
)

-- whether the operation is refused
abbrev pub refusal : State → ℕ → Asked → Bool
refusal s a q = can_judge_at s.nodes.items s.seats.items a q.chunk q.op && is_some (judged (star_seen s.nodes.items s.seats.items a) s.bands.items q.chunk q.op)

module _ (o : Opening) (c : CoreState) (s : State) (sh : ShowsState o c s) (a : ℕ) (f : Found) (found : found_from a 0 c.actors ≡ Some f) (q : Asked) where
  abbrev step_at : Option Cond → Stepped
  step_at x = judge_step (can_judge f.actor.view.held q.chunk q.op) c f (tickets_in o c) q x

  miss : (b : Bool) → (b && false) ≡ false
  miss true = refl
  miss false = refl

  hit : (b : Bool) → b ≡ true → (b && true) ≡ true
  hit b e = ap (λ (x : Bool). x && true) e

  left_part : (x y : Bool) → (x && y) ≡ true → x ≡ true
  left_part true y e = refl
  left_part false y e = e

  left_false : (x : Bool) → (x && true) ≡ false → x ≡ false
  left_false true e = e
  left_false false e = refl

  right_true : (x : Bool) → (x && false) ≡ true → ⊥
  right_true true e = absurd (let z : false ≡ true = e in cc)
  right_true false e = absurd (let z : false ≡ true = e in cc)

  refuse_false : (x : Option Cond) → (can_judge f.actor.view.held q.chunk q.op && is_some x) ≡ false → ShowsState o (step_at x).state s × (Ignored ≡ (step_at x).verdict)
  refuse_false None e = (sh, refl)
  refuse_false (Some why) e = refused o c s sh (can_judge f.actor.view.held q.chunk q.op) (refuse_state c f (tickets_in o c) q.chunk q.op why) (Some (tickets_in o c)) (left_false (can_judge f.actor.view.held q.chunk q.op) e)

  refuse_true : (x : Option Cond) → (can_judge f.actor.view.held q.chunk q.op && is_some x) ≡ true → IsCore o (step_at x).state → IsExtended (log_of o c) (log_of o (step_at x).state) → ShowsState o (step_at x).state s × (Taken (Some (tickets_in o c)) ≡ (step_at x).verdict)
  refuse_true None e k g = absurd (right_true (can_judge f.actor.view.held q.chunk q.op) e)
  refuse_true (Some why) e k g =
      let able = left_part (can_judge f.actor.view.held q.chunk q.op) true e in
      let t : CoreState = refuse_state c f (tickets_in o c) q.chunk q.op why in
      taken o c s (can_judge f.actor.view.held q.chunk q.op) t (Some (tickets_in o c)) able
      (learn_shows o c s sh a f found (failed_at f.actor.view (tickets_in o c) q.chunk q.op why) (core_taken o c (can_judge f.actor.view.held q.chunk q.op) t (Some (tickets_in o c)) able k)
      (grows_taken o c (can_judge f.actor.view.held q.chunk q.op) t (Some (tickets_in o c)) able g) refl refl refl refl)

  refusal_is : (can_judge f.actor.view.held q.chunk q.op && is_some (judged (star_held f.actor.view.held) o.mesh.bands q.chunk q.op)) ≡ refusal s a q
  refusal_is = λ i. can_judge_is o c s sh a f found q.chunk q.op i && is_some (judged_is o c s sh a f found q.chunk q.op i)

pub refuse_ignored : (s : State) (a : ℕ) (q : Asked) (b : Bool) → ((m : Undivided) → IsShownTo s.nodes.items s.seats.items a q.op m → b ≡ refusal s a q) → b ≡ false → IsAct (Note a (Some q)) s Ignored s
refuse_ignored s a q b is no_gate o c f sh found =
    refuse_false o c s sh a f found q (judged (star_held f.actor.view.held) o.mesh.bands q.chunk q.op) (refusal_is o c s sh a f found q ∙ sym (is (mesh_of o c) (shown_to o c s sh a f found q.op)) ∙ no_gate)

pub refuse_taken : (s : State) (a : ℕ) (q : Asked) (b : Bool) (t : ℕ) → ((m : Undivided) → IsShownTo s.nodes.items s.seats.items a q.op m → b ≡ refusal s a q) → b ≡ true → t ≡ length s.log.items → IsAct (Note a (Some q)) s (Taken (Some t)) s
refuse_taken s a q b t is gate same o c f sh found =
    let r = refuse_true o c s sh a f found q (judged (star_held f.actor.view.held) o.mesh.bands q.chunk q.op) (refusal_is o c s sh a f found q ∙ sym (is (mesh_of o c) (shown_to o c s sh a f found q.op)) ∙ gate)
    (acted_core o c s sh a f found (Note a (Some q)) refl) (acted_grows o c s sh a f found (Note a (Some q)) refl) in
    (r.0, ap (λ (k : ℕ). Taken (Some k)) (same ∙ sym (tickets_are o c s sh)) ∙ r.1)

pub few_log : (o : Opening) (c : CoreState) (s : State) → ShowsState o c s → length s.log.items ≤ 1048576
few_log o c s sh = few_tickets o c s sh
