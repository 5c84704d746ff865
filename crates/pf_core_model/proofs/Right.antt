-- Answers are right where what the caller knows is true, and stay right.
use Rattle.std.proofs.Common.{◌≡◌, ℕ, ◌≤◌, true, false, List, ◌++◌, length, take, sym, ap, ◌∙◌, subst, arith, length-append}
use Rattle.std.proofs.lemmas.List.{take-append-le}
use Rattle.std.specs.Prelude.{None}
use mathlib.Core.Option.{some}
use lib.ListN.{get_elem?}
use Rattle.pf_model.specs.declared.Entry.{Entry}
use Rattle.pf_model.specs.Conforming.{IsConforming, IsLive}
use Rattle.pf_model.specs.Applied.{IsFresh}
use Rattle.pf_model.specs.Conditions.{first_failing}
use Rattle.pf_model.specs.Ends.{first_end, second_end, AreEndsLive}
use Rattle.pf_model.specs.Replay.{IsLegal}
use Rattle.pf_model.proofs.Replays.{legal-take}
use Rattle.pf_star_model.specs.Cavity.{cavity_of}
use Rattle.pf_core_model.specs.declared.answer.Answer.{Answer}
use Rattle.pf_core_model.specs.declared.answer.Answer.TheVariants.{Done, Refused, Busy, Gone, Unborn, Spent, Memory}
use Rattle.pf_core_model.specs.declared.view.View.{View}
use Rattle.pf_core_model.specs.declared.view.Mark.{Mark}
use Rattle.pf_core_model.specs.Lists.{In}
use Rattle.pf_core_model.specs.Core.{Opening, mesh_after, star_after, IsPairOf, IsTrueMark, IsTrueRefusal, Homes, Sound}
use Rattle.pf_core_model.specs.Right.{AgreesAt, Call, Gain, refusal, lost, dead, never, mark, HasGained, IsTrueGain, IsMoment, IsRight, HasStar, IsTold, Lasts}
use Rattle.pf_core_model.specs.Shown.{IsExtended}
use Rattle.pf_core_model.proofs.Lists.{at_longer}
use Rattle.pf_core_model.proofs.Replays.{star_after_is, conforms_after, replayed_bands}
use Rattle.pf_core_model.proofs.Told.{star_none}
use Rattle.pf_core_model.proofs.Seats.{star_some}

pub mark_agrees : (o : Opening) (log : List Entry) (k : Mark) → IsConforming o.mesh → IsFresh o.mesh 0 → IsLegal o.mesh log → IsTrueMark o log k → AgreesAt o.mesh.bands k (mesh_after o (take k.at log))
mark_agrees o log k ok fresh legal t =
    record {
      conforming = conforms_after o (take k.at log) ok fresh (legal-take 0 o.mesh log k.at legal);
      same = replayed_bands o.mesh (take k.at log);
      pairs = λ p h. t.pairs p h ∙ star_after_is o (take k.at log) p.node;
    }

module _ (o : Opening) (log more : List Entry) where
  first_same : (n : ℕ) → n ≤ length log → take n (log ++ more) ≡ take n log
  first_same n low = take-append-le n log more low

  longer : (n : ℕ) → n ≤ length log → n ≤ length (log ++ more)
  longer n low = let z = length-append log more in omega arith

  gain_lasts : (g : Gain) → IsTrueGain o log g → IsTrueGain o (log ++ more) g
  gain_lasts (refusal r) t =
      record {
        at = longer r.at t.at;
        fails = ap (λ (l : List Entry). first_failing (mesh_after o l) r.chunk r.op) (first_same r.at t.at) ∙ t.fails;
      }
  gain_lasts (lost l) t = tt
  gain_lasts (dead n) t = tt
  gain_lasts (never n) t = tt
  gain_lasts (mark k) t =
      let same = first_same k.at t.at in
      record {
        at = longer k.at t.at;
        pairs = λ p h. subst (λ (l : List Entry). IsPairOf o l p) (sym same) (t.pairs p h);
        gone = λ n h. ap (λ (l : List Entry). star_after o l n) same ∙ t.gone n h;
      }

  moment_lasts : (c : Call) (at : ℕ) → IsMoment log c at → IsMoment (log ++ more) c at
  moment_lasts c at t = (t.0, longer at t.1)

  answer_lasts : (c : Call) (a : Answer) → IsRight o log c a → IsRight o (log ++ more) c a
  answer_lasts c (Done ticket) t = (t.0, at_longer log more ticket _ t.1)
  answer_lasts c (Refused at cond) t =
      let same = first_same at t.0.1 in
      (moment_lasts c at t.0, subst (λ (l : List Entry). AreEndsLive (mesh_after o l) c.op) (sym same) t.1, ap (λ (l : List Entry). first_failing (mesh_after o l) c.chunk c.op) same ∙ t.2)
  answer_lasts c (Busy at node holder) t =
      let same = first_same at t.0.1 in
      (moment_lasts c at t.0, subst (λ (l : List Entry). In node (cavity_of (mesh_after o l) c.chunk c.op)) (sym same) t.1, t.2)
  answer_lasts c (Gone at node) t =
      let same = first_same at t.0.1 in
      (moment_lasts c at t.0, t.1, (λ live. t.2 (subst (λ (l : List Entry). IsLive (mesh_after o l) node) same live)))
  answer_lasts c (Unborn node) t = t
  answer_lasts c Spent t = t
  answer_lasts c Memory t = (t.0, moment_lasts c t.0 t.1, ap (λ (l : List Entry). first_failing (mesh_after o l) c.chunk c.op) (first_same t.0 t.1.1) ∙ t.2)

  lasting : Lasts o log (log ++ more)
  lasting = record { gains = gain_lasts; entries = λ t e h. at_longer log more t e h; answers = answer_lasts }

pub facts_last : (o : Opening) (log log' : List Entry) → IsExtended log log' → Lasts o log log'
facts_last o log log' h = subst (λ (l : List Entry). Lasts o log l) (sym h.1) (lasting o log h.0)

module _ (o : Opening) (log : List Entry) (ok : IsConforming o.mesh) (fresh : IsFresh o.mesh 0) (legal : IsLegal o.mesh log) (gained : Gain → Type 0) (truth : (g : Gain) → gained g → IsTrueGain o log g) where
  star_live : (k : Mark) (n : ℕ) → IsTrueMark o log k → HasStar k n → IsLive (mesh_after o (take k.at log)) n
  star_live k n t h = star_some (mesh_after o (take k.at log)) n h.0 (sym ((mark_agrees o log k ok fresh legal t).pairs _ h.1))

  pub truth_right : (entries : List Entry) → ((e : Entry) → In e entries → get_elem? log e.ticket ≡ some e) → (c : Call) (a : Answer) → IsTold o gained entries c a → IsRight o log c a
  truth_right entries placed c (Done ticket) t = (t.1, placed _ t.2)
  truth_right entries placed c (Refused at cond) t =
      let r : IsTrueRefusal o log (record { at = at; chunk = c.chunk; op = c.op; cond = cond }) = truth (refusal _) t.2 in
      let k : Mark = t.3.0 in
      let true_k : IsTrueMark o log k = truth (mark k) t.3.2 in (
        (t.1, r.at),
        subst (λ (i : ℕ). AreEndsLive (mesh_after o (take i log)) c.op) t.3.1 (star_live k (first_end c.op) true_k t.3.3.0, star_live k (second_end c.op) true_k t.3.3.1),
        r.fails,
      )
  truth_right entries placed c (Busy at node holder) t =
      let k : Mark = t.4.0 in
      let true_k : IsTrueMark o log k = truth (mark k) t.4.2 in
      let is : k.at ≡ at = t.4.1 in
      let low = true_k.at in (
        (t.1, omega arith),
        subst (λ (i : ℕ). In node (cavity_of (mesh_after o (take i log)) c.chunk c.op)) is (t.4.3 (mesh_after o (take k.at log)) (mark_agrees o log k ok fresh legal true_k)),
        t.3,
      )
  truth_right entries placed c (Gone at node) t =
      let k : Mark = t.4.0 in
      let true_k : IsTrueMark o log k = truth (mark k) t.4.2 in
      let is : k.at ≡ at = t.4.1 in
      let low = true_k.at in
      let off : IsLive (mesh_after o (take k.at log)) node → ⊥ = λ live. let z : true ≡ false = sym live ∙ star_none (mesh_after o (take k.at log)) node (sym (star_after_is o (take k.at log) node) ∙ true_k.gone node t.4.3) in absurd (cc (z)) in
      ((t.1, omega arith), t.2, subst (λ (i : ℕ). IsLive (mesh_after o (take i log)) node → ⊥) is off)
  truth_right entries placed c (Unborn node) t = t.1
  truth_right entries placed c Spent t = t
  truth_right entries placed c Memory t =
      let k : Mark = t.2.0 in
      let true_k : IsTrueMark o log k = truth (mark k) t.2.2 in
      let is : k.at ≡ t.0 = t.2.1 in
      let low = true_k.at in
      (t.0, (t.1, omega arith), subst (λ (i : ℕ). first_failing (mesh_after o (take i log)) c.chunk c.op ≡ None) is (t.2.3 (mesh_after o (take k.at log)) (mark_agrees o log k ok fresh legal true_k)))

module _ (o : Opening) (words : List ℕ) (homes : Homes) (views : List View) (log : List Entry) (s : Sound o words homes views log) (id : ℕ) (v : View) (at : get_elem? views id ≡ some v) where
  pub gains_true : (g : Gain) → HasGained v g → IsTrueGain o log g
  gains_true (refusal r) h = (s.fits id v at).refusals r h
  gains_true (lost l) h = tt
  gains_true (dead n) h = tt
  gains_true (never n) h = tt
  gains_true (mark k) h = (s.fits id v at).marks k h

  pub answers_right : (c : Call) (a : Answer) → IsTold o (HasGained v) v.entries c a → IsRight o log c a
  answers_right c a t = truth_right o log s.conforming s.fresh s.legal (HasGained v) gains_true v.entries (λ e h. ((s.fits id v at).done e h).0) c a t
