-- A sound state shows one mesh, and so does each state after a list of events.
use Rattle.std.proofs.Common.{◌≡◌, ℕ, List, [], length, sym, ap, ◌∙◌, subst, arith}
use Rattle.std.specs.Prelude.{Option}
use Rattle.pf_model.specs.Mesh.{Undivided}
use Rattle.pf_model.specs.Conforming.{IsConforming}
use Rattle.pf_model.specs.Replay.{IsLegal}
use Rattle.pf_model.specs.Sums.{area2_of}
use Rattle.pf_model.specs.Stars.{Star, star_of}
use Rattle.pf_model.proofs.ReplayKeeps.{legal_keeps}
use Rattle.pf_core_model.specs.declared.event.Event.{Event}
use Rattle.pf_star_model.specs.Copies.{due_copy}
use Rattle.pf_core_model.specs.Sharers.{copy_in}
use Rattle.pf_core_model.specs.declared.sharer.Sharer.{Sharer}
use Rattle.pf_core_model.specs.Needs.{KeepsOutside}
use Rattle.pf_core_model.specs.Core.{Opening, mesh_after, star_after}
use Rattle.pf_core_model.specs.State.{CoreState, homes_of, views_of, list_at, log_of, mesh_of, state_after, opening_state, IsCore}
use Rattle.pf_core_model.specs.Shown.{CanOpen, IsOneMesh}
use Rattle.pf_core_model.proofs.Replays.{star_after_is}
use Rattle.pf_core_model.proofs.Histories.{history_is_log}
use Rattle.pf_core_model.proofs.Owing.{home_listed, places_same}
use Rattle.pf_core_model.proofs.StateLaws.{sound_in, list_there, mesh_is, free_row}
use Rattle.pf_core_model.proofs.Steps.{steps_core}
use Rattle.pf_core_model.proofs.Opens.{opens_core}

pub shows_one_mesh : (o : Opening) (s : CoreState) → IsCore o s → IsOneMesh o s
shows_one_mesh o s c =
    let log = c.sound.0 in
    let snd = sound_in o s c in
    let same : log_of o s ≡ log = history_is_log o s.words (homes_of s.words s.lists) (views_of s.actors) log snd in
    let mesh : mesh_of o s ≡ mesh_after o log = mesh_is o s c in
    let keeps = legal_keeps o.mesh log snd.conforming snd.fresh snd.legal in
    let shown : (n : ℕ) → star_of (mesh_of o s) n ≡ star_after o log n = λ n. ap (λ (m : Undivided). star_of m n) mesh ∙ sym (star_after_is o log n) in
    record {
      long = ap length same ∙ sym snd.tickets;
      within = let t = snd.tickets in let b = snd.budget in omega arith;
      legal = subst (IsLegal o.mesh) (sym same) snd.legal;
      conforming = subst IsConforming (sym mesh) keeps.conforming;
      area = ap area2_of mesh ∙ keeps.area;
      free = λ n near is. let r = free_row o s c n near is in (r.star, shown n ∙ r.live);
      copies = λ n near is k low. let r = free_row o s c n near is in r.due k low ∙ ap (λ (x : Option Star). due_copy k x) (sym (shown n ∙ r.live));
      dead = λ n near is. shown n ∙ (snd.dead n near is).gone;
      no_copy = λ n near is k low. ap (λ (l : List Sharer). copy_in l k) (places_same (list_at s.lists n) [] (sym (home_listed s.words s.lists n (list_at s.lists n) (omega arith) (list_there o s c n near)) ∙ (snd.dead n near is).copies));
    }

pub events_show_one_mesh : (outside : KeepsOutside) (o : Opening) → CanOpen o → (events : List Event) → IsOneMesh o (state_after o (opening_state o) events)
events_show_one_mesh outside o can events = shows_one_mesh o (state_after o (opening_state o) events) (steps_core outside o (opening_state o) events (opens_core o can))
