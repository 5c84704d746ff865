-- A board at its start and at its end.
use Rattle.std.proofs.Common.{◌≡◌, ◌≢◌, ℕ, ◌<◌, List, [], length, map, sym, ap, ◌∙◌, subst}
use Rattle.std.proofs.lemmas.List.{length-map}
use mathlib.Core.Option.{some}
use lib.ListN.{get_elem?}
use Rattle.atomic_table.specs.Table.{opening, Final, Seen}
use Rattle.atomic_table.proofs.Lists.{at_map}
use Rattle.pf_model.specs.declared.Entry.{Entry}
use Rattle.pf_model.specs.Stars.{star_of}
use Rattle.pf_core_model.specs.declared.sharer.Sharer.{Sharer}
use Rattle.pf_core_model.specs.declared.view.View.{View}
use Rattle.pf_core_model.specs.Sharers.{sharers_in}
use Rattle.pf_core_model.specs.History.{history_from}
use Rattle.pf_core_model.specs.Core.{Opening, names_of, mesh_after}
use Rattle.pf_core_model.specs.Guards.{IsAlone}
use Rattle.pf_core_model.specs.Seats.{own_log, IsWhole}
use Rattle.pf_core_model.specs.State.{opening_state, first_view}
use Rattle.pf_core_model.specs.Shown.{CanOpen}
use Rattle.pf_core_model.proofs.Opens.{opens_in}
use Rattle.pf_core_model.proofs.Told.{knows_all, shows_copies}
use Rattle.pf_core_model.proofs.Seats.{seat_knows}
use Rattle.pf_board_steps.specs.Plays.{Holds}
use Rattle.pf_board_steps.specs.Laws.{AreCopies}

pub board_opens : (o : Opening) (lists : List (List Sharer)) → CanOpen o → length lists ≡ names_of o → AreCopies o [] lists → Holds o (opening (opening_state o).words lists (first_view o))
board_opens o lists can long shown = (
  [],
  opens_in o can (map some lists) (length-map lists some ∙ long) (λ n near. at_map some lists n (sharers_in o.mesh.chunks (star_of o.mesh n)) (shown n near)),
)

pub board_closes : (o : Opening) (id : ℕ) (v : View) (words : List ℕ) (lists : List (List Sharer)) → v.numbers ≢ [] → IsAlone v → v.held ≡ []
    → Final (Seen (Holds o) id v) words lists → IsWhole o v × AreCopies o (own_log v) lists
board_closes o id v words lists actor alone empty end =
    let s = end.0 in
    let h = end.1 in
    let log : List Entry = h.0.0 in
    let sound = h.0.1 in
    let all = knows_all o s.words s.homes s.views log sound id v h.1 actor alone in
    let own : own_log v ≡ log = ap (λ (k : ℕ). history_from 0 k v.entries) all.seen ∙ all.history in
    let copies : AreCopies o log lists = λ n near. end.4 n (sharers_in o.mesh.chunks (star_of (mesh_after o log) n)) (shows_copies o s.words s.homes s.views log sound id v h.1 actor alone empty n near) in
    ((seat_knows o s.words s.homes s.views log sound id v h.1 actor).1 alone, subst (λ (l : List Entry). AreCopies o l lists) (sym own) copies)
