-- A run over the edge table as the replay of a journal.
use Rattle.std.proofs.Common.{◌≡◌, ◌≢◌, ℕ, ◌+◌, List, take, get_or, refl, sym, ◌∙◌, ap, Option, Some, None}
use Rattle.std.specs.Option.{option_map}
use Rattle.std.proofs.lemmas.List.{take_more}
use Rattle.pf_model.specs.declared.Entry.{Entry}
use Rattle.pf_model.specs.declared.Op.TheVariants.{Flip}
use Rattle.pf_model.specs.declared.Refusal.{Refusal}
use Rattle.pf_model.specs.declared.Refusal.TheVariants as why
use Rattle.pf_model.specs.declared.FirstRefusal.{FirstRefusal}
use Rattle.pf_model.specs.Mesh.{Undivided}
use Rattle.pf_model.specs.Replay.{replayed, IsLegal, HasTickets, first_refusal}
use Rattle.pf_model.proofs.Replays.{unrefused-legal, unrefused-push, tickets-take}
use Rattle.pf_apply.specs.declared.run.ApplyErr.{ApplyErr}
use Rattle.pf_apply.specs.declared.run.ApplyErr.TheVariants.{Refused, Gone as GoneNode, Memory as NoRoom}
use Rattle.pf_apply.specs.declared.run.RunErr.{RunErr}
use Rattle.pf_apply.specs.Run.{stop_of, IsStopped}
use Rattle.pf_journal.specs.declared.run.ReplayErr.{ReplayErr}
use Rattle.pf_journal.specs.declared.run.ReplayErr.TheVariants.{At, Gone, Memory}
use Rattle.pf_journal.specs.Replay.{error_of, ticket_in, IsReplayedBefore}
use Rattle.pf_journal.specs.Stops.{stopped_at}

-- what is no want of memory comes of a fault that isn't
pub other-fault : (k : ℕ) (fault : ApplyErr) → stopped_at k fault ≢ Memory → fault ≢ NoRoom
other-fault k fault other e = other (ap (stopped_at k) e)

no_room : (k : ℕ) (fault : ApplyErr) → stopped_at k fault ≡ Memory → fault ≡ NoRoom
no_room k (Refused cond) e = absurd (let x : At k cond ≡ Memory = e in cc)
no_room k (GoneNode node) e = absurd (let x : Gone k node ≡ Memory = e in cc)
no_room k NoRoom e = refl

ticket-named : (k ticket : ℕ) (fault : ApplyErr) → ticket_in (stopped_at k fault) ≡ Some ticket → k ≡ ticket
ticket-named k ticket (Refused cond) e = let x : Some k ≡ Some ticket = e in cc
ticket-named k ticket (GoneNode node) e = let x : Some k ≡ Some ticket = e in cc
ticket-named k ticket NoRoom e = absurd (let x : None ≡ Some ticket = e in cc)

-- a refusal is the same error, whether it is first said of a run or not
same-error : (ticket : ℕ) (r : Refusal) → error_of record { ticket = ticket; why = r } ≡ stopped_at ticket (stop_of record { ticket = ticket; why = r }).fault
same-error ticket (why.Gone node) = refl
same-error ticket (why.Failing cond) = refl

-- the first refusal is the error of a run that stops at it
pub stopped-first : (first : Option FirstRefusal) (stop : RunErr) (err : ReplayErr) → err ≡ stopped_at stop.ticket stop.fault → option_map stop_of first ≡ Some stop → option_map error_of first ≡ Some err
stopped-first None stop err is e = absurd (let x = e in cc)
stopped-first (Some f) stop err is e =
    let same : stop_of f ≡ stop = (let y : Some (stop_of f) ≡ Some stop = e in cc) in
    ap (λ x. Some x) (same-error f.ticket f.why ∙ ap (λ (s : RunErr). stopped_at s.ticket s.fault) same ∙ sym is)

module _ (m : Undivided) (es : List Entry) (k : ℕ) (fault : ApplyErr) (tickets : HasTickets es) (s : IsStopped m es k fault) where
  abbrev none : Entry
  none = record { ticket = 0; chunk = 0; op = Flip 0 0 }

  abbrev before : Undivided
  before = replayed m (take k es)

  abbrev entry : Entry
  entry = get_or es k none

  -- an entry for which memory ran out passes
  passes : fault ≡ NoRoom → IsLegal m (take (k + 1) es)
  passes e =
      let more = take_more es k none s.within in
      let unrefused = unrefused-push m (take k es) entry s.before ((s.said none).memory e) in
      unrefused-legal 0 m (take (k + 1) es) (tickets-take 0 (k + 1) es tickets) (ap (first_refusal m) more ∙ unrefused)

  pub replayed-before : (new : Undivided) (err : ReplayErr) → err ≡ stopped_at k fault → new ≡ before → IsReplayedBefore m new es err
  replayed-before new err is same =
      record {
        count = k;
        within = s.within;
        legal = unrefused-legal 0 m (take k es) (tickets-take 0 k es tickets) s.before;
        replay = same;
        named = λ ticket e. ticket-named k ticket fault (ap ticket_in (sym is) ∙ e);
        memory = λ e. passes (no_room k fault (sym is ∙ e));
      }
