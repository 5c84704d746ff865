-- Which state of the model a state shows.
use Rattle.std.specs.Prelude.{◌≡◌, ◌≢◌, ℕ, List, [], ◌∷◌, ◌++◌, length, map, Option, Some, None}
use Rattle.std.specs.List.{list_any}
use Rattle.pf_model.specs.declared.Entry.{Entry}
use Rattle.pf_model.specs.Mesh.{Undivided}
use Rattle.pf_star_model.specs.Lent.{Held as Pair}
use Rattle.pf_core_model.specs.declared.event.Event.{Event}
use Rattle.pf_core_model.specs.declared.event.Owed.{Owed}
use Rattle.pf_core_model.specs.declared.event.Verdict.{Verdict}
use Rattle.pf_core_model.specs.Lists.{In, Each}
use Rattle.pf_core_model.specs.Core.{Opening, number_of}
use Rattle.pf_core_model.specs.State.{Actor, CoreState, Found, Stepped, found_from, log_of, acted, actor_of, stepped, IsCore}
use Rattle.pf_core.specs.declared.state.State.{State}
use Rattle.pf_core.specs.declared.tables.Node.{Node}
use Rattle.pf_core.specs.declared.tables.Seat.{Seat}
use Rattle.pf_core.specs.Tables.{node_at, seat_at, code_in, list_in, is_lead}

-- what all actors begin with
abbrev pub opening_of : Undivided → ℕ → ℕ → Opening
opening_of m budget workers = record { mesh = m; budget = budget; workers = workers }

-- what is kept of an actor's number: what it has, how many nodes it holds, and which of them is absent
pub record ShowsSeat (t : Seat) (x : Actor) : Type 0 where
  pub allowance : t.allowance ≡ x.view.allowance
  pub held : t.held ≡ length x.view.held
  pub unborn : t.unborn ≡ x.view.unborn
  pub absent : (n : ℕ) → t.absent ≡ Some n → In (record { node = n; star = None }) x.view.held
  pub absences : (p : Pair) → In p x.view.held → p.star ≡ None → t.absent ≡ Some p.node
  pub owed : (d : Owed) → In d t.owed → In d x.owed
  pub debts : (d : Owed) → In d x.owed → In d t.owed

-- what is kept of an actor: each of its numbers leads to it, and each of its held stars stands at its node
pub record ShowsActor (seats : List Seat) (nodes : List Node) (x : Actor) : Type 0 where
  pub leads : (k : ℕ) → In k x.view.numbers → (seat_at seats k).lead ≡ number_of x.view
  pub seat : ShowsSeat (seat_at seats (number_of x.view)) x
  pub stars : (p : Pair) → In p x.view.held → (node_at nodes p.node).star ≡ p.star

-- the state shows this sound state of the model, which began with this opening
pub record ShowsState (o : Opening) (c : CoreState) (s : State) : Type 0 where
  pub core : IsCore o c
  pub first_new : s.first_new ≡ o.mesh.first_new
  pub chunks : s.chunks ≡ o.mesh.chunks
  pub bands : s.bands.items ≡ o.mesh.bands
  pub words : c.words ≡ map code_in s.nodes.items ++ length s.log.items ∷ []
  pub lists : c.lists ≡ map list_in s.nodes.items
  pub log : log_of o c ≡ s.log.items
  pub workers : length s.seats.items ≡ o.workers
  pub actors : Each c.actors (λ (x : Actor). x.view.numbers ≢ [] → ShowsActor s.seats.items s.nodes.items x)

-- it shows some state
pub record IsShownState (s : State) : Type 0 where
  pub opening : Opening
  pub state : CoreState
  pub shown : ShowsState opening state s

-- the second state shows what an event makes of each state that the first shows, and the verdict is its
abbrev pub IsStep : Event → State → Verdict → State → Type 0
IsStep e old v new = (o : Opening) (c : CoreState) → ShowsState o c old → ShowsState o (stepped o c e).state new × (v ≡ (stepped o c e).verdict)

-- the same of an event whose actor is found
abbrev pub IsAct : Event → State → Verdict → State → Type 0
IsAct e old v new = (o : Opening) (c : CoreState) (f : Found) → ShowsState o c old → found_from (actor_of e) 0 c.actors ≡ Some f → ShowsState o (acted o c e f).state new × (v ≡ (acted o c e f).verdict)

-- nothing changed
abbrev pub Stays : State → State → Type 0
Stays old new = (o : Opening) (c : CoreState) → ShowsState o c old → ShowsState o c new
