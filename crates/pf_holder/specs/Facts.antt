-- What a holder comes to know, and what its calls tell.
use Rattle.std.specs.Prelude.{◌≡◌, ◌⊎◌, ℕ, ◌+◌, ◌<◌, ◌≤◌, List, [], ◌∷◌, length, cond, ◌==◌, Option, Some, None, Contains}
use Rattle.pf_model.specs.declared.Band.{Band}
use Rattle.pf_model.specs.declared.Op.{Op}
use Rattle.pf_model.specs.declared.Cond.{Cond}
use Rattle.pf_model.specs.declared.Entry.{Entry}
use Rattle.pf_model.specs.Mesh.{Undivided}
use Rattle.pf_model.specs.Conforming.{IsConforming, IsLive}
use Rattle.pf_model.specs.Applied.{IsFresh}
use Rattle.pf_model.specs.Replay.{IsLegal}
use Rattle.pf_model.specs.Conditions.{first_failing, neighbours}
use Rattle.pf_model.specs.Stars.{Star, star_of}
use Rattle.pf_star_model.specs.Cavity.{cavity_of}
use Rattle.pf_star_model.specs.Lent.{Held, star_held}
use Rattle.pf_core_model.specs.declared.view.Mark.{Mark}
use Rattle.pf_core_model.specs.declared.view.Refusal.{Refusal}
use Rattle.pf_core_model.specs.declared.view.Lost.{Lost}
use Rattle.pf_core_model.specs.declared.event.Asked.{Asked}
use Rattle.pf_core_model.specs.Lists.{In}
use Rattle.pf_core_model.specs.History.{history_from}
use Rattle.pf_core_model.specs.Core.{Opening, names_of, mesh_after, nodes_in}
use Rattle.pf_core_model.specs.Right.{Gain, lost, dead, never, mark, refusal}
use Rattle.pf_holder.specs.declared.holder.Hold.{Hold}
use Rattle.pf_holder.specs.declared.holder.Hold.TheVariants.{Won, Dead, Never}
use Rattle.pf_holder.specs.declared.holder.Hold.TheVariants.{Lost as LostTo}

-- a try that found the node n held by the actor k
abbrev pub lost_to : ℕ → ℕ → Gain
lost_to n k = lost (record { node = n; holder = k })

-- each node that is held is lent, and no other
abbrev pub LendsAll : (ℕ → Option Star) → List Held → Type 0
LendsAll lent pairs = lent ≡ star_held pairs

-- a conforming mesh with these bands, of which the pairs are true
pub record IsSeen (bands : List Band) (pairs : List Held) (m : Undivided) : Type 0 where
  pub conforming : IsConforming m
  pub banded : m.bands ≡ bands
  pub shown : (p : Held) → In p pairs → p.star ≡ star_of m p.node

-- some such mesh has the opening's first new name and number of chunks too, and live names in range alone
pub record AreSeen (o : Opening) (pairs : List Held) : Type 0 where
  pub mesh : Undivided
  pub seen : IsSeen o.mesh.bands pairs mesh
  pub first_new : mesh.first_new ≡ o.mesh.first_new
  pub chunks : mesh.chunks ≡ o.mesh.chunks
  pub live : (n : ℕ) → IsLive mesh n → n < names_of o
  pub small : names_of o ≤ 1048576

-- the first condition that the operation fails on each such mesh
abbrev pub IsJudged : List Band → List Held → ℕ → Op → Option Cond → Type 0
IsJudged bands pairs chunk op x = (m : Undivided) → IsSeen bands pairs m → first_failing m chunk op ≡ x

-- the cavity on each such mesh is held
abbrev pub HoldsCavity : List Band → List Held → ℕ → Op → Type 0
HoldsCavity bands pairs chunk op = (m : Undivided) → IsSeen bands pairs m → (n : ℕ) → Contains (cavity_of m chunk op) n → In n (nodes_in pairs)

-- the pair of a node that was won
abbrev pub won_pair : ℕ → Star → Held
won_pair n s = record { node = n; star = Some s }

-- what a try for the node n tells, where there are so many names
abbrev pub TellsHold : ℕ → ℕ → List Held → List Held → (Gain → Type 0) → Hold → Type 0
TellsHold names n before after gained Won = (n < names) × ((s : Star) × (after ≡ won_pair n s ∷ before))
TellsHold names n before after gained (LostTo k) = (after ≡ before) × gained (lost_to n k)
TellsHold names n before after gained Dead = (after ≡ before) × gained (dead n)
TellsHold names n before after gained Never = (after ≡ before) × (gained (never n) ⊎ (names ≤ n))

-- n is a neighbour in a star that is lent
pub record IsNearLent (lent : ℕ → Option Star) (n : ℕ) : Type 0 where
  pub at : ℕ
  pub star : Star
  pub lends : lent at ≡ Some star
  pub near : Contains (neighbours star.spokes) n

-- the node is live
abbrev pub IsFoundLive : Hold → Type 0
IsFoundLive Won = Unit {0}
IsFoundLive (LostTo k) = Unit {0}
IsFoundLive Dead = ⊥
IsFoundLive Never = ⊥

-- what a try tells where nobody else is, of a node with this star or absence
abbrev pub TellsAlone : Option Star → Hold → Type 0
TellsAlone star Won = Unit {0}
TellsAlone star (LostTo k) = ⊥
TellsAlone star Dead = star ≡ None
TellsAlone star Never = star ≡ None

-- a mark at t with these pairs was gained, and has the nodes found dead before
pub record IsMarked (t : ℕ) (pairs : List Held) (gained : Gain → Type 0) (found : ℕ → Type 0) : Type 0 where
  pub it : Mark
  pub at : it.at ≡ t
  pub holds : it.pairs ≡ pairs
  pub known : gained (mark it)
  pub gone : (n : ℕ) → found n → In n it.gone

-- what is asked of a note fails
abbrev pub IsAskable : List Band → List Held → Option Asked → Type 0
IsAskable bands pairs None = Unit {0}
IsAskable bands pairs (Some q) = (why : Cond) × IsJudged bands pairs q.chunk q.op (Some why)

abbrev pub refusal_of : ℕ → Asked → Cond → Gain
refusal_of t q why = refusal (record { at = t; chunk = q.chunk; op = q.op; cond = why })

-- its refusal was gained
abbrev pub TellsAsked : ℕ → List Band → List Held → (Gain → Type 0) → Option Asked → Type 0
TellsAsked t bands pairs gained None = Unit {0}
TellsAsked t bands pairs gained (Some q) = (why : Cond) → IsJudged bands pairs q.chunk q.op (Some why) → gained (refusal_of t q why)

-- the history of an actor that is alone: its own entries by ticket
abbrev pub history_in : List Entry → List Entry
history_in entries = history_from 0 (length entries) entries

-- the mesh of an actor that is alone
abbrev pub mesh_alone : Opening → List Entry → Undivided
mesh_alone o entries = mesh_after o (history_in entries)

-- what an actor that is alone knows
pub record KnowsAll (o : Opening) (pairs : List Held) (allowance : ℕ) (entries : List Entry) : Type 0 where
  pub conforming : IsConforming o.mesh
  pub fresh : IsFresh o.mesh 0
  pub legal : IsLegal o.mesh (history_in entries)
  pub seen : IsSeen o.mesh.bands pairs (mesh_alone o entries)
  pub budget : allowance + length (history_in entries) ≡ o.budget
