-- What an actor knows of the mesh by its view alone, and the guards that it can tell by it: those facts that hold on every mesh that the
-- view may be of.
use Rattle.std.specs.Prelude.{◌≡◌, ◌≢◌, ◌⊎◌, ℕ, ◌+◌, ◌<◌, ◌≤◌, List, [], ◌∷◌, ◌++◌, length, slice_index, slice_set, false, Option, Some, None}
use mathlib.Core.Option.{some}
use lib.ListN.{get_elem?}
use Rattle.pf_model.specs.declared.Op.{Op}
use Rattle.pf_model.specs.declared.Cond.{Cond}
use Rattle.pf_model.specs.declared.Entry.{Entry}
use Rattle.pf_model.specs.Mesh.{Undivided}
use Rattle.pf_model.specs.Conforming.{IsConforming}
use Rattle.pf_model.specs.Applied.{IsFresh, applied}
use Rattle.pf_model.specs.Conditions.{first_failing}
use Rattle.pf_model.specs.Stars.{star_of}
use Rattle.pf_core_model.specs.declared.view.View.{View}
use Rattle.pf_star_model.specs.Lent.{Held}
use Rattle.pf_core_model.specs.Lists.{In}
use Rattle.pf_star_model.specs.Cavity.{cavity_of}
use Rattle.pf_core_model.specs.Cavity.{makes, neighbours_in}
use Rattle.pf_core_model.specs.Moves.{refused, made_list, unborn_by, committed}
use Rattle.pf_core_model.specs.Sharers.{sharers_in}
use Rattle.pf_core_model.specs.History.{history_from}
use Rattle.pf_core_model.specs.Core.{Opening, names_of, mesh_after, held_by, number_of, nodes_in, nodes_of, Homes, Sound}
use Rattle.pf_core_model.specs.Laws.{OverSound}

-- a mesh that the view may be of
pub record IsMeshOf (v : View) (m : Undivided) : Type 0 where
  pub conforming : IsConforming m
  pub first_new : m.first_new ≡ v.first_new
  pub chunks : m.chunks ≡ v.chunks
  pub bands : m.bands ≡ v.bands
  pub pairs : (p : Held) → In p v.held → p.star ≡ star_of m p.node

-- the first condition that the operation fails, as the view tells
abbrev pub IsViewJudged : View → ℕ → Op → Option Cond → Type 0
IsViewJudged v chunk op x = (m : Undivided) → IsMeshOf v m → first_failing m chunk op ≡ x

-- the view holds the cavity of an operation that passes
abbrev pub ViewHoldsCavity : View → ℕ → Op → Type 0
ViewHoldsCavity v chunk op = (m : Undivided) → IsMeshOf v m → (n : ℕ) → In n (cavity_of m chunk op) → In n (nodes_of v)

-- the pairs are those of the view, patched by the entry, with that of the new node in front
pub record IsViewPatch (v : View) (e : Entry) (fresh : List Held) : Type 0 where
  pub nodes : nodes_in fresh ≡ made_list v.first_new e ++ nodes_of v
  pub pairs : (m : Undivided) → IsMeshOf v m → IsFresh m e.ticket → first_failing m e.chunk e.op ≡ None → (p : Held) → In p fresh → p.star ≡ star_of (applied m e) p.node

-- the view has the numbers of all actors
abbrev pub IsAlone : View → Type 0
IsAlone v = (k : ℕ) → k < v.workers → In k v.numbers

-- the mesh after the history is one that the view may be of
abbrev pub HeldPairsAgree : Type 0
HeldPairsAgree = OverSound (λ o words homes views log id v. v.numbers ≢ [] → IsMeshOf v (mesh_after o log))

-- an operation that fails, as the view tells, can be refused
abbrev pub JudgedKeepsSound : Type 0
JudgedKeepsSound = OverSound (λ o words homes views log id v. (chunk : ℕ) (op : Op) (why : Cond) → v.numbers ≢ [] → IsViewJudged v chunk op (Some why) → Sound o words homes (slice_set views id (refused v (length log) chunk op why)) log)

-- an operation that passes, as the view tells, and whose cavity it holds, can be made
abbrev pub MadeKeepsSound : Type 0
MadeKeepsSound = OverSound (λ o words homes views log id v. (homes' : Homes) (e : Entry) (fresh : List Held)
    → length homes' ≡ length homes → ((n : ℕ) → makes o.mesh.first_new n e ≡ false → get_elem? homes' n ≡ get_elem? homes n)
    → v.numbers ≢ [] → v.unborn ≡ None → 0 < v.allowance → e.ticket ≡ length log → IsViewJudged v e.chunk e.op None → ViewHoldsCavity v e.chunk e.op → IsViewPatch v e fresh
    → Sound o (slice_set words (names_of o) (length log + 1)) homes' (slice_set views id (committed v e fresh (unborn_by v.first_new e))) (log ++ e ∷ []))

-- the word of a node that the view doesn't hold names another actor, if any; and none where the view is alone
abbrev pub OthersHold : Type 0
OthersHold = OverSound (λ o words homes views log id v. (n : ℕ) → v.numbers ≢ [] → n < names_of o → 3 ≤ slice_index words n → (In n (nodes_of v) → ⊥) → (slice_index words n ≢ held_by (number_of v)) × (IsAlone v → ⊥))

-- a neighbour in a held star is free or held, where the view holds no unborn node
abbrev pub NeighbourIsNear : Type 0
NeighbourIsNear = OverSound (λ o words homes views log id v. (p : Held) (x : ℕ) → v.unborn ≡ None → In p v.held → In x (neighbours_in p.star) → (x < names_of o) × ((slice_index words x ≡ 0) ⊎ (3 ≤ slice_index words x)))

-- what a view that is alone knows: the history is its own entries by ticket, all of them seen, and what is left of the budget is its
-- allowance
pub record KnowsHistory (o : Opening) (log : List Entry) (v : View) : Type 0 where
  pub history : history_from 0 (length log) v.entries ≡ log
  pub seen : v.seen ≡ length log
  pub budget : v.allowance + length log ≡ o.budget

abbrev pub AloneKnowsHistory : Type 0
AloneKnowsHistory = OverSound (λ o words homes views log id v. v.numbers ≢ [] → IsAlone v → KnowsHistory o log v)

-- where it holds nothing either, each name's copies are at home, and they are those of the mesh after the history
abbrev pub AloneShowsCopies : Type 0
AloneShowsCopies = OverSound (λ o words homes views log id v. v.numbers ≢ [] → IsAlone v → v.held ≡ [] → (n : ℕ) → n < names_of o → get_elem? homes n ≡ some (some (sharers_in o.mesh.chunks (star_of (mesh_after o log) n))))
