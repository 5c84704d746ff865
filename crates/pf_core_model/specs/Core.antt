-- When the words, the copies at home and the views of all actors show a sound state. Nothing is said of the copies of a node that is
-- held: these stand in its holder's hands.
use Rattle.std.specs.Prelude.{◌≡◌, ◌≢◌, ◌⊎◌, ℕ, ◌+◌, ◌<◌, ◌≤◌, List, [], ◌∷◌, ◌++◌, length, map, take, slice_index, true, false, Option, Some, None}
use mathlib.Core.Option.{Option as Place, some}
use lib.ListN.{get_elem?}
use Rattle.pf_model.specs.declared.Entry.{Entry}
use Rattle.pf_model.specs.Mesh.{Undivided}
use Rattle.pf_model.specs.Conforming.{IsConforming}
use Rattle.pf_model.specs.Applied.{IsFresh}
use Rattle.pf_model.specs.Conditions.{first_failing}
use Rattle.pf_model.specs.Replay.{replayed, IsLegal}
use Rattle.pf_model.specs.Stars.{Star, star_of}
use Rattle.pf_core_model.specs.declared.sharer.Sharer.{Sharer}
use Rattle.pf_core_model.specs.declared.view.View.{View}
use Rattle.pf_star_model.specs.Lent.{Held}
use Rattle.pf_core_model.specs.declared.view.Mark.{Mark}
use Rattle.pf_core_model.specs.declared.view.Refusal.{Refusal}
use Rattle.pf_core_model.specs.Lists.{In, times, total, Each}
use Rattle.pf_core_model.specs.Cavity.{makes, is_made, neighbours_in}
use Rattle.pf_core_model.specs.Sharers.{sharers_in}
use Rattle.pf_core_model.specs.Moves.{made_list}

-- what all actors begin with: the mesh, how many operations there may be, and how many actors
pub record Opening : Type 0 where
  pub mesh : Undivided
  pub budget : ℕ
  pub workers : ℕ

-- how many names there are: those of the nodes that were read, and one for each operation
abbrev pub names_of : Opening → ℕ
names_of o = o.mesh.first_new + o.budget

-- the mesh after a history
abbrev pub mesh_after : Opening → List Entry → Undivided
mesh_after o log = replayed o.mesh log

-- the star of a node after a history
unfoldable pub star_after : Opening → List Entry → ℕ → Option Star
star_after o log n = star_of (mesh_after o log) n

-- what a word says of its node: 0 that it is free, 1 that it is dead, 2 that it was never live, or is unborn, and k + 3 that the
-- actor k holds it
abbrev pub held_by : ℕ → ℕ
held_by k = k + 3

abbrev pub number_of : View → ℕ
number_of v = slice_index v.numbers 0

abbrev pub nodes_in : List Held → List ℕ
nodes_in ps = map (λ (p : Held). p.node) ps

abbrev pub nodes_of : View → List ℕ
nodes_of v = nodes_in v.held

abbrev pub tickets_of : View → List ℕ
tickets_of v = map (λ (e : Entry). e.ticket) v.entries

-- the pair shows its node after a history
abbrev pub IsPairOf : Opening → List Entry → Held → Type 0
IsPairOf o log p = p.star ≡ star_after o log p.node

-- each pair of the mark showed its node when the mark was made, and no name found dead before was live then
pub record IsTrueMark (o : Opening) (log : List Entry) (m : Mark) : Type 0 where
  pub at : m.at ≤ length log
  pub pairs : (p : Held) → In p m.pairs → IsPairOf o (take m.at log) p
  pub gone : (n : ℕ) → In n m.gone → star_after o (take m.at log) n ≡ None

-- the operation failed by this condition when it was refused
pub record IsTrueRefusal (o : Opening) (log : List Entry) (r : Refusal) : Type 0 where
  pub at : r.at ≤ length log
  pub fails : first_failing (mesh_after o (take r.at log)) r.chunk r.op ≡ Some r.cond

-- the pairs show the nodes of a view, and the node that an entry makes, after the entry
pub record ArePatched (o : Opening) (log : List Entry) (v : View) (e : Entry) (fresh : List Held) : Type 0 where
  pub nodes : nodes_in fresh ≡ made_list o.mesh.first_new e ++ nodes_of v
  pub pairs : (p : Held) → In p fresh → IsPairOf o (log ++ e ∷ []) p

-- the view knows what all actors begin with
abbrev pub KnowsOpening : Opening → View → Type 0
KnowsOpening o v = (v.workers ≡ o.workers) × (v.first_new ≡ o.mesh.first_new) × (v.chunks ≡ o.mesh.chunks) × (v.bands ≡ o.mesh.bands)

-- the word of a node that the view holds: its own, or that of its unborn node
abbrev pub IsOwnWord : View → ℕ → ℕ → Type 0
IsOwnWord v n word = (word ≡ held_by (number_of v)) ⊎ ((v.unborn ≡ Some n) × (word ≡ 2))

-- n, with this word, is unborn, and held with these nodes: one of these entries makes it, and each neighbour of it is held
pub record IsUnborn (o : Opening) (word : ℕ) (log : List Entry) (nodes : List ℕ) (entries : List Entry) (n : ℕ) : Type 0 where
  pub held : In n nodes
  pub never : word ≡ 2
  pub entry : Entry
  pub entered : In entry entries
  pub made : makes o.mesh.first_new n entry ≡ true
  pub neighbours : (x : ℕ) → In x (neighbours_in (star_after o log n)) → In x nodes

-- what a sound state says of one view
pub record Fits (o : Opening) (words : List ℕ) (log : List Entry) (v : View) : Type 0 where
  pub knows : v.numbers ≢ [] → KnowsOpening o v
  pub below : (k : ℕ) → In k v.numbers → k < o.workers
  pub spent : v.numbers ≡ [] → (v.held ≡ []) × (v.entries ≡ []) × (v.allowance ≡ 0)
  pub near : (n : ℕ) → In n (nodes_of v) → n < names_of o
  pub own : (n : ℕ) → In n (nodes_of v) → IsOwnWord v n (slice_index words n)
  pub pairs : (p : Held) → In p v.held → IsPairOf o log p
  pub once : (n : ℕ) → times n (nodes_of v) ≤ 1
  pub unborn : (n : ℕ) → v.unborn ≡ Some n → IsUnborn o (slice_index words n) log (nodes_of v) v.entries n
  pub done : (e : Entry) → In e v.entries → (get_elem? log e.ticket ≡ some e) × (e.ticket < v.seen)
  pub seen : v.seen ≤ length log
  pub dead : (n : ℕ) → In n v.dead → (n < names_of o) × (slice_index words n ≡ 1)
  pub refusals : (r : Refusal) → In r v.refusals → IsTrueRefusal o log r
  pub marks : (m : Mark) → In m v.marks → IsTrueMark o log m

-- some view holds the node, under the number that its word names
pub record IsHeldIn (views : List View) (word n : ℕ) : Type 0 where
  pub place : ℕ
  pub view : View
  pub at : get_elem? views place ≡ some view
  pub named : word ≡ held_by (number_of view)
  pub holds : In n (nodes_of view)

-- some view holds the node unborn
pub record IsUnbornIn (views : List View) (n : ℕ) : Type 0 where
  pub place : ℕ
  pub view : View
  pub at : get_elem? views place ≡ some view
  pub holds : view.unborn ≡ Some n

-- the copies at home: of each name, the list of its copies, or none where they stand in hands
abbrev pub Homes : Type 0
Homes = List (Place (List Sharer))

-- the copies of n at home are those of the mesh after a history, where n is live
pub record IsFree (o : Opening) (homes : Homes) (log : List Entry) (n : ℕ) : Type 0 where
  pub star : Star
  pub live : star_after o log n ≡ Some star
  pub copies : get_elem? homes n ≡ some (some (sharers_in o.mesh.chunks (Some star)))

-- n isn't live after a history, and has no copy
pub record IsDead (o : Opening) (homes : Homes) (log : List Entry) (n : ℕ) : Type 0 where
  pub gone : star_after o log n ≡ None
  pub copies : get_elem? homes n ≡ some (some [])

-- words, homes and views are sound, with this history
pub record Sound (o : Opening) (words : List ℕ) (homes : Homes) (views : List View) (log : List Entry) : Type 0 where
  pub words_long : length words ≡ names_of o + 1
  pub homes_long : length homes ≡ names_of o
  pub tickets : slice_index words (names_of o) ≡ length log
  pub budget : total (λ (v : View). v.allowance) views + length log ≡ o.budget
  pub small : names_of o ≤ 1048576
  pub numbers : (k : ℕ) → k < o.workers → total (λ (v : View). times k v.numbers) views ≡ 1
  pub once : (t : ℕ) → t < length log → total (λ (v : View). times t (tickets_of v)) views ≡ 1
  pub no_more : (t : ℕ) → length log ≤ t → total (λ (v : View). times t (tickets_of v)) views ≡ 0
  pub conforming : IsConforming o.mesh
  pub fresh : IsFresh o.mesh 0
  pub legal : IsLegal o.mesh log
  pub fits : Each views (Fits o words log)
  pub free : (n : ℕ) → n < names_of o → slice_index words n ≡ 0 → IsFree o homes log n
  pub dead : (n : ℕ) → n < names_of o → slice_index words n ≡ 1 → IsDead o homes log n
  pub held : (n : ℕ) → n < names_of o → 3 ≤ slice_index words n → IsHeldIn views (slice_index words n) n
  pub read : (n : ℕ) → n < o.mesh.first_new → slice_index words n ≢ 2
  pub unmade : (n : ℕ) → n < names_of o → o.mesh.first_new ≤ n → is_made o.mesh.first_new log n ≡ false → (slice_index words n ≡ 2) × (get_elem? homes n ≡ some (some []))
  pub unborn : (n : ℕ) → n < names_of o → slice_index words n ≡ 2 → is_made o.mesh.first_new log n ≡ true → IsUnbornIn views n

-- words, homes and views are sound
abbrev pub IsSound : Opening → List ℕ → Homes → List View → Type 0
IsSound o words homes views = (log : List Entry) × Sound o words homes views log
