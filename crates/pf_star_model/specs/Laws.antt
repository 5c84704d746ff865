-- Laws of held stars, as statements.
use Rattle.std.specs.Prelude.{◌≡◌, ℕ, ◌+◌, ◌≤◌, ◌<◌, ◌⊎◌, List, Bool, Option, Some, None, Contains, AllPairs, length, map, is_some, true, false}
use Rattle.pf_model.specs.declared.Band.{Band}
use Rattle.pf_model.specs.declared.Spoke.{Spoke}
use Rattle.pf_model.specs.declared.Op.{Op}
use Rattle.pf_model.specs.declared.Op.TheVariants.{Contract}
use Rattle.pf_model.specs.declared.Entry.{Entry}
use Rattle.pf_model.specs.Ends.{first_end, second_end, normal_of}
use Rattle.pf_model.specs.Mesh.{Undivided}
use Rattle.pf_model.specs.Conforming.{IsConforming, IsLive}
use Rattle.pf_model.specs.Applied.{IsFresh, applied}
use Rattle.pf_model.specs.Conditions.{first_failing, neighbours}
use Rattle.pf_model.specs.Stars.{Star, star_of, spokes_of, is_neighbour, is_sharer}
use Rattle.pf_model.specs.Rising.{IsRising, AreDifferent}
use Rattle.pf_star_model.specs.Copies.{Copy, copy_of, copy_lt, copies_of}
use Rattle.pf_star_model.specs.Lent.{Held, is_held, star_held, AgreesOn, IsShown, spokes_in}
use Rattle.pf_star_model.specs.Rings.{next_neighbour}
use Rattle.pf_star_model.specs.Judged.{judged, judged_ends, ends_failing, AreBandsShown, IsApexShown}
use Rattle.pf_star_model.specs.Cavity.{cavity_of, cavity_seen, needed, PassesAtEnds}
use Rattle.pf_star_model.specs.Patched.{patched, patch_of, made_by, risen, patched_pairs, renamed_pair}

-- both ends are shown
abbrev pub AreEndsShown : (ℕ → Option Star) → Undivided → Op → Type 0
AreEndsShown lent m op = IsShown lent m (first_end op) × IsShown lent m (second_end op)

-- the entry can be applied: the mesh is conforming, its live names are below the new one of the ticket, and the operation passes
pub record CanApply (m : Undivided) (e : Entry) : Type 0 where
  pub conforming : IsConforming m
  pub fresh : IsFresh m e.ticket
  pub passes : first_failing m e.chunk e.op ≡ None

-- what is judged from the stars of the ends, and of the left apex of a flip whose other conditions pass, is the first condition
-- that fails, on each conforming mesh that has these stars, and these bands where the operation asks for bands
abbrev pub JudgedIsFirstFailing : Type 0
JudgedIsFirstFailing = (m : Undivided) (lent : ℕ → Option Star) (bands : List Band) (chunk : ℕ) (op : Op) → IsConforming m → AreBandsShown bands m op → AreEndsShown lent m op → IsApexShown lent m chunk op → judged lent bands chunk op ≡ first_failing m chunk op

-- the conditions of a flip but the last are judged from the stars of the ends alone
abbrev pub EndsAreJudged : Type 0
EndsAreJudged = (m : Undivided) (lent : ℕ → Option Star) (chunk a b : ℕ) → IsConforming m → IsShown lent m a → IsShown lent m b → judged_ends lent chunk a b ≡ ends_failing m chunk a b

-- the stars of the ends show the cavity
abbrev pub CavityIsSeen : Type 0
CavityIsSeen = (m : Undivided) (lent : ℕ → Option Star) (chunk : ℕ) (op : Op) → IsConforming m → AreEndsShown lent m op → PassesAtEnds m chunk op → cavity_seen lent op ≡ cavity_of m chunk op

-- each node of the cavity is live, where each condition passes that is judged from the stars of the ends
abbrev pub CavityIsLive : Type 0
CavityIsLive = (m : Undivided) (chunk : ℕ) (op : Op) → IsConforming m → PassesAtEnds m chunk op → (n : ℕ) → Contains (cavity_of m chunk op) n → IsLive m n

-- and there are at most 62 of them
abbrev pub CavityIsSmall : Type 0
CavityIsSmall = (m : Undivided) (chunk : ℕ) (op : Op) (names : List ℕ) → IsConforming m → PassesAtEnds m chunk op → AreDifferent names → ((n : ℕ) → Contains names n → Contains (cavity_of m chunk op) n) → length names ≤ 62

-- the node is in the cavity and isn't there, and each such node is at least it
pub record IsLeastMissing (is_there : ℕ → Bool) (cavity : List ℕ) (n : ℕ) : Type 0 where
  pub within : Contains cavity n
  pub missing : is_there n ≡ false
  pub least : (k : ℕ) → Contains cavity k → is_there k ≡ false → n ≤ k

-- where none is needed, each node of the cavity is lent; a node that is needed is the least of the cavity that isn't
abbrev pub NeededIsLeastMissing : Type 0
NeededIsLeastMissing = (m : Undivided) (lent : ℕ → Option Star) (chunk : ℕ) (op : Op) → IsConforming m → AreEndsShown lent m op → PassesAtEnds m chunk op → (needed lent op ≡ None → (n : ℕ) → Contains (cavity_of m chunk op) n → is_some (lent n) ≡ true) × ((n : ℕ) → needed lent op ≡ Some n → IsLeastMissing (λ k. is_some (lent k)) (cavity_of m chunk op) n)

-- the same of what is held, where the held pairs agree with the mesh
abbrev pub NeededIsLeastUnheld : Type 0
NeededIsLeastUnheld = (m : Undivided) (held : List Held) (chunk : ℕ) (op : Op) → IsConforming m → AgreesOn held m → AreEndsShown (star_held held) m op → PassesAtEnds m chunk op → (needed (star_held held) op ≡ None → (n : ℕ) → Contains (cavity_of m chunk op) n → is_held held n ≡ true) × ((n : ℕ) → needed (star_held held) op ≡ Some n → IsLeastMissing (is_held held) (cavity_of m chunk op) n)

-- a node that is needed, where the stars of both ends are lent, is a neighbour in one of the two
abbrev pub NeededIsNear : Type 0
NeededIsNear = (lent : ℕ → Option Star) (op : Op) (n : ℕ) → is_some (lent (first_end op)) ≡ true → is_some (lent (second_end op)) ≡ true → needed lent op ≡ Some n → (is_neighbour n (spokes_in (lent (first_end op))) ≡ true) ⊎ (is_neighbour n (spokes_in (lent (second_end op))) ≡ true)

-- of each node that is shown, what is patched from the held stars is the star after, or the absence
abbrev pub PatchedIsStar : Type 0
PatchedIsStar = (m : Undivided) (lent : ℕ → Option Star) (e : Entry) → CanApply m e → AreEndsShown lent m e.op → (n : ℕ) → IsShown lent m n → patched lent (m.first_new + e.ticket) e.op n ≡ star_of (applied m e) n

-- so is that of the new node
abbrev pub PatchedIsNewStar : Type 0
PatchedIsNewStar = (m : Undivided) (lent : ℕ → Option Star) (e : Entry) → CanApply m e → AreEndsShown lent m e.op → (n : ℕ) → Contains (made_by (m.first_new + e.ticket) e.op) n → patched lent (m.first_new + e.ticket) e.op n ≡ star_of (applied m e) n

-- each other node keeps its star, or its absence
abbrev pub OutsideStays : Type 0
OutsideStays = (m : Undivided) (e : Entry) → CanApply m e → (n : ℕ) → (n ≡ m.first_new + e.ticket → ⊥) → (Contains (cavity_of m e.chunk e.op) n → ⊥) → star_of (applied m e) n ≡ star_of m n

-- held pairs that are true of the mesh, with both ends, are true of it after, once each is patched
abbrev pub PatchedPairsAgree : Type 0
PatchedPairsAgree = (m : Undivided) (held : List Held) (e : Entry) → CanApply m e → AgreesOn held m → AreEndsShown (star_held held) m e.op → AgreesOn (patched_pairs held (m.first_new + e.ticket) e.op) (applied m e)

-- held pairs of other nodes stay true
abbrev pub OtherPairsAgree : Type 0
OtherPairsAgree = (m : Undivided) (held : List Held) (e : Entry) → CanApply m e → AgreesOn held m → ((h : Held) → Contains held h → h.node ≡ m.first_new + e.ticket → ⊥) → ((h : Held) → Contains held h → Contains (cavity_of m e.chunk e.op) h.node → ⊥) → AgreesOn held (applied m e)

-- a contraction that passes has a cavity of at most 62 nodes
abbrev pub ContractionHasFewNodes : Type 0
ContractionHasFewNodes = (m : Undivided) (chunk u v : ℕ) → IsConforming m → first_failing m chunk (Contract u v) ≡ None → length (risen (cavity_of m chunk (Contract u v))) ≤ 62

-- a patch: pairs that rise by node and are true of the mesh after, one for each node of the cavity and for the new node
pub record IsPatch (m : Undivided) (e : Entry) (pairs : List Held) : Type 0 where
  pub rises : AllPairs (λ h k. h.node < k.node) pairs
  pub agrees : AgreesOn pairs (applied m e)
  pub whole : (n : ℕ) → Contains (cavity_of m e.chunk e.op) n → is_held pairs n ≡ true
  pub made : (n : ℕ) → Contains (made_by (m.first_new + e.ticket) e.op) n → is_held pairs n ≡ true
  pub only : (h : Held) → Contains pairs h → Contains (cavity_of m e.chunk e.op) h.node ⊎ Contains (made_by (m.first_new + e.ticket) e.op) h.node

-- where the cavity is held, the patch is made from what is held
abbrev pub PatchIsWhole : Type 0
PatchIsWhole = (m : Undivided) (lent : ℕ → Option Star) (e : Entry) → CanApply m e → AreEndsShown lent m e.op → ((n : ℕ) → Contains (cavity_of m e.chunk e.op) n → IsShown lent m n) → IsPatch m e (patch_of lent (m.first_new + e.ticket) e.op)

-- a patch rises by node, whatever name it has for the new one
abbrev pub PatchRises : Type 0
PatchRises = (lent : ℕ → Option Star) (new : ℕ) (op : Op) → AllPairs (λ h k. h.node < k.node) (patch_of lent new op)

-- a patch can be made before the ticket is drawn: with any later name in the place of the new one it is the same, up to that name
abbrev pub PatchIsRenamed : Type 0
PatchIsRenamed = (m : Undivided) (lent : ℕ → Option Star) (e : Entry) (later : ℕ) → CanApply m e → AreEndsShown lent m e.op → ((n : ℕ) → Contains (cavity_of m e.chunk e.op) n → IsShown lent m n) → m.first_new + e.ticket ≤ later → map (renamed_pair later (m.first_new + e.ticket)) (patch_of lent later e.op) ≡ patch_of lent (m.first_new + e.ticket) e.op

-- an operation fails by the same condition as its normal form, and is judged alike from held stars
abbrev pub NormalIsJudged : Type 0
NormalIsJudged = (m : Undivided) (lent : ℕ → Option Star) (bands : List Band) (chunk : ℕ) (op : Op) → (first_failing m chunk (normal_of op) ≡ first_failing m chunk op) × (judged lent bands chunk (normal_of op) ≡ judged lent bands chunk op)

-- it has the same cavity
abbrev pub NormalHasCavity : Type 0
NormalHasCavity = (m : Undivided) (chunk : ℕ) (op : Op) (n : ℕ) → (Contains (cavity_of m chunk (normal_of op)) n → Contains (cavity_of m chunk op) n) × (Contains (cavity_of m chunk op) n → Contains (cavity_of m chunk (normal_of op)) n)

-- and the same patch
abbrev pub NormalIsPatched : Type 0
NormalIsPatched = (lent : ℕ → Option Star) (new : ℕ) (op : Op) → ((n : ℕ) → patched lent new (normal_of op) n ≡ patched lent new op n) × (patch_of lent new (normal_of op) ≡ patch_of lent new op)

-- the next neighbour after k is the least above it, and None comes where no neighbour is above it
abbrev pub NextIsLeastAbove : Type 0
NextIsLeastAbove = (ss : List Spoke) (k : ℕ) → ((n : ℕ) → next_neighbour ss (Some k) ≡ Some n → (k < n) × Contains (neighbours ss) n × ((j : ℕ) → Contains (neighbours ss) j → k < j → n ≤ j)) × (next_neighbour ss (Some k) ≡ None → (j : ℕ) → Contains (neighbours ss) j → j ≤ k)

-- a chunk that owns a triangle at a node is a chunk of the mesh
abbrev pub SharersAreChunks : Type 0
SharersAreChunks = (m : Undivided) (c n : ℕ) → IsConforming m → is_sharer c (spokes_of m n) ≡ true → c < m.chunks

-- these copies are exactly the due ones, each once, by rising chunk and node
pub record AreCopies (m : Undivided) (copies : List Copy) : Type 0 where
  pub only : (x : Copy) → Contains copies x → copy_of m x.chunk x.star.node ≡ Some x.star
  pub all : (c n : ℕ) (s : Star) → copy_of m c n ≡ Some s → Contains copies record { chunk = c; star = s }
  pub rise : IsRising copy_lt copies

-- so are the copies of a mesh
abbrev pub CopiesAreShared : Type 0
CopiesAreShared = (m : Undivided) → IsConforming m → AreCopies m (copies_of m)
