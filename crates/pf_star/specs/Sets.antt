-- Lists of held pairs that rise by node.
use Rattle.std.specs.Prelude.{◌≡◌, ◌≢◌, ℕ, ◌<◌, ◌≤◌, List, [], ◌∷◌, ◌==◌, AllPairs, cond, nat_lt, not, filter, length, Option, Some, None, slice_index_or}
use Rattle.pf_model.specs.Stars.{Star}
use Rattle.pf_star_model.specs.Lent.{Held}

-- the pairs rise by node
abbrev pub AreRising : List Held → Type 0
AreRising hs = AllPairs (λ h k. h.node < k.node) hs

-- so many pairs have a node below n, and they stand first
pub record IsIndexOfPair (n : ℕ) (hs : List Held) (r : ℕ) : Type 0 where
  pub within : r ≤ length hs
  pub before : (k : ℕ) (d : Held) → k < r → (slice_index_or hs k d).node < n
  pub from : (k : ℕ) (d : Held) → r ≤ k → k < length hs → n ≤ (slice_index_or hs k d).node

-- there is a pair at this place, and it is the node's
pub record IsAt (n : ℕ) (hs : List Held) (r : ℕ) : Type 0 where
  pub within : r < length hs
  pub node : (d : Held) → (slice_index_or hs r d).node ≡ n

-- there is none, or it is another's
abbrev pub IsNotAt : ℕ → List Held → ℕ → Type 0
IsNotAt n hs r = (d : Held) → r < length hs → (slice_index_or hs r d).node ≢ n

-- the pairs with this one, in the place of that of its node where there is one
abbrev pub put_held : Held → List Held → List Held
put_held x [] = x ∷ []
put_held x (h ∷ hs) = cond (nat_lt x.node h.node) (x ∷ h ∷ hs) (cond (h.node == x.node) (x ∷ hs) (h ∷ put_held x hs))

-- the pair of the node, where there is one
abbrev pub held_at : ℕ → List Held → Option Held
held_at n [] = None
held_at n (h ∷ hs) = cond (h.node == n) (Some h) (held_at n hs)

-- the pairs of the other nodes
abbrev pub without_held : ℕ → List Held → List Held
without_held n hs = filter (λ h. not (h.node == n)) hs

-- the star, as the pair of its node
abbrev pub pair_of : Star → Held
pair_of s = record { node = s.node; star = Some s }
