-- What holds between the parts of one try.
use Rattle.std.specs.Prelude.{◌≡◌, ◌<◌, ℕ, List, Option, Some, None, Contains, true, is_some}
use Rattle.pf_model.specs.declared.Band.{Band}
use Rattle.pf_model.specs.declared.Op.{Op}
use Rattle.pf_model.specs.declared.Op.TheVariants.{Flip, Bisect, Contract}
use Rattle.pf_model.specs.declared.Cond.{Cond}
use Rattle.pf_model.specs.Ends.{first_end, second_end}
use Rattle.pf_model.specs.Mesh.{Undivided}
use Rattle.pf_model.specs.Stars.{Star}
use Rattle.pf_model.specs.Rising.{AreDifferent}
use Rattle.pf_star_model.specs.Judged.{judged, judged_ends}
use Rattle.pf_star_model.specs.Cavity.{cavity_of, PassesAtEnds}
use Rattle.pf_star_model.specs.Lent.{Held}
use Rattle.pf_core_model.specs.Lists.{In}
use Rattle.pf_core_model.specs.Core.{nodes_in}
use Rattle.pf_holder.specs.Facts.{IsSeen, IsJudged, HoldsCavity}
use Rattle.pf_core_model.specs.Right.{IsEnd}
use Rattle.pf_core_model.specs.declared.answer.Answer.{Answer}
use Rattle.pf_core_model.specs.declared.answer.Answer.TheVariants.{Done, Spent, Memory}
use Rattle.pf_holder.specs.Answers.{HoldsStar, IsFailing, TellsOf}

-- what is judged from the ends
abbrev pub judged_first : (ℕ → Option Star) → List Band → ℕ → Op → Option Cond
judged_first lent bands chunk (Flip a b) = judged_ends lent chunk a b
judged_first lent bands chunk (Bisect a b) = judged lent bands chunk (Bisect a b)
judged_first lent bands chunk (Contract u v) = judged lent bands chunk (Contract u v)

-- what is judged once the cavity is held
abbrev pub judged_last : (ℕ → Option Star) → List Band → ℕ → Op → Option Cond
judged_last lent bands chunk (Flip a b) = judged lent bands chunk (Flip a b)
judged_last lent bands chunk (Bisect a b) = None
judged_last lent bands chunk (Contract u v) = None

-- each pair has a star
abbrev pub AreLive : List Held → Type 0
AreLive pairs = (p : Held) → In p pairs → is_some p.star ≡ true

-- both ends are held, and no other node
pub record HoldsEnds (op : Op) (pairs : List Held) : Type 0 where
  pub first : HoldsStar pairs (first_end op)
  pub second : HoldsStar pairs (second_end op)
  pub live : AreLive pairs
  pub apart : AreDifferent (nodes_in pairs)
  pub only : (n : ℕ) → In n (nodes_in pairs) → IsEnd n op

-- each condition passes that is judged from the ends, on each mesh that agrees with the pairs
abbrev pub EndsPass : List Band → List Held → ℕ → Op → Type 0
EndsPass bands pairs chunk op = (m : Undivided) → IsSeen bands pairs m → PassesAtEnds m chunk op

-- both ends are held, and nodes of the cavity alone
pub record HoldsPart (bands : List Band) (pairs : List Held) (chunk : ℕ) (op : Op) : Type 0 where
  pub first : HoldsStar pairs (first_end op)
  pub second : HoldsStar pairs (second_end op)
  pub live : AreLive pairs
  pub apart : AreDifferent (nodes_in pairs)
  pub passes : EndsPass bands pairs chunk op
  pub within : (m : Undivided) → IsSeen bands pairs m → (n : ℕ) → In n (nodes_in pairs) → Contains (cavity_of m chunk op) n

-- the operation passes, by some chunk, and its cavity is held
abbrev pub CanMake : List Band → List Held → Op → Type 0
CanMake bands pairs op = (chunk : ℕ) × IsJudged bands pairs chunk op None × HoldsCavity bands pairs chunk op

-- the operation passes, and its ends and its cavity are held
abbrev pub PassesHeld : List Band → List Held → ℕ → Op → Type 0
PassesHeld bands pairs chunk op = HoldsPart bands pairs chunk op × HoldsCavity bands pairs chunk op × IsJudged bands pairs chunk op None

-- it says why an operation is not made: that it fails, that an end is no node, or that another holds a node
abbrev pub IsRefusedAnswer : Answer → Type 0
IsRefusedAnswer (Done t) = ⊥
IsRefusedAnswer Spent = ⊥
IsRefusedAnswer Memory = ⊥
IsRefusedAnswer _ = Unit {0}

-- the ticket of an operation that was made is below this number
abbrev pub IsTicketBelow : ℕ → Answer → Type 0
IsTicketBelow n (Done t) = t < n
IsTicketBelow n _ = Unit {0}

-- what is said of an operation that is asked about, where nobody else is, and this is the mesh: None says that it passes
abbrev pub TellsProbe : Undivided → ℕ → Op → Option Answer → Type 0
TellsProbe m chunk op None = IsFailing m chunk op None
TellsProbe m chunk op (Some a) = TellsOf m chunk op a
