-- The ends of an operation, and its normal form.
use Rattle.std.specs.Prelude.{◌≡◌, ℕ, cond, Option, Some, None, is_some, min, max}
use Rattle.pf_model.specs.declared.Op.{Op}
use Rattle.pf_model.specs.declared.Op.TheVariants.{Flip, Bisect, Contract}
use Rattle.pf_model.specs.Mesh.{Undivided, point_of}
use Rattle.pf_model.specs.Conforming.{IsLive}

-- the ends of an operation, as written: of a contraction, the node that goes is the first
abbrev pub first_end : Op → ℕ
first_end (Flip a b) = a
first_end (Bisect a b) = a
first_end (Contract u v) = u

abbrev pub second_end : Op → ℕ
second_end (Flip a b) = b
second_end (Bisect a b) = b
second_end (Contract u v) = v

-- the normal form of an operation: the lower name of a flip or a bisection stands first
abbrev pub normal_of : Op → Op
normal_of (Flip a b) = Flip (min a b) (max a b)
normal_of (Bisect a b) = Bisect (min a b) (max a b)
normal_of (Contract u v) = Contract u v

-- the operation is its own normal form
abbrev pub IsNormal : Op → Type 0
IsNormal op = normal_of op ≡ op

-- both ends are live
abbrev pub AreEndsLive : Undivided → Op → Type 0
AreEndsLive m op = IsLive m (first_end op) × IsLive m (second_end op)

-- the name, where it isn't live
abbrev pub gone_name : Undivided → ℕ → Option ℕ
gone_name m n = cond (is_some (point_of m.sites n)) None (Some n)

-- the first end that isn't live
abbrev pub gone_end : Undivided → Op → Option ℕ
gone_end m op = cond (is_some (point_of m.sites (first_end op))) (gone_name m (second_end op)) (Some (first_end op))
