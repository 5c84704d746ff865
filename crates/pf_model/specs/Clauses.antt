-- Tables of refusals: a list of clauses, of which the first that comes is the answer.
use Rattle.std.specs.Prelude.{List, [], ◌∷◌, Bool, true, false, Option, Some, None}

-- the answer, where the test says so
abbrev pub when : {X : Type 0} → Bool → X → Option X
when true c = Some c
when false c = None

-- the answer for the element, where there is one
abbrev pub when_some : {X Y : Type 0} → Option X → (X → Y) → Option Y
when_some None f = None
when_some (Some x) f = Some (f x)

-- the first clause that comes
abbrev pub first_of : {X : Type 0} → List (Option X) → Option X
first_of [] = None
first_of (Some c ∷ cs) = Some c
first_of (None ∷ cs) = first_of cs
