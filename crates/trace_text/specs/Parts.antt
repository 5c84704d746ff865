-- What the words behind the name of an event say.
use Rattle.std.specs.Prelude.{ℕ, List, [], ◌∷◌, ◌&&◌, if◌then◌else◌, nat_le, Option, Some, None, codes}
use Rattle.std.specs.Str.{bytes_eq}
use Rattle.pf_lex.specs.Text.{Word}
use Rattle.pf_lex.specs.Number.{is_natural, natural_value}
use Rattle.pf_model.specs.declared.Op.{Op}
use Rattle.pf_model.specs.declared.Op.TheVariants.{Flip, Bisect, Contract}
use Rattle.pf_model.specs.Ends.{normal_of}
use Rattle.pf_core_model.specs.declared.event.Asked.{Asked}
use Rattle.trace_text.specs.declared.part.Two.{Two}
use Rattle.trace_text.specs.declared.part.Three.{Three}

-- the greatest number, and the greatest chunk
abbrev pub most_number : ℕ
most_number = 4294967295

abbrev pub most_chunk : ℕ
most_chunk = 65535

-- a natural word's number, which is at most this
abbrev pub number_of : ℕ → Word → Option ℕ
number_of most word = if is_natural word.text && nat_le (natural_value word.text) most then Some (natural_value word.text) else None

-- two numbers, where both are there
abbrev pub pair_of : Option ℕ → Option ℕ → Option Two
pair_of (Some a) (Some b) = Some record { a = a; b = b }
pair_of (Some a) None = None
pair_of None b = None

abbrev pub two_of : List Word → Option Two
two_of (x ∷ y ∷ []) = pair_of (number_of most_number x) (number_of most_number y)
two_of words = None

-- three numbers, where all are there
abbrev pub triple_of : Option ℕ → Option ℕ → Option ℕ → Option Three
triple_of (Some a) (Some b) (Some c) = Some record { a = a; b = b; c = c }
triple_of (Some a) (Some b) None = None
triple_of (Some a) None c = None
triple_of None b c = None

abbrev pub three_of : ℕ → List Word → Option Three
three_of most (x ∷ y ∷ z ∷ []) = triple_of (number_of most_number x) (number_of most y) (number_of most_number z)
three_of most words = None

-- the operation of this name with these ends, in normal form
abbrev pub op_of : List ℕ → ℕ → ℕ → Option Op
op_of name a b =
    if bytes_eq name (codes "flip") then Some (normal_of (Flip a b))
    else if bytes_eq name (codes "bisect") then Some (normal_of (Bisect a b))
    else if bytes_eq name (codes "contract") then Some (Contract a b)
    else None

-- what is asked, by a chunk and an operation
abbrev pub asking : Option ℕ → Option Op → Option Asked
asking (Some chunk) (Some op) = Some record { chunk = chunk; op = op }
asking (Some chunk) None = None
asking None op = None

-- the operation of this name, where both ends are numbers
abbrev pub named_op : List ℕ → Option Two → Option Op
named_op name (Some ends) = op_of name ends.a ends.b
named_op name None = None

abbrev pub asked_of : List Word → Option Asked
asked_of (chunk ∷ name ∷ x ∷ y ∷ []) = asking (number_of most_chunk chunk) (named_op name.text (pair_of (number_of most_number x) (number_of most_number y)))
asked_of words = None
