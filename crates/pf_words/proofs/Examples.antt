-- Lists of words, by what they ask for in pairs and by the grammar.
use Rattle.std.proofs.Common.{◌≡◌, refl, codes, List, [], ◌∷◌, Some, None}
use Rattle.pf_lex.specs.Number.{natural_of}
use Rattle.pf_words.specs.Grammar.{Text, adapt, check, command_of}
use Rattle.pf_words.specs.Pairs.{paired_command_of}

-- pairs in another order than the options have, and one of them left out
abbrev some_pairs : List Text
some_pairs = codes "adapt" ∷ codes "in" ∷ codes "out" ∷ codes "--scale" ∷ codes "08" ∷ codes "--ops" ∷ codes "3" ∷ codes "--turns" ∷ codes "10000000" ∷ []

pairs_ask : paired_command_of some_pairs ≡ Some (adapt (codes "in") (codes "out") 4 (Some 3) 10000000 8)
unfolding natural_of
pairs_ask = refl

pairs_ask_the_same : command_of some_pairs ≡ Some (adapt (codes "in") (codes "out") 4 (Some 3) 10000000 8)
unfolding natural_of
pairs_ask_the_same = refl

-- what the older form refuses, and the grammar reads
abbrev no_pairs : List Text
no_pairs = codes "check" ∷ codes "--scale=7" ∷ codes "in" ∷ []

not_in_pairs : paired_command_of no_pairs ≡ None
unfolding natural_of
not_in_pairs = refl

read_by_the_grammar : command_of no_pairs ≡ Some (check (codes "in") 7)
unfolding natural_of
read_by_the_grammar = refl
