-- A number that was written is read as itself.
use Rattle.std.proofs.Common.{◌≡◌, ℕ, ◌≤◌, ◌^◌, Bool, true, false, List, Ok, Err, refl, arith}
use Rattle.std.specs.Prelude.{decimal, nat_le}
use Rattle.std.proofs.lemmas.Bool.{le-leb}
use Rattle.pf_lex.specs.Number.{natural_of, is_natural, natural_value, number_limit}
use Rattle.pf_lex.specs.declared.number.NumFault.TheVariants.{NotWhole, TooLarge}
use Rattle.pf_lex.proofs.NumberLaws.{natural_of-decimal}
use Rattle.row_text.specs.Rows.{natural_within}

-- a word that is read as a number is natural, and has that value
read_at : (word : List ℕ) (n : ℕ) (natural small : Bool) → is_natural word ≡ natural → nat_le (natural_value word) (2 ^ 62) ≡ small → natural_of word ≡ Ok n → (is_natural word ≡ true) × (natural_value word ≡ n)
unfolding natural_of
read_at word n true true e h is = let k : Ok (natural_value word) ≡ Ok n = rw (e, h) at is in (e, cc)
read_at word n true false e h is = let k : Err TooLarge ≡ Ok n = rw (e, h) at is in cc
read_at word n false small e h is = let k : Err NotWhole ≡ Ok n = rw e at is in cc

pub read_natural : (word : List ℕ) (n : ℕ) → natural_of word ≡ Ok n → (is_natural word ≡ true) × (natural_value word ≡ n)
read_natural word n is = read_at word n (is_natural word) (nat_le (natural_value word) (2 ^ 62)) refl refl is

-- a written number is read as itself
pub natural_within-decimal : {E : Type 0} (refused : ℕ → E) (most n column : ℕ) → n ≤ most → most ≤ number_limit → natural_within refused most record { text = decimal n; column = column } ≡ Ok n
natural_within-decimal refused most n column within small =
    let read = read_natural (decimal n) n (natural_of-decimal n (omega arith)) in
    rw (read.0, read.1, le-leb n most within) refl
