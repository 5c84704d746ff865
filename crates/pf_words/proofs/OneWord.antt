-- What a word is, to the grammar and to `clap`; faults in turn.
use Rattle.std.proofs.Common.{◌≡◌, ◌==◌, ◌&&◌, ◌||◌, ℕ, Bool, true, false, refl, sym, ap, subst, [], ◌∷◌, Some, None, true≢false}
use Rattle.std.specs.Prelude.{⊤}
use Rattle.std.specs.Str.{bytes_eq}
use Rattle.clap.specs.Lexer.{long_of, short_of}
use Rattle.clap.specs.Kinds.{Kinds, or_else}
use Rattle.pf_words.specs.Grammar.{Text, Kind, plain, ends, named, refused, kind_of, kind_of_rest}

-- ---- faults

abbrev pub fails : Kinds → Bool
fails [] = false
fails (k ∷ ks) = true

pub first_fails : (a b : Kinds) → fails a ≡ true → fails (or_else a b) ≡ true
first_fails [] b f = absurd (true≢false (sym f))
first_fails (k ∷ ks) b f = refl

pub past : (a b : Kinds) → a ≡ [] → or_else a b ≡ b
past a b none = ap (λ x. or_else x b) none

pub or_none : (a : Kinds) → or_else a [] ≡ a
or_none [] = refl
or_none (k ∷ ks) = refl

pub grouped : (a b c : Kinds) → or_else (or_else a b) c ≡ or_else a (or_else b c)
grouped [] b c = refl
grouped (k ∷ ks) b c = refl

pub and_false : (b : Bool) → (b && false) ≡ false
and_false true = refl
and_false false = refl

pub or_false : (b : Bool) → (b || false) ≡ b
or_false true = refl
or_false false = refl

pub or_true : (b : Bool) → (b || true) ≡ true
or_true true = refl
or_true false = refl

-- ---- one word

abbrev pub IsWord : Kind → Text → Type 0
IsWord plain word = (bytes_eq word (45 ∷ 45 ∷ []) ≡ false) × (long_of word ≡ None) × (short_of word ≡ None)
IsWord ends word = bytes_eq word (45 ∷ 45 ∷ []) ≡ true
IsWord (named name value) word = (bytes_eq word (45 ∷ 45 ∷ []) ≡ false) × (long_of word ≡ Some (name, value))
IsWord refused word = ⊤

dashless : (first : ℕ) (others : Text) → (first == 45) ≡ false → IsWord plain (first ∷ others)
dashless first others not_one = (rw not_one refl, rw not_one refl, rw not_one refl)

single : (first : ℕ) (b : Bool) → (first == 45) ≡ b → IsWord plain (first ∷ [])
single first true is = (rw is refl, rw is refl, rw is refl)
single first false is = dashless first [] is

dashes : (first second : ℕ) (rest : Text) → (first == 45) ≡ true → (second == 45) ≡ true → IsWord (kind_of_rest rest) (first ∷ second ∷ rest)
dashes first second [] one two = rw (one, two) refl
dashes first second (x ∷ xs) one two = (rw (one, two) refl, rw (one, two) refl)

double : (first second : ℕ) (rest : Text) (a b : Bool) → (first == 45) ≡ a → (second == 45) ≡ b → IsWord (kind_of (first ∷ second ∷ rest)) (first ∷ second ∷ rest)
double first second rest false b one two =
    let kind : kind_of (first ∷ second ∷ rest) ≡ plain = rw one refl in
    subst (λ k. IsWord k (first ∷ second ∷ rest)) (sym kind) (dashless first (second ∷ rest) one)
double first second rest true false one two =
    let kind : kind_of (first ∷ second ∷ rest) ≡ refused = rw (one, two) refl in
    subst (λ k. IsWord k (first ∷ second ∷ rest)) (sym kind) tt
double first second rest true true one two =
    let kind : kind_of (first ∷ second ∷ rest) ≡ kind_of_rest rest = rw (one, two) refl in
    subst (λ k. IsWord k (first ∷ second ∷ rest)) (sym kind) (dashes first second rest one two)

pub is_word : (word : Text) → IsWord (kind_of word) word
is_word [] = (refl, refl, refl)
is_word (first ∷ []) = single first (first == 45) refl
is_word (first ∷ second ∷ rest) = double first second rest (first == 45) (second == 45) refl refl
