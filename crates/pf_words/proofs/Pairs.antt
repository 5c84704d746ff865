-- Words of the older form, plain words and then pairs, ask for the same by the grammar.
use Rattle.std.proofs.Common.{◌≡◌, ◌≤◌, ◌∙◌, ◌++◌, ◌==◌, ◌&&◌, ◌||◌, ℕ, Bool, true, false, not, refl, sym, ap, subst, codes, List, [], ◌∷◌, drop, Option, Some, None, Ok, Err, is_some, unwrap_or, nat_le, true≢false, append_assoc, append-nil, arith}
use Rattle.std.specs.Prelude.{⊤, option_and_then, option_map, if◌then◌else◌}
use Rattle.std.specs.Char.{is_ascii_digit}
use Rattle.std.specs.Str.{bytes_eq, all_ascii_digits}
use Rattle.std.proofs.lemmas.Bool.{and_parts, or_right, leb-true, ne_eqb, not-true}
use Rattle.std.proofs.lemmas.Option.{cond_some, none-some, same_Some}
use Rattle.std.proofs.lemmas.Slice.Eq.{bytes_eq-Decides}
use Rattle.pf_lex.specs.Number.{is_natural, natural_of, natural_value, number_limit}
use Rattle.pf_lex.specs.declared.number.NumFault.TheVariants.{NotWhole, TooLarge}
use Rattle.pf_words.specs.Grammar.{Text, plain, named, kind_of, Given, text_of, given_from, given_of, number_of, number_or, number_if, Asked, replay, check, chunks, trace, adapt_form, two_form, one_form, adapt_of, two_of, one_of}
use Rattle.pf_words.specs.Pairs.{Choice, workers_choice, ops_choice, turns_choice, scale_choice, adapt_choices, scale_choices, chosen, is_choice, has_word, are_pairs, value_in, is_plain, paired_adapt, paired_two, paired_one, PairsKeepTheirMeaning}
use Rattle.pf_words.proofs.Walks.{among}
use Rattle.pf_words.proofs.Forms.{same_text}

-- three tests that pass
all_parts : (a b c : Bool) → (a && b && c) ≡ true → (a ≡ true) × (b ≡ true) × (c ≡ true)
all_parts a b c e = let parts = and_parts (a && b) c e in let two = and_parts a b parts.0 in (two.0, two.1, parts.1)

-- ---- plain words, and digits among them

plain_word : (word : Text) → is_plain word ≡ true → kind_of word ≡ plain
plain_word [] e = refl
plain_word (first ∷ []) e = refl
plain_word (first ∷ second ∷ others) e = rw (not-true (first == 45) e) refl

digit_plain : (first : ℕ) → is_ascii_digit first ≡ true → not (first == 45) ≡ true
digit_plain first e =
    let low : 48 ≤ first = leb-true 48 first (and_parts (nat_le 48 first) (nat_le first 57) e).0 in
    let other : (first == 45) ≡ false = ne_eqb first 45 (λ same. omega arith) in
    ap not other

natural_plain : (word : Text) → is_natural word ≡ true → is_plain word ≡ true
natural_plain [] e = refl
natural_plain (first ∷ others) e = digit_plain first (and_parts (is_ascii_digit first) (all_ascii_digits others) e).0

-- the value that a word gives an option, by whether it is digits alone
abbrev value_if : Choice → Text → Bool → Option ℕ
value_if choice word b = elim (if b then (if nat_le (natural_value word) number_limit then Ok (natural_value word) else Err TooLarge) else Err NotWhole)
    [ Ok value ↦ if nat_le choice.least value && nat_le value choice.most then Some value else None | Err fault ↦ None ]

value_natural : (choice : Choice) (word : Text) (b : Bool) → is_natural word ≡ b → is_some (chosen choice word) ≡ true → is_natural word ≡ true
unfolding natural_of
value_natural choice word true is e = is
value_natural choice word false is e = absurd (true≢false (sym (subst (λ b. is_some (value_if choice word b) ≡ true) is e)))

value_plain : (choice : Choice) (word : Text) → is_some (chosen choice word) ≡ true → kind_of word ≡ plain
value_plain choice word e = plain_word word (natural_plain word (value_natural choice word (is_natural word) refl e))

-- ---- names

-- the word is two dashes and the name of one of the options
abbrev IsName : List Text → Text → Type 0
IsName options word = (word ≡ 45 ∷ 45 ∷ drop 2 word) × (kind_of word ≡ named (drop 2 word) None) × (among options (drop 2 word) ≡ true)

abbrev AreNames : List Text → List Choice → Type 0
AreNames options [] = ⊤
AreNames options (choice ∷ choices) = IsName options choice.name × AreNames options choices

abbrev IsPair : List Text → Text → Text → Type 0
IsPair options name word = IsName options name × (kind_of word ≡ plain)

pair_more : (options : List Text) (choice : Choice) (choices : List Choice) (name word : Text) → IsName options choice.name → (is_choice choices name word ≡ true → IsPair options name word)
    → (b : Bool) → bytes_eq name choice.name ≡ b → is_choice (choice ∷ choices) name word ≡ true → IsPair options name word
pair_more options choice choices name word is_name later true is e = (subst (IsName options) (sym (same_text name choice.name is)) is_name, value_plain choice word (rw is at e))
pair_more options choice choices name word is_name later false is e = later (rw is at e)

pair_of : (options : List Text) (choices : List Choice) (name word : Text) → AreNames options choices → is_choice choices name word ≡ true → IsPair options name word
pair_of options [] name word names e = absurd (true≢false (sym e))
pair_of options (choice ∷ choices) name word (is_name, names) e =
    pair_more options choice choices name word is_name (pair_of options choices name word names) (bytes_eq name choice.name) refl e

-- ---- what is given

-- the arguments that pairs give
abbrev entries : List Text → Given
entries [] = []
entries (name ∷ []) = []
entries (name ∷ word ∷ words) = (drop 2 name, word) ∷ entries words

past_more : (name : Text) (entry : Text × Text) (given more : Given) → (text_of name given ≡ None → text_of name (given ++ more) ≡ text_of name more)
    → (b : Bool) → bytes_eq entry.0 name ≡ b → text_of name (entry ∷ given) ≡ None → text_of name (entry ∷ given ++ more) ≡ text_of name more
past_more name entry given more later true is none = absurd (none-some entry.1 (sym (rw is at none)))
past_more name entry given more later false is none = rw is (later (rw is at none))

past_given : (name : Text) (given more : Given) → text_of name given ≡ None → text_of name (given ++ more) ≡ text_of name more
past_given name [] more none = refl
past_given name (entry ∷ given) more none = past_more name entry given more (past_given name given more) (bytes_eq entry.0 name) refl none

-- none of the options that the words name is given
abbrev AreNew : List Text → Given → List Text → Type 0
AreNew options given words = (name : Text) → among options name ≡ true → has_word (45 ∷ 45 ∷ name) words ≡ true → text_of name given ≡ None

new_one : (own word name : Text) → (b : Bool) → bytes_eq own name ≡ b → (own ≡ name → b ≡ false) → text_of name ((own, word) ∷ []) ≡ None
new_one own word name true is apart = absurd (true≢false (apart (same_text own name is)))
new_one own word name false is apart = rw is refl

new_more : (options : List Text) (given : Given) (name word : Text) (words : List Text) → name ≡ 45 ∷ 45 ∷ drop 2 name → has_word name words ≡ false → AreNew options given (name ∷ word ∷ words)
    → AreNew options (given ++ (drop 2 name, word) ∷ []) words
new_more options given name word words dashed once new other one_of_them has =
    past_given other given ((drop 2 name, word) ∷ []) (new other one_of_them (or_right (bytes_eq name (45 ∷ 45 ∷ other)) (bytes_eq word (45 ∷ 45 ∷ other) || has_word (45 ∷ 45 ∷ other) words)
    (or_right (bytes_eq word (45 ∷ 45 ∷ other)) (has_word (45 ∷ 45 ∷ other) words) has)))
    ∙ new_one (drop 2 name) word other (bytes_eq (drop 2 name) other) refl
    (λ same. absurd (true≢false (sym has ∙ ap (λ (n : Text). has_word (45 ∷ 45 ∷ n) words) (sym same) ∙ ap (λ (n : Text). has_word n words) (sym dashed) ∙ once)))

given_pair : (options : List Text) (given : Given) (name word : Text) (words : List Text) → IsPair options name word → text_of (drop 2 name) given ≡ None
    → given_from options [] None given (name ∷ word ∷ words) ≡ given_from options [] None (given ++ (drop 2 name, word) ∷ []) words
given_pair options given name word words ((dashed, is_named, one_of_them), is_plain_word) none = rw (is_named, one_of_them, is_plain_word, none) refl

has_first : (name : Text) (words : List Text) → has_word name (name ∷ words) ≡ true
has_first name words = rw ((bytes_eq-Decides name name).1 refl) refl

-- the grammar reads the pairs as what they give
reads_pairs : (options : List Text) (choices : List Choice) → AreNames options choices → (words : List Text) → are_pairs choices words ≡ true → (given : Given) → AreNew options given words
    → given_from options [] None given words ≡ Some (given ++ entries words)
reads_pairs options choices names [] e given new = ap Some (sym (append-nil given))
reads_pairs options choices names (name ∷ []) e given new = absurd (true≢false (sym e))
reads_pairs options choices names (name ∷ word ∷ words) e given new =
    let parts = all_parts (is_choice choices name word) (not (has_word name words)) (are_pairs choices words) e in
    let pair = pair_of options choices name word names parts.0 in
    let once : has_word name words ≡ false = not-true (has_word name words) parts.1 in
    let none : text_of (drop 2 name) given ≡ None = new (drop 2 name) pair.0.2 (ap (λ (n : Text). has_word n (name ∷ word ∷ words)) (sym pair.0.0) ∙ has_first name (word ∷ words)) in
    given_pair options given name word words pair none
    ∙ reads_pairs options choices names words parts.2 (given ++ (drop 2 name, word) ∷ []) (new_more options given name word words pair.0.0 once new)
    ∙ ap Some (append_assoc given ((drop 2 name, word) ∷ []) (entries words))

-- ---- values

module _ (options : List Text) (choices : List Choice) (names : AreNames options choices) (choice : Choice) (dashed : choice.name ≡ 45 ∷ 45 ∷ drop 2 choice.name)
    (looked_up : (word : Text) → is_choice choices choice.name word ≡ is_some (chosen choice word)) where
  abbrev read_value : List Text → Option (Option ℕ)
  read_value words = number_if choice.least choice.most (text_of (drop 2 choice.name) (entries words))

  some_value : (o : Option ℕ) → is_some o ≡ true → option_map (λ value. Some value) o ≡ Some o
  some_value None e = absurd (true≢false (sym e))
  some_value (Some value) e = refl

  -- a name is told from the option's, with its dashes and without
  told : (name : Text) → name ≡ 45 ∷ 45 ∷ drop 2 name → bytes_eq name choice.name ≡ bytes_eq (drop 2 name) (drop 2 choice.name)
  told name is = ap (λ (n : Text). bytes_eq n choice.name) is ∙ ap (bytes_eq (45 ∷ 45 ∷ drop 2 name)) dashed

  value_more : (name word : Text) (words : List Text) → name ≡ 45 ∷ 45 ∷ drop 2 name → is_choice choices name word ≡ true → read_value words ≡ Some (value_in choice words)
      → (b : Bool) → bytes_eq name choice.name ≡ b → read_value (name ∷ word ∷ words) ≡ Some (value_in choice (name ∷ word ∷ words))
  value_more name word words is chooses later true same =
      let value : is_some (chosen choice word) ≡ true = sym (looked_up word) ∙ ap (λ (n : Text). is_choice choices n word) (sym (same_text name choice.name same)) ∙ chooses in
      rw (sym (told name is) ∙ same, same) (some_value (chosen choice word) value)
  value_more name word words is chooses later false same = rw (sym (told name is) ∙ same, same) later

  values_are : (words : List Text) → are_pairs choices words ≡ true → read_value words ≡ Some (value_in choice words)
  values_are [] e = refl
  values_are (name ∷ []) e = refl
  values_are (name ∷ word ∷ words) e =
      let parts = all_parts (is_choice choices name word) (not (has_word name words)) (are_pairs choices words) e in
      value_more name word words (pair_of options choices name word names parts.0).0.0 parts.0 (values_are words parts.2) (bytes_eq name choice.name) refl

-- an option that isn't given has its default
or_default : (otherwise least most : ℕ) (text : Option Text) (value : Option ℕ) → number_if least most text ≡ Some value → number_or otherwise least most text ≡ Some (unwrap_or value otherwise)
or_default otherwise least most None value e = ap (λ (o : Option ℕ). Some (unwrap_or o otherwise)) (same_Some None value e)
or_default otherwise least most (Some text) value e = go (number_of least most text) e
  where
    go : (o : Option ℕ) → option_map (λ number. Some number) o ≡ Some value → o ≡ Some (unwrap_or value otherwise)
    go None e = absurd (none-some value e)
    go (Some number) e = ap (λ (o : Option ℕ). Some (unwrap_or o otherwise)) (same_Some (Some number) value e)

-- ---- the commands

-- what is asked for of old is asked for still
abbrev Keeps : Option Asked → Option Asked → Type 0
Keeps old new = (asked : Asked) → old ≡ Some asked → new ≡ Some asked

keeps_none : (new : Option Asked) → Keeps None new
keeps_none new asked e = absurd (none-some asked e)

-- where the old answer stands under a test
keeps_under : (b : Bool) (old : Asked) (new : Option Asked) → (b ≡ true → new ≡ Some old) → Keeps (if b then Some old else None) new
keeps_under b old new h asked e = let parts = cond_some b old asked e in h parts.0 ∙ ap Some parts.1

keeps_either : (b : Bool) (old new others more : Option Asked) → Keeps old new → Keeps others more → Keeps (if b then old else others) (if b then new else more)
keeps_either true old new others more h k = h
keeps_either false old new others more h k = k

-- a plain word's name is no option's
other_name : (options : List Text) (own name : Text) → among options own ≡ false → among options name ≡ true → bytes_eq own name ≡ false
other_name options own name not_one one_of_them = go (bytes_eq own name) refl
  where
    go : (b : Bool) → bytes_eq own name ≡ b → b ≡ false
    go true is = absurd (true≢false (sym one_of_them ∙ ap (among options) (sym (same_text own name is)) ∙ not_one))
    go false is = refl

module _ (options : List Text) (choices : List Choice) (names : AreNames options choices) where
  given_one : (own : Text) → among options own ≡ false → (base : Text) (pairs : List Text) → is_plain base ≡ true → are_pairs choices pairs ≡ true
      → given_from options (own ∷ []) None [] (base ∷ pairs) ≡ Some ((own, base) ∷ entries pairs)
  given_one own not_one base pairs first are =
      let read = reads_pairs options choices names pairs are ((own, base) ∷ []) (λ name one_of_them has. rw (other_name options own name not_one one_of_them) refl) in
      rw (plain_word base first) read

  given_two : (own second : Text) → among options own ≡ false → among options second ≡ false → bytes_eq own second ≡ false → (base other : Text) (pairs : List Text) → is_plain base ≡ true → is_plain other ≡ true
      → are_pairs choices pairs ≡ true → given_from options (own ∷ second ∷ []) None [] (base ∷ other ∷ pairs) ≡ Some ((own, base) ∷ (second, other) ∷ entries pairs)
  given_two own second not_one not_two apart base other pairs first next are =
      let read = reads_pairs options choices names pairs are ((own, base) ∷ (second, other) ∷ [])
      (λ name one_of_them has. rw (other_name options own name not_one one_of_them, other_name options second name not_two one_of_them) refl) in
      rw (plain_word base first, plain_word other next, apart) read

adapt_names : AreNames adapt_form.options adapt_choices
adapt_names = ((refl, refl, refl), ((refl, refl, refl), ((refl, refl, refl), ((refl, refl, refl), tt))))

scale_names : AreNames one_form.options scale_choices
scale_names = ((refl, refl, refl), tt)

scale_is : (pairs : List Text) → are_pairs scale_choices pairs ≡ true → number_or 1 1 1048576 (text_of (codes "scale") (entries pairs)) ≡ Some (unwrap_or (value_in scale_choice pairs) 1)
scale_is pairs are = or_default 1 1 1048576 _ _ (values_are one_form.options scale_choices scale_names scale_choice refl (λ word. refl) pairs are)

two_keeps : (asked : Text → Text → ℕ → Asked) (words : List Text) → Keeps (paired_two asked words) (option_and_then (two_of asked) (given_of two_form words))
two_keeps asked [] = keeps_none _
two_keeps asked (base ∷ []) = keeps_none _
two_keeps asked (base ∷ other ∷ pairs) = keeps_under (is_plain base && is_plain other && are_pairs scale_choices pairs) _ _ (λ e.
    let parts = all_parts (is_plain base) (is_plain other) (are_pairs scale_choices pairs) e in
    rw (given_two two_form.options scale_choices scale_names (codes "base") (codes "other") refl refl refl base other pairs parts.0 parts.1 parts.2, scale_is pairs parts.2) refl)

one_keeps : (asked : Text → ℕ → Asked) (words : List Text) → Keeps (paired_one asked words) (option_and_then (one_of asked) (given_of one_form words))
one_keeps asked [] = keeps_none _
one_keeps asked (base ∷ pairs) = keeps_under (is_plain base && are_pairs scale_choices pairs) _ _ (λ e.
    let parts = and_parts (is_plain base) (are_pairs scale_choices pairs) e in
    rw (given_one one_form.options scale_choices scale_names (codes "base") refl base pairs parts.0 parts.1, scale_is pairs parts.1) refl)

adapt_keeps : (words : List Text) → Keeps (paired_adapt words) (option_and_then adapt_of (given_of adapt_form words))
adapt_keeps [] = keeps_none _
adapt_keeps (base ∷ []) = keeps_none _
adapt_keeps (base ∷ out ∷ pairs) = keeps_under (is_plain base && is_plain out && are_pairs adapt_choices pairs) _ _ (λ e.
    let parts = all_parts (is_plain base) (is_plain out) (are_pairs adapt_choices pairs) e in
    let workers = or_default 4 1 64 _ _ (values_are adapt_form.options adapt_choices adapt_names workers_choice refl (λ word. refl) pairs parts.2) in
    let ops = values_are adapt_form.options adapt_choices adapt_names ops_choice refl (λ word. refl) pairs parts.2 in
    let turns = or_default 1000000 0 10000000 _ _ (values_are adapt_form.options adapt_choices adapt_names turns_choice refl (λ word. refl) pairs parts.2) in
    let scale = or_default 1 1 1048576 _ _ (values_are adapt_form.options adapt_choices adapt_names scale_choice refl (λ word. refl) pairs parts.2) in
    rw (given_two adapt_form.options adapt_choices adapt_names (codes "base") (codes "out") refl refl refl base out pairs parts.0 parts.1 parts.2, workers, ops, turns, scale) refl)

pub pairs_keep_their_meaning : PairsKeepTheirMeaning
pairs_keep_their_meaning [] = keeps_none _
pairs_keep_their_meaning (name ∷ words) =
    keeps_either (bytes_eq name (codes "adapt")) _ _ _ _ (adapt_keeps words)
    (keeps_either (bytes_eq name (codes "replay")) _ _ _ _ (two_keeps replay words)
    (keeps_either (bytes_eq name (codes "check")) _ _ _ _ (one_keeps check words)
    (keeps_either (bytes_eq name (codes "chunks")) _ _ _ _ (one_keeps chunks words)
    (keeps_either (bytes_eq name (codes "trace")) _ _ _ _ (two_keeps trace words) (keeps_none _)))))
