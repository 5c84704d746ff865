-- The forms of the commands, as `clap` builds them, and what it reads by them.
use Rattle.std.proofs.Common.{◌≡◌, ◌∙◌, ◌&&◌, ℕ, Bool, true, false, not, refl, sym, ap, ap₂, subst, inl, inr, codes, List, [], ◌∷◌, map, drop, Option, Some, None, true≢false}
use Rattle.std.specs.Prelude.{⊤, fold, option_and_then, if◌then◌else◌}
use Rattle.std.specs.List.{list_any}
use Rattle.std.specs.Str.{bytes_eq}
use Rattle.std.proofs.lemmas.Slice.Eq.{bytes_eq-Decides}
use Rattle.clap.specs.Kinds.{or_else}
use Rattle.clap.specs.Matches.{found_of}
use Rattle.clap.specs.Walk.{Row, Rule, arg_by_id, arg_by_long, first_of, has_row, nothing_held, walk_from, with_default, Walk, rows_after, walked}
use Rattle.clap.specs.Simple.{App, built, is_simple, matches_of, names_of}
use Rattle.clap.specs.Takes.{is_given}
use Rattle.clap.specs.Faults.{built_fault, check_fault, default_fault, defaults_fault, fault_of, is_simple_and_free, settle_fault, walk_fault}
use Rattle.clap.specs.declared.parser.matches.ArgMatches.{ArgMatches}
use Rattle.clap.proofs.WalkLemmas.{first_value-rows}
use Rattle.clap.proofs.FaultLemmas.{leaf_fault}
use Rattle.clap.proofs.OnLiterals.{clap_on_literals}
use Rattle.pf_words.specs.Grammar.{Text, Asked, Kind, plain, ends, named, refused, kind_of, Form, Given, with_text, with_plain, with_option, with_word, with_waiting, plain_from, given_from, given_of, refuses, has_refused, adapt_form, two_form, one_form, demo_form}
use Rattle.pf_words.specs.Clap.{form_app, Matched, Finds, Says, Reads}
use Rattle.pf_words.proofs.Arguments.{first_of-rows}
use Rattle.pf_words.proofs.OneWord.{fails, past, or_none, or_true}
use Rattle.pf_words.proofs.Walks.{built_plain, built_option, reader, HasPlain, among, total, rows_at_end, Agrees, agrees}

-- ---- a word that is refused beforehand

no_plain : (names : List Text) (word : Text) (given : Given) (next : List Text → Given → Option Given) → ((left : List Text) (more : Given) → next left more ≡ None)
    → with_plain names word given next ≡ None
no_plain [] word given next none = refl
no_plain (name ∷ names) word given next none = go (with_text name word given)
  where
    go : (o : Option Given) → option_and_then (next names) o ≡ None
    go None = refl
    go (Some more) = none names more

no_option : (b : Bool) (name : Text) (value : Option Text) (given : Given) (next : Option Text → Given → Option Given) → ((waiting : Option Text) (more : Given) → next waiting more ≡ None)
    → with_option b name value given next ≡ None
no_option false name value given next none = refl
no_option true name None given next none = none (Some name) given
no_option true name (Some text) given next none = go (with_text name text given)
  where
    go : (o : Option Given) → option_and_then (next None) o ≡ None
    go None = refl
    go (Some more) = none None more

no_value : (o : Option Given) (next : Given → Option Given) → ((more : Given) → next more ≡ None) → option_and_then next o ≡ None
no_value None next none = refl
no_value (Some more) next none = none more

no_word : (k : Kind) (options names : List Text) (word : Text) (given : Given) (next : List Text → Option Text → Given → Option Given) (rest : Option Given) (others : Bool)
    → refuses k others ≡ true → (others ≡ true → (left : List Text) (waiting : Option Text) (more : Given) → next left waiting more ≡ None)
    → with_word k options names word given next rest ≡ None
no_word plain options names word given next rest others is none = no_plain names word given (λ left more. next left None more) (λ left more. none is left None more)
no_word ends options names word given next rest others is none = absurd (true≢false (sym is))
no_word (named name value) options names word given next rest others is none = no_option (among options name) name value given (next names) (λ waiting more. none is names waiting more)
no_word refused options names word given next rest others is none = refl

no_waiting : (k : Kind) (name word : Text) (given : Given) (next : Given → Option Given) (others : Bool) → refuses k others ≡ true
    → (others ≡ true → (more : Given) → next more ≡ None) → with_waiting k name word given next ≡ None
no_waiting plain name word given next others is none = no_value (with_text name word given) next (none is)
no_waiting ends name word given next others is none = refl
no_waiting (named other value) name word given next others is none = refl
no_waiting refused name word given next others is none = refl

none_given : (options : List Text) (words : List Text) → has_refused words ≡ true → (names : List Text) (waiting : Option Text) (given : Given) → given_from options names waiting given words ≡ None
none_given options [] is names waiting given = absurd (true≢false (sym is))
none_given options (word ∷ words) is names None given =
    no_word (kind_of word) options names word given (λ left waiting more. given_from options left waiting more words) (plain_from names given words) (has_refused words) is (none_given options words)
none_given options (word ∷ words) is names (Some name) given =
    no_waiting (kind_of word) name word given (λ more. given_from options names None more words) (has_refused words) is (λ e more. none_given options words e names None more)

-- ---- arguments without defaults, none of which is required

abbrev pub AreOpen : List Rule → Type 0
AreOpen [] = ⊤
AreOpen (a ∷ c) = (a.defaults ≡ []) × (a.required ≡ false) × AreOpen c

default_none : (kept : List Row) (a : Rule) → a.defaults ≡ [] → default_fault kept a ≡ []
default_none kept a none = rw (none, or_true (has_row a.id kept)) refl

default_kept : (kept : List Row) (a : Rule) → a.defaults ≡ [] → with_default kept a ≡ kept
default_kept kept a none = rw none (go (has_row a.id kept))
  where
    go : (b : Bool) → (if b then kept else kept) ≡ kept
    go true = refl
    go false = refl

no_defaults : (c : List Rule) (kept : List Row) → AreOpen c → defaults_fault kept c ≡ []
unfolding defaults_fault
no_defaults [] kept open_rules = refl
no_defaults (a ∷ c) kept (none, given, others) = past _ _ (default_none kept a none) ∙ ap (λ (r : List Row). defaults_fault r c) (default_kept kept a none) ∙ no_defaults c kept others

all_kept : (c : List Rule) (kept : List Row) → AreOpen c → fold with_default kept c ≡ kept
all_kept [] kept open_rules = refl
all_kept (a ∷ c) kept (none, given, others) = ap (λ (r : List Row). fold with_default r c) (default_kept kept a none) ∙ all_kept c kept others

none_missing : (c : List Rule) (kept : List Row) → AreOpen c → list_any (λ a. a.required && not (is_given a.id kept)) c ≡ false
none_missing [] kept open_rules = refl
none_missing (a ∷ c) kept (none, given, others) = rw given (none_missing c kept others)

-- ---- options by their names

pub same_text : (a b : Text) → bytes_eq a b ≡ true → a ≡ b
same_text a b e = (bytes_eq-Decides a b).0 e

long_more : (option name : Text) (options : List Text) (b : Bool) → bytes_eq option name ≡ b → (among options name ≡ true → arg_by_long (map built_option options) name ≡ Some (built_option name))
    → among (option ∷ options) name ≡ true → arg_by_long (map built_option (option ∷ options)) name ≡ Some (built_option name)
long_more option name options true is later one_of_them = rw is (ap (λ (t : Text). Some (built_option t)) (same_text option name is))
long_more option name options false is later one_of_them = rw is (later (rw is at one_of_them))

by_long : (options : List Text) (name : Text) → among options name ≡ true → arg_by_long (map built_option options) name ≡ Some (built_option name)
by_long [] name one_of_them = absurd (true≢false (sym one_of_them))
by_long (option ∷ options) name one_of_them = long_more option name options (bytes_eq option name) refl (by_long options name) one_of_them

unknown_more : (option name : Text) (options : List Text) (b : Bool) → bytes_eq option name ≡ b → (among options name ≡ false → arg_by_long (map built_option options) name ≡ None)
    → among (option ∷ options) name ≡ false → arg_by_long (map built_option (option ∷ options)) name ≡ None
unknown_more option name options true is later not_one = absurd (true≢false (rw is at not_one))
unknown_more option name options false is later not_one = rw is (later (rw is at not_one))

by_no_long : (options : List Text) (name : Text) → among options name ≡ false → arg_by_long (map built_option options) name ≡ None
by_no_long [] name not_one = refl
by_no_long (option ∷ options) name not_one = unknown_more option name options (bytes_eq option name) refl (by_no_long options name) not_one

id_more : (option name : Text) (options : List Text) (b : Bool) → bytes_eq option name ≡ b → (among options name ≡ true → arg_by_id (map built_option options) name ≡ Some (built_option name))
    → among (option ∷ options) name ≡ true → arg_by_id (map built_option (option ∷ options)) name ≡ Some (built_option name)
id_more option name options true is later one_of_them = rw is (ap (λ (t : Text). Some (built_option t)) (same_text option name is))
id_more option name options false is later one_of_them = rw is (later (rw is at one_of_them))

by_id : (options : List Text) (name : Text) → among options name ≡ true → arg_by_id (map built_option options) name ≡ Some (built_option name)
by_id [] name one_of_them = absurd (true≢false (sym one_of_them))
by_id (option ∷ options) name one_of_them = id_more option name options (bytes_eq option name) refl (by_id options name) one_of_them

-- the name of a plain word is no option's
other_id : (options : List Text) (own name : Text) (c : List Rule) (index : ℕ) → among options own ≡ false → among options name ≡ true → arg_by_id (built_plain index own ∷ c) name ≡ arg_by_id c name
other_id options own name c index not_one one_of_them = go (bytes_eq own name) refl
  where
    go : (b : Bool) → bytes_eq own name ≡ b → arg_by_id (built_plain index own ∷ c) name ≡ arg_by_id c name
    go true is = absurd (true≢false (sym one_of_them ∙ ap (among options) (sym (same_text own name is)) ∙ not_one))
    go false is = rw is refl

-- ---- what a command reads

module _ (n : Text) (form : Form) (c : List Rule) (is_built : built (form_app n form) ≡ record { top = reader n c; subs = [] }) (simple : is_simple_and_free (form_app n form) ≡ true)
    (is_simple_app : is_simple (form_app n form) ≡ true) (open_rules : AreOpen c) (has_plain : HasPlain c 1 form.plain)
    (long : (name : Text) → among form.options name ≡ true → arg_by_long c name ≡ Some (built_option name)) (unknown : (name : Text) → among form.options name ≡ false → arg_by_long c name ≡ None)
    (known : (name : Text) → among form.options name ≡ true → arg_by_id c name ≡ Some (built_option name)) where
  abbrev begin : Walk
  begin = walk_from nothing_held

  check_none : (kept : List Row) → check_fault (reader n c) kept false ≡ []
  check_none kept = rw (none_missing c kept open_rules) refl

  fault_is : (words : List Text) → fault_of (form_app n form) words ≡ total n c form.options long unknown known begin (drop 1 words)
  unfolding walk_fault walked
  fault_is words = ap (λ (a : App). built_fault a nothing_held (drop 1 words)) is_built ∙ leaf_fault (record { top = reader n c; subs = [] }) nothing_held (drop 1 words) refl
      ∙ ap (or_else (walk_fault (reader n c) [] begin (drop 1 words)))
      (ap₂ (λ d e. or_else (settle_fault c false (fold (walked c []) begin (drop 1 words)).held) (or_else d e)) (no_defaults c _ open_rules) (check_none _) ∙ or_none _)

  matches_is : (words : List Text) → matches_of (form_app n form) words ≡ rows_at_end n c form.options long unknown known begin (drop 1 words)
  matches_is words = ap (λ (a : App). rows_after a.top.rules (names_of a) (drop 1 words)) is_built ∙ all_kept c _ open_rules

  given_is : (words : List Text) → has_refused (drop 1 words) ≡ false → Agrees n c form.options long unknown known (given_of form (drop 1 words)) begin (drop 1 words)
  given_is words clear = agrees n c form.options long unknown known (drop 1 words) None form.plain [] nothing_held 1 (record { fault = refl; kept = refl }) has_plain clear

  read_by : (o : Option Given) (words : List Text) (found : Option ArgMatches) → Agrees n c form.options long unknown known o begin (drop 1 words) → Matched (form_app n form) words found → Reads o found
  read_by None words None f h = tt
  read_by None words (Some matches) f h = true≢false (sym f ∙ ap fails (sym (fault_is words) ∙ h.0 simple))
  read_by (Some given) words None f h = h simple (fault_is words ∙ f.0)
  read_by (Some given) words (Some matches) f h = λ name. first_value-rows (found_of matches) name ∙ ap (first_of name) ((h.1 is_simple_app).0 ∙ matches_is words ∙ f.1) ∙ first_of-rows name given

  reads_if : (words : List Text) (found : Option ArgMatches) → Finds (form_app n form) words found → Reads (given_of form (drop 1 words)) found
  reads_if words found (inl (is, early)) =
      subst (Reads (given_of form (drop 1 words))) (sym is) (subst (λ o. Reads o None) (sym (none_given form.options (drop 1 words) early form.plain None [])) tt)
  reads_if words found (inr (clear, h)) = read_by (given_of form (drop 1 words)) words found (given_is words clear) h

  pub reads : (app : App) (words : List Text) (found : Option ArgMatches) → app ≡ form_app n form → Finds app words found → Reads (given_of form (drop 1 words)) found
  reads app words found is h = reads_if words found (subst (λ a. Finds a words found) is h)

-- ---- the forms

abbrev adapt_rules : List Rule
adapt_rules = built_plain 1 (codes "base") ∷ built_plain 2 (codes "out") ∷ map built_option adapt_form.options

abbrev two_rules : List Rule
two_rules = built_plain 1 (codes "base") ∷ built_plain 2 (codes "other") ∷ map built_option two_form.options

abbrev one_rules : List Rule
one_rules = built_plain 1 (codes "base") ∷ map built_option one_form.options

abbrev demo_rules : List Rule
demo_rules = built_plain 1 (codes "cells") ∷ []

pub adapt_reads : (n : Text) (app : App) (words : List Text) (found : Option ArgMatches) → app ≡ form_app n adapt_form → Finds app words found → Reads (given_of adapt_form (drop 1 words)) found
unfolding clap_on_literals
adapt_reads n = reads n adapt_form adapt_rules refl refl refl (refl, refl, (refl, refl, (refl, refl, (refl, refl, (refl, refl, (refl, refl, tt)))))) (refl, refl, (refl, refl, refl))
    (λ name. by_long adapt_form.options name) (λ name. by_no_long adapt_form.options name)
    (λ name one_of_them. other_id adapt_form.options (codes "base") name (built_plain 2 (codes "out") ∷ map built_option adapt_form.options) 1 refl one_of_them ∙ other_id adapt_form.options (codes "out") name (map built_option adapt_form.options) 2 refl one_of_them ∙ by_id adapt_form.options name one_of_them)

pub two_reads : (n : Text) (app : App) (words : List Text) (found : Option ArgMatches) → app ≡ form_app n two_form → Finds app words found → Reads (given_of two_form (drop 1 words)) found
unfolding clap_on_literals
two_reads n = reads n two_form two_rules refl refl refl (refl, refl, (refl, refl, (refl, refl, tt))) (refl, refl, (refl, refl, refl))
    (λ name. by_long two_form.options name) (λ name. by_no_long two_form.options name)
    (λ name one_of_them. other_id two_form.options (codes "base") name (built_plain 2 (codes "other") ∷ map built_option two_form.options) 1 refl one_of_them ∙ other_id two_form.options (codes "other") name (map built_option two_form.options) 2 refl one_of_them ∙ by_id two_form.options name one_of_them)

pub one_reads : (n : Text) (app : App) (words : List Text) (found : Option ArgMatches) → app ≡ form_app n one_form → Finds app words found → Reads (given_of one_form (drop 1 words)) found
unfolding clap_on_literals
one_reads n = reads n one_form one_rules refl refl refl (refl, refl, (refl, refl, tt)) (refl, refl, refl)
    (λ name. by_long one_form.options name) (λ name. by_no_long one_form.options name)
    (λ name one_of_them. other_id one_form.options (codes "base") name (map built_option one_form.options) 1 refl one_of_them ∙ by_id one_form.options name one_of_them)

pub demo_reads : (n : Text) (app : App) (words : List Text) (found : Option ArgMatches) → app ≡ form_app n demo_form → Finds app words found → Reads (given_of demo_form (drop 1 words)) found
unfolding clap_on_literals
demo_reads n = reads n demo_form demo_rules refl refl refl (refl, refl, tt) (refl, refl, refl)
    (λ name. by_long demo_form.options name) (λ name. by_no_long demo_form.options name)
    (λ name one_of_them. absurd (true≢false (sym one_of_them)))

-- a command that asks by its arguments, where there are matches
pub asked_by : (o : Option Given) (matches : ArgMatches) (ask : Given → Option Asked) (asked : Option Asked) → Reads o (Some matches) → ((given : Given) → Says given matches → asked ≡ ask given)
    → asked ≡ option_and_then ask o
asked_by None matches ask asked reads h = absurd reads
asked_by (Some given) matches ask asked reads h = h given reads
