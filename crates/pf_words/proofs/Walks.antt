-- What `clap` makes of the words of a command, word by word: the arguments that the grammar gives, or a fault where it gives none.
use Rattle.std.proofs.Common.{◌≡◌, ◌∙◌, ◌+◌, ◌++◌, ℕ, Bool, true, false, refl, sym, ap, ap₂, subst, List, [], ◌∷◌, min, Option, Some, None, is_some, true≢false}
use Rattle.std.specs.Prelude.{fold, option_and_then, if◌then◌else◌}
use Rattle.std.specs.List.{list_any}
use Rattle.std.specs.Option.{option_map_or}
use Rattle.std.specs.Str.{bytes_eq}
use Rattle.std.proofs.lemmas.Slice.Eq.{bytes_eq-Decides}
use Rattle.clap.specs.Lexer.{usize_max}
use Rattle.clap.specs.Kinds.{Kinds, or_else}
use Rattle.clap.specs.Walk.{Held, Row, Rule, Text, Waiting, idle, option, Walk, value, after_step, arg_by_id, arg_by_index, arg_by_long, has_row, is_pending, long_word, pushed, settled, settled_rows, subcommand_met, subcommand_or_other, to_positional, used_by_id, walked}
use Rattle.clap.specs.Simple.{Shape, new_rule, new_shape}
use Rattle.clap.specs.Faults.{long_fault, other_fault, positional_fault, settle_fault, step_fault, stray_fault, turn_fault, use_fault, walk_fault}
use Rattle.clap.specs.declared.builder.action.ArgAction.TheVariants.{Set}
use Rattle.clap.specs.declared.builder.value_parser.ValueParser.TheVariants as vp
use Rattle.pf_words.specs.Grammar.{Given, Kind, plain, ends, named, refused, kind_of, text_of, with_text, plain_from, with_option, with_word, with_waiting, given_from, refuses, has_refused}
use Rattle.pf_words.proofs.Arguments.{rows, used_rows, has_row-rows, used-rows}
use Rattle.pf_words.proofs.OneWord.{fails, first_fails, past, grouped, and_false, or_false, IsWord, is_word}

-- an argument as it is built: one text
abbrev pub built_rule : Option Text → Option ℕ → Text → Rule
built_rule long index name = record (new_rule name) {
  long = long;
  index = index;
  action = Some Set;
  range = Some (record { start_inclusive = 1; end_inclusive = 1 });
  parser = Some vp.String;
}

abbrev pub built_plain : ℕ → Text → Rule
built_plain index name = built_rule None (Some index) name

abbrev pub built_option : Text → Rule
built_option name = built_rule (Some name) None name

-- a command as it is built
abbrev pub reader : Text → List Rule → Shape
reader name rules = record (new_shape name) { rules = rules; disable_help_flag = true; disable_help_subcommand = true; is_built = true }

-- the names that are left for plain words stand from this position on
abbrev pub HasPlain : List Rule → ℕ → List Text → Type 0
HasPlain c position [] = arg_by_index c position ≡ None
HasPlain c position (name ∷ names) = (arg_by_index c position ≡ Some (built_plain position name)) × (arg_by_id c name ≡ Some (built_plain position name))
    × HasPlain c (min (position + 1) usize_max) names

abbrev pub holding : List Row → Text → List Text → ℕ → Held
holding kept name texts skip = record { rows = kept; pending = Some (name, texts); skip = skip }

abbrev pub at : Held → Waiting → ℕ → Bool → Walk
at h waiting position is_trailing = record { held = h; waiting = waiting; position = position; is_trailing = is_trailing; stopped = None }

abbrev pub among : List Text → Text → Bool
among options name = list_any (λ option. bytes_eq option name) options

no_subcommand : (waiting : Waiting) (word : Text) → subcommand_met [] waiting word ≡ None
no_subcommand idle word = refl
no_subcommand (option id) word = refl
no_subcommand _ word = refl

use_passes : (long : Option Text) (index : Option ℕ) (name text : Text) (kept : List Row) → has_row name kept ≡ false → use_fault false (built_rule long index name) (text ∷ []) kept ≡ []
use_passes long index name text kept new = rw new refl

use_fails : (long : Option Text) (index : Option ℕ) (name text : Text) (kept : List Row) → has_row name kept ≡ true
    → fails (use_fault false (built_rule long index name) (text ∷ []) kept) ≡ true
use_fails long index name text kept old = rw old refl

module _ (n : Text) (c : List Rule) (options : List Text) (long : (name : Text) → among options name ≡ true → arg_by_long c name ≡ Some (built_option name))
    (unknown : (name : Text) → among options name ≡ false → arg_by_long c name ≡ None) (known : (name : Text) → among options name ≡ true → arg_by_id c name ≡ Some (built_option name)) where
  -- the faults from here to the end
  abbrev pub total : Walk → List Text → Kinds
  total w words = or_else (walk_fault (reader n c) [] w words) (settle_fault c false (fold (walked c []) w words).held)

  abbrev pub rows_at_end : Walk → List Text → List Row
  rows_at_end w words = settled_rows c (fold (walked c []) w words).held.pending (fold (walked c []) w words).held.rows

  total_next : (w : Walk) (word : Text) (words : List Text) → total w (word ∷ words) ≡ or_else (turn_fault (reader n c) [] w word) (total (walked c [] w word) words)
  unfolding walk_fault
  total_next w word words = grouped (turn_fault (reader n c) [] w word) (walk_fault (reader n c) [] (walked c [] w word) words) _

  total_ends : (w : Walk) → total w [] ≡ settle_fault c false w.held
  unfolding walk_fault
  total_ends w = refl

  total_fails : (w : Walk) (word : Text) (words : List Text) → fails (turn_fault (reader n c) [] w word) ≡ true → fails (total w (word ∷ words)) ≡ true
  total_fails w word words f = subst (λ k. fails k ≡ true) (sym (total_next w word words)) (first_fails _ _ f)

  total_past : (w after : Walk) (word : Text) (words : List Text) → turn_fault (reader n c) [] w word ≡ [] → walked c [] w word ≡ after → total w (word ∷ words) ≡ total after words
  total_past w after word words none is = total_next w word words ∙ past _ _ none ∙ ap (λ (v : Walk). total v words) is

  fails_past : (w after : Walk) (word : Text) (words : List Text) → turn_fault (reader n c) [] w word ≡ [] → walked c [] w word ≡ after → fails (total after words) ≡ true
      → fails (total w (word ∷ words)) ≡ true
  fails_past w after word words none is f = subst (λ k. fails k ≡ true) (sym (total_past w after word words none is)) f

  -- a walk finds what is given, or fails
  abbrev pub Agrees : Option Given → Walk → List Text → Type 0
  Agrees None w words = fails (total w words) ≡ true
  Agrees (Some given) w words = (total w words ≡ []) × (rows_at_end w words ≡ rows given)

  agrees_past : (o : Option Given) (w after : Walk) (word : Text) (words : List Text) → turn_fault (reader n c) [] w word ≡ [] → walked c [] w word ≡ after → Agrees o after words
      → Agrees o w (word ∷ words)
  agrees_past None w after word words none is f = fails_past w after word words none is f
  agrees_past (Some given) w after word words none is (t, r) = (total_past w after word words none is ∙ t, ap (λ (v : Walk). rows_at_end v words) is ∙ r)

  -- nothing waits, and the arguments so far are these
  pub record IsIdle (h : Held) (given : Given) : Type 0 where
    pub fault : settle_fault c false h ≡ []
    pub kept : settled_rows c h.pending h.rows ≡ rows given

  value_idle : (long : Option Text) (index : Option ℕ) (name text : Text) (given : Given) (skip : ℕ) → arg_by_id c name ≡ Some (built_rule long index name)
      → is_some (text_of name given) ≡ false → IsIdle (holding (rows given) name (text ∷ []) skip) (given ++ (name, text) ∷ [])
  value_idle long index name text given skip is new = record {
    fault = ap (λ o. option_map_or (λ a. use_fault false a (text ∷ []) (rows given)) o []) is ∙ use_passes long index name text (rows given) (has_row-rows name given ∙ new);
    kept = ap (λ o. used_by_id o (text ∷ []) (rows given)) is ∙ used-rows name text given new;
  }

  value_fails : (long : Option Text) (index : Option ℕ) (name text : Text) (given : Given) (skip : ℕ) → arg_by_id c name ≡ Some (built_rule long index name)
      → is_some (text_of name given) ≡ true → fails (settle_fault c false (holding (rows given) name (text ∷ []) skip)) ≡ true
  value_fails long index name text given skip is old = ap (λ o. fails (option_map_or (λ a. use_fault false a (text ∷ []) (rows given)) o [])) is
      ∙ use_fails long index name text (rows given) (has_row-rows name given ∙ old)

  wanting_fails : (long : Option Text) (index : Option ℕ) (name : Text) (kept : List Row) (skip : ℕ) → arg_by_id c name ≡ Some (built_rule long index name)
      → fails (settle_fault c false (holding kept name [] skip)) ≡ true
  wanting_fails long index name kept skip is = ap (λ o. fails (option_map_or (λ a. use_fault false a [] kept) o [])) is

  -- ---- a word goes to a positional

  stray : (h : Held) (position : ℕ) → arg_by_index c position ≡ None → fails (step_fault (reader n c) position h value) ≡ true
  stray h position none = ap (λ o. fails (option_map_or (λ a. positional_fault c false a h) o (stray_fault (reader n c)))) none

  positional_turn : (h : Held) (position index : ℕ) (name : Text) → arg_by_index c position ≡ Some (built_plain index name)
      → step_fault (reader n c) position h value ≡ settle_fault c false h
  positional_turn h position index name is = ap (λ o. option_map_or (λ a. positional_fault c false a h) o (stray_fault (reader n c))) is
      ∙ ap (λ b. if b then [] else settle_fault c false h) (and_false (is_pending (built_plain index name) h.pending))

  abbrev placed : Text → Text → ℕ → Held → Bool → Bool → Walk
  placed name word position h b is_trailing = at (pushed name word (if b then h else settled c h)) idle (min (position + 1) usize_max) is_trailing

  positional_next : (h : Held) (waiting : Waiting) (position index : ℕ) (is_trailing : Bool) (name word : Text) → arg_by_index c position ≡ Some (built_plain index name)
      → to_positional c (arg_by_index c position) word (at h waiting position is_trailing) h
      ≡ at (holding (settled_rows c h.pending h.rows) name (word ∷ []) h.skip) idle (min (position + 1) usize_max) is_trailing
  positional_next h waiting position index is_trailing name word is = ap (λ o. to_positional c o word (at h waiting position is_trailing) h) is
      ∙ ap₂ (placed name word position h) (and_false (is_pending (built_plain index name) h.pending)) (or_false is_trailing)

  -- one plain word, by what its turn is and where the walk goes on
  plain_agrees : (go_on : Given → Option Given) (w : Walk) (position index : ℕ) (is_trailing : Bool) (name word : Text) (words : List Text) (given : Given) (h : Held) → IsIdle h given
      → arg_by_id c name ≡ Some (built_plain index name) → turn_fault (reader n c) [] w word ≡ settle_fault c false h
      → walked c [] w word ≡ at (holding (settled_rows c h.pending h.rows) name (word ∷ []) h.skip) idle position is_trailing
      → (fails (settle_fault c false (holding (rows given) name (word ∷ []) h.skip)) ≡ true → fails (total (at (holding (rows given) name (word ∷ []) h.skip) idle position is_trailing) words) ≡ true)
      → (IsIdle (holding (rows given) name (word ∷ []) h.skip) (given ++ (name, word) ∷ [])
      → Agrees (go_on (given ++ (name, word) ∷ [])) (at (holding (rows given) name (word ∷ []) h.skip) idle position is_trailing) words)
      → Agrees (option_and_then go_on (with_text name word given)) w (word ∷ words)
  plain_agrees go_on w position index is_trailing name word words given h i by_id turn is doomed later = go (is_some (text_of name given)) refl
    where
      after : Walk
      after = at (holding (rows given) name (word ∷ []) h.skip) idle position is_trailing

      moves : walked c [] w word ≡ at (holding (rows given) name (word ∷ []) h.skip) idle position is_trailing
      moves = is ∙ ap (λ kept. at (holding kept name (word ∷ []) h.skip) idle position is_trailing) i.kept

      go : (b : Bool) → is_some (text_of name given) ≡ b → Agrees (option_and_then go_on (if is_some (text_of name given) then None else Some (given ++ (name, word) ∷ []))) w (word ∷ words)
      go true old = subst (λ b. Agrees (option_and_then go_on (if b then None else Some (given ++ (name, word) ∷ []))) w (word ∷ words)) (sym old)
          (fails_past w _ word words (turn ∙ i.fault) moves (doomed (value_fails None (Some index) name word given h.skip by_id old)))
      go false new = subst (λ b. Agrees (option_and_then go_on (if b then None else Some (given ++ (name, word) ∷ []))) w (word ∷ words)) (sym new)
          (agrees_past (go_on (given ++ (name, word) ∷ [])) w _ word words (turn ∙ i.fault) moves (later (value_idle None (Some index) name word given h.skip by_id new)))

  -- ---- behind `--`

  doomed_trailing : (words names : List Text) (h : Held) (waiting : Waiting) (position : ℕ) → fails (settle_fault c false h) ≡ true → HasPlain c position names
      → fails (total (at h waiting position true) words) ≡ true
  doomed_trailing [] names h waiting position f p = subst (λ k. fails k ≡ true) (sym (total_ends (at h waiting position true))) f
  doomed_trailing (word ∷ words) [] h waiting position f none = total_fails (at h waiting position true) word words (stray h position none)
  doomed_trailing (word ∷ words) (name ∷ names) h waiting position f (is, by_id, more) =
      total_fails (at h waiting position true) word words (subst (λ k. fails k ≡ true) (sym (positional_turn h position position name is)) f)

  trailing_walked : (h : Held) (waiting : Waiting) (position : ℕ) (word : Text)
      → walked c [] (at h waiting position true) word ≡ to_positional c (arg_by_index c position) word (at h waiting position true) h
  unfolding walked
  trailing_walked h waiting position word = refl

  trailing_agrees : (words names : List Text) (given : Given) (h : Held) (waiting : Waiting) (position : ℕ) → IsIdle h given → HasPlain c position names
      → Agrees (plain_from names given words) (at h waiting position true) words
  trailing_agrees [] names given h waiting position i p = (total_ends (at h waiting position true) ∙ i.fault, i.kept)
  trailing_agrees (word ∷ words) [] given h waiting position i none = total_fails (at h waiting position true) word words (stray h position none)
  trailing_agrees (word ∷ words) (name ∷ names) given h waiting position i (is, by_id, more) =
      plain_agrees (λ given. plain_from names given words) (at h waiting position true) (min (position + 1) usize_max) position true name word words given h i by_id
      (positional_turn h position position name is) (trailing_walked h waiting position word ∙ positional_next h waiting position position true name word is)
      (λ f. doomed_trailing words names (holding (rows given) name (word ∷ []) h.skip) idle (min (position + 1) usize_max) f more)
      (λ j. trailing_agrees words names (given ++ (name, word) ∷ []) (holding (rows given) name (word ∷ []) h.skip) idle (min (position + 1) usize_max) j more)

  -- ---- before `--`

  word_turn : (h : Held) (waiting : Waiting) (position : ℕ) (word : Text) → turn_fault (reader n c) [] (at h waiting position false) word
      ≡ or_else (other_fault (reader n c) None word h) (step_fault (reader n c) position (subcommand_or_other c None waiting position word h).0 (subcommand_or_other c None waiting position word h).1)
  word_turn h waiting position word = ap (λ o. or_else (other_fault (reader n c) o word h)
      (step_fault (reader n c) position (subcommand_or_other c o waiting position word h).0 (subcommand_or_other c o waiting position word h).1)) (no_subcommand waiting word)

  word_walked : (h : Held) (waiting : Waiting) (position : ℕ) (word : Text) → walked c [] (at h waiting position false) word
      ≡ after_step c word (at h waiting position false) (subcommand_or_other c None waiting position word h).0 (subcommand_or_other c None waiting position word h).1
  unfolding walked
  word_walked h waiting position word = ap (λ o. after_step c word (at h waiting position false) (subcommand_or_other c o waiting position word h).0 (subcommand_or_other c o waiting position word h).1)
      (no_subcommand waiting word)

  plain_turn : (h : Held) (position : ℕ) (word : Text) → IsWord plain word → turn_fault (reader n c) [] (at h idle position false) word ≡ step_fault (reader n c) position h value
  plain_turn h position word (dashed, no_long, no_short) = rw (dashed, no_long, no_short) refl

  plain_walked : (h : Held) (position : ℕ) (word : Text) → IsWord plain word
      → walked c [] (at h idle position false) word ≡ to_positional c (arg_by_index c position) word (at h idle position false) h
  plain_walked h position word (dashed, no_long, no_short) = rw (word_walked h idle position word) (rw (dashed, no_long, no_short) refl)

  ends_turn : (h : Held) (waiting : Waiting) (position : ℕ) (word : Text) → IsWord ends word → turn_fault (reader n c) [] (at h waiting position false) word ≡ []
  ends_turn h waiting position word dashed = rw (word_turn h waiting position word) (rw dashed refl)

  ends_walked : (h : Held) (waiting : Waiting) (position : ℕ) (word : Text) → IsWord ends word → walked c [] (at h waiting position false) word ≡ at h waiting position true
  ends_walked h waiting position word dashed = rw (word_walked h waiting position word) (rw dashed refl)

  named_turn : (h : Held) (waiting : Waiting) (position : ℕ) (name : Text) (given_value : Option Text) (word : Text) → IsWord (named name given_value) word
      → turn_fault (reader n c) [] (at h waiting position false) word
      ≡ or_else (long_fault c false (arg_by_long c name) given_value h) (step_fault (reader n c) position (long_word c waiting word name given_value h).0 (long_word c waiting word name given_value h).1)
  named_turn h waiting position name given_value word (dashed, is_long) = rw (word_turn h waiting position word) (rw (dashed, is_long) refl)

  named_walked : (h : Held) (waiting : Waiting) (position : ℕ) (name : Text) (given_value : Option Text) (word : Text) → IsWord (named name given_value) word
      → walked c [] (at h waiting position false) word ≡ after_step c word (at h waiting position false) (long_word c waiting word name given_value h).0 (long_word c waiting word name given_value h).1
  named_walked h waiting position name given_value word (dashed, is_long) = rw (word_walked h waiting position word) (rw (dashed, is_long) refl)

  unknown_fails : (h : Held) (name : Text) (given_value : Option Text) → among options name ≡ false → fails (long_fault c false (arg_by_long c name) given_value h) ≡ true
  unknown_fails h name given_value not_one = ap (λ o. fails (long_fault c false o given_value h)) (unknown name not_one)

  -- an option settles what was pending, and so shows its fault
  option_fails : (h : Held) (name : Text) (given_value : Option Text) → fails (settle_fault c false h) ≡ true → among options name ≡ true
      → fails (long_fault c false (arg_by_long c name) given_value h) ≡ true
  option_fails h name None f one_of_them = ap (λ o. fails (long_fault c false o None h)) (long name one_of_them) ∙ f
  option_fails h name (Some text) f one_of_them = ap (λ o. fails (long_fault c false o (Some text) h)) (long name one_of_them) ∙ first_fails _ _ f

  named_fails : (h : Held) (name : Text) (given_value : Option Text) → fails (settle_fault c false h) ≡ true → (b : Bool) → among options name ≡ b
      → fails (long_fault c false (arg_by_long c name) given_value h) ≡ true
  named_fails h name given_value f true one_of_them = option_fails h name given_value f one_of_them
  named_fails h name given_value f false not_one = unknown_fails h name given_value not_one

  turn_fails : (h : Held) (waiting : Waiting) (position : ℕ) (name : Text) (given_value : Option Text) (word : Text) → IsWord (named name given_value) word
      → fails (long_fault c false (arg_by_long c name) given_value h) ≡ true → fails (turn_fault (reader n c) [] (at h waiting position false) word) ≡ true
  turn_fails h waiting position name given_value word is f = subst (λ k. fails k ≡ true) (sym (named_turn h waiting position name given_value word is)) (first_fails _ _ f)

  doomed_word : (k : Kind) (word : Text) (words names : List Text) (h : Held) (position : ℕ) → fails (settle_fault c false h) ≡ true → HasPlain c position names → IsWord k word
      → refuses k (has_refused words) ≡ false → fails (total (at h idle position false) (word ∷ words)) ≡ true
  doomed_word plain word words [] h position f none is clear =
      total_fails (at h idle position false) word words (subst (λ k. fails k ≡ true) (sym (plain_turn h position word is)) (stray h position none))
  doomed_word plain word words (name ∷ names) h position f (by_index, by_id, more) is clear = total_fails (at h idle position false) word words
      (subst (λ k. fails k ≡ true) (sym (plain_turn h position word is ∙ positional_turn h position position name by_index)) f)
  doomed_word ends word words names h position f p is clear = fails_past (at h idle position false) (at h idle position true) word words (ends_turn h idle position word is)
      (ends_walked h idle position word is) (doomed_trailing words names h idle position f p)
  doomed_word (named name given_value) word words names h position f p is clear = total_fails (at h idle position false) word words
      (turn_fails h idle position name given_value word is (named_fails h name given_value f (among options name) refl))
  doomed_word refused word words names h position f p is clear = absurd (true≢false clear)

  doomed_idle : (words names : List Text) (h : Held) (position : ℕ) → fails (settle_fault c false h) ≡ true → HasPlain c position names → has_refused words ≡ false
      → fails (total (at h idle position false) words) ≡ true
  doomed_idle [] names h position f p clear = subst (λ k. fails k ≡ true) (sym (total_ends (at h idle position false))) f
  doomed_idle (word ∷ words) names h position f p clear = doomed_word (kind_of word) word words names h position f p (is_word word) clear

  -- the option of a name may wait for its value
  abbrev pub IsAt : Option Text → Held → Given → Type 0
  IsAt None h given = IsIdle h given
  IsAt (Some name) h given = (h ≡ holding (rows given) name [] h.skip) × (among options name ≡ true)

  abbrev pub waiting_of : Option Text → Waiting
  waiting_of None = idle
  waiting_of (Some name) = option name

  abbrev pub Later : List Text → Type 0
  Later words = (waiting : Option Text) (names : List Text) (given : Given) (h : Held) (position : ℕ) → IsAt waiting h given → HasPlain c position names → has_refused words ≡ false
      → Agrees (given_from options names waiting given words) (at h (waiting_of waiting) position false) words

  -- ---- an option

  opens_turn : (h : Held) (position : ℕ) (name word : Text) → IsWord (named name None) word → among options name ≡ true → settle_fault c false h ≡ []
      → turn_fault (reader n c) [] (at h idle position false) word ≡ []
  opens_turn h position name word is one_of_them none = named_turn h idle position name None word is ∙ rw (long name one_of_them) (past _ _ none)

  opens_walked : (h : Held) (position : ℕ) (name word : Text) → IsWord (named name None) word → among options name ≡ true
      → walked c [] (at h idle position false) word ≡ at (holding (settled_rows c h.pending h.rows) name [] h.skip) (option name) position false
  opens_walked h position name word is one_of_them = named_walked h idle position name None word is ∙ rw (long name one_of_them) refl

  abbrev with_rows : Held → List Row → Held
  with_rows h kept = record { rows = kept; pending = None; skip = h.skip }

  gives_fault : (h : Held) (name text : Text) → among options name ≡ true
      → long_fault c false (arg_by_long c name) (Some text) h ≡ or_else (settle_fault c false h) (use_fault false (built_option name) (text ∷ []) (settled_rows c h.pending h.rows))
  gives_fault h name text one_of_them = ap (λ o. long_fault c false o (Some text) h) (long name one_of_them)

  gives_turn : (h : Held) (position : ℕ) (name text word : Text) → IsWord (named name (Some text)) word → among options name ≡ true
      → or_else (settle_fault c false h) (use_fault false (built_option name) (text ∷ []) (settled_rows c h.pending h.rows)) ≡ [] → turn_fault (reader n c) [] (at h idle position false) word ≡ []
  gives_turn h position name text word is one_of_them none = named_turn h idle position name (Some text) word is ∙ rw (long name one_of_them) (past _ _ none)

  gives_walked : (h : Held) (position : ℕ) (name text word : Text) → IsWord (named name (Some text)) word → among options name ≡ true
      → walked c [] (at h idle position false) word ≡ at (with_rows h (used_rows name text (settled_rows c h.pending h.rows))) idle position false
  gives_walked h position name text word is one_of_them = named_walked h idle position name (Some text) word is ∙ rw (long name one_of_them) refl

  gives_agrees : (text : Text) (name word : Text) (words names : List Text) (given : Given) (h : Held) (position : ℕ) → IsIdle h given → HasPlain c position names
      → IsWord (named name (Some text)) word → has_refused words ≡ false → Later words → among options name ≡ true
      → (b : Bool) → is_some (text_of name given) ≡ b
      → Agrees (option_and_then (λ more. given_from options names None more words) (if b then None else Some (given ++ (name, text) ∷ []))) (at h idle position false) (word ∷ words)
  gives_agrees text name word words names given h position i p is clear later one_of_them true old =
      let has : has_row name (settled_rows c h.pending h.rows) ≡ true = ap (has_row name) i.kept ∙ has_row-rows name given ∙ old in
      let fault : fails (long_fault c false (arg_by_long c name) (Some text) h) ≡ true = ap fails (gives_fault h name text one_of_them ∙ past _ _ i.fault)
      ∙ use_fails (Some name) None name text (settled_rows c h.pending h.rows) has in
      total_fails (at h idle position false) word words (turn_fails h idle position name (Some text) word is fault)
  gives_agrees text name word words names given h position i p is clear later one_of_them false new =
      let has : has_row name (settled_rows c h.pending h.rows) ≡ false = ap (has_row name) i.kept ∙ has_row-rows name given ∙ new in
      let none : or_else (settle_fault c false h) (use_fault false (built_option name) (text ∷ []) (settled_rows c h.pending h.rows)) ≡ [] =
      past _ _ i.fault ∙ use_passes (Some name) None name text (settled_rows c h.pending h.rows) has in
      let kept : used_rows name text (settled_rows c h.pending h.rows) ≡ rows (given ++ (name, text) ∷ []) = ap (used_rows name text) i.kept ∙ used-rows name text given new in
      agrees_past (given_from options names None (given ++ (name, text) ∷ []) words) (at h idle position false) (at (with_rows h (used_rows name text (settled_rows c h.pending h.rows))) idle position false) word words
      (gives_turn h position name text word is one_of_them none) (gives_walked h position name text word is one_of_them)
      (later None names (given ++ (name, text) ∷ []) (with_rows h (used_rows name text (settled_rows c h.pending h.rows))) position (record { fault = refl; kept = kept }) p clear)

  named_agrees : (given_value : Option Text) (name word : Text) (words names : List Text) (given : Given) (h : Held) (position : ℕ) → IsIdle h given → HasPlain c position names
      → IsWord (named name given_value) word → has_refused words ≡ false → Later words → (b : Bool) → among options name ≡ b
      → Agrees (with_option b name given_value given (λ waiting more. given_from options names waiting more words)) (at h idle position false) (word ∷ words)
  named_agrees given_value name word words names given h position i p is clear later false not_one =
      total_fails (at h idle position false) word words (turn_fails h idle position name given_value word is (unknown_fails h name given_value not_one))
  named_agrees None name word words names given h position i p is clear later true one_of_them =
      agrees_past (given_from options names (Some name) given words) (at h idle position false) (at (holding (settled_rows c h.pending h.rows) name [] h.skip) (option name) position false) word words
      (opens_turn h position name word is one_of_them i.fault) (opens_walked h position name word is one_of_them)
      (later (Some name) names given (holding (settled_rows c h.pending h.rows) name [] h.skip) position (ap (λ kept. holding kept name [] h.skip) i.kept, one_of_them) p clear)
  named_agrees (Some text) name word words names given h position i p is clear later true one_of_them =
      gives_agrees text name word words names given h position i p is clear later one_of_them (is_some (text_of name given)) refl

  -- ---- the walk

  idle_agrees : (k : Kind) (word : Text) (words names : List Text) (given : Given) (h : Held) (position : ℕ) → IsIdle h given → HasPlain c position names → IsWord k word
      → refuses k (has_refused words) ≡ false → Later words
      → Agrees (with_word k options names word given (λ left waiting more. given_from options left waiting more words) (plain_from names given words)) (at h idle position false) (word ∷ words)
  idle_agrees plain word words [] given h position i none is clear later =
      total_fails (at h idle position false) word words (subst (λ k. fails k ≡ true) (sym (plain_turn h position word is)) (stray h position none))
  idle_agrees plain word words (name ∷ names) given h position i (by_index, by_id, more) is clear later =
      plain_agrees (λ given. given_from options names None given words) (at h idle position false) (min (position + 1) usize_max) position false name word words given h i by_id
      (plain_turn h position word is ∙ positional_turn h position position name by_index) (plain_walked h position word is ∙ positional_next h idle position position false name word by_index)
      (λ f. doomed_idle words names (holding (rows given) name (word ∷ []) h.skip) (min (position + 1) usize_max) f more clear)
      (λ j. later None names (given ++ (name, word) ∷ []) (holding (rows given) name (word ∷ []) h.skip) (min (position + 1) usize_max) j more clear)
  idle_agrees ends word words names given h position i p is clear later = agrees_past (plain_from names given words) (at h idle position false) (at h idle position true) word words
      (ends_turn h idle position word is) (ends_walked h idle position word is) (trailing_agrees words names given h idle position i p)
  idle_agrees (named name given_value) word words names given h position i p is clear later =
      named_agrees given_value name word words names given h position i p is clear later (among options name) refl
  idle_agrees refused word words names given h position i p is clear later = absurd (true≢false clear)

  same_bytes : (name : Text) → bytes_eq name name ≡ true
  same_bytes name = (bytes_eq-Decides name name).1 refl

  value_turn : (kept : List Row) (skip : ℕ) (position : ℕ) (name word : Text) → IsWord plain word → turn_fault (reader n c) [] (at (holding kept name [] skip) (option name) position false) word ≡ []
  value_turn kept skip position name word (dashed, no_long, no_short) = rw (dashed, no_long, no_short) refl

  value_walked : (kept : List Row) (skip : ℕ) (position : ℕ) (name word : Text) → IsWord plain word → among options name ≡ true
      → walked c [] (at (holding kept name [] skip) (option name) position false) word ≡ at (holding kept name (word ∷ []) skip) idle position false
  value_walked kept skip position name word (dashed, no_long, no_short) one_of_them =
      word_walked (holding kept name [] skip) (option name) position word ∙ rw (dashed, no_long, no_short, known name one_of_them, same_bytes name) refl

  value_agrees : (name word : Text) (words names : List Text) (given : Given) (skip position : ℕ) → HasPlain c position names → IsWord plain word → has_refused words ≡ false → Later words
      → among options name ≡ true → (b : Bool) → is_some (text_of name given) ≡ b
      → Agrees (option_and_then (λ more. given_from options names None more words) (if b then None else Some (given ++ (name, word) ∷ [])))
      (at (holding (rows given) name [] skip) (option name) position false) (word ∷ words)
  value_agrees name word words names given skip position p is clear later one_of_them true old =
      fails_past (at (holding (rows given) name [] skip) (option name) position false) (at (holding (rows given) name (word ∷ []) skip) idle position false) word words
      (value_turn (rows given) skip position name word is) (value_walked (rows given) skip position name word is one_of_them)
      (doomed_idle words names (holding (rows given) name (word ∷ []) skip) position (value_fails (Some name) None name word given skip (known name one_of_them) old) p clear)
  value_agrees name word words names given skip position p is clear later one_of_them false new =
      agrees_past (given_from options names None (given ++ (name, word) ∷ []) words) (at (holding (rows given) name [] skip) (option name) position false)
      (at (holding (rows given) name (word ∷ []) skip) idle position false) word words
      (value_turn (rows given) skip position name word is) (value_walked (rows given) skip position name word is one_of_them)
      (later None names (given ++ (name, word) ∷ []) (holding (rows given) name (word ∷ []) skip) position (value_idle (Some name) None name word given skip (known name one_of_them) new) p clear)

  waiting_agrees : (k : Kind) (word : Text) (words : List Text) (name : Text) (names : List Text) (given : Given) (skip position : ℕ) → HasPlain c position names → IsWord k word
      → refuses k (has_refused words) ≡ false → Later words → among options name ≡ true
      → Agrees (with_waiting k name word given (λ more. given_from options names None more words)) (at (holding (rows given) name [] skip) (option name) position false) (word ∷ words)
  waiting_agrees plain word words name names given skip position p is clear later one_of_them =
      value_agrees name word words names given skip position p is clear later one_of_them (is_some (text_of name given)) refl
  waiting_agrees ends word words name names given skip position p is clear later one_of_them =
      fails_past (at (holding (rows given) name [] skip) (option name) position false) (at (holding (rows given) name [] skip) (option name) position true) word words
      (ends_turn (holding (rows given) name [] skip) (option name) position word is) (ends_walked (holding (rows given) name [] skip) (option name) position word is)
      (doomed_trailing words names (holding (rows given) name [] skip) (option name) position (wanting_fails (Some name) None name (rows given) skip (known name one_of_them)) p)
  waiting_agrees (named other given_value) word words name names given skip position p is clear later one_of_them =
      total_fails (at (holding (rows given) name [] skip) (option name) position false) word words (turn_fails (holding (rows given) name [] skip) (option name) position other given_value word is
      (named_fails (holding (rows given) name [] skip) other given_value (wanting_fails (Some name) None name (rows given) skip (known name one_of_them)) (among options other) refl))
  waiting_agrees refused word words name names given skip position p is clear later one_of_them = absurd (true≢false clear)

  pub agrees : (words : List Text) → Later words
  agrees [] None names given h position i p clear = (total_ends (at h idle position false) ∙ i.fault, i.kept)
  agrees [] (Some name) names given h position (is, one_of_them) p clear = subst (λ k. fails k ≡ true) (sym (total_ends (at h (option name) position false)))
      (subst (λ held. fails (settle_fault c false held) ≡ true) (sym is) (wanting_fails (Some name) None name (rows given) h.skip (known name one_of_them)))
  agrees (word ∷ words) None names given h position i p clear = idle_agrees (kind_of word) word words names given h position i p (is_word word) clear (agrees words)
  agrees (word ∷ words) (Some name) names given h position (is, one_of_them) p clear =
      subst (λ held. Agrees (given_from options names (Some name) given (word ∷ words)) (at held (option name) position false) (word ∷ words)) (sym is)
      (waiting_agrees (kind_of word) word words name names given h.skip position p (is_word word) clear (agrees words) one_of_them)
