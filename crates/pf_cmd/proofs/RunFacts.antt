-- What the status of a run shows.
use Rattle.std.proofs.Common.{option_map, ◌≡◌, ◌≢◌, ◌<◌, ℕ, List, Option, refl, sym, ◌∙◌, ap, subst, Some, None, Result, Ok, Err, true, arith, ◌⊎◌, inl, inr}
use Rattle.pf_shelf.specs.Count.{Rose}
use Rattle.pf_shelf.specs.Files.{Tells, held, IsAsBefore}
use Rattle.pf_shelf.specs.Seen.{Seen, Heard}
use Rattle.pf_shelf.specs.Sink.{extended}
use Rattle.pf_say.specs.declared.stop.Trouble.TheVariants.{Missing, Unread, Unwritten, Memory}
use Rattle.pf_say.specs.declared.stop.Stop.{Stop}
use Rattle.pf_say.specs.declared.stop.Stop.TheVariants.{Input, Limit, Operation, Device}
use Rattle.pf_say.specs.Stop.{status_of, line_of}
use Rattle.pf_words.specs.Grammar.{command_of}
use Rattle.pf_cmd.specs.Words.{command_for, command_in}
use Rattle.pf_cmd.specs.Input.{files_in}
use Rattle.pf_cmd.specs.Causes.{is_unread, is_missing}
use Rattle.pf_cmd.specs.Commands.{Command, Input as Works, input_in}
use Rattle.pf_cmd.specs.Ends.{StopsReading, Stops}
use Rattle.pf_cmd.specs.Runs.{words_text, IsSaid, IsStatus, Due, refused, forgotten, done, stopped, Runs, IsPerformed, IsRefusal, IsUnread, IsMissed, IsUnfinished, unsaid, unwritten, AllowsRefusal, IsFaultless}

some-same : (a b : Command) → (let x : Option Command = Some a in x ≡ Some b) → a ≡ b
some-same a b e = cc

none-some : {A : Type 0} (a : Command) (o : Option Command) → o ≡ None → o ≡ Some a → A
none-some a o n s = absurd (let k = sym n ∙ s in cc)

-- words that are in no form ask for no command
unasked : (words : List (List ℕ)) → command_of words ≡ None → command_in words ≡ None
unasked words e = ap (option_map command_for) e

err-same : {A : Type 0} (r : Result A Stop) (a b : Stop) → r ≡ Err a → r ≡ Err b → a ≡ b
err-same r a b p q = (let k = sym p ∙ q in cc)

ok-err : {A B : Type 0} (r : Result A Stop) (x : A) (s : Stop) → r ≡ Ok x → r ≡ Err s → B
ok-err r x s p q = absurd (let k = sym p ∙ q in cc)

-- no reason to stop has status 0 or 2
status-kinds : (stop : Stop) → (status_of stop ≡ 0 → ⊥) × (status_of stop ≡ 2 → ⊥)
status-kinds (Device (Unread place)) = (λ e. omega arith, λ e. omega arith)
status-kinds (Device (Unwritten place)) = (λ e. omega arith, λ e. omega arith)
status-kinds (Device Memory) = (λ e. omega arith, λ e. omega arith)
status-kinds (Device (Missing place)) = (λ e. omega arith, λ e. omega arith)
status-kinds (Input place fault) = (λ e. omega arith, λ e. omega arith)
status-kinds (Limit count) = (λ e. omega arith, λ e. omega arith)
status-kinds (Operation ticket why) = (λ e. omega arith, λ e. omega arith)

unread-three : (stop : Stop) → is_unread stop ≡ true → status_of stop ≡ 3
unread-three (Device (Unread place)) e = refl
unread-three (Device (Unwritten place)) e = absurd (let k = e in cc)
unread-three (Device Memory) e = absurd (let k = e in cc)
unread-three (Device (Missing place)) e = absurd (let k = e in cc)
unread-three (Input place fault) e = absurd (let k = e in cc)
unread-three (Limit count) e = absurd (let k = e in cc)
unread-three (Operation ticket why) e = absurd (let k = e in cc)

missing-seven : (stop : Stop) → is_missing stop ≡ true → status_of stop ≡ 7
missing-seven (Device (Missing place)) e = refl
missing-seven (Device (Unread place)) e = absurd (let k = e in cc)
missing-seven (Device (Unwritten place)) e = absurd (let k = e in cc)
missing-seven (Device Memory) e = absurd (let k = e in cc)
missing-seven (Input place fault) e = absurd (let k = e in cc)
missing-seven (Limit count) e = absurd (let k = e in cc)
missing-seven (Operation ticket why) e = absurd (let k = e in cc)

none-of : {A : Type 0} (n : ℕ) → (n ≡ 1 → ⊥) → (n ≡ 6 → ⊥) → (n ≡ 7 → ⊥) → (n ≡ 1) ⊎ ((n ≡ 6) ⊎ (n ≡ 7)) → A
none-of n a b c (inl e) = absurd (a e)
none-of n a b c (inr (inl e)) = absurd (b e)
none-of n a b c (inr (inr e)) = absurd (c e)

-- a status that is 1, 6 or 7 isn't 4
not-four : (r : ℕ) → (r ≡ 1) ⊎ ((r ≡ 6) ⊎ (r ≡ 7)) → r ≢ 4
not-four r e f = none-of r (λ x. omega arith) (λ x. omega arith) (λ x. omega arith) e

-- where no read failed, the reason is the refusal of the files, or want of memory
reading-given : (command : Command) (old new : Seen) (stop : Stop) → StopsReading command old new stop → Tells old.told → (Rose old.read_faults new.read_faults → ⊥) → (input_in command (files_in old command.stems) ≡ Err stop) ⊎ (status_of stop ≡ 5)
reading-given command old new (Device (Unread place)) h t quiet = absurd (quiet h.explained.cause.1)
reading-given command old new (Device (Unwritten place)) h t quiet = absurd h.explained.cause
reading-given command old new (Device Memory) h t quiet = inr refl
reading-given command old new (Device (Missing place)) h t quiet = inl (h.explained.cause.2 t)
reading-given command old new (Input place fault) h t quiet = inl (h.explained.cause t)
reading-given command old new (Limit count) h t quiet = inl (h.explained.cause t)
reading-given command old new (Operation ticket why) h t quiet = inl (h.explained.cause t)

-- a reason with status 1, 6 or 7 is the refusal of the files
reading-refusal : (command : Command) (old new : Seen) (stop : Stop) → StopsReading command old new stop → Tells old.told → (status_of stop ≡ 1) ⊎ ((status_of stop ≡ 6) ⊎ (status_of stop ≡ 7)) → input_in command (files_in old command.stems) ≡ Err stop
reading-refusal command old new (Device (Unread place)) h t e = none-of 3 (λ x. omega arith) (λ x. omega arith) (λ x. omega arith) e
reading-refusal command old new (Device (Unwritten place)) h t e = absurd h.explained.cause
reading-refusal command old new (Device Memory) h t e = none-of 5 (λ x. omega arith) (λ x. omega arith) (λ x. omega arith) e
reading-refusal command old new (Device (Missing place)) h t e = h.explained.cause.2 t
reading-refusal command old new (Input place fault) h t e = h.explained.cause t
reading-refusal command old new (Limit count) h t e = h.explained.cause t
reading-refusal command old new (Operation ticket why) h t e = h.explained.cause t

-- what stops before it writes isn't a write
reading-not-four : (command : Command) (old new : Seen) (stop : Stop) → StopsReading command old new stop → status_of stop ≡ 4 → ⊥
reading-not-four command old new (Device (Unread place)) h e = omega arith
reading-not-four command old new (Device (Unwritten place)) h e = h.explained.cause
reading-not-four command old new (Device Memory) h e = omega arith
reading-not-four command old new (Device (Missing place)) h e = omega arith
reading-not-four command old new (Input place fault) h e = omega arith
reading-not-four command old new (Limit count) h e = omega arith
reading-not-four command old new (Operation ticket why) h e = omega arith

module _ (words : List (List ℕ)) (old new : Seen) (silent heard : Heard) (r : ℕ) where
  -- a status that isn't 4 is the one that goes with the text
  said-at : (status : ℕ) (text : List ℕ) → IsSaid status text silent heard r → r ≢ 4 → r ≡ status
  said-at status text h ne = elim h [ inl a ↦ a.0 | inr b ↦ absurd (ne b.0) ]

  -- the text was said where the status isn't 4
  said-whole : (status : ℕ) (text : List ℕ) → IsSaid status text silent heard r → r ≢ 4 → heard.told ≡ extended silent.told text
  said-whole status text h ne = elim h [ inl a ↦ a.1 | inr b ↦ absurd (ne b.0) ]

  -- the status is that one, or the sink failed
  said-status : (status n : ℕ) (text : List ℕ) → IsSaid status text silent heard r → status ≡ n → IsStatus n silent heard r
  said-status status n text h e = elim h [ inl a ↦ inl (a.0 ∙ e) | inr b ↦ inr (b.0, b.1) ]

  done-of : (status : ℕ) (text : List ℕ) → Due words old new status text → IsSaid status text silent heard r → Tells old.told → r ≡ 0 → IsPerformed words old new silent heard
  done-of status text (refused none read quiet s x) says t e = absurd (let k = said-at status text says (λ f. omega arith) in omega arith)
  done-of status text (forgotten read quiet s x) says t e = absurd (let k = said-at status text says (λ f. omega arith) in omega arith)
  done-of status text (done command asked finished s) says t e = record { command = command; asked = asked; report = text; done = finished.done t; said = said-whole status text says (λ f. omega arith) }
  done-of status text (stopped command asked stop stops s x) says t e = absurd ((status-kinds stop).0 (sym s ∙ (sym (said-at status text says (λ f. omega arith)) ∙ e)))

  pub run-done : Runs words old new silent heard r → Tells old.told → r ≡ 0 → IsPerformed words old new silent heard
  run-done h t e = done-of h.status h.text h.due h.said t e

  words_only-of : (status : ℕ) (text : List ℕ) → Due words old new status text → IsSaid status text silent heard r → r ≡ 2 → command_of words ≡ None
  words_only-of status text (refused none read quiet s x) says e = none
  words_only-of status text (forgotten read quiet s x) says e = absurd (let k = said-at status text says (λ f. omega arith) in omega arith)
  words_only-of status text (done command asked finished s) says e = absurd (let k = said-at status text says (λ f. omega arith) in omega arith)
  words_only-of status text (stopped command asked stop stops s x) says e = absurd ((status-kinds stop).1 (sym s ∙ (sym (said-at status text says (λ f. omega arith)) ∙ e)))

  pub run-words_only : Runs words old new silent heard r → r ≡ 2 → command_of words ≡ None
  run-words_only h e = words_only-of h.status h.text h.due h.said e

  words_always-of : (status : ℕ) (text : List ℕ) → Due words old new status text → IsSaid status text silent heard r → command_of words ≡ None → IsStatus 2 silent heard r ⊎ (r ≡ 5)
  words_always-of status text (refused none read quiet s x) says e = inl (said-status status 2 text says s)
  words_always-of status text (forgotten read quiet s x) says e = elim says [ inl a ↦ inr (a.0 ∙ s) | inr b ↦ inl (inr (b.0, b.1)) ]
  words_always-of status text (done command asked finished s) says e = none-some command (command_in words) (unasked words e) asked
  words_always-of status text (stopped command asked stop stops s x) says e = none-some command (command_in words) (unasked words e) asked

  pub run-words_always : Runs words old new silent heard r → command_of words ≡ None → IsStatus 2 silent heard r ⊎ (r ≡ 5)
  run-words_always h e = words_always-of h.status h.text h.due h.said e

  unread-stop : (command : Command) → command_in words ≡ Some command → (stop : Stop) → StopsReading command old new stop → status_of stop ≡ 3 → heard.told ≡ extended silent.told (line_of command.stems stop) → IsUnread words old new silent heard
  unread-stop command asked (Device (Unread place)) h e said = record { command = command; place = place; fault = h.explained.cause.1; reads = h.explained.cause.0; reached = h.explained.cause.2; line = record { asked = asked; said = said } }
  unread-stop command asked (Device (Unwritten place)) h e said = absurd (omega arith)
  unread-stop command asked (Device Memory) h e said = absurd (omega arith)
  unread-stop command asked (Device (Missing place)) h e said = absurd (omega arith)
  unread-stop command asked (Input place fault) h e said = absurd (omega arith)
  unread-stop command asked (Limit count) h e said = absurd (omega arith)
  unread-stop command asked (Operation ticket why) h e said = absurd (omega arith)

  -- the line of the reason was said
  line-said : (status : ℕ) (text line : List ℕ) → IsSaid status text silent heard r → r ≢ 4 → text ≡ line → heard.told ≡ extended silent.told line
  line-said status text line says ne x = said-whole status text says ne ∙ ap (extended silent.told) x

  unread-of : (status : ℕ) (text : List ℕ) → Due words old new status text → IsSaid status text silent heard r → r ≡ 3 → IsUnread words old new silent heard
  unread-of status text (refused none read quiet s x) says e = absurd (let k = said-at status text says (λ f. omega arith) in omega arith)
  unread-of status text (forgotten read quiet s x) says e = absurd (let k = said-at status text says (λ f. omega arith) in omega arith)
  unread-of status text (done command asked finished s) says e = absurd (let k = said-at status text says (λ f. omega arith) in omega arith)
  unread-of status text (stopped command asked stop stops s x) says e =
      let three : status_of stop ≡ 3 = sym s ∙ (sym (said-at status text says (λ f. omega arith)) ∙ e) in
      elim stops [
        | inl w ↦ absurd (let k : status_of stop ≡ 4 = ap status_of w.named in omega arith)
        | inr h ↦ unread-stop command asked stop h three (line-said status text _ says (λ f. omega arith) x)
      ]

  pub run-unread : Runs words old new silent heard r → r ≡ 3 → IsUnread words old new silent heard
  run-unread h e = unread-of h.status h.text h.due h.said e

  missed-stop : (command : Command) → command_in words ≡ Some command → (stop : Stop) → StopsReading command old new stop → status_of stop ≡ 7 → heard.told ≡ extended silent.told (line_of command.stems stop) → IsMissed words old new silent heard
  missed-stop command asked (Device (Missing place)) h e said = record { command = command; place = place; miss = h.explained.cause.1; reads = h.explained.cause.0; line = record { asked = asked; said = said } }
  missed-stop command asked (Device (Unread place)) h e said = absurd (omega arith)
  missed-stop command asked (Device (Unwritten place)) h e said = absurd (omega arith)
  missed-stop command asked (Device Memory) h e said = absurd (omega arith)
  missed-stop command asked (Input place fault) h e said = absurd (omega arith)
  missed-stop command asked (Limit count) h e said = absurd (omega arith)
  missed-stop command asked (Operation ticket why) h e said = absurd (omega arith)

  missing-of : (status : ℕ) (text : List ℕ) → Due words old new status text → IsSaid status text silent heard r → r ≡ 7 → IsMissed words old new silent heard
  missing-of status text (refused none read quiet s x) says e = absurd (let k = said-at status text says (λ f. omega arith) in omega arith)
  missing-of status text (forgotten read quiet s x) says e = absurd (let k = said-at status text says (λ f. omega arith) in omega arith)
  missing-of status text (done command asked finished s) says e = absurd (let k = said-at status text says (λ f. omega arith) in omega arith)
  missing-of status text (stopped command asked stop stops s x) says e =
      let seven : status_of stop ≡ 7 = sym s ∙ (sym (said-at status text says (λ f. omega arith)) ∙ e) in
      elim stops [
        | inl w ↦ absurd (let k : status_of stop ≡ 4 = ap status_of w.named in omega arith)
        | inr h ↦ missed-stop command asked stop h seven (line-said status text _ says (λ f. omega arith) x)
      ]

  pub run-missing : Runs words old new silent heard r → r ≡ 7 → IsMissed words old new silent heard
  run-missing h e = missing-of h.status h.text h.due h.said e

  unwritten-of : (status : ℕ) (text : List ℕ) → Due words old new status text → IsSaid status text silent heard r → r ≡ 4 → Rose old.write_faults new.write_faults ⊎ Rose silent.faults heard.faults
  unwritten-of status text (refused none read quiet s x) says e = elim says [ inl a ↦ absurd (let p = a.0 in omega arith) | inr b ↦ inr b.1 ]
  unwritten-of status text (forgotten read quiet s x) says e = elim says [ inl a ↦ absurd (let p = a.0 in omega arith) | inr b ↦ inr b.1 ]
  unwritten-of status text (done command asked finished s) says e = elim says [ inl a ↦ absurd (let p = a.0 in omega arith) | inr b ↦ inr b.1 ]
  unwritten-of status text (stopped command asked stop stops s x) says e = elim says [
    | inl a ↦ elim stops [ inl w ↦ inl w.fault | inr h ↦ absurd (reading-not-four command old new stop h (sym s ∙ (sym a.0 ∙ e))) ]
    | inr b ↦ inr b.1
  ]

  pub run-unwritten : Runs words old new silent heard r → r ≡ 4 → Rose old.write_faults new.write_faults ⊎ Rose silent.faults heard.faults
  run-unwritten h e = unwritten-of h.status h.text h.due h.said e

  refused-of : (status : ℕ) (text : List ℕ) → Due words old new status text → IsSaid status text silent heard r → Tells old.told → (r ≡ 1) ⊎ ((r ≡ 6) ⊎ (r ≡ 7)) → IsRefusal words old silent heard r
  refused-of status text (refused none read quiet s x) says t e = let k = said-at status text says (not-four r e) in none-of r (λ y. omega arith) (λ y. omega arith) (λ y. omega arith) e
  refused-of status text (forgotten read quiet s x) says t e = let k = said-at status text says (not-four r e) in none-of r (λ y. omega arith) (λ y. omega arith) (λ y. omega arith) e
  refused-of status text (done command asked finished s) says t e = let k = said-at status text says (not-four r e) in none-of r (λ y. omega arith) (λ y. omega arith) (λ y. omega arith) e
  refused-of status text (stopped command asked stop stops s x) says t e =
      let same : r ≡ status_of stop = said-at status text says (not-four r e) ∙ s in
      elim stops [
        | inl w ↦ (let k : status_of stop ≡ 4 = ap status_of w.named in none-of r (λ y. omega arith) (λ y. omega arith) (λ y. omega arith) e)
        | inr h ↦ record {
          command = command;
          stop = stop;
          refusal = reading-refusal command old new stop h t (subst (λ n. (n ≡ 1) ⊎ ((n ≡ 6) ⊎ (n ≡ 7))) same e);
          status = sym same;
          line = record { asked = asked; said = line-said status text _ says (not-four r e) x };
        }
      ]

  pub run-refused : Runs words old new silent heard r → Tells old.told → (r ≡ 1) ⊎ ((r ≡ 6) ⊎ (r ≡ 7)) → IsRefusal words old silent heard r
  run-refused h t e = refused-of h.status h.text h.due h.said t e

  unfinished-of : (status : ℕ) (text : List ℕ) → Due words old new status text → IsSaid status text silent heard r → Tells old.told → r ≡ 4 → IsUnfinished words old new silent heard
  unfinished-of status text (refused none read quiet s x) says t e = elim says [ inl a ↦ absurd (let p = a.0 in omega arith) | inr b ↦ unsaid status text (refused none read quiet s x) b.1 b.2 ]
  unfinished-of status text (forgotten read quiet s x) says t e = elim says [ inl a ↦ absurd (let p = a.0 in omega arith) | inr b ↦ unsaid status text (forgotten read quiet s x) b.1 b.2 ]
  unfinished-of status text (done command asked finished s) says t e = elim says [ inl a ↦ absurd (let p = a.0 in omega arith) | inr b ↦ unsaid status text (done command asked finished s) b.1 b.2 ]
  unfinished-of status text (stopped command asked stop stops s x) says t e = elim says [
    | inl a ↦ elim stops [
      | inl w ↦ unwritten command w.place w.fault (w.halted t) (record { asked = asked; said = a.1 ∙ ap (extended silent.told) (x ∙ ap (line_of command.stems) w.named) })
      | inr h ↦ absurd (reading-not-four command old new stop h (sym s ∙ (sym a.0 ∙ e)))
    ]
    | inr b ↦ unsaid status text (stopped command asked stop stops s x) b.1 b.2
  ]

  pub run-unfinished : Runs words old new silent heard r → Tells old.told → r ≡ 4 → IsUnfinished words old new silent heard
  run-unfinished h t e = unfinished-of h.status h.text h.due h.said t e

  refused_always-of : (status : ℕ) (text : List ℕ) → Due words old new status text → IsSaid status text silent heard r → (command : Command) (stop : Stop) → Tells old.told → command_in words ≡ Some command → input_in command (files_in old command.stems) ≡ Err stop → AllowsRefusal old new silent heard → (r ≡ status_of stop) ⊎ (r ≡ 5)
  refused_always-of status text (refused none read quiet s x) says command stop t asked is allows = none-some command (command_in words) (unasked words none) asked
  refused_always-of status text (forgotten read quiet s x) says command stop t asked is allows = elim says [ inl a ↦ inr (a.0 ∙ s) | inr b ↦ absurd (allows.sink b.1) ]
  refused_always-of status text (done other asked' finished s) says command stop t asked is allows =
      let same : other ≡ command = some-same other command (sym asked' ∙ asked) in
      let given = (finished.done t).is_given in
      ok-err (input_in other (files_in old other.stems)) given.input stop given.is_input (subst (λ k. input_in k (files_in old k.stems) ≡ Err stop) (sym same) is)
  refused_always-of status text (stopped other asked' stop' stops s x) says command stop t asked is allows =
      let same : other ≡ command = some-same other command (sym asked' ∙ asked) in
      let is' : input_in other (files_in old other.stems) ≡ Err stop = subst (λ k. input_in k (files_in old k.stems) ≡ Err stop) (sym same) is in
      elim says [
        | inl a ↦ elim stops [
          | inl w ↦ ok-err (input_in other (files_in old other.stems)) (w.halted t).is_given.input stop (w.halted t).is_given.is_input is'
          | inr h ↦ elim (reading-given other old new stop' h t allows.reads) [
            | inl e ↦ inl (a.0 ∙ (s ∙ ap status_of (err-same _ stop' stop e is')))
            | inr five ↦ inr (a.0 ∙ (s ∙ five))
          ]
        ]
        | inr b ↦ absurd (allows.sink b.1)
      ]

  pub run-refused_always : Runs words old new silent heard r → (command : Command) (stop : Stop) → Tells old.told → command_in words ≡ Some command → input_in command (files_in old command.stems) ≡ Err stop → AllowsRefusal old new silent heard → (r ≡ status_of stop) ⊎ (r ≡ 5)
  run-refused_always h command stop t asked is allows = refused_always-of h.status h.text h.due h.said command stop t asked is allows

  done_always-of : (status : ℕ) (text : List ℕ) → Due words old new status text → IsSaid status text silent heard r → (command : Command) (input : Works) → Tells old.told → command_in words ≡ Some command → input_in command (files_in old command.stems) ≡ Ok input → IsFaultless old new silent heard → (r ≡ 0) ⊎ (r ≡ 5)
  done_always-of status text (refused none read quiet s x) says command input t asked is safe = none-some command (command_in words) (unasked words none) asked
  done_always-of status text (forgotten read quiet s x) says command input t asked is safe = elim says [ inl a ↦ inr (a.0 ∙ s) | inr b ↦ absurd (safe.sink b.1) ]
  done_always-of status text (done other asked' finished s) says command input t asked is safe = elim says [ inl a ↦ inl (a.0 ∙ s) | inr b ↦ absurd (safe.sink b.1) ]
  done_always-of status text (stopped other asked' stop stops s x) says command input t asked is safe =
      let same : other ≡ command = some-same other command (sym asked' ∙ asked) in
      let is' : input_in other (files_in old other.stems) ≡ Ok input = subst (λ k. input_in k (files_in old k.stems) ≡ Ok input) (sym same) is in
      elim says [
        | inl a ↦ elim stops [
          | inl w ↦ absurd (safe.writes w.fault)
          | inr h ↦ elim (reading-given other old new stop h t safe.reads) [
            | inl e ↦ ok-err (input_in other (files_in old other.stems)) input stop is' e
            | inr five ↦ inr (a.0 ∙ (s ∙ five))
          ]
        ]
        | inr b ↦ absurd (safe.sink b.1)
      ]

  pub run-done_always : Runs words old new silent heard r → (command : Command) (input : Works) → Tells old.told → command_in words ≡ Some command → input_in command (files_in old command.stems) ≡ Ok input → IsFaultless old new silent heard → (r ≡ 0) ⊎ (r ≡ 5)
  run-done_always h command input t asked is safe = done_always-of h.status h.text h.due h.said command input t asked is safe

  unread_always-of : (status : ℕ) (text : List ℕ) → Due words old new status text → IsSaid status text silent heard r → old.read_faults < new.read_faults → IsStatus 3 silent heard r
  unread_always-of status text (refused none read quiet s x) says l = absurd (let k : new.read_faults ≡ old.read_faults = quiet.read_faults in omega arith)
  unread_always-of status text (forgotten read quiet s x) says l = absurd (let k : new.read_faults ≡ old.read_faults = quiet.read_faults in omega arith)
  unread_always-of status text (done command asked finished s) says l = absurd (let k : new.read_faults ≡ old.read_faults = finished.quiet.read_faults in omega arith)
  unread_always-of status text (stopped command asked stop stops s x) says l = elim stops [
    | inl w ↦ absurd (let k : new.read_faults ≡ old.read_faults = w.quiet.read_faults in omega arith)
    | inr h ↦ said-status status 3 text says (s ∙ unread-three stop (h.explained.unread l))
  ]

  pub run-unread_always : Runs words old new silent heard r → old.read_faults < new.read_faults → IsStatus 3 silent heard r
  run-unread_always h l = unread_always-of h.status h.text h.due h.said l

  missing_always-of : (status : ℕ) (text : List ℕ) → Due words old new status text → IsSaid status text silent heard r → old.misses < new.misses → IsStatus 7 silent heard r
  missing_always-of status text (refused none read quiet s x) says l = absurd (let k : new.misses ≡ old.misses = quiet.misses in omega arith)
  missing_always-of status text (forgotten read quiet s x) says l = absurd (let k : new.misses ≡ old.misses = quiet.misses in omega arith)
  missing_always-of status text (done command asked finished s) says l = absurd (let k : new.misses ≡ old.misses = finished.quiet.misses in omega arith)
  missing_always-of status text (stopped command asked stop stops s x) says l = elim stops [
    | inl w ↦ absurd (let k : new.misses ≡ old.misses = w.quiet.misses in omega arith)
    | inr h ↦ said-status status 7 text says (s ∙ missing-seven stop (h.explained.missing l))
  ]

  pub run-missing_always : Runs words old new silent heard r → old.misses < new.misses → IsStatus 7 silent heard r
  run-missing_always h l = missing_always-of h.status h.text h.due h.said l

  unwritten_always-of : (status : ℕ) (text : List ℕ) → Due words old new status text → IsSaid status text silent heard r → old.write_faults < new.write_faults → r ≡ 4
  unwritten_always-of status text (refused none read quiet s x) says l = absurd (let k : new.write_faults ≡ old.write_faults = read.write_faults in omega arith)
  unwritten_always-of status text (forgotten read quiet s x) says l = absurd (let k : new.write_faults ≡ old.write_faults = read.write_faults in omega arith)
  unwritten_always-of status text (done command asked finished s) says l = absurd (let k : new.write_faults ≡ old.write_faults = finished.write_faults in omega arith)
  unwritten_always-of status text (stopped command asked stop stops s x) says l = elim stops [
    | inl w ↦ elim says [ inl a ↦ a.0 ∙ (s ∙ ap status_of w.named) | inr b ↦ b.0 ]
    | inr h ↦ absurd (let k : new.write_faults ≡ old.write_faults = h.only_read.write_faults in omega arith)
  ]

  pub run-unwritten_always : Runs words old new silent heard r → old.write_faults < new.write_faults → r ≡ 4
  run-unwritten_always h l = unwritten_always-of h.status h.text h.due h.said l

  pub run-unsaid_always : Runs words old new silent heard r → silent.faults < heard.faults → r ≡ 4
  run-unsaid_always h l = elim h.said [ inl a ↦ absurd (let k : heard.faults ≡ silent.faults = a.2 in omega arith) | inr b ↦ b.0 ]

  as_before-of : (status : ℕ) (text : List ℕ) → Due words old new status text → IsSaid status text silent heard r → r ≢ 0 → r ≢ 4 → IsAsBefore old.told new.told
  as_before-of status text (refused none read quiet s x) says z f = read.files
  as_before-of status text (forgotten read quiet s x) says z f = read.files
  as_before-of status text (done command asked finished s) says z f = absurd (z (said-at status text says f ∙ s))
  as_before-of status text (stopped command asked stop stops s x) says z f = elim stops [
    | inl w ↦ absurd (f (said-at status text says f ∙ (s ∙ ap status_of w.named)))
    | inr h ↦ h.only_read.files
  ]

  pub run-as_before : Runs words old new silent heard r → r ≢ 0 → r ≢ 4 → IsAsBefore old.told new.told
  run-as_before h z f = as_before-of h.status h.text h.due h.said z f
