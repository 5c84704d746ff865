use Rattle.std.proofs.Common.{option_map, ◌≡◌, ℕ, List, refl, sym, ◌∙◌, ap, subst, Some, None, ◌⊎◌, inl, inr, true, arith}
use Rattle.pf_shelf.specs.Seen.{Seen, Heard}
use Rattle.pf_say.specs.declared.stop.Trouble.TheVariants.{Missing, Unread, Unwritten, Memory}
use Rattle.pf_say.specs.declared.stop.Stop.{Stop}
use Rattle.pf_say.specs.declared.stop.Stop.TheVariants.{Input, Limit, Operation, Device}
use Rattle.pf_say.specs.Shown.{stems_of}
use Rattle.pf_say.specs.Stop.{status_of, line_of, trouble_in, memory_stop, memory_text}
use Rattle.pf_cmd.specs.Shown.{shown}
use Rattle.pf_cmd.specs.Words.{command_in}
use Rattle.pf_cmd.specs.Causes.{IsQuiet, is_unread, is_missing}
use Rattle.pf_cmd.specs.Commands.{Command, input_in, reads_of}
use Rattle.pf_cmd.specs.Ends.{Stops, StopsReading}
use Rattle.pf_cmd.specs.Runs.{words_text, IsSaid, refused, done, stopped, Runs}
use Rattle.pf_cmd.proofs.Reading.{not-risen, memory-explains}
use Rattle.pf_cmd.proofs.program.ran.Goals as goal

-- a reason that isn't what happened to a device is no failed read and no missing file
not-device : (stop : Stop) → trouble_in stop ≡ None → (is_unread stop ≡ true → ⊥) × (is_missing stop ≡ true → ⊥)
not-device (Device trouble) e = absurd (let k = e in cc)
not-device (Input place fault) e = (λ h. (let k = h in cc), λ h. (let k = h in cc))
not-device (Limit count) e = (λ h. (let k = h in cc), λ h. (let k = h in cc))
not-device (Operation ticket why) e = (λ h. (let k = h in cc), λ h. (let k = h in cc))

-- where another reason wasn't said for want of memory, it is as if memory had run out before
forgotten : (command : Command) (old new : Seen) (stop : Stop) → trouble_in stop ≡ None → Stops command old new stop → Stops command old new memory_stop
forgotten command old new stop e stops = elim stops [
  | inl w ↦ absurd (let k = sym e ∙ ap trouble_in w.named in cc)
  | inr h ↦ inr (record {
    explained = memory-explains (reads_of command.task) old new command.stems (input_in command) memory_stop refl (record {
      read_faults = not-risen _ _ h.only_read.read_faults (λ l. (not-device stop e).0 (h.explained.unread l));
      misses = not-risen _ _ h.only_read.misses (λ l. (not-device stop e).1 (h.explained.missing l));
    });
    only_read = h.only_read;
  })
]

-- the reason was said, or that memory ran out
stop-runs : (words : List (List ℕ)) (old new : Seen) (silent heard : Heard) (r : ℕ) (command : Command) (stop : Stop) → command_in words ≡ Some command → Stops command old new stop → IsSaid (status_of stop) (line_of command.stems stop) silent heard r ⊎ ((trouble_in stop ≡ None) × IsSaid 5 memory_text silent heard r) → Runs words old new silent heard r
stop-runs words old new silent heard r command stop asked stops says = elim says [
  | inl a ↦ record { status = status_of stop; text = line_of command.stems stop; due = stopped command asked stop stops refl refl; said = a }
  | inr b ↦ record { status = 5; text = memory_text; due = stopped command asked memory_stop (forgotten command old new stop b.0 stops) refl refl; said = b.1 }
]

pub returns-in-Ok-perform-clause-runs : goal.returns-in-Ok-perform-clause-runs
returns-in-Ok-perform-clause-runs g c = record {
  status = 0;
  text = c.in-Ok-perform.report.items;
  due = done (shown c.in-Some.command) (sym c.in-Ok.ensures.command ∙ ap (option_map shown) c.in-Some.is) c.in-Ok-perform.ensures.done refl;
  said = subst (λ text. IsSaid 0 text (g.K.Sink.heard c.args.out.now) (g.K.Sink.heard c.say-in-Ok-perform.new.out) c.say-in-Ok-perform.result) c.deref.ensures.value c.say-in-Ok-perform.ensures;
}

pub returns-in-Err-clause-runs : goal.returns-in-Err-clause-runs
returns-in-Err-clause-runs g c =
    stop-runs _ _ _ _ _ _ (shown c.in-Some.command) c.in-Err.stop (sym c.in-Ok.ensures.command ∙ ap (option_map shown) c.in-Some.is) c.in-Err.ensures.stops c.say_stop.ensures
