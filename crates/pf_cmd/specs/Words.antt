-- The command that the words of a command line ask for.
use Rattle.std.specs.Prelude.{ℕ, List, [], Option}
use Rattle.std.specs.Option.{option_map}
use Rattle.pf_words.specs.Grammar.{Asked, adapt, replay, check, chunks, trace, demo, command_of}
use Rattle.pf_cmd.specs.declared.words.Task.TheVariants.{Adapt, Replay, Check, Chunks, Trace, Demo}
use Rattle.pf_cmd.specs.Commands.{Command}

-- what is asked, as a command: where one stem is named it is both, and where none is named both are empty
abbrev pub command_for : Asked → Command
command_for (adapt base out workers ops turns scale) = record { task = Adapt workers ops turns; stems = record { base = base; out = out }; scale = scale }
command_for (replay base out scale) = record { task = Replay; stems = record { base = base; out = out }; scale = scale }
command_for (check base scale) = record { task = Check; stems = record { base = base; out = base }; scale = scale }
command_for (chunks base scale) = record { task = Chunks; stems = record { base = base; out = base }; scale = scale }
command_for (trace base file scale) = record { task = Trace; stems = record { base = base; out = file }; scale = scale }
command_for (demo cells) = record { task = Demo cells; stems = record { base = []; out = [] }; scale = 1 }

-- the command; none exactly where the words are in no command's form
abbrev pub command_in : List (List ℕ) → Option Command
command_in words = option_map command_for (command_of words)
