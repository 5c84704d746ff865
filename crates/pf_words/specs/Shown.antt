-- The code's commands, as what they say.
use Rattle.pf_words.specs.declared.Words.{Words}
use Rattle.pf_words.specs.declared.Words.TheVariants.{Adapt, Replay, Check, Chunks, Trace, Demo}
use Rattle.pf_words.specs.Grammar.{Asked, adapt, replay, check, chunks, trace, demo}

-- what a command asks for
abbrev pub shown : Words → Asked
shown (Adapt base out workers ops turns scale) = adapt base.now out.now workers ops turns scale
shown (Replay base out scale) = replay base.now out.now scale
shown (Check base scale) = check base.now scale
shown (Chunks base scale) = chunks base.now scale
shown (Trace base file scale) = trace base.now file.now scale
shown (Demo cells) = demo cells
