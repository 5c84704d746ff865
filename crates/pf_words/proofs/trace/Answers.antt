use Rattle.std.proofs.Common.{subst, drop, option_map}
use Rattle.pf_words.specs.Grammar.{two_of, trace, two_form, given_of, texts_of}
use Rattle.pf_words.specs.Clap.{Reads}
use Rattle.pf_words.specs.Shown.{shown}
use Rattle.pf_words.proofs.Forms.{asked_by}
use Rattle.pf_words.proofs.trace.Goals as goal

pub returns-in-Some-clause-asked : goal.returns-in-Some-clause-asked
returns-in-Some-clause-asked c = asked_by (given_of two_form (drop 1 (texts_of c.args.words.now))) c.in-Some.matches (two_of trace) (option_map shown c.trace_in.result)
    (subst (Reads (given_of two_form (drop 1 (texts_of c.args.words.now)))) c.in-Some.is c.in_ok-matches.ensures) c.trace_in.ensures.asked
