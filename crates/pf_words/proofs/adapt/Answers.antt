use Rattle.std.proofs.Common.{subst, drop, option_map}
use Rattle.pf_words.specs.Grammar.{adapt_of, adapt_form, given_of, texts_of}
use Rattle.pf_words.specs.Clap.{Reads}
use Rattle.pf_words.specs.Shown.{shown}
use Rattle.pf_words.proofs.Forms.{asked_by}
use Rattle.pf_words.proofs.adapt.Goals as goal

pub returns-in-Some-clause-asked : goal.returns-in-Some-clause-asked
returns-in-Some-clause-asked c = asked_by (given_of adapt_form (drop 1 (texts_of c.args.words.now))) c.in-Some.matches adapt_of (option_map shown c.adapt_in.result)
    (subst (Reads (given_of adapt_form (drop 1 (texts_of c.args.words.now)))) c.in-Some.is c.in_ok-matches.ensures) c.adapt_in.ensures.asked
