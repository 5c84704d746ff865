use Rattle.std.proofs.Common.{subst, drop, option_map}
use Rattle.pf_words.specs.Grammar.{one_of, check, one_form, given_of, texts_of}
use Rattle.pf_words.specs.Clap.{Reads}
use Rattle.pf_words.specs.Shown.{shown}
use Rattle.pf_words.proofs.Forms.{asked_by}
use Rattle.pf_words.proofs.check.Goals as goal

pub returns-in-Some-clause-asked : goal.returns-in-Some-clause-asked
returns-in-Some-clause-asked c = asked_by (given_of one_form (drop 1 (texts_of c.args.words.now))) c.in-Some.matches (one_of check) (option_map shown c.check_in.result)
    (subst (Reads (given_of one_form (drop 1 (texts_of c.args.words.now)))) c.in-Some.is c.in_ok-matches.ensures) c.check_in.ensures.asked
