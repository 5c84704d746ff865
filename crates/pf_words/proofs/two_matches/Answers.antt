use Rattle.std.proofs.Common.{Option, drop}
use Rattle.std.proofs.lemmas.Result.{IfOk-weaker}
use Rattle.clap.specs.Simple.{app_of}
use Rattle.clap.specs.declared.parser.matches.ArgMatches.{ArgMatches}
use Rattle.pf_words.specs.Grammar.{given_of, texts_of, two_form}
use Rattle.pf_words.specs.Clap.{Finds, Reads}
use Rattle.pf_words.proofs.Forms.{two_reads}
use Rattle.pf_words.proofs.two_matches.Goals as goal

pub returns-in-Ok : goal.returns-in-Ok
returns-in-Ok c = IfOk-weaker c.found.result (λ (found : Option ArgMatches). Finds (app_of c.in-Ok.command) (texts_of c.args.words.now) found)
    (λ (found : Option ArgMatches). Reads (given_of two_form (drop 1 (texts_of c.args.words.now))) found)
    (λ found finds. two_reads c.args.name.now (app_of c.in-Ok.command) (texts_of c.args.words.now) found c.in-Ok.ensures finds) c.found.ensures
