use Rattle.pf_cmd.proofs.RunFacts.{run-done, run-refused, run-words_only, run-unread, run-unwritten, run-unfinished, run-missing, run-words_always, run-refused_always, run-done_always, run-unread_always, run-missing_always, run-unwritten_always, run-unsaid_always, run-as_before}
use Rattle.pf_cmd.proofs.program.run.Goals as goal

pub returns-clause-done : goal.returns-clause-done
returns-clause-done g c = run-done _ _ _ _ _ _ c.ran.ensures.runs

pub returns-clause-refused : goal.returns-clause-refused
returns-clause-refused g c = run-refused _ _ _ _ _ _ c.ran.ensures.runs

pub returns-clause-words_only : goal.returns-clause-words_only
returns-clause-words_only g c = run-words_only _ _ _ _ _ _ c.ran.ensures.runs

pub returns-clause-unread : goal.returns-clause-unread
returns-clause-unread g c = run-unread _ _ _ _ _ _ c.ran.ensures.runs

pub returns-clause-unwritten : goal.returns-clause-unwritten
returns-clause-unwritten g c = run-unwritten _ _ _ _ _ _ c.ran.ensures.runs

pub returns-clause-unfinished : goal.returns-clause-unfinished
returns-clause-unfinished g c = run-unfinished _ _ _ _ _ _ c.ran.ensures.runs

pub returns-clause-missing : goal.returns-clause-missing
returns-clause-missing g c = run-missing _ _ _ _ _ _ c.ran.ensures.runs

pub returns-clause-words_always : goal.returns-clause-words_always
returns-clause-words_always g c = run-words_always _ _ _ _ _ _ c.ran.ensures.runs

pub returns-clause-refused_always : goal.returns-clause-refused_always
returns-clause-refused_always g c = run-refused_always _ _ _ _ _ _ c.ran.ensures.runs

pub returns-clause-done_always : goal.returns-clause-done_always
returns-clause-done_always g c = run-done_always _ _ _ _ _ _ c.ran.ensures.runs

pub returns-clause-unread_always : goal.returns-clause-unread_always
returns-clause-unread_always g c = run-unread_always _ _ _ _ _ _ c.ran.ensures.runs

pub returns-clause-missing_always : goal.returns-clause-missing_always
returns-clause-missing_always g c = run-missing_always _ _ _ _ _ _ c.ran.ensures.runs

pub returns-clause-unwritten_always : goal.returns-clause-unwritten_always
returns-clause-unwritten_always g c = run-unwritten_always _ _ _ _ _ _ c.ran.ensures.runs

pub returns-clause-unsaid_always : goal.returns-clause-unsaid_always
returns-clause-unsaid_always g c = run-unsaid_always _ _ _ _ _ _ c.ran.ensures.runs

pub returns-clause-as_before : goal.returns-clause-as_before
returns-clause-as_before g c = run-as_before _ _ _ _ _ _ c.ran.ensures.runs
