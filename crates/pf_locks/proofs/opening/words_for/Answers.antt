use Rattle.std.proofs.Common.{◌≡◌, ◌∷◌, ◌++◌, [], rules, ◌∙◌}
use Rattle.pf_locks.specs.First.{start_word}
use Rattle.pf_locks.proofs.Opens.{mapped_more}
use Rattle.pf_locks.proofs.opening.words_for.Goals as goal

pub loop-n-preserved : goal.loop-n-preserved
loop-n-preserved c =
    let put : c.push.new.self.items ≡ c.loop-n.list.items ++ c.word_for-word.result ∷ [] = search rules in
    put ∙ (λ i. c.loop-n.invariant i ++ c.word_for-word.ensures i ∷ []) ∙ mapped_more (start_word c.args.m.now.mesh) c.loop-n.n
