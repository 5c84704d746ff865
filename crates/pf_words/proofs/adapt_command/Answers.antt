use Rattle.std.proofs.Common.{rules, ap₂, ◌∙◌}
use Rattle.std.proofs.lemmas.Result.{IfOk-weaker}
use Rattle.clap.specs.Simple.{with_rule}
use Rattle.pf_words.proofs.adapt_command.Goals as goal

pub returns : goal.returns
returns c = IfOk-weaker c.arg-6.result _ _ (λ command added. added.shape (search rules)
    ∙ ap₂ with_rule (c.in_ok-arg-5.ensures.shape (search rules)
    ∙ ap₂ with_rule (c.in_ok-arg-4.ensures.shape (search rules)
    ∙ ap₂ with_rule (c.in_ok-arg-3.ensures.shape (search rules)
    ∙ ap₂ with_rule (c.in_ok-arg-2.ensures.shape (search rules)
    ∙ ap₂ with_rule (c.in_ok-arg.ensures.shape (search rules)
    ∙ ap₂ with_rule c.command.ensures c.new.ensures.rule) c.new-2.ensures.rule) c.option.ensures.rule) c.option-2.ensures.rule) c.option-3.ensures.rule) c.option-4.ensures.rule) c.arg-6.ensures
