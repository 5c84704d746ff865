use Rattle.std.proofs.Common.{◌≡◌, ℕ, List, ◌++◌, ◌∙◌, ap, append_assoc}
use Rattle.std.specs.Prelude.{codes, decimal}
use Rattle.pf_say.proofs.fault.put_instead.Goals as goal

-- two parts are one text
two-parts : (old what found between expected end : List ℕ) → (old ++ (what ++ found ++ between)) ++ (expected ++ end) ≡ old ++ (what ++ (found ++ between ++ expected ++ end))
two-parts old what found between expected end = simp append_assoc

pub returns : goal.returns
returns c =
    c.in_ok-put-2.ensures
    ∙ (ap (λ t. t ++ (decimal c.args.expected ++ codes "\n")) c.in_ok-put.ensures
    ∙ two-parts c.args.text.now.items c.args.what.now (decimal c.args.found) (codes " instead of ") (decimal c.args.expected) (codes "\n"))
