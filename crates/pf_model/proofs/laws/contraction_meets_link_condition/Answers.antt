use Rattle.pf_model.proofs.ContractLinks.{contract_meets_links}
use Rattle.pf_model.proofs.laws.contraction_meets_link_condition.Goals as goal

pub returns : goal.returns
returns c m chunk u v ok passes = contract_meets_links m chunk u v ok passes
