use Rattle.std.proofs.Common.{◌≡◌, ◌∷◌, ◌++◌, [], rules}
use Rattle.pf_adapt.proofs.Rising.{name_more}
use Rattle.pf_adapt.proofs.lists.names_below.Goals as goal

pub names-preserved : goal.names-preserved
names-preserved c =
    let put : c.push.new.self.items ≡ c.names.list.items ++ c.names.n ∷ [] = search rules in
    name_more c.names.n c.names.list.items c.push.new.self.items put c.names.invariant
