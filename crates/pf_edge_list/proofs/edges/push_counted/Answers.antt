use Rattle.std.proofs.Common.{◌++◌, ◌∷◌, [], List, Bool, true, false, All, sym, ◌∙◌, ap, subst}
use Rattle.std.specs.Prelude.{if◌then◌else◌}
use Rattle.std.specs.Result.{is_ok}
use Rattle.std.proofs.lemmas.List.Elements.{All-push}
use Rattle.pf_edge_list.specs.declared.edges.Sided.{Sided}
use Rattle.pf_edge_list.specs.Edges.{IsListed}
use Rattle.pf_edge_list.proofs.edges.push_counted.Goals.{else-is_counted-via-then-is_counted+else-is_err, else-is_counted-via-else-is_counted}
use Rattle.pf_edge_list.proofs.edges.push_counted.Goals as goal

-- whether or not there was room
all-pushed : (P : Sided → Type 0) (xs : List Sided) (x : Sided) (b : Bool) → All P xs → P x → All P (if b then xs ++ x ∷ [] else xs)
all-pushed P xs x true all one = All-push P xs x all one
all-pushed P xs x false all one = all

pub returns-clause-listed : goal.returns-clause-listed
returns-clause-listed c = λ all. elim c.else-is_counted.branch [
  | else-is_counted-via-then-is_counted+else-is_err w ↦
      let P : Sided → Type 0 = λ e. IsListed c.args.table.now.sides e in
      let one = w.sided_by.ensures.listed c.args.table.now.sides record { on_left = sym c.requires.left; on_right = c.side_near.ensures } in
      subst (λ l. All P l) (sym (ap (λ v. v.items) w.edges-is ∙ w.push.ensures.items)) (all-pushed P c.args.edges.now.items w.sided_by.result (is_ok w.push.result) all one)
  | else-is_counted-via-else-is_counted w ↦ rw w.edges-is all
]
