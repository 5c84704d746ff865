use Rattle.std.proofs.Common.{List, sym, subst}
use Rattle.std.specs.Prelude.{All}
use Rattle.std.proofs.lemmas.List.Elements.{All-take, All-append, All-drop}
use Rattle.pf_model.specs.declared.Spoke.{Spoke}
use Rattle.pf_spokes.specs.Spokes.{HasSpots}
use Rattle.pf_rings.proofs.Renamed.{spots-renamed}
use Rattle.pf_rings.proofs.star.Star.rename.Goals as goal

pub invariant_of-self : goal.invariant_of-self
invariant_of-self c =
    let P : List Spoke → Type 0 = λ l. All HasSpots l in
    let before : All HasSpots c.deref_mut.result.now = subst P (sym c.deref_mut.ensures.value) c.self.invariant.1 in
    let renamed : All HasSpots c.rename_spokes.new.spokes = subst P (sym c.rename_spokes.ensures) (spots-renamed c.args.old c.args.name c.deref_mut.result.now before) in (
      c.self.invariant.0,
      All-take HasSpots _ _ (All-append HasSpots _ _ renamed (All-drop HasSpots _ _ c.self.invariant.1)),
    )
