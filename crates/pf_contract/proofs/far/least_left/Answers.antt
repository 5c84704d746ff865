use Rattle.std.proofs.Common.{ℕ, ◌+◌, Bool, drop, filter, map, sym, ◌∙◌, ap, pos}
use Rattle.std.specs.Prelude.{fold}
use Rattle.pf_model.specs.declared.Spoke.{Spoke}
use Rattle.pf_model.specs.Mesh.{place_of}
use Rattle.pf_model.specs.Rows.{is_too_long, lesser}
use Rattle.pf_contract.proofs.Steps.{next-name}
use Rattle.pf_contract.proofs.far.least_left.Goals as goal

pub loop-s-preserved : goal.loop-s-preserved
loop-s-preserved c = λ m bands v placed.
    let blank : Spoke = record { right = 0; right_at = record { x = pos 0; y = pos 0 }; left = 0; left_at = record { x = pos 0; y = pos 0 }; owner = 0 } in
    let p : ℕ → Bool = is_too_long m c.args.v.name c.args.around.now in
    let spokes = c.args.spokes.now in
    let at = c.loop-s.s-index in
    let within = c.loop-s-test.true in
    let stands = c.left_of.ensures.at ∙ ((placed at blank within).left ∙ ap (place_of m) (sym c.left_of.ensures.name)) in
    ap (λ o. fold lesser o (filter p (map (λ (s : Spoke). s.left) (drop (at + 1) spokes)))) (c.lesser_far-found.ensures m bands v stands)
    ∙ (next-name p (λ s. s.left) spokes at blank c.loop-s.found c.left_of.result.name within c.left_of.ensures.name ∙ c.loop-s.invariant m bands v placed)
