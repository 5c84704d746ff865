use Rattle.std.proofs.Common.{◌≡◌, ◌<◌, length, refl, ◌∙◌, arith}
use Rattle.std.specs.Prelude.{◌≤◌, min, max}
use Rattle.pf_model.specs.Lengths.{edge_of}
use Rattle.pf_edge_list.specs.Edges.{sided_edge}
use Rattle.pf_rest.specs.Rest.{onto_hi, onto_lo}
use Rattle.pf_edge_list.proofs.EdgesLocated.{listed-at, located-at}
use Rattle.pf_rest.proofs.ToldNotes.{to-hi, to-lo}
use Rattle.pf_rest.proofs.short.note_onto.Goals as goal

pub returns-then-e-u : goal.returns-then-e-u
returns-then-e-u c = λ m ok s b es star shape around clear are.
    let list = c.args.edges.now.list.items in
    let place = c.args.place in
    let e = c.index-e.result.now in
    let within : place < length list = omega (arith, c.if-place-len.false, c.len.ensures, c.args.edges.now.list.ok) in
    let spot = located-at c.args.table.now.sides list place e c.requires.listed within c.index-e.ensures in
    let sorted = (listed-at c.args.table.now.sides list place e c.requires.listed within c.index-e.ensures).sorted in
    let above : c.args.u ≤ e.span.hi = omega (arith, sorted, c.if-e-u.true) in
    let lower : e.span.lo ≡ min c.args.u e.span.hi = omega (arith, sorted, c.if-e-u.true) in
    let upper : e.span.hi ≡ max c.args.u e.span.hi = omega (arith, sorted, c.if-e-u.true) in
    let edge : sided_edge e ≡ edge_of c.args.u e.span.hi = λ i. record { lo = lower i; hi = upper i } in
    let cond = c.onto_condition-cond.ensures m ok s b edge es star shape around clear in
    record { limit = are.limit; hi = c.note.ensures m list onto_hi e are.hi (spot.placed place refl) (cond ∙ to-hi m (sided_edge e) c.args.u e.span.hi edge above); lo = are.lo }

pub returns-then-e-u-2 : goal.returns-then-e-u-2
returns-then-e-u-2 c = λ m ok s b es star shape around clear are.
    let list = c.args.edges.now.list.items in
    let place = c.args.place in
    let e = c.index-e.result.now in
    let within : place < length list = omega (arith, c.if-place-len.false, c.len.ensures, c.args.edges.now.list.ok) in
    let spot = located-at c.args.table.now.sides list place e c.requires.listed within c.index-e.ensures in
    let sorted = (listed-at c.args.table.now.sides list place e c.requires.listed within c.index-e.ensures).sorted in
    let below : e.span.lo < c.args.u = omega (arith, sorted, c.if-e-u.false, c.if-e-u-2.true) in
    let lower : e.span.lo ≡ min c.args.u e.span.lo = omega (arith, below) in
    let upper : e.span.hi ≡ max c.args.u e.span.lo = omega (arith, below, c.if-e-u-2.true) in
    let edge : sided_edge e ≡ edge_of c.args.u e.span.lo = λ i. record { lo = lower i; hi = upper i } in
    let cond = c.onto_condition-cond-then-e-u-2.ensures m ok s b edge es star shape around clear in
    record { limit = are.limit; hi = are.hi; lo = c.note-then-e-u-2.ensures m list onto_lo e are.lo (spot.placed place refl) (cond ∙ to-lo m (sided_edge e) c.args.u e.span.lo edge below) }
