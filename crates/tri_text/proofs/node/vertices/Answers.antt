use Rattle.std.proofs.lemmas.Result.{err_from_is_err_and}
use Rattle.std.proofs.Common.{◌≡◌, true, Ok, sym, ap, ◌∙◌, arith}
use Rattle.std.proofs.lemmas.List.Elements.{All-from_recursion}
use Rattle.row_text.proofs.Reading.{refuses-fault, refuses-memory}
use Rattle.pf_geom.specs.Plane.{IsInRange}
use Rattle.tri_text.proofs.ReadNode.{is_short, is_bad, goes_on, is_extra, is_done}
use Rattle.tri_text.proofs.node.vertices.Goals as goal

pub returns-in_err-words-clause-reads : goal.returns-in_err-words-clause-reads
returns-in_err-words-clause-reads c =
    let p = err_from_is_err_and c.from_residual.result c.from_residual.ensures.1 in
    let row = c.in_err-words.ensures.row in
    rw (p.1, p.2) (refuses-fault _ _ _ (is_short _ _ _ _ _ _ _ _ _ _ c.loop-place.invariant c.in_err-words.field-0.0 c.loop-place-test.true row.0 row.1))

pub returns-in_err-at-clause-reads : goal.returns-in_err-at-clause-reads
returns-in_err-at-clause-reads c =
    let p = err_from_is_err_and c.from_residual-in_err-at.result c.from_residual-in_err-at.ensures.1 in
    let first = c.in-Some.ensures.steps in
    let base = c.base_at-base.ensures in
    rw (p.1, p.2) (refuses-fault _ _ _ (is_bad _ _ _ _ _ _ _ _ _ _ c.loop-place.invariant c.in_ok-words.words _ c.in-Some.number _ c.in_ok-words.ensures.row first.0 first.1 _ record { first = base.first; later = base.later; small = base.small } c.in_err-at.field-0.0 c.loop-place-test.true c.in_err-at.ensures.gives))

pub loop-place-preserved : goal.loop-place-preserved
loop-place-preserved c =
    let first = c.in-Some.ensures.steps in
    let base = c.base_at-base.ensures in
    goes_on _ _ _ _ _ _ _ _ _ _ c.loop-place.invariant c.in_ok-words.words _ c.in-Some.number _ c.in_ok-words.ensures.row first.0 first.1 _ record { first = base.first; later = base.later; small = base.small } c.in_ok-at.at _ _ _ c.loop-place-test.true c.in_ok-words.ensures.past c.in_ok-at.ensures.gives c.in_ok-at.ensures.in_range c.keep-fits.ensures

pub returns-in_err-end_text-clause-reads : goal.returns-in_err-end_text-clause-reads
returns-in_err-end_text-clause-reads c =
    let p = err_from_is_err_and c.from_residual-in_err-end_text.result c.from_residual-in_err-end_text.ensures.1 in
    rw (p.1, p.2) (refuses-fault _ _ _ (is_extra _ _ _ _ _ _ _ _ _ _ c.loop-place.invariant c.in_err-end_text.field-0.0 c.loop-place-test.false c.in_err-end_text.ensures))

pub returns-then-not-fits-clause-reads : goal.returns-then-not-fits-clause-reads
returns-then-not-fits-clause-reads c =
    refuses-memory _ _ _ (is_done _ _ _ _ _ _ _ _ _ _ c.loop-place.invariant c.loop-place-test.false c.in_ok-end_text.ensures)

pub returns-clause-reads : goal.returns-clause-reads
returns-clause-reads c =
    let fits : c.loop-place.fits ≡ true = c.if-not-fits.false in
    is_done _ _ _ _ _ _ _ _ _ _ c.loop-place.invariant c.loop-place-test.false c.in_ok-end_text.ensures ∙ ap (λ xs. Ok (record { base = c.loop-place.base; points = xs })) (sym (c.loop-place.invariant.read.stands fits))

pub returns-clause-count : goal.returns-clause-count
returns-clause-count c =
    let fits : c.loop-place.fits ≡ true = c.if-not-fits.false in
    rw (c.loop-place.invariant.read.stands fits) (omega (arith, c.loop-place.invariant.read.counted))

pub returns-clause-in_range : goal.returns-clause-in_range
returns-clause-in_range c =
    let fits : c.loop-place.fits ≡ true = c.if-not-fits.false in
    rw (c.loop-place.invariant.read.stands fits) (All-from_recursion IsInRange _ c.loop-place.invariant.read.holds)
