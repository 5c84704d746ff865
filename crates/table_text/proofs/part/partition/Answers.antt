use Rattle.std.proofs.Common.{Ok, sym, ap, ◌∙◌, arith}
use Rattle.std.proofs.lemmas.Result.{err_from_is_err_and}
use Rattle.row_text.proofs.Reading.{refuses-fault, refuses-memory}
use Rattle.table_text.proofs.PartLemmas.{is_short, is_bad, goes_on, is_extra, is_done, chunks_among-above, chunks_among-some}
use Rattle.table_text.proofs.part.partition.Goals as goal

pub returns-in_err-words-clause-reads : goal.returns-in_err-words-clause-reads
returns-in_err-words-clause-reads c =
    let p = err_from_is_err_and c.from_residual.result c.from_residual.ensures.1 in
    let row = c.in_err-words.ensures.row in
    rw (p.1, p.2) (refuses-fault _ _ _ (is_short _ _ _ _ _ _ _ _ _ c.loop.invariant c.in_err-words.field-0.0 c.loop-test.true row.0 row.1))

pub returns-in_err-owner-clause-reads : goal.returns-in_err-owner-clause-reads
returns-in_err-owner-clause-reads c =
    let p = err_from_is_err_and c.from_residual-in_err-owner.result c.from_residual-in_err-owner.ensures.1 in
    rw (p.1, p.2) (refuses-fault _ _ _ (is_bad _ _ _ _ _ _ _ _ _ c.loop.invariant c.in_ok-words.words _ c.in_ok-words.ensures.row c.in_err-owner.field-0.0 c.loop-test.true c.in_err-owner.ensures.value))

pub loop-preserved : goal.loop-preserved
loop-preserved c =
    goes_on _ _ _ _ _ _ _ _ _ c.loop.invariant c.in_ok-words.words _ c.in_ok-words.ensures.row c.in_ok-owner.owner _ _ _ _ c.loop-test.true c.in_ok-words.ensures.past c.max-chunks.ensures c.in_ok-owner.ensures.value c.in_ok-owner.ensures.in_range c.keep-fits.ensures

pub returns-in_err-end_text-clause-reads : goal.returns-in_err-end_text-clause-reads
returns-in_err-end_text-clause-reads c =
    let p = err_from_is_err_and c.from_residual-in_err-end_text.result c.from_residual-in_err-end_text.ensures.1 in
    rw (p.1, p.2) (refuses-fault _ _ _ (is_extra _ _ _ _ _ _ _ _ _ c.loop.invariant c.in_err-end_text.field-0.0 c.loop-test.false c.in_err-end_text.ensures))

pub returns-then-not-fits-clause-reads : goal.returns-then-not-fits-clause-reads
returns-then-not-fits-clause-reads c =
    refuses-memory _ _ _ (is_done _ _ _ _ _ _ _ _ _ c.loop.invariant c.loop-test.false c.in_ok-end_text.ensures)

pub returns-clause-reads : goal.returns-clause-reads
returns-clause-reads c =
    is_done _ _ _ _ _ _ _ _ _ c.loop.invariant c.loop-test.false c.in_ok-end_text.ensures ∙ ap (λ xs. Ok (record { owners = xs; chunks = c.loop.chunks })) (sym (c.loop.invariant.read.stands c.if-not-fits.false))

pub returns-clause-each_triangle : goal.returns-clause-each_triangle
returns-clause-each_triangle c = rw (c.loop.invariant.read.stands c.if-not-fits.false) (omega (arith, c.loop.invariant.read.counted))

pub returns-clause-owned : goal.returns-clause-owned
returns-clause-owned c = rw (c.loop.invariant.read.stands c.if-not-fits.false, c.loop.invariant.read.holds.greatest) (chunks_among-above c.loop.invariant.read.front)

pub returns-clause-some_chunk : goal.returns-clause-some_chunk
returns-clause-some_chunk c = rw c.loop.invariant.read.holds.greatest (chunks_among-some c.loop.invariant.read.front)

pub returns-clause-chunks : goal.returns-clause-chunks
returns-clause-chunks c = c.loop.invariant.read.holds.few
