use Rattle.std.proofs.Common.{◌≡◌, ℕ, ◌<◌, List, length, take, drop, ◌++◌, sym, ap, ◌∙◌, subst, arith}
use Rattle.std.specs.Prelude.{slice_index_or}
use Rattle.pf_workers.specs.declared.parts.Part.{Part}
use Rattle.pf_workers.proofs.Parting.{written, start_is}
use Rattle.pf_workers.proofs.parts.parts_of.Goals as goal

pub returns-clause-start : goal.returns-clause-start
returns-clause-start c = λ w d l.
    let parts = c.in_ok-parts.parts in
    let put = c.put_starts.new.parts in
    let many : length c.deref_mut.result.now ≡ c.args.workers = ap (λ (x : List Part). length x) c.deref_mut.ensures.value ∙ c.in_ok-parts.ensures.len in
    let long : length put ≡ c.args.workers = c.in_ok-put_starts.ensures.len ∙ many in
    let ok = parts.ok in
    let all = c.in_ok-parts.ensures.len in
    let whole : take parts.len (put ++ drop (length put) parts.items) ≡ put = written put parts.items parts.len (omega (arith, long, ok, all)) (omega (arith, ok)) in
    ap (λ (x : List Part). (slice_index_or x w d).start.items) whole
    ∙ c.in_ok-put_starts.ensures.start w d (subst (λ (k : ℕ). w < k) (sym many) l)
    ∙ start_is c.args.m.now.mesh c.args.workers w (length c.deref_mut.result.now) c.first_new.result c.deref.result.now c.in_ok-keepers.keepers.items c.tris.result.now many c.deref.ensures.value c.in_ok-keepers.ensures.len c.first_new.ensures.value c.tris.ensures.value c.in_ok-keepers.ensures.kept
