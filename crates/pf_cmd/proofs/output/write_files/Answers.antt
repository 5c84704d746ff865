use Rattle.std.proofs.Common.{◌≡◌, sym, ◌∙◌, ap, subst, Some, false}
use Rattle.std.specs.Str.{bytes_eq}
use Rattle.pf_shelf.specs.Files.{Tells, held}
use Rattle.pf_cmd.specs.Output.{named_text, with_file}
use Rattle.pf_cmd.proofs.OutputLemmas.{with_file-held, written-more, none-at, other-name}
use Rattle.pf_cmd.proofs.Reading.{quiet-trans}
use Rattle.pf_cmd.proofs.CutFiles.{cut-off, cut-here, cut-later}
use Rattle.pf_cmd.proofs.output.write_files.Goals as goal

pub returns-in-Err-Fault-clause-cut : goal.returns-in-Err-Fault-clause-cut
returns-in-Err-Fault-clause-cut g c = λ tells.
    c.loop-file.invariant.cut tells c.file-item.result.place (held (g.S.Shelf.seen c.write_all.new.shelf).told)
    (cut-here c.args.files.now c.loop-file.file-index c.file-item.result (held (g.S.Shelf.seen c.loop-file.shelf).told) (held (g.S.Shelf.seen c.write_all.new.shelf).told) c.loop-file-test.true c.file-item.is
    (cut-off (named_text c.file-item.result) c.deref.result.now c.deref-in-loop-file.result.now (g.S.Shelf.seen c.loop-file.shelf).told (g.S.Shelf.seen c.write_all.new.shelf).told c.deref.ensures c.deref-in-loop-file.ensures.value c.write_all.ensures.others c.in-Err-Fault.ensures.prefix))

pub returns-in-Err-Fault-clause-others : goal.returns-in-Err-Fault-clause-others
returns-in-Err-Fault-clause-others g c = λ name none.
    let b = none-at c.args.files.now name c.loop-file.file-index c.file-item.result c.loop-file-test.true c.file-item.is none in
    let b' : bytes_eq name c.deref.result.now ≡ false = subst (λ n. bytes_eq name n ≡ false) (sym c.deref.ensures) b in
    c.write_all.ensures.others.others name (other-name name c.deref.result.now b') ∙ c.loop-file.invariant.others name none

pub loop-file-preserved : goal.loop-file-preserved
loop-file-preserved g c =
    let one-written : Tells (g.S.Shelf.seen c.args.shelf.now).told → held (g.S.Shelf.seen c.write_all.new.shelf).told ≡ with_file (named_text c.file-item.result) (held (g.S.Shelf.seen c.loop-file.shelf).told) = λ tells.
    let now : Tells (g.S.Shelf.seen c.loop-file.shelf).told = c.loop-file.invariant.tells ∙ tells in
    with_file-held (named_text c.file-item.result) (held (g.S.Shelf.seen c.loop-file.shelf).told) (held (g.S.Shelf.seen c.write_all.new.shelf).told)
    (ap (held (g.S.Shelf.seen c.write_all.new.shelf).told) (sym c.deref.ensures) ∙ (c.in-Ok.ensures.whole now ∙ ap (λ text. Some text) c.deref-in-loop-file.ensures.value))
    (λ other ne. c.write_all.ensures.others.others other (λ p. ne (p ∙ c.deref.ensures))) in
    record {
      written = λ tells. written-more c.args.files.now c.loop-file.file-index c.file-item.result (held (g.S.Shelf.seen c.loop-file.shelf).told) (held (g.S.Shelf.seen c.write_all.new.shelf).told) c.loop-file-test.true c.file-item.is (one-written tells) ∙ c.loop-file.invariant.written tells;
      cut = λ tells place new h. c.loop-file.invariant.cut tells place new (cut-later c.args.files.now c.loop-file.file-index c.file-item.result (held (g.S.Shelf.seen c.loop-file.shelf).told) (held (g.S.Shelf.seen c.write_all.new.shelf).told) new place c.loop-file-test.true c.file-item.is (one-written tells) h);
      others = λ name none.
          let b = none-at c.args.files.now name c.loop-file.file-index c.file-item.result c.loop-file-test.true c.file-item.is none in
          let b' : bytes_eq name c.deref.result.now ≡ false = subst (λ n. bytes_eq name n ≡ false) (sym c.deref.ensures) b in
          c.write_all.ensures.others.others name (other-name name c.deref.result.now b') ∙ c.loop-file.invariant.others name none;
      tells = c.write_all.ensures.others.tells ∙ c.loop-file.invariant.tells;
      write_faults = c.in-Ok.ensures.no_fault ∙ c.loop-file.invariant.write_faults;
      quiet = quiet-trans _ _ _ c.loop-file.invariant.quiet (record { read_faults = c.write_all.ensures.read_faults; misses = c.write_all.ensures.misses });
    }

pub returns-in-Err-Fault-clause-quiet : goal.returns-in-Err-Fault-clause-quiet
returns-in-Err-Fault-clause-quiet g c = quiet-trans _ _ _ c.loop-file.invariant.quiet (record { read_faults = c.write_all.ensures.read_faults; misses = c.write_all.ensures.misses })
