use Rattle.std.proofs.Common.{◌≡◌, List, [], ◌∷◌, refl, sym, ◌∙◌, ap, subst, Ok, inl, inr, map}
use Rattle.std.proofs.lemmas.Result.{err_from_is_err_and}
use Rattle.pf_shelf.specs.Count.{Rose}
use Rattle.pf_shelf.specs.Files.{Tells, held}
use Rattle.pf_say.specs.declared.place.Place.TheVariants.{Node, Ele, Part, Size, OutNode, OutEle, OutPart, OutJournal, OutRest}
use Rattle.pf_say.specs.Shown.{stems_of}
use Rattle.pf_cmd.specs.declared.words.Task.TheVariants.{Adapt}
use Rattle.pf_cmd.specs.Input.{◌>>=◌}
use Rattle.pf_cmd.specs.Output.{Given, named_text, given_of, written, IsNoneOf}
use Rattle.pf_cmd.specs.Commands.{Command, to_adapt, budgeted_in, input_in, adapt_texts, adapt_given}
use Rattle.pf_cmd.specs.CutOff.{IsCutAt}
use Rattle.pf_cmd.specs.Ends.{IsGiven}
use Rattle.pf_cmd.proofs.Reading.{explains-then, held-before, tells-before, memory-explains, quiet-trans}
use Rattle.pf_cmd.proofs.OutputLemmas.{none-of}
use Rattle.pf_cmd.proofs.perform.perform_adapt.Goals as goal

pub returns-in_err-after-clause-stops : goal.returns-in_err-after-clause-stops
returns-in_err-after-clause-stops g c =
    let p = err_from_is_err_and c.from_residual.result c.from_residual.ensures.1 in
    rw (p.1, p.2)
    (inr (record {
      explained = explains-then (Node ∷ Ele ∷ Part ∷ Size ∷ []) (Node ∷ Ele ∷ Part ∷ Size ∷ []) _ _ _ (budgeted_in c.args.work.ops c.args.scale) (λ f input. Ok (to_adapt input)) _ (λ q a. a) c.in_err-after.ensures.stop;
      only_read = c.in_err-after.ensures.only_read;
    }))

pub returns-in_err-output-clause-stops : goal.returns-in_err-output-clause-stops
returns-in_err-output-clause-stops g c =
    let p = err_from_is_err_and c.from_residual-in_err-output.result c.from_residual-in_err-output.ensures.1 in
    rw (p.1, p.2)
    (inr (record {
      explained = memory-explains (Node ∷ Ele ∷ Part ∷ Size ∷ []) _ _ _ (input_in (record { task = Adapt c.args.work.workers c.args.work.ops c.args.work.turns; stems = stems_of c.args.stems; scale = c.args.scale })) _ c.in_err-output.ensures.memory c.in_ok-after.ensures.quiet;
      only_read = c.in_ok-after.ensures.only_read;
    }))

pub returns-clause-stops : goal.returns-clause-stops
returns-clause-stops g c =
    inl (record {
      place = c.in-Err.place;
      named = refl;
      fault = subst (λ n. Rose n (g.S.Shelf.seen c.write_files.new.shelf).write_faults) c.in_ok-after.ensures.only_read.write_faults c.in-Err.ensures.fault;
      halted = λ tells. record {
        given = given_of c.in_ok-output.output;
        is_given =
            let after = c.in_ok-after.ensures.refined tells in
            record {
              input = to_adapt after.input;
              is_input = ap (λ r. r >>= (λ input. Ok (to_adapt input))) after.is_input;
              may = (c.in_ok-after.after.adapted.journal.items, after.adapted, c.in_ok-output.ensures.output ∙ λ i. adapt_texts (stems_of c.args.stems) (after.base i) (after.mesh i) c.in_ok-after.after.adapted.journal.items);
            };
        cut =
            subst (λ look. IsCutAt (map named_text c.in_ok-output.output.files.items) look (held (g.S.Shelf.seen c.write_files.new.shelf).told) c.in-Err.place) (held-before (g.S.Shelf.seen c.args.shelf.now) (g.S.Shelf.seen c.refine.new.shelf) c.in_ok-after.ensures.only_read.files)
            (subst (λ files. IsCutAt (map named_text files) (held (g.S.Shelf.seen c.refine.new.shelf).told) (held (g.S.Shelf.seen c.write_files.new.shelf).told) c.in-Err.place) c.deref.ensures.value
            (c.in-Err.ensures.cut (tells-before _ _ c.in_ok-after.ensures.only_read.files tells)));
      };
      quiet = quiet-trans _ _ _ c.in_ok-after.ensures.quiet c.write_files.ensures.quiet;
    })

pub returns-clause-others : goal.returns-clause-others
returns-clause-others g c = λ name h.
    c.write_files.ensures.others name
    (subst (λ ws. IsNoneOf ws name) (sym (ap (map named_text) c.deref.ensures.value ∙ ap (λ (given : Given). given.writes) c.in_ok-output.ensures.output)) (none-of (stems_of c.args.stems) (OutNode ∷ OutEle ∷ OutPart ∷ OutJournal ∷ OutRest ∷ []) (adapt_texts (stems_of c.args.stems) c.in_ok-after.after.base c.in_ok-after.after.adapted.mesh.mesh c.in_ok-after.after.adapted.journal.items).writes name refl h))
    ∙ c.in_ok-after.ensures.only_read.files.same name

pub returns-in-Ok-clause-others : goal.returns-in-Ok-clause-others
returns-in-Ok-clause-others g c = λ name h.
    c.write_files.ensures.others name
    (subst (λ ws. IsNoneOf ws name) (sym (ap (map named_text) c.deref.ensures.value ∙ ap (λ (given : Given). given.writes) c.in_ok-output.ensures.output)) (none-of (stems_of c.args.stems) (OutNode ∷ OutEle ∷ OutPart ∷ OutJournal ∷ OutRest ∷ []) (adapt_texts (stems_of c.args.stems) c.in_ok-after.after.base c.in_ok-after.after.adapted.mesh.mesh c.in_ok-after.after.adapted.journal.items).writes name refl h))
    ∙ c.in_ok-after.ensures.only_read.files.same name

pub returns-in-Ok-clause-done : goal.returns-in-Ok-clause-done
returns-in-Ok-clause-done g c = record {
  done = λ tells. record {
    given = given_of c.in_ok-output.output;
    is_given =
        let after = c.in_ok-after.ensures.refined tells in
        record {
          input = to_adapt after.input;
          is_input = ap (λ r. r >>= (λ input. Ok (to_adapt input))) after.is_input;
          may = (c.in_ok-after.after.adapted.journal.items, after.adapted, c.in_ok-output.ensures.output ∙ λ i. adapt_texts (stems_of c.args.stems) (after.base i) (after.mesh i) c.in_ok-after.after.adapted.journal.items);
        };
    files = λ name.
        c.in-Ok.ensures.written (tells-before _ _ c.in_ok-after.ensures.only_read.files tells) name
        ∙ (ap (λ files. written (map named_text files) (held (g.S.Shelf.seen c.refine.new.shelf).told) name) c.deref.ensures.value
        ∙ ap (λ look. written (map named_text c.in_ok-output.output.files.items) look name) (held-before (g.S.Shelf.seen c.args.shelf.now) (g.S.Shelf.seen c.refine.new.shelf) c.in_ok-after.ensures.only_read.files));
    says = refl;
  };
  fileless = tt;
  quiet = quiet-trans _ _ _ c.in_ok-after.ensures.quiet c.write_files.ensures.quiet;
  write_faults = c.in-Ok.ensures.no_fault ∙ c.in_ok-after.ensures.only_read.write_faults;
}
