use Rattle.std.proofs.Common.{◌≡◌, [], ◌∷◌, ◌++◌, ◌∙◌, ap, map}
use Rattle.pf_model.specs.Texts.{mesh_node_text, mesh_ele_text, journal_text, rest_text}
use Rattle.pf_model.specs.Wishes.{rest_of}
use Rattle.table_text.specs.Part.{part_text_of}
use Rattle.pf_say.specs.declared.place.Place.TheVariants.{OutNode, OutEle, OutPart, OutJournal, OutRest}
use Rattle.pf_say.specs.Shown.{stems_of}
use Rattle.pf_cmd.specs.Output.{named_text, written_to}
use Rattle.pf_cmd.proofs.adapt.adapt_output.Goals as goal

pub returns-clause-output : goal.returns-clause-output
returns-clause-output c = λ i. record { writes = (ap (map named_text) items ∙ all) i; report = c.in_ok-report.ensures i }
  where
    three : c.push-3.new.self.items ≡ c.in_ok-out_file.field-0 ∷ c.in_ok-out_file-2.field-0 ∷ c.in_ok-out_file-3.field-0 ∷ []
    three =
        c.in_ok-push-3.ensures.items
        ∙ ap (λ files. files ++ c.in_ok-out_file-3.field-0 ∷ [])
        (c.in_ok-push-2.ensures.items
        ∙ ap (λ files. files ++ c.in_ok-out_file-2.field-0 ∷ []) (c.in_ok-push.ensures.items ∙ ap (λ files. files ++ c.in_ok-out_file.field-0 ∷ []) c.new-files.ensures.items))

    items : c.push-5.new.self.items ≡ c.in_ok-out_file.field-0 ∷ c.in_ok-out_file-2.field-0 ∷ c.in_ok-out_file-3.field-0 ∷ c.in_ok-out_file-4.field-0 ∷ c.in_ok-out_file-5.field-0 ∷ []
    items =
        c.in_ok-push-5.ensures.items
        ∙ ap (λ files. files ++ c.in_ok-out_file-5.field-0 ∷ [])
        (c.in_ok-push-4.ensures.items ∙ ap (λ files. files ++ c.in_ok-out_file-4.field-0 ∷ []) three)

    node : named_text c.in_ok-out_file.field-0 ≡ written_to (stems_of c.args.stems) OutNode (mesh_node_text c.args.after.now.base c.args.after.now.adapted.mesh.mesh)
    node = c.in_ok-out_file.ensures ∙ ap (written_to (stems_of c.args.stems) OutNode) c.in_ok-node_text.ensures

    ele : named_text c.in_ok-out_file-2.field-0 ≡ written_to (stems_of c.args.stems) OutEle (mesh_ele_text c.args.after.now.base c.args.after.now.adapted.mesh.mesh)
    ele = c.in_ok-out_file-2.ensures ∙ ap (written_to (stems_of c.args.stems) OutEle) c.in_ok-ele_text.ensures

    part : named_text c.in_ok-out_file-3.field-0 ≡ written_to (stems_of c.args.stems) OutPart (part_text_of c.args.after.now.adapted.mesh.mesh.tris)
    part = c.in_ok-out_file-3.ensures ∙ ap (written_to (stems_of c.args.stems) OutPart) c.in_ok-part_text.ensures

    journal : named_text c.in_ok-out_file-4.field-0 ≡ written_to (stems_of c.args.stems) OutJournal (journal_text c.args.after.now.adapted.journal.items)
    journal = c.in_ok-out_file-4.ensures ∙ ap (written_to (stems_of c.args.stems) OutJournal) (c.in_ok-journal_text.ensures ∙ ap journal_text c.deref.ensures.value)

    rest : named_text c.in_ok-out_file-5.field-0 ≡ written_to (stems_of c.args.stems) OutRest (rest_text (rest_of c.args.after.now.adapted.mesh.mesh))
    rest = c.in_ok-out_file-5.ensures ∙ ap (written_to (stems_of c.args.stems) OutRest) (c.in_ok-rest_text.ensures ∙ ap rest_text (c.deref-2.ensures.value ∙ c.requires.rest))

    all : named_text c.in_ok-out_file.field-0 ∷ named_text c.in_ok-out_file-2.field-0 ∷ named_text c.in_ok-out_file-3.field-0 ∷ named_text c.in_ok-out_file-4.field-0 ∷ named_text c.in_ok-out_file-5.field-0 ∷ [] ≡ written_to (stems_of c.args.stems) OutNode (mesh_node_text c.args.after.now.base c.args.after.now.adapted.mesh.mesh) ∷ written_to (stems_of c.args.stems) OutEle (mesh_ele_text c.args.after.now.base c.args.after.now.adapted.mesh.mesh) ∷ written_to (stems_of c.args.stems) OutPart (part_text_of c.args.after.now.adapted.mesh.mesh.tris) ∷ written_to (stems_of c.args.stems) OutJournal (journal_text c.args.after.now.adapted.journal.items) ∷ written_to (stems_of c.args.stems) OutRest (rest_text (rest_of c.args.after.now.adapted.mesh.mesh)) ∷ []
    all = λ i. node i ∷ ele i ∷ part i ∷ journal i ∷ rest i ∷ []
