use Rattle.std.proofs.Common.{◌≡◌, [], ◌∷◌, ◌++◌, ◌∙◌, ap, map}
use Rattle.pf_model.specs.Texts.{mesh_node_text, mesh_ele_text}
use Rattle.table_text.specs.Part.{part_text_of}
use Rattle.pf_say.specs.declared.place.Place.TheVariants.{OutNode, OutEle, OutPart}
use Rattle.pf_say.specs.Shown.{stems_of}
use Rattle.pf_cmd.specs.Output.{named_text, written_to}
use Rattle.pf_cmd.proofs.replay.replay_output.Goals as goal

pub returns-clause-output : goal.returns-clause-output
returns-clause-output c = λ i. record { writes = (ap (map named_text) items ∙ all) i; report = c.in_ok-report.ensures i }
  where
    items : c.push-3.new.self.items ≡ c.in_ok-out_file.field-0 ∷ c.in_ok-out_file-2.field-0 ∷ c.in_ok-out_file-3.field-0 ∷ []
    items =
        c.in_ok-push-3.ensures.items
        ∙ ap (λ files. files ++ c.in_ok-out_file-3.field-0 ∷ [])
        (c.in_ok-push-2.ensures.items
        ∙ ap (λ files. files ++ c.in_ok-out_file-2.field-0 ∷ []) (c.in_ok-push.ensures.items ∙ ap (λ files. files ++ c.in_ok-out_file.field-0 ∷ []) c.new-files.ensures.items))

    node : named_text c.in_ok-out_file.field-0 ≡ written_to (stems_of c.args.stems) OutNode (mesh_node_text c.args.after.now.base c.args.after.now.mesh.mesh)
    node = c.in_ok-out_file.ensures ∙ ap (written_to (stems_of c.args.stems) OutNode) c.in_ok-node_text.ensures

    ele : named_text c.in_ok-out_file-2.field-0 ≡ written_to (stems_of c.args.stems) OutEle (mesh_ele_text c.args.after.now.base c.args.after.now.mesh.mesh)
    ele = c.in_ok-out_file-2.ensures ∙ ap (written_to (stems_of c.args.stems) OutEle) c.in_ok-ele_text.ensures

    part : named_text c.in_ok-out_file-3.field-0 ≡ written_to (stems_of c.args.stems) OutPart (part_text_of c.args.after.now.mesh.mesh.tris)
    part = c.in_ok-out_file-3.ensures ∙ ap (written_to (stems_of c.args.stems) OutPart) c.in_ok-part_text.ensures

    all : named_text c.in_ok-out_file.field-0 ∷ named_text c.in_ok-out_file-2.field-0 ∷ named_text c.in_ok-out_file-3.field-0 ∷ [] ≡ written_to (stems_of c.args.stems) OutNode (mesh_node_text c.args.after.now.base c.args.after.now.mesh.mesh) ∷ written_to (stems_of c.args.stems) OutEle (mesh_ele_text c.args.after.now.base c.args.after.now.mesh.mesh) ∷ written_to (stems_of c.args.stems) OutPart (part_text_of c.args.after.now.mesh.mesh.tris) ∷ []
    all = λ i. node i ∷ ele i ∷ part i ∷ []
