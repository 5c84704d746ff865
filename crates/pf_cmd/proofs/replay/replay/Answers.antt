use Rattle.std.proofs.Common.{◌≡◌, ◌≢◌, List, [], ◌∷◌, length, arith, refl, sym, ◌∙◌, ap, Option, Some, None, Result, Ok, Err, inl, inr}
use Rattle.std.proofs.lemmas.Result.{err_from_is_err_and}
use Rattle.pf_model.specs.declared.Entry.{Entry}
use Rattle.pf_model.specs.Replay.{replayed, first_refusal, IsLegal}
use Rattle.pf_model.proofs.Replays.{legal-unrefused}
use Rattle.pf_model.specs.declared.FirstRefusal.{FirstRefusal}
use Rattle.pf_say.specs.declared.place.Place.TheVariants.{Node, Ele, Part, Size, Journal}
use Rattle.pf_say.specs.declared.stop.Stop.{Stop}
use Rattle.pf_say.specs.Shown.{stems_of}
use Rattle.pf_say.specs.Stop.{memory_stop}
use Rattle.pf_cmd.specs.Input.{HeldFiles, ◌>>=◌, Numbered, files_in, without, bytes_in, vertices_in, triangles_in, mesh_in, parts_in, partitioned_in, bands_in, numbered_in, entries_in}
use Rattle.pf_cmd.specs.Commands.{Journalled, IsRefused, passed, journalled_in}
use Rattle.pf_cmd.proofs.Reading.{explains-then, explains-later, reads-later, explained, quiet-trans}
use Rattle.pf_cmd.proofs.replay.replay.Goals as goal

-- the numbered mesh doesn't depend on the journal
apart : (scale : _) (f : HeldFiles) → numbered_in scale (without Journal f) ≡ numbered_in scale f
unfolding numbered_in bands_in partitioned_in parts_in mesh_in vertices_in triangles_in bytes_in
apart scale f = refl

-- a refusal is the reason to stop
refused-passed : {A : Type 0} (o : Option FirstRefusal) (x : A) (stop : Stop) → IsRefused o stop → passed o x ≡ Err stop
refused-passed None x stop h = absurd (let k = h in cc)
refused-passed (Some refusal) x stop h = let e : _ ≡ stop = (let k = h in cc) in ap (λ s. Err s) e

pub returns-in_err-base-clause-stop : goal.returns-in_err-base-clause-stop
unfolding journalled_in
returns-in_err-base-clause-stop g c =
    let p = err_from_is_err_and c.from_residual.result c.from_residual.ensures.1 in
    rw (p.1, p.2) (explains-then (Node ∷ Ele ∷ Part ∷ Size ∷ []) (Node ∷ Ele ∷ Part ∷ Size ∷ Journal ∷ []) _ _ _ (numbered_in c.args.scale) (λ f read. entries_in read.mesh.first_new f >>= (λ entries. passed (first_refusal read.mesh entries) (record { base = read.base; mesh = read.mesh; entries = entries }))) _ (λ q a. elim a [ inl e ↦ inl e | inr b ↦ elim b [ inl e ↦ inr (inl e) | inr d ↦ elim d [ inl e ↦ inr (inr (inl e)) | inr k ↦ elim k [ inl e ↦ inr (inr (inr (inl e))) | inr z ↦ absurd z ] ] ] ]) c.in_err-base.ensures.stop)

pub returns-in_err-entries-clause-stop : goal.returns-in_err-entries-clause-stop
unfolding journalled_in
returns-in_err-entries-clause-stop g c =
    let p = err_from_is_err_and c.from_residual-in_err-entries.result c.from_residual-in_err-entries.ensures.1 in
    let read : Numbered = record { base = c.in_ok-base.field-0.base; mesh = c.in_ok-base.field-0.mesh.mesh } in
    rw (p.1, p.2)
    (explains-later (Node ∷ Ele ∷ Part ∷ Size ∷ Journal ∷ []) Journal _ _ _ (stems_of c.args.stems) (numbered_in c.args.scale) read (λ read f. entries_in read.mesh.first_new f >>= (λ entries. passed (first_refusal read.mesh entries) (record { base = read.base; mesh = read.mesh; entries = entries }))) _ (apart c.args.scale) (inr (inr (inr (inr (inl refl))))) c.in_ok-base.ensures.only_read c.in_ok-base.ensures.quiet c.in_ok-base.ensures.mesh
    (explains-then (Journal ∷ []) (Journal ∷ []) _ _ _ (entries_in read.mesh.first_new) (λ f. (λ entries. passed (first_refusal read.mesh entries) (record { base = read.base; mesh = read.mesh; entries = entries }))) _ (λ q a. a) (rw (sym c.first_new.ensures.value) c.in_err-entries.ensures.stop)))

pub apply_all-requires-clause-fresh : goal.apply_all-requires-clause-fresh
apply_all-requires-clause-fresh g c = c.in_ok-base.ensures.fresh

pub returns-in_err-apply_all-clause-stop : goal.returns-in_err-apply_all-clause-stop
unfolding journalled_in
returns-in_err-apply_all-clause-stop g c =
    let p = err_from_is_err_and c.from_residual-in_err-apply_all.result c.from_residual-in_err-apply_all.ensures.1 in
    let read : Numbered = record { base = c.in_ok-base.field-0.base; mesh = c.in_ok-base.field-0.mesh.mesh } in
    rw (p.1, p.2)
    (explained (Node ∷ Ele ∷ Part ∷ Size ∷ Journal ∷ []) _ _ _ (journalled_in c.args.scale) _ c.in_err-apply_all.ensures.inner
    (λ ne tells.
    ap (λ r. r >>= (λ read. entries_in read.mesh.first_new (files_in (g.S.Shelf.seen c.args.shelf.now) (stems_of c.args.stems)) >>= (λ entries. passed (first_refusal read.mesh entries) (record { base = read.base; mesh = read.mesh; entries = entries })))) (c.in_ok-base.ensures.mesh tells)
    ∙ (ap (λ r. r >>= (λ entries. passed (first_refusal read.mesh entries) (record { base = read.base; mesh = read.mesh; entries = entries })))
    (reads-later _ _ (stems_of c.args.stems) (entries_in read.mesh.first_new) _ c.in_ok-base.ensures.only_read (rw (sym c.first_new.ensures.value) c.in_ok-entries.ensures.entries) tells)
    ∙ refused-passed _ _ _ (refused ne)))
    (quiet-trans _ _ _ c.in_ok-base.ensures.quiet c.in_ok-entries.ensures.quiet))
  where
    refused : c.in_err-apply_all.field-0.0 ≢ memory_stop → IsRefused (first_refusal c.in_ok-base.field-0.mesh.mesh c.in_ok-entries.entries.items) c.in_err-apply_all.field-0.0
    refused = rw (← c.deref.ensures.value) c.in_err-apply_all.ensures.stop

pub returns-clause-replayed : goal.returns-clause-replayed
unfolding journalled_in
returns-clause-replayed g c = λ tells.
    let read : Numbered = record { base = c.in_ok-base.field-0.base; mesh = c.in_ok-base.field-0.mesh.mesh } in
    record {
      input = record { base = read.base; mesh = read.mesh; entries = c.in_ok-entries.entries.items };
      is_input =
          ap (λ r. r >>= (λ read. entries_in read.mesh.first_new (files_in (g.S.Shelf.seen c.args.shelf.now) (stems_of c.args.stems)) >>= (λ entries. passed (first_refusal read.mesh entries) (record { base = read.base; mesh = read.mesh; entries = entries })))) (c.in_ok-base.ensures.mesh tells)
          ∙ (ap (λ r. r >>= (λ entries. passed (first_refusal read.mesh entries) (record { base = read.base; mesh = read.mesh; entries = entries })))
          (reads-later _ _ (stems_of c.args.stems) (entries_in read.mesh.first_new) _ c.in_ok-base.ensures.only_read (rw (sym c.first_new.ensures.value) c.in_ok-entries.ensures.entries) tells)
          ∙ ap (λ o. passed o (record { base = read.base; mesh = read.mesh; entries = c.in_ok-entries.entries.items })) none);
      legal = legal;
      base = refl;
      mesh = made;
      operations = count;
    }
  where
    legal : IsLegal c.in_ok-base.field-0.mesh.mesh c.in_ok-entries.entries.items
    legal = rw (← c.deref.ensures.value) c.in_ok-apply_all.ensures.legal

    none : first_refusal c.in_ok-base.field-0.mesh.mesh c.in_ok-entries.entries.items ≡ None
    none = legal-unrefused 0 _ _ c.first_new.ensures.conforming (λ n live. let b = c.in_ok-base.ensures.fresh n live in omega (arith, b)) legal

    made : c.apply_all.new.mesh.mesh ≡ replayed c.in_ok-base.field-0.mesh.mesh c.in_ok-entries.entries.items
    made = rw (← c.deref.ensures.value) c.in_ok-apply_all.ensures.all

    count : c.len-operations.result ≡ length c.in_ok-entries.entries.items
    count = omega (arith, c.in_ok-entries.entries.ok)

pub returns-clause-quiet : goal.returns-clause-quiet
returns-clause-quiet g c = quiet-trans _ _ _ c.in_ok-base.ensures.quiet c.in_ok-entries.ensures.quiet
