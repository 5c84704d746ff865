use Rattle.std.proofs.Common.{◌≡◌, ◌∙◌, ap, subst}
use Rattle.std.proofs.lemmas.Result.{err_from_is_err_and}
use Rattle.pf_shelf.specs.Sink.{extended, GainsPrefix}
use Rattle.pf_say.specs.Place.{stem_of, ending_of, name_of}
use Rattle.pf_say.specs.Shown.{stems_of}
use Rattle.pf_cmd.proofs.Said.{extended-twice, gains-front, gains-back}
use Rattle.pf_cmd.proofs.say.say_named.Goals as goal

pub returns-in_err-say_all-2-clause-prefix : goal.returns-in_err-say_all-2-clause-prefix
returns-in_err-say_all-2-clause-prefix g c =
    let p = err_from_is_err_and c.from_residual-in_err-say_all-2.result c.from_residual-in_err-say_all-2.ensures.1 in
    let stem : c.as_bytes.result.now ≡ stem_of (stems_of c.args.stems) c.args.place = c.as_bytes.ensures.value ∙ c.stem.ensures in
    let ending : c.as_bytes-2.result.now ≡ ending_of c.args.place = c.as_bytes-2.ensures.value ∙ c.ending.ensures in
    rw p.1
    (gains-front (name_of (stems_of c.args.stems) c.args.place) c.args.words.now _ _
    (gains-back (stem_of (stems_of c.args.stems) c.args.place) (ending_of c.args.place) _ (g.K.Sink.heard c.say_all.new.sink).told _
    (c.in_ok-say_all.ensures.whole ∙ ap (extended (g.K.Sink.heard c.args.out.now).told) stem)
    (subst (λ b. GainsPrefix b (g.K.Sink.heard c.say_all.new.sink).told (g.K.Sink.heard c.say_all-2.new.sink).told) ending c.in_err-say_all-2.ensures.prefix)))

pub returns-in_err-say_all-3-clause-prefix : goal.returns-in_err-say_all-3-clause-prefix
returns-in_err-say_all-3-clause-prefix g c =
    let p = err_from_is_err_and c.from_residual-in_err-say_all-3.result c.from_residual-in_err-say_all-3.ensures.1 in
    let stem : c.as_bytes.result.now ≡ stem_of (stems_of c.args.stems) c.args.place = c.as_bytes.ensures.value ∙ c.stem.ensures in
    let ending : c.as_bytes-2.result.now ≡ ending_of c.args.place = c.as_bytes-2.ensures.value ∙ c.ending.ensures in
    rw p.1
    (gains-back (name_of (stems_of c.args.stems) c.args.place) c.args.words.now _ (g.K.Sink.heard c.say_all-2.new.sink).told _
    (c.in_ok-say_all-2.ensures.whole
    ∙ (ap (extended (g.K.Sink.heard c.say_all.new.sink).told) ending
    ∙ (ap (λ m. extended m (ending_of c.args.place)) (c.in_ok-say_all.ensures.whole ∙ ap (extended (g.K.Sink.heard c.args.out.now).told) stem)
    ∙ extended-twice (g.K.Sink.heard c.args.out.now).told (stem_of (stems_of c.args.stems) c.args.place) (ending_of c.args.place))))
    c.in_err-say_all-3.ensures.prefix)

pub returns-clause-said : goal.returns-clause-said
returns-clause-said g c =
    let stem : c.as_bytes.result.now ≡ stem_of (stems_of c.args.stems) c.args.place = c.as_bytes.ensures.value ∙ c.stem.ensures in
    let ending : c.as_bytes-2.result.now ≡ ending_of c.args.place = c.as_bytes-2.ensures.value ∙ c.ending.ensures in
    c.in_ok-say_all-3.ensures.whole
    ∙ (ap (λ m. extended m c.args.words.now)
    (c.in_ok-say_all-2.ensures.whole
    ∙ (ap (extended (g.K.Sink.heard c.say_all.new.sink).told) ending
    ∙ (ap (λ m. extended m (ending_of c.args.place)) (c.in_ok-say_all.ensures.whole ∙ ap (extended (g.K.Sink.heard c.args.out.now).told) stem)
    ∙ extended-twice (g.K.Sink.heard c.args.out.now).told (stem_of (stems_of c.args.stems) c.args.place) (ending_of c.args.place))))
    ∙ extended-twice (g.K.Sink.heard c.args.out.now).told (name_of (stems_of c.args.stems) c.args.place) c.args.words.now)
