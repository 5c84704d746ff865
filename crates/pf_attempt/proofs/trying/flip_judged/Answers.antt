use Rattle.pf_attempt.proofs.trying.flip_judged.Goals as goal

pub returns : goal.returns
returns g c = c.judge.ensures.value (g.H.Holder.opening c.args.h.now).mesh.bands
