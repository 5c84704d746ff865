use Rattle.std.proofs.Common.{◌≡◌, ℕ, ◌+◌, ◌≤◌, refl, sym, ap, subst, arith}
use Rattle.pf_model.specs.declared.Op.{Op}
use Rattle.pf_model.specs.declared.Op.TheVariants.{Flip, Bisect, Contract}
use Rattle.pf_model.specs.Mesh.{Undivided}
use Rattle.pf_model.specs.Applied.{IsFresh, op_applied}
use Rattle.pf_model.proofs.ReplayKeeps.{applied_fresh}
use Rattle.mesh_tests.proofs.tests.apply.Goals as goal

same_first : (m : Undivided) (t : ℕ) (op : Op) → (op_applied m t op).first_new ≡ m.first_new
same_first m t (Flip a b) = refl
same_first m t (Bisect a b) = refl
same_first m t (Contract u v) = refl

later : (m : Undivided) (t : ℕ) → IsFresh m t → IsFresh m (t + 1)
later m t f n l = let h = f n l in omega (arith, h)

next : (m : Undivided) (t : ℕ) (op : Op) → IsFresh m t → IsFresh (op_applied m t op) (t + 1)
next m t op f n l = let h = applied_fresh m t op f n l in omega (arith, h)

pub returns-in-Ok-clause-fresh : goal.returns-in-Ok-clause-fresh
returns-in-Ok-clause-fresh c = let P : Undivided → Type 0 = λ m. IsFresh m (c.args.ticket + 1) in subst P (sym c.in-Ok.ensures.applied) (next c.args.mesh.now.mesh c.args.ticket c.args.op c.requires.fresh)

pub returns-in-Ok-clause-few : goal.returns-in-Ok-clause-few
returns-in-Ok-clause-few c = let e = ap (λ (m : Undivided). m.first_new) c.in-Ok.ensures.applied in let f = same_first c.args.mesh.now.mesh c.args.ticket c.args.op in let g = c.requires.few in omega (arith, e, f, g)

pub returns-in-Err-clause-fresh : goal.returns-in-Err-clause-fresh
returns-in-Err-clause-fresh c = let P : Undivided → Type 0 = λ m. IsFresh m (c.args.ticket + 1) in subst P (sym c.in-Err.ensures.err) (later c.args.mesh.now.mesh c.args.ticket c.requires.fresh)

pub returns-in-Err-clause-few : goal.returns-in-Err-clause-few
returns-in-Err-clause-few c = let P : Undivided → Type 0 = λ m. m.first_new ≤ 1000 in subst P (sym c.in-Err.ensures.err) c.requires.few
