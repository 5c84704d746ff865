-- A view learns something, and nothing else changes: the state stays sound.
use Rattle.std.proofs.Common.{◌≡◌, ℕ, ◌<◌, List, length, set, refl, sym, ap, ◌∙◌, subst, ⊎_elim, arith}
use Rattle.std.specs.Prelude.{slice_index, Some}
use mathlib.Core.Option.{some}
use lib.ListN.{get_elem?}
use Rattle.pf_model.specs.declared.Op.{Op}
use Rattle.pf_model.specs.declared.Cond.{Cond}
use Rattle.pf_model.specs.declared.Entry.{Entry}
use Rattle.pf_model.specs.Conditions.{first_failing}
use Rattle.pf_core_model.specs.declared.view.View.{View}
use Rattle.pf_core_model.specs.declared.view.Mark.{Mark}
use Rattle.pf_core_model.specs.Moves.{lost_to, found_dead, found_never, noted, refused, seen_at, failed_at}
use Rattle.pf_core_model.specs.Core.{Opening, names_of, mesh_after, star_after, IsPairOf, IsTrueMark, IsTrueRefusal, Fits, Homes, Sound}
use Rattle.pf_core_model.proofs.Lists.{take_all}
use Rattle.pf_core_model.proofs.Views.{learns}

module _ (o : Opening) (words : List ℕ) (homes : Homes) (views : List View) (log : List Entry) (s : Sound o words homes views log) where
  -- a try that isn't won
  pub loses : (id n k : ℕ) (v : View) → get_elem? views id ≡ some v → Sound o words homes (set views id (lost_to v n k)) log
  loses id n k v at = let f = s.fits id v at in
      learns o words homes views log s id v (lost_to v n k) at refl refl refl refl refl
      record { knows = f.knows; below = f.below; spent = f.spent; near = f.near; own = f.own; pairs = f.pairs; once = f.once; unborn = f.unborn; done = f.done; seen = f.seen; dead = f.dead; refusals = f.refusals; marks = f.marks }

  pub finds_dead : (id n : ℕ) (v : View) → get_elem? views id ≡ some v → n < names_of o → slice_index words n ≡ 1 → Sound o words homes (set views id (found_dead v n)) log
  finds_dead id n v at near is = let f = s.fits id v at in
      learns o words homes views log s id v (found_dead v n) at refl refl refl refl refl
      record {
        knows = f.knows;
        below = f.below;
        spent = f.spent;
        near = f.near;
        own = f.own;
        pairs = f.pairs;
        once = f.once;
        unborn = f.unborn;
        done = f.done;
        seen = f.seen;
        dead = λ m. ⊎_elim (λ (e : m ≡ n). subst (λ (k : ℕ). (k < names_of o) × (slice_index words k ≡ 1)) (sym e) (near, is)) (f.dead m);
        refusals = f.refusals;
        marks = f.marks;
      }

  pub finds_never : (id n : ℕ) (v : View) → get_elem? views id ≡ some v → Sound o words homes (set views id (found_never v n)) log
  finds_never id n v at = let f = s.fits id v at in
      learns o words homes views log s id v (found_never v n) at refl refl refl refl refl
      record { knows = f.knows; below = f.below; spent = f.spent; near = f.near; own = f.own; pairs = f.pairs; once = f.once; unborn = f.unborn; done = f.done; seen = f.seen; dead = f.dead; refusals = f.refusals; marks = f.marks }

  -- the mark of what is held and was found dead is true now
  mark_now : (v : View) → Fits o words log v → (m : Mark) → m ≡ record { at = length log; pairs = v.held; gone = v.dead } → IsTrueMark o log m
  mark_now v f m is = subst (IsTrueMark o log) (sym is)
      record {
        at = omega arith;
        pairs = λ p h. subst (λ (l : List Entry). IsPairOf o l p) (sym (take_all log)) (f.pairs p h);
        gone = λ n h. let z = f.dead n h in ap (λ (l : List Entry). star_after o l n) (take_all log) ∙ (s.dead n z.0 z.1).gone;
      }

  pub notes : (id : ℕ) (v : View) → get_elem? views id ≡ some v → Sound o words homes (set views id (noted v (length log))) log
  notes id v at = let f = s.fits id v at in
      learns o words homes views log s id v (noted v (length log)) at refl refl refl refl refl
      record {
        knows = f.knows;
        below = f.below;
        spent = f.spent;
        near = f.near;
        own = f.own;
        pairs = f.pairs;
        once = f.once;
        unborn = f.unborn;
        dead = f.dead;
        refusals = f.refusals;
        done = λ e h. let x = f.done e h in let y = f.seen in let z = x.1 in (x.0, omega arith);
        seen = omega arith;
        marks = λ m. ⊎_elim (mark_now v f m) (f.marks m);
      }

  -- an operation that fails is judged
  pub refuses : (id : ℕ) (v : View) (chunk : ℕ) (op : Op) (why : Cond) → get_elem? views id ≡ some v → first_failing (mesh_after o log) chunk op ≡ Some why → Sound o words homes (set views id (refused v (length log) chunk op why)) log
  refuses id v chunk op why at fails = let f = s.fits id v at in
      learns o words homes views log s id v (refused v (length log) chunk op why) at refl refl refl refl refl
      record {
        knows = f.knows;
        below = f.below;
        spent = f.spent;
        near = f.near;
        own = f.own;
        pairs = f.pairs;
        once = f.once;
        unborn = f.unborn;
        dead = f.dead;
        done = λ e h. let x = f.done e h in let y = f.seen in let z = x.1 in (x.0, omega arith);
        seen = omega arith;
        refusals = λ r. ⊎_elim
            (λ (e : r ≡ record { at = length log; chunk = chunk; op = op; cond = why }). subst (IsTrueRefusal o log) (sym e)
            record { at = omega arith; fails = ap (λ (l : List Entry). first_failing (mesh_after o l) chunk op) (take_all log) ∙ fails })
            (f.refusals r);
        marks = λ m. ⊎_elim (mark_now v f m) (f.marks m);
      }

  -- the same without a mark
  pub sees : (id : ℕ) (v : View) → get_elem? views id ≡ some v → Sound o words homes (set views id (seen_at v (length log))) log
  sees id v at = let f = s.fits id v at in
      learns o words homes views log s id v (seen_at v (length log)) at refl refl refl refl refl
      record {
        knows = f.knows;
        below = f.below;
        spent = f.spent;
        near = f.near;
        own = f.own;
        pairs = f.pairs;
        once = f.once;
        unborn = f.unborn;
        dead = f.dead;
        refusals = f.refusals;
        done = λ e h. let x = f.done e h in let y = f.seen in let z = x.1 in (x.0, omega arith);
        seen = omega arith;
        marks = f.marks;
      }

  pub sees_failed : (id : ℕ) (v : View) (chunk : ℕ) (op : Op) (why : Cond) → get_elem? views id ≡ some v → first_failing (mesh_after o log) chunk op ≡ Some why → Sound o words homes (set views id (failed_at v (length log) chunk op why)) log
  sees_failed id v chunk op why at failing = let f = s.fits id v at in
      learns o words homes views log s id v (failed_at v (length log) chunk op why) at refl refl refl refl refl
      record {
        knows = f.knows;
        below = f.below;
        spent = f.spent;
        near = f.near;
        own = f.own;
        pairs = f.pairs;
        once = f.once;
        unborn = f.unborn;
        dead = f.dead;
        done = λ e h. let x = f.done e h in let y = f.seen in let z = x.1 in (x.0, omega arith);
        seen = omega arith;
        refusals = λ r. ⊎_elim
            (λ (e : r ≡ record { at = length log; chunk = chunk; op = op; cond = why }). subst (IsTrueRefusal o log) (sym e)
            record { at = omega arith; fails = ap (λ (l : List Entry). first_failing (mesh_after o l) chunk op) (take_all log) ∙ failing })
            (f.refusals r);
        marks = f.marks;
      }
