-- What an answer says where nobody else is.
use Rattle.std.proofs.Common.{◌≡◌, ℕ, ◌<◌, List, refl, sym, ◌∙◌, ap, subst, inl, inr, arith}
use Rattle.std.specs.Prelude.{Option, Some, None, IfSome, is_some, true, false}
use Rattle.std.proofs.Props.{props}
use Rattle.std.proofs.Math.Logic.{∥∥₁_elim}
use Rattle.pf_model.specs.declared.Band.{Band}
use Rattle.pf_model.specs.declared.Op.{Op}
use Rattle.pf_model.specs.declared.Cond.{Cond}
use Rattle.pf_model.specs.declared.Entry.{Entry}
use Rattle.pf_model.specs.Ends.{first_end, second_end}
use Rattle.pf_model.specs.Mesh.{Undivided}
use Rattle.pf_model.specs.Stars.{Star, star_of}
use Rattle.pf_star_model.specs.Lent.{Held}
use Rattle.pf_core_model.specs.Core.{Opening}
use Rattle.pf_holder.specs.Facts.{won_pair, IsSeen, IsJudged, mesh_alone, KnowsAll}
use Rattle.pf_holder.specs.Answers.{HoldsStar, HasStar, IsFailing, TellsOf, IsDoneAnswer, IsEntered}
use Rattle.pf_attempt.specs.Stages.{TellsProbe}
use Rattle.pf_core_model.specs.declared.answer.Answer.{Answer}
use Rattle.pf_core_model.specs.declared.answer.Answer.TheVariants.{Done, Refused, Busy, Gone, Unborn, Spent, Memory}

-- a star that is held is there on a mesh that agrees
star_there : (bands : List Band) (ps : List Held) (n : ℕ) (m : Undivided) → IsSeen bands ps m → HoldsStar ps n → HasStar m n
star_there bands ps n m s a = ap (λ (o : Option Star). is_some o) (sym (s.shown (won_pair n a.0) a.1))

-- what is judged is so on the mesh of one who is alone
failing_seen : (bands : List Band) (ps : List Held) (chunk : ℕ) (op : Op) (x : Option Cond) (m : Undivided) → HoldsStar ps (first_end op) → HoldsStar ps (second_end op) → IsJudged bands ps chunk op x → IsSeen bands ps m → IsFailing m chunk op x
failing_seen bands ps chunk op x m a b j s = (star_there bands ps (first_end op) m s a, star_there bands ps (second_end op) m s b, j m s)

pub failing_alone : (o : Opening) (ps : List Held) (allowance : ℕ) (entries : List Entry) (chunk : ℕ) (op : Op) (x : Option Cond) → ∥ KnowsAll o ps allowance entries ∥₁ → HoldsStar ps (first_end op) → HoldsStar ps (second_end op) → IsJudged o.mesh.bands ps chunk op x → IsFailing (mesh_alone o entries) chunk op x
failing_alone o ps allowance entries chunk op x k a b j = ∥∥₁_elim k (hlevel props) (λ (z : KnowsAll o ps allowance entries). failing_seen o.mesh.bands ps chunk op x (mesh_alone o entries) a b j z.seen)

pub tells_from : (o o' : Opening) (es es' : List Entry) (chunk : ℕ) (op : Op) (a : Answer) → o ≡ o' → es ≡ es' → TellsOf (mesh_alone o es) chunk op a → TellsOf (mesh_alone o' es') chunk op a
tells_from o o' es es' chunk op a e f t = subst (λ (x : List Entry). TellsOf (mesh_alone o' x) chunk op a) f (subst (λ (x : Opening). TellsOf (mesh_alone x es) chunk op a) e t)

clash : (m : Undivided) (n : ℕ) → HasStar m n → star_of m n ≡ None → ⊥
clash m n h e = absurd (let k : false ≡ true = sym (ap (λ (o : Option Star). is_some o) e) ∙ h in cc)

-- where the operation passes it is done, unless no memory is left
pub done_where : (m : Undivided) (chunk : ℕ) (op : Op) (rich : ℕ) (before : List Entry) (left : ℕ) (after : List Entry) (a : Answer) → TellsOf m chunk op a → IsEntered chunk op rich before left after a → 0 < rich → IsFailing m chunk op None → IsDoneAnswer a
done_where m chunk op rich before left after (Done t) h e r p = tt
done_where m chunk op rich before left after (Refused t why) h e r p = absurd (let k : None ≡ Some why = sym p.2 ∙ h.2 in cc)
done_where m chunk op rich before left after (Busy t n k) h e r p = absurd h
done_where m chunk op rich before left after (Gone t n) h e r p = elim h.0 [ inl f ↦ absurd (clash m (first_end op) p.0 (ap (star_of m) (sym f) ∙ h.1)) | inr f ↦ absurd (clash m (second_end op) p.1 (ap (star_of m) (sym f) ∙ h.1)) ]
done_where m chunk op rich before left after (Unborn n) h e r p = elim h.0 [ inl f ↦ absurd (clash m (first_end op) p.0 (ap (star_of m) (sym f) ∙ h.1)) | inr f ↦ absurd (clash m (second_end op) p.1 (ap (star_of m) (sym f) ∙ h.1)) ]
done_where m chunk op rich before left after Spent h e r p = absurd (zero_not rich e.0 r)
  where
    zero_not : (k : ℕ) → k ≡ 0 → 0 < k → ⊥
    zero_not k e l = omega (arith, e, l)
done_where m chunk op rich before left after Memory h e r p = tt

pub failing_from : (o o' : Opening) (es es' : List Entry) (chunk : ℕ) (op : Op) (x : Option Cond) → o ≡ o' → es ≡ es' → IsFailing (mesh_alone o es) chunk op x → IsFailing (mesh_alone o' es') chunk op x
failing_from o o' es es' chunk op x e f t = subst (λ (l : List Entry). IsFailing (mesh_alone o' l) chunk op x) f (subst (λ (p : Opening). IsFailing (mesh_alone p es) chunk op x) e t)

-- what is said of an operation that is asked about, by cases
pub probe_told : (m : Undivided) (chunk : ℕ) (op : Op) (o : Option Answer) → (o ≡ None → IsFailing m chunk op None) → IfSome o (λ x. TellsOf m chunk op x) → TellsProbe m chunk op o
probe_told m chunk op None f t = f refl
probe_told m chunk op (Some a) f t = t
