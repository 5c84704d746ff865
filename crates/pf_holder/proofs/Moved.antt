-- An answer that is right of a part of a call is right of the whole.
use Rattle.std.proofs.Common.{◌≡◌, ℕ, ◌≤◌, ◌<◌, List, subst, inl, inr, arith}
use Rattle.pf_model.specs.declared.Op.{Op}
use Rattle.pf_core_model.specs.declared.view.Mark.{Mark}
use Rattle.pf_model.specs.declared.Entry.{Entry}
use Rattle.pf_model.specs.Ends.{first_end, second_end}
use Rattle.pf_core_model.specs.Core.{Opening, names_of}
use Rattle.pf_core_model.specs.Right.{Gain, mark}
use Rattle.pf_holder.specs.Answers.{IsBacked, IsMarkOf, IsEntered, AreEndsNames, FoundNothing, IsJudgedAnswer}
use Rattle.pf_core_model.specs.declared.answer.Answer.{Answer}
use Rattle.pf_core_model.specs.declared.answer.Answer.TheVariants.{Done, Refused, Busy, Gone, Unborn, Spent, Memory}

pub mark_moved : (t : ℕ) (G G' : Gain → Type 0) (P : Mark → Type 0) → ((x : Gain) → G x → G' x) → IsMarkOf t G P → IsMarkOf t G' P
mark_moved t G G' P f k = (k.0, k.1, f (mark k.0) k.2, k.3)

pub right_moved : (o : Opening) (chunk : ℕ) (op : Op) (s s' : ℕ) (G G' : Gain → Type 0) (a : Answer) → s' ≤ s → ((x : Gain) → G x → G' x) → IsBacked o chunk op s G a → IsBacked o chunk op s' G' a
right_moved o chunk op s s' G G' (Done t) l f r = (let k : s ≤ t = r in omega (arith, k, l))
right_moved o chunk op s s' G G' (Refused t why) l f r = ((let k = r.0 in omega (arith, k, l)), f _ r.1, mark_moved t G G' _ f r.2)
right_moved o chunk op s s' G G' (Busy t n k) l f r = ((let k = r.0 in omega (arith, k, l)), f _ r.1, mark_moved t G G' _ f r.2)
right_moved o chunk op s s' G G' (Gone t n) l f r = ((let k = r.0 in omega (arith, k, l)), r.1, f _ r.2, mark_moved t G G' _ f r.3)
right_moved o chunk op s s' G G' (Unborn n) l f r = (r.0, elim r.1 [ inl x ↦ inl (f _ x) | inr x ↦ inr x ])
right_moved o chunk op s s' G G' Spent l f r = tt
right_moved o chunk op s s' G G' Memory l f r = (r.0, (let k = r.1 in omega (arith, k, l)), mark_moved r.0 G G' _ f r.2)

-- so is one of a holder's part of a call
pub right_from : (o o' : Opening) (chunk : ℕ) (op : Op) (s s' : ℕ) (G G' : Gain → Type 0) (a : Answer) → o ≡ o' → s' ≤ s → ((x : Gain) → G x → G' x) → IsBacked o chunk op s G a → IsBacked o' chunk op s' G' a
right_from o o' chunk op s s' G G' a e l f r = right_moved o' chunk op s s' G G' a l f (subst (λ (x : Opening). IsBacked x chunk op s G a) e r)

-- an answer without a lost try and a find is judged
pub judged_where : (o : Opening) (chunk : ℕ) (op : Op) (seen : ℕ) (G : Gain → Type 0) (rich : ℕ) (before : List Entry) (left : ℕ) (after : List Entry) (a : Answer) → IsBacked o chunk op seen G a → IsEntered chunk op rich before left after a → 0 < rich → AreEndsNames o op → FoundNothing G → IsJudgedAnswer a
judged_where o chunk op seen G rich before left after (Done t) r e p n f = tt
judged_where o chunk op seen G rich before left after (Refused t why) r e p n f = tt
judged_where o chunk op seen G rich before left after (Busy t x k) r e p n f = f.no_lost x k r.1
judged_where o chunk op seen G rich before left after (Gone t x) r e p n f = f.no_dead x r.2
judged_where o chunk op seen G rich before left after (Unborn x) r e p n f = elim r.1 [ inl g ↦ f.no_never x g | inr l ↦ elim r.0 [ inl q ↦ outside x (first_end op) (names_of o) q l n.0 | inr q ↦ outside x (second_end op) (names_of o) q l n.1 ] ]
  where
    outside : (x y z : ℕ) → x ≡ y → z ≤ x → y < z → ⊥
    outside x y z q l m = omega (arith, q, l, m)
judged_where o chunk op seen G rich before left after Spent r e p n f = zero_not rich e.0 p
  where
    zero_not : (k : ℕ) → k ≡ 0 → 0 < k → ⊥
    zero_not k q l = omega (arith, q, l)
judged_where o chunk op seen G rich before left after Memory r e p n f = tt
