-- What a try of an operation says, where nobody else is.
use Rattle.std.proofs.Common.{◌≡◌, ◌≢◌, ℕ, ◌<◌, List, sym, ◌∙◌, ap, Bool, inl, inr, arith}
use Rattle.std.specs.Prelude.{cond, Some, None, IfSome}
use Rattle.std.proofs.Props.{props}
use Rattle.std.proofs.Math.Logic.{∥∥₁_elim}
use Rattle.pf_model.specs.declared.Op.{Op}
use Rattle.pf_model.specs.declared.Cond.{Cond}
use Rattle.pf_model.specs.declared.Entry.{Entry}
use Rattle.pf_model.specs.Ends.{first_end, second_end, normal_of}
use Rattle.pf_model.specs.Mesh.{Undivided, place_of}
use Rattle.pf_model.specs.Stars.{star_of, spokes_of}
use Rattle.pf_model.specs.Conforming.{IsConforming, IsLive}
use Rattle.pf_model.specs.Conditions.{first_failing}
use Rattle.pf_model.proofs.Replays.{passes-live}
use Rattle.pf_star_model.specs.Lent.{Held}
use Rattle.pf_core_model.specs.declared.answer.Answer.{Answer}
use Rattle.pf_core_model.specs.declared.answer.Answer.TheVariants as answer
use Rattle.pf_core_model.specs.Core.{Opening}
use Rattle.pf_holder.specs.Facts.{mesh_alone, KnowsAll}
use Rattle.pf_holder.specs.Answers.{IsEndGone, TellsOf, IsEntered}
use Rattle.pf_attempt.specs.Stages.{IsRefusedAnswer}
use Rattle.pf_finish.specs.Passing.{IsAnswer}
use Rattle.pf_finish.specs.Done.{answered_of, IsWorkedOff}
use Rattle.pf_finish.specs.declared.tries.Answered.TheVariants.{Done, Memory}

-- a live node has a star
pub live_star : (m : Undivided) (n : ℕ) → IsLive m n → star_of m n ≡ Some record { node = n; at = place_of m n; spokes = spokes_of m n }
live_star m n l = ap (λ (b : Bool). cond b (Some record { node = n; at = place_of m n; spokes = spokes_of m n }) None) l

pub live_clash : (m : Undivided) (n : ℕ) → IsLive m n → star_of m n ≡ None → ⊥
live_clash m n l e = absurd (let k : Some record { node = n; at = place_of m n; spokes = spokes_of m n } ≡ None = sym (live_star m n l) ∙ e in cc)

-- an operation whose end isn't live doesn't pass
gone_fails : (m : Undivided) (chunk : ℕ) (op : Op) (n : ℕ) → IsConforming m → IsEndGone m op n → first_failing m chunk op ≢ None
gone_fails m chunk op n ok g p =
    let l = passes-live m ok chunk op p in
    elim g.0 [ inl e ↦ live_clash m (first_end op) l.0 (ap (star_of m) (sym e) ∙ g.1) | inr e ↦ live_clash m (second_end op) l.1 (ap (star_of m) (sym e) ∙ g.1) ]

some_fails : (m : Undivided) (chunk : ℕ) (op : Op) (why : Cond) → first_failing m chunk op ≡ Some why → first_failing m chunk op ≢ None
some_fails m chunk op why h p = absurd (let k : Some why ≡ None = sym h ∙ p in cc)

pub conforms : (o : Opening) (ps : List Held) (rich : ℕ) (entries : List Entry) → KnowsAll o ps rich entries → IsConforming (mesh_alone o entries)
conforms o ps rich entries k = k.seen.conforming

gone_fails_alone : (o : Opening) (ps : List Held) (rich : ℕ) (entries : List Entry) (chunk : ℕ) (op : Op) (n : ℕ) → ∥ KnowsAll o ps rich entries ∥₁ → IsEndGone (mesh_alone o entries) op n → first_failing (mesh_alone o entries) chunk op ≢ None
gone_fails_alone o ps rich entries chunk op n k g p = ∥∥₁_elim k (hlevel props) (λ (z : KnowsAll o ps rich entries). gone_fails (mesh_alone o entries) chunk op n z.seen.conforming g p)

-- what an answer that isn't given makes of a wish: it fails
abbrev pub Fails : Opening → ℕ → Op → ℕ → List Entry → ℕ → List Entry → Type 0
Fails o chunk op rich before left after = (after ≡ before) × (left ≡ rich) × (first_failing (mesh_alone o before) chunk op ≢ None)

zero_not : (k : ℕ) → k ≡ 0 → 0 < k → ⊥
zero_not k q l = omega (arith, q, l)

pub fails_told : (o : Opening) (ps : List Held) (chunk : ℕ) (op : Op) (rich : ℕ) (before : List Entry) (left : ℕ) (after : List Entry) (a : Answer) → ∥ KnowsAll o ps rich before ∥₁ → 0 < rich → TellsOf (mesh_alone o before) chunk op a → IsEntered chunk op rich before left after a
    → answered_of op a ≡ None → Fails o chunk op rich before left after
fails_told o ps chunk op rich before left after (answer.Done t) k p h e n = absurd (let z : Some (Done t op) ≡ None = n in cc)
fails_told o ps chunk op rich before left after (answer.Refused t why) k p h e n = (e.2, e.1, some_fails (mesh_alone o before) chunk op why h.2)
fails_told o ps chunk op rich before left after (answer.Busy t x y) k p h e n = absurd h
fails_told o ps chunk op rich before left after (answer.Gone t x) k p h e n = (e.2, e.1, gone_fails_alone o ps rich before chunk op x k h)
fails_told o ps chunk op rich before left after (answer.Unborn x) k p h e n = (e.2, e.1, gone_fails_alone o ps rich before chunk op x k h)
fails_told o ps chunk op rich before left after answer.Spent k p h e n = absurd (zero_not rich e.0 p)
fails_told o ps chunk op rich before left after answer.Memory k p h e n = absurd (let z : Some Memory ≡ None = n in cc)

pub answered_told : (o : Opening) (chunk : ℕ) (op : Op) (rich : ℕ) (before : List Entry) (left : ℕ) (after : List Entry) (a : Answer) → (first_failing (mesh_alone o before) chunk op ≡ None → IsAnswer (mesh_alone o before) chunk (normal_of op)) → TellsOf (mesh_alone o before) chunk op a → IsEntered chunk op rich before left after a
    → IfSome (answered_of op a) (λ x. IsWorkedOff o rich before left after x)
answered_told o chunk op rich before left after (answer.Done t) w h e = (e.0, (chunk, e.1, w h.2))
answered_told o chunk op rich before left after (answer.Refused t why) w h e = tt
answered_told o chunk op rich before left after (answer.Busy t x y) w h e = tt
answered_told o chunk op rich before left after (answer.Gone t x) w h e = tt
answered_told o chunk op rich before left after (answer.Unborn x) w h e = tt
answered_told o chunk op rich before left after answer.Spent w h e = tt
answered_told o chunk op rich before left after answer.Memory w h e = (e.1, e.2)

-- what a refusal of what was asked says: it fails
pub refusal_fails : (o : Opening) (ps : List Held) (chunk : ℕ) (op : Op) (rich : ℕ) (before : List Entry) (a : Answer) → ∥ KnowsAll o ps rich before ∥₁ → TellsOf (mesh_alone o before) chunk op a → IsRefusedAnswer a → first_failing (mesh_alone o before) chunk op ≢ None
refusal_fails o ps chunk op rich before (answer.Done t) k h r = absurd r
refusal_fails o ps chunk op rich before (answer.Refused t why) k h r = some_fails (mesh_alone o before) chunk op why h.2
refusal_fails o ps chunk op rich before (answer.Busy t x y) k h r = absurd h
refusal_fails o ps chunk op rich before (answer.Gone t x) k h r = gone_fails_alone o ps rich before chunk op x k h
refusal_fails o ps chunk op rich before (answer.Unborn x) k h r = gone_fails_alone o ps rich before chunk op x k h
refusal_fails o ps chunk op rich before answer.Spent k h r = absurd r
refusal_fails o ps chunk op rich before answer.Memory k h r = absurd r
