-- What was visited in a part of a drive is so in the whole.
use Rattle.std.proofs.Common.{◌≡◌, ℕ, suc, ◌+◌, ◌<◌, ◌≤◌, List, [], ◌∷◌, ◌++◌, length, refl, sym, ◌∙◌, ap, subst, ◌⊎◌, inl, inr, arith}
use Rattle.std.specs.Prelude.{Some, None, slice_index_or}
use Rattle.pf_model.specs.declared.Op.{Op}
use Rattle.pf_model.specs.declared.Entry.{Entry}
use Rattle.pf_model.specs.Ends.{normal_of}
use Rattle.pf_model.specs.Stars.{Star}
use Rattle.pf_core_model.specs.declared.event.Asked.{Asked}
use Rattle.pf_core_model.specs.declared.view.Mark.{Mark}
use Rattle.pf_core_model.specs.declared.answer.Answer.{Answer}
use Rattle.pf_core_model.specs.declared.answer.Answer.TheVariants.{Done, Refused, Busy, Gone, Unborn, Spent, Memory}
use Rattle.pf_core_model.specs.Lists.{In}
use Rattle.pf_core_model.specs.Core.{Opening, names_of}
use Rattle.pf_core_model.specs.Right.{Gain, dead, never, mark}
use Rattle.pf_holder.specs.Facts.{won_pair, lost_to}
use Rattle.pf_holder.specs.Answers.{IsBacked, IsEntered}
use Rattle.pf_holder.proofs.Moved.{right_moved}
use Rattle.pf_wishes.specs.First.{first_wish_of}
use Rattle.pf_attempt.specs.Stages.{IsTicketBelow}
use Rattle.pf_driver.specs.Visits.{IsTried, IsAmong, IsAnswered, IsVisited, IsMade, HasGrown, HasVisited}
use Rattle.pf_driver.specs.declared.turns.Turn.{Turn}
use Rattle.pf_driver.specs.declared.turns.Turn.TheVariants as turns
use Rattle.pf_driver.specs.declared.driving.DriveEnd.{DriveEnd}
use Rattle.pf_driver.specs.declared.driving.DriveEnd.TheVariants as ends
use Rattle.pf_driver.specs.Turns.{HasAnswered, HasVisitedOne, OnWent, TellsEnd, OnDone, IsEndOf}

-- lists of entries
append_assoc : (xs ys zs : List Entry) → (xs ++ ys) ++ zs ≡ xs ++ (ys ++ zs)
append_assoc [] ys zs = refl
append_assoc (x ∷ xs) ys zs = ap (λ l. x ∷ l) (append_assoc xs ys zs)

append_length : (xs ys : List Entry) → length (xs ++ ys) ≡ length xs + length ys
append_length [] ys = omega arith
append_length (x ∷ xs) ys = (let k : length (xs ++ ys) ≡ length xs + length ys = append_length xs ys in let r : suc (length (xs ++ ys)) ≡ suc (length xs) + length ys = omega (arith, k) in r)

in_later : (e : Entry) (xs ys : List Entry) → In e ys → In e (xs ++ ys)
in_later e [] ys h = h
in_later e (x ∷ xs) ys h = inr (in_later e xs ys h)

in_earlier : (e : Entry) (xs ys : List Entry) → In e xs → In e (xs ++ ys)
in_earlier e [] ys h = absurd h
in_earlier e (x ∷ xs) ys (inl k) = inl k
in_earlier e (x ∷ xs) ys (inr k) = inr (in_earlier e xs ys k)

joined : (a b c x y : List Entry) → b ≡ x ++ a → c ≡ y ++ b → c ≡ (y ++ x) ++ a
joined a b c x y e f = f ∙ (ap (λ l. y ++ l) e ∙ sym (append_assoc y x a))

-- growth
in_either : (e : Entry) (xs ys : List Entry) → In e (xs ++ ys) → In e xs ⊎ In e ys
in_either e [] ys h = inr h
in_either e (x ∷ xs) ys (inl k) = inl (inl k)
in_either e (x ∷ xs) ys (inr k) = elim (in_either e xs ys k) [ inl h ↦ inl (inr h) | inr h ↦ inr h ]

made_within : (f t f' t' : ℕ) (e : Entry) → f' ≤ f → t ≤ t' → IsMade f t e → IsMade f' t' e
made_within f t f' t' e l r x = record { op = x.op; normal = x.normal; since = (let k = x.since in omega (arith, k, l)); below = (let k = x.below in omega (arith, k, r)) }

pub grown_none : (s0 rich : ℕ) (before : List Entry) (s1 left : ℕ) (after : List Entry) → after ≡ before → left ≡ rich → s0 ≤ s1 → HasGrown s0 rich before s1 left after
grown_none s0 rich before s1 left after e f s = record { added = []; grown = e; paid = (let k : left + 0 ≡ rich = omega (arith, f) in k); made = λ e h. absurd h; seen = s }

pub grown_then : (s0 r0 : ℕ) (e0 : List Entry) (s1 r1 : ℕ) (e1 : List Entry) (s2 r2 : ℕ) (e2 : List Entry) → HasGrown s0 r0 e0 s1 r1 e1 → HasGrown s1 r1 e1 s2 r2 e2 → HasGrown s0 r0 e0 s2 r2 e2
grown_then s0 r0 e0 s1 r1 e1 s2 r2 e2 a b =
    record {
      added = b.added ++ a.added;
      grown = joined e0 e1 e2 a.added b.added a.grown b.grown;
      paid = (let k = a.paid in let l = b.paid in let n = append_length b.added a.added in omega (arith, k, l, n));
      made = λ e h. elim (in_either e b.added a.added h) [ inl k ↦ made_within s1 s2 s0 s2 e a.seen (omega arith) (b.made e k) | inr k ↦ made_within s0 s1 s0 s2 e (omega arith) b.seen (a.made e k) ];
      seen = (let k = a.seen in let l = b.seen in omega (arith, k, l));
    }

made_alone : (s0 s1 : ℕ) (chunk : ℕ) (op : Op) (t : ℕ) → s0 ≤ t → t < s1 → (e : Entry) → In e (record { ticket = t; chunk = chunk; op = normal_of op } ∷ []) → IsMade s0 s1 e
made_alone s0 s1 chunk op t l r e (inl k) = subst (IsMade s0 s1) (sym k) record { op = op; normal = refl; since = l; below = r }
made_alone s0 s1 chunk op t l r e (inr k) = absurd k

pub grown_by : (o : Opening) (chunk : ℕ) (op : Op) (G : Gain → Type 0) (s0 rich : ℕ) (before : List Entry) (s1 left : ℕ) (after : List Entry) (a : Answer) → IsEntered chunk op rich before left after a → IsBacked o chunk op s0 G a → IsTicketBelow s1 a → s0 ≤ s1 → HasGrown s0 rich before s1 left after
grown_by o chunk op G s0 rich before s1 left after (Done t) e r b s = record { added = record { ticket = t; chunk = chunk; op = normal_of op } ∷ []; grown = e.1; paid = e.0; made = made_alone s0 s1 chunk op t r b; seen = s }
grown_by o chunk op G s0 rich before s1 left after (Refused t why) e r b s = grown_none s0 rich before s1 left after e.2 e.1 s
grown_by o chunk op G s0 rich before s1 left after (Busy t n k) e r b s = grown_none s0 rich before s1 left after e.2 e.1 s
grown_by o chunk op G s0 rich before s1 left after (Gone t n) e r b s = grown_none s0 rich before s1 left after e.2 e.1 s
grown_by o chunk op G s0 rich before s1 left after (Unborn n) e r b s = grown_none s0 rich before s1 left after e.2 e.1 s
grown_by o chunk op G s0 rich before s1 left after Spent e r b s = grown_none s0 rich before s1 left after e.2 e.1 s
grown_by o chunk op G s0 rich before s1 left after Memory e r b s = grown_none s0 rich before s1 left after e.2 e.1 s

pub spent_by : (chunk : ℕ) (op : Op) (rich : ℕ) (before : List Entry) (left : ℕ) (after : List Entry) (a : Answer) → a ≡ Spent → IsEntered chunk op rich before left after a → left ≡ 0
spent_by chunk op rich before left after a e h = let k = subst (λ w. IsEntered chunk op rich before left after w) e h in k.1 ∙ k.0

-- answers
pub answered_by : (o : Opening) (q : Asked) (seen : ℕ) (G : Gain → Type 0) (rich : ℕ) (before : List Entry) (left : ℕ) (after : List Entry) (a : Answer) → IsTried a → IsBacked o q.chunk q.op seen G a → IsEntered q.chunk q.op rich before left after a → HasAnswered o q seen G before after
answered_by o q seen G rich before left after (Done t) k r e = record { added = record { ticket = t; chunk = q.chunk; op = normal_of q.op } ∷ []; grown = e.1; answered = record { answer = Done t; tried = k; backed = r; entered = inl refl } }
answered_by o q seen G rich before left after (Refused t why) k r e = record { added = []; grown = e.2; answered = record { answer = Refused t why; tried = k; backed = r; entered = tt } }
answered_by o q seen G rich before left after (Busy t n i) k r e = record { added = []; grown = e.2; answered = record { answer = Busy t n i; tried = k; backed = r; entered = tt } }
answered_by o q seen G rich before left after (Gone t n) k r e = record { added = []; grown = e.2; answered = record { answer = Gone t n; tried = k; backed = r; entered = tt } }
answered_by o q seen G rich before left after (Unborn n) k r e = record { added = []; grown = e.2; answered = record { answer = Unborn n; tried = k; backed = r; entered = tt } }
answered_by o q seen G rich before left after Spent k r e = absurd k
answered_by o q seen G rich before left after Memory k r e = absurd k

pub on_tried : (a : Answer) (t : Turn) (P : Type 0) → TellsEnd a t → (IsTried a → P) → OnWent t P
on_tried a turns.Went P k f = f k
on_tried a turns.Spent P k f = tt
on_tried a turns.Memory P k f = tt

pub on_went : (t : Turn) (P Q : Type 0) → (P → Q) → OnWent t P → OnWent t Q
on_went turns.Went P Q f k = f k
on_went turns.Spent P Q f k = tt
on_went turns.Memory P Q f k = tt

pub went_any : (t : Turn) (P : Type 0) → P → OnWent t P
went_any turns.Went P k = k
went_any turns.Spent P k = tt
went_any turns.Memory P k = tt

pub on_done : (t : Turn) (d : DriveEnd) (P : Type 0) → IsEndOf t d → OnWent t P → OnDone d P
on_done t ends.Done P e k = subst (λ x. OnWent x P) e k
on_done t ends.Spent P e k = tt
on_done t ends.Memory P e k = tt

among_moved : (chunk : ℕ) (op : Op) (xs ys : List Entry) (a : Answer) → ((e : Entry) → In e xs → In e ys) → IsAmong chunk op xs a → IsAmong chunk op ys a
among_moved chunk op xs ys (Done t) f h = f _ h
among_moved chunk op xs ys (Refused t why) f h = tt
among_moved chunk op xs ys (Busy t n k) f h = tt
among_moved chunk op xs ys (Gone t n) f h = tt
among_moved chunk op xs ys (Unborn n) f h = tt
among_moved chunk op xs ys Spent f h = tt
among_moved chunk op xs ys Memory f h = tt

answered_moved : (o : Opening) (q : Asked) (s s' : ℕ) (G G' : Gain → Type 0) (xs ys : List Entry) → s' ≤ s → ((x : Gain) → G x → G' x) → ((e : Entry) → In e xs → In e ys) → IsAnswered o q s G xs → IsAnswered o q s' G' ys
answered_moved o q s s' G G' xs ys l f g a = record { answer = a.answer; tried = a.tried; backed = right_moved o q.chunk q.op s s' G G' a.answer l f a.backed; entered = among_moved q.chunk q.op xs ys a.answer g a.entered }

pub visited_moved : (chunks : List ℕ) (o : Opening) (s s' : ℕ) (G G' : Gain → Type 0) (xs ys : List Entry) (n : ℕ) → s' ≤ s → ((x : Gain) → G x → G' x) → ((e : Entry) → In e xs → In e ys) → IsVisited chunks o s G xs n → IsVisited chunks o s' G' ys n
visited_moved chunks o s s' G G' xs ys n l f g (inl d) = inl (f _ d)
visited_moved chunks o s s' G G' xs ys n l f g (inr (inl d)) = inr (inl (f _ d))
visited_moved chunks o s s' G G' xs ys n l f g (inr (inr (inl k))) = inr (inr (inl (k.0, f _ k.1)))
visited_moved chunks o s s' G G' xs ys n l f g (inr (inr (inr v))) = inr (inr (inr record { it = v.it; known = f _ v.known; star = v.star; holds = v.holds; answered = λ q e. answered_moved o q s s' G G' xs ys l f g (v.answered q e) }))

-- a look at a node, of which the wish was answered, visits it
pub visited_answered : (chunks : List ℕ) (o : Opening) (s0 s1 : ℕ) (G01 G02 G12 : Gain → Type 0) (e0 e1 e2 : List Entry) (n : ℕ) (q : Asked) → s0 ≤ s1 → ((x : Gain) → G01 x → G02 x) → ((x : Gain) → G12 x → G02 x) → e1 ≡ e0
    → (m : Mark) × G01 (mark m) × ((s : Star) × In (won_pair n s) m.pairs × (Some q ≡ first_wish_of o.mesh.bands chunks s)) → HasAnswered o q s1 G12 e1 e2 → HasVisitedOne chunks o s0 G02 e0 e2 n
visited_answered chunks o s0 s1 G01 G02 G12 e0 e1 e2 n q l f g same k a = record { added = a.added; grown = a.grown ∙ ap (λ w. a.added ++ w) same; visited = inr (inr (inr record { it = k.0; known = f _ k.1; star = k.2.0; holds = k.2.1; answered = answered })) }
  where
    some_is : (x y : Asked) → Some x ≡ Some y → x ≡ y
    some_is x y e = cc

    answered : (p : Asked) → first_wish_of o.mesh.bands chunks k.2.0 ≡ Some p → IsAnswered o p s0 G02 a.added
    answered p e = subst (λ w. IsAnswered o w s0 G02 a.added) (some_is q p (k.2.2 ∙ e)) (answered_moved o q s1 s0 G12 G02 a.added a.added l g (λ x h. h) a.answered)

-- a look at a node without a wish visits it
pub visited_idle : (chunks : List ℕ) (o : Opening) (s0 : ℕ) (G : Gain → Type 0) (e0 e1 : List Entry) (n : ℕ) → e1 ≡ e0 → (m : Mark) × G (mark m) × ((s : Star) × In (won_pair n s) m.pairs × (None ≡ first_wish_of o.mesh.bands chunks s)) → HasVisitedOne chunks o s0 G e0 e1 n
visited_idle chunks o s0 G e0 e1 n same k = record { added = []; grown = same; visited = inr (inr (inr record { it = k.0; known = k.1; star = k.2.0; holds = k.2.1; answered = λ q e. absurd (let z : None ≡ Some q = k.2.2 ∙ e in cc) })) }

-- so does a lost try, and a find of one of the names
pub visited_away : (chunks : List ℕ) (o : Opening) (s0 : ℕ) (G : Gain → Type 0) (e0 e1 : List Entry) (n : ℕ) → e1 ≡ e0 → (k : ℕ) × G (lost_to n k) → HasVisitedOne chunks o s0 G e0 e1 n
visited_away chunks o s0 G e0 e1 n same k = record { added = []; grown = same; visited = inr (inr (inl k)) }

pub visited_absent : (chunks : List ℕ) (o : Opening) (s0 : ℕ) (G : Gain → Type 0) (e0 e1 : List Entry) (n : ℕ) → e1 ≡ e0 → n < o.mesh.first_new → G (dead n) ⊎ (G (never n) ⊎ (names_of o ≤ n)) → HasVisitedOne chunks o s0 G e0 e1 n
visited_absent chunks o s0 G e0 e1 n same l (inl d) = record { added = []; grown = same; visited = inl d }
visited_absent chunks o s0 G e0 e1 n same l (inr (inl d)) = record { added = []; grown = same; visited = inr (inl d) }
visited_absent chunks o s0 G e0 e1 n same l (inr (inr k)) = absurd (let z : o.mesh.first_new + o.budget ≤ n = k in omega (arith, l, z))

-- no names
pub visited_none : (chunks : List ℕ) (o : Opening) (s0 : ℕ) (G : Gain → Type 0) (e0 : List Entry) (names : List ℕ) → HasVisited chunks o s0 G e0 e0 names 0
visited_none chunks o s0 G e0 names = record { added = []; grown = refl; visited = λ k l. absurd (no k l) }
  where
    no : (k : ℕ) → k < 0 → ⊥
    no k l = omega (arith, l)

-- one name more
pub visited_next : (chunks : List ℕ) (o o1 : Opening) (s0 s1 : ℕ) (G01 G02 G12 : Gain → Type 0) (e0 e1 e2 : List Entry) (names : List ℕ) (count : ℕ) → o1 ≡ o → s0 ≤ s1 → ((x : Gain) → G01 x → G02 x) → ((x : Gain) → G12 x → G02 x)
    → HasVisited chunks o s0 G01 e0 e1 names count → HasVisitedOne chunks o1 s1 G12 e1 e2 (slice_index_or names count 0) → HasVisited chunks o s0 G02 e0 e2 names (count + 1)
visited_next chunks o o1 s0 s1 G01 G02 G12 e0 e1 e2 names count same l f g a b = record { added = b.added ++ a.added; grown = joined e0 e1 e2 a.added b.added a.grown b.grown; visited = each }
  where
    last : IsVisited chunks o s1 G12 b.added (slice_index_or names count 0)
    last = subst (λ w. IsVisited chunks w s1 G12 b.added (slice_index_or names count 0)) same b.visited

    order : (k : ℕ) → k < count + 1 → (k < count) ⊎ (count ≡ k)
    order k h = grind arith

    each : (k : ℕ) → k < count + 1 → IsVisited chunks o s0 G02 (b.added ++ a.added) (slice_index_or names k 0)
    each k h = elim (order k h) [
      | inl i ↦ visited_moved chunks o s0 s0 G01 G02 a.added (b.added ++ a.added) (slice_index_or names k 0) (omega arith) f (λ e i. in_later e b.added a.added i) (a.visited k i)
      | inr i ↦ subst (λ w. IsVisited chunks o s0 G02 (b.added ++ a.added) (slice_index_or names w 0)) i (visited_moved chunks o s1 s0 G12 G02 b.added (b.added ++ a.added) (slice_index_or names count 0) l g (λ e i. in_earlier e b.added a.added i) last)
    ]

-- further turns
pub visited_then : (chunks : List ℕ) (o : Opening) (s0 : ℕ) (G01 G02 : Gain → Type 0) (e0 : List Entry) (s1 r1 : ℕ) (e1 : List Entry) (s2 r2 : ℕ) (e2 : List Entry) (names : List ℕ) (count : ℕ) → ((x : Gain) → G01 x → G02 x)
    → HasVisited chunks o s0 G01 e0 e1 names count → HasGrown s1 r1 e1 s2 r2 e2 → HasVisited chunks o s0 G02 e0 e2 names count
visited_then chunks o s0 G01 G02 e0 s1 r1 e1 s2 r2 e2 names count f a b = record { added = b.added ++ a.added; grown = joined e0 e1 e2 a.added b.added a.grown b.grown; visited = λ k h. visited_moved chunks o s0 s0 G01 G02 a.added (b.added ++ a.added) (slice_index_or names k 0) (omega arith) f (λ e i. in_later e b.added a.added i) (a.visited k h) }
