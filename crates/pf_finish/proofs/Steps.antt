-- What was done in parts was done in all.
use Rattle.std.proofs.Common.{◌≡◌, ℕ, suc, ◌+◌, ◌<◌, ◌≤◌, List, [], ◌∷◌, ◌++◌, append_assoc, length, refl, sym, ◌∙◌, ap, subst, Bool, true, false, ◌||◌, ◌&&◌, ◌⊎◌, inl, inr, arith}
use Rattle.std.specs.Prelude.{not, ◌==◌, nat_lt}
use Rattle.std.specs.List.{list_any}
use Rattle.std.proofs.Props.{props}
use Rattle.std.proofs.Math.Logic.{∥∥₁_elim}
use Rattle.std.proofs.lemmas.Bool.Decides.{nat_tests}
use Rattle.std.proofs.lemmas.List.{length-append}
use Rattle.pf_model.specs.declared.Op.{Op}
use Rattle.pf_model.specs.declared.Entry.{Entry}
use Rattle.pf_model.specs.Ends.{normal_of}
use Rattle.pf_model.specs.Mesh.{Undivided}
use Rattle.pf_model.specs.Replay.{replayed}
use Rattle.pf_model.specs.Conforming.{IsLive}
use Rattle.pf_model.proofs.Replays.{replayed-push}
use Rattle.pf_star_model.specs.Lent.{Held}
use Rattle.pf_core_model.specs.Cavity.{is_made}
use Rattle.pf_core_model.specs.Core.{Opening}
use Rattle.pf_core_model.proofs.Told.{live_known}
use Rattle.pf_core_model.proofs.Replays.{made_name, replayed_first_new}
use Rattle.pf_holder.specs.Facts.{AreSeen, KnowsAll, history_in, mesh_alone}
use Rattle.pf_finish.specs.Passing.{IsAnswer}
use Rattle.pf_finish.specs.Done.{AreAnswers, HasWorkedOff, IsFinished, IsWorkedOff}
use Rattle.pf_finish.specs.Covers.{is_covered, Covers, IsWorkStep, IsNoted}
use Rattle.pf_finish.specs.declared.pass.FinishEnd.{FinishEnd}
use Rattle.pf_finish.specs.declared.tries.Answered.{Answered}
use Rattle.pf_finish.specs.declared.tries.Answered.TheVariants.{Done, Spent, Memory}
use Rattle.pf_finish.proofs.Histories.{history_more}

answers-then : (o : Opening) (before es fs : List Entry) → AreAnswers o before es → AreAnswers o (es ++ before) fs → AreAnswers o before (fs ++ es)
answers-then o before es [] a b = a
answers-then o before es (f ∷ fs) a b = (subst (λ (l : List Entry). IsAnswer (mesh_alone o l) f.chunk f.op) (sym (append_assoc fs es before)) b.0, answers-then o before es fs a b.1)

has-then : (o : Opening) (rich : ℕ) (before : List Entry) (left : ℕ) (after : List Entry) (left' : ℕ) (after' : List Entry) → HasWorkedOff o rich before left after → HasWorkedOff o left after left' after' → HasWorkedOff o rich before left' after'
has-then o rich before left after left' after' a b =
    record {
      added = b.added ++ a.added;
      grown = b.grown ∙ ap (λ (l : List Entry). b.added ++ l) a.grown ∙ sym (append_assoc b.added a.added before);
      answers = answers-then o before a.added b.added a.answers (subst (λ (l : List Entry). AreAnswers o l b.added) a.grown b.answers);
      paid = let k = length-append b.added a.added in let p = a.paid in let q = b.paid in omega (arith, k, p, q);
    }

has-none : (o : Opening) (rich : ℕ) (before : List Entry) (left : ℕ) (after : List Entry) → left ≡ rich → after ≡ before → HasWorkedOff o rich before left after
has-none o rich before left after l e = record { added = []; grown = e; answers = tt; paid = omega (arith, l) }

-- the allowance doesn't rise
pub has-less : (o : Opening) (rich : ℕ) (before : List Entry) (left : ℕ) (after : List Entry) → HasWorkedOff o rich before left after → left ≤ rich
has-less o rich before left after a = let k = a.paid in omega (arith, k)

-- where it stays, nothing was added
pub has-stayed : (o : Opening) (rich : ℕ) (before : List Entry) (left : ℕ) (after : List Entry) → HasWorkedOff o rich before left after → left ≡ rich → after ≡ before
has-stayed o rich before left after a l = go a.added refl
  where
    go : (es : List Entry) → a.added ≡ es → after ≡ before
    go [] e = a.grown ∙ ap (λ (l : List Entry). l ++ before) e
    go (x ∷ es) e = absurd (let k = a.paid in let q : length a.added ≡ suc (length es) = ap length e in omega (arith, k, q, l))

-- nothing was done
pub step-none : (o : Opening) (rich : ℕ) (before : List Entry) (from : ℕ) (left : ℕ) (after : List Entry) (end : ℕ) → left ≡ rich → after ≡ before → end ≡ from → IsWorkStep o rich before from left after end
step-none o rich before from left after end l e n =
    record {
      answered = has-none o rich before left after l e;
      covers = λ live c. subst (λ (k : ℕ). Covers o live after k) (sym n) (subst (λ (es : List Entry). Covers o live es from) (sym e) c);
      stays = λ q. n;
    }

-- one part, then another
pub step-then : (o o' : Opening) (rich : ℕ) (before : List Entry) (from : ℕ) (left : ℕ) (after : List Entry) (end : ℕ) (left' : ℕ) (after' : List Entry) (end' : ℕ) → o' ≡ o → IsWorkStep o rich before from left after end → IsWorkStep o' left after end left' after' end' → IsWorkStep o rich before from left' after' end'
step-then o o' rich before from left after end left' after' end' q a b' =
    let b : IsWorkStep o left after end left' after' end' = subst (λ (p : Opening). IsWorkStep p left after end left' after' end') q b' in
    let low = has-less o rich before left after a.answered in
    let low' = has-less o left after left' after' b.answered in
    record {
      answered = has-then o rich before left after left' after' a.answered b.answered;
      covers = λ live c. b.covers live (a.covers live c);
      stays = λ l. b.stays (omega (arith, l, low, low')) ∙ a.stays (omega (arith, l, low, low'));
    }

-- nothing, then a part
pub step-after : (o o' : Opening) (rich : ℕ) (before : List Entry) (rich' : ℕ) (before' : List Entry) (from : ℕ) (left : ℕ) (after : List Entry) (end : ℕ) → o' ≡ o → rich' ≡ rich → before' ≡ before → IsWorkStep o' rich' before' from left after end → IsWorkStep o rich before from left after end
step-after o o' rich before rich' before' from left after end q l e b = step-then o o' rich before from rich' before' from left after end q (step-none o rich before from rich' before' from l e refl) b

-- a part, then nothing
pub step-still : (o : Opening) (rich : ℕ) (before : List Entry) (from : ℕ) (left : ℕ) (after : List Entry) (end : ℕ) (left' : ℕ) (after' : List Entry) → left' ≡ left → after' ≡ after → IsWorkStep o rich before from left after end → IsWorkStep o rich before from left' after' end
step-still o rich before from left after end left' after' l e a = step-then o o rich before from left after end left' after' end refl a (step-none o left after end left' after' end l e refl)

-- the end of the names after an entry with this ticket
pub record IsNext (o : Opening) (before : List Entry) (ticket : ℕ) : Type 0 where
  pub ticket_is : ticket ≡ length (history_in before)
  pub room : o.mesh.first_new + ticket + 1 ≤ 1048576

-- an entry more: its ticket is the next one, and the history has it last
more : (o : Opening) (ps ps' : List Held) (rich left : ℕ) (before : List Entry) (e : Entry) → left + 1 ≡ rich → KnowsAll o ps rich before → KnowsAll o ps' left (e ∷ before) → (e.ticket ≡ length (history_in before)) × (history_in (e ∷ before) ≡ history_in before ++ e ∷ [])
more o ps ps' rich left before e l a b = history_more o.mesh e before a.legal b.legal (let p = a.budget in let q = b.budget in omega (arith, l, p, q))

covered-old : (first : ℕ) (live : List ℕ) (end end' n : ℕ) → end ≤ end' → is_covered first live end n ≡ true → is_covered first live end' n ≡ true
covered-old first live end end' n l h = go (list_any (λ k. k == n) live) h
  where
    wider : (a b c d : ℕ) → c ≤ d → (not (nat_lt b a) && nat_lt b c) ≡ true → (not (nat_lt b a) && nat_lt b d) ≡ true
    wider a b c d l h = grind (arith, nat_tests)

    go : (t : Bool) → (t || (not (nat_lt n first) && nat_lt n end)) ≡ true → (t || (not (nat_lt n first) && nat_lt n end')) ≡ true
    go true k = refl
    go false k = wider first n end end' l k

covered-new : (first : ℕ) (live : List ℕ) (ticket n : ℕ) → n ≡ first + ticket → is_covered first live (first + ticket + 1) n ≡ true
covered-new first live ticket n e = go (list_any (λ k. k == n) live)
  where
    within : (a b t : ℕ) → b ≡ a + t → (not (nat_lt b a) && nat_lt b (a + t + 1)) ≡ true
    within a b t e = grind (arith, nat_tests)

    go : (t : Bool) → (t || (not (nat_lt n first) && nat_lt n (first + ticket + 1))) ≡ true
    go true = refl
    go false = within first n ticket e

any-one : (b : Bool) → (b || false) ≡ true → b ≡ true
any-one true h = refl
any-one false h = h

-- the live names after it are those before, and its own
covers-more : (o : Opening) (ps ps' : List Held) (rich left : ℕ) (before : List Entry) (e : Entry) (live : List ℕ) (from : ℕ) → left + 1 ≡ rich → KnowsAll o ps rich before → KnowsAll o ps' left (e ∷ before) → Covers o live before from → Covers o live (e ∷ before) (o.mesh.first_new + e.ticket + 1)
covers-more o ps ps' rich left before e live from l a b c =
    let r = more o ps ps' rich left before e l a b in
    let k = ap length r.1 ∙ length-append (history_in before) (e ∷ []) in
    let t = r.0 in
    record {
      within = omega (arith, k, t);
      all = λ n lives. each n (live_known (mesh_alone o before) (e ∷ []) n (subst (λ (m : Undivided). IsLive m n) (ap (replayed o.mesh) r.1 ∙ replayed-push o.mesh (history_in before) e) lives));
    }
  where
    each : (n : ℕ) → IsLive (mesh_alone o before) n ⊎ (is_made (mesh_alone o before).first_new (e ∷ []) n ≡ true) → is_covered o.mesh.first_new live (o.mesh.first_new + e.ticket + 1) n ≡ true
    each n (inl old) =
        let r = more o ps ps' rich left before e l a b in
        let t = r.0 in
        let w = c.within in
        covered-old o.mesh.first_new live from (o.mesh.first_new + e.ticket + 1) n (omega (arith, w, t)) (c.all n old)
    each n (inr made) =
        covered-new o.mesh.first_new live e.ticket n (made_name (mesh_alone o before).first_new n e (any-one _ made) ∙ ap (λ (k : ℕ). k + e.ticket) (replayed_first_new o.mesh (history_in before)))

-- one entry was added that answers a line
pub step-done : (o : Opening) (ps ps' : List Held) (rich : ℕ) (before : List Entry) (from : ℕ) (left : ℕ) (after : List Entry) (ticket : ℕ) (op : Op) → ∥ KnowsAll o ps rich before ∥₁ → ∥ KnowsAll o ps' left after ∥₁ → IsWorkedOff o rich before left after (Done ticket op) → IsWorkStep o rich before from left after (o.mesh.first_new + ticket + 1)
step-done o ps ps' rich before from left after ticket op a b d =
    let e : Entry = record { ticket = ticket; chunk = d.1.0; op = normal_of op } in
    let b' : ∥ KnowsAll o ps' left (e ∷ before) ∥₁ = subst (λ (l : List Entry). ∥ KnowsAll o ps' left l ∥₁) d.1.1 b in
    record {
      answered = record { added = e ∷ []; grown = d.1.1; answers = (d.1.2, tt); paid = d.0 };
      covers = λ live c. subst (λ (l : List Entry). Covers o live l (o.mesh.first_new + ticket + 1)) (sym d.1.1) (record {
        within = ∥∥₁_elim a (hlevel props) (λ (x : KnowsAll o ps rich before). ∥∥₁_elim b' (hlevel props) (λ (y : KnowsAll o ps' left (e ∷ before)). (covers-more o ps ps' rich left before e live from d.0 x y c).within));
        all = λ n lives. ∥∥₁_elim a (hlevel props) (λ (x : KnowsAll o ps rich before). ∥∥₁_elim b' (hlevel props) (λ (y : KnowsAll o ps' left (e ∷ before)). (covers-more o ps ps' rich left before e live from d.0 x y c).all n lives));
      });
      stays = λ l. absurd (let k = d.0 in omega (arith, k, l));
    }

-- there is room for the end of the names
pub next-room : (o : Opening) (ps ps' qs : List Held) (rich : ℕ) (before : List Entry) (left : ℕ) (after : List Entry) (ticket : ℕ) (op : Op) → ∥ KnowsAll o ps rich before ∥₁ → ∥ KnowsAll o ps' left after ∥₁ → ∥ AreSeen o qs ∥₁ → IsWorkedOff o rich before left after (Done ticket op) → o.mesh.first_new + ticket + 1 ≤ 1048576
next-room o ps ps' qs rich before left after ticket op a b s d =
    let e : Entry = record { ticket = ticket; chunk = d.1.0; op = normal_of op } in
    let b' : ∥ KnowsAll o ps' left (e ∷ before) ∥₁ = subst (λ (l : List Entry). ∥ KnowsAll o ps' left l ∥₁) d.1.1 b in
    ∥∥₁_elim a (hlevel props) (λ (x : KnowsAll o ps rich before). ∥∥₁_elim b' (hlevel props) (λ (y : KnowsAll o ps' left (e ∷ before)). ∥∥₁_elim s (hlevel props) (λ (z : AreSeen o qs).
    let t = (more o ps ps' rich left before e d.0 x y).0 in
    let p = x.budget in
    let l = d.0 in
    let small = z.small in
    omega (arith, t, p, l, small))))

-- an end that was told of a part is told of the whole
pub finished-from : (o o' : Opening) (entries : List Entry) (left : ℕ) (x : FinishEnd) → o' ≡ o → IsFinished (mesh_alone o' entries) left x → IsFinished (mesh_alone o entries) left x
finished-from o o' entries left x e h = subst (λ (p : Opening). IsFinished (mesh_alone p entries) left x) e h

-- what became of a line in a part became of it in the whole
pub noted-from : (o o' : Opening) (entries : List Entry) (rich rich' left : ℕ) (x : Answered) → o' ≡ o → rich' ≤ rich → IsNoted (mesh_alone o' entries) rich' left x → IsNoted (mesh_alone o entries) rich left x
noted-from o o' entries rich rich' left (Done t op) e l h = (let k : left < rich' = h in omega (arith, k, l))
noted-from o o' entries rich rich' left Spent e l h = subst (λ (p : Opening). IsNoted (mesh_alone p entries) rich left Spent) e h
noted-from o o' entries rich rich' left Memory e l h = tt

-- where the allowance stays over two parts, nothing was done in either
pub both-stayed : (o o' : Opening) (rich : ℕ) (before : List Entry) (from : ℕ) (left : ℕ) (after : List Entry) (end : ℕ) (left' : ℕ) (after' : List Entry) (end' : ℕ) → IsWorkStep o rich before from left after end → IsWorkStep o' left after end left' after' end' → left' ≡ rich → (left ≡ rich) × (left' ≡ left) × (after ≡ before) × (end ≡ from)
both-stayed o o' rich before from left after end left' after' end' a b l =
    let low = has-less o rich before left after a.answered in
    let low' = has-less o' left after left' after' b.answered in
    let same : left ≡ rich = omega (arith, l, low, low') in
    (same, omega (arith, l, low, low'), has-stayed o rich before left after a.answered same, a.stays same)

-- a pass more
pub pass-more : (o o' : Opening) (rich : ℕ) (before : List Entry) (left : ℕ) (after : List Entry) (end : ℕ) (left' : ℕ) (after' : List Entry) (end' : ℕ) → o' ≡ o → HasWorkedOff o rich before left after → IsWorkStep o' left after end left' after' end' → HasWorkedOff o rich before left' after'
pass-more o o' rich before left after end left' after' end' q a b = has-then o rich before left after left' after' a (subst (λ (p : Opening). HasWorkedOff p left after left' after') q b.answered)

pub pass-covers : (o o' : Opening) (live : List ℕ) (left : ℕ) (after : List Entry) (end : ℕ) (left' : ℕ) (after' : List Entry) (end' : ℕ) → o' ≡ o → Covers o live after end → IsWorkStep o' left after end left' after' end' → Covers o live after' end'
pass-covers o o' live left after end left' after' end' q c b = subst (λ (p : Opening). Covers p live after' end') q (b.covers live (subst (λ (p : Opening). Covers p live after end) (sym q) c))
