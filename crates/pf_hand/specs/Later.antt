-- The later view of one seat, and what it came to know in between.
use Rattle.std.specs.Prelude.{◌≡◌, ◌≢◌, ℕ, ◌<◌, List, [], ◌++◌}
use Rattle.std.proofs.Common.{refl, sym, ap, ◌∙◌, subst, append_assoc}
use Rattle.pf_core_model.specs.declared.view.View.{View}
use Rattle.pf_core_model.specs.Lists.{In}
use Rattle.pf_core_model.specs.Core.{number_of}
use Rattle.pf_core_model.specs.Guards.{IsAlone}
use Rattle.pf_core_model.specs.Right.{Gain, lost, dead, never, mark, refusal, HasGained}
use Rattle.pf_core_model.proofs.Lists.{in_left, in_right}

-- ys has new ones before xs
abbrev pub Grew : {A : Type 0} → List A → List A → Type 0
Grew {A} xs ys = (zs : List A) × (ys ≡ zs ++ xs)

-- x is among what ys has before xs
abbrev pub Gained : {A : Type 0} → List A → List A → A → Type 0
Gained {A} xs ys x = (zs : List A) × (ys ≡ zs ++ xs) × In x zs

-- w is a later view of the seat whose view is v: it has the same numbers, and its lists grew
pub record IsLater (v w : View) : Type 0 where
  pub numbers : w.numbers ≡ v.numbers
  pub workers : w.workers ≡ v.workers
  pub entries : Grew v.entries w.entries
  pub refusals : Grew v.refusals w.refusals
  pub lost : Grew v.lost w.lost
  pub dead : Grew v.dead w.dead
  pub never : Grew v.never w.never
  pub marks : Grew v.marks w.marks

-- what w came to know since v. A lost try names another number than the seat's own
abbrev pub GainedIn : View → View → Gain → Type 0
GainedIn v w (refusal r) = Gained v.refusals w.refusals r
GainedIn v w (lost l) = Gained v.lost w.lost l × (l.holder ≢ number_of v)
GainedIn v w (dead n) = Gained v.dead w.dead n
GainedIn v w (never n) = Gained v.never w.never n
GainedIn v w (mark m) = Gained v.marks w.marks m

pub grew_then : {A : Type 0} (xs ys zs : List A) → Grew xs ys → Grew ys zs → Grew xs zs
grew_then {A} xs ys zs p q = (q.0 ++ p.0, q.1 ∙ ap (λ (l : List A). q.0 ++ l) p.1 ∙ sym (append_assoc q.0 p.0 xs))

stays : {A : Type 0} (xs ys zs : List A) (x : A) → Gained xs ys x → Grew ys zs → Gained xs zs x
stays {A} xs ys zs x p q = (q.0 ++ p.0, q.1 ∙ ap (λ (l : List A). q.0 ++ l) p.1 ∙ sym (append_assoc q.0 p.0 xs), in_right x q.0 p.0 p.2)

since : {A : Type 0} (xs ys zs : List A) (x : A) → Grew xs ys → Gained ys zs x → Gained xs zs x
since {A} xs ys zs x p q = (q.0 ++ p.0, q.1 ∙ ap (λ (l : List A). q.0 ++ l) p.1 ∙ sym (append_assoc q.0 p.0 xs), in_left x q.0 p.0 q.2)

pub later_self : (v : View) → IsLater v v
later_self v =
    record {
      numbers = refl;
      workers = refl;
      entries = ([], refl);
      refusals = ([], refl);
      lost = ([], refl);
      dead = ([], refl);
      never = ([], refl);
      marks = ([], refl);
    }

pub later_then : (u v w : View) → IsLater u v → IsLater v w → IsLater u w
later_then u v w p q =
    record {
      numbers = q.numbers ∙ p.numbers;
      workers = q.workers ∙ p.workers;
      entries = grew_then u.entries v.entries w.entries p.entries q.entries;
      refusals = grew_then u.refusals v.refusals w.refusals p.refusals q.refusals;
      lost = grew_then u.lost v.lost w.lost p.lost q.lost;
      dead = grew_then u.dead v.dead w.dead p.dead q.dead;
      never = grew_then u.never v.never w.never p.never q.never;
      marks = grew_then u.marks v.marks w.marks p.marks q.marks;
    }

pub later_stays : (u v w : View) (x : Gain) → GainedIn u v x → IsLater v w → GainedIn u w x
later_stays u v w (refusal r) g p = stays u.refusals v.refusals w.refusals r g p.refusals
later_stays u v w (lost l) g p = (stays u.lost v.lost w.lost l g.0 p.lost, g.1)
later_stays u v w (dead n) g p = stays u.dead v.dead w.dead n g p.dead
later_stays u v w (never n) g p = stays u.never v.never w.never n g p.never
later_stays u v w (mark m) g p = stays u.marks v.marks w.marks m g p.marks

pub later_since : (u v w : View) (x : Gain) → IsLater u v → GainedIn v w x → GainedIn u w x
later_since u v w (refusal r) p g = since u.refusals v.refusals w.refusals r p.refusals g
later_since u v w (lost l) p g = (since u.lost v.lost w.lost l p.lost g.0, subst (λ (ks : List ℕ). l.holder ≢ number_of (record v { numbers = ks })) p.numbers g.1)
later_since u v w (dead n) p g = since u.dead v.dead w.dead n p.dead g
later_since u v w (never n) p g = since u.never v.never w.never n p.never g
later_since u v w (mark m) p g = since u.marks v.marks w.marks m p.marks g

pub later_alone : (v w : View) → IsLater v w → IsAlone v → IsAlone w
later_alone v w l a k near = subst (λ (x : List ℕ). In k x) (sym l.numbers) (a k (subst (λ (x : ℕ). k < x) l.workers near))

has : {A : Type 0} (xs ys : List A) (x : A) → Gained xs ys x → In x ys
has {A} xs ys x g = subst (λ (l : List A). In x l) (sym g.1) (in_left x g.0 xs g.2)

-- what was gained, the later view has
pub gained_has : (v w : View) (x : Gain) → GainedIn v w x → HasGained w x
gained_has v w (refusal r) g = has v.refusals w.refusals r g
gained_has v w (lost l) g = has v.lost w.lost l g.0
gained_has v w (dead n) g = has v.dead w.dead n g
gained_has v w (never n) g = has v.never w.never n g
gained_has v w (mark m) g = has v.marks w.marks m g
