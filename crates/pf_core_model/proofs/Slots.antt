-- What a seat owes, and that a list of which nothing is owed is the due one.
use Rattle.std.proofs.Common.{◌≡◌, ◌≢◌, ℕ, zero, suc, ◌+◌, ◌<◌, ◌≤◌, Bool, true, false, cond, ◌==◌, List, [], ◌∷◌, ◌++◌, refl, sym, ap, ◌∙◌, subst, inl, inr, ⊎_elim, arith}
use Rattle.std.specs.Prelude.{Option, Some, None}
use Rattle.std.proofs.lemmas.Bool.Decides.{nat_tests}
use mathlib.Core.Logic.{dite}
use native.Mathlib.Decide.{ℕ_discrete}
use Rattle.pf_model.specs.Stars.{Star}
use Rattle.pf_core_model.specs.declared.sharer.Sharer.{Sharer}
use Rattle.pf_star_model.specs.Lent.{Held}
use Rattle.pf_core_model.specs.declared.event.Owed.{Owed}
use Rattle.pf_core_model.specs.Lists.{In}
use Rattle.pf_star_model.specs.Copies.{due_copy}
use Rattle.pf_core_model.specs.Sharers.{sharer_list, sharers_from, sharers_in, copy_in, IsListFrom, IsSharerList}
use Rattle.pf_core_model.specs.Same.{same_star}
use Rattle.pf_core_model.specs.Slots.{lacks_from, owed_in, Lacks}
use Rattle.pf_core_model.proofs.Lists.{in_either, in_left, in_right}
use Rattle.pf_core_model.proofs.Same.{star_is, star_same}
use Rattle.pf_core_model.proofs.Sharing.{list_lower, copy_before}

abbrev lack : ℕ → ℕ → Owed
lack chunk n = record { chunk = chunk; node = n }

-- one node
record LacksFrom (first more n : ℕ) (star : Option Star) (l : List Sharer) (d : Owed) : Type 0 where
  pub node : d.node ≡ n
  pub above : first ≤ d.chunk
  pub below : d.chunk < first + more
  pub behind : copy_in l d.chunk ≢ due_copy d.chunk star

differ : (a b : Option Star) → same_star a b ≡ false → a ≢ b
differ a b h e = let z : true ≡ false = sym (star_same a) ∙ ap (λ (x : Option Star). same_star a x) e ∙ h in absurd (cc (z))

in_lacks : (first more n : ℕ) (star : Option Star) (l : List Sharer) (d : Owed) → In d (lacks_from first more n star l) → LacksFrom first more n star l d
in_lacks first zero n star l d h = absurd h
in_lacks first (suc more) n star l d h = go (in_lacks (suc first) more n star l d) (same_star (copy_in l first) (due_copy first star)) refl h
  where
    later : (ih : In d (lacks_from (suc first) more n star l) → LacksFrom (suc first) more n star l d) → In d (lacks_from (suc first) more n star l) → LacksFrom first (suc more) n star l d
    later ih k = let r = ih k in record { node = r.node; above = let z = r.above in omega arith; below = let z = r.below in omega arith; behind = r.behind }

    go : (In d (lacks_from (suc first) more n star l) → LacksFrom (suc first) more n star l d) → (b : Bool) → same_star (copy_in l first) (due_copy first star) ≡ b
        → In d (cond b (lacks_from (suc first) more n star l) (lack first n ∷ lacks_from (suc first) more n star l)) → LacksFrom first (suc more) n star l d
    go ih true is k = later ih k
    go ih false is (inr k) = later ih k
    go ih false is (inl e) =
        let at : d.chunk ≡ first = ap (λ (x : Owed). x.chunk) e in
        record {
          node = ap (λ (x : Owed). x.node) e;
          above = omega arith;
          below = omega arith;
          behind = subst (λ (c : ℕ). copy_in l c ≢ due_copy c star) (sym at) (differ (copy_in l first) (due_copy first star) is);
        }

lacks_in : (first more n chunk : ℕ) (star : Option Star) (l : List Sharer) → first ≤ chunk → chunk < first + more → copy_in l chunk ≢ due_copy chunk star → In (lack chunk n) (lacks_from first more n star l)
lacks_in first zero n chunk star l up low ne = absurd (omega arith)
lacks_in first (suc more) n chunk star l up low ne =
    dite (ℕ_discrete chunk first)
    (λ e. here e (same_star (copy_in l first) (due_copy first star)) refl)
    (λ far. there (same_star (copy_in l first) (due_copy first star)) (lacks_in (suc first) more n chunk star l (omega arith) (omega arith) ne))
  where
    there : (b : Bool) → In (lack chunk n) (lacks_from (suc first) more n star l) → In (lack chunk n) (cond b (lacks_from (suc first) more n star l) (lack first n ∷ lacks_from (suc first) more n star l))
    there true k = k
    there false k = inr k

    here : chunk ≡ first → (b : Bool) → same_star (copy_in l first) (due_copy first star) ≡ b → In (lack chunk n) (cond b (lacks_from (suc first) more n star l) (lack first n ∷ lacks_from (suc first) more n star l))
    here e true is = absurd (ne (subst (λ (c : ℕ). copy_in l c ≡ due_copy c star) (sym e) (star_is (copy_in l first) (due_copy first star) is)))
    here e false is = inl (ap (λ (c : ℕ). lack c n) e)

lacking : (chunks : ℕ) (held : List Held) (lists : ℕ → List Sharer) (d : Owed) → In d (owed_in chunks held lists) → Lacks chunks held lists d
lacking chunks [] lists d h = absurd h
lacking chunks (p ∷ ps) lists d h = ⊎_elim
    (λ (k : In d (lacks_from 0 chunks p.node p.star (lists p.node))). let r = in_lacks 0 chunks p.node p.star (lists p.node) d k in
    record { pair = p; inside = inl refl; node = r.node; below = let z = r.below in omega arith; behind = r.behind })
    (λ (k : In d (owed_in chunks ps lists)). let r = lacking chunks ps lists d k in record { pair = r.pair; inside = inr r.inside; node = r.node; below = r.below; behind = r.behind })
    (in_either d (lacks_from 0 chunks p.node p.star (lists p.node)) (owed_in chunks ps lists) h)

owed_where : (chunks : ℕ) (held : List Held) (lists : ℕ → List Sharer) (p : Held) (chunk : ℕ) → In p held → chunk < chunks → copy_in (lists p.node) chunk ≢ due_copy chunk p.star → In (lack chunk p.node) (owed_in chunks held lists)
owed_where chunks [] lists p chunk h low ne = absurd h
owed_where chunks (q ∷ qs) lists p chunk (inl e) low ne =
    in_left (lack chunk p.node) (lacks_from 0 chunks q.node q.star (lists q.node)) (owed_in chunks qs lists)
    (subst (λ (x : Held). In (lack chunk p.node) (lacks_from 0 chunks x.node x.star (lists x.node))) e (lacks_in 0 chunks p.node chunk p.star (lists p.node) (omega arith) (omega arith) ne))
owed_where chunks (q ∷ qs) lists p chunk (inr h) low ne = in_right (lack chunk p.node) (lacks_from 0 chunks q.node q.star (lists q.node)) (owed_in chunks qs lists) (owed_where chunks qs lists p chunk h low ne)

pub owed_lacking : (chunks : ℕ) (held : List Held) (lists : ℕ → List Sharer) (d : Owed) → (In d (owed_in chunks held lists) → Lacks chunks held lists d) × (Lacks chunks held lists d → In d (owed_in chunks held lists))
owed_lacking chunks held lists d = (
  lacking chunks held lists d,
  (λ k. subst (λ (n : ℕ). In (lack d.chunk n) (owed_in chunks held lists)) (sym k.node) (owed_where chunks held lists k.pair d.chunk k.inside k.below k.behind)),
)

-- lists of copies
listed : (first more : ℕ) (star : Option Star) → IsListFrom first (first + more) (sharers_from first more star)
listed first zero star = tt
listed first (suc more) star = go (due_copy first star) (subst (λ (k : ℕ). IsListFrom (suc first) k (sharers_from (suc first) more star)) (let z : suc first + more ≡ first + suc more = omega arith in z) (listed (suc first) more star))
  where
    rest : List Sharer
    rest = sharers_from (suc first) more star

    go : (c : Option Star) → IsListFrom (suc first) (first + suc more) rest → IsListFrom first (first + suc more) (sharer_list first c ++ rest)
    go None k = list_lower (suc first) first (first + suc more) rest (omega arith) k
    go (Some s) k = (omega arith, omega arith, k)

pub sharers_listed : (chunks : ℕ) (star : Option Star) → IsSharerList chunks (sharers_in chunks star)
sharers_listed chunks star = subst (λ (k : ℕ). IsListFrom 0 k (sharers_in chunks star)) (let z : 0 + chunks ≡ chunks = omega arith in z) (listed 0 chunks star)

due_from : (first more : ℕ) (star : Option Star) (l : List Sharer) → IsListFrom first (first + more) l → ((i : ℕ) → first ≤ i → i < first + more → copy_in l i ≡ due_copy i star) → l ≡ sharers_from first more star
due_from first zero star [] h all = refl
due_from first zero star (s ∷ ss) h all = let y = h.0 in let z = h.1 in absurd (omega arith)
due_from first (suc more) star [] h all =
    let none : due_copy first star ≡ None = sym (all first (omega arith) (omega arith)) in
    let r : [] ≡ sharers_from (suc first) more star = due_from (suc first) more star [] tt (λ i up low. all i (omega arith) (omega arith)) in
    r ∙ ap (λ (c : Option Star). sharer_list first c ++ sharers_from (suc first) more star) (sym none)
due_from first (suc more) star (s ∷ ss) h all =
    let same : first + suc more ≡ suc first + more = omega arith in
    dite (ℕ_discrete s.chunk first)
    (λ e.
    let hit : (s.chunk == first) ≡ true = grind (arith, nat_tests) in
    let some_copy : due_copy first star ≡ Some s.star = sym (all first (omega arith) (omega arith)) ∙ ap (λ (b : Bool). cond b (Some s.star) (copy_in ss first)) hit in
    let tail : IsListFrom (suc first) (suc first + more) ss = subst (λ (k : ℕ). IsListFrom (suc first) k ss) same (subst (λ (k : ℕ). IsListFrom (suc k) (first + suc more) ss) e h.2) in
    let r : ss ≡ sharers_from (suc first) more star
    = due_from (suc first) more star ss tail (λ i up low.
    let miss : (s.chunk == i) ≡ false = grind (arith, nat_tests) in
    sym (ap (λ (b : Bool). cond b (Some s.star) (copy_in ss i)) miss) ∙ all i (omega arith) (omega arith)) in
    let head : s ∷ ss ≡ sharer_list first (Some s.star) ++ ss = ap (λ (k : ℕ). record { chunk = k; star = s.star } ∷ ss) e in
    head ∙ ap (λ (k : List Sharer). sharer_list first (Some s.star) ++ k) r ∙ ap (λ (c : Option Star). sharer_list first c ++ sharers_from (suc first) more star) (sym some_copy))
    (λ ne.
    let z = h.0 in
    let up : IsListFrom (suc first) (first + suc more) (s ∷ ss) = (omega arith, h.1, h.2) in
    let none : due_copy first star ≡ None = sym (all first (omega arith) (omega arith)) ∙ copy_before (suc first) (first + suc more) first (s ∷ ss) up (omega arith) in
    let r : s ∷ ss ≡ sharers_from (suc first) more star
    = due_from (suc first) more star (s ∷ ss) (subst (λ (k : ℕ). IsListFrom (suc first) k (s ∷ ss)) same up) (λ i over low. all i (omega arith) (omega arith)) in
    r ∙ ap (λ (c : Option Star). sharer_list first c ++ sharers_from (suc first) more star) (sym none))

pub due_list : (chunks : ℕ) (star : Option Star) (l : List Sharer) → IsSharerList chunks l → ((chunk : ℕ) → chunk < chunks → copy_in l chunk ≡ due_copy chunk star) → l ≡ sharers_in chunks star
due_list chunks star l h all = due_from 0 chunks star l (subst (λ (k : ℕ). IsListFrom 0 k l) (let z : chunks ≡ 0 + chunks = omega arith in z) h) (λ i up low. all i (omega arith))

pub paid_shared : (chunks : ℕ) (held : List Held) (lists : ℕ → List Sharer) (p : Held) → In p held → IsSharerList chunks (lists p.node)
    → ((chunk : ℕ) → In (record { chunk = chunk; node = p.node }) (owed_in chunks held lists) → ⊥) → lists p.node ≡ sharers_in chunks p.star
paid_shared chunks held lists p h list paid = due_list chunks p.star (lists p.node) list (λ chunk low. by_test chunk low (same_star (copy_in (lists p.node) chunk) (due_copy chunk p.star)) refl)
  where
    by_test : (chunk : ℕ) → chunk < chunks → (b : Bool) → same_star (copy_in (lists p.node) chunk) (due_copy chunk p.star) ≡ b → copy_in (lists p.node) chunk ≡ due_copy chunk p.star
    by_test chunk low true is = star_is (copy_in (lists p.node) chunk) (due_copy chunk p.star) is
    by_test chunk low false is = absurd (paid chunk (owed_where chunks held lists p chunk h low (differ (copy_in (lists p.node) chunk) (due_copy chunk p.star) is)))
