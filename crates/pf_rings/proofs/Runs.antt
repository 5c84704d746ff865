-- A run round the spokes of a node, step by step: how many it passes, and that it leaves the others.
-- Assumes that no right and no left stands twice.
use Rattle.std.proofs.Common.{◌≡◌, ◌≢◌, ℕ, zero, suc, ◌+◌, ◌≤◌, List, [], ◌∷◌, ◌++◌, length, refl, sym, ◌∙◌, ap, subst, true, false, cond, ◌⊎◌, inl, inr, arith}
use Rattle.std.specs.Prelude.{Contains, not, Option, Some, None, ◌==◌, map}
use Rattle.std.proofs.lemmas.Bool.Decides.{nat_tests}
use Rattle.std.proofs.lemmas.List.Elements.{Contains-append_cases, Contains-append_left, Contains-append_right}
use Rattle.pf_model.specs.declared.Spoke.{Spoke}
use Rattle.pf_model.specs.Rising.{AreDifferent}
use Rattle.pf_model.specs.Stars.{left_after, without_right, run_leaves}
use Rattle.pf_model.specs.Fans.{AreBeside}
use Rattle.pf_model.proofs.Members.{nowhere, here, there, cases, filter-in, filter-out}
use Rattle.pf_model.proofs.Totals.{map-in, map-means, different-append}
use Rattle.pf_model.proofs.Fans.{IsSimple, simple_less, left_after-some, left_after-none}
use Rattle.pf_model.proofs.OneFan.{same_spoke, cycle_ends, beside_join}
use Rattle.pf_rings.specs.Runs.{IsWholeRun}

not_eq : (a b : ℕ) → a ≢ b → not (a == b) ≡ true
not_eq a b h = grind (arith, nat_tests)

not_eq_means : (a b : ℕ) → not (a == b) ≡ true → a ≢ b
not_eq_means a b h = grind (arith, nat_tests)

eq_not : (a b : ℕ) → a ≡ b → not (a == b) ≡ false
eq_not a b h = grind (arith, nat_tests)

eq_or_not : (a b : ℕ) → (a ≡ b) ⊎ (a ≢ b)
eq_or_not a b = grind arith

-- spokes without this right are all of them
none_less : (ss : List Spoke) (r : ℕ) → ((w : ℕ) → Contains (map (λ s. s.right) ss) w → r ≢ w) → without_right r ss ≡ ss
none_less [] r h = refl
none_less (s ∷ ss) r h = ap (λ b. cond b (s ∷ without_right r ss) (without_right r ss)) (not_eq s.right r (λ e. h s.right (here s.right (map (λ t. t.right) ss)) (sym e))) ∙ ap (λ l. s ∷ l) (none_less ss r (λ w k. h w (there w s.right (map (λ t. t.right) ss) k)))

-- one spoke is taken out
one_less : (ss : List Spoke) (s : Spoke) → AreDifferent (map (λ t. t.right) ss) → Contains ss s → length (without_right s.right ss) + 1 ≡ length ss
one_less [] s d h = absurd (nowhere s h)
one_less (x ∷ xs) s d h = go (cases s x xs h) (λ k. one_less xs s d.1 k)
  where
    go : (s ≡ x) ⊎ Contains xs s → (Contains xs s → length (without_right s.right xs) + 1 ≡ length xs) → length (without_right s.right (x ∷ xs)) + 1 ≡ length (x ∷ xs)
    go (inl e) ih =
        let taken : not (x.right == s.right) ≡ false = eq_not x.right s.right (ap (λ t. t.right) (sym e)) in
        let same : without_right s.right xs ≡ xs = none_less xs s.right (subst (λ r. (w : ℕ) → Contains (map (λ t. t.right) xs) w → r ≢ w) (ap (λ t. t.right) (sym e)) d.0) in
        let all : without_right s.right (x ∷ xs) ≡ xs = ap (λ b. cond b (x ∷ without_right s.right xs) (without_right s.right xs)) taken ∙ same in
        rw all (omega arith)
    go (inr k) ih =
        let stays : not (x.right == s.right) ≡ true = not_eq x.right s.right (λ e. d.0 s.right (map-in (λ t. t.right) xs s k) e) in
        let all : without_right s.right (x ∷ xs) ≡ x ∷ without_right s.right xs = ap (λ b. cond b (x ∷ without_right s.right xs) (without_right s.right xs)) stays in
        let i = ih k in rw all (omega (arith, i))

-- a run from this right has passed so many spokes, those of the first list, and is at `right` with the others left
pub record IsAtRun (ss : List Spoke) (start passed right : ℕ) : Type 0 where
  pub done : List Spoke
  pub rest : List Spoke
  pub fuel : ℕ
  pub fuelled : fuel + passed ≡ length ss
  pub met : length rest + passed ≡ length ss
  pub leaves : run_leaves (length ss) ss start ≡ run_leaves fuel rest right
  pub simple : IsSimple rest
  pub beside : AreBeside start done right
  pub parted : (s : Spoke) → Contains ss s → Contains done s ⊎ Contains rest s
  pub done_in : (s : Spoke) → Contains done s → Contains ss s
  pub rest_in : (s : Spoke) → Contains rest s → Contains ss s
  pub apart : (s : Spoke) → Contains done s → Contains rest s → ⊥
  pub once : AreDifferent done
  pub begins : (passed ≡ 0) ⊎ ((s : Spoke) × Contains done s × (s.right ≡ start))

-- and it isn't round: no spoke that it passed has this right
pub record IsGoing (ss : List Spoke) (start passed right : ℕ) : Type 0 where
  pub run : IsAtRun ss start passed right
  pub apart : (s : Spoke) → Contains run.done s → s.right ≢ right

pub begun : (ss : List Spoke) (start : ℕ) → IsSimple ss → IsGoing ss start 0 start
begun ss start o =
    record {
      run = record {
        done = [];
        rest = ss;
        fuel = length ss;
        fuelled = omega arith;
        met = omega arith;
        leaves = refl;
        simple = o;
        beside = refl;
        parted = λ s h. inr h;
        done_in = λ s h. absurd (nowhere s h);
        rest_in = λ s h. h;
        apart = λ s h k. nowhere s h;
        once = tt;
        begins = inl refl;
      };
      apart = λ s h e. nowhere s h;
    }

-- nothing is passed where no spoke has this right
stopped : (fuel : ℕ) (rest : List Spoke) (right : ℕ) → left_after rest right ≡ None → run_leaves fuel rest right ≡ rest
stopped zero rest right h = refl
stopped (suc fuel) rest right h = go (left_after rest right) h
  where
    go : (o : Option ℕ) → o ≡ None → (let left : List Spoke = elim o [ None ↦ rest | Some next ↦ run_leaves fuel (without_right right rest) next ] in left ≡ rest)
    go None e = refl
    go (Some l) e = absurd (let k : Some l ≡ None = e in cc)

no_fuel : (fuel : ℕ) (rest : List Spoke) (right : ℕ) → fuel ≡ 0 → run_leaves fuel rest right ≡ rest
no_fuel fuel rest right e = rw e refl

whole : (ss : List Spoke) (start passed right : ℕ) → (r : IsAtRun ss start passed right) → run_leaves r.fuel r.rest right ≡ r.rest → IsWholeRun ss start passed
whole ss start passed right r e = record { leaves = ap (λ l. length l + passed) (r.leaves ∙ e) ∙ r.met }

-- it ends where no spoke has this right
pub ended : (ss : List Spoke) (start passed right : ℕ) → IsAtRun ss start passed right → left_after ss right ≡ None → IsWholeRun ss start passed
ended ss start passed right r h = whole ss start passed right r (stopped r.fuel r.rest right (none (left_after r.rest right) refl))
  where
    none : (o : Option ℕ) → left_after r.rest right ≡ o → left_after r.rest right ≡ None
    none None e = e
    none (Some l) e = let x = left_after-some r.rest right l e in absurd (left_after-none ss right h (x.0, r.rest_in x.0 x.1, x.2))

-- it ends where it passed as many as there are
pub full : (ss : List Spoke) (start passed right : ℕ) → IsAtRun ss start passed right → length ss ≤ passed → IsWholeRun ss start passed
full ss start passed right r h = whole ss start passed right r (no_fuel r.fuel r.rest right (let f = r.fuelled in omega (arith, f, h)))

-- it ends where it is round
pub round : (ss : List Spoke) (start passed : ℕ) → IsSimple ss → IsAtRun ss start (passed + 1) start → IsWholeRun ss start (passed + 1)
round ss start passed o r = whole ss start (passed + 1) start r (stopped r.fuel r.rest start (none (left_after r.rest start) refl))
  where
    no_start : (x : Spoke) → Contains r.rest x → x.right ≡ start → ⊥
    no_start x h e = elim r.begins [
      | inl k ↦ (let z : passed + 1 ≡ 0 = k in omega (arith, z))
      | inr y ↦ r.apart x (subst (λ t. Contains r.done t) (same_spoke ss y.0 x o.different (r.done_in y.0 y.1) (r.rest_in x h) (y.2 ∙ sym e)) y.1) h
    ]

    none : (q : Option ℕ) → left_after r.rest start ≡ q → left_after r.rest start ≡ None
    none None e = e
    none (Some l) e = let x = left_after-some r.rest start l e in absurd (no_start x.0 x.1 x.2)

one_more : (s : Spoke) → AreDifferent (s ∷ [])
one_more s = ((λ z h e. nowhere z h), tt)

-- the first of them begins there
first_right : (order : List Spoke) (start last : ℕ) (s : Spoke) → Contains order s → AreBeside start order last → (x : Spoke) × Contains order x × (x.right ≡ start)
first_right [] start last s h b = absurd (nowhere s h)
first_right (x ∷ order) start last s h b = (x, here x order, b.0)

-- what a run takes of the spokes that are left, where one has this right
taken : (fuel : ℕ) (rest : List Spoke) (right l : ℕ) → left_after rest right ≡ Some l → run_leaves (suc fuel) rest right ≡ run_leaves fuel (without_right right rest) l
taken fuel rest right l h = go (left_after rest right) h
  where
    go : (o : Option ℕ) → o ≡ Some l → (let left : List Spoke = elim o [ None ↦ rest | Some next ↦ run_leaves fuel (without_right right rest) next ] in left ≡ run_leaves fuel (without_right right rest) l)
    go None e = absurd (let k : None ≡ Some l = e in cc)
    go (Some n) e = let k : n ≡ l = cc in subst (λ w. run_leaves fuel (without_right right rest) w ≡ run_leaves fuel (without_right right rest) l) (sym k) refl

-- the first match of a right is the spoke that has it
found : (rest : List Spoke) → IsSimple rest → (s : Spoke) → Contains rest s → left_after rest s.right ≡ Some s.left
found rest o s h = go (left_after rest s.right) refl
  where
    go : (a : Option ℕ) → left_after rest s.right ≡ a → left_after rest s.right ≡ Some s.left
    go None f = absurd (left_after-none rest s.right f (s, h, refl))
    go (Some l) f = let x = left_after-some rest s.right l f in f ∙ ap (λ w. Some w) (sym x.3 ∙ o.one_left x.0 s x.1 h x.2)

-- a step of the run, to the spoke with this right
pub stepped : (ss : List Spoke) (start passed : ℕ) (s : Spoke) → IsSimple ss → Contains ss s → IsGoing ss start passed s.right → IsAtRun ss start (passed + 1) s.left
stepped ss start passed s o h g = go g.run.fuel refl
  where
    r : IsAtRun ss start passed s.right
    r = g.run

    in_rest : Contains r.rest s
    in_rest = elim (r.parted s h) [ inl d ↦ absurd (g.apart s d refl) | inr k ↦ k ]

    out : (t : Spoke) → Contains (without_right s.right r.rest) t → Contains r.rest t × (not (t.right == s.right) ≡ true)
    out t k = filter-out (λ w. not (w.right == s.right)) t r.rest k

    less : length (without_right s.right r.rest) + 1 ≡ length r.rest
    less = one_less r.rest s r.simple.different in_rest

    parted : (t : Spoke) → Contains ss t → Contains (r.done ++ s ∷ []) t ⊎ Contains (without_right s.right r.rest) t
    parted t k = elim (r.parted t k) [
      | inl d ↦ inl (Contains-append_left r.done (s ∷ []) t d)
      | inr q ↦ elim (eq_or_not t.right s.right) [
        | inl e ↦ inl (Contains-append_right r.done (s ∷ []) t (subst (λ w. Contains (w ∷ []) t) (same_spoke ss t s o.different k h e) (here t [])))
        | inr n ↦ inr (filter-in (λ w. not (w.right == s.right)) t r.rest q (not_eq t.right s.right n))
      ]
    ]

    only : (t : Spoke) → Contains (r.done ++ s ∷ []) t → Contains r.done t ⊎ (t ≡ s)
    only t k = elim (Contains-append_cases r.done (s ∷ []) t k) [ inl d ↦ inl d | inr q ↦ elim (cases t s [] q) [ inl e ↦ inr e | inr n ↦ absurd (nowhere t n) ] ]

    go : (f : ℕ) → g.run.fuel ≡ f → IsAtRun ss start (passed + 1) s.left
    go zero e = absurd (let a = r.fuelled in let b = r.met in let c = less in omega (arith, a, b, c, e))
    go (suc f) e =
        let beside = beside_join r.done (s ∷ []) start s.right s.left r.beside (refl, refl) in
        record {
          done = r.done ++ s ∷ [];
          rest = without_right s.right r.rest;
          fuel = f;
          fuelled = (let a = r.fuelled in omega (arith, a, e));
          met = (let a = r.met in let c = less in omega (arith, a, c));
          leaves = r.leaves ∙ (ap (λ w. run_leaves w r.rest s.right) e ∙ taken f r.rest s.right s.left (found r.rest r.simple s in_rest));
          simple = simple_less s.right r.rest r.simple;
          beside = beside;
          parted = parted;
          done_in = λ t k. elim (only t k) [ inl d ↦ r.done_in t d | inr q ↦ subst (λ w. Contains ss w) (sym q) h ];
          rest_in = λ t k. r.rest_in t (out t k).0;
          apart = λ t k q. elim (only t k) [ inl d ↦ r.apart t d (out t q).0 | inr w ↦ not_eq_means t.right s.right (out t q).1 (ap (λ x. x.right) w) ];
          once = different-append r.done (s ∷ []) r.once (one_more s) (λ z k q. elim (cases z s [] q) [ inl w ↦ r.apart z k (subst (λ x. Contains r.rest x) (sym w) in_rest) | inr n ↦ nowhere z n ]);
          begins = inr (first_right (r.done ++ s ∷ []) start s.left s (Contains-append_right r.done (s ∷ []) s (here s [])) beside);
        }

-- it goes on where it isn't round
pub goes_on : (ss : List Spoke) (start passed right : ℕ) → IsSimple ss → IsAtRun ss start passed right → right ≢ start → IsGoing ss start passed right
goes_on ss start passed right o r n = record { run = r; apart = λ t k e. n (cycle_ends r.done r.done start right (simple r.done r.done_in r.once) (record { all = λ s h. h; only = λ s h. h; once = r.once }) r.beside t k e) }
  where
    simple : (done : List Spoke) → ((s : Spoke) → Contains done s → Contains ss s) → AreDifferent done → IsSimple done
    simple done in' once = record {
      one_left = λ s t hs ht e. o.one_left s t (in' s hs) (in' t ht) e;
      one_right = λ s t hs ht e. o.one_right s t (in' s hs) (in' t ht) e;
      different = rights done in' once;
    }
      where
        rights : (xs : List Spoke) → ((s : Spoke) → Contains xs s → Contains ss s) → AreDifferent xs → AreDifferent (map (λ s. s.right) xs)
        rights [] sub d = tt
        rights (x ∷ xs) sub d = ((λ w k e. (let y = map-means (λ s. s.right) xs w k in d.0 y.0 y.1 (same_spoke ss x y.0 o.different (sub x (here x xs)) (sub y.0 (there y.0 x xs y.1)) (e ∙ sym y.2)))), rights xs (λ t k. sub t (there t x xs k)) d.1)
