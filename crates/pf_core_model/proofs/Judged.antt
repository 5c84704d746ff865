-- Held pairs that are true of a mesh: what is judged and made from them is so on the mesh.
use Rattle.std.proofs.Common.{◌≡◌, ℕ, ◌+◌, Bool, true, false, not, ◌&&◌, ◌||◌, ◌==◌, List, [], ◌∷◌, ◌++◌, refl, sym, ap, ◌∙◌, subst, inl, inr, ⊎_elim, arith}
use Rattle.std.specs.Prelude.{Option, Some, None, is_some, min, max}
use Rattle.std.specs.List.{list_all}
use Rattle.std.proofs.lemmas.Bool.Decides.{nat_tests}
use Rattle.pf_model.specs.declared.Op.{Op}
use Rattle.pf_model.specs.declared.Op.TheVariants.{Flip, Bisect, Contract}
use Rattle.pf_model.specs.declared.Cond.{Cond}
use Rattle.pf_model.specs.declared.Entry.{Entry}
use Rattle.pf_model.specs.declared.Band.{Band}
use Rattle.pf_model.specs.Clauses.{first_of}
use Rattle.pf_model.specs.declared.Side.{Side}
use Rattle.pf_model.specs.Mesh.{Undivided}
use Rattle.pf_model.specs.Ends.{first_end, second_end}
use Rattle.pf_model.specs.Conforming.{IsConforming}
use Rattle.pf_model.specs.Applied.{applied}
use Rattle.pf_model.specs.Conditions.{first_failing, apex_or}
use Rattle.pf_model.specs.Stars.{Star, star_of}
use Rattle.pf_star_model.specs.Lent.{Held, is_held, star_held, AgreesOn, IsShown, sight_of}
use Rattle.pf_model.specs.Rows.{edge_rows, flip_rows}
use Rattle.pf_star_model.specs.Judged.{AreBandsShown, judged, judged_ends, left_seen, right_seen, IsApexShown}
use Rattle.pf_star_model.specs.Cavity.{apexes, cavity_of, cavity_seen}
use Rattle.pf_star_model.specs.Patched.{patched, patched_pairs, made_by}
use Rattle.pf_star_model.specs.Laws.{AreEndsShown}
use Rattle.pf_star_model.proofs.Judging.{judged_is_first_failing}
use Rattle.pf_star_model.proofs.Cavities.{cavity_is_seen}
use Rattle.pf_star_model.proofs.Operations.{held_shown, patched_pairs_agree, patched_is_new_star, passes_at_ends}
use Rattle.pf_core_model.specs.Lists.{In}
use Rattle.pf_core_model.specs.Needs.{Passes}
use Rattle.pf_core_model.specs.Core.{Opening, nodes_in}
use Rattle.pf_core_model.specs.State.{is_apex_held, can_judge, new_pairs, fresh_pairs, can_make}
use Rattle.pf_core_model.proofs.Lists.{in_either, in_left, in_mapped}
use Rattle.pf_core_model.proofs.Replays.{and_left, and_right, or_cases}
use Rattle.pf_core_model.proofs.Born.{in_contains, contains_in}
use Rattle.pf_core_model.proofs.Outside.{can_apply}

-- tests as facts
none_of : {A : Type 0} (x : Option A) → not (is_some x) ≡ true → x ≡ None
none_of None h = refl
none_of (Some a) h = absurd (cc (h))

pub held_in : (n : ℕ) (ps : List Held) → is_held ps n ≡ true → In n (nodes_in ps)
held_in n [] h = absurd (cc (h))
held_in n (p ∷ ps) h = ⊎_elim (λ (e : (p.node == n) ≡ true). inl (let z : n ≡ p.node = grind (arith, nat_tests) in z)) (λ (e : is_held ps n ≡ true). inr (held_in n ps e)) (or_cases (p.node == n) (is_held ps n) h)

all_held : (ps : List Held) (ns : List ℕ) → list_all (is_held ps) ns ≡ true → (n : ℕ) → In n ns → is_held ps n ≡ true
all_held ps [] h n k = absurd k
all_held ps (m ∷ ms) h n (inl e) = ap (λ (x : ℕ). is_held ps x) e ∙ and_left (is_held ps m) (list_all (is_held ps) ms) h
all_held ps (m ∷ ms) h n (inr k) = all_held ps ms (and_right (is_held ps m) (list_all (is_held ps) ms) h) n k

both : (a b c : Bool) → a ≡ true → b ≡ true → c ≡ true → (a && (b && c)) ≡ true
both a b c p q r = (λ i. p i && (q i && r i))

-- a table with a clause that comes
comes : (x y : Option Cond) (c : Cond) (rest : List (Option Cond)) → first_of (x ∷ y ∷ Some c ∷ rest) ≡ None → ⊥
comes (Some x) y c rest e = absurd (let z : true ≡ false = ap is_some e in cc (z))
comes None (Some y) c rest e = absurd (let z : true ≡ false = ap is_some e in cc (z))
comes None None c rest e = absurd (let z : true ≡ false = ap is_some e in cc (z))

-- the edge of a flip whose other conditions pass has a left apex
left_there : (m : Undivided) (chunk a b lo hi : ℕ) (l r : Option Side) → first_of (edge_rows chunk a b l r ++ flip_rows m lo hi l r) ≡ None → In (apex_or l) (apexes l)
left_there m chunk a b lo hi None r e = absurd (comes _ _ _ _ e)
left_there m chunk a b lo hi (Some s) r e = inl refl

module _ (m : Undivided) (ok : IsConforming m) (held : List Held) (shows : (p : Held) → In p held → p.star ≡ star_of m p.node) where
  agrees : AgreesOn held m
  agrees p h = shows p (contains_in p held h)

  shown : (n : ℕ) → is_held held n ≡ true → IsShown (star_held held) m n
  shown n h = held_shown held m agrees n h

  apex_shown : (chunk : ℕ) (op : Op) → is_apex_held held chunk op ≡ true → IsApexShown (star_held held) m chunk op
  apex_shown chunk (Flip a b) h = λ e. shown (apex_or (left_seen (star_held held) (min a b) (max a b))) (subst (λ (x : Option Cond). (is_some x || is_held held (apex_or (left_seen (star_held held) (min a b) (max a b)))) ≡ true) e h)
  apex_shown chunk (Bisect a b) h = tt
  apex_shown chunk (Contract u v) h = tt

  own_bands : (op : Op) → AreBandsShown m.bands m op
  own_bands (Flip a b) = tt
  own_bands (Bisect a b) = refl
  own_bands (Contract u v) = refl

  -- what can be judged from the held pairs is judged as on the mesh
  pub judged_is : (chunk : ℕ) (op : Op) → can_judge held chunk op ≡ true → judged (star_held held) m.bands chunk op ≡ first_failing m chunk op
  judged_is chunk op h =
      let rest = and_right (is_held held (first_end op)) (is_held held (second_end op) && is_apex_held held chunk op) h in
      judged_is_first_failing m (star_held held) m.bands chunk op ok (own_bands op)
      (shown (first_end op) (and_left (is_held held (first_end op)) (is_held held (second_end op) && is_apex_held held chunk op) h))
      (shown (second_end op) (and_left (is_held held (second_end op)) (is_apex_held held chunk op) rest))
      (apex_shown chunk op (and_right (is_held held (second_end op)) (is_apex_held held chunk op) rest))

  -- an operation whose cavity is held can be judged
  pub can_judge_held : (chunk : ℕ) (op : Op) → list_all (is_held held) (cavity_seen (star_held held) op) ≡ true → can_judge held chunk op ≡ true
  can_judge_held chunk (Flip a b) h =
      let lent : ℕ → Option Star = star_held held in
      let all = all_held held (cavity_seen lent (Flip a b)) h in
      let left : Option Side = left_seen lent (min a b) (max a b) in
      let right : Option Side = right_seen lent (min a b) (max a b) in
      both (is_held held a) (is_held held b) (is_apex_held held chunk (Flip a b)) (all a (inl refl)) (all b (inr (inl refl)))
      (go (judged_ends lent chunk a b) (λ e. all (apex_or left) (inr (inr (in_left (apex_or left) (apexes left) (apexes right) (left_there (sight_of [] (lent (min a b))) chunk a b (min a b) (max a b) left right e))))) refl)
    where
      go : (x : Option Cond) → (judged_ends (star_held held) chunk a b ≡ None → is_held held (apex_or (left_seen (star_held held) (min a b) (max a b))) ≡ true) → judged_ends (star_held held) chunk a b ≡ x → (is_some x || is_held held (apex_or (left_seen (star_held held) (min a b) (max a b)))) ≡ true
      go None f e = f e
      go (Some c) f e = refl
  can_judge_held chunk (Bisect a b) h = let all = all_held held (cavity_seen (star_held held) (Bisect a b)) h in both (is_held held a) (is_held held b) true (all a (inl refl)) (all b (inr (inl refl))) refl
  can_judge_held chunk (Contract u v) h = let all = all_held held (cavity_seen (star_held held) (Contract u v)) h in both (is_held held u) (is_held held v) true (all u (inl refl)) (all v (inr (inl refl))) refl

  -- what is known of an entry that can be made from the held pairs
  pub record Made (f : ℕ) (e : Entry) : Type 0 where
    pub passes : first_failing m e.chunk e.op ≡ None
    pub cavity : (n : ℕ) → In n (cavity_of m e.chunk e.op) → In n (nodes_in held)
    pub pairs : (p : Held) → In p (fresh_pairs f e held) → p.star ≡ star_of (applied m e) p.node

  made_from : (e : Entry) → Passes m e → AreEndsShown (star_held held) m e.op → (p : Held) → In p (fresh_pairs m.first_new e held) → p.star ≡ star_of (applied m e) p.node
  made_from e ok_entry ends p h =
      let new : ℕ = m.first_new + e.ticket in
      ⊎_elim
      (λ (k : In p (new_pairs (star_held held) new e.op)).
      let r = in_mapped (λ n. record { node = n; star = patched (star_held held) new e.op n }) p (made_by new e.op) k in
      ap (λ (q : Held). q.star) r.2 ∙ patched_is_new_star m (star_held held) e.chunk e.ticket e.op (can_apply m e ok_entry) ends r.0 (in_contains r.0 (made_by new e.op) r.1)
      ∙ ap (λ (q : Held). star_of (applied m e) q.node) (sym r.2))
      (λ (k : In p (patched_pairs held new e.op)). patched_pairs_agree m held e.chunk e.ticket e.op (can_apply m e ok_entry) agrees ends p (in_contains p (patched_pairs held new e.op) k))
      (in_either p (new_pairs (star_held held) new e.op) (patched_pairs held new e.op) h)

  pub made_is_of : (o : Opening) (e : Entry) → m.bands ≡ o.mesh.bands → m.first_new ≡ o.mesh.first_new → (first_failing m e.chunk e.op ≡ None → Passes m e) → can_make o held e ≡ true → Made o.mesh.first_new e
  made_is_of o e bands first fit h =
      let lent : ℕ → Option Star = star_held held in
      let cavity_held = and_left (list_all (is_held held) (cavity_seen lent e.op)) (not (is_some (judged lent o.mesh.bands e.chunk e.op))) h in
      let passes_held = and_right (list_all (is_held held) (cavity_seen lent e.op)) (not (is_some (judged lent o.mesh.bands e.chunk e.op))) h in
      let able = can_judge_held e.chunk e.op cavity_held in
      let passes : first_failing m e.chunk e.op ≡ None = sym (judged_is e.chunk e.op able) ∙ ap (λ (l : List Band). judged lent l e.chunk e.op) bands ∙ none_of (judged lent o.mesh.bands e.chunk e.op) passes_held in
      let rest = and_right (is_held held (first_end e.op)) (is_held held (second_end e.op) && is_apex_held held e.chunk e.op) able in
      let ends : AreEndsShown lent m e.op = (shown (first_end e.op) (and_left (is_held held (first_end e.op)) (is_held held (second_end e.op) && is_apex_held held e.chunk e.op) able), shown (second_end e.op) (and_left (is_held held (second_end e.op)) (is_apex_held held e.chunk e.op) rest)) in
      let seen : cavity_seen lent e.op ≡ cavity_of m e.chunk e.op = cavity_is_seen m lent e.chunk e.op ok ends (passes_at_ends m e.chunk e.op passes) in
      record {
        passes = passes;
        cavity = λ n k. held_in n held (all_held held (cavity_seen lent e.op) cavity_held n (subst (λ (l : List ℕ). In n l) (sym seen) k));
        pairs = λ p k. made_from e (fit passes) ends p (subst (λ (f : ℕ). In p (fresh_pairs f e held)) (sym first) k);
      }
