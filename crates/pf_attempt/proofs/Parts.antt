-- The cavity as it is held node by node.
use Rattle.std.proofs.Common.{◌≡◌, ℕ, suc, ◌≤◌, List, [], ◌∷◌, ◌++◌, length, refl, sym, ◌∙◌, ap, subst, Bool, true, false, cond, ◌⊎◌, inl, inr, arith}
use Rattle.std.specs.Prelude.{Contains, Option, Some, None, is_some, is_none, min, max, not}
use Rattle.std.proofs.lemmas.List.{length-map}
use Rattle.pf_model.specs.declared.Band.{Band}
use Rattle.pf_model.specs.declared.Op.{Op}
use Rattle.pf_model.specs.declared.Op.TheVariants.{Flip, Bisect, Contract}
use Rattle.pf_model.specs.declared.Cond.{Cond}
use Rattle.pf_model.specs.declared.Cond.TheVariants.{OnBoundary}
use Rattle.pf_model.specs.Clauses.{first_of}
use Rattle.pf_model.specs.Ends.{first_end, second_end}
use Rattle.pf_model.specs.declared.Side.{Side}
use Rattle.pf_model.specs.Mesh.{Undivided, side_of}
use Rattle.pf_model.specs.Rising.{AreDifferent}
use Rattle.pf_model.specs.Conforming.{IsConforming}
use Rattle.pf_model.specs.Stars.{Star}
use Rattle.pf_model.specs.Conditions.{first_failing}
use Rattle.pf_model.proofs.Members.{nowhere, here, there, cases}
use Rattle.pf_star_model.specs.Lent.{sight_of}
use Rattle.pf_model.specs.Rows.{edge_rows, flip_rows, apex_or}
use Rattle.pf_star_model.specs.Judged.{judged, judged_ends, left_seen, right_seen, ends_failing}
use Rattle.pf_star_model.specs.Cavity.{cavity_of, cavity_seen, apexes, needed, PassesAtEnds}
use Rattle.pf_star_model.proofs.Judging.{or_else, first_of-append, judged_is_first_failing}
use Rattle.pf_star_model.proofs.Cavities.{cavity_is_seen, least_that-some, needed_is_least_missing}
use Rattle.pf_star_model.proofs.Needs.{cavity_small, needed_is_near}
use Rattle.std.proofs.Props.{props}
use Rattle.std.proofs.Math.Logic.{∥∥₁_elim}
use Rattle.pf_star_model.specs.Lent.{Held}
use Rattle.pf_core_model.specs.Lists.{In}
use Rattle.pf_core_model.specs.Core.{Opening, nodes_in}
use Rattle.pf_star_model.specs.Lent.{star_held}
use Rattle.pf_holder.specs.Facts.{won_pair, IsSeen, AreSeen, IsJudged, IsNearLent, HoldsCavity}
use Rattle.pf_core_model.specs.Right.{IsEnd}
use Rattle.pf_holder.specs.Answers.{HoldsStar, IsInCavity}
use Rattle.pf_attempt.specs.Stages.{judged_last, AreLive, EndsPass, HoldsEnds, HoldsPart}
use Rattle.pf_holder.proofs.Held.{in_has, held_shown, star_node, lent_held, end_within}
use Rattle.pf_attempt.proofs.Held.{held_lent, ends_shown, near_at}

-- a mesh that agrees with more pairs agrees with fewer
pub seen_fewer : (bands : List Band) (p : Held) (ps : List Held) (m : Undivided) → IsSeen bands (p ∷ ps) m → IsSeen bands ps m
seen_fewer bands p ps m s = record { conforming = s.conforming; banded = s.banded; shown = λ q i. s.shown q (inr i) }

-- one end, where they are the same
pub one_end : (op : Op) (n : ℕ) (s : Star) → n ≡ first_end op → n ≡ second_end op → HoldsEnds op (won_pair n s ∷ [])
one_end op n s e f =
    record {
      first = (s, inl (ap (λ k. won_pair k s) (sym e)));
      second = (s, inl (ap (λ k. won_pair k s) (sym f)));
      live = λ p i. elim i [ inl q ↦ ap (λ w. is_some w.star) q | inr k ↦ absurd k ];
      apart = ((λ z h. absurd (nowhere z h)), tt);
      only = λ k i. elim i [ inl q ↦ inl (q ∙ e) | inr x ↦ absurd x ];
    }

-- both ends, where they differ
pub two_ends : (op : Op) (a b : ℕ) (s t : Star) → a ≡ first_end op → b ≡ second_end op → (a ≡ b → ⊥) → HoldsEnds op (won_pair b t ∷ won_pair a s ∷ [])
two_ends op a b s t e f d =
    record {
      first = (s, inr (inl (ap (λ k. won_pair k s) (sym e))));
      second = (t, inl (ap (λ k. won_pair k t) (sym f)));
      live = λ p i. elim i [ inl q ↦ ap (λ w. is_some w.star) q | inr j ↦ elim j [ inl q ↦ ap (λ w. is_some w.star) q | inr k ↦ absurd k ] ];
      apart = ((λ z h g. elim (cases z a [] h) [ inl q ↦ d (sym (g ∙ q)) | inr k ↦ absurd (nowhere z k) ]), ((λ z h. absurd (nowhere z h)), tt));
      only = λ k i. elim i [ inl q ↦ inr (q ∙ f) | inr j ↦ elim j [ inl q ↦ inl (q ∙ e) | inr x ↦ absurd x ] ];
    }

-- the ends are a part of the cavity
pub ends_part : (bands : List Band) (ps : List Held) (chunk : ℕ) (op : Op) → HoldsEnds op ps → EndsPass bands ps chunk op → HoldsPart bands ps chunk op
ends_part bands ps chunk op e p = record { first = e.first; second = e.second; live = e.live; apart = e.apart; passes = p; within = λ m s n i. end_within m chunk op n (e.only n i) }

-- one node more
pub part_more : (bands : List Band) (ps : List Held) (chunk : ℕ) (op : Op) (n : ℕ) (s : Star) → HoldsPart bands ps chunk op → IsInCavity bands ps chunk op n → (In n (nodes_in ps) → ⊥) → HoldsPart bands (won_pair n s ∷ ps) chunk op
part_more bands ps chunk op n s p c out =
    record {
      first = (p.first.0, inr p.first.1);
      second = (p.second.0, inr p.second.1);
      live = λ q i. elim i [ inl e ↦ ap (λ w. is_some w.star) e | inr j ↦ p.live q j ];
      apart = ((λ z h g. out (subst (λ w. In w (nodes_in ps)) (sym g) (in_has z (nodes_in ps) h))), p.apart);
      passes = λ m h. p.passes m (seen_fewer bands (won_pair n s) ps m h);
      within = λ m h k i. elim i [ inl e ↦ subst (λ w. Contains (cavity_of m chunk op) w) (sym e) (c m (seen_fewer bands (won_pair n s) ps m h)) | inr j ↦ p.within m (seen_fewer bands (won_pair n s) ps m h) k j ];
    }

-- where nothing is needed, the whole cavity is held
pub part_whole : (bands : List Band) (ps : List Held) (chunk : ℕ) (op : Op) → HoldsPart bands ps chunk op → needed (star_held ps) op ≡ None → HoldsCavity bands ps chunk op
part_whole bands ps chunk op p h m s n c =
    let r = needed_is_least_missing m (star_held ps) chunk op s.conforming (ends_shown bands ps op p.first p.second m s) (p.passes m s) in
    lent_held ps n (r.0 h n c)

-- what is known of a node that is needed
pub record IsMissing (bands : List Band) (ps : List Held) (chunk : ℕ) (op : Op) (n : ℕ) : Type 0 where
  pub cavity : IsInCavity bands ps chunk op n
  pub out : In n (nodes_in ps) → ⊥
  pub room : suc (length ps) ≤ 62
  pub near : IsNearLent (star_held ps) n

few_more : (o : Opening) (ps : List Held) (chunk : ℕ) (op : Op) (n : ℕ) → HoldsPart o.mesh.bands ps chunk op → IsInCavity o.mesh.bands ps chunk op n → (In n (nodes_in ps) → ⊥) → AreSeen o ps → suc (length ps) ≤ 62
few_more o ps chunk op n p inside out a =
    let k = cavity_small a.mesh chunk op (n ∷ nodes_in ps) a.seen.conforming (p.passes a.mesh a.seen) ((λ z i e. out (subst (λ w. In w (nodes_in ps)) (sym e) (in_has z (nodes_in ps) i))), p.apart) sub in
    let l = length-map ps (λ (p : Held). p.node) in
    omega (arith, k, l)
  where
    sub : (x : ℕ) → Contains (n ∷ nodes_in ps) x → Contains (cavity_of a.mesh chunk op) x
    sub x i = elim (cases x n (nodes_in ps) i) [ inl e ↦ subst (λ w. Contains (cavity_of a.mesh chunk op) w) (sym e) (inside a.mesh a.seen) | inr j ↦ p.within a.mesh a.seen x (in_has x (nodes_in ps) j) ]

pub part_missing : (o : Opening) (ps : List Held) (chunk : ℕ) (op : Op) (n : ℕ) → ∥ AreSeen o ps ∥₁ → HoldsPart o.mesh.bands ps chunk op → needed (star_held ps) op ≡ Some n → IsMissing o.mesh.bands ps chunk op n
part_missing o ps chunk op n a p h = record { cavity = inside; out = out; room = ∥∥₁_elim a (hlevel props) (few_more o ps chunk op n p inside out); near = near }
  where
    inside : IsInCavity o.mesh.bands ps chunk op n
    inside m s =
        let r = needed_is_least_missing m (star_held ps) chunk op s.conforming (ends_shown o.mesh.bands ps op p.first p.second m s) (p.passes m s) in
        (r.1 n h).within

    clash : (b : Bool) → not b ≡ true → b ≡ true → ⊥
    clash true e f = absurd (let g : false ≡ true = e in cc)
    clash false e f = absurd (let g : false ≡ true = f in cc)

    out : In n (nodes_in ps) → ⊥
    out i = clash (is_some (star_held ps n)) (least_that-some (λ k. not (is_some (star_held ps k))) (cavity_seen (star_held ps) op) n h).1 (held_lent ps p.live n i)

    near : IsNearLent (star_held ps) n
    near =
        elim (needed_is_near (star_held ps) op n (held_lent ps p.live (first_end op) (star_node ps (first_end op) p.first)) (held_lent ps p.live (second_end op) (star_node ps (second_end op) p.second)) h) [
          | inl e ↦ near_at (star_held ps) (first_end op) n e
          | inr e ↦ near_at (star_held ps) (second_end op) n e
        ]

-- a flip whose ends pass has a left apex
left_some : (chunk a b : ℕ) (l r : Option Side) (sight : Undivided) (lo hi : ℕ) → first_of (edge_rows chunk a b l r ++ flip_rows sight lo hi l r) ≡ None → is_some l ≡ true
left_some chunk a b (Some s) r sight lo hi h = refl
left_some chunk a b None r sight lo hi h = absurd (go (first_of (edge_rows chunk a b None r)) (sym (first_of-append (edge_rows chunk a b None r) (flip_rows sight lo hi None r)) ∙ h))
  where
    go : (o : Option Cond) → or_else o (Some OnBoundary) ≡ None → ⊥
    go None e = absurd (let k : Some OnBoundary ≡ None = e in cc)
    go (Some c) e = absurd (let k : Some c ≡ None = e in cc)

apex_within : (o : Option Side) (xs : List ℕ) (a b : ℕ) → is_some o ≡ true → Contains (a ∷ b ∷ apexes o ++ xs) (apex_or o)
apex_within None xs a b e = absurd (let k : false ≡ true = e in cc)
apex_within (Some s) xs a b e = there s.apex a (b ∷ s.apex ∷ xs) (there s.apex b (s.apex ∷ xs) (here s.apex xs))

-- once the cavity is held, all is judged
pub last_told : (bands : List Band) (ps : List Held) (chunk : ℕ) (op : Op) (y : Option Cond) → HoldsPart bands ps chunk op → HoldsCavity bands ps chunk op → judged_last (star_held ps) bands chunk op ≡ y → IsJudged bands ps chunk op y
last_told bands ps chunk (Bisect a b) y p c h m s = p.passes m s ∙ h
last_told bands ps chunk (Contract u v) y p c h m s = p.passes m s ∙ h
last_told bands ps chunk (Flip a b) y p c h m s =
    let lent = star_held ps in
    let shown = ends_shown bands ps (Flip a b) p.first p.second m s in
    let same = cavity_is_seen m lent chunk (Flip a b) s.conforming shown (p.passes m s) in
    sym (judged_is_first_failing m lent bands chunk (Flip a b) s.conforming tt shown.0 shown.1 (λ e.
    held_shown m ps s.shown _ (c m s _ (subst (λ l. Contains l (apex_or (left_seen lent (min a b) (max a b)))) same (apex_within (left_seen lent (min a b) (max a b)) _ a b (left_some chunk a b (left_seen lent (min a b) (max a b)) (right_seen lent (min a b) (max a b)) (sight_of [] (lent (min a b))) (min a b) (max a b) e))))))
    ∙ h
