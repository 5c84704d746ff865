-- A run of entries over the edge table: the mesh after each entry, and that there is room to list it.
use Rattle.std.proofs.Common.{◌≡◌, ℕ, suc, ◌+◌, ◌<◌, ◌≤◌, List, [], ◌∷◌, length, take, drop, get_or, add-one, refl, sym, ◌∙◌, ap, subst, Bool, true, false, cond, arith, None, is_some}
use Rattle.std.specs.Prelude.{Contains, nat_lt, not}
use Rattle.std.proofs.lemmas.Bool.Decides.{nat_tests}
use Rattle.std.proofs.lemmas.List.{take_more, drop_more, get_or_default}
use Rattle.pf_model.specs.declared.Site.{Site}
use Rattle.pf_model.specs.declared.Tri.{Tri}
use Rattle.pf_model.specs.declared.Band.{Band}
use Rattle.pf_model.specs.declared.Op.{Op}
use Rattle.pf_model.specs.declared.Op.TheVariants.{Flip, Bisect, Contract}
use Rattle.pf_model.specs.declared.Entry.{Entry}
use Rattle.pf_model.specs.Rising.{IsRising, insert_by, insert_all_by}
use Rattle.pf_model.specs.Mesh.{Undivided, tri_lt, has_edge}
use Rattle.pf_model.specs.Conforming.{IsConforming, IsLive}
use Rattle.pf_model.specs.Ends.{gone_end}
use Rattle.pf_model.specs.Conditions.{first_failing}
use Rattle.pf_model.specs.Applied.{IsFresh, applied, op_applied}
use Rattle.pf_model.specs.Replay.{HasTicketsFrom, refusal_of, first_refusal, replayed}
use Rattle.pf_model.proofs.Members.{here, there}
use Rattle.pf_model.proofs.RisingLemmas.{rising-head, rising-tail}
use Rattle.pf_model.proofs.ReplayKeeps.{applied_fresh}
use Rattle.pf_model.proofs.Replays.{refusal-none, replayed-push, unrefused-push}
use Rattle.pf_apply.specs.declared.run.ApplyErr.{ApplyErr}
use Rattle.pf_edges.specs.declared.table.Node.{Node}
use Rattle.pf_model.specs.Exchange.{exchanged, without, without_all}
use Rattle.pf_edges.specs.Table.{Sides}
use Rattle.pf_edges.specs.Kept.{IsKept}
use Rattle.pf_rules.specs.Change.{PassesWithName}
use Rattle.pf_apply.specs.Run.{IsSaid, IsStopped, IsReached}
use Rattle.pf_apply.proofs.SitesListed.{site_lt, site-found}

-- an entry that isn't refused can be applied
abbrev pub can-apply : (sides : Sides) (nodes : List Node) (bands : List Band) (first_new site_room tri_room : ℕ) (m : Undivided) (e : Entry) → IsReached sides nodes bands first_new e.ticket site_room tri_room m → refusal_of m e ≡ None → PassesWithName m (first_new + e.ticket) e.op
can-apply sides nodes bands first_new site_room tri_room m e r passes =
    record {
      chunk = e.chunk;
      ticket = e.ticket;
      fresh = r.fresh;
      name = ap (λ (i : ℕ). i + e.ticket) r.first;
      passes = (refusal-none (gone_end m e.op) (first_failing m e.chunk e.op) passes).1;
    }

bands-after : (m : Undivided) (ticket : ℕ) (op : Op) → (op_applied m ticket op).bands ≡ m.bands
bands-after m ticket (Flip a b) = refl
bands-after m ticket (Bisect a b) = refl
bands-after m ticket (Contract u v) = refl

pub first-after : (m : Undivided) (ticket : ℕ) (op : Op) → (op_applied m ticket op).first_new ≡ m.first_new
first-after m ticket (Flip a b) = refl
first-after m ticket (Bisect a b) = refl
first-after m ticket (Contract u v) = refl

-- sites that rise, with names from k up to below n, are few
count_up : (n k : ℕ) (ss : List Site) → IsRising site_lt ss → ((s : Site) → Contains ss s → (k ≤ s.name) × (s.name < n)) → k ≤ n → k + length ss ≤ n
count_up n k [] up names l = omega arith
count_up n k (s ∷ ss) up names l =
    let here' = names s (here s ss) in
    let more = count_up n (suc s.name) ss (rising-tail site_lt s ss up) (λ r h. (above s.name r.name (rising-head site_lt s r ss up h), (names r (there r s ss h)).1)) (omega (arith, here'.1)) in
    omega (arith, more, here'.0)
  where
    above : (a b : ℕ) → nat_lt a b ≡ true → suc a ≤ b
    above a b e = grind (arith, nat_tests)

-- a conforming mesh has at most as many nodes as there are names below that which bounds them
pub sites-few : (m : Undivided) (n : ℕ) → IsConforming m → ((k : ℕ) → IsLive m k → k < n) → length m.sites ≤ n
sites-few m n ok below = let all = count_up n 0 m.sites up (λ s h. (omega arith, below s.name (ap is_some (site-found m.sites up s h)))) (omega arith) in omega (arith, all)
  where
    test : (a b : ℕ) → a < b → nat_lt a b ≡ true
    test a b l = grind (arith, nat_tests)

    up : IsRising site_lt m.sites
    up i j d l k = test _ _ (ok.sites_rise i j d l k)

-- an exchange adds at most the second list
inserted-length : (t : Tri) (ts : List Tri) → length (insert_by tri_lt t ts) ≡ suc (length ts)
inserted-length t [] = refl
inserted-length t (s ∷ ts) = go (tri_lt t s) (inserted-length t ts)
  where
    go : (b : Bool) → length (insert_by tri_lt t ts) ≡ suc (length ts) → length (cond b (t ∷ s ∷ ts) (s ∷ insert_by tri_lt t ts)) ≡ suc (suc (length ts))
    go true ih = refl
    go false ih = ap suc ih

all-inserted-length : (new ts : List Tri) → length (insert_all_by tri_lt new ts) ≡ length new + length ts
all-inserted-length [] ts = omega arith
all-inserted-length (t ∷ new) ts = let a = inserted-length t (insert_all_by tri_lt new ts) in let b = all-inserted-length new ts in omega (arith, a, b)

without-length : (g : Tri) (ts : List Tri) → length (without g ts) ≤ length ts
without-length g [] = omega arith
without-length g (t ∷ ts) = go (has_edge g.a g.b t) (without-length g ts)
  where
    go : (b : Bool) → length (without g ts) ≤ length ts → length (cond (not b) (t ∷ without g ts) (without g ts)) ≤ suc (length ts)
    go true ih = omega (arith, ih)
    go false ih = omega (arith, ih)

without_all-length : (removed ts : List Tri) → length (without_all removed ts) ≤ length ts
without_all-length [] ts = omega arith
without_all-length (g ∷ removed) ts = let a = without_all-length removed (without g ts) in let b = without-length g ts in omega (arith, a, b)

pub exchanged-length : (removed new ts : List Tri) → length (exchanged removed new ts) ≤ length new + length ts
exchanged-length removed new ts = let a = all-inserted-length new (without_all removed ts) in let b = without_all-length removed ts in omega (arith, a, b)

-- what is reached after an entry
pub reached-more : (sides new : Sides) (nodes after : List Node) (bands : List Band) (first_new site_room tri_room site_room' tri_room' : ℕ) (m : Undivided) (e : Entry) (removed came : List Tri) → IsReached sides nodes bands first_new e.ticket site_room tri_room m → refusal_of m e ≡ None → IsKept new after (applied m e) → exchanged removed came m.tris ≡ (applied m e).tris → length came ≤ 60 → first_new + e.ticket + 1 ≤ site_room' → length m.tris + 60 ≤ tri_room' → IsReached new after bands first_new (e.ticket + 1) site_room' tri_room' (applied m e)
reached-more sides new nodes after bands first_new site_room tri_room site_room' tri_room' m e removed came r passes kept tris few sites_fit tris_fit =
    record {
      kept = kept;
      bands_are = bands-after m e.ticket e.op ∙ r.bands_are;
      first = first;
      fresh = fresh;
      sites_fit = (let a = sites-few (applied m e) ((applied m e).first_new + (e.ticket + 1)) kept.conforming fresh in omega (arith, first, sites_fit));
      tris_fit = (let a = ap length tris in let b = exchanged-length removed came m.tris in omega (arith, a, b, few, tris_fit));
    }
  where
    first : (applied m e).first_new ≡ first_new
    first = first-after m e.ticket e.op ∙ r.first

    fresh : IsFresh (applied m e) (e.ticket + 1)
    fresh k l = let a = applied_fresh m e.ticket e.op r.fresh k l in omega (arith, a)

-- room may grow
pub reached-roomier : (sides : Sides) (nodes : List Node) (bands : List Band) (first_new ticket site_room tri_room site_room' tri_room' : ℕ) (m : Undivided) → IsReached sides nodes bands first_new ticket site_room tri_room m → (new : Sides) (after : List Node) → IsKept new after m → site_room ≤ site_room' → tri_room ≤ tri_room' → IsReached new after bands first_new ticket site_room' tri_room' m
reached-roomier sides nodes bands first_new ticket site_room tri_room site_room' tri_room' m r new after kept s t =
    record {
      kept = kept;
      bands_are = r.bands_are;
      first = r.first;
      fresh = r.fresh;
      sites_fit = (let a = r.sites_fit in omega (arith, s));
      tris_fit = (let a = r.tris_fit in omega (arith, t));
    }

-- the ticket of an entry of a run, and of those after it
pub tickets-at : (es : List Entry) (i : ℕ) (d : Entry) → i < length es → HasTicketsFrom i (drop i es) → ((get_or es i d).ticket ≡ i) × HasTicketsFrom (i + 1) (drop (i + 1) es)
tickets-at es i d l h =
    let t : HasTicketsFrom i (get_or es i d ∷ drop (i + 1) es) = subst (λ (xs : List Entry). HasTicketsFrom i xs) (drop_more es i d l) h in
    (t.0, subst (λ k. HasTicketsFrom k (drop (i + 1) es)) (sym (add-one i)) t.1)

module _ (R S : ℕ → Undivided → Type 0) (m : Undivided) (es : List Entry) (i : ℕ) (d : Entry) (within : i < length es) (ticket : (get_or es i d).ticket ≡ i) where
  abbrev before : Undivided
  before = replayed m (take i es)

  abbrev entry : Entry
  entry = get_or es i d

  -- the run goes on past an entry that passes
  pub run-more : ((n : Undivided) → R entry.ticket n → (refusal_of n entry ≡ None) × S (entry.ticket + 1) (applied n entry)) → (first_refusal m (take i es) ≡ None) × R i before → (first_refusal m (take (i + 1) es) ≡ None) × S (i + 1) (replayed m (take (i + 1) es))
  run-more step was =
      let s = step before (subst (λ k. R k before) (sym ticket) was.1) in
      let next = take_more es i d within in
      let after : S (i + 1) (applied before entry) = subst (λ k. S (k + 1) (applied before entry)) ticket s.1 in
      let same : applied before entry ≡ replayed m (take (i + 1) es) = sym (ap (replayed m) next ∙ replayed-push m (take i es) entry) in
      (ap (first_refusal m) next ∙ unrefused-push m (take i es) entry was.0 s.0, subst (λ n. S (i + 1) n) same after)

  -- it stops at one that isn't applied
  pub run-stopped : (fault : ApplyErr) → ((n : Undivided) → R entry.ticket n → IsSaid n entry fault × S entry.ticket n) → (first_refusal m (take i es) ≡ None) × R i before → IsStopped m es entry.ticket fault × S entry.ticket (replayed m (take entry.ticket es))
  run-stopped fault step was =
      let s = step before (subst (λ k. R k before) (sym ticket) was.1) in
      let here' : IsStopped m es i fault = record { within = within; before = was.0; said = λ d'. subst (λ (e : Entry). IsSaid before e fault) (get_or_default es i d d' within) s.0 } in
      (subst (λ k. IsStopped m es k fault) (sym ticket) here', subst (λ k. S entry.ticket (replayed m (take k es))) (sym ticket) s.1)
