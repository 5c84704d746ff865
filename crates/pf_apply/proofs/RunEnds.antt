-- What a run of entries has made of a mesh at its end.
use Rattle.std.proofs.Common.{◌≡◌, ℕ, ◌≤◌, List, [], ◌∷◌, length, take, take_all, get_or, refl, sym, ◌∙◌, ap, subst, arith, Result, Ok, Err}
use Rattle.std.specs.Prelude.{◌≢◌, OnOk, IfErr, Option, Some, None}
use Rattle.pf_model.specs.declared.Site.{Site}
use Rattle.pf_model.specs.declared.Tri.{Tri}
use Rattle.pf_model.specs.declared.Band.{Band}
use Rattle.pf_model.specs.declared.Op.{Op}
use Rattle.pf_model.specs.declared.Op.TheVariants.{Flip, Bisect, Contract}
use Rattle.pf_model.specs.declared.Entry.{Entry}
use Rattle.pf_model.specs.Mesh.{Undivided}
use Rattle.pf_model.specs.Conforming.{IsConforming}
use Rattle.pf_model.specs.Applied.{IsFresh, applied, op_applied}
use Rattle.pf_model.specs.Replay.{HasTickets, IsLegal, refusal_of, first_refusal, replayed}
use Rattle.pf_model.specs.Sums.{area2_of}
use Rattle.pf_model.proofs.ReplayKeeps.{legal_keeps}
use Rattle.pf_apply.specs.declared.run.RunErr.{RunErr}
use Rattle.pf_edges.specs.Kept.{mesh_of}
use Rattle.pf_apply.specs.declared.run.ApplyErr.{ApplyErr}
use Rattle.pf_apply.specs.declared.run.ApplyErr.TheVariants.{Memory}
use Rattle.pf_apply.specs.Run.{IsStopped, error_of, stop_of}
use Rattle.pf_model.proofs.Replays.{unrefused-legal, tickets-take, refused-first}
use Rattle.std.specs.Option.{option_map}
use Rattle.pf_model.specs.declared.Refusal.{Refusal}

-- how many entries were applied
abbrev pub count_of : List Entry → Result (Unit {0}) RunErr → ℕ
count_of es (Ok u) = length es
count_of es (Err stop) = stop.ticket

-- the mesh at the end
abbrev pub ran : Undivided → List Entry → Result (Unit {0}) RunErr → Undivided
ran m es r = replayed m (take (count_of es r) es)

-- what is known of it, whatever the run answers
pub record IsEnd (R : ℕ → Undivided → Type 0) (m : Undivided) (es : List Entry) (r : Result (Unit {0}) RunErr) : Type 0 where
  pub within : count_of es r ≤ length es
  pub passed : first_refusal m (take (count_of es r) es) ≡ None
  pub reached : R (count_of es r) (ran m es r)
  pub all : OnOk r (first_refusal m es ≡ None)
  pub stopped : IfErr r (λ stop. IsStopped m es stop.ticket stop.fault)

pub run-ended : (I : Undivided → Type 0) (R : ℕ → Undivided → Type 0) (m : Undivided) (es : List Entry) (r : Result (Unit {0}) RunErr) → OnOk r ((n : Undivided) → I n → (first_refusal n es ≡ None) × R (length es) (replayed n es)) → IfErr r (λ stop. (n : Undivided) → I n → IsStopped n es stop.ticket stop.fault × R stop.ticket (replayed n (take stop.ticket es))) → I m → IsEnd R m es r
run-ended I R m es (Ok u) ok err i =
    let a = ok m i in
    let whole : es ≡ take (length es) es = sym (take_all (length es) es (omega arith)) in
    record {
      within = omega arith;
      passed = subst (λ (xs : List Entry). first_refusal m xs ≡ None) whole a.0;
      reached = subst (λ (xs : List Entry). R (length es) (replayed m xs)) whole a.1;
      all = a.0;
      stopped = tt;
    }
run-ended I R m es (Err stop) ok err i =
    let a = err m i in
    record {
      within = (let w = a.0.within in omega (arith, w));
      passed = a.0.before;
      reached = a.1;
      all = tt;
      stopped = a.0;
    }

pub ended-ok : (x m : Undivided) (es : List Entry) (r : Result (Unit {0}) RunErr) → x ≡ ran m es r → OnOk r (x ≡ replayed m es)
ended-ok x m es (Ok u) e = e ∙ ap (replayed m) (take_all (length es) es (omega arith))
ended-ok x m es (Err stop) e = tt

pub ended-err : (x m : Undivided) (es : List Entry) (r : Result (Unit {0}) RunErr) → x ≡ ran m es r → IfErr r (λ stop. x ≡ replayed m (take stop.ticket es))
ended-err x m es (Ok u) e = tt
ended-err x m es (Err stop) e = e

chunks-after : (m : Undivided) (ticket : ℕ) (op : Op) → (op_applied m ticket op).chunks ≡ m.chunks
chunks-after m ticket (Flip a b) = refl
chunks-after m ticket (Bisect a b) = refl
chunks-after m ticket (Contract u v) = refl

chunks-replayed : (m : Undivided) (es : List Entry) → (replayed m es).chunks ≡ m.chunks
chunks-replayed m [] = refl
chunks-replayed m (e ∷ es) = chunks-replayed (applied m e) es ∙ chunks-after m e.ticket e.op

-- a mesh with the parts of that at the end is it
pub parts-ended : (m : Undivided) (es : List Entry) (first_new : ℕ) (sites : List Site) (tris : List Tri) (bands : List Band) → (replayed m es).first_new ≡ first_new → sites ≡ (replayed m es).sites → tris ≡ (replayed m es).tris → (replayed m es).bands ≡ bands → mesh_of first_new sites tris bands m.chunks ≡ replayed m es
parts-ended m es first_new sites tris bands f s t b = λ i. record { first_new = sym f i; sites = s i; tris = t i; bands = sym b i; chunks = sym (chunks-replayed m es) i }

-- the area at the end
pub area-ended : (m : Undivided) (es : List Entry) (k : ℕ) → IsConforming m → IsFresh m 0 → HasTickets es → first_refusal m (take k es) ≡ None → area2_of (replayed m (take k es)) ≡ area2_of m
area-ended m es k ok fresh h p = (legal_keeps m (take k es) ok fresh (unrefused-legal 0 m (take k es) (tickets-take 0 k es h) p)).area

-- a run to the end is legal
pub legal-ended : (m : Undivided) (es : List Entry) (r : Result (Unit {0}) RunErr) → HasTickets es → OnOk r (first_refusal m es ≡ None) → OnOk r (IsLegal m es)
legal-ended m es (Ok u) h all = unrefused-legal 0 m es h all
legal-ended m es (Err stop) h all = tt

refused-at : (m : Undivided) (es : List Entry) (k : ℕ) (fault : ApplyErr) → HasTickets es → IsStopped m es k fault → fault ≢ Memory → option_map stop_of (first_refusal m es) ≡ Some record { ticket = k; fault = fault }
refused-at m es k fault h s other = go (refusal_of (replayed m (take k es)) entry) refl ((s.said none).why other)
  where
    none : Entry
    none = record { ticket = 0; chunk = 0; op = Flip 0 0 }

    entry : Entry
    entry = get_or es k none

    go : (o : Option Refusal) → refusal_of (replayed m (take k es)) entry ≡ o → option_map error_of o ≡ Some fault → option_map stop_of (first_refusal m es) ≡ Some record { ticket = k; fault = fault }
    go None q e = absurd (let x : None ≡ Some fault = e in cc)
    go (Some why) q e =
        let same : error_of why ≡ fault = (let x : Some (error_of why) ≡ Some fault = e in cc) in
        ap (option_map stop_of) (refused-first m es k none why s.within h s.before q) ∙ ap (λ f. Some record { ticket = k; fault = f }) same

-- where a run stops for another reason than memory, it does so at the first entry that is refused
pub refused-ended : (m : Undivided) (es : List Entry) (r : Result (Unit {0}) RunErr) → HasTickets es → IfErr r (λ stop. IsStopped m es stop.ticket stop.fault) → IfErr r (λ stop. stop.fault ≢ Memory → option_map stop_of (first_refusal m es) ≡ Some stop)
refused-ended m es (Ok u) h s = tt
refused-ended m es (Err stop) h s = λ other. refused-at m es stop.ticket stop.fault h s other
