-- When an answer of an attempt is right, which is a statement on the one history; and what its caller must have come to know for that.
use Rattle.std.specs.Prelude.{◌≡◌, ◌≢◌, ◌⊎◌, ℕ, ◌<◌, ◌≤◌, List, length, take, Some, None}
use mathlib.Core.Option.{some}
use lib.ListN.{get_elem?}
use Rattle.pf_model.specs.declared.Band.{Band}
use Rattle.pf_model.specs.declared.Op.{Op}
use Rattle.pf_model.specs.declared.Entry.{Entry}
use Rattle.pf_model.specs.Mesh.{Undivided}
use Rattle.pf_model.specs.Conforming.{IsConforming, IsLive}
use Rattle.pf_model.specs.Applied.{IsFresh}
use Rattle.pf_model.specs.Conditions.{first_failing}
use Rattle.pf_model.specs.Ends.{first_end, second_end, normal_of, AreEndsLive}
use Rattle.pf_model.specs.Replay.{IsLegal}
use Rattle.pf_model.specs.Stars.{Star, star_of}
use Rattle.pf_star_model.specs.Cavity.{cavity_of}
use Rattle.pf_core_model.specs.declared.answer.Answer.{Answer}
use Rattle.pf_core_model.specs.declared.answer.Answer.TheVariants.{Done, Refused, Busy, Gone, Unborn, Spent, Memory}
use Rattle.pf_core_model.specs.declared.view.View.{View}
use Rattle.pf_star_model.specs.Lent.{Held}
use Rattle.pf_core_model.specs.declared.view.Mark.{Mark}
use Rattle.pf_core_model.specs.declared.view.Refusal.{Refusal}
use Rattle.pf_core_model.specs.declared.view.Lost.{Lost}
use Rattle.pf_core_model.specs.Lists.{In}
use Rattle.pf_core_model.specs.Core.{Opening, names_of, mesh_after, IsTrueMark, IsTrueRefusal}
use Rattle.pf_core_model.specs.Laws.{OverSound}
use Rattle.pf_core_model.specs.Shown.{IsExtended}

-- a conforming mesh with these bands that agrees with the pairs of a mark
pub record AgreesAt (bands : List Band) (k : Mark) (m : Undivided) : Type 0 where
  pub conforming : IsConforming m
  pub same : m.bands ≡ bands
  pub pairs : (p : Held) → In p k.pairs → p.star ≡ star_of m p.node

-- what is known of the caller before an attempt, and what is attempted
pub record Call : Type 0 where
  pub number : ℕ
  pub seen : ℕ
  pub allowance : ℕ
  pub chunk : ℕ
  pub op : Op

-- what may come to be known: a refusal, a lost try, a name found dead or never live, a mark
pub data Gain : Type 0 where
  refusal : Refusal → Gain
  lost : Lost → Gain
  dead : ℕ → Gain
  never : ℕ → Gain
  mark : Mark → Gain

-- the view has it
abbrev pub HasGained : View → Gain → Type 0
HasGained v (refusal r) = In r v.refusals
HasGained v (lost l) = In l v.lost
HasGained v (dead n) = In n v.dead
HasGained v (never n) = In n v.never
HasGained v (mark k) = In k v.marks

-- it is true of a history; a lost try and a find speak of a word alone
abbrev pub IsTrueGain : Opening → List Entry → Gain → Type 0
IsTrueGain o log (refusal r) = IsTrueRefusal o log r
IsTrueGain o log (lost l) = Unit {0}
IsTrueGain o log (dead n) = Unit {0}
IsTrueGain o log (never n) = Unit {0}
IsTrueGain o log (mark k) = IsTrueMark o log k

abbrev pub IsEnd : ℕ → Op → Type 0
IsEnd n op = (n ≡ first_end op) ⊎ (n ≡ second_end op)

-- the entry that a call makes
abbrev pub entry_of : Call → ℕ → Entry
entry_of c ticket = record { ticket = ticket; chunk = c.chunk; op = normal_of c.op }

-- a moment of the history, not before the call
abbrev pub IsMoment : List Entry → Call → ℕ → Type 0
IsMoment log c at = (c.seen ≤ at) × (at ≤ length log)

-- the answer is right of this history; that of want of memory, where the operation passes at some moment
abbrev pub IsRight : Opening → List Entry → Call → Answer → Type 0
IsRight o log c (Done ticket) = (c.seen ≤ ticket) × (get_elem? log ticket ≡ some (entry_of c ticket))
IsRight o log c (Refused at cond) = IsMoment log c at × AreEndsLive (mesh_after o (take at log)) c.op × (first_failing (mesh_after o (take at log)) c.chunk c.op ≡ Some cond)
IsRight o log c (Busy at node holder) = IsMoment log c at × In node (cavity_of (mesh_after o (take at log)) c.chunk c.op) × (holder ≢ c.number)
IsRight o log c (Gone at node) = IsMoment log c at × IsEnd node c.op × (IsLive (mesh_after o (take at log)) node → ⊥)
IsRight o log c (Unborn node) = IsEnd node c.op
IsRight o log c Spent = c.allowance ≡ 0
IsRight o log c Memory = (at : ℕ) × IsMoment log c at × (first_failing (mesh_after o (take at log)) c.chunk c.op ≡ None)

-- the mark holds a star of the node
abbrev pub HasStar : Mark → ℕ → Type 0
HasStar k n = (star : Star) × In (record { node = n; star = Some star }) k.pairs

-- a mark of this moment, with this fact, was gained
abbrev pub HasMark : (Gain → Type 0) → ℕ → (Mark → Type 0) → Type 0
HasMark gained at P = (k : Mark) × (k.at ≡ at) × gained (mark k) × P k

-- what the caller came to know for the answer, and which entries it has
abbrev pub IsTold : Opening → (Gain → Type 0) → List Entry → Call → Answer → Type 0
IsTold o gained entries c (Done ticket) = (0 < c.allowance) × (c.seen ≤ ticket) × In (entry_of c ticket) entries
IsTold o gained entries c (Refused at cond) =
    (0 < c.allowance) × (c.seen ≤ at) × gained (refusal (record { at = at; chunk = c.chunk; op = c.op; cond = cond })) × HasMark gained at (λ k. HasStar k (first_end c.op) × HasStar k (second_end c.op))
IsTold o gained entries c (Busy at node holder) =
    (0 < c.allowance) × (c.seen ≤ at) × gained (lost (record { node = node; holder = holder })) × (holder ≢ c.number)
    × HasMark gained at (λ k. (m : Undivided) → AgreesAt o.mesh.bands k m → In node (cavity_of m c.chunk c.op))
IsTold o gained entries c (Gone at node) = (0 < c.allowance) × (c.seen ≤ at) × IsEnd node c.op × gained (dead node) × HasMark gained at (λ k. In node k.gone)
IsTold o gained entries c (Unborn node) = (0 < c.allowance) × IsEnd node c.op × (gained (never node) ⊎ (names_of o ≤ node))
IsTold o gained entries c Spent = c.allowance ≡ 0
IsTold o gained entries c Memory = (at : ℕ) × (c.seen ≤ at) × HasMark gained at (λ k. (m : Undivided) → AgreesAt o.mesh.bands k m → first_failing m c.chunk c.op ≡ None)

-- a true mark agrees with the replay of the history up to it, which is conforming and has the opening's bands
abbrev pub MarksAgree : Type 0
MarksAgree = (o : Opening) (log : List Entry) (k : Mark) → IsConforming o.mesh → IsFresh o.mesh 0 → IsLegal o.mesh log → IsTrueMark o log k → AgreesAt o.mesh.bands k (mesh_after o (take k.at log))

-- what is true of a history stays so while it grows
pub record Lasts (o : Opening) (log log' : List Entry) : Type 0 where
  pub gains : (g : Gain) → IsTrueGain o log g → IsTrueGain o log' g
  pub entries : (t : ℕ) (e : Entry) → get_elem? log t ≡ some e → get_elem? log' t ≡ some e
  pub answers : (c : Call) (a : Answer) → IsRight o log c a → IsRight o log' c a

abbrev pub FactsLast : Type 0
FactsLast = (o : Opening) (log log' : List Entry) → IsExtended log log' → Lasts o log log'

-- an answer is right where all that the caller came to know is true, and its entries stand in the history
abbrev pub TruthIsRight : Type 0
TruthIsRight = (o : Opening) (log : List Entry) → IsConforming o.mesh → IsFresh o.mesh 0 → IsLegal o.mesh log → (entries : List Entry) → ((e : Entry) → In e entries → get_elem? log e.ticket ≡ some e)
    → (c : Call) (a : Answer) → IsTold o (IsTrueGain o log) entries c a → IsRight o log c a

-- what the views of a sound state have is true of its history
abbrev pub GainsAreTrue : Type 0
GainsAreTrue = OverSound (λ o words homes views log id v. (g : Gain) → HasGained v g → IsTrueGain o log g)

-- so an answer is right of the one history, where the caller's view has what it came to know
abbrev pub AnswersAreRight : Type 0
AnswersAreRight = OverSound (λ o words homes views log id v. (c : Call) (a : Answer) → IsTold o (HasGained v) v.entries c a → IsRight o log c a)
