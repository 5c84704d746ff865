-- Readings of files, one after another: what explains a stop.
use Rattle.std.proofs.Common.{◌≡◌, ◌≢◌, ℕ, ◌≤◌, ◌<◌, List, [], ◌∷◌, refl, sym, ◌∙◌, ap, subst, Option, Result, Ok, Err, true, arith, ◌⊎◌, inl, inr}
use Rattle.std.proofs.Math.Nat.{eq-or-lt_of_le}
use Rattle.pf_shelf.specs.Count.{Rose}
use Rattle.pf_shelf.specs.Files.{Files, Tells, held, IsAsBefore}
use Rattle.pf_shelf.specs.Seen.{Seen}
use Rattle.tri_text.specs.declared.fault.TriErr.{TriErr}
use Rattle.tri_text.specs.declared.fault.TriErr.TheVariants as tri
use Rattle.tri_text.specs.Reading.{Fails}
use Rattle.pf_model.specs.declared.BuildErr.{BuildErr}
use Rattle.pf_model.specs.declared.BuildErr.TheVariants as build
use Rattle.pf_model.specs.declared.Entry.{Entry}
use Rattle.pf_model.specs.Mesh.{Undivided}
use Rattle.table_text.specs.declared.fault.TableErr.{TableErr}
use Rattle.table_text.specs.declared.fault.TableErr.TheVariants as table
use Rattle.journal_text.specs.declared.fault.JourErr.{JourErr}
use Rattle.journal_text.specs.declared.fault.JourErr.TheVariants as jour
use Rattle.trace_text.specs.declared.fault.TraceErr.{TraceErr}
use Rattle.trace_text.specs.declared.fault.TraceErr.TheVariants as trace
use Rattle.trace_text.specs.Trace.{Told}
use Rattle.pf_say.specs.declared.place.Place.{Place}
use Rattle.pf_say.specs.declared.stop.Trouble.TheVariants.{Missing, Unread, Unwritten, Memory}
use Rattle.pf_say.specs.declared.stop.Stop.{Stop}
use Rattle.pf_say.specs.declared.stop.Stop.TheVariants.{Input, Limit, Operation, Device}
use Rattle.pf_say.specs.Place.{Stems, name_of}
use Rattle.pf_say.specs.Stop.{memory_stop}
use Rattle.pf_cmd.specs.Faults.{tri_stop, build_stop, table_stop, jour_stop, trace_stop}
use Rattle.pf_cmd.specs.Input.{HeldFiles, files_in, without, ◌>>=◌, tri_accepted, build_accepted, table_accepted, jour_accepted, trace_accepted}
use Rattle.pf_cmd.specs.Causes.{IsOnlyRead, IsQuiet, IsAmong, IsCause, is_unread, is_missing, IsInner, Explains}

pub before-trans : (old mid new : Option Files) → IsAsBefore old mid → IsAsBefore mid new → IsAsBefore old new
before-trans old mid new a b = record { tells = b.tells ∙ a.tells; same = λ name. b.same name ∙ a.same name }

pub only_read-trans : (old mid new : Seen) → IsOnlyRead old mid → IsOnlyRead mid new → IsOnlyRead old new
only_read-trans old mid new a b =
    record {
      files = before-trans old.told mid.told new.told a.files b.files;
      read_faults = let p = a.read_faults in let q = b.read_faults in omega arith;
      write_faults = b.write_faults ∙ a.write_faults;
      misses = let p = a.misses in let q = b.misses in omega arith;
    }

pub quiet-trans : (old mid new : Seen) → IsQuiet old mid → IsQuiet mid new → IsQuiet old new
quiet-trans old mid new a b = record { read_faults = b.read_faults ∙ a.read_faults; misses = b.misses ∙ a.misses }

-- a count that hasn't fallen and hasn't risen is as before
pub not-risen : (a b : ℕ) → a ≤ b → (a < b → ⊥) → b ≡ a
not-risen a b l still = elim (eq-or-lt_of_le l) [ inl e ↦ sym e | inr s ↦ absurd (still s) ]

-- the files are looked up as before
pub files_in-before : (old new : Seen) (stems : Stems) → IsAsBefore old.told new.told → files_in new stems ≡ files_in old stems
files_in-before old new stems h = λ i place. h.same (name_of stems place) i

pub tells-before : (old new : Option Files) → IsAsBefore old new → Tells old → Tells new
tells-before old new h t = h.tells ∙ t

pub held-before : (old new : Seen) → IsAsBefore old.told new.told → held new.told ≡ held old.told
held-before old new h = λ i name. h.same name i

pub rose-earlier : (a b c : ℕ) → a ≤ b → Rose b c → Rose a c
rose-earlier a b c l h = omega arith

-- a place that is among one place alone is that one
only-place : (q p : Place) → IsAmong q (p ∷ []) → q ≡ p
only-place q p h = elim h [ inl e ↦ e | inr b ↦ absurd b ]

cause-then : {A B : Type 0} (places places' : List Place) (old new : Seen) (stems : Stems) (reading : HeldFiles → Result A Stop) (next : HeldFiles → A → Result B Stop) (stop : Stop) → ((q : Place) → IsAmong q places → IsAmong q places') → IsCause places old new stems reading stop → IsCause places' old new stems (λ f. reading f >>= next f) stop
cause-then places places' old new stems reading next (Device (Unread q)) sub h = (sub q h.0, h.1, λ w. ap (λ r. r >>= next (without q (files_in old stems))) (h.2 w))
cause-then places places' old new stems reading next (Device (Missing q)) sub h = (sub q h.0, h.1, λ w. ap (λ r. r >>= next (files_in old stems)) (h.2 w))
cause-then places places' old new stems reading next (Device (Unwritten q)) sub h = h
cause-then places places' old new stems reading next (Device Memory) sub h = h
cause-then places places' old new stems reading next (Input place fault) sub h = λ w. ap (λ r. r >>= next (files_in old stems)) (h w)
cause-then places places' old new stems reading next (Limit count) sub h = λ w. ap (λ r. r >>= next (files_in old stems)) (h w)
cause-then places places' old new stems reading next (Operation ticket why) sub h = λ w. ap (λ r. r >>= next (files_in old stems)) (h w)

-- a stop of a first step is one of the whole
pub explains-then : {A B : Type 0} (places places' : List Place) (old new : Seen) (stems : Stems) (reading : HeldFiles → Result A Stop) (next : HeldFiles → A → Result B Stop) (stop : Stop) → ((q : Place) → IsAmong q places → IsAmong q places') → Explains places old new stems reading stop → Explains places' old new stems (λ f. reading f >>= next f) stop
explains-then places places' old new stems reading next stop sub h = record { cause = cause-then places places' old new stems reading next stop sub h.cause; unread = h.unread; missing = h.missing }

cause-later : {A B : Type 0} (places' : List Place) (p : Place) (old mid new : Seen) (stems : Stems) (reading : HeldFiles → Result A Stop) (x : A) (next : A → HeldFiles → Result B Stop) (stop : Stop) → ((f : HeldFiles) → reading (without p f) ≡ reading f) → IsAmong p places' → IsOnlyRead old mid → (Tells old.told → reading (files_in old stems) ≡ Ok x) → IsCause (p ∷ []) mid new stems (next x) stop → IsCause places' old new stems (λ f. reading f >>= (λ y. next y f)) stop
cause-later places' p old mid new stems reading x next (Device (Unread q)) apart among first ok h =
    let e = only-place q p h.0 in (
      subst (λ k. IsAmong k places') (sym e) among,
      rose-earlier old.read_faults mid.read_faults new.read_faults first.read_faults h.1,
      λ w. ap (λ r. r >>= (λ y. next y (without q (files_in old stems)))) (subst (λ k. reading (without k (files_in old stems)) ≡ Ok x) (sym e) (apart (files_in old stems) ∙ ok w))
          ∙ (ap (λ f. next x (without q f)) (sym (files_in-before old mid stems first.files)) ∙ h.2 (tells-before old.told mid.told first.files w)),
    )
cause-later places' p old mid new stems reading x next (Device (Missing q)) apart among first ok h =
    let e = only-place q p h.0 in (
      subst (λ k. IsAmong k places') (sym e) among,
      rose-earlier old.misses mid.misses new.misses first.misses h.1,
      λ w. ap (λ r. r >>= (λ y. next y (files_in old stems))) (ok w)
          ∙ (ap (next x) (sym (files_in-before old mid stems first.files)) ∙ h.2 (tells-before old.told mid.told first.files w)),
    )
cause-later places' p old mid new stems reading x next (Device (Unwritten q)) apart among first ok h = h
cause-later places' p old mid new stems reading x next (Device Memory) apart among first ok h = h
cause-later places' p old mid new stems reading x next (Input place fault) apart among first ok h = λ w. ap (λ r. r >>= (λ y. next y (files_in old stems))) (ok w) ∙ (ap (next x) (sym (files_in-before old mid stems first.files)) ∙ h (tells-before old.told mid.told first.files w))
cause-later places' p old mid new stems reading x next (Limit count) apart among first ok h = λ w. ap (λ r. r >>= (λ y. next y (files_in old stems))) (ok w) ∙ (ap (next x) (sym (files_in-before old mid stems first.files)) ∙ h (tells-before old.told mid.told first.files w))
cause-later places' p old mid new stems reading x next (Operation ticket why) apart among first ok h = λ w. ap (λ r. r >>= (λ y. next y (files_in old stems))) (ok w) ∙ (ap (next x) (sym (files_in-before old mid stems first.files)) ∙ h (tells-before old.told mid.told first.files w))

-- a stop of a later step that reads one file is one of the whole, where the steps before it don't read that file
pub explains-later : {A B : Type 0} (places' : List Place) (p : Place) (old mid new : Seen) (stems : Stems) (reading : HeldFiles → Result A Stop) (x : A) (next : A → HeldFiles → Result B Stop) (stop : Stop) → ((f : HeldFiles) → reading (without p f) ≡ reading f) → IsAmong p places' → IsOnlyRead old mid → IsQuiet old mid → (Tells old.told → reading (files_in old stems) ≡ Ok x) → Explains (p ∷ []) mid new stems (next x) stop → Explains places' old new stems (λ f. reading f >>= (λ y. next y f)) stop
explains-later places' p old mid new stems reading x next stop apart among first quiet ok h =
    record {
      cause = cause-later places' p old mid new stems reading x next stop apart among first ok h.cause;
      unread = λ l. h.unread (let e : mid.read_faults ≡ old.read_faults = quiet.read_faults in omega arith);
      missing = λ l. h.missing (let e : mid.misses ≡ old.misses = quiet.misses in omega arith);
    }

-- what is read later of files that are as before
pub reads-later : {A : Type 0} (old mid : Seen) (stems : Stems) (reading : HeldFiles → Result A Stop) (x : A) → IsOnlyRead old mid → (Tells mid.told → reading (files_in mid stems) ≡ Ok x) → Tells old.told → reading (files_in old stems) ≡ Ok x
reads-later old mid stems reading x first h t = ap reading (sym (files_in-before old mid stems first.files)) ∙ h (tells-before old.told mid.told first.files t)

explained-cause : {A : Type 0} (places : List Place) (old new : Seen) (stems : Stems) (reading : HeldFiles → Result A Stop) (stop : Stop) → IsInner stop → (stop ≢ memory_stop → Tells old.told → reading (files_in old stems) ≡ Err stop) → IsCause places old new stems reading stop
explained-cause places old new stems reading (Device (Unread q)) i h = absurd i
explained-cause places old new stems reading (Device (Missing q)) i h = absurd i
explained-cause places old new stems reading (Device (Unwritten q)) i h = absurd i
explained-cause places old new stems reading (Device Memory) i h = tt
explained-cause places old new stems reading (Input place fault) i h = h (λ e. cc)
explained-cause places old new stems reading (Limit count) i h = h (λ e. cc)
explained-cause places old new stems reading (Operation ticket why) i h = h (λ e. cc)

-- a stop that comes from values alone
pub explained : {A : Type 0} (places : List Place) (old new : Seen) (stems : Stems) (reading : HeldFiles → Result A Stop) (stop : Stop) → IsInner stop → (stop ≢ memory_stop → Tells old.told → reading (files_in old stems) ≡ Err stop) → IsQuiet old new → Explains places old new stems reading stop
explained places old new stems reading stop i h quiet =
    record {
      cause = explained-cause places old new stems reading stop i h;
      unread = λ l. absurd (let e : new.read_faults ≡ old.read_faults = quiet.read_faults in omega arith);
      missing = λ l. absurd (let e : new.misses ≡ old.misses = quiet.misses in omega arith);
    }

-- want of memory needs no cause
pub memory-explains : {A : Type 0} (places : List Place) (old new : Seen) (stems : Stems) (reading : HeldFiles → Result A Stop) (stop : Stop) → stop ≡ memory_stop → IsQuiet old new → Explains places old new stems reading stop
memory-explains places old new stems reading stop e quiet = explained places old new stems reading stop (subst IsInner (sym e) tt) (λ ne. absurd (ne e)) quiet

pub tri_stop-inner : (place : Place) (fault : TriErr) → IsInner (tri_stop place fault)
tri_stop-inner place (tri.Short line) = tt
tri_stop-inner place (tri.Word line column) = tt
tri_stop-inner place (tri.Dimension found) = tt
tri_stop-inner place (tri.Order found) = tt
tri_stop-inner place (tri.Number line expected found) = tt
tri_stop-inner place (tri.Range line) = tt
tri_stop-inner place (tri.TooMany count) = tt
tri_stop-inner place (tri.Extra line) = tt
tri_stop-inner place tri.Memory = tt

-- a refused file of nodes or triangles
pub tri-refused : {A : Type 0} (place : Place) (read : Result A TriErr) (fault : TriErr) → Fails fault read → tri_stop place fault ≢ memory_stop → tri_accepted place read ≡ Err (tri_stop place fault)
tri-refused place read (tri.Short line) h ne = ap (tri_accepted place) h
tri-refused place read (tri.Word line column) h ne = ap (tri_accepted place) h
tri-refused place read (tri.Dimension found) h ne = ap (tri_accepted place) h
tri-refused place read (tri.Order found) h ne = ap (tri_accepted place) h
tri-refused place read (tri.Number line expected found) h ne = ap (tri_accepted place) h
tri-refused place read (tri.Range line) h ne = ap (tri_accepted place) h
tri-refused place read (tri.TooMany count) h ne = ap (tri_accepted place) h
tri-refused place read (tri.Extra line) h ne = ap (tri_accepted place) h
tri-refused place read tri.Memory h ne = absurd (ne refl)

pub build_stop-inner : (fault : BuildErr) → IsInner (build_stop fault)
build_stop-inner (build.BadNode tri node) = tt
build_stop-inner (build.Flat tri) = tt
build_stop-inner (build.EdgeTwice a b) = tt
build_stop-inner build.Memory = tt

-- refused triangles
pub build-refused : (r : Result Undivided BuildErr) (fault : BuildErr) → (fault ≢ build.Memory → r ≡ Err fault) → build_stop fault ≢ memory_stop → build_accepted r ≡ Err (build_stop fault)
build-refused r (build.BadNode tri node) h ne = ap build_accepted (h (λ e. cc))
build-refused r (build.Flat tri) h ne = ap build_accepted (h (λ e. cc))
build-refused r (build.EdgeTwice a b) h ne = ap build_accepted (h (λ e. cc))
build-refused r build.Memory h ne = absurd (ne refl)

pub table_stop-inner : (place : Place) (fault : TableErr) → IsInner (table_stop place fault)
table_stop-inner place (table.Short line) = tt
table_stop-inner place (table.Word line column) = tt
table_stop-inner place (table.Chunk line found) = tt
table_stop-inner place (table.Band line) = tt
table_stop-inner place table.NoDefault = tt
table_stop-inner place (table.Extra line) = tt
table_stop-inner place table.Memory = tt

-- a refused table
pub table-refused : {A : Type 0} (place : Place) (r : Result A TableErr) (fault : TableErr) → (fault ≢ table.Memory → r ≡ Err fault) → table_stop place fault ≢ memory_stop → table_accepted place r ≡ Err (table_stop place fault)
table-refused place r (table.Short line) h ne = ap (table_accepted place) (h (λ e. cc))
table-refused place r (table.Word line column) h ne = ap (table_accepted place) (h (λ e. cc))
table-refused place r (table.Chunk line found) h ne = ap (table_accepted place) (h (λ e. cc))
table-refused place r (table.Band line) h ne = ap (table_accepted place) (h (λ e. cc))
table-refused place r table.NoDefault h ne = ap (table_accepted place) (h (λ e. cc))
table-refused place r (table.Extra line) h ne = ap (table_accepted place) (h (λ e. cc))
table-refused place r table.Memory h ne = absurd (ne refl)

pub jour_stop-inner : (fault : JourErr) → IsInner (jour_stop fault)
jour_stop-inner jour.Head = tt
jour_stop-inner (jour.Short line) = tt
jour_stop-inner (jour.Word line column) = tt
jour_stop-inner (jour.Ticket line expected found) = tt
jour_stop-inner (jour.Extra line) = tt
jour_stop-inner jour.Memory = tt

-- a refused journal
pub jour-refused : (r : Result (List Entry) JourErr) (fault : JourErr) → (fault ≢ jour.Memory → r ≡ Err fault) → jour_stop fault ≢ memory_stop → jour_accepted r ≡ Err (jour_stop fault)
jour-refused r jour.Head h ne = ap jour_accepted (h (λ e. cc))
jour-refused r (jour.Short line) h ne = ap jour_accepted (h (λ e. cc))
jour-refused r (jour.Word line column) h ne = ap jour_accepted (h (λ e. cc))
jour-refused r (jour.Ticket line expected found) h ne = ap jour_accepted (h (λ e. cc))
jour-refused r (jour.Extra line) h ne = ap jour_accepted (h (λ e. cc))
jour-refused r jour.Memory h ne = absurd (ne refl)

pub trace_stop-inner : (fault : TraceErr) → IsInner (trace_stop fault)
trace_stop-inner (trace.Line line) = tt
trace_stop-inner trace.Memory = tt

-- a refused trace
pub trace-refused : (r : Result Told TraceErr) (fault : TraceErr) → (fault ≢ trace.Memory → r ≡ Err fault) → trace_stop fault ≢ memory_stop → trace_accepted r ≡ Err (trace_stop fault)
trace-refused r (trace.Line line) h ne = ap trace_accepted (h (λ e. cc))
trace-refused r trace.Memory h ne = absurd (ne refl)
