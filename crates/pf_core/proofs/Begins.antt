-- The state at the start shows that of the model.
use Rattle.std.proofs.Common.{◌≡◌, ◌≢◌, ℕ, zero, suc, ◌+◌, ◌<◌, ◌≤◌, Bool, true, false, cond, ◌==◌, ◌||◌, nat_lt, List, [], ◌∷◌, ◌++◌, length, map, refl, sym, ap, ◌∙◌, subst, inl, inr, ⊎_elim, arith}
use Rattle.std.specs.Prelude.{Option, Some, None, is_some, slice_index, slice_index_or}
use Rattle.std.specs.List.{list_any}
use mathlib.Core.Option.{some, some-injective}
use lib.ListN.{get_elem?}
use Rattle.pf_model.specs.declared.Entry.{Entry}
use Rattle.pf_model.specs.declared.Site.{Site}
use Rattle.pf_model.specs.Mesh.{Undivided, point_of, place_of}
use Rattle.pf_model.specs.Conforming.{IsConforming}
use Rattle.pf_model.specs.Applied.{IsFresh}
use Rattle.pf_model.specs.Stars.{Star, star_of, spokes_of}
use Rattle.pf_star_model.specs.Lent.{Held as Pair, star_held}
use Rattle.pf_core_model.specs.declared.sharer.Sharer.{Sharer}
use Rattle.pf_core_model.specs.Lists.{In, counting}
use Rattle.pf_core_model.specs.Sharers.{sharers_in}
use Rattle.pf_core_model.specs.Core.{Opening, names_of, number_of}
use Rattle.pf_core_model.specs.Shown.{CanOpen}
use Rattle.pf_core_model.specs.State.{Actor, log_of, tickets_in, first_word as word_first, first_list, first_view, opening_state}
use Rattle.pf_core_model.proofs.OneMesh.{shows_one_mesh}
use Rattle.pf_core_model.proofs.Opens.{opens_core}
use Rattle.pf_core_model.proofs.Sharing.{none_due}
use Rattle.pf_core.specs.declared.state.State.{State}
use Rattle.pf_core.specs.declared.word.Word.{Word}
use Rattle.pf_core.specs.declared.word.Word.TheVariants.{Free, Never, Dead}
use Rattle.pf_core.specs.declared.tables.Node.{Node}
use Rattle.pf_core.specs.declared.tables.Seat.{Seat}
use Rattle.pf_core.specs.Tables.{word_code, seat_at, code_in, list_in}
use Rattle.pf_core.specs.First.{first_word, list_for, first_node, start_seat}
use Rattle.pf_core.specs.Shown.{ShowsSeat, ShowsActor, ShowsState, opening_of}
use Rattle.pf_star_model.specs.Lent.{is_held, AgreesOn}
use Rattle.pf_star_model.proofs.Operations.{held_shown}
use Rattle.pf_core_model.proofs.Owing.{star_in_none}
use Rattle.pf_core.proofs.Kept.{last_at}
use Rattle.pf_core.proofs.Starring.{in_held}

counting_long : (k n : ℕ) → length (counting k n) ≡ n
counting_long k zero = refl
counting_long k (suc n) = ap suc (counting_long (suc k) n)

mapped_long : {A : Type 0} (f : ℕ → A) (ns : List ℕ) → length (map f ns) ≡ length ns
mapped_long f [] = refl
mapped_long f (n ∷ ns) = ap suc (mapped_long f ns)

mapped_at : {A : Type 0} (f : ℕ → A) (k n i : ℕ) (d : A) → i < n → slice_index_or (map f (counting k n)) i d ≡ f (k + i)
mapped_at f k zero i d h = absurd (omega arith)
mapped_at f k (suc n) zero d h = ap f (let z : k ≡ k + 0 = omega arith in z)
mapped_at f k (suc n) (suc i) d h = mapped_at f (suc k) n i d (omega arith) ∙ ap f (let z : suc k + i ≡ k + suc i = omega arith in z)

in_counting : (k n x : ℕ) → In x (counting k n) → x < k + n
in_counting k zero x h = absurd h
in_counting k (suc n) x (inl e) = omega arith
in_counting k (suc n) x (inr h) = let r = in_counting (suc k) n x h in omega arith

-- one name more
counting_more : (k n : ℕ) → counting k (suc n) ≡ counting k n ++ (k + n) ∷ []
counting_more k zero = ap (λ (x : ℕ). x ∷ []) (let z : k ≡ k + 0 = omega arith in z)
counting_more k (suc n) =
    let r = counting_more (suc k) n in
    let z : suc k + n ≡ k + suc n = omega arith in
    ap (λ (l : List ℕ). k ∷ l) (r ∙ ap (λ (x : ℕ). counting (suc k) n ++ x ∷ []) z)

map_split : {A : Type 0} (f : ℕ → A) (xs : List ℕ) (x : ℕ) → map f (xs ++ x ∷ []) ≡ map f xs ++ f x ∷ []
map_split f [] x = refl
map_split f (y ∷ ys) x = ap (λ l. f y ∷ l) (map_split f ys x)

pub mapped_more : {A : Type 0} (f : ℕ → A) (n : ℕ) → map f (counting 0 n) ++ f n ∷ [] ≡ map f (counting 0 (n + 1))
mapped_more f n =
    let z : 0 + n ≡ n = omega arith in
    let w : n + 1 ≡ suc n = omega arith in
    sym (ap (λ (k : ℕ). map f (counting 0 k)) w ∙ ap (map f) (counting_more 0 n) ∙ map_split f (counting 0 n) (0 + n) ∙ ap (λ (x : ℕ). map f (counting 0 n) ++ f x ∷ []) z)

twice : {A B : Type 0} (f : ℕ → B) (g : A → B) (h : ℕ → A) (ns : List ℕ) → ((n : ℕ) → f n ≡ g (h n)) → map f ns ≡ map g (map h ns)
twice f g h [] e = refl
twice f g h (n ∷ ns) e = λ i. e n i ∷ twice f g h ns e i

-- a star is there exactly where a point is
star_there : (m : Undivided) (n : ℕ) → is_some (star_of m n) ≡ is_some (point_of m.sites n)
star_there m n = go (is_some (point_of m.sites n))
  where
    go : (b : Bool) → is_some (cond {A = Option Star} b (Some record { node = n; at = place_of m n; spokes = spokes_of m n }) None) ≡ b
    go true = refl
    go false = refl

list_is : (chunks : ℕ) (star : Option Star) → list_for chunks star ≡ sharers_in chunks star
list_is chunks None = sym (none_due 0 chunks)
list_is chunks (Some s) = refl

code_is : (first : ℕ) (live : Bool) (n : ℕ) → word_code (first_word first live n) ≡ cond (nat_lt n first) (cond live 0 1) 2
code_is first live n = go (nat_lt n first) live
  where
    go : (a b : Bool) → word_code (cond {A = Word} a (cond {A = Word} b Free Dead) Never) ≡ cond a (cond b 0 1) 2
    go true true = refl
    go true false = refl
    go false b = refl

no_entries : (l : List Entry) → length l ≡ 0 → l ≡ []
no_entries [] e = refl
no_entries (x ∷ xs) e = absurd (omega arith)

first_number : (n : ℕ) → 1 ≤ n → slice_index (counting 0 n) 0 ≡ 0
first_number zero h = absurd (omega arith)
first_number (suc n) h = refl

pub opening_shows : (m : Undivided) (budget workers : ℕ) (lent : ℕ → Option Star) (s : State) → IsConforming m → IsFresh m 0 → 1 ≤ workers → m.first_new + budget ≤ 1048576
    → ((n : ℕ) → lent n ≡ star_of m n) → s.first_new ≡ m.first_new → s.chunks ≡ m.chunks → s.bands.items ≡ m.bands
    → s.nodes.items ≡ map (first_node lent m.first_new m.chunks) (counting 0 (m.first_new + budget)) → s.seats.items ≡ map (start_seat budget) (counting 0 workers) → s.log.items ≡ []
    → ShowsState (opening_of m budget workers) (opening_state (opening_of m budget workers)) s
opening_shows m budget workers lent s conforming fresh some_worker small lends first chunks bands nodes seats log =
    let o : Opening = opening_of m budget workers in
    let core = opens_core o record { conforming = conforming; fresh = fresh; some_worker = some_worker; small = small } in
    let ns : List ℕ = counting 0 (m.first_new + budget) in
    let words : map (word_first o) ns ≡ map code_in s.nodes.items
    = twice (word_first o) code_in (first_node lent m.first_new m.chunks) ns
    (λ n. ap (λ (b : Bool). cond (nat_lt n m.first_new) (cond b 0 1) 2) (sym (ap (λ (x : Option Star). is_some x) (lends n) ∙ star_there m n)) ∙ sym (code_is m.first_new (is_some (lent n)) n))
    ∙ ap (map code_in) (sym nodes) in
    let lists : map (first_list o) ns ≡ map list_in s.nodes.items
    = twice (first_list o) list_in (first_node lent m.first_new m.chunks) ns (λ n. ap (sharers_in m.chunks) (sym (lends n)) ∙ sym (list_is m.chunks (lent n))) ∙ ap (map list_in) (sym nodes) in
    let all_words : (opening_state o).words ≡ map code_in s.nodes.items ++ length s.log.items ∷ [] = (λ i. words i ++ length (sym log i) ∷ []) in
    let long : length s.nodes.items ≡ names_of o = ap length nodes ∙ mapped_long (first_node lent m.first_new m.chunks) ns ∙ counting_long 0 (m.first_new + budget) in
    let none : tickets_in o (opening_state o) ≡ 0 = ap (λ (l : List ℕ). slice_index l (names_of o)) all_words ∙ last_at s.nodes.items (length s.log.items) (names_of o) (sym long) ∙ ap length log in
    let seat : (k : ℕ) → k < workers → seat_at s.seats.items k ≡ start_seat budget k = λ k h. ap (λ (l : List Seat). seat_at l k) seats ∙ mapped_at (start_seat budget) 0 workers k _ h ∙ ap (start_seat budget) (let z : 0 + k ≡ k = omega arith in z) in
    let number : slice_index (counting 0 workers) 0 ≡ 0 = first_number workers some_worker in
    record {
      core = core;
      first_new = first;
      chunks = chunks;
      bands = bands;
      words = all_words;
      lists = lists;
      log = no_entries (log_of o (opening_state o)) ((shows_one_mesh o (opening_state o) core).long ∙ none) ∙ sym log;
      workers = ap length seats ∙ mapped_long (start_seat budget) (counting 0 workers) ∙ counting_long 0 workers;
      actors = λ id x there some_number. only id x there;
    }
  where
    only : (id : ℕ) (x : Actor) → get_elem? (record { view = first_view (opening_of m budget workers); owed = [] } ∷ []) id ≡ some x → ShowsActor s.seats.items s.nodes.items x
    only zero x there = subst (λ (y : Actor). ShowsActor s.seats.items s.nodes.items y) (some-injective (record { view = first_view (opening_of m budget workers); owed = [] }) x there)
        record {
          leads = λ k h. ap (λ (y : Seat). y.lead) (seat_is k (in_counting 0 workers k h)) ∙ sym (first_number workers some_worker);
          seat = subst (λ (k : ℕ). ShowsSeat (seat_at s.seats.items k) (record { view = first_view (opening_of m budget workers); owed = [] })) (sym (first_number workers some_worker))
              (subst (λ (y : Seat). ShowsSeat y (record { view = first_view (opening_of m budget workers); owed = [] })) (sym (seat_is 0 (omega arith)))
              record { allowance = refl; held = refl; unborn = refl; absent = λ n e. absurd (cc (e)); absences = λ p h. absurd h; owed = λ d h. h; debts = λ d h. h });
          stars = λ p h. absurd h;
        }
      where
        seat_is : (k : ℕ) → k < 0 + workers → seat_at s.seats.items k ≡ start_seat budget k
        seat_is k h = ap (λ (l : List Seat). seat_at l k) seats ∙ mapped_at (start_seat budget) 0 workers k _ (omega arith) ∙ ap (start_seat budget) (let z : 0 + k ≡ k = omega arith in z)
    only (suc id) x there = absurd (cc (there))

-- a set of the stars of all nodes lends each
named : (ss : List Site) (n : ℕ) → list_any (λ k. k == n) (map (λ (s : Site). s.name) ss) ≡ is_some (point_of ss n)
named [] n = refl
named (s ∷ ss) n = go (s.name == n) (named ss n)
  where
    go : (b : Bool) → list_any (λ k. k == n) (map (λ (x : Site). x.name) ss) ≡ is_some (point_of ss n)
        → (b || list_any (λ k. k == n) (map (λ (x : Site). x.name) ss)) ≡ is_some (cond b (Some s.at) (point_of ss n))
    go true rest = refl
    go false rest = rest

pub all_lent : (m : Undivided) (held : List Pair) → ((n : ℕ) → is_held held n ≡ list_any (λ k. k == n) (map (λ (s : Site). s.name) m.sites)) → AgreesOn held m → (n : ℕ) → star_held held n ≡ star_of m n
all_lent m held holds agrees n = go (is_held held n) refl
  where
    go : (b : Bool) → is_held held n ≡ b → star_held held n ≡ star_of m n
    go true e = held_shown held m agrees n e
    go false e =
        let out : is_some (point_of m.sites n) ≡ false = sym (named m.sites n) ∙ sym (holds n) ∙ e in
        star_in_none n held (λ h. absurd (let z : true ≡ false = sym (in_held n held h) ∙ e in cc (z)))
        ∙ sym (ap (λ (b : Bool). cond {A = Option Star} b (Some record { node = n; at = place_of m n; spokes = spokes_of m n }) None) out)
