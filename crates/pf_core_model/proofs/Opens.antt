-- The state at the start is sound.
use Rattle.std.proofs.Common.{◌≡◌, ℕ, zero, suc, ◌+◌, ◌<◌, ◌≤◌, Bool, true, false, cond, nat_lt, List, [], ◌∷◌, ◌++◌, length, map, refl, sym, ap, ◌∙◌, subst, inl, inr, arith, length-append}
use Rattle.std.specs.Prelude.{Option, Some, None, is_some, slice_index}
use Rattle.std.proofs.lemmas.Bool.Decides.{nat_tests}
use Rattle.std.proofs.lemmas.List.{length-map}
use mathlib.Core.Option.{some, some-injective, some-ne-none}
use mathlib.Core.Logic.{dite}
use native.Mathlib.Decide.{dec_le, ℕ_discrete}
use lib.ListN.{get_elem?}
use Rattle.pf_model.specs.Mesh.{point_of, place_of}
use Rattle.pf_model.specs.Stars.{Star, star_of, spokes_of}
use Rattle.pf_core_model.specs.Lists.{In, times, Each, counting}
use Rattle.pf_core_model.specs.Sharers.{sharers_in, IsSharerList}
use Rattle.pf_core_model.specs.declared.sharer.Sharer.{Sharer}
use Rattle.pf_core_model.specs.Core.{Opening, names_of, Fits, Sound, Homes}
use Rattle.pf_core_model.specs.State.{Actor, views_of, homes_of, first_word, first_view, first_list, opening_state, Owes, IsCore}
use Rattle.pf_core_model.specs.Shown.{CanOpen}
use Rattle.pf_core_model.proofs.Lists.{times_here, times_else}
use Rattle.pf_core_model.proofs.Replays.{star_after_is}
use Rattle.pf_core_model.proofs.Views.{some_not_none}
use Rattle.pf_core_model.proofs.Sharing.{none_due}
use Rattle.pf_core_model.proofs.Slots.{sharers_listed}
use Rattle.pf_core_model.proofs.Owing.{homes_long, home_listed}

counting_long : {A : Type 0} (f : ℕ → A) (k n : ℕ) → length (map f (counting k n)) ≡ n
counting_long f k zero = refl
counting_long f k (suc n) = let r = counting_long f (suc k) n in omega arith

counting_at : {A : Type 0} (f : ℕ → A) (k n i : ℕ) → i < n → get_elem? (map f (counting k n)) i ≡ some (f (k + i))
counting_at f k zero i h = absurd (omega arith)
counting_at f k (suc n) zero h = ap (λ (j : ℕ). some (f j)) (let z : k ≡ k + 0 = omega arith in z)
counting_at f k (suc n) (suc i) h = counting_at f (suc k) n i (omega arith) ∙ ap (λ (j : ℕ). some (f j)) (let z : suc k + i ≡ k + suc i = omega arith in z)

word_at : (f : ℕ → ℕ) (k n i last : ℕ) → i < n → slice_index (map f (counting k n) ++ last ∷ []) i ≡ f (k + i)
word_at f k zero i last h = absurd (omega arith)
word_at f k (suc n) zero last h = ap f (let z : k ≡ k + 0 = omega arith in z)
word_at f k (suc n) (suc i) last h = word_at f (suc k) n i last (omega arith) ∙ ap f (let z : suc k + i ≡ k + suc i = omega arith in z)

word_last : (f : ℕ → ℕ) (k n last : ℕ) → slice_index (map f (counting k n) ++ last ∷ []) n ≡ last
word_last f k zero last = refl
word_last f k (suc n) last = word_last f (suc k) n last

in_counting : (k n x : ℕ) → In x (counting k n) → x < k + n
in_counting k zero x h = absurd h
in_counting k (suc n) x (inl e) = omega arith
in_counting k (suc n) x (inr h) = let r = in_counting (suc k) n x h in omega arith

times_low : (k n x : ℕ) → x < k → times x (counting k n) ≡ 0
times_low k zero x h = refl
times_low k (suc n) x h = times_else x k (counting (suc k) n) (λ e. omega arith) ∙ times_low (suc k) n x (omega arith)

times_counting : (k n x : ℕ) → k ≤ x → x < k + n → times x (counting k n) ≡ 1
times_counting k zero x low high = absurd (omega arith)
times_counting k (suc n) x low high = dite (ℕ_discrete k x)
    (λ e. subst (λ (j : ℕ). times x (j ∷ counting (suc k) n) ≡ 1) (sym e) (let r = times_here x (counting (suc k) n) in let z = times_low (suc k) n x (omega arith) in omega arith))
    (λ ne. times_else x k (counting (suc k) n) ne ∙ times_counting (suc k) n x (omega arith) (omega arith))

module _ (o : Opening) (can : CanOpen o) where
  abbrev words : List ℕ
  words = (opening_state o).words

  abbrev lists : List (List Sharer)
  lists = (opening_state o).lists

  word_is : (n : ℕ) → n < names_of o → slice_index words n ≡ first_word o n
  word_is n h = word_at (first_word o) 0 (names_of o) n 0 h ∙ ap (first_word o) (let z : 0 + n ≡ n = omega arith in z)

  list_is_first : (n : ℕ) → n < names_of o → get_elem? lists n ≡ some (first_list o n)
  list_is_first n h = counting_at (first_list o) 0 (names_of o) n h ∙ ap (λ (k : ℕ). some (first_list o k)) (let z : 0 + n ≡ n = omega arith in z)

  -- the three cases of a word
  data FirstWord (n : ℕ) : Type 0 where
    live : n < o.mesh.first_new → is_some (point_of o.mesh.sites n) ≡ true → first_word o n ≡ 0 → FirstWord n
    gone : n < o.mesh.first_new → is_some (point_of o.mesh.sites n) ≡ false → first_word o n ≡ 1 → FirstWord n
    later : o.mesh.first_new ≤ n → first_word o n ≡ 2 → FirstWord n

  first_word_is : (n : ℕ) → FirstWord n
  first_word_is n = dite (dec_le (suc n) o.mesh.first_new)
      (λ (low : n < o.mesh.first_new). let is : nat_lt n o.mesh.first_new ≡ true = grind (arith, nat_tests) in
      go low is (is_some (point_of o.mesh.sites n)) refl)
      (λ high. let is : nat_lt n o.mesh.first_new ≡ false = grind (arith, nat_tests) in later (let z : o.mesh.first_new ≤ n = omega arith in z) (ap (λ (b : Bool). cond b (cond (is_some (point_of o.mesh.sites n)) 0 1) 2) is))
    where
      go : n < o.mesh.first_new → nat_lt n o.mesh.first_new ≡ true → (b : Bool) → is_some (point_of o.mesh.sites n) ≡ b → FirstWord n
      go low is true e = live low e (ap (λ (x : Bool). cond x (cond (is_some (point_of o.mesh.sites n)) 0 1) 2) is ∙ ap (λ (x : Bool). cond x 0 1) e)
      go low is false e = gone low e (ap (λ (x : Bool). cond x (cond (is_some (point_of o.mesh.sites n)) 0 1) 2) is ∙ ap (λ (x : Bool). cond x 0 1) e)

  star_there : (n : ℕ) → is_some (point_of o.mesh.sites n) ≡ true → star_of o.mesh n ≡ Some record { node = n; at = place_of o.mesh n; spokes = spokes_of o.mesh n }
  star_there n e = ap (λ (b : Bool). cond b (Some record { node = n; at = place_of o.mesh n; spokes = spokes_of o.mesh n }) None) e

  star_gone : (n : ℕ) → is_some (point_of o.mesh.sites n) ≡ false → star_of o.mesh n ≡ None
  star_gone n e = ap (λ (b : Bool). cond b (Some record { node = n; at = place_of o.mesh n; spokes = spokes_of o.mesh n }) None) e

  -- the homes have the copies of the opening mesh
  abbrev Show : Homes → Type 0
  Show homes = (n : ℕ) → n < names_of o → get_elem? homes n ≡ some (some (sharers_in o.mesh.chunks (star_of o.mesh n)))

  word_low : (n : ℕ) → n < names_of o → FirstWord n → slice_index words n < 3
  word_low n h (live below e w) = let z = word_is n h in omega arith
  word_low n h (gone below e w) = let z = word_is n h in omega arith
  word_low n h (later up w) = let z = word_is n h in omega arith

  lists_show : Show (homes_of words lists)
  lists_show n h = home_listed words lists n (first_list o n) (word_low n h (first_word_is n)) (list_is_first n h)

  empty_home : (homes : Homes) → Show homes → (n : ℕ) → n < names_of o → star_of o.mesh n ≡ None → get_elem? homes n ≡ some (some [])
  empty_home homes shown n h e = shown n h ∙ ap (λ (x : Option Star). some (some (sharers_in o.mesh.chunks x))) e ∙ ap (λ l. some (some l)) (none_due 0 o.mesh.chunks)

  numbers_long : length (counting 0 o.workers) ≡ o.workers
  numbers_long = sym (length-map (counting 0 o.workers) (λ (k : ℕ). k)) ∙ counting_long (λ (k : ℕ). k) 0 o.workers

  view_fits : Fits o words [] (first_view o)
  view_fits = record {
    knows = λ _. (refl, refl, refl, refl);
    below = λ k h. let r = in_counting 0 o.workers k h in omega arith;
    spent = λ e. absurd (let z : 0 ≡ o.workers = sym (ap length e) ∙ numbers_long in let w = can.some_worker in omega arith);
    near = λ n h. absurd h;
    own = λ n h. absurd h;
    pairs = λ p h. absurd h;
    once = λ n. omega arith;
    unborn = λ n e. absurd (some_not_none n (sym e));
    done = λ e h. absurd h;
    seen = omega arith;
    dead = λ n h. absurd h;
    refusals = λ r h. absurd h;
    marks = λ m h. absurd h;
  }

  -- the words at the start, and the first view, with any homes that have the copies of the mesh
  pub opens_in : (homes : Homes) → length homes ≡ names_of o → Show homes → Sound o words homes (views_of (opening_state o).actors) []
  opens_in homes full shown = record {
    words_long = length-append (map (first_word o) (counting 0 (names_of o))) (0 ∷ []) ∙ ap (λ (k : ℕ). k + 1) (counting_long (first_word o) 0 (names_of o));
    homes_long = full;
    tickets = word_last (first_word o) 0 (names_of o) 0;
    budget = omega arith;
    numbers = λ k h. let r = times_counting 0 o.workers k (omega arith) (omega arith) in omega arith;
    once = λ t h. absurd (omega arith);
    no_more = λ t h. omega arith;
    small = can.small;
    conforming = can.conforming;
    fresh = can.fresh;
    legal = tt;
    fits = only_first;
    free = λ n h is. elim (first_word_is n) [
      | live low e w ↦ record { star = record { node = n; at = place_of o.mesh n; spokes = spokes_of o.mesh n }; live = star_after_is o [] n ∙ star_there n e; copies = shown n h ∙ ap (λ (x : Option Star). some (some (sharers_in o.mesh.chunks x))) (star_there n e) }
      | gone low e w ↦ absurd (let z = word_is n h in omega arith)
      | later up w ↦ absurd (let z = word_is n h in omega arith)
    ];
    dead = λ n h is. elim (first_word_is n) [
      | live low e w ↦ absurd (let z = word_is n h in omega arith)
      | gone low e w ↦ record { gone = star_after_is o [] n ∙ star_gone n e; copies = empty_home homes shown n h (star_gone n e) }
      | later up w ↦ absurd (let z = word_is n h in omega arith)
    ];
    held = λ n h is. elim (first_word_is n) [
      | live low e w ↦ absurd (let z = word_is n h in omega arith)
      | gone low e w ↦ absurd (let z = word_is n h in omega arith)
      | later up w ↦ absurd (let z = word_is n h in omega arith)
    ];
    read = λ n low is. elim (first_word_is n) [
      | live low e w ↦ let z = word_is n (omega arith) in omega arith
      | gone low e w ↦ let z = word_is n (omega arith) in omega arith
      | later up w ↦ omega arith
    ];
    unmade = λ n h up no_it. elim (first_word_is n) [
      | live low e w ↦ absurd (omega arith)
      | gone low e w ↦ absurd (omega arith)
      | later up w ↦ let z = word_is n h in (z ∙ w, empty_home homes shown n h (star_gone n (not_live n up)))
    ];
    unborn = λ n h two made. absurd (let z : false ≡ true = made in cc (z));
  }
    where
      only_first : Each (views_of (opening_state o).actors) (Fits o words [])
      only_first zero v e = subst (Fits o words []) (some-injective (first_view o) v e) view_fits
      only_first (suc i) v e = absurd (some-ne-none v (sym e))

      not_live : (n : ℕ) → o.mesh.first_new ≤ n → is_some (point_of o.mesh.sites n) ≡ false
      not_live n up = go (is_some (point_of o.mesh.sites n)) refl
        where
          go : (b : Bool) → is_some (point_of o.mesh.sites n) ≡ b → is_some (point_of o.mesh.sites n) ≡ false
          go true e = absurd (let z = can.fresh n e in omega arith)
          go false e = e

  pub opens_core : IsCore o (opening_state o)
  opens_core = record {
    sound = ([], opens_in (homes_of words lists) (homes_long words lists ∙ counting_long (first_list o) 0 (names_of o)) lists_show);
    lists_long = counting_long (first_list o) 0 (names_of o);
    listed = λ i list e. all_listed 0 (names_of o) i list e;
    owes = λ i a e. only_nothing i a e;
  }
    where
      all_listed : (k n i : ℕ) (list : List Sharer) → get_elem? (map (first_list o) (counting k n)) i ≡ some list → IsSharerList o.mesh.chunks list
      all_listed k zero i list e = absurd (some-ne-none list (sym e))
      all_listed k (suc n) zero list e = subst (IsSharerList o.mesh.chunks) (some-injective (first_list o k) list e) (sharers_listed o.mesh.chunks (star_of o.mesh k))
      all_listed k (suc n) (suc i) list e = all_listed (suc k) n i list e

      only_nothing : (i : ℕ) (a : Actor) → get_elem? (opening_state o).actors i ≡ some a → Owes o.mesh.chunks lists a.view.held a.owed
      only_nothing zero a e = subst (λ (x : Actor). Owes o.mesh.chunks lists x.view.held x.owed) (some-injective (record { view = first_view o; owed = [] }) a e) record { of_held = λ d h. absurd h; paid = λ p k h. absurd h; behind = λ p k h. absurd h }
      only_nothing (suc i) a e = absurd (some-ne-none a (sym e))
