-- A seat of the crew is split off.
use Rattle.std.proofs.Common.{◌≡◌, ◌≢◌, ◌⊎◌, ℕ, zero, suc, ◌+◌, ◌-◌, ◌<◌, ◌≤◌, Bool, true, false, cond, ◌==◌, List, [], ◌∷◌, ◌++◌, length, get_or, refl, sym, ap, ◌∙◌, subst, inl, inr, ⊎_elim, arith}
use Rattle.std.specs.Prelude.{slice_index, Result, Ok, Err, IfOk, OnOk}
use Rattle.std.proofs.Math.Decide.{dec_lt}
use Rattle.std.proofs.lemmas.Bool.Decides.{nat_tests}
use mathlib.Core.Logic.{dite}
use Rattle.atomic_table.specs.Seated.{TableId}
use Rattle.pf_core_model.specs.declared.view.View.{View}
use Rattle.pf_core_model.specs.Lists.{In, counting, without_number}
use Rattle.pf_core_model.specs.Moves.{spares_in, but_spare}
use Rattle.pf_core_model.specs.Core.{Opening}
use Rattle.pf_locks.specs.declared.seat.BoardSeat.{BoardSeat}
use Rattle.pf_locks.specs.Seats.{IsSeat, IsLeastSpare, TellsSplit, flag_at}
use Rattle.pf_workers.specs.Shares.{share_of, shares_from}
use Rattle.pf_workers.specs.Crew.{IsFirst, IsWorker}

-- by the two ends of a call
pub on_ok : {X Y : Type 0} (r : Result X Y) (A : X → Type 0) (P : Type 0) → IfOk r A → ((u : X) → A u → P) → OnOk r P
on_ok (Ok u) A P a f = f u a
on_ok (Err e) A P a f = tt

pub if_both : {X Y : Type 0} (r : Result X Y) (A B P : X → Type 0) → IfOk r A → IfOk r B → ((u : X) → A u → B u → P u) → IfOk r P
if_both (Ok u) A B P a b f = f u a b
if_both (Err e) A B P a b f = tt

low_count : (k n x : ℕ) → In x (counting k n) → k ≤ x
low_count k zero x h = absurd h
low_count k (suc n) x (inl e) = omega (arith, e)
low_count k (suc n) x (inr h) = let l = low_count (suc k) n x h in omega (arith, l)

eq_false : (a b : ℕ) → a ≢ b → (a == b) ≡ false
eq_false a b e = grind (arith, nat_tests)

eq_true : (a b : ℕ) → a ≡ b → (a == b) ≡ true
eq_true a b e = grind (arith, nat_tests)

none_out : (w k n : ℕ) → w < k → without_number w (counting k n) ≡ counting k n
none_out w k zero l = refl
none_out w k (suc n) l = (λ i. cond (eq_false k w (λ e. omega (arith, e, l)) i) (none_out w (suc k) n (omega (arith, l)) i) (k ∷ none_out w (suc k) n (omega (arith, l)) i))

first_out : (w n : ℕ) → without_number w (counting w (suc n)) ≡ counting (suc w) n
first_out w n = ap (λ (b : Bool). cond b (without_number w (counting (suc w) n)) (w ∷ without_number w (counting (suc w) n))) (eq_true w w refl) ∙ none_out w (suc w) n (omega arith)

rest_of : (workers w : ℕ) → w < workers → workers - w ≡ suc (workers - (w + 1))
rest_of workers w l = omega (arith, l)

-- the numbers of the first seat, with the next one in front of the spare ones
pub next_numbers : (ks : List ℕ) (workers w : ℕ) → w < workers → ks ≡ 0 ∷ counting w (workers - w) → ks ≡ 0 ∷ w ∷ counting (suc w) (workers - (w + 1))
next_numbers ks workers w l e = e ∙ ap (λ (n : ℕ). 0 ∷ counting w n) (rest_of workers w l)

pub next_spare : (ks : List ℕ) (workers w : ℕ) → w < workers → ks ≡ 0 ∷ counting w (workers - w) → In w (spares_in ks)
next_spare ks workers w l e = subst (λ (x : List ℕ). In w (spares_in x)) (sym (next_numbers ks workers w l e)) (inl refl)

-- the next spare number is that of the next worker
least_is : (o : Opening) (s : BoardSeat) (workers w b : ℕ) → 1 ≤ w → w < workers → IsSeat o s → s.seat.me.0.numbers ≡ 0 ∷ counting w (workers - w) → IsLeastSpare s.numbers s.number b → b ≡ w
least_is o s workers w b some l seat e least =
    let ks = next_numbers s.seat.me.0.numbers workers w l e in
    let own : s.number ≡ 0 = seat.counts.number ∙ ap (λ (x : List ℕ). slice_index x 0) ks in
    let among : In b (0 ∷ w ∷ counting (suc w) (workers - (w + 1))) = subst (λ (x : List ℕ). In b x) ks (seat.counts.set b least.is) in
    let flag : flag_at s.numbers w ≡ true = seat.counts.unset w (subst (λ (x : List ℕ). In w x) (sym ks) (inr (inl refl))) in
    let above : w ≤ b = ⊎_elim (λ (q : b ≡ 0). absurd (least.other (q ∙ sym own))) (λ (i : In b (w ∷ counting (suc w) (workers - (w + 1)))). low_count w (suc (workers - (w + 1))) b i) among in
    dite (dec_lt w b)
    (λ (h : w < b). absurd (let z : w ≡ s.number = least.least w h flag in omega (arith, z, own, some)))
    (λ h. omega (arith, h, above))

-- after a split the first seat has the numbers and the shares of the workers that are left
pub first_left : (id : TableId) (o : Opening) (budget workers w share : ℕ) (s t u : BoardSeat) → 1 ≤ w → w < workers → share ≡ share_of budget workers w → IsFirst id o budget workers w s → t.seat.table_id ≡ s.seat.table_id → IsSeat o t → TellsSplit share s t u
    → IsFirst id o budget workers (w + 1) t
first_left id o budget workers w share s t u some l is first board seat told =
    let v = s.seat.me.0 in
    let b : u.number ≡ w = least_is o s workers w u.number some l first.seat first.numbers told.number in
    let n : ℕ = workers - (w + 1) in
    let allowed : v.allowance ≡ share_of budget workers 0 + (share_of budget workers w + shares_from budget workers (suc w) n) = first.allowance ∙ ap (λ (k : ℕ). share_of budget workers 0 + shares_from budget workers w k) (rest_of workers w l) in
    let after = ap (λ (x : View). x.allowance) told.left in
    let one : suc w ≡ w + 1 = omega arith in
    record {
      board = board ∙ first.board;
      seat = seat;
      numbers = ap (λ (x : View). x.numbers) told.left ∙ (λ i. but_spare (b i) (next_numbers v.numbers workers w l first.numbers i)) ∙ ap (λ (x : List ℕ). 0 ∷ x) (first_out w n ∙ ap (λ (k : ℕ). counting k n) one);
      allowance = (let g : t.seat.me.0.allowance ≡ share_of budget workers 0 + shares_from budget workers (suc w) n = omega (arith, after, allowed, is) in g) ∙ ap (λ (k : ℕ). share_of budget workers 0 + shares_from budget workers k n) one;
      nothing = ap (λ (x : View). x.held) told.left ∙ first.nothing;
      clear = ap (λ (x : View). x.unborn) told.left ∙ first.clear;
    }

-- and the new seat those of the next worker
pub worker_split : (id : TableId) (o : Opening) (budget workers w share : ℕ) (s t u : BoardSeat) → 1 ≤ w → w < workers → share ≡ share_of budget workers w → IsFirst id o budget workers w s → u.seat.table_id ≡ s.seat.table_id → IsSeat o u → TellsSplit share s t u
    → IsWorker id o budget workers w u
worker_split id o budget workers w share s t u some l is first board seat told =
    let b : u.number ≡ w = least_is o s workers w u.number some l first.seat first.numbers told.number in
    record {
      board = board ∙ first.board;
      seat = seat;
      numbers = ap (λ (x : View). x.numbers) told.right ∙ ap (λ (k : ℕ). k ∷ []) b;
      allowance = ap (λ (x : View). x.allowance) told.right ∙ is;
      nothing = ap (λ (x : View). x.held) told.right;
      clear = ap (λ (x : View). x.unborn) told.right;
    }

-- the share of the next worker is within the allowance
pub share_within : (budget workers w rich : ℕ) → w < workers → rich ≡ share_of budget workers 0 + shares_from budget workers w (workers - w) → share_of budget workers w ≤ rich
share_within budget workers w rich l e =
    let f : rich ≡ share_of budget workers 0 + (share_of budget workers w + shares_from budget workers (suc w) (workers - (w + 1))) = e ∙ ap (λ (k : ℕ). share_of budget workers 0 + shares_from budget workers w k) (rest_of workers w l) in
    omega (arith, f)

-- the first seat once all others are split off
pub first_alone : (id : TableId) (o : Opening) (budget workers n : ℕ) (s : BoardSeat) → n ≡ workers → IsFirst id o budget workers n s → IsWorker id o budget workers 0 s
first_alone id o budget workers n s e first =
    let none : workers - n ≡ 0 = omega (arith, e) in
    record {
      board = first.board;
      seat = first.seat;
      numbers = first.numbers ∙ ap (λ (k : ℕ). 0 ∷ counting n k) none;
      allowance = first.allowance ∙ ap (λ (k : ℕ). share_of budget workers 0 + shares_from budget workers n k) none ∙ (let g : share_of budget workers 0 + 0 ≡ share_of budget workers 0 = omega arith in g);
      nothing = first.nothing;
      clear = first.clear;
    }

at_left : (xs : List BoardSeat) (s : BoardSeat) (k : ℕ) (d : BoardSeat) → k < length xs → get_or (xs ++ s ∷ []) k d ≡ get_or xs k d
at_left [] s k d l = absurd (omega (arith, l))
at_left (x ∷ xs) s zero d l = refl
at_left (x ∷ xs) s (suc k) d l = at_left xs s k d (omega (arith, l))

at_end : (xs : List BoardSeat) (s : BoardSeat) (d : BoardSeat) → get_or (xs ++ s ∷ []) (length xs) d ≡ s
at_end [] s d = refl
at_end (x ∷ xs) s d = at_end xs s d

long_snoc : (xs : List BoardSeat) (s : BoardSeat) → length (xs ++ s ∷ []) ≡ suc (length xs)
long_snoc [] s = refl
long_snoc (x ∷ xs) s = ap suc (long_snoc xs s)

-- one seat more
pub seat_more : (P : ℕ → BoardSeat → Type 0) (xs ys : List BoardSeat) (s : BoardSeat) (n : ℕ) → ys ≡ xs ++ s ∷ [] → length xs + 1 ≡ n → ((k : ℕ) (d : BoardSeat) → k < length xs → P (k + 1) (get_or xs k d)) → P n s → (k : ℕ) (d : BoardSeat) → k < length ys → P (k + 1) (get_or ys k d)
seat_more P xs ys s n e long old new k d l =
    let grown : length ys ≡ suc (length xs) = ap length e ∙ long_snoc xs s in
    subst (λ (zs : List BoardSeat). P (k + 1) (get_or zs k d)) (sym e)
    (dite (dec_lt k (length xs))
    (λ (h : k < length xs). subst (λ (x : BoardSeat). P (k + 1) x) (sym (at_left xs s k d h)) (old k d h))
    (λ h.
    let at : length xs ≡ k = omega (arith, h, l, grown) in
    let name : n ≡ k + 1 = omega (arith, at, long) in
    subst (λ (j : ℕ). P (k + 1) (get_or (xs ++ s ∷ []) j d)) at (subst (λ (x : BoardSeat). P (k + 1) x) (sym (at_end xs s d)) (subst (λ (j : ℕ). P j s) name new))))

pub grown_by : (xs ys : List BoardSeat) (s : BoardSeat) (n : ℕ) → ys ≡ xs ++ s ∷ [] → length xs + 1 ≡ n → length ys + 1 ≡ n + 1
grown_by xs ys s n e long = let grown : length ys ≡ suc (length xs) = ap length e ∙ long_snoc xs s in omega (arith, grown, long)
