use Rattle.std.proofs.Common.{◌≡◌, ◌+◌, ◌-◌, ◌∷◌, ◌++◌, [], ℕ, List, ◌==◌, suc, take, drop, length, sym, ap, ◌∙◌, arith}
use Rattle.std.specs.Prelude.{None, remove}
use Rattle.atomic_table.specs.Table.{rest}
use Rattle.pf_core_model.specs.Lists.{times}
use Rattle.pf_locks.specs.declared.kept.Kept.{Kept}
use Rattle.pf_locks.specs.Turned.{rotated}
use Rattle.pf_locks.specs.Lists.{names_in, list_in, list_of, lent_in, lent_of, first_place, slots_of}
use Rattle.pf_locks.proofs.Turning.{Hand}
use Rattle.pf_locks.proofs.Keeping.{unit, place_near, look_less, names_less, shorter}
use Rattle.pf_locks.proofs.Seating.{front_of, back_of}
use Rattle.pf_locks.proofs.board.Board.put_back.Goals as goal

pub take_list-list-requires : goal.take_list-list-requires
take_list-list-requires c =
    let z = place_near c.args.n c.args.s.now.kept.items c.requires.held in
    omega (arith, z, (c.index_of-at.ensures ∙ ap (λ (l : List Kept). first_place l c.args.n) c.deref.ensures.value), c.args.s.now.kept.ok)

pub exchange-requires-clause-front : goal.exchange-requires-clause-front
exchange-requires-clause-front c =
    let n = c.args.n in
    let ks = c.args.s.now.kept.items in
    let i = first_place ks n in
    let f : c.turn_slots.new.seat.me.1 ≡ (n, []) ∷ (drop (suc i) (slots_of ks) ++ take i (slots_of ks))
    = ap (λ m. m.1) c.turn_slots.ensures.2 ∙ ap (λ (k : ℕ). rotated k c.args.s.now.seat.me.1) (c.index_of-at.ensures ∙ ap (λ (l : List Kept). first_place l c.args.n) c.deref.ensures.value) ∙ ap (λ (l : Hand). rotated i l) c.requires.slots ∙ front_of n ks c.requires.held in
    ([], f ∙ ap (λ (l : Hand). (n, []) ∷ l) (sym (ap rest f)))

pub overflow_sub-result : goal.overflow_sub-result
overflow_sub-result c =
    let n = c.args.n in
    let ks = c.args.s.now.kept.items in
    let a = place_near n ks c.requires.held in
    let b = shorter ks (first_place ks n) a in
    let d : length c.take_list-list.new.kept.items ≡ length (remove ks (first_place ks n)) = ap (λ (l : List Kept). length l) (c.take_list-list.ensures.others ∙ ap (λ (k : ℕ). remove ks k) (c.index_of-at.ensures ∙ ap (λ (l : List Kept). first_place l c.args.n) c.deref.ensures.value)) in
    omega (arith, a, b, d, (c.index_of-at.ensures ∙ ap (λ (l : List Kept). first_place l c.args.n) c.deref.ensures.value), c.take_list-list.new.kept.ok)

pub returns-clause-left : goal.returns-clause-left
returns-clause-left c =
    let n = c.args.n in
    let ks = c.args.s.now.kept.items in
    let i = first_place ks n in
    let a = place_near n ks c.requires.held in
    let b = shorter ks i a in
    let others : c.take_list-list.new.kept.items ≡ remove ks i = c.take_list-list.ensures.others ∙ ap (λ (k : ℕ). remove ks k) (c.index_of-at.ensures ∙ ap (λ (l : List Kept). first_place l c.args.n) c.deref.ensures.value) in
    let d : length c.take_list-list.new.kept.items ≡ length (remove ks i) = ap (λ (l : List Kept). length l) others in
    let f : c.turn_slots.new.seat.me.1 ≡ (n, []) ∷ (drop (suc i) (slots_of ks) ++ take i (slots_of ks))
    = ap (λ m. m.1) c.turn_slots.ensures.2 ∙ ap (λ (k : ℕ). rotated k c.args.s.now.seat.me.1) (c.index_of-at.ensures ∙ ap (λ (l : List Kept). first_place l c.args.n) c.deref.ensures.value) ∙ ap (λ (l : Hand). rotated i l) c.requires.slots ∙ front_of n ks c.requires.held in
    let g : rest c.exchange.new.seat.me.1 ≡ drop (suc i) (slots_of ks) ++ take i (slots_of ks) = ap (λ m. rest m.1) c.exchange.ensures.new ∙ ap rest f in
    let k : ℕ = c.len.result - c.index_of-at.result in
    ap (λ (l : Hand). rotated k l) g ∙ back_of n ks k c.requires.held (omega (arith, a, b, d, (c.index_of-at.ensures ∙ ap (λ (l : List Kept). first_place l c.args.n) c.deref.ensures.value), c.take_list-list.new.kept.ok)) ∙ ap slots_of (sym others)

pub returns-clause-kept : goal.returns-clause-kept
returns-clause-kept c =
    let n = c.args.n in
    let ks = c.args.s.now.kept.items in
    let i = first_place ks n in
    let h = c.requires.held in
    let others : c.take_list-list.new.kept.items ≡ remove ks i = c.take_list-list.ensures.others ∙ ap (λ (k : ℕ). remove ks k) (c.index_of-at.ensures ∙ ap (λ (l : List Kept). first_place l c.args.n) c.deref.ensures.value) in
    record {
      names = λ q. ap (λ (l : List Kept). times q (names_in l) + unit (n == q)) others ∙ names_less n ks h q;
      long = ap (λ (l : List Kept). length l + 1) others ∙ shorter ks i (place_near n ks h);
      room = c.take_list-list.ensures.room;
      others = λ q ne. (ap (λ (l : List Kept). list_in l q) others ∙ look_less list_of [] n ks h q ne, ap (λ (l : List Kept). lent_in l q) others ∙ look_less lent_of None n ks h q ne);
    }
