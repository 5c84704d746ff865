use Rattle.std.proofs.Common.{◌≡◌, ◌∷◌, ◌++◌, [], length, refl, ap, ◌∙◌, arith, option_to_list, length-append}
use Rattle.pf_locks.proofs.Taking.{one_moved}
use Rattle.pf_locks.proofs.closing.put_copies.Goals as goal

pub copies-preserved : goal.copies-preserved
copies-preserved c =
    let s = c.in-Some.sharer in
    let is : c.copies.left.items ≡ c.pop.new.self.items ++ s ∷ [] = c.pop.ensures.items ∙ ap (λ o. c.pop.new.self.items ++ option_to_list o) c.in-Some.is in (
      one_moved c.copies.list.items c.push_reserved.new.self.items c.copies.left.items c.pop.new.self.items s record { chunk = s.chunk; star = s.star } is c.push_reserved.ensures.items refl ∙ c.copies.invariant.0,
      (let a = ap (λ l. length l) is in let b = ap (λ l. length l) c.push_reserved.ensures.items in let d = length-append c.pop.new.self.items (s ∷ []) in let e = length-append c.copies.list.items (record { chunk = s.chunk; star = s.star } ∷ []) in let i = c.copies.invariant.1 in let r = c.push_reserved.ensures.capacity in
          omega (arith, a, b, d, e, i, r, c.copies.left.ok, c.copies.list.ok, c.pop.new.self.ok, c.push_reserved.new.self.ok)),
      c.push_reserved.ensures.capacity ∙ c.copies.invariant.2,
    )
