-- By which chunks first wishes are.
use Rattle.std.proofs.Common.{◌≡◌, ℕ, ◌<◌, List, subst, true, ◌||◌}
use Rattle.std.specs.Prelude.{Option, Some, None, All, ◌==◌}
use Rattle.std.specs.List.{list_any}
use Rattle.std.specs.Option.{option_map}
use Rattle.std.proofs.lemmas.Bool.{and_parts, eqb-true}
use Rattle.std.proofs.lemmas.List.Elements.{All-contains}
use Rattle.pf_model.specs.declared.Band.{Band}
use Rattle.pf_model.specs.Stars.{Star}
use Rattle.pf_model.specs.Rows.{neighbours, least_that}
use Rattle.pf_model.proofs.Kept.{any-means}
use Rattle.pf_star_model.proofs.Cavities.{least_that-some}
use Rattle.pf_core_model.specs.declared.event.Asked.{Asked}
use Rattle.pf_wishes.specs.Looks.{acting_shown, is_long_shown, is_short_shown}
use Rattle.pf_wishes.specs.First.{is_wish, wish_at}
use Rattle.pf_wishes.specs.Laws.{FirstWishIsByChunk}

acts : (bands : List Band) (chunks : List ℕ) (s : Star) (x : ℕ) → is_wish bands chunks s x ≡ true → list_any (λ c. c == acting_shown s x) chunks ≡ true
unfolding is_wish
acts bands chunks s x h = (and_parts (list_any (λ c. c == acting_shown s x) chunks) (is_long_shown bands s x || is_short_shown bands s x) h).0

below : (n c : ℕ) (cs : List ℕ) → All (λ k. k < n) cs → list_any (λ k. k == c) cs ≡ true → c < n
below n c cs all h = let r = any-means (λ k. k == c) cs h in subst (λ k. k < n) (eqb-true r.0 c r.2) (All-contains (λ k. k < n) cs r.0 all r.1)

pub first_wish_is_by_chunk : FirstWishIsByChunk
first_wish_is_by_chunk bands chunks s q n all h = go (least_that (is_wish bands chunks s) (neighbours s.spokes)) refl' h
  where
    refl' : least_that (is_wish bands chunks s) (neighbours s.spokes) ≡ least_that (is_wish bands chunks s) (neighbours s.spokes)
    refl' = cc

    some_is : (a b : Asked) → Some a ≡ Some b → a ≡ b
    some_is a b e = cc

    go : (o : Option ℕ) → least_that (is_wish bands chunks s) (neighbours s.spokes) ≡ o → option_map (wish_at bands s) o ≡ Some q → q.chunk < n
    go None e f = absurd (let z : None ≡ Some q = f in cc)
    go (Some x) e f = subst (λ (w : Asked). w.chunk < n) (some_is (wish_at bands s x) q f) (below n (acting_shown s x) chunks all (acts bands chunks s x (least_that-some (is_wish bands chunks s) (neighbours s.spokes) x e).1))
