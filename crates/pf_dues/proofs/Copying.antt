-- A copy that is put into a list, by its place.
use Rattle.std.proofs.Common.{◌≡◌, ◌≢◌, ℕ, zero, suc, ◌+◌, ◌<◌, ◌≤◌, Bool, true, false, cond, ◌==◌, ◌&&◌, nat_lt, List, [], ◌∷◌, ◌++◌, length, take, drop, set, refl, sym, ap, ◌∙◌, subst, arith}
use Rattle.std.specs.Prelude.{Option, Some, None, slice_index_or}
use Rattle.pf_model.specs.Stars.{Star}
use Rattle.pf_core_model.specs.declared.sharer.Sharer.{Sharer}
use Rattle.pf_core_model.specs.Sharers.{put_copy, sharer_list}
use Rattle.pf_dues.specs.Lists.{index_of, has_copy}

pub place_low : (chunk : ℕ) (l : List Sharer) → index_of chunk l ≤ length l
place_low chunk [] = omega arith
place_low chunk (s ∷ ss) = go (nat_lt s.chunk chunk) (place_low chunk ss)
  where
    go : (b : Bool) → index_of chunk ss ≤ length ss → cond b (suc (index_of chunk ss)) 0 ≤ suc (length ss)
    go true h = omega arith
    go false h = omega arith

pub there_low : (chunk : ℕ) (l : List Sharer) → has_copy chunk l ≡ true → index_of chunk l < length l
there_low chunk [] e = absurd (let z : false ≡ true = e in cc)
there_low chunk (s ∷ ss) e = go (nat_lt s.chunk chunk) e (λ k. there_low chunk ss k)
  where
    go : (b : Bool) → cond b (has_copy chunk ss) (s.chunk == chunk) ≡ true → (has_copy chunk ss ≡ true → index_of chunk ss < length ss) → cond b (suc (index_of chunk ss)) 0 < suc (length ss)
    go true k f = let r = f k in omega arith
    go false k f = omega arith

pub there_at : (chunk : ℕ) (l : List Sharer) (d : Sharer) → index_of chunk l < length l → ((slice_index_or l (index_of chunk l) d).chunk == chunk) ≡ has_copy chunk l
there_at chunk [] d h = absurd (omega arith)
there_at chunk (s ∷ ss) d h = go (nat_lt s.chunk chunk) h (λ k. there_at chunk ss d k)
  where
    go : (b : Bool) → cond b (suc (index_of chunk ss)) 0 < suc (length ss) → (index_of chunk ss < length ss → ((slice_index_or ss (index_of chunk ss) d).chunk == chunk) ≡ has_copy chunk ss)
        → ((slice_index_or (s ∷ ss) (cond b (suc (index_of chunk ss)) 0) d).chunk == chunk) ≡ cond b (has_copy chunk ss) (s.chunk == chunk)
    go true k f = f (omega arith)
    go false k f = refl

pub there_end : (chunk : ℕ) (l : List Sharer) → length l ≤ index_of chunk l → has_copy chunk l ≡ false
there_end chunk [] h = refl
there_end chunk (s ∷ ss) h = go (nat_lt s.chunk chunk) h (λ k. there_end chunk ss k)
  where
    go : (b : Bool) → suc (length ss) ≤ cond b (suc (index_of chunk ss)) 0 → (length ss ≤ index_of chunk ss → has_copy chunk ss ≡ false) → cond b (has_copy chunk ss) (s.chunk == chunk) ≡ false
    go true k f = f (omega arith)
    go false k f = absurd (omega arith)

pub set_put : (chunk : ℕ) (star : Star) (l : List Sharer) → has_copy chunk l ≡ true → set l (index_of chunk l) (record { chunk = chunk; star = star }) ≡ put_copy chunk (Some star) l
set_put chunk star [] e = absurd (let z : false ≡ true = e in cc)
set_put chunk star (s ∷ ss) e = go (nat_lt s.chunk chunk) e (λ k. set_put chunk star ss k)
  where
    go : (b : Bool) → cond b (has_copy chunk ss) (s.chunk == chunk) ≡ true → (has_copy chunk ss ≡ true → set ss (index_of chunk ss) (record { chunk = chunk; star = star }) ≡ put_copy chunk (Some star) ss)
        → set (s ∷ ss) (cond b (suc (index_of chunk ss)) 0) (record { chunk = chunk; star = star }) ≡ cond b (s ∷ put_copy chunk (Some star) ss) (record { chunk = chunk; star = star } ∷ cond (s.chunk == chunk) ss (s ∷ ss))
    go true k f = ap (λ (x : List Sharer). s ∷ x) (f k)
    go false k f = ap (λ (b : Bool). record { chunk = chunk; star = star } ∷ cond b ss (s ∷ ss)) (sym k)

pub remove_put : (chunk : ℕ) (l : List Sharer) → has_copy chunk l ≡ true → take (index_of chunk l) l ++ drop (suc (index_of chunk l)) l ≡ put_copy chunk None l
remove_put chunk [] e = absurd (let z : false ≡ true = e in cc)
remove_put chunk (s ∷ ss) e = go (nat_lt s.chunk chunk) e (λ k. remove_put chunk ss k)
  where
    go : (b : Bool) → cond b (has_copy chunk ss) (s.chunk == chunk) ≡ true → (has_copy chunk ss ≡ true → take (index_of chunk ss) ss ++ drop (suc (index_of chunk ss)) ss ≡ put_copy chunk None ss)
        → take (cond b (suc (index_of chunk ss)) 0) (s ∷ ss) ++ drop (suc (cond b (suc (index_of chunk ss)) 0)) (s ∷ ss) ≡ cond b (s ∷ put_copy chunk None ss) (cond (s.chunk == chunk) ss (s ∷ ss))
    go true k f = ap (λ (x : List Sharer). s ∷ x) (f k)
    go false k f = ap (λ (b : Bool). cond b ss (s ∷ ss)) (sym k)

pub insert_put : (chunk : ℕ) (star : Star) (l : List Sharer) → has_copy chunk l ≡ false → take (index_of chunk l) l ++ (record { chunk = chunk; star = star } ∷ drop (index_of chunk l) l) ≡ put_copy chunk (Some star) l
insert_put chunk star [] e = refl
insert_put chunk star (s ∷ ss) e = go (nat_lt s.chunk chunk) e (λ k. insert_put chunk star ss k)
  where
    go : (b : Bool) → cond b (has_copy chunk ss) (s.chunk == chunk) ≡ false → (has_copy chunk ss ≡ false → take (index_of chunk ss) ss ++ (record { chunk = chunk; star = star } ∷ drop (index_of chunk ss) ss) ≡ put_copy chunk (Some star) ss)
        → take (cond b (suc (index_of chunk ss)) 0) (s ∷ ss) ++ (record { chunk = chunk; star = star } ∷ drop (cond b (suc (index_of chunk ss)) 0) (s ∷ ss)) ≡ cond b (s ∷ put_copy chunk (Some star) ss) (record { chunk = chunk; star = star } ∷ cond (s.chunk == chunk) ss (s ∷ ss))
    go true k f = ap (λ (x : List Sharer). s ∷ x) (f k)
    go false k f = ap (λ (b : Bool). record { chunk = chunk; star = star } ∷ cond b ss (s ∷ ss)) (sym k)

pub none_put : (chunk : ℕ) (l : List Sharer) → has_copy chunk l ≡ false → l ≡ put_copy chunk None l
none_put chunk [] e = refl
none_put chunk (s ∷ ss) e = go (nat_lt s.chunk chunk) e (λ k. none_put chunk ss k)
  where
    go : (b : Bool) → cond b (has_copy chunk ss) (s.chunk == chunk) ≡ false → (has_copy chunk ss ≡ false → ss ≡ put_copy chunk None ss) → (s ∷ ss) ≡ cond b (s ∷ put_copy chunk None ss) (cond (s.chunk == chunk) ss (s ∷ ss))
    go true k f = ap (λ (x : List Sharer). s ∷ x) (f k)
    go false k f = ap (λ (b : Bool). cond b ss (s ∷ ss)) (sym k)
