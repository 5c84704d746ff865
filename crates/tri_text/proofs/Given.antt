-- What a reading gives.
use Rattle.std.proofs.Common.{◌≡◌, Result, Ok, Err, ap, sym, subst}
use Rattle.row_text.specs.Rows.{Refuses, Reads}
use Rattle.tri_text.specs.declared.fault.TriErr.{TriErr}
use Rattle.tri_text.specs.declared.fault.TriErr.TheVariants as faults
use Rattle.tri_text.specs.Reading.{Fails, Gives}

fails_with : {Y : Type 0} (e : TriErr) (said : Result Y TriErr) → said ≡ Err e → Fails e said
fails_with faults.Memory said h = tt
fails_with e said h = h

fails : {Y : Type 0} (e : TriErr) (said : Result Y TriErr) → Refuses faults.Memory e said → Fails e said
fails e (Ok y) h = subst (λ x. Fails x (Ok y)) (sym h) tt
fails e (Err fault) h = fails_with e (Err fault) (ap (λ x. Err x) (sym h))

pub gives : {X Y : Type 0} (view : X → Y) (result : Result X TriErr) (said : Result Y TriErr) → Reads faults.Memory view result said → Gives view result said
gives view (Ok x) said h = h
gives view (Err e) said h = fails e said h
