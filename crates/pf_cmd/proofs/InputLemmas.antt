-- What a file gives by what is held under its name.
use Rattle.std.proofs.Common.{◌≡◌, ℕ, ◌+◌, ◌<◌, ◌≤◌, List, [], length, refl, sym, ◌∙◌, ap, true, Option, Some, None, Result, Ok, Err, arith}
use Rattle.std.specs.Prelude.{unwrap_or}
use Rattle.std.proofs.lemmas.Bool.Decides.{nat_tests}
use Rattle.pf_shelf.specs.declared.all.ReadErr.{ReadErr}
use Rattle.pf_shelf.specs.declared.all.ReadErr.TheVariants.{Missing as ReadMissing, Fault, TooLong as ReadLong, Memory as ReadMemory}
use Rattle.pf_shelf.specs.Files.{held}
use Rattle.pf_shelf.specs.Seen.{Seen}
use Rattle.pf_say.specs.declared.fault.Fault.TheVariants.{TooLong}
use Rattle.pf_say.specs.declared.place.Place.{Place}
use Rattle.pf_say.specs.declared.place.Place.TheVariants.{Node, Ele, Part, Size, Journal, Trace, OutNode, OutEle, OutPart, OutJournal, OutRest}
use Rattle.pf_say.specs.declared.stop.Trouble.TheVariants.{Missing}
use Rattle.pf_say.specs.declared.stop.Stop.TheVariants.{Input, Limit, Device}
use Rattle.pf_say.specs.Place.{Stems, name_of}
use Rattle.pf_cmd.specs.Input.{HeldFiles, files_in, without, is_place, file_of, bytes_in, within_limit}

pub file_of-short : (place : Place) (bytes : List ℕ) → length bytes ≤ 268435456 → file_of place (Some bytes) ≡ Ok bytes
file_of-short place bytes h = grind (arith, nat_tests)

pub file_of-long : (place : Place) (o : Option (List ℕ)) → 268435456 < length (unwrap_or o []) → file_of place o ≡ Err (Input place TooLong)
file_of-long place None h = absurd (let l : 268435456 < 0 = h in omega arith)
file_of-long place (Some bytes) h = grind (arith, nat_tests)

pub bytes_in-held : (shelf : Seen) (stems : Stems) (place : Place) (name bytes : List ℕ) → name ≡ name_of stems place → held shelf.told name ≡ Some bytes → length bytes ≤ 268435456 → bytes_in place (files_in shelf stems) ≡ Ok bytes
unfolding bytes_in
bytes_in-held shelf stems place name bytes e h within = ap (λ n. file_of place (held shelf.told n)) (sym e) ∙ ap (file_of place) h ∙ file_of-short place bytes within

pub bytes_in-missing : (shelf : Seen) (stems : Stems) (place : Place) (name : List ℕ) → name ≡ name_of stems place → held shelf.told name ≡ None → bytes_in place (files_in shelf stems) ≡ Err (Device (Missing place))
unfolding bytes_in
bytes_in-missing shelf stems place name e h = ap (λ n. file_of place (held shelf.told n)) (sym e) ∙ ap (file_of place) h

pub bytes_in-long : (shelf : Seen) (stems : Stems) (place : Place) (name : List ℕ) → name ≡ name_of stems place → 268435456 < length (unwrap_or (held shelf.told name) []) → bytes_in place (files_in shelf stems) ≡ Err (Input place TooLong)
unfolding bytes_in
bytes_in-long shelf stems place name e h = ap (λ n. file_of place (held shelf.told n)) (sym e) ∙ file_of-long place (held shelf.told name) h

-- a place is itself
pub itself : (place : Place) → is_place place place ≡ true
itself Node = refl
itself Ele = refl
itself Part = refl
itself Size = refl
itself Journal = refl
itself Trace = refl
itself OutNode = refl
itself OutEle = refl
itself OutPart = refl
itself OutJournal = refl
itself OutRest = refl

-- a file that is taken out is missing
pub bytes_in-without : (place : Place) (files : HeldFiles) → bytes_in place (without place files) ≡ Err (Device (Missing place))
unfolding bytes_in
bytes_in-without place files = ap (file_of place) (gone place files)
  where
    gone : (place : Place) (files : HeldFiles) → without place files place ≡ None
    gone place files = rw (itself place) refl

pub within_limit-small : {A : Type 0} (vertices operations : ℕ) (value : A) → vertices + operations ≤ 1048576 → within_limit vertices operations value ≡ Ok value
within_limit-small vertices operations value h = grind (arith, nat_tests)

pub within_limit-large : {A : Type 0} (vertices operations : ℕ) (value : A) → 1048576 < vertices + operations → within_limit vertices operations value ≡ Err (Limit (vertices + operations))
within_limit-large vertices operations value h = grind (arith, nat_tests)

-- what `read_all` answers is one answer

pub ok-no-fault : {T : Type 0} (x : T) → (let r : Result T ReadErr = Ok x in r ≡ Err Fault) → ⊥
ok-no-fault x e = (let k = e in cc)

pub ok-no-miss : {T : Type 0} (x : T) → (let r : Result T ReadErr = Ok x in r ≡ Err ReadMissing) → ⊥
ok-no-miss x e = (let k = e in cc)

pub missing-no-fault : {T : Type 0} → (let r : Result T ReadErr = Err ReadMissing in r ≡ Err Fault) → ⊥
missing-no-fault e = (let k = e in cc)

pub fault-no-miss : {T : Type 0} → (let r : Result T ReadErr = Err Fault in r ≡ Err ReadMissing) → ⊥
fault-no-miss e = (let k = e in cc)

pub long-no-fault : {T : Type 0} (n : ℕ) → (let r : Result T ReadErr = Err (ReadLong n) in r ≡ Err Fault) → ⊥
long-no-fault n e = (let k = e in cc)

pub long-no-miss : {T : Type 0} (n : ℕ) → (let r : Result T ReadErr = Err (ReadLong n) in r ≡ Err ReadMissing) → ⊥
long-no-miss n e = (let k = e in cc)

pub memory-no-fault : {T : Type 0} → (let r : Result T ReadErr = Err ReadMemory in r ≡ Err Fault) → ⊥
memory-no-fault e = (let k = e in cc)

pub memory-no-miss : {T : Type 0} → (let r : Result T ReadErr = Err ReadMemory in r ≡ Err ReadMissing) → ⊥
memory-no-miss e = (let k = e in cc)
