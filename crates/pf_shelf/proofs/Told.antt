-- What is told after two calls in a row.
use Rattle.std.proofs.Common.{◌≡◌, ℕ, ◌+◌, ◌-◌, ◌≤◌, List, [], ◌++◌, length, take, drop, Option, Some, None, refl, ap, append_assoc, sym, ◌∙◌, arith, length-drop, length-append, false}
use Rattle.std.proofs.Math.Seq.{take-add, take-append-add}
use Rattle.std.proofs.lemmas.List.{take_rest, length-take, length-take-le, take-take, take-append-le}
use Rattle.std.specs.Prelude.{unwrap_or, Result, Ok, Err, OnOk}
use Rattle.std.specs.Result.{is_err}
use Rattle.pf_shelf.specs.Sink.{extended}
use Rattle.pf_shelf.specs.Files.{Files, held, bytes_at}

-- the first i bytes, and then n of the rest, are the first i + n
pub take-next : (i n : ℕ) (bytes : List ℕ) → take i bytes ++ take n (take (length bytes - i) (drop i bytes)) ≡ take (i + n) bytes
take-next i n bytes = rw (take_rest bytes i) (sym (take-add i n bytes))

-- the next n bytes are within all of them
pub next_fits : (i n : ℕ) (bytes : List ℕ) → i ≤ length bytes → n ≤ length (take (length bytes - i) (drop i bytes)) → i + n ≤ length bytes
next_fits i n bytes before fits = omega (arith, simp (take_rest, length-drop) at fits)

extended-two : (told : Option (List ℕ)) (i n : ℕ) (bytes : List ℕ) → extended (extended told (take i bytes)) (take n (take (length bytes - i) (drop i bytes))) ≡ extended told (take (i + n) bytes)
extended-two None i n bytes = refl
extended-two (Some text) i n bytes = ap Some (append_assoc text (take i bytes) (take n (take (length bytes - i) (drop i bytes))) ∙ ap (λ t. text ++ t) (take-next i n bytes))

-- a sink that took the first i bytes, and then n of the rest, took the first i + n
pub extended-next : (told mid new : Option (List ℕ)) (i n : ℕ) (bytes : List ℕ) → mid ≡ extended told (take i bytes) → new ≡ extended mid (take n (take (length bytes - i) (drop i bytes))) → new ≡ extended told (take (i + n) bytes)
extended-next told mid new i n bytes at_i gained = gained ∙ ap (λ t. extended t (take n (take (length bytes - i) (drop i bytes)))) at_i ∙ extended-two told i n bytes

-- a file that holds the first i bytes, and gains n of the rest, holds the first i + n
pub held-next : (mid new : Option Files) (name : List ℕ) (i n : ℕ) (bytes : List ℕ) → held mid name ≡ Some (take i bytes) → held new name ≡ Some (bytes_at mid name ++ take n (take (length bytes - i) (drop i bytes))) → held new name ≡ Some (take (i + n) bytes)
held-next mid new name i n bytes at_i gained =
    gained ∙ ap Some (ap (λ o. unwrap_or o [] ++ take n (take (length bytes - i) (drop i bytes))) at_i ∙ take-next i n bytes)

-- Reading on: the bytes before `at` are kept, and n more stand behind them.

read-front : (x buf post tail : List ℕ) (at n len : ℕ) → at ≤ length x → at + n ≤ len → n ≤ length buf → take (at + n) (take len ((take at x ++ (buf ++ post)) ++ tail)) ≡ take at x ++ take n buf
read-front x buf post tail at n len before within fits =
    let front : length (take at x) ≡ at = length-take-le at x before in
    take-take (at + n) len ((take at x ++ (buf ++ post)) ++ tail) within
    ∙ take-append-le (at + n) (take at x ++ (buf ++ post)) tail (omega (arith, length-append (take at x) (buf ++ post), length-append buf post))
    ∙ ap (λ k. take (k + n) (take at x ++ (buf ++ post))) (sym front)
    ∙ take-append-add (take at x) (buf ++ post) n
    ∙ ap (λ t. take at x ++ t) (take-append-le n buf post fits)

-- the first at + n bytes of the buffer are those of the file
pub read-next : (x buf post tail bytes : List ℕ) (at n len : ℕ) → at ≤ length x → at + n ≤ len → n ≤ length buf → take at x ≡ take at bytes → take n buf ≡ take n (drop at bytes) → take (at + n) (take len ((take at x ++ (buf ++ post)) ++ tail)) ≡ take (at + n) bytes
read-next x buf post tail bytes at n len before within fits kept gained =
    read-front x buf post tail at n len before within fits ∙ ap (λ t. t ++ take n buf) kept ∙ ap (λ t. take at bytes ++ t) gained ∙ sym (take-add at n bytes)

-- the bytes that were read go on as the file does
pub reached-next : (buf bytes : List ℕ) (at n : ℕ) → at ≤ length bytes → n ≤ length buf → take n buf ≡ take n (drop at bytes) → at + n ≤ length bytes
reached-next buf bytes at n before fits same = omega (arith, simp (length-take, length-drop) at (ap length same))

-- what holds on Ok, where the answer is no error
pub on_ok : {T E : Type 0} {P : Type 0} (r : Result T E) → is_err r ≡ false → OnOk r P → P
on_ok (Ok _) no_error p = p
on_ok (Err _) no_error p = cc
