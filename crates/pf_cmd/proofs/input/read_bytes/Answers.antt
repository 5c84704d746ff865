use Rattle.std.proofs.Common.{◌≡◌, ◌≤◌, length, rules, refl, ap, Err, inl}
use Rattle.pf_shelf.specs.declared.all.ReadErr.TheVariants.{TooLong}
use Rattle.pf_say.specs.Shown.{stems_of}
use Rattle.pf_cmd.specs.Causes.{IsQuiet}
use Rattle.pf_cmd.proofs.InputLemmas.{bytes_in-held, bytes_in-missing, bytes_in-long, bytes_in-without, ok-no-fault, ok-no-miss, missing-no-fault, fault-no-miss, long-no-fault, long-no-miss, memory-no-fault, memory-no-miss}
use Rattle.pf_cmd.proofs.Reading.{not-risen, explained}
use Rattle.pf_cmd.proofs.input.read_bytes.Goals as goal

pub returns-in-Ok-clause-bytes : goal.returns-in-Ok-clause-bytes
returns-in-Ok-clause-bytes g c =
    λ tells. let within : length c.in-Ok.bytes.items ≤ 268435456 = search rules in
    bytes_in-held (g.S.Shelf.seen c.args.shelf.now) (stems_of c.args.stems) c.args.place c.deref.result.now _ (search rules) (c.in-Ok.ensures.whole tells) within

pub returns-in-Ok-clause-quiet : goal.returns-in-Ok-clause-quiet
returns-in-Ok-clause-quiet g c = record {
  read_faults = not-risen _ _ c.in-Ok.ensures.read_faults (λ l. ok-no-fault _ (c.in-Ok.ensures.always_fault l));
  misses = not-risen _ _ c.in-Ok.ensures.misses (λ l. ok-no-miss _ (c.in-Ok.ensures.always_missing l));
}

pub returns-in-Err-Missing-clause-stop : goal.returns-in-Err-Missing-clause-stop
returns-in-Err-Missing-clause-stop g c = record {
  cause = (inl refl, search rules, λ tells. bytes_in-missing (g.S.Shelf.seen c.args.shelf.now) (stems_of c.args.stems) c.args.place c.deref.result.now (search rules) (search rules));
  unread = λ l. absurd (missing-no-fault ((rw c.in-Err-Missing.field-0-is at c.in-Err-Missing.ensures).always_fault l));
  missing = λ l. refl;
}

pub returns-in-Err-Fault-clause-stop : goal.returns-in-Err-Fault-clause-stop
returns-in-Err-Fault-clause-stop g c = record {
  cause = (inl refl, search rules, λ tells. bytes_in-without c.args.place _);
  unread = λ l. refl;
  missing = λ l. absurd (fault-no-miss ((rw c.in-Err-Fault.field-0-is at c.in-Err-Fault.ensures).always_missing l));
}

pub returns-in-Err-TooLong-clause-stop : goal.returns-in-Err-TooLong-clause-stop
returns-in-Err-TooLong-clause-stop g c = record {
  cause = λ tells.
      let ens = rw c.in-Err-TooLong.field-0-is at c.in-Err-TooLong.ensures in
      let e : c.in-Err-TooLong.field-0-0 ≡ 268435456 = ens.names_limit in
      bytes_in-long (g.S.Shelf.seen c.args.shelf.now) (stems_of c.args.stems) c.args.place c.deref.result.now (search rules) (ens.longer tells (ap (λ n. Err (TooLong n)) e));
  unread = λ l. absurd (long-no-fault _ ((rw c.in-Err-TooLong.field-0-is at c.in-Err-TooLong.ensures).always_fault l));
  missing = λ l. absurd (long-no-miss _ ((rw c.in-Err-TooLong.field-0-is at c.in-Err-TooLong.ensures).always_missing l));
}

pub returns-clause-stop : goal.returns-clause-stop
returns-clause-stop g c = record {
  cause = tt;
  unread = λ l. absurd (memory-no-fault ((rw c.in-Err-Memory.field-0-is at c.in-Err-Memory.ensures).always_fault l));
  missing = λ l. absurd (memory-no-miss ((rw c.in-Err-Memory.field-0-is at c.in-Err-Memory.ensures).always_missing l));
}
