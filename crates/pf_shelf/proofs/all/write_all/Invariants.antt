use Rattle.std.proofs.Common.{◌≡◌, ◌≤◌, ◌-◌, length, take, Some}
use Rattle.pf_shelf.specs.Files.{Tells, held, ChangesOnly}
use Rattle.pf_shelf.proofs.all.write_all.Given as goal

abbrev pub invariant-loop-done : goal.invariant-loop-done
invariant-loop-done g l = record {
  within : l.done ≤ length l.bytes;
  file : Tells (g.S.Shelf.seen l.fn.shelf).told → held (g.S.Shelf.seen l.shelf).told l.name ≡ Some (take l.done l.bytes);
  others : ChangesOnly l.name (g.S.Shelf.seen l.fn.shelf).told (g.S.Shelf.seen l.shelf).told;
  read_faults : (g.S.Shelf.seen l.shelf).read_faults ≡ (g.S.Shelf.seen l.fn.shelf).read_faults;
  write_faults : (g.S.Shelf.seen l.shelf).write_faults ≡ (g.S.Shelf.seen l.fn.shelf).write_faults;
  misses : (g.S.Shelf.seen l.shelf).misses ≡ (g.S.Shelf.seen l.fn.shelf).misses;
  taken : (g.S.Shelf.seen l.shelf).taken ≡ (g.S.Shelf.seen l.fn.shelf).taken;
}

abbrev pub decreases-loop-done : goal.decreases-loop-done
decreases-loop-done g l = length l.bytes - l.done
